-- Two stores.
use Rattle.theory.specs.Memory.Answer.{linked}
use Rattle.theory.proofs.types.link_leaf.Goals as goal

pub returns : goal.returns
unfolding linked
returns c = rw (c.put_at-2.ensures, c.put_at.ensures, c.get_at-older.ensures.0, c.bucket-h.ensures.0)
