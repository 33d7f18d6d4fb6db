-- Four stores.
use Rattle.theory.specs.Memory.Steps.{pair_linked}
use Rattle.theory.proofs.eq_engine.link_pair.Goals as goal

pub returns : goal.returns
unfolding pair_linked
returns c =
    rw (c.put_at-4.ensures, c.put_at-3.ensures, c.put_at-2.ensures, c.put_at.ensures, c.get_at-older.ensures.0, c.pair_bucket-h.ensures.0)
