-- Straight.
use Rattle.solver.specs.Memory.Work.{linked}
use Rattle.solver.proofs.work.link.Goals as goal

pub returns : goal.returns
unfolding linked
returns c = rw (c.put_at-2.ensures, c.put_at.ensures, c.get_at.ensures.0)
