-- Straight.
use Rattle.solver.proofs.Memory.Splits.{phases_counted}
use Rattle.solver.proofs.answer.phase_count.Goals as goal

pub returns : goal.returns
returns c = phases_counted c.requires _ c.get_at.ensures.0
