-- Straight.
use Rattle.solver.proofs.Memory.Splits.{atoms_counted}
use Rattle.solver.proofs.answer.atom_count.Goals as goal

pub returns : goal.returns
returns c = atoms_counted c.requires _ c.get_at.ensures.0
