-- The marks, then the pass down.
use Rattle.solver.proofs.Memory.Beginning.{linkable, begins}
use Rattle.solver.proofs.work.begin.Goals as goal

pub take_roots-requires : goal.take_roots-requires
take_roots-requires c = linkable c.requires.0 c.requires.1 c.copy_marks.ensures

pub returns : goal.returns
returns c = begins c.requires.0 c.requires.1 c.copy_marks.ensures c.take_roots.ensures
