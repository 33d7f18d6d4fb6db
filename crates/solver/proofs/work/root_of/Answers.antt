-- The table has the root where it was asked before.
use Rattle.solver.proofs.Memory.Working.{root_known}
use Rattle.solver.proofs.work.root_of.Goals as goal

pub returns : goal.returns
returns c = root_known c.requires c.get_at-word.ensures.0 c.if-word-eq0.false
