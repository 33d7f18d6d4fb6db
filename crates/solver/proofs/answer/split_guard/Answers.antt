-- By whether there is a guard.
use Rattle.shinri_core.proofs.Kit.{arith}
use Rattle.solver.proofs.Memory.Splits.{no_guard, a_guard}
use Rattle.solver.proofs.answer.split_guard.Goals as goal

pub returns-then-get_at-eq0 : goal.returns-then-get_at-eq0
returns-then-get_at-eq0 c = no_guard _ _ c.get_at.ensures.0 (omega arith)

pub returns : goal.returns
returns c = a_guard _ _ _ c.get_at.ensures.0 (omega arith) c.get_at-2.ensures.0
