-- Straight.
use Rattle.shinri_core.proofs.Kit.{arith}
use Rattle.shinri_core.specs.Memory.Codes.{op_meaning, OpBelow}
use Rattle.shinri_core.proofs.Memory.Codes.{op_of_zero, op_of_pred}
use Rattle.shinri_core.proofs.term.OpFromU32.from.Goals as goal

pub returns-then-word-eq0 : goal.returns-then-word-eq0
unfolding op_meaning OpBelow
returns-then-word-eq0 c = (op_of_zero _ c.if-word-eq0.true, tt)

pub returns-else-word-eq0 : goal.returns-else-word-eq0
unfolding op_meaning OpBelow
returns-else-word-eq0 c = (op_of_pred _ c.if-word-eq0.false, omega arith)
