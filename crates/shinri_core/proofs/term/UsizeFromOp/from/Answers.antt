-- By the operation.
use Rattle.shinri_core.proofs.Kit.{add-one}
use Rattle.shinri_core.specs.Memory.Codes.{op_code}
use Rattle.shinri_core.proofs.term.UsizeFromOp.from.Goals as goal

pub returns-in-Eq : goal.returns-in-Eq
unfolding op_code
returns-in-Eq c = rw c.in-Eq.is

pub returns-in-Uninterpreted : goal.returns-in-Uninterpreted
unfolding op_code
returns-in-Uninterpreted c = rw (c.in-Uninterpreted.is, add-one)
