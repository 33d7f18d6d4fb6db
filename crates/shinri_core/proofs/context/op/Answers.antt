-- An operation is as declared as its term.
use Rattle.shinri_core.proofs.Memory.Views.{op_at}
use Rattle.shinri_core.proofs.context.op.Goals as goal

pub returns : goal.returns
returns c = search op_at
