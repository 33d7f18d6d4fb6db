-- A declared symbol is an operation.
use Rattle.shinri_core.specs.Memory.Codes.{op_meaning}
use Rattle.shinri_core.proofs.Memory.Terms.{may_apply}
use Rattle.shinri_core.proofs.context.mk_app.Goals as goal

pub intern-requires : goal.intern-requires
intern-requires c = search may_apply

pub returns : goal.returns
unfolding op_meaning
returns c = c.intern.ensures
