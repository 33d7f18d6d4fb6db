-- Equality is an operation.
use Rattle.shinri_core.specs.Memory.Codes.{op_meaning}
use Rattle.shinri_core.proofs.Memory.Terms.{may_equate}
use Rattle.shinri_core.proofs.context.mk_eq.Goals as goal

pub intern-requires : goal.intern-requires
intern-requires c = search may_equate

pub returns : goal.returns
unfolding op_meaning
returns c = c.intern.ensures
