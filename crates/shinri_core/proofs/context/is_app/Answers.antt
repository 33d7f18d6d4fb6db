-- The operation is compared first, then the arguments.
use Rattle.shinri_core.proofs.Memory.Terms.{app_other_op, app_same}
use Rattle.shinri_core.proofs.context.is_app.Goals as goal

pub returns-then-get_at-from : goal.returns-then-get_at-from
returns-then-get_at-from c = search app_same

pub returns-else-get_at-from : goal.returns-else-get_at-from
returns-else-get_at-from c = search app_other_op
