-- A symbol belongs to a constructor before it.
use Rattle.shinri_core.proofs.Memory.Views.{owner_at, role_at}
use Rattle.shinri_core.proofs.context.dt_role.Goals as goal

pub role_from-requires : goal.role_from-requires
role_from-requires c = search owner_at

pub returns : goal.returns
returns c = search role_at
