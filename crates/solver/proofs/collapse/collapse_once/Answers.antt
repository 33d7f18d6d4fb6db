-- The selector on the lowest application is what the rule makes first, so it may be made before.
use Rattle.shinri_core.proofs.Kit.{refl}
use Rattle.solver.proofs.Memory.Once.{low_may, once_none, once_selected, once_some}
use Rattle.solver.proofs.Memory.NoRooms.{no_room}
use Rattle.solver.proofs.collapse.collapse_once.Goals as goal

pub mk_app-requires : goal.mk_app-requires
mk_app-requires c = low_may c.requires

pub collapse_flagged-requires : goal.collapse_flagged-requires
collapse_flagged-requires c = once_selected c.requires c.in_ok-z.ensures refl refl

pub returns-in_err-z : goal.returns-in_err-z
returns-in_err-z c =
    rw (no_room c.from_residual.result c.from_residual.ensures.0) (once_none c.requires c.in_err-z.ensures refl)

pub returns : goal.returns
returns c = once_some c.requires c.in_ok-z.ensures refl c.collapse_flagged.ensures
