-- By whether the application and the equation fit.
use Rattle.shinri_core.proofs.Kit.{refl}
use Rattle.solver.proofs.Memory.Instantiating.{coverable, over_lacks, may_equate_over, eq_lacks, guardable, guarded}
use Rattle.solver.proofs.Memory.NoRooms.{no_room}
use Rattle.solver.proofs.instantiation.instantiate.Goals as goal

pub mint_over-requires : goal.mint_over-requires
mint_over-requires c = coverable c.requires

pub mk_eq-requires : goal.mk_eq-requires
mk_eq-requires c = may_equate_over c.requires c.in_ok-app.ensures refl

pub guard-requires : goal.guard-requires
guard-requires c = guardable c.requires c.in_ok-app.ensures refl c.in_ok-y.ensures refl

pub returns-in_err-app : goal.returns-in_err-app
returns-in_err-app c =
    rw (no_room c.from_residual.result c.from_residual.ensures.0) (over_lacks c.requires c.in_err-app.ensures refl)

pub returns-in_err-y : goal.returns-in_err-y
returns-in_err-y c =
    rw (no_room c.from_residual-in_err-y.result c.from_residual-in_err-y.ensures.0)
    (eq_lacks c.requires c.in_ok-app.ensures refl c.in_err-y.ensures refl)

pub returns : goal.returns
returns c = guarded c.requires c.in_ok-app.ensures refl c.in_ok-y.ensures refl c.guard.ensures
