-- By whether the tester fits.
use Rattle.shinri_core.proofs.Kit.{rules, refl}
use Rattle.solver.proofs.Memory.Splitting.{ctor_declared, ctor_small, may_test, tester_made, tester_lacks}
use Rattle.solver.proofs.Memory.NoRooms.{no_room}
use Rattle.solver.proofs.exhaustiveness.make_tester.Goals as goal

pub phase-p-requires : goal.phase-p-requires
phase-p-requires c = (search rules, search ctor_declared)

pub dt_tester-requires : goal.dt_tester-requires
dt_tester-requires c = search ctor_small

pub mk_app-requires : goal.mk_app-requires
mk_app-requires c = may_test c.requires _ c.dt_tester.ensures

pub returns-in_err-y : goal.returns-in_err-y
returns-in_err-y c =
    rw (no_room c.from_residual.result c.from_residual.ensures.0) (tester_lacks c.requires _ c.dt_tester.ensures c.in_err-y.ensures refl)

pub returns : goal.returns
returns c =
    tester_made c.requires _ c.dt_tester.ensures c.in_ok-y.ensures refl c.phase-p.ensures c.push_tester.ensures
