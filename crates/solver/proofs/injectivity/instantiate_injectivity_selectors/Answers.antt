use Rattle.shinri_core.proofs.Kit.{refl, rules, arith}
use Rattle.solver.proofs.Memory.Injecting.{scan_first, scan_asked, scan_next, scan_stop, scan_done}
use Rattle.solver.proofs.Memory.NoRooms.{no_room}
use Rattle.solver.proofs.injectivity.instantiate_injectivity_selectors.Goals as goal

pub loop-p-init : goal.loop-p-init
loop-p-init c = (search scan_first, search rules, search rules)

pub select_from-requires : goal.select_from-requires
select_from-requires c = search scan_asked

pub returns-in_err-select_from : goal.returns-in_err-select_from
returns-in_err-select_from c =
    rw (no_room c.from_residual.result c.from_residual.ensures.0)
    (scan_stop c.loop-p.invariant.0 (omega arith) c.in_err-select_from.ensures refl)

pub loop-p-preserved : goal.loop-p-preserved
loop-p-preserved c = (
  scan_next c.loop-p.invariant.0 (omega arith) c.in_ok-select_from.ensures refl,
  search rules,
  search rules,
)

pub returns : goal.returns
returns c = search scan_done
