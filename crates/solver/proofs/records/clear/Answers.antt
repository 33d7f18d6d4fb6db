-- The count and the flags, then the registry's part.
use Rattle.shinri_core.proofs.Kit.{arith}
use Rattle.solver.proofs.Memory.Registering.{wiped_part, clears}
use Rattle.solver.proofs.records.clear.Goals as goal

pub slice_bounds-clear-end-2 : goal.slice_bounds-clear-end-2
slice_bounds-clear-end-2 c = wiped_part c.requires c.wipe.ensures

pub clear-requires : goal.clear-requires
clear-requires c =
    let h = wiped_part c.requires c.wipe.ensures in
    omega arith

pub returns : goal.returns
returns c =
    clears _ _ _ c.requires c.wipe.ensures c.clear.auto.t c.clear.ensures.0
    c.clear.ensures.1
