-- On a fresh work table; the marks are kept if the terms fit.
use Rattle.shinri_core.proofs.Kit.{refl, arith}
use Rattle.solver.specs.Memory.Work.{work_size}
use Rattle.solver.proofs.Memory.Beginning.{fresh}
use Rattle.solver.proofs.Memory.NoRooms.{no_room}
use Rattle.solver.proofs.Memory.Checking.{classes_kept, classes_refused}
use Rattle.solver.proofs.check.check_classes.Goals as goal

pub full_check-requires : goal.full_check-requires
full_check-requires c = record { state = c.requires.0; blank = fresh work_size (omega arith) refl; long = c.requires.1 }

pub returns-in_err-r : goal.returns-in_err-r
returns-in_err-r c =
    rw (no_room c.from_residual.result c.from_residual.ensures.0) (classes_refused c.in_err-r.ensures)

pub returns : goal.returns
returns c = classes_kept c.in_ok-r.ensures c.keep_marks.ensures
