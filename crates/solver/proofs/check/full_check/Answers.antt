-- The ring is walked if no rule before it answers.
use Rattle.shinri_core.proofs.Kit.{refl}
use Rattle.solver.proofs.Memory.NoRooms.{no_room}
use Rattle.solver.proofs.Memory.Trying.{err_not_sat, is_sat, is_answer}
use Rattle.solver.proofs.Memory.Checking.{fully_stopped, fully_walked}
use Rattle.solver.proofs.check.full_check.Goals as goal

pub returns-in_err-r : goal.returns-in_err-r
returns-in_err-r c =
    rw (no_room c.from_residual.result c.from_residual.ensures.0)
    (fully_stopped c.begin.ensures (err_not_sat refl) c.in_err-r.ensures)

pub returns-then-ne : goal.returns-then-ne
returns-then-ne c = fully_stopped c.begin.ensures (is_answer _ c.ne.ensures c.if-ne.true) c.in_ok-r.ensures

pub returns : goal.returns
returns c = fully_walked c.begin.ensures (is_sat _ c.ne.ensures c.if-ne.false) c.in_ok-r.ensures c.ring.ensures
