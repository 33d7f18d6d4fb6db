-- The questions in order.
use Rattle.shinri_core.proofs.Kit.{ap, not}
use Rattle.std.proofs.lemmas.Result.{err_from_is_err_and}
use Rattle.session.proofs.Memory.Solving.{check_early, check_done, check_told, checked_full}
use Rattle.session.proofs.solving.check_line.Goals as goal

pub returns-then-not-closed : goal.returns-then-not-closed
returns-then-not-closed c = search check_early

pub returns-in_err-check : goal.returns-in_err-check
returns-in_err-check c =
    let (y, is, no_room) = err_from_is_err_and c.from_residual.result c.from_residual.ensures.1 in
    rw (is, no_room) (check_done (ap not c.if-not-closed.false) c.check.ensures (checked_full c.in_err-check.was))

pub returns : goal.returns
returns c = check_done (ap not c.if-not-closed.false) c.check.ensures (check_told c.in_ok-check.was c.from.ensures)
