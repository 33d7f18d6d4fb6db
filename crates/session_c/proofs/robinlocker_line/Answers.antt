-- By what was told.
use Rattle.session.proofs.Memory.Keeping.{answered_by, unanswered_by}
use Rattle.session_c.proofs.robinlocker_line.Goals as goal

pub returns-in-Ok : goal.returns-in-Ok
returns-in-Ok c = answered_by c.line.ensures c.in-Ok.is

pub returns-in-Err : goal.returns-in-Err
returns-in-Err c = unanswered_by c.line.ensures c.in-Err.is c.from.ensures
