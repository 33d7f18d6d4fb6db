-- By what was told.
use Rattle.kept.proofs.Memory.Keeping.{answered_here, unanswered_here}
use Rattle.kept_c.proofs.robinlocker_line.Goals as goal

pub returns-in-Ok : goal.returns-in-Ok
returns-in-Ok c = answered_here c.line.ensures c.in-Ok.is

pub returns-in-Err : goal.returns-in-Err
returns-in-Err c = unanswered_here c.line.ensures c.in-Err.is c.from.ensures
