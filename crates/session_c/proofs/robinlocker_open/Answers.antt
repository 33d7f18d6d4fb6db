-- By what was told.
use Rattle.session.proofs.Memory.Keeping.{opened_by, refused_by}
use Rattle.session_c.proofs.robinlocker_open.Goals as goal

pub returns-in-Ok : goal.returns-in-Ok
returns-in-Ok c = opened_by c.open.ensures c.in-Ok.is

pub returns-in-Err : goal.returns-in-Err
returns-in-Err c = refused_by c.open.ensures c.in-Err.is c.from.ensures
