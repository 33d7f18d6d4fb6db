-- The questions in order.
use Rattle.session.proofs.Memory.Levels.{close_late, close_empty, close_done}
use Rattle.session.proofs.levels.close_line.Goals as goal

pub returns-then-closed : goal.returns-then-closed
returns-then-closed c = search close_late

pub returns-then-not-all_grounded : goal.returns-then-not-all_grounded
returns-then-not-all_grounded c = search close_empty

pub returns : goal.returns
returns c = search close_done
