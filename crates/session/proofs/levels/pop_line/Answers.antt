-- The questions in order.
use Rattle.session.proofs.Memory.Levels.{marks_read, pop_early, pop_done}
use Rattle.session.proofs.levels.pop_line.Goals as goal

pub returns-then-not-closed : goal.returns-then-not-closed
returns-then-not-closed c = search pop_early

pub pop-requires-2 : goal.pop-requires-2
pop-requires-2 c = (c.requires.records, marks_read c.level-levels.ensures.0 c.requires)

pub returns : goal.returns
returns c = search pop_done
