-- The questions in order.
use Rattle.shinri_core.proofs.Kit.{arith}
use Rattle.session.proofs.Memory.Levels.{marks_read, push_early, push_full, push_done}
use Rattle.session.proofs.levels.push_line.Goals as goal

pub returns-then-not-closed : goal.returns-then-not-closed
returns-then-not-closed c = search push_early

pub returns-then-levels-eq-MAX_LEVELS : goal.returns-then-levels-eq-MAX_LEVELS
returns-then-levels-eq-MAX_LEVELS c = search push_full

pub push-requires-2 : goal.push-requires-2
push-requires-2 c = (c.requires.records.solver, marks_read c.level-levels.ensures.0 c.requires, omega arith)

pub returns : goal.returns
returns c = search push_done
