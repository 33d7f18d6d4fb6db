-- At or above the level nothing changes; else the merges above it are dropped and the level is set.
use Rattle.theory.proofs.Memory.Undoing.{popped_none, popped_some}
use Rattle.theory.proofs.eq_engine.pop.Goals as goal

pub returns-then-get_at-to : goal.returns-then-get_at-to
returns-then-get_at-to c = search popped_none

pub returns : goal.returns
returns c = search popped_some
