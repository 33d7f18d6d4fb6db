-- By the first of the two kinds.
use Rattle.solver.proofs.Memory.Watching.{watched_selector, watched_function}
use Rattle.solver.proofs.exhaustiveness.is_watched.Goals as goal

pub returns-then-kind : goal.returns-then-kind
returns-then-kind c = watched_selector _ c.get_at-kind.ensures.0 c.if-kind.true

pub returns-else-kind : goal.returns-else-kind
returns-else-kind c = watched_function _ c.get_at-kind.ensures.0 c.if-kind.false
