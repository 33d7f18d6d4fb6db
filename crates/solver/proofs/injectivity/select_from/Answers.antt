-- By whether it is an application, and the lowest of its constructor in its class.
use Rattle.solver.proofs.Memory.Injecting.{from_skipped, from_covered}
use Rattle.solver.proofs.injectivity.select_from.Goals as goal
use Rattle.solver.proofs.injectivity.select_from.Goals.{then-get_at-via-then-get_at, then-get_at-via-else-get_at+then-covered}

pub returns-then-get_at : goal.returns-then-get_at
returns-then-get_at c =
    elim c.then-get_at.branch [
      | then-get_at-via-then-get_at w ↦ from_skipped c.requires c.get_at.ensures.0 w.if-get_at.true
      | then-get_at-via-else-get_at+then-covered w ↦ from_covered c.requires (w.covered.ensures w.if-covered.true)
    ]
