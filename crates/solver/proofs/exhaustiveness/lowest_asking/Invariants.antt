-- The terms below x were passed.
use Rattle.solver.proofs.Memory.LowestAsking.{AskedSoFar}
use Rattle.solver.proofs.exhaustiveness.lowest_asking.Given as goal

abbrev pub invariant-loop-x : goal.invariant-loop-x
invariant-loop-x g l = AskedSoFar (λ x b. goal.F-post g l.asks x b) l.t l.s l.x l.unknown
