-- The edges passed are those behind the ring's entry.
use Rattle.solver.proofs.Memory.RingLeaves.{Seeks}
use Rattle.solver.proofs.ring.ring_start.Given as goal

abbrev pub invariant-loop-k : goal.invariant-loop-k
invariant-loop-k l = Seeks l.r l.n l.app l.k
