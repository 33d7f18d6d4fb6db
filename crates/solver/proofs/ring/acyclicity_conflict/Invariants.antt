-- The leaves so far and those of the edges that are left are the leaves of the ring.
use Rattle.solver.proofs.Memory.RingLeaves.{Citing}
use Rattle.solver.proofs.ring.acyclicity_conflict.Given as goal

abbrev pub invariant-loop-i : goal.invariant-loop-i
invariant-loop-i l = Citing l.e l.r l.i-end l.initial.out l.start l.out l.i
