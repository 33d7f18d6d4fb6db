-- The walks from the watched terms that are left give what all of them give.
use Rattle.solver.proofs.Memory.RingWalks.{Watching}
use Rattle.solver.proofs.ring.constructor_graph_find_cycle.Given as goal

abbrev pub invariant-loop-i : goal.invariant-loop-i
invariant-loop-i l = Watching l.t l.e l.w l.initial.r l.r l.i
