-- Each step leaves what the walk will have found as it is.
use Rattle.shinri_core.specs.Memory.Table.{context}
use Rattle.solver.specs.Memory.Walking.{load}
use Rattle.solver.proofs.Memory.RingWalks.{Walks}
use Rattle.solver.proofs.ring.walk.Given as goal

abbrev pub invariant-loop-n : goal.invariant-loop-n
invariant-loop-n l = Walks l.t l.e l.w l.initial.r l.from l.r l.n

abbrev pub decreases-loop-n : goal.decreases-loop-n
decreases-loop-n l = load (context l.t) l.r l.n
