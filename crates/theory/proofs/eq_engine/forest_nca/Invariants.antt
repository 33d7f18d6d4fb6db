-- The deeper of the two nodes is not the common one, so it goes up and the common node stays.
use Rattle.shinri_core.proofs.Kit.{◌+◌}
use Rattle.theory.proofs.Memory.Walks.{Nearing}
use Rattle.theory.proofs.eq_engine.forest_nca.Given as goal

abbrev pub invariant-loop-x : goal.invariant-loop-x
invariant-loop-x l = Nearing l.t l.a l.b l.x l.y l.dx l.dy

abbrev pub decreases-loop-x : goal.decreases-loop-x
decreases-loop-x l = l.dx + l.dy
