-- One step of the way is turned after the other, until a node is its own parent; the first node becomes a root behind the loop.
use Rattle.shinri_core.proofs.Kit.{length}
use Rattle.theory.specs.EqEngine.{way}
use Rattle.theory.specs.Memory.Table.{merges}
use Rattle.theory.proofs.Memory.Turning.{Turning}
use Rattle.theory.proofs.eq_engine.reroot_forest.Given as goal

abbrev pub invariant-loop-cur : goal.invariant-loop-cur
invariant-loop-cur l = Turning l.initial.t l.t l.node l.prev l.edge l.cur

abbrev pub decreases-loop-cur : goal.decreases-loop-cur
decreases-loop-cur l = length (way (merges l.initial.t) l.prev)
