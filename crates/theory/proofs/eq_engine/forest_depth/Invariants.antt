-- The edges walked and those still above are together the way.
use Rattle.shinri_core.proofs.Kit.{length}
use Rattle.theory.specs.EqEngine.{way}
use Rattle.theory.specs.Memory.Table.{merges}
use Rattle.theory.proofs.Memory.Walks.{Rise}
use Rattle.theory.proofs.eq_engine.forest_depth.Given as goal

abbrev pub invariant-loop-up : goal.invariant-loop-up
invariant-loop-up l = Rise l.t l.node l.n l.d l.up

abbrev pub decreases-loop-up : goal.decreases-loop-up
decreases-loop-up l = length (way (merges l.t) l.n)
