-- The walk stays in the class; a node that is its own parent is the root.
use Rattle.theory.specs.Memory.Table.{merges}
use Rattle.theory.proofs.UnionFind.{depth}
use Rattle.theory.proofs.Memory.Walks.{Climb}
use Rattle.theory.proofs.eq_engine.root.Given as goal

abbrev pub invariant-loop-up : goal.invariant-loop-up
invariant-loop-up l = Climb l.t l.node l.n l.up

abbrev pub decreases-loop-up : goal.decreases-loop-up
decreases-loop-up l = depth (merges l.t) l.n
