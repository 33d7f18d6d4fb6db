-- The leaves of the bucket from k on are not the one looked for.
use Rattle.theory.proofs.Memory.Leaves.{Looking}
use Rattle.theory.proofs.types.has_leaf.Given as goal

abbrev pub invariant-loop-k : goal.invariant-loop-k
invariant-loop-k l = Looking l.out l.w.kind l.w.value l.h l.k

abbrev pub decreases-loop-k : goal.decreases-loop-k
decreases-loop-k l = l.k
