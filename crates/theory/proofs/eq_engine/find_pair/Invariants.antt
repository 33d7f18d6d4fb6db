-- The pairs of the bucket from k on are not the one looked for.
use Rattle.theory.proofs.Memory.PairIndex.{Seeking}
use Rattle.theory.proofs.eq_engine.find_pair.Given as goal

abbrev pub invariant-loop-k : goal.invariant-loop-k
invariant-loop-k l = Seeking l.t l.p.left l.p.right l.h l.k

abbrev pub decreases-loop-k : goal.decreases-loop-k
decreases-loop-k l = l.k
