-- The index and the counts are cleared, then one node after the other is alone.
use Rattle.theory.proofs.Memory.Clearing.{Clearing}
use Rattle.theory.proofs.eq_engine.clear.Given as goal

abbrev pub invariant-loop-n : goal.invariant-loop-n
invariant-loop-n l = Clearing l.initial.t l.t l.n
