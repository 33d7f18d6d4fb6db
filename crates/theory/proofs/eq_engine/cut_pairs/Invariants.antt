-- The newest pair leaves the index, as long as there are more than n.
use Rattle.theory.proofs.Memory.PairIndex.{Cutting}
use Rattle.theory.proofs.eq_engine.cut_pairs.Given as goal

abbrev pub invariant-loop-j : goal.invariant-loop-j
invariant-loop-j l = Cutting l.initial.t l.t l.n l.j
