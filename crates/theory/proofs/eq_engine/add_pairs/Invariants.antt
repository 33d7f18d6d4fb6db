-- Pair after pair is added behind those of the index.
use Rattle.shinri_core.proofs.Kit.{length}
use Rattle.theory.proofs.Memory.PairIndex.{Adding}
use Rattle.theory.proofs.eq_engine.add_pairs.Given as goal

abbrev pub invariant-loop-x : goal.invariant-loop-x
invariant-loop-x l =
    Adding l.initial.t l.t l.xs l.ys (length l.yielded)
    × (goal.iterator-loop-x).can_next l.x-iterator
    × (goal.iterator-loop-x).is_finite l.x-iterator
