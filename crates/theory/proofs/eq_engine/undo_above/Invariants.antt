-- What is still to be dropped stays the same.
use Rattle.theory.specs.Memory.Table.{merges#}
use Rattle.theory.proofs.Memory.Undoing.{Popping}
use Rattle.theory.proofs.eq_engine.undo_above.Given as goal

abbrev pub invariant-loop-t : goal.invariant-loop-t
invariant-loop-t l = Popping l.initial.t l.t l.to

abbrev pub decreases-loop-t : goal.decreases-loop-t
decreases-loop-t l = merges# l.t
