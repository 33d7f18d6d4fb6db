-- The terms from i on are taken back.
use Rattle.shinri_core.proofs.Memory.Declarations.{Dropping}
use Rattle.shinri_core.proofs.context.truncate.Given as goal

abbrev pub invariant-loop-i : goal.invariant-loop-i
invariant-loop-i l = Dropping l.initial.t l.n l.t l.i
