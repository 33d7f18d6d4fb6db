-- The invariant: the flags are those of the first i entries.
use Rattle.solver.proofs.Memory.Entries.{Dropping}
use Rattle.solver.proofs.levels.drop_records.Given as goal

abbrev pub invariant-loop-i : goal.invariant-loop-i
invariant-loop-i l = Dropping l.initial.s l.s l.n l.i
