-- The words below i are copied.
use Rattle.kept.proofs.Memory.Keeping.{CopyingWhole}
use Rattle.kept.proofs.kept.copy.Given as goal

abbrev pub invariant-loop-i : goal.invariant-loop-i
invariant-loop-i l = CopyingWhole l.from l.to l.i
