-- The marks below x are copied.
use Rattle.solver.proofs.Memory.Checking.{Copying}
use Rattle.solver.proofs.check.keep_marks.Given as goal

abbrev pub invariant-loop-x : goal.invariant-loop-x
invariant-loop-x l = Copying l.initial.s l.w l.s l.x
