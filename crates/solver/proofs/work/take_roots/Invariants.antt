-- At term i the words of each class are those of the applications from i on.
use Rattle.solver.proofs.Memory.Beginning.{Linking}
use Rattle.solver.proofs.work.take_roots.Given as goal

abbrev pub invariant-loop-i : goal.invariant-loop-i
invariant-loop-i l = Linking l.t l.e l.initial.w l.w l.i
