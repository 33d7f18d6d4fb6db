-- The selectors below i are made and marked, and their numbers are noted.
use Rattle.solver.proofs.Memory.Instantiating.{Covering}
use Rattle.solver.proofs.instantiation.mint_over.Given as goal

abbrev pub invariant-loop-i : goal.invariant-loop-i
invariant-loop-i l = Covering l.initial.t l.e l.initial.w l.a.0 l.f.0 l.n l.t l.w l.ids l.i
