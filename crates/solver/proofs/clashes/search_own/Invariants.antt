-- No term below i passes.
use Rattle.shinri_core.proofs.Memory.Searching.{Searched}
use Rattle.solver.specs.Memory.Testing.{own_at}
use Rattle.solver.proofs.clashes.search_own.Given as goal

abbrev pub invariant-loop-i : goal.invariant-loop-i
invariant-loop-i l = Searched (own_at l.t l.e l.w l.c.0 l.root.0) 0 l.i l.i-end
