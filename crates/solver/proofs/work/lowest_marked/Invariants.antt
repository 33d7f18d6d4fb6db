-- The blocks below b were passed.
use Rattle.solver.proofs.Memory.Blocks.{Walked}
use Rattle.solver.proofs.work.lowest_marked.Given as goal

abbrev pub invariant-loop-b : goal.invariant-loop-b
invariant-loop-b l = Walked l.e l.w l.root.0 l.b
