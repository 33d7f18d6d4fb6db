-- The sorts below s are ready.
use Rattle.shinri_core.proofs.Memory.Searching.{Searched}
use Rattle.shinri_core.proofs.Memory.Constructors.{Unready}
use Rattle.shinri_core.proofs.context.all_found.Given as goal

abbrev pub invariant-loop-s : goal.invariant-loop-s
invariant-loop-s l = Searched (Unready l.t l.found) 0 l.s l.s-end
