-- What the entries from i on give is what all of them give.
use Rattle.shinri_core.proofs.Kit.{◌≡◌, length}
use Rattle.solver.proofs.Memory.Clashing.{Clashing}
use Rattle.solver.proofs.clashes.record_clash.Given as goal

abbrev pub invariant-loop-i : goal.invariant-loop-i
invariant-loop-i l = Clashing l.positive l.t l.e l.s l.w l.out l.i-end l.i × (length l.out ≡ length l.initial.out)
