-- What the entries from i on give is what all of them give.
use Rattle.shinri_core.proofs.Kit.{◌≡◌, length}
use Rattle.solver.proofs.Memory.Disequalities.{Pairing}
use Rattle.solver.proofs.disequalities.disequality_clash.Given as goal

abbrev pub invariant-loop-i : goal.invariant-loop-i
invariant-loop-i l = Pairing l.t l.e l.s l.out l.i-end l.i × (length l.out ≡ length l.initial.out)
