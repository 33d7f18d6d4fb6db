-- What is left are the selectors from i on.
use Rattle.shinri_core.proofs.Kit.{◌≡◌, length}
use Rattle.solver.proofs.Memory.Injecting.{Each}
use Rattle.solver.proofs.injectivity.select_both.Given as goal

abbrev pub invariant-loop-i : goal.invariant-loop-i
invariant-loop-i l = Each l.c l.p l.q l.known l.initial.t l.e l.initial.w l.t l.w l.n l.i × (length l.t ≡ length l.initial.t) × (length l.w ≡ length l.initial.w)
