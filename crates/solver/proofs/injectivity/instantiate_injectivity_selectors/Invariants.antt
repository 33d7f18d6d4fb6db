-- What is left are the pairs whose lower number is p or higher.
use Rattle.shinri_core.proofs.Kit.{◌≡◌, length}
use Rattle.solver.proofs.Memory.Injecting.{Scan}
use Rattle.solver.proofs.injectivity.instantiate_injectivity_selectors.Given as goal

abbrev pub invariant-loop-p : goal.invariant-loop-p
invariant-loop-p l = Scan l.initial.t l.e l.initial.w l.t l.w l.p-end l.p × (length l.t ≡ length l.initial.t) × (length l.w ≡ length l.initial.w)
