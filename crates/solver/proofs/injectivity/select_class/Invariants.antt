-- What is left are the applications from k - 1 on; those in other classes change nothing.
use Rattle.shinri_core.proofs.Kit.{◌≡◌, ◌+◌, ◌-◌, ◌%◌, length}
use Rattle.shinri_core.specs.Limits.{max_terms}
use Rattle.solver.specs.Memory.Work.{term_word}
use Rattle.solver.proofs.Memory.Injecting.{Along}
use Rattle.solver.proofs.injectivity.select_class.Given as goal

abbrev pub invariant-loop-next : goal.invariant-loop-next
invariant-loop-next l = Along l.p l.initial.t l.e l.initial.w l.t l.w l.known (term_word l.next) × (length l.t ≡ length l.initial.t) × (length l.w ≡ length l.initial.w)

abbrev pub decreases-loop-next : goal.decreases-loop-next
decreases-loop-next l = (max_terms + 1 - term_word l.next) % 1025
