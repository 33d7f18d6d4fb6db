-- Along the class from p on, none passed has another constructor.
use Rattle.shinri_core.proofs.Kit.{◌+◌, ◌-◌, ◌%◌}
use Rattle.shinri_core.specs.Limits.{max_terms}
use Rattle.solver.specs.Memory.Work.{term_word}
use Rattle.solver.proofs.Memory.ConstructorClash.{Walking}
use Rattle.solver.proofs.constructor_clash.other_constructor.Given as goal

abbrev pub invariant-loop-next : goal.invariant-loop-next
invariant-loop-next l = Walking l.t l.e l.w l.p l.f (term_word l.next)

abbrev pub decreases-loop-next : goal.decreases-loop-next
decreases-loop-next l = (max_terms + 1 - term_word l.next) % 1025
