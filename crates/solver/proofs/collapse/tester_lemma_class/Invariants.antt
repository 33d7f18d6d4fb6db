-- Along the chain, what is left of the rule on the present tables is the whole rule.
use Rattle.shinri_core.proofs.Kit.{◌≡◌, length}
use Rattle.solver.specs.Rules.{tester_lemma_at}
use Rattle.solver.specs.Memory.Collapse.{tested}
use Rattle.solver.specs.Memory.Work.{term_word}
use Rattle.solver.proofs.Memory.Chains.{Walking, chain_left}
use Rattle.solver.proofs.collapse.tester_lemma_class.Given as goal

abbrev pub invariant-loop-next : goal.invariant-loop-next
invariant-loop-next l = Walking (tester_lemma_at (tested l.x)) l.initial.t l.e l.initial.s l.w l.x.arg.0 l.t l.s (term_word l.next)
    × (length l.t ≡ length l.initial.t)
    × (length l.s ≡ length l.initial.s)
    × (length l.out ≡ length l.initial.out)

abbrev pub decreases-loop-next : goal.decreases-loop-next
decreases-loop-next l = chain_left (term_word l.next)
