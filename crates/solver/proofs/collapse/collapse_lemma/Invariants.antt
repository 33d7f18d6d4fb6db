-- Ascending over the terms, what is left of the rule on the present tables is the whole rule; the flags are right.
use Rattle.shinri_core.proofs.Kit.{◌≡◌, length}
use Rattle.shinri_core.specs.Limits.{max_terms}
use Rattle.shinri_core.specs.Context.{sel_app}
use Rattle.solver.specs.Rules.{collapse_at}
use Rattle.solver.specs.Memory.Collapse.{DoneSound}
use Rattle.solver.proofs.Memory.Chains.{Listing}
use Rattle.solver.proofs.collapse.collapse_lemma.Given as goal

abbrev pub invariant-loop-x : goal.invariant-loop-x
invariant-loop-x l = Listing collapse_at sel_app l.initial.t l.e l.initial.s l.w l.t l.s l.x
    × DoneSound l.t l.e l.s l.w l.done
    × (length l.t ≡ length l.initial.t)
    × (length l.s ≡ length l.initial.s)
    × (length l.out ≡ length l.initial.out)
    × (length l.done ≡ max_terms)
