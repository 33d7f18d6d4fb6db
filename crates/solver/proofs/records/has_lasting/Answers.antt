use Rattle.std.proofs.lemmas.Iterator.{cases_from_any, YieldsList-from_slice}
use Rattle.shinri_core.proofs.Kit.{◌≡◌, ◌∙◌, refl, rules, arith}
use borrow.Author.Tests.{tests}
use Rattle.solver.specs.Memory.Table.{LASTING}
use Rattle.solver.proofs.Memory.Parts.{none_set}
use Rattle.solver.proofs.records.has_lasting.Goals as goal

pub returns : goal.returns
returns c = λ q x h.
    none_set c.args.s.now LASTING _ _ _ (c.iter.ensures.rest ∙ c.words_at.ensures) (omega (arith, c.requires.1, c.term_count.ensures.1))
    (cases_from_any _ _ c.any.result (λ y. y ≡ 0 → ⊥) (λ y. y ≡ 0) c.any.ensures.ran (YieldsList-from_slice _ refl)
    (λ y p k. search (rules, tests)) (λ y p k. search (rules, tests)))
    q x (omega (arith, c.term_count.ensures.0))
