use Rattle.std.proofs.lemmas.Iterator.{cases_from_any, YieldsList-from_slice}
use Rattle.shinri_core.proofs.Kit.{◌≡◌, ◌∙◌, refl, rules, arith}
use borrow.Author.Tests.{tests}
use Rattle.solver.specs.Memory.Table.{BLOCK, blocks}
use Rattle.solver.proofs.Memory.Parts.{none_set}
use Rattle.solver.proofs.records.has_app.Goals as goal

pub returns : goal.returns
returns c = λ q x h.
    none_set c.args.s.now BLOCK blocks _ _ (c.iter.ensures.rest ∙ c.words_at.ensures) (omega (arith, c.requires))
    (cases_from_any _ _ c.any.result (λ y. y ≡ 0 → ⊥) (λ y. y ≡ 0) c.any.ensures.ran (YieldsList-from_slice _ refl)
    (λ y p k. search (rules, tests)) (λ y p k. search (rules, tests)))
    q x h
