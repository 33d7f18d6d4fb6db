-- By the kind of the literal's atom.
use Rattle.shinri_core.proofs.Kit.{◌≡◌, refl, ◌∙◌, sym, ap, not, true, false, true≢false, false≢true, rules, arith}
use Rattle.std.specs.Prelude.{Option, Some, None}
use Rattle.std.specs.Option.{option_eq}
use Rattle.theory.specs.Atom.{is_registered}
use Rattle.solver.specs.declared.layout.Kind.{Kind}
use Rattle.solver.specs.declared.layout.Kind.TheVariants.{CtorApp, SelApp, DtSelApp, TesterApp, DtFunApp}
use Rattle.solver.specs.contracts.layout.KindPartialEq.TheImpl as KindEq
use Rattle.solver.specs.Memory.Kinds.{mark_word}
use Rattle.solver.proofs.Memory.Asserting.{tester_assertable, asserted_term, asserts_other, asserts_tester}
use Rattle.solver.proofs.asserting.assert.Goals as goal

-- another kind is no tester's
other_kind : (r : Option Kind) → not (option_eq KindEq.eq-value.it r (Some TesterApp)) ≡ true → mark_word r ≡ 4 → ⊥
other_kind None e q = omega arith
other_kind (Some CtorApp) e q = omega arith
other_kind (Some SelApp) e q = omega arith
other_kind (Some DtSelApp) e q = omega arith
other_kind (Some TesterApp) e q = false≢true e
other_kind (Some DtFunApp) e q = omega arith

tester_kind : (r : Option Kind) → not (option_eq KindEq.eq-value.it r (Some TesterApp)) ≡ false → mark_word r ≡ 4
tester_kind None e = absurd (true≢false e)
tester_kind (Some CtorApp) e = absurd (true≢false e)
tester_kind (Some SelApp) e = absurd (true≢false e)
tester_kind (Some DtSelApp) e = absurd (true≢false e)
tester_kind (Some TesterApp) e = refl
tester_kind (Some DtFunApp) e = absurd (true≢false e)

pub atom-x-requires : goal.atom-x-requires
atom-x-requires c = (c.requires.sound.solver, ap (is_registered _) c.var.ensures ∙ c.requires.registered)

pub term_kind-requires : goal.term_kind-requires
term_kind-requires c = (search rules, search asserted_term)

pub returns-then-ne : goal.returns-then-ne
returns-then-ne c =
    asserts_other c.requires c.var.ensures c.atom-x.ensures.0 c.term_kind.ensures
    (other_kind _ (sym c.ne.ensures ∙ c.if-ne.true))

pub assert_tester-requires : goal.assert_tester-requires
assert_tester-requires c = tester_assertable c.requires c.term_kind.ensures (tester_kind _ (sym c.ne.ensures ∙ c.if-ne.false))

pub returns : goal.returns
returns c = search asserts_tester
