-- A term that is no application clashes with none, nor does one that is not the lowest of its class.
use Rattle.std.specs.Prelude.{Option, Some, None}
use Rattle.std.specs.Option.{option_eq}
use Rattle.shinri_core.proofs.Kit.{suc, ◌≡◌, sym, ap, ◌∙◌, true, not, arith, eq-eqb, false≢true}
use Rattle.shinri_core.specs.declared.ids.TermId.{TermId}
use Rattle.shinri_core.specs.contracts.ids.TermIdPartialEq.TheImpl as TermIdEq
use Rattle.solver.specs.Memory.Work.{term_word}
use Rattle.solver.proofs.Memory.ConstructorClash.{no_app, not_lowest}
use Rattle.solver.proofs.constructor_clash.clash_at.Goals as goal

other_term : (r : Option TermId) (x : TermId) → not (option_eq TermIdEq.eq-value.it r (Some x)) ≡ true → term_word r ≡ suc x.0 → ⊥
other_term None x q h = omega arith
other_term (Some y) x q h = let d : y.0 ≡ x.0 = omega arith in false≢true (sym (ap not (eq-eqb y.0 x.0 d)) ∙ q)

pub returns-then-get_at : goal.returns-then-get_at
returns-then-get_at c = no_app _ _ _ c.get_at.ensures.0 c.if-get_at.true

pub returns-then-ne : goal.returns-then-ne
returns-then-ne c =
    not_lowest c.requires c.lowest_of_class.ensures (other_term c.lowest_of_class.result _ (sym c.ne.ensures ∙ c.if-ne.true))
