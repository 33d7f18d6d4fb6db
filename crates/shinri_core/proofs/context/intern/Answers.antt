-- An old term, no room for one more or for its arguments, or a new one.
use Rattle.shinri_core.proofs.Kit.{arith}
use Rattle.shinri_core.proofs.Memory.Terms.{made_old, no_more_terms, start_fits, no_more_places, appendable, made_new, made_meant}
use Rattle.shinri_core.proofs.context.intern.Goals as goal

pub returns-in-Some : goal.returns-in-Some
returns-in-Some c = made_meant _ (made_old c.requires c.in-Some.ensures)

pub returns-then-n-eq-MAX_TERMS : goal.returns-then-n-eq-MAX_TERMS
returns-then-n-eq-MAX_TERMS c =
    made_meant _ (no_more_terms c.requires c.get_at-n.ensures.0 c.in_default.ensures c.if-n-eq-MAX_TERMS.true)

pub overflow_sub-start : goal.overflow_sub-start
overflow_sub-start c = search start_fits

pub returns-then-start-args : goal.returns-then-start-args
returns-then-start-args c =
    made_meant _ (no_more_places c.requires c.get_at-n.ensures.0 c.in_default.ensures c.get_at-start.ensures.0 (omega arith))

pub append_term-requires : goal.append_term-requires
append_term-requires c =
    appendable c.requires c.get_at-n.ensures.0 c.in_default.ensures
    c.get_at-start.ensures.0 (omega arith) (omega arith)

pub returns : goal.returns
returns c =
    made_meant _
    (made_new c.requires c.get_at-n.ensures.0 c.in_default.ensures
    c.get_at-start.ensures.0 (omega arith) (omega arith) c.append_term.ensures)
