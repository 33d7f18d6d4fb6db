use Rattle.shinri_core.proofs.Kit.{arith, refl, ◌<◌, ◌∙◌, length}
use Rattle.shinri_core.specs.Limits.{max_terms}
use Rattle.shinri_core.specs.Context.{tester_app}
use Rattle.shinri_core.specs.Memory.Table.{context}
use Rattle.solver.specs.Rules.{tester_lemma_at}
use Rattle.solver.proofs.Memory.Growing.{old_tester_app}
use Rattle.solver.proofs.Memory.Unfitting.{tester_lemma_at_onward}
use Rattle.solver.proofs.Memory.Chains.{list_first, list_within, list_next, list_answer, list_done, still_under}
use Rattle.solver.proofs.Memory.TesterLemmas.{tester_lemma_is}
use Rattle.solver.proofs.Memory.TestsOnce.{tests_first}
use Rattle.solver.proofs.Memory.Trying.{err_not_sat, is_sat, is_answer}
use Rattle.solver.proofs.Memory.NoRooms.{no_room}
use Rattle.solver.proofs.collapse.tester_lemma.Goals as goal

pub term_count-x-end-requires : goal.term_count-x-end-requires
term_count-x-end-requires c = c.requires.check.state.core

pub loop-x-init : goal.loop-x-init
loop-x-init c =
    (list_first tester_lemma_at tester_app c.requires.check, tests_first max_terms (omega arith), refl, refl, refl, refl)

pub tester_lemma_term-requires : goal.tester_lemma_term-requires
tester_lemma_term-requires c =
    -- the term at hand is one of the first
    let within : c.loop-x.x < length (context c.args.t.now).terms = omega (arith, c.term_count-x-end.ensures.0) in
    let listing = c.loop-x.invariant.0 in (
      still_under c.requires listing.trying.sound listing.trying.extends c.loop-x.invariant.4,
      c.loop-x.invariant.1,
      list_within tester_lemma_at tester_app listing within,
    )

pub returns-in_err-r : goal.returns-in_err-r
returns-in_err-r c =
    -- the term at hand is one of the first
    let within : c.loop-x.x < length (context c.args.t.now).terms = omega (arith, c.term_count-x-end.ensures.0) in
    rw (no_room c.from_residual.result c.from_residual.ensures.0)
    (tester_lemma_is
    (list_answer tester_lemma_at tester_app old_tester_app c.loop-x.invariant.0 c.requires.check within c.in_err-r.ensures.tried (err_not_sat refl) tester_lemma_at_onward))

pub returns-then-ne : goal.returns-then-ne
returns-then-ne c =
    -- the term at hand is one of the first
    let within : c.loop-x.x < length (context c.args.t.now).terms = omega (arith, c.term_count-x-end.ensures.0) in
    tester_lemma_is
    (list_answer tester_lemma_at tester_app old_tester_app c.loop-x.invariant.0 c.requires.check
    within c.in_ok-r.ensures.tried (is_answer _ c.ne.ensures c.if-ne.true) tester_lemma_at_onward)

pub loop-x-preserved : goal.loop-x-preserved
loop-x-preserved c =
    -- the term at hand is one of the first
    let within : c.loop-x.x < length (context c.args.t.now).terms = omega (arith, c.term_count-x-end.ensures.0) in
    let called = c.tester_lemma_term in
    let passes = is_sat _ c.ne.ensures c.if-ne.false in (
      list_next tester_lemma_at tester_app old_tester_app c.loop-x.invariant.0 c.requires.check
          within c.in_ok-r.ensures.tried passes,
      c.in_ok-r.ensures.flags passes,
      called.auto.t ∙ c.loop-x.invariant.2,
      called.auto.s ∙ c.loop-x.invariant.3,
      called.auto.out ∙ c.loop-x.invariant.4,
      called.auto.done ∙ c.loop-x.invariant.5,
    )

pub returns : goal.returns
returns c =
    let q = c.term_count-x-end.ensures.0 in
    tester_lemma_is (list_done tester_lemma_at tester_app c.loop-x.invariant.0 c.requires.check (omega arith))
