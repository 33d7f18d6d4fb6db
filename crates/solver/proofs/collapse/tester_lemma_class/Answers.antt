use Rattle.shinri_core.proofs.Kit.{arith, refl, ◌<◌, ◌∙◌, ap}
use Rattle.shinri_core.specs.Limits.{max_terms}
use Rattle.solver.specs.Memory.Work.{term_word}
use Rattle.solver.proofs.Memory.Unfitting.{tester_lemma_at_onward}
use Rattle.solver.proofs.Memory.Blocks.{check_asked}
use Rattle.solver.proofs.Memory.Chains.{walk_first, walk_at, walk_next, walk_answer, walk_less, walk_done}
use Rattle.solver.proofs.Memory.TesterLemmas.{tester_others, walk_testable}
use Rattle.solver.proofs.Memory.Trying.{err_not_sat, is_sat, is_answer}
use Rattle.solver.proofs.Memory.NoRooms.{no_room}
use Rattle.solver.proofs.collapse.tester_lemma_class.Goals as goal

pub lowest_of_class-next-requires : goal.lowest_of_class-next-requires
lowest_of_class-next-requires c =
    let pre = c.requires in
    check_asked pre.under.check pre.within

pub loop-next-init : goal.loop-next-init
loop-next-init c =
    let pre = c.requires in
    (walk_first _ (tester_others _ _) pre.under.check c.lowest_of_class-next.ensures, refl, refl, refl)

pub tester_lemma_at-requires : goal.tester_lemma_at-requires
tester_lemma_at-requires c = walk_testable c.requires c.loop-next.invariant.0 (ap term_word c.in-Some.is) c.loop-next.invariant.3

pub returns-in_err-r : goal.returns-in_err-r
returns-in_err-r c =
    let walking = c.loop-next.invariant.0 in
    rw (no_room c.from_residual.result c.from_residual.ensures.0)
    (walk_answer walking (ap term_word c.in-Some.is)
    (c.in_err-r.ensures _ _ walking.trying.sound _ (walk_at walking (ap term_word c.in-Some.is)).equal) (err_not_sat refl) (tester_lemma_at_onward _))

pub returns-then-ne : goal.returns-then-ne
returns-then-ne c =
    let walking = c.loop-next.invariant.0 in
    walk_answer walking (ap term_word c.in-Some.is)
    (c.in_ok-r.ensures _ _ walking.trying.sound _ (walk_at walking (ap term_word c.in-Some.is)).equal)
    (is_answer _ c.ne.ensures c.if-ne.true) (tester_lemma_at_onward _)

pub next_of_class-next-requires : goal.next_of_class-next-requires
next_of_class-next-requires c =
    -- the application at hand is a term
    let within : c.in-Some.app.0 < max_terms = (walk_at c.loop-next.invariant.0 (ap term_word c.in-Some.is)).within in
    let l = c.requires.under.check.work.long in omega (arith, within)

pub loop-next-smaller : goal.loop-next-smaller
loop-next-smaller c =
    let pre = c.requires in
    walk_less c.loop-next.invariant.0 (ap term_word c.in-Some.is) pre.under.check.work pre.under.chain c.next_of_class-next.ensures

pub loop-next-preserved : goal.loop-next-preserved
loop-next-preserved c =
    let walking = c.loop-next.invariant.0 in
    let pre = c.requires in (
      walk_next walking (ap term_word c.in-Some.is)
          (c.in_ok-r.ensures _ _ walking.trying.sound _ (walk_at walking (ap term_word c.in-Some.is)).equal)
          pre.under.check.work pre.under.chain (is_sat _ c.ne.ensures c.if-ne.false) c.next_of_class-next.ensures,
      c.tester_lemma_at.auto.t ∙ c.loop-next.invariant.1,
      c.tester_lemma_at.auto.s ∙ c.loop-next.invariant.2,
      c.tester_lemma_at.auto.out ∙ c.loop-next.invariant.3,
    )

pub returns : goal.returns
returns c = walk_done c.loop-next.invariant.0 (ap term_word c.in_default.is)
