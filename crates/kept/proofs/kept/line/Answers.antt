-- By the length of the tables, then by the mark.
use Rattle.shinri_core.proofs.Kit.{sym, ◌∙◌}
use Rattle.session.proofs.Memory.Keeping.{part_long, suffices, not_marked, marked_open}
use Rattle.kept.proofs.Memory.Keeping.{all_long, short_kept, short_own, too_short, not_open, holding, line_called}
use Rattle.kept.proofs.kept.line.Goals as goal
use Rattle.kept.proofs.kept.line.Goals.{then-kept-lt-KEPT_WORDS-via-then-kept-lt-KEPT_WORDS, then-kept-lt-KEPT_WORDS-via-else-kept-lt-KEPT_WORDS+then-not-tables_suffice}

pub returns-then-kept-lt-KEPT_WORDS : goal.returns-then-kept-lt-KEPT_WORDS
returns-then-kept-lt-KEPT_WORDS c =
    too_short _ _ _
    (elim c.then-kept-lt-KEPT_WORDS.branch [
      | then-kept-lt-KEPT_WORDS-via-then-kept-lt-KEPT_WORDS w ↦ short_kept _ w.if-kept-lt-KEPT_WORDS.true
      | then-kept-lt-KEPT_WORDS-via-else-kept-lt-KEPT_WORDS+then-not-tables_suffice w ↦
          short_own _ (sym w.tables_suffice.ensures ∙ w.if-not-tables_suffice.true)
    ])
    c.requires

pub returns-then-kept-ne-OPEN : goal.returns-then-kept-ne-OPEN
returns-then-kept-ne-OPEN c =
    let long = all_long _ c.if-kept-lt-KEPT_WORDS.false (sym c.tables_suffice.ensures ∙ c.if-not-tables_suffice.false) in
    not_open _ _ _ long (not_marked _ c.if-kept-ne-OPEN.true) c.requires

pub slice_bounds-answer_open-end : goal.slice_bounds-answer_open-end
slice_bounds-answer_open-end c = (suffices (sym c.tables_suffice.ensures ∙ c.if-not-tables_suffice.false)).core

pub slice_bounds-answer_open-end-2 : goal.slice_bounds-answer_open-end-2
slice_bounds-answer_open-end-2 c = part_long c.args.core.now (suffices (sym c.tables_suffice.ensures ∙ c.if-not-tables_suffice.false)).core

pub slice_bounds-answer_open-end-3 : goal.slice_bounds-answer_open-end-3
slice_bounds-answer_open-end-3 c = (suffices (sym c.tables_suffice.ensures ∙ c.if-not-tables_suffice.false)).theory

pub slice_bounds-answer_open-end-4 : goal.slice_bounds-answer_open-end-4
slice_bounds-answer_open-end-4 c = part_long c.args.theory.now (suffices (sym c.tables_suffice.ensures ∙ c.if-not-tables_suffice.false)).theory

pub slice_bounds-answer_open-end-5 : goal.slice_bounds-answer_open-end-5
slice_bounds-answer_open-end-5 c = (suffices (sym c.tables_suffice.ensures ∙ c.if-not-tables_suffice.false)).solver

pub slice_bounds-answer_open-end-6 : goal.slice_bounds-answer_open-end-6
slice_bounds-answer_open-end-6 c = part_long c.args.solver.now (suffices (sym c.tables_suffice.ensures ∙ c.if-not-tables_suffice.false)).solver

pub answer_open-requires : goal.answer_open-requires
answer_open-requires c = holding _ (all_long _ c.if-kept-lt-KEPT_WORDS.false (sym c.tables_suffice.ensures ∙ c.if-not-tables_suffice.false)) (marked_open _ c.if-kept-ne-OPEN.false) c.requires

pub returns : goal.returns
returns c =
    line_called _ _ (all_long _ c.if-kept-lt-KEPT_WORDS.false (sym c.tables_suffice.ensures ∙ c.if-not-tables_suffice.false)) (marked_open _ c.if-kept-ne-OPEN.false) c.requires c.answer_open.ensures c.answer_open.auto.c
    c.answer_open.auto.e c.answer_open.auto.s c.answer_open.auto.kept c.ok_or.ensures.value
