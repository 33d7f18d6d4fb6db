-- By the length of the tables, then by the mark.
use Rattle.shinri_core.proofs.Kit.{sym, ◌∙◌, arith}
use Rattle.session.proofs.Memory.Keeping.{part_long, suffices, too_short, not_open, call_short, call_closed, not_marked, marked_open, holding, line_called}
use Rattle.session.proofs.kept.line.Goals as goal

pub returns-then-not-tables_suffice : goal.returns-then-not-tables_suffice
returns-then-not-tables_suffice c = too_short _ _ (call_short _ _ _ (sym c.if-not-tables_suffice.true ∙ c.tables_suffice.ensures)) c.requires

pub bounds-kept-0 : goal.bounds-kept-0
bounds-kept-0 c =
    let long = (suffices (sym c.tables_suffice.ensures ∙ c.if-not-tables_suffice.false)).kept in
    omega arith

pub returns-then-kept-ne-OPEN : goal.returns-then-kept-ne-OPEN
returns-then-kept-ne-OPEN c =
    let long = sym c.tables_suffice.ensures ∙ c.if-not-tables_suffice.false in
    not_open _ _ (call_closed _ _ _ long (not_marked _ c.if-kept-ne-OPEN.true))
    c.requires

pub slice_bounds-answer_open-end : goal.slice_bounds-answer_open-end
slice_bounds-answer_open-end c = (suffices (sym c.tables_suffice.ensures ∙ c.if-not-tables_suffice.false)).core

pub slice_bounds-answer_open-end-2 : goal.slice_bounds-answer_open-end-2
slice_bounds-answer_open-end-2 c =
    let args = c.args in
    part_long args.core.now (suffices (sym c.tables_suffice.ensures ∙ c.if-not-tables_suffice.false)).core

pub slice_bounds-answer_open-end-3 : goal.slice_bounds-answer_open-end-3
slice_bounds-answer_open-end-3 c = (suffices (sym c.tables_suffice.ensures ∙ c.if-not-tables_suffice.false)).theory

pub slice_bounds-answer_open-end-4 : goal.slice_bounds-answer_open-end-4
slice_bounds-answer_open-end-4 c =
    let args = c.args in
    part_long args.theory.now (suffices (sym c.tables_suffice.ensures ∙ c.if-not-tables_suffice.false)).theory

pub slice_bounds-answer_open-end-5 : goal.slice_bounds-answer_open-end-5
slice_bounds-answer_open-end-5 c = (suffices (sym c.tables_suffice.ensures ∙ c.if-not-tables_suffice.false)).solver

pub slice_bounds-answer_open-end-6 : goal.slice_bounds-answer_open-end-6
slice_bounds-answer_open-end-6 c =
    let args = c.args in
    part_long args.solver.now (suffices (sym c.tables_suffice.ensures ∙ c.if-not-tables_suffice.false)).solver

pub answer_open-requires : goal.answer_open-requires
answer_open-requires c =
    let long = sym c.tables_suffice.ensures ∙ c.if-not-tables_suffice.false in
    holding _ long (marked_open _ c.if-kept-ne-OPEN.false) c.requires

pub returns : goal.returns
returns c =
    let long = sym c.tables_suffice.ensures ∙ c.if-not-tables_suffice.false in
    line_called _ _ long (marked_open _ c.if-kept-ne-OPEN.false) c.requires c.answer_open.ensures c.answer_open.auto.c
    c.answer_open.auto.e c.answer_open.auto.s c.answer_open.auto.kept c.ok_or.ensures.value
