-- Tables that are too short are untouched; else each work table's part is cleared and the fourth table is marked.
use Rattle.shinri_core.proofs.Kit.{sym, ◌∙◌, arith}
use Rattle.session.proofs.Memory.Running.{filled_zero}
use Rattle.session.proofs.Memory.Keeping.{part_long, part_least, suffices, refused, opens}
use Rattle.session.proofs.kept.open.Goals as goal

pub returns-then-not-tables_suffice : goal.returns-then-not-tables_suffice
returns-then-not-tables_suffice c = refused _ (sym c.if-not-tables_suffice.true ∙ c.tables_suffice.ensures)

pub slice_bounds-clear_all-end : goal.slice_bounds-clear_all-end
slice_bounds-clear_all-end c = (suffices (sym c.tables_suffice.ensures ∙ c.if-not-tables_suffice.false)).core

pub slice_bounds-clear_all-end-2 : goal.slice_bounds-clear_all-end-2
slice_bounds-clear_all-end-2 c =
    let args = c.args in
    part_long args.core.now (suffices (sym c.tables_suffice.ensures ∙ c.if-not-tables_suffice.false)).core

pub slice_bounds-clear_all-end-3 : goal.slice_bounds-clear_all-end-3
slice_bounds-clear_all-end-3 c = (suffices (sym c.tables_suffice.ensures ∙ c.if-not-tables_suffice.false)).theory

pub slice_bounds-clear_all-end-4 : goal.slice_bounds-clear_all-end-4
slice_bounds-clear_all-end-4 c =
    let args = c.args in
    part_long args.theory.now (suffices (sym c.tables_suffice.ensures ∙ c.if-not-tables_suffice.false)).theory

pub slice_bounds-clear_all-end-5 : goal.slice_bounds-clear_all-end-5
slice_bounds-clear_all-end-5 c = (suffices (sym c.tables_suffice.ensures ∙ c.if-not-tables_suffice.false)).solver

pub slice_bounds-clear_all-end-6 : goal.slice_bounds-clear_all-end-6
slice_bounds-clear_all-end-6 c =
    let args = c.args in
    part_long args.solver.now (suffices (sym c.tables_suffice.ensures ∙ c.if-not-tables_suffice.false)).solver

pub clear_all-requires : goal.clear_all-requires
clear_all-requires c =
    let args = c.args in
    let long = suffices (sym c.tables_suffice.ensures ∙ c.if-not-tables_suffice.false) in
    record {
      core = part_least args.core.now long.core;
      theory = part_least args.theory.now long.theory;
      solver = part_least args.solver.now long.solver;
    }

pub bounds-kept-0 : goal.bounds-kept-0
bounds-kept-0 c =
    let long = (suffices (sym c.tables_suffice.ensures ∙ c.if-not-tables_suffice.false)).kept in
    let same = c.fill.auto.self in
    omega arith

pub returns : goal.returns
returns c =
    opens _ (sym c.tables_suffice.ensures ∙ c.if-not-tables_suffice.false) c.clear_all.ensures
    (filled_zero c.args.kept.now (c.fill.ensures.after (λ y e. e))) c.clear_all.auto.c c.clear_all.auto.e c.clear_all.auto.s
