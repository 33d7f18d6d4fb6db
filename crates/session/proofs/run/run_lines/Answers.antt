use Rattle.shinri_core.proofs.Kit.{refl, ◌∙◌, arith}
use Rattle.session.proofs.Memory.Printing.{written_length}
use Rattle.session.proofs.Memory.Running.{written_within, run_first, run_next, run_full, run_complete}
use Rattle.session.proofs.run.run_lines.Goals as goal

pub loop-at-init : goal.loop-at-init
loop-at-init c = (run_first _ _ c.requires.tables, refl, refl, refl)

pub answer_line-requires : goal.answer_line-requires
answer_line-requires c =
    let inv = c.loop-at.invariant.0 in
    (inv.answerable, written_within inv.done)

pub shape_of-output-in_default : goal.shape_of-output-in_default
shape_of-output-in_default c =
    c.answer_line.auto.output ∙ written_length c.loop-at.invariant.0.done

pub returns-in_default : goal.returns-in_default
returns-in_default c =
    run_full c.loop-at.invariant.0 c.loop-at-test.true c.line_end-end.ensures c.answer_line.ensures
    c.in_default.is

pub overflow_add-answered : goal.overflow_add-answered
overflow_add-answered c =
    let fewer = c.loop-at.invariant.0.fewer in
    let within = c.loop-at-test.true in
    let short = c.requires.short in
    omega arith

pub overflow_add-at : goal.overflow_add-at
overflow_add-at c =
    let within = c.line_end-end.ensures.within in
    let short = c.requires.short in
    omega arith

pub loop-at-preserved : goal.loop-at-preserved
loop-at-preserved c =
    let inv = c.loop-at.invariant in (
      run_next inv.0 c.loop-at-test.true c.line_end-end.ensures c.answer_line.ensures (omega arith)
          c.in-Some.is,
      c.answer_line.auto.c ∙ inv.1,
      c.answer_line.auto.e ∙ inv.2,
      c.answer_line.auto.s ∙ inv.3,
    )

pub shape_of-output : goal.shape_of-output
shape_of-output c = written_length c.loop-at.invariant.0.done

pub returns : goal.returns
returns c = run_complete c.loop-at.invariant.0 c.loop-at-test.false
