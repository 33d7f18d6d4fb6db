use Rattle.shinri_core.proofs.Kit.{arith}
use Rattle.solver.proofs.Memory.Checking.{copying_first, copying_next, copying_same, copying_done}
use Rattle.solver.proofs.check.keep_marks.Goals as goal
use Rattle.solver.proofs.check.keep_marks.Goals.{then-get_at-kind, else-get_at-kind}

pub loop-x-init : goal.loop-x-init
loop-x-init c = search copying_first

pub loop-x-preserved : goal.loop-x-preserved
loop-x-preserved c =
    let inv = c.loop-x.invariant in
    let small = c.term_count-x-end.ensures.1 in
    let mark = c.get_at-kind.ensures.0 in
    elim c.if-get_at-kind.branch [
      | then-get_at-kind w ↦ rw w.s-is (copying_next inv (omega arith) mark w.put_mark.ensures)
      | else-get_at-kind w ↦ rw w.s-is (copying_same inv (omega arith) mark c.get_at.ensures.0 w.if-get_at-kind.false)
    ]

pub returns : goal.returns
returns c = copying_done _ c.term_count-x-end.ensures c.loop-x.invariant (omega arith)
