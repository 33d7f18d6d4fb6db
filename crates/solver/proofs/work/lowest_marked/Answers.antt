use Rattle.shinri_core.proofs.Kit.{◌<◌, ap, arith}
use Rattle.solver.specs.Memory.Table.{blocks}
use Rattle.solver.specs.Memory.Work.{term_word}
use Rattle.solver.proofs.Memory.Blocks.{walked_first, walked_empty, walked_next, walked_found, walked_done}
use Rattle.solver.proofs.work.lowest_marked.Goals as goal
use Rattle.solver.proofs.work.lowest_marked.Goals.{then-get_at-ne0+in_default, else-get_at-ne0}

pub loop-b-init : goal.loop-b-init
loop-b-init c = search walked_first

pub returns-in-Some : goal.returns-in-Some
returns-in-Some c = walked_found c.loop-b.invariant (omega arith) c.in-Some.ensures (omega arith)

pub loop-b-preserved : goal.loop-b-preserved
loop-b-preserved c =
    let inv = c.loop-b.invariant in
    let h : c.loop-b.b < blocks = omega arith in
    elim c.if-get_at-ne0.branch [
      | then-get_at-ne0+in_default w ↦ walked_next inv h w.lowest_in_block.ensures (ap term_word w.in_default.is)
      | else-get_at-ne0 w ↦ walked_empty inv h c.requires.1 c.get_at.ensures.0 w.if-get_at-ne0.false
    ]

pub returns : goal.returns
returns c = search walked_done
