use Rattle.shinri_core.proofs.Kit.{◌<◌, sym, ◌∙◌, arith, eqb-true, eqb-false}
use Rattle.solver.specs.Memory.Table.{block_terms}
use Rattle.solver.proofs.Memory.Blocks.{block_first, block_other, block_apart, block_found, block_done}
use Rattle.solver.proofs.work.lowest_in_block.Goals as goal
use Rattle.solver.proofs.work.lowest_in_block.Goals.{then-get_at+else-eq, else-get_at}

pub loop-i-init : goal.loop-i-init
loop-i-init c = search block_first

pub returns-then-eq : goal.returns-then-eq
returns-then-eq c =
    block_found c.loop-i.invariant c.requires.1 (omega arith) c.get_at.ensures.0
    c.if-get_at.true c.find.ensures.0 (eqb-true _ _ (sym c.eq.ensures ∙ c.if-eq.true))

pub loop-i-preserved : goal.loop-i-preserved
loop-i-preserved c =
    let inv = c.loop-i.invariant in
    let h : c.loop-i.i < block_terms = omega arith in
    let q = c.get_at.ensures.0 in
    elim c.if-get_at.branch [
      | then-get_at+else-eq w ↦
          block_apart inv c.requires.1 h q w.if-get_at.true w.find.ensures.0 (eqb-false _ _ (sym w.eq.ensures ∙ w.if-eq.false))
      | else-get_at w ↦ block_other inv c.requires.1 h q w.if-get_at.false
    ]

pub returns : goal.returns
returns c = search block_done
