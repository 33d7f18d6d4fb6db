use Rattle.shinri_core.proofs.Memory.Rounds.{mark_fits, round_first, round_passes, round_adds, round_done}
use Rattle.shinri_core.proofs.context.mark_round.Goals as goal
use Rattle.shinri_core.proofs.context.mark_round.Goals.{then-adds, else-adds}

pub loop-s-init : goal.loop-s-init
loop-s-init c = search round_first

pub bounds-found-result_sort : goal.bounds-found-result_sort
bounds-found-result_sort c = mark_fits c.requires.0 c.result_sort.ensures.1 c.loop-s.invariant.marks

pub loop-s-preserved : goal.loop-s-preserved
loop-s-preserved c =
    let inv = c.loop-s.invariant in
    let r = c.adds.ensures in
    elim c.if-adds.branch [
      | then-adds w ↦ rw (w.found-is, w.added-is)
          (round_adds inv r w.if-adds.true c.requires.0 w.result_sort.ensures.0 w.result_sort.ensures.1)
      | else-adds w ↦ rw (w.found-is, w.added-is) (round_passes inv r w.if-adds.false)
    ]

pub shape_of-found : goal.shape_of-found
shape_of-found c = c.loop-s.invariant.long

pub returns : goal.returns
returns c = search round_done
