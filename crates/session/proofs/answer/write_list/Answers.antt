use Rattle.session.proofs.Memory.Printing.{list_first, parting_fits, text_fits, list_next, list_done}
use Rattle.session.proofs.answer.write_list.Goals as goal

pub loop-i-init : goal.loop-i-init
loop-i-init g c = list_first c.requires.1

pub write_parting-next-requires : goal.write_parting-next-requires
write_parting-next-requires g c = parting_fits c.loop-i.invariant (rw c.count-i-end.ensures.0 at c.loop-i-test.true)

pub write-end-requires : goal.write-end-requires
write-end-requires g c =
    text_fits c.loop-i.invariant c.write_parting-next.ensures (rw c.count-i-end.ensures.0 at c.loop-i-test.true) c.read.ensures

pub loop-i-preserved : goal.loop-i-preserved
loop-i-preserved g c =
    list_next c.loop-i.invariant c.write_parting-next.ensures (rw c.count-i-end.ensures.0 at c.loop-i-test.true) c.read.ensures
    c.write-end.ensures

pub returns : goal.returns
returns g c = list_done c.loop-i.invariant (rw c.count-i-end.ensures.0 at c.loop-i-test.false)
