use Rattle.shinri_core.proofs.Kit.{arith}
use Rattle.session.proofs.Memory.Lengths.{count_first, count_next, count_done, count_few, count_small}
use Rattle.session.proofs.answer.list_length.Goals as goal

pub loop-i-init : goal.loop-i-init
loop-i-init g c = count_first

pub overflow_add-sum-in-loop-i : goal.overflow_add-sum-in-loop-i
overflow_add-sum-in-loop-i g c =
    let (count, most, bound) = c.count-i-end.ensures in
    let (length, longest, short) = c.len.ensures in
    let few = count_small c.loop-i.invariant (omega (arith, short)) (omega (arith, c.loop-i-test.true, most, bound)) in
    omega (arith, few, longest, short, c.parting_length.ensures.1)

pub loop-i-preserved : goal.loop-i-preserved
loop-i-preserved g c =
    let (length, longest, short) = c.len.ensures in
    count_next c.loop-i.invariant (rw c.count-i-end.ensures.0 at c.loop-i-test.true) c.read.ensures c.parting_length.ensures.0 length
    (omega (arith, longest, c.parting_length.ensures.1))

pub returns : goal.returns
returns g c =
    let (count, most, bound) = c.count-i-end.ensures in (
      count_done c.loop-i.invariant (rw count at c.loop-i-test.false),
      count_few c.loop-i.invariant (omega (arith, c.loop-i.auto.i-end, most)),
    )
