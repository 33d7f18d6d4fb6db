use Rattle.shinri_core.proofs.Kit.{arith}
use Rattle.session.specs.Memory.Numbers.{number_meaning}
use Rattle.session.proofs.Memory.Splitting.{found_end}
use Rattle.session.proofs.Memory.Parsing.{taken_first, taken_bad, taken_last, taken_next, taken_over}
use Rattle.session.proofs.numbers.read_numbers.Goals as goal

pub loop-n-init : goal.loop-n-init
loop-n-init c = taken_first _ _

pub returns-in_err-numbers : goal.returns-in_err-numbers
unfolding number_meaning
returns-in_err-numbers c =
    let part = found_end c.first_byte.ensures c.unwrap_or-end.ensures in
    rw c.from_residual.ensures (taken_bad c.loop-n.invariant part c.in_err-numbers.ensures)

pub returns-then-end-v : goal.returns-then-end-v
unfolding number_meaning
returns-then-end-v c =
    let part = found_end c.first_byte.ensures c.unwrap_or-end.ensures in
    taken_last c.loop-n.invariant part c.requires c.loop-n-test.true c.in_ok-numbers.ensures c.if-end-v.true

pub loop-n-preserved : goal.loop-n-preserved
unfolding number_meaning
loop-n-preserved c =
    let part = found_end c.first_byte.ensures c.unwrap_or-end.ensures in
    let more = part.within in
    taken_next c.loop-n.invariant part c.requires c.loop-n-test.true c.in_ok-numbers.ensures (omega (arith, c.if-end-v.false))

pub returns : goal.returns
returns c = taken_over c.loop-n.invariant c.requires c.loop-n-test.false
