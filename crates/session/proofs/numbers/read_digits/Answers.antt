use Rattle.shinri_core.proofs.Kit.{refl, arith}
use Rattle.session.specs.Memory.Numbers.{number_meaning}
use Rattle.session.proofs.Memory.Parsing.{ascii_digit, other_ascii, digits_first, digits_next, digits_other, digits_over, digits_all}
use Rattle.session.proofs.numbers.read_digits.Goals as goal

pub loop-d-init : goal.loop-d-init
loop-d-init c = digits_first _

pub returns-then-not-is_ascii_digit : goal.returns-then-not-is_ascii_digit
unfolding number_meaning
returns-then-not-is_ascii_digit c =
    digits_other c.loop-d.invariant c.loop-d-test.true (other_ascii _ c.if-not-is_ascii_digit.ensures.cases)

pub returns-then-n : goal.returns-then-n
unfolding number_meaning
returns-then-n c =
    digits_over c.loop-d.invariant c.loop-d-test.true (ascii_digit _ c.if-not-is_ascii_digit.ensures.cases) (omega (arith, c.if-n.true))

pub loop-d-preserved : goal.loop-d-preserved
loop-d-preserved c =
    let one = ascii_digit _ c.if-not-is_ascii_digit.ensures.cases in
    digits_next c.loop-d.invariant c.loop-d-test.true one _ refl (omega (arith, c.if-n.false))

pub returns : goal.returns
unfolding number_meaning
returns c = digits_all c.loop-d.invariant c.loop-d-test.false
