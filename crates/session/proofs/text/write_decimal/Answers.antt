use Rattle.shinri_core.proofs.Kit.{ap, arith, length}
use Rattle.session.proofs.Memory.Digits.{decimal_digit}
use Rattle.session.proofs.Memory.Backward.{back_first, back_within, back_next, back_done}
use Rattle.session.proofs.text.write_decimal.Goals as goal

pub write_byte-requires : goal.write_byte-requires
write_byte-requires c = let e = ap length (decimal_digit c.args.n c.if-n-lt10.true) in omega (arith, c.requires)

pub returns-then-n-lt10 : goal.returns-then-n-lt10
returns-then-n-lt10 c = rw (decimal_digit c.args.n c.if-n-lt10.true) c.write_byte.ensures

pub loop-place-init : goal.loop-place-init
loop-place-init c = back_first c.requires c.decimal_length.ensures.0

pub bounds-buf-place : goal.bounds-buf-place
bounds-buf-place c = omega (arith, back_within c.loop-place.invariant)

pub loop-place-preserved : goal.loop-place-preserved
loop-place-preserved c = back_next c.loop-place.invariant c.loop-place-test.true

pub returns : goal.returns
returns c = back_done c.loop-place.invariant c.loop-place-test.false (omega (arith, c.decimal_length.ensures.0))
