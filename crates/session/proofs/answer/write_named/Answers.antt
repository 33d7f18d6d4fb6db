-- The number stands behind the name.
use Rattle.shinri_core.proofs.Kit.{arith, length-append}
use Rattle.session.specs.Text.{decimal}
use Rattle.session.proofs.Memory.Printing.{written_more}
use Rattle.session.proofs.answer.write_named.Goals as goal

pub write_text-number-requires : goal.write_text-number-requires
write_text-number-requires c = omega (arith, length-append c.args.name.now (decimal c.args.n))

pub write_decimal-requires : goal.write_decimal-requires
write_decimal-requires c = omega (arith, length-append c.args.name.now (decimal c.args.n))

pub returns : goal.returns
returns c = written_more c.write_text-number.ensures c.write_decimal.ensures
