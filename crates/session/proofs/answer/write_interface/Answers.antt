-- Four texts, one behind the other.
use Rattle.shinri_core.proofs.Kit.{arith}
use Rattle.session.specs.Text.{bytes}
use Rattle.session.specs.Answer.{leaf_text}
use Rattle.session.proofs.Memory.Lengths.{interface_length}
use Rattle.session.proofs.Memory.Printing.{written_more}
use Rattle.session.proofs.answer.write_interface.Goals as goal

pub write_byte-first-requires : goal.write_byte-first-requires
write_byte-first-requires c = omega (arith, interface_length c.args.j.theory c.args.j.tag)

pub write_decimal-dot-requires : goal.write_decimal-dot-requires
write_decimal-dot-requires c = omega (arith, interface_length c.args.j.theory c.args.j.tag)

pub write_byte-second-requires : goal.write_byte-second-requires
write_byte-second-requires c = omega (arith, interface_length c.args.j.theory c.args.j.tag, c.requires)

pub write_decimal-requires : goal.write_decimal-requires
write_decimal-requires c = omega (arith, interface_length c.args.j.theory c.args.j.tag, c.requires)

pub returns : goal.returns
unfolding leaf_text bytes
returns c =
    let before = written_more c.write_byte-first.ensures c.write_decimal-dot.ensures in
    written_more (written_more before c.write_byte-second.ensures) c.write_decimal.ensures
