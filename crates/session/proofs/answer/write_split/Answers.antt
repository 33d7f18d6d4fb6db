-- Six texts, one behind the other.
use Rattle.shinri_core.proofs.Kit.{arith}
use Rattle.solver.specs.Memory.Answer.{split_of}
use Rattle.session.specs.Text.{bytes}
use Rattle.session.specs.Answer.{check_text}
use Rattle.session.proofs.Memory.Printing.{written_more}
use Rattle.session.proofs.Memory.Lengths.{split_length}
use Rattle.session.proofs.answer.write_split.Goals as goal

pub write_text-atoms-requires : goal.write_text-atoms-requires
write_text-atoms-requires c = omega (arith, split_length c.args.o.now, c.requires.1)

pub write_list-first-requires : goal.write_list-first-requires
write_list-first-requires c = (c.requires.0, omega (arith, split_length c.args.o.now, c.requires.1))

pub write_byte-guards-requires : goal.write_byte-guards-requires
write_byte-guards-requires c = omega (arith, split_length c.args.o.now, c.requires.1)

pub write_guards-second-requires : goal.write_guards-second-requires
write_guards-second-requires c = (c.requires.0, omega (arith, split_length c.args.o.now, c.requires.1))

pub write_byte-phases-requires : goal.write_byte-phases-requires
write_byte-phases-requires c = omega (arith, split_length c.args.o.now, c.requires.1)

pub write_list-requires : goal.write_list-requires
write_list-requires c = (c.requires.0, omega (arith, split_length c.args.o.now, c.requires.1))

pub returns : goal.returns
unfolding check_text split_of bytes
returns c =
    let atoms = written_more c.write_text-atoms.ensures c.write_list-first.ensures in
    let guards = written_more (written_more atoms c.write_byte-guards.ensures) c.write_guards-second.ensures in
    written_more (written_more guards c.write_byte-phases.ensures) c.write_list.ensures
