-- The leaves stand behind the name.
use Rattle.shinri_core.proofs.Kit.{arith}
use Rattle.session.specs.Text.{bytes}
use Rattle.session.specs.Answer.{check_text}
use Rattle.session.proofs.Memory.Printing.{written_more}
use Rattle.session.proofs.Memory.Lengths.{conflict_length}
use Rattle.session.proofs.answer.write_conflict.Goals as goal

pub write_text-leaves-requires : goal.write_text-leaves-requires
write_text-leaves-requires c = omega (arith, conflict_length c.args.o.now, c.requires.1)

pub write_list-requires : goal.write_list-requires
write_list-requires c = (c.requires.0, omega (arith, conflict_length c.args.o.now, c.requires.1))

pub returns : goal.returns
unfolding check_text bytes
returns c = written_more c.write_text-leaves.ensures c.write_list.ensures
