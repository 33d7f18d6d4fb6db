-- By whether it is the first.
use Rattle.shinri_core.proofs.Kit.{ap, arith, length}
use Rattle.session.proofs.Memory.Printing.{written_nothing, written_as, parting_first, parting_later}
use Rattle.session.proofs.answer.write_parting.Goals as goal

pub returns-then-i-eq0 : goal.returns-then-i-eq0
returns-then-i-eq0 c = written_as (written_nothing _ _ (omega arith)) (parting_first _ (omega arith))

pub write_byte-requires : goal.write_byte-requires
write_byte-requires c = omega (arith, ap length (parting_later c.args.i (omega arith)))

pub returns-else-i-eq0 : goal.returns-else-i-eq0
returns-else-i-eq0 c = written_as c.write_byte.ensures (parting_later _ (omega arith))
