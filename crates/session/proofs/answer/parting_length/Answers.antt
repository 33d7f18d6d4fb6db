-- By whether it is the first.
use Rattle.shinri_core.proofs.Kit.{ap, arith, length}
use Rattle.session.proofs.Memory.Printing.{parting_first, parting_later}
use Rattle.session.proofs.answer.parting_length.Goals as goal

pub returns-then-i-eq0 : goal.returns-then-i-eq0
returns-then-i-eq0 c = (omega (arith, ap length (parting_first c.args.i (omega arith))), omega arith)

pub returns-else-i-eq0 : goal.returns-else-i-eq0
returns-else-i-eq0 c = (omega (arith, ap length (parting_later c.args.i (omega arith))), omega arith)
