-- Straight.
use Rattle.shinri_core.proofs.Kit.{arith}
use Rattle.session.proofs.Memory.Lengths.{conflict_length}
use Rattle.session.proofs.answer.conflict_length.Goals as goal

pub returns : goal.returns
returns c = (omega (arith, conflict_length c.args.o.now), omega arith)
