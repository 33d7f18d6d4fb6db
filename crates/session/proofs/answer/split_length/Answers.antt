-- Straight.
use Rattle.shinri_core.proofs.Kit.{arith}
use Rattle.session.proofs.Memory.Lengths.{split_length}
use Rattle.session.proofs.answer.split_length.Goals as goal

pub returns : goal.returns
returns c = (omega (arith, split_length c.args.o.now), omega arith)
