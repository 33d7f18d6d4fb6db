-- By the two operations.
use Rattle.session.proofs.Memory.Questions.{ops_are}
use Rattle.session.proofs.questions.same_op.Goals as goal

pub returns : goal.returns
returns c = ops_are c.op.ensures c.op-2.ensures c.eq.ensures
