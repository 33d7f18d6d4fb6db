-- By the operation.
use Rattle.session.proofs.Memory.Questions.{op_is_eq}
use Rattle.session.proofs.questions.is_equation.Goals as goal

pub returns : goal.returns
returns c = op_is_eq c.op.ensures c.eq.ensures
