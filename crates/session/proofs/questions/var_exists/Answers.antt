-- Straight.
use Rattle.session.proofs.Memory.Questions.{var_named}
use Rattle.session.proofs.questions.var_exists.Goals as goal

pub returns : goal.returns
returns c = search var_named
