-- Straight.
use Rattle.session.proofs.Memory.Questions.{count_is}
use Rattle.session.proofs.questions.term_exists.Goals as goal

pub returns : goal.returns
returns c = search count_is
