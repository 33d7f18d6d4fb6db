-- Straight.
use Rattle.session.proofs.Memory.Running.{answered_by}
use Rattle.session.proofs.run.answer_line.Goals as goal

pub put_answer-requires : goal.put_answer-requires
put_answer-requires c = (c.step-a.ensures.printable, c.requires.1)

pub returns : goal.returns
returns c = answered_by c.step-a.ensures c.put_answer.ensures
