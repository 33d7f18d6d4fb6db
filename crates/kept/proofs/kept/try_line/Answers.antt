-- By the length of the output.
use Rattle.session.proofs.Memory.Keeping.{tried_direct}
use Rattle.kept.proofs.kept.try_line.Goals as goal

pub returns-then-output-ge-LONGEST_ANSWER : goal.returns-then-output-ge-LONGEST_ANSWER
returns-then-output-ge-LONGEST_ANSWER c =
    let line = c.answer_line.ensures in
    (tried_direct line.0 c.if-output-ge-LONGEST_ANSWER.true, line.1.kept)
