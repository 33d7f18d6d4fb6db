-- By the length of the output.
use Rattle.shinri_core.proofs.Kit.{arith}
use Rattle.session.proofs.Memory.Keeping.{tried_direct}
use Rattle.session.proofs.kept.try_line.Goals as goal

pub returns : goal.returns
returns c =
    let long = c.if-output-lt-LONGEST_ANSWER.false in
    tried_direct c.answer_line.ensures (omega arith)
