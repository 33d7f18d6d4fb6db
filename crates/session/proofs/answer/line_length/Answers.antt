-- One byte more than without the LF.
use Rattle.shinri_core.proofs.Kit.{[], ◌∷◌, arith, length-append}
use Rattle.session.specs.Text.{LF}
use Rattle.session.specs.Answer.{answer_text}
use Rattle.session.specs.Memory.Answers.{answer_meaning}
use Rattle.session.proofs.answer.line_length.Goals as goal

pub returns : goal.returns
returns c =
    let text = answer_text (answer_meaning c.args.a c.args.o.now) in
    (omega (arith, length-append text (LF ∷ [])), omega arith)
