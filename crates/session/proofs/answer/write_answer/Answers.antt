-- The LF stands behind the text.
use Rattle.shinri_core.proofs.Kit.{[], ◌∷◌, arith, length-append}
use Rattle.session.specs.Text.{LF}
use Rattle.session.specs.Answer.{answer_text}
use Rattle.session.specs.Memory.Answers.{answer_meaning}
use Rattle.session.proofs.Memory.Printing.{written_more}
use Rattle.session.proofs.answer.write_answer.Goals as goal

pub write_unended-end-requires : goal.write_unended-end-requires
write_unended-end-requires c =
    let text = answer_text (answer_meaning c.args.a c.args.o.now) in
    (c.requires.0, omega (arith, length-append text (LF ∷ []), c.requires.1))

pub write_byte-requires : goal.write_byte-requires
write_byte-requires c =
    let text = answer_text (answer_meaning c.args.a c.args.o.now) in
    omega (arith, length-append text (LF ∷ []), c.requires.1)

pub returns : goal.returns
returns c = written_more c.write_unended-end.ensures c.write_byte.ensures
