-- By the length of the answer line.
use Rattle.shinri_core.proofs.Kit.{refl, arith}
use Rattle.session.proofs.run.put_answer.Goals as goal

pub overflow_sub-output : goal.overflow_sub-output
overflow_sub-output c = c.requires.1

pub returns-then-line_length-output : goal.returns-then-line_length-output
returns-then-line_length-output c =
    let within = c.requires.1 in
    let length_is = c.line_length.ensures.0 in
    let few = c.line_length.ensures.1 in
    ((refl, omega arith), omega arith)

pub write_answer-requires : goal.write_answer-requires
write_answer-requires c =
    let pre = c.requires in
    let within = pre.1 in
    let length_is = c.line_length.ensures.0 in
    (pre.0, omega arith)

pub returns : goal.returns
returns c =
    let length_is = c.line_length.ensures.0 in
    let few = c.line_length.ensures.1 in
    (c.write_answer.ensures, omega arith)
