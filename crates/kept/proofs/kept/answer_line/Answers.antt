-- The answer table is a part of the fourth table; the step leaves in it what is put.
use Rattle.shinri_core.proofs.Kit.{arith}
use Rattle.kept.proofs.Memory.Keeping.{answer_back, answer_room, answered_there}
use Rattle.kept.proofs.kept.answer_line.Goals as goal

pub put_answer-requires : goal.put_answer-requires
put_answer-requires c =
    let answer = c.step-a.new.out in
    let as_long = c.step-a.auto.out in
    (rw (answer_back c.args.kept.now answer c.requires.1 as_long) c.step-a.ensures.printable, omega arith)

pub returns : goal.returns
returns c =
    let kept = c.args.kept.now in
    let answer = c.step-a.new.out in
    let as_long = c.step-a.auto.out in (
      answered_there c.step-a.ensures (answer_back kept answer c.requires.1 as_long) c.put_answer.ensures,
      answer_room kept answer c.requires.1 as_long,
    )
