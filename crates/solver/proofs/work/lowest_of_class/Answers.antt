-- By the length of the table: a short one is walked, in a whole one the word stands at the root.
use Rattle.shinri_core.proofs.Kit.{arith, ◌∙◌}
use Rattle.solver.proofs.Memory.Working.{root_word}
use Rattle.solver.proofs.Memory.Blocks.{short_asked, short_word, whole_asked}
use Rattle.solver.proofs.work.lowest_of_class.Goals as goal

pub lowest_marked-requires : goal.lowest_marked-requires
lowest_marked-requires c = short_asked c.requires (omega (arith, c.if-w-lt-WORK_SIZE.true))

pub returns-then-w-lt-WORK_SIZE : goal.returns-then-w-lt-WORK_SIZE
returns-then-w-lt-WORK_SIZE c = short_word c.requires (omega (arith, c.if-w-lt-WORK_SIZE.true)) c.find-root.ensures.0 c.lowest_marked.ensures

pub root_of-root-requires : goal.root_of-root-requires
root_of-root-requires c = whole_asked c.requires (omega (arith, c.if-w-lt-WORK_SIZE.false))

pub returns : goal.returns
returns c =
    c.word_term.ensures
    ∙ root_word (whole_asked c.requires (omega (arith, c.if-w-lt-WORK_SIZE.false))) c.root_of-root.ensures.0 c.get_at.ensures.0
