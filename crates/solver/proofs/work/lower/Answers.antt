-- By the word that stands there: none, a higher application, a lower one.
use Rattle.solver.proofs.Memory.Working.{lowered_first, lowered_below, lowered_not}
use Rattle.solver.proofs.work.lower.Goals as goal

pub returns-then-word-eq0 : goal.returns-then-word-eq0
returns-then-word-eq0 c =
    lowered_first c.requires c.root_of-root.ensures.0 c.get_at-word.ensures.0 c.if-word-eq0.true
    c.put_at.ensures

pub returns-then-x-word : goal.returns-then-x-word
returns-then-x-word c =
    lowered_below c.requires c.root_of-root.ensures.0 c.get_at-word.ensures.0 c.if-x-word.true
    c.put_at-then-x-word.ensures

pub returns-else-x-word : goal.returns-else-x-word
returns-else-x-word c = lowered_not c.requires c.root_of-root.ensures.0 c.get_at-word.ensures.0 c.if-word-eq0.false c.if-x-word.false
