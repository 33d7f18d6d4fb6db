-- Straight.
use Rattle.shinri_core.proofs.ids.Lit.new.Goals as goal

pub returns-then-positive : goal.returns-then-positive
returns-then-positive c = rw c.if-positive.true

pub returns-else-positive : goal.returns-else-positive
returns-else-positive c = rw c.if-positive.false
