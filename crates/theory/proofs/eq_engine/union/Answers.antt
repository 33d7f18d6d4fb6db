-- The test of the two sizes is the definition's.
use Rattle.theory.proofs.Memory.Merging.{united_second, united_first}
use Rattle.theory.proofs.eq_engine.union.Goals as goal

pub returns-then-get_at : goal.returns-then-get_at
returns-then-get_at c = search united_second

pub returns-else-get_at : goal.returns-else-get_at
returns-else-get_at c = search united_first
