-- The heads are cleared, then the count is set.
use Rattle.theory.proofs.Memory.PairIndex.{no_pairs}
use Rattle.theory.proofs.eq_engine.clear_pairs.Goals as goal

pub returns : goal.returns
returns c = no_pairs _ _ _ c.requires c.clear_at.ensures c.put_at.ensures
