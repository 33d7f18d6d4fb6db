-- The buckets are cleared, then the count is set.
use Rattle.theory.proofs.Memory.Leaves.{cleared}
use Rattle.theory.proofs.types.clear_leaves.Goals as goal

pub returns : goal.returns
returns c = cleared _ _ _ c.requires c.clear_at.ensures c.put_at.ensures
