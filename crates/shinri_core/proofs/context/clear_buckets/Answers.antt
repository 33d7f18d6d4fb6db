-- Each bucket is set to 0.
use Rattle.shinri_core.proofs.Memory.Declarations.{buckets_cleared}
use Rattle.shinri_core.proofs.context.clear_buckets.Goals as goal

pub returns : goal.returns
returns c = buckets_cleared _ _ c.clear_at.ensures c.requires
