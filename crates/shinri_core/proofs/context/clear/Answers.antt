-- Of an empty table nothing but the counts, Bool, the first offset and the buckets is read.
use Rattle.shinri_core.proofs.Memory.Declarations.{cleared}
use Rattle.shinri_core.proofs.context.clear.Goals as goal

pub returns : goal.returns
returns c =
    cleared c.clear_buckets.ensures c.put_at.ensures c.put_at-2.ensures c.put_at-3.ensures
    c.put_at-4.ensures c.put_at-5.ensures
