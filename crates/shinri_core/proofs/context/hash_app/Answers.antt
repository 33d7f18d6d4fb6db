use Rattle.shinri_core.proofs.Memory.Index.{hash_next, hash_done}
use Rattle.shinri_core.proofs.context.hash_app.Goals as goal

pub loop-a-preserved : goal.loop-a-preserved
loop-a-preserved c = search hash_next

pub returns : goal.returns
returns c = (hash_done _ _ _ _ c.loop-a.invariant c.loop-a-test.false, c.loop-a.invariant.small)
