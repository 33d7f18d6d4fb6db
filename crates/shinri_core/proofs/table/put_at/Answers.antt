-- Straight.
use Rattle.shinri_core.proofs.Kit.{refl}
use Rattle.shinri_core.specs.Memory.Words.{put}
use Rattle.shinri_core.proofs.table.put_at.Goals as goal

pub returns : goal.returns
unfolding put
returns c = refl
