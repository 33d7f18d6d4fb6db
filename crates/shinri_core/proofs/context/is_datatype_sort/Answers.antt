-- Straight.
use Rattle.shinri_core.proofs.Kit.{arith}
use Rattle.shinri_core.proofs.Memory.Views.{datatype_word}
use Rattle.shinri_core.proofs.context.is_datatype_sort.Goals as goal

pub returns : goal.returns
returns c = let z = c.requires in datatype_word _ _ _ (omega arith) c.get_at.ensures.0
