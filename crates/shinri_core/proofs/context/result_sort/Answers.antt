-- Straight.
use Rattle.shinri_core.proofs.Memory.Views.{result_at}
use Rattle.shinri_core.proofs.context.result_sort.Goals as goal

pub returns : goal.returns
returns c = let z = c.requires in result_at _ _ _ z.0 z.1 c.get_at.ensures.0
