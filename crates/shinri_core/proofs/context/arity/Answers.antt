-- Straight.
use Rattle.shinri_core.proofs.Memory.Views.{arity_at}
use Rattle.shinri_core.proofs.context.arity.Goals as goal

pub returns : goal.returns
returns c = let z = c.requires in arity_at _ _ _ z.0 z.1 c.get_at.ensures.0
