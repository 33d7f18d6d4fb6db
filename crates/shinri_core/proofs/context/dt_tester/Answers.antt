-- Straight.
use Rattle.shinri_core.proofs.Kit.{refl}
use Rattle.shinri_core.specs.Context.{dt_tester}
use Rattle.shinri_core.proofs.context.dt_tester.Goals as goal

pub returns : goal.returns
unfolding dt_tester
returns c = refl
