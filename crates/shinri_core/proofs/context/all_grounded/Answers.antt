use Rattle.shinri_core.proofs.Memory.Rounds.{finding_first, finding_done}
use Rattle.shinri_core.proofs.context.all_grounded.Goals as goal

pub loop-init : goal.loop-init
loop-init c = finding_first _

pub returns : goal.returns
returns c = finding_done c.mark_round.ensures c.loop-test.false c.all_found.ensures
