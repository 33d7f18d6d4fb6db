use Rattle.theory.proofs.Memory.Clearing.{clear_first, clear_next, clear_done}
use Rattle.theory.proofs.eq_engine.clear.Goals as goal

pub loop-n-init : goal.loop-n-init
loop-n-init c = search clear_first

pub loop-n-preserved : goal.loop-n-preserved
loop-n-preserved c = search clear_next

pub returns : goal.returns
returns c = search clear_done
