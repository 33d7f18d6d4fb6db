use Rattle.theory.proofs.Memory.Walks.{rise_first, rise_next, rise_less, rise_depth}
use Rattle.theory.proofs.eq_engine.forest_depth.Goals as goal

pub loop-up-init : goal.loop-up-init
loop-up-init c = search rise_first

pub loop-up-smaller : goal.loop-up-smaller
loop-up-smaller c = search rise_less

pub loop-up-preserved : goal.loop-up-preserved
loop-up-preserved c = search rise_next

pub returns : goal.returns
returns c = search rise_depth
