use Rattle.theory.proofs.Memory.Walks.{near_first, near_x, near_y, x_deep, near_less, near_done}
use Rattle.theory.proofs.eq_engine.forest_nca.Goals as goal

pub loop-x-init : goal.loop-x-init
loop-x-init c = search near_first

pub loop-x-preserved-then-dx-dy : goal.loop-x-preserved-then-dx-dy
loop-x-preserved-then-dx-dy c = search near_y

pub overflow_sub-dx : goal.overflow_sub-dx
overflow_sub-dx c = search x_deep

pub loop-x-smaller : goal.loop-x-smaller
loop-x-smaller c = search near_less

pub loop-x-preserved : goal.loop-x-preserved
loop-x-preserved c = search near_x

pub returns : goal.returns
returns c = search near_done
