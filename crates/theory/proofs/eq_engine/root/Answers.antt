use Rattle.theory.proofs.Memory.Walks.{climb_first, climb_next, climb_less, climb_done}
use Rattle.theory.proofs.eq_engine.root.Goals as goal

pub loop-up-init : goal.loop-up-init
loop-up-init c = search climb_first

pub loop-up-smaller : goal.loop-up-smaller
loop-up-smaller c = search climb_less

pub loop-up-preserved : goal.loop-up-preserved
loop-up-preserved c = search climb_next

pub returns : goal.returns
returns c = climb_done c.loop-up.invariant c.loop-up-test.false
