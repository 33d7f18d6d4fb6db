use Rattle.shinri_core.proofs.Kit.{rules}
use Rattle.theory.proofs.Memory.Undoing.{popping_first, some_above, popping_less, popping_next, popping_done}
use Rattle.theory.proofs.eq_engine.undo_above.Goals as goal

pub loop-t-init : goal.loop-t-init
loop-t-init c = search popping_first

pub undo-requires : goal.undo-requires
undo-requires c = (search rules, search some_above)

pub loop-t-smaller : goal.loop-t-smaller
loop-t-smaller c = search popping_less

pub loop-t-preserved : goal.loop-t-preserved
loop-t-preserved c = search popping_next

pub returns : goal.returns
returns c = search popping_done
