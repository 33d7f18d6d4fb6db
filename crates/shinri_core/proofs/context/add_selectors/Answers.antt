use Rattle.shinri_core.proofs.Memory.Declarations.{select_first, selector_room, select_next, select_done}
use Rattle.shinri_core.proofs.context.add_selectors.Goals as goal

pub loop-i-init : goal.loop-i-init
loop-i-init c = search select_first

pub add_symbol-requires : goal.add_symbol-requires
add_symbol-requires c = search selector_room

pub loop-i-preserved : goal.loop-i-preserved
loop-i-preserved c = search select_next

pub shape_of-t : goal.shape_of-t
shape_of-t c = c.loop-i.invariant.long

pub returns : goal.returns
returns c = search select_done
