-- Its symbols one after the other: itself, its tester, its selectors.
use Rattle.shinri_core.proofs.Kit.{arith}
use Rattle.shinri_core.proofs.Memory.Declarations.{no_constructor, constructor_room, tester_room, selectors_room, constructor_added}
use Rattle.shinri_core.proofs.context.dt_add_constructor.Goals as goal

pub returns-then-n-fields : goal.returns-then-n-fields
returns-then-n-fields c = search no_constructor

pub add_symbol-requires : goal.add_symbol-requires
add_symbol-requires c = search constructor_room

pub add_symbol-requires-2 : goal.add_symbol-requires-2
add_symbol-requires-2 c =
    tester_room c.get_at-n.ensures.0 c.add_symbol.ensures c.requires
    (omega (arith, c.if-n-fields.false))

pub add_selectors-requires : goal.add_selectors-requires
add_selectors-requires c =
    selectors_room c.get_at-n.ensures.0 c.add_symbol.ensures c.requires
    (omega (arith, c.if-n-fields.false)) c.add_symbol-2.ensures

pub returns : goal.returns
returns c = search constructor_added
