-- Straight.
use Rattle.shinri_core.proofs.Memory.Declarations.{no_function, function_room, function_added}
use Rattle.shinri_core.proofs.context.declare_fun.Goals as goal

pub returns-then-n-eq-MAX_SYMBOLS : goal.returns-then-n-eq-MAX_SYMBOLS
returns-then-n-eq-MAX_SYMBOLS c = search no_function

pub add_symbol-requires : goal.add_symbol-requires
add_symbol-requires c = search function_room

pub returns : goal.returns
returns c = search function_added
