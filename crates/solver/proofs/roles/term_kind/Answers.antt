-- By the operation.
use Rattle.shinri_core.proofs.Kit.{rules}
use Rattle.shinri_core.proofs.Memory.Codes.{symbol_below}
use Rattle.solver.proofs.Memory.Roles.{found_equation, found_symbol}
use Rattle.solver.proofs.roles.term_kind.Goals as goal

pub symbol_kind-requires : goal.symbol_kind-requires
symbol_kind-requires c = (search rules, search symbol_below)

pub returns-in-Eq : goal.returns-in-Eq
returns-in-Eq c = search found_equation

pub returns-in-Uninterpreted : goal.returns-in-Uninterpreted
returns-in-Uninterpreted c = search found_symbol
