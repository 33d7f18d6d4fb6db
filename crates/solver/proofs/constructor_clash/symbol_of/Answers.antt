-- By the operation.
use Rattle.solver.proofs.Memory.AppNumbers.{eq_symbol, app_symbol}
use Rattle.solver.proofs.constructor_clash.symbol_of.Goals as goal

pub returns-in-Eq : goal.returns-in-Eq
returns-in-Eq c = search eq_symbol

pub returns-in-Uninterpreted : goal.returns-in-Uninterpreted
returns-in-Uninterpreted c = search app_symbol
