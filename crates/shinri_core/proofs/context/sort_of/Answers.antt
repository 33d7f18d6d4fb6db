-- By the operation.
use Rattle.shinri_core.proofs.Kit.{rules}
use Rattle.shinri_core.proofs.Memory.Codes.{symbol_below, eq_sort, symbol_sort}
use Rattle.shinri_core.proofs.context.sort_of.Goals as goal

pub result_sort-requires : goal.result_sort-requires
result_sort-requires c = (search rules, search symbol_below)

pub returns-in-Eq : goal.returns-in-Eq
returns-in-Eq c = (search eq_sort, search rules)

pub returns-in-Uninterpreted : goal.returns-in-Uninterpreted
returns-in-Uninterpreted c = (search symbol_sort, search rules)
