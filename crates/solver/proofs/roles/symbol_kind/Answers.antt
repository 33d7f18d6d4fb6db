-- By the role, and for a selector and a function by the test of the result sort.
use Rattle.solver.proofs.Memory.Roles.{found_ctor, found_tester, found_datatype_selector, found_selector, found_datatype_function, found_function}
use Rattle.solver.proofs.roles.symbol_kind.Goals as goal

pub returns-in-Constructor : goal.returns-in-Constructor
returns-in-Constructor c = search found_ctor

pub returns-in-Tester : goal.returns-in-Tester
returns-in-Tester c = search found_tester

pub returns-then-datatype : goal.returns-then-datatype
returns-then-datatype c = search found_datatype_selector

pub returns-else-datatype : goal.returns-else-datatype
returns-else-datatype c = search found_selector

pub returns-then-datatype-2 : goal.returns-then-datatype-2
returns-then-datatype-2 c = search found_datatype_function

pub returns-else-datatype-2 : goal.returns-else-datatype-2
returns-else-datatype-2 c = search found_function
