-- By the sign of the entry's key.
use Rattle.solver.proofs.Memory.Clashing.{entry_passed, entry_asked, entry_term, entry_small}
use Rattle.solver.proofs.clashes.entry_conflict.Goals as goal

pub returns-then-not-of_sign : goal.returns-then-not-of_sign
returns-then-not-of_sign c = search entry_passed

pub overflow_cast-x : goal.overflow_cast-x
overflow_cast-x c = search entry_small

pub tester_conflict-requires : goal.tester_conflict-requires
tester_conflict-requires c = search entry_term

pub returns : goal.returns
returns c = search entry_asked
