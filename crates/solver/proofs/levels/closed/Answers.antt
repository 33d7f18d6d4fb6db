-- Nothing changes unless a level above `to` is open; then its count says how many entries stay.
use Rattle.shinri_core.proofs.Kit.{rules}
use Rattle.solver.proofs.Memory.Levels.{count_within, closes, closes_none}
use Rattle.solver.proofs.levels.closed.Goals as goal

pub returns-then-m-to : goal.returns-then-m-to
returns-then-m-to c = search closes_none

pub drop_records-requires : goal.drop_records-requires
drop_records-requires c = (search rules, search (count_within, rules))

pub returns : goal.returns
returns c = search (closes, rules)
