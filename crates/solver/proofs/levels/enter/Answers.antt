-- By the flag of the key.
use Rattle.solver.proofs.Memory.Recording.{new_entry, enters_old, enters_new}
use Rattle.solver.proofs.levels.enter.Goals as goal

pub append_record-requires : goal.append_record-requires
append_record-requires c = search new_entry

pub returns-then-get_at-eq0 : goal.returns-then-get_at-eq0
returns-then-get_at-eq0 c = search enters_new

pub returns-else-get_at-eq0 : goal.returns-else-get_at-eq0
returns-else-get_at-eq0 c = search enters_old
