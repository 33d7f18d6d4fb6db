use Rattle.shinri_core.proofs.Kit.{rules}
use Rattle.solver.proofs.Memory.Entries.{drop_first, drop_read, drop_write, drop_next, drop_count, drop_done}
use Rattle.solver.proofs.levels.drop_records.Goals as goal

pub loop-i-init : goal.loop-i-init
loop-i-init c = search drop_first

pub get_at-key-requires : goal.get_at-key-requires
get_at-key-requires c = search drop_read

pub put_at-requires : goal.put_at-requires
put_at-requires c = (search drop_write, search rules)

pub loop-i-preserved : goal.loop-i-preserved
loop-i-preserved c = search drop_next

pub put_at-requires-2 : goal.put_at-requires-2
put_at-requires-2 c = search drop_count

pub returns : goal.returns
returns c = search drop_done
