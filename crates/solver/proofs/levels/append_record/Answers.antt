-- Three stores.
use Rattle.solver.proofs.Memory.Entries.{enters}
use Rattle.solver.proofs.levels.append_record.Goals as goal

pub returns : goal.returns
returns c = search enters
