use Rattle.solver.proofs.Memory.Registering.{wiped}
use Rattle.solver.proofs.records.wipe.Goals as goal

pub returns : goal.returns
returns c = wiped c.requires c.clear_at.ensures
