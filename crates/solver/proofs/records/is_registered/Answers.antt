-- On the registry's part of the table.
use Rattle.solver.proofs.Memory.Registering.{part_long}
use Rattle.solver.proofs.records.is_registered.Goals as goal

pub slice_bounds-is_registered-end : goal.slice_bounds-is_registered-end
slice_bounds-is_registered-end c = part_long c.args.s.now c.requires.long
