-- On the registry's part of the table.
use Rattle.solver.proofs.Memory.Registering.{part_long}
use Rattle.solver.proofs.records.atom.Goals as goal

pub slice_bounds-atom-end : goal.slice_bounds-atom-end
slice_bounds-atom-end c = part_long c.args.s.now c.requires.0.long
