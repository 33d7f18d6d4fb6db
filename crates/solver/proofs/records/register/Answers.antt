-- On the registry's part of the table.
use Rattle.solver.proofs.Memory.Registering.{part_long, registers}
use Rattle.solver.proofs.records.register.Goals as goal

pub slice_bounds-register-end-2 : goal.slice_bounds-register-end-2
slice_bounds-register-end-2 c = part_long c.args.s.now c.requires.sound.long

pub returns : goal.returns
returns c =
    let may = c.requires in
    registers may c.register.auto.t c.register.ensures.0 c.register.ensures.1
