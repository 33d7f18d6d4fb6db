-- The record of negative testers.
use Rattle.solver.proofs.Memory.Clashing.{lone_clash}
use Rattle.solver.proofs.clashes.negative_clash.Goals as goal

pub record_clash-requires : goal.record_clash-requires
record_clash-requires c = search lone_clash
