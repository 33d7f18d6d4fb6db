-- The record of positive testers.
use Rattle.solver.proofs.Memory.Clashing.{positive_clash}
use Rattle.solver.proofs.clashes.tester_clash.Goals as goal

pub record_clash-requires : goal.record_clash-requires
record_clash-requires c = search positive_clash
