-- The atom is collected.
use Rattle.solver.proofs.Memory.Collecting.{collects_var}
use Rattle.solver.proofs.records.new_var.Goals as goal

pub returns : goal.returns
returns c = search collects_var
