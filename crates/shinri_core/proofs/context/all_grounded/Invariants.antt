-- Marked are inhabited datatypes; each round but the last marks one more.
use Rattle.shinri_core.proofs.Kit.{length}
use Rattle.shinri_core.specs.Memory.Table.{unmarked}
use Rattle.shinri_core.proofs.Memory.Rounds.{Finding}
use Rattle.shinri_core.proofs.context.all_grounded.Given as goal

abbrev pub invariant-loop : goal.invariant-loop
invariant-loop l = Finding l.t l.found

abbrev pub decreases-loop : goal.decreases-loop
decreases-loop l = length (unmarked l.found)
