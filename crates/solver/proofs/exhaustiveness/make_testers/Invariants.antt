-- The testers of the constructors below `from` are made and listed.
use Rattle.shinri_core.proofs.Kit.{◌-◌, length}
use Rattle.shinri_core.specs.Memory.Table.{context}
use Rattle.solver.proofs.Memory.Splitting.{Testing}
use Rattle.solver.proofs.exhaustiveness.make_testers.Given as goal

abbrev pub invariant-loop-f : goal.invariant-loop-f
invariant-loop-f l = Testing l.initial.t l.x.0 l.initial.out l.t l.out l.from

abbrev pub decreases-loop-f : goal.decreases-loop-f
decreases-loop-f l = length (context l.initial.t).symbols - l.from
