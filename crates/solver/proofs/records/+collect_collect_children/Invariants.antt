-- The cycle of collection. Children have lower numbers, so twice the term's number is a measure, and one more for the term itself.
use Rattle.shinri_core.proofs.Kit.{◌+◌, ◌*◌}
use Rattle.solver.proofs.Memory.Collecting.{Gathering}
use Rattle.solver.proofs.records.+collect_collect_children.Given as goal

abbrev pub invariant-collect_children-loop-arg : goal.invariant-collect_children-loop-arg
invariant-collect_children-loop-arg l = Gathering l.t l.x l.initial.s l.s l.arg-index

abbrev pub decreases-collect : goal.decreases-collect
decreases-collect l = l.x * 2 + 1

abbrev pub decreases-collect_children : goal.decreases-collect_children
decreases-collect_children l = l.x * 2
