-- By whether the sides are equal.
use Rattle.shinri_core.proofs.Kit.{ap, not}
use Rattle.theory.proofs.Memory.Leaves.{first_asks}
use Rattle.solver.proofs.Memory.Disequalities.{first_there, second_there, two_nodes, sides_differ, sides_explain, sides_joined}
use Rattle.solver.proofs.disequalities.sides_conflict.Goals as goal

pub bounds-sides-0 : goal.bounds-sides-0
bounds-sides-0 c = search first_there

pub bounds-sides-1 : goal.bounds-sides-1
bounds-sides-1 c = search second_there

pub are_equal-requires : goal.are_equal-requires
are_equal-requires c = search two_nodes

pub returns-then-not-are_equal : goal.returns-then-not-are_equal
returns-then-not-are_equal c = search sides_differ

pub push_leaf-requires : goal.push_leaf-requires
push_leaf-requires c = first_asks _ c.clear_leaves.ensures

pub explain-requires : goal.explain-requires
explain-requires c =
    sides_explain c.requires c.children-sides.ensures c.are_equal.ensures (ap not c.if-not-are_equal.false)
    c.clear_leaves.ensures c.push_leaf.ensures

pub returns : goal.returns
returns c = search sides_joined
