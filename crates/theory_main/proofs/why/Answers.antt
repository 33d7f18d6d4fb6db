-- The first leaf may be any, whatever merges are in force.
use Rattle.std.proofs.Common.{rules}
use Rattle.theory.proofs.Memory.Leaves.{first_asks, first_sound}
use Rattle.theory_main.proofs.why.Goals as goal

pub push_leaf-requires : goal.push_leaf-requires
push_leaf-requires c = first_asks _ c.clear_leaves.ensures

pub explain-requires : goal.explain-requires
explain-requires c =
    let answer = first_sound _ c.clear_leaves.ensures c.push_leaf.ensures in
    record { sound = search rules; first = search rules; second = search rules; equal = search rules; answer = answer }
