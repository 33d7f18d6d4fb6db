-- Sorts (sort.rs). 01: sort 0 is Bool; `sort=d` declares a datatype, `sort=u` another sort.
use Rattle.std.specs.Prelude.{Bool, true, false}

pub data SortNode : Type 0 where
  BoolSort Datatype Uninterpreted : SortNode

unfoldable pub is_datatype : SortNode → Bool
is_datatype BoolSort = false
is_datatype Datatype = true
is_datatype Uninterpreted = false

unfoldable pub is_bool : SortNode → Bool
is_bool BoolSort = true
is_bool Datatype = false
is_bool Uninterpreted = false

unfoldable pub is_uninterpreted : SortNode → Bool
is_uninterpreted BoolSort = false
is_uninterpreted Datatype = false
is_uninterpreted Uninterpreted = true
