-- One class stays as it is; for two the pairs are written, then the classes joined under them.
use Rattle.theory.proofs.Memory.Joining.{merged_one, pairs_room, joinable_pairs, merged_pairs}
use Rattle.theory.proofs.eq_engine.merge_congruence.Goals as goal

pub returns-then-are_equal : goal.returns-then-are_equal
returns-then-are_equal c = search merged_one

pub copy_pairs-requires : goal.copy_pairs-requires
copy_pairs-requires c = search pairs_room

pub join-requires : goal.join-requires
join-requires c = search (joinable_pairs, pairs_room)

pub returns : goal.returns
returns c = search merged_pairs
