-- The index is cut back to the pairs in force, then the new ones are added.
use Rattle.theory.proofs.Memory.PairIndex.{cuttable, pairs_addable, copied}
use Rattle.theory.proofs.eq_engine.copy_pairs.Goals as goal

pub cut_pairs-requires : goal.cut_pairs-requires
cut_pairs-requires c = search cuttable

pub add_pairs-requires : goal.add_pairs-requires
add_pairs-requires c = search pairs_addable

pub returns : goal.returns
returns c = search copied
