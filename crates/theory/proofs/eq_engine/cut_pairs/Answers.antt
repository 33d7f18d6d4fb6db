use Rattle.shinri_core.proofs.Kit.{refl}
use Rattle.theory.proofs.Memory.PairIndex.{cutting_first, cutting_last, cutting_next, cutting_done}
use Rattle.theory.proofs.eq_engine.cut_pairs.Goals as goal

pub loop-j-init : goal.loop-j-init
loop-j-init c = search cutting_first

pub drop_pair-requires : goal.drop_pair-requires
drop_pair-requires c = search (cutting_last, refl)

pub loop-j-preserved : goal.loop-j-preserved
loop-j-preserved c = search (cutting_next, refl)

pub returns : goal.returns
returns c = search cutting_done
