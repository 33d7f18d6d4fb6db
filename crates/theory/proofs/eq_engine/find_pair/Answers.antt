use Rattle.theory.proofs.Memory.PairIndex.{seek_first, seek_next, seek_less, seek_found, seek_missing}
use Rattle.theory.proofs.eq_engine.find_pair.Goals as goal

pub loop-k-init : goal.loop-k-init
loop-k-init c = search seek_first

pub returns-then-is_pair : goal.returns-then-is_pair
returns-then-is_pair c = search seek_found

pub loop-k-smaller : goal.loop-k-smaller
loop-k-smaller c = search seek_less

pub loop-k-preserved : goal.loop-k-preserved
loop-k-preserved c = search seek_next

pub returns : goal.returns
returns c = search seek_missing
