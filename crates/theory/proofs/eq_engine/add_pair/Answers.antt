-- Its first pair, then its words.
use Rattle.theory.proofs.Memory.PairIndex.{pair_linkable, pair_added}
use Rattle.theory.proofs.eq_engine.add_pair.Goals as goal

pub link_pair-requires : goal.link_pair-requires
link_pair-requires c = search pair_linkable

pub returns : goal.returns
returns c = search pair_added
