-- The newest merge holds the number of pairs in force.
use Rattle.theory.proofs.Memory.Log.{pairs_none, pairs_newest}
use Rattle.theory.proofs.eq_engine.pairs_in_force.Goals as goal

pub returns-then-n-eq0 : goal.returns-then-n-eq0
returns-then-n-eq0 c = pairs_none _ c.get_at-n.ensures.0 c.if-n-eq0.true

pub returns : goal.returns
returns c =
    pairs_newest c.requires c.get_at-n.ensures.0 c.if-n-eq0.false
    c.get_at.ensures.0
