-- The first pair of the one that was found, or one behind all.
use Rattle.theory.proofs.Memory.PairIndex.{first_none, first_found}
use Rattle.theory.proofs.eq_engine.first_of.Goals as goal

pub returns-in-Some : goal.returns-in-Some
returns-in-Some c = first_found c.requires c.in-Some.ensures c.get_at.ensures.0

pub returns-in-None : goal.returns-in-None
returns-in-None c = first_none c.requires c.get_at-in-None.ensures.0 c.in-None.ensures
