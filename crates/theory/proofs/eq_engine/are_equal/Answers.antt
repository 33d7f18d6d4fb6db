use Rattle.shinri_core.proofs.Kit.{ap₂, eqb}
use Rattle.theory.specs.EqEngine.{find, are_equal}
use Rattle.theory.proofs.eq_engine.are_equal.Goals as goal

pub returns : goal.returns
unfolding find are_equal
returns c = ap₂ eqb c.root.ensures.0 c.root-2.ensures.0
