-- At first no pair is marked, and nothing is explained.
use Rattle.shinri_core.proofs.Kit.{refl, arith}
use Rattle.theory.proofs.Memory.Explaining.{explained}
use Rattle.theory.proofs.eq_engine.explain_with.Goals as goal

pub whole_as_slice-explain_rec : goal.whole_as_slice-explain_rec
whole_as_slice-explain_rec g c = let n = c.requires.2 in omega arith

pub returns : goal.returns
returns g c = explained g.row.N refl c.explain_rec.ensures
