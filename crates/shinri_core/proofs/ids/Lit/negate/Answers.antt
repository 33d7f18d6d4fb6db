-- Straight.
use Rattle.shinri_core.proofs.Kit.{eq-eqb, ne_eqb}
use Rattle.shinri_core.proofs.ids.Lit.negate.Goals as goal

pub returns-then-self-eq0 : goal.returns-then-self-eq0
returns-then-self-eq0 c = simp (eq-eqb _ _ c.if-self-eq0.true)

pub returns-else-self-eq0 : goal.returns-else-self-eq0
returns-else-self-eq0 c = simp (ne_eqb _ _ c.if-self-eq0.false)
