-- The word of the newest merge holds its level.
use Rattle.shinri_core.proofs.Kit.{ℕ, ap, ◌∙◌, not, eqb}
use Rattle.theory.proofs.Memory.Undoing.{newest_none, newest_some}
use Rattle.theory.proofs.eq_engine.newest_above.Goals as goal

pub returns-then-n-ne0 : goal.returns-then-n-ne0
returns-then-n-ne0 c = search newest_some

pub returns-else-n-ne0 : goal.returns-else-n-ne0
returns-else-n-ne0 c =
    let e = c.if-n-ne0.false in
    ap (λ (n : ℕ). not (eqb n 0)) e ∙ newest_none c.args.t.now c.args.level c.get_at-n.ensures.0 e
