-- By the mark, the symbol and the root.
use Rattle.shinri_core.proofs.Kit.{sym, ◌∙◌, eqb-true, eqb-false}
use Rattle.solver.proofs.Memory.Owning.{own_unmarked, own_other, own_root}
use Rattle.solver.proofs.clashes.is_own.Goals as goal
use Rattle.solver.proofs.clashes.is_own.Goals.{then-get_at, else-get_at}

pub returns-then-symbol_of-c : goal.returns-then-symbol_of-c
returns-then-symbol_of-c c =
    let k = c.if-symbol_of-c.true in
    elim c.if-get_at.branch [
      | then-get_at w ↦
          c.eq.ensures
          ∙ own_root _ _ _ _ _ _ c.get_at.ensures.0 w.if-get_at.true w.symbol_of.ensures (eqb-true _ _ (sym w.value-is ∙ k)) c.find.ensures.0
      | else-get_at w ↦ absurd (w.if-get_at.false (eqb-true _ _ (sym w.value-is ∙ k)))
    ]

pub returns-else-symbol_of-c : goal.returns-else-symbol_of-c
returns-else-symbol_of-c c =
    let k = c.if-symbol_of-c.false in
    elim c.if-get_at.branch [
      | then-get_at w ↦
          k ∙ own_other _ _ _ _ _ _ c.get_at.ensures.0 w.if-get_at.true w.symbol_of.ensures (eqb-false _ _ (sym w.value-is ∙ k))
      | else-get_at w ↦ k ∙ own_unmarked _ _ _ _ _ _ c.get_at.ensures.0 w.if-get_at.false
    ]
