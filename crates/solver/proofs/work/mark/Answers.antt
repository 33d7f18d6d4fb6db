-- A term that is marked stays as it is. Else the mark is stored after the lowest application of the class, where that is to be lowered.
use Rattle.shinri_core.proofs.Kit.{sym, subst, ◌∙◌, inl, inr, rules, arith}
use Rattle.solver.specs.Memory.Work.{Lowered}
use Rattle.solver.proofs.Memory.Working.{Readied, readied_long, marked, marked_again}
use Rattle.solver.proofs.work.mark.Goals as goal
use Rattle.solver.proofs.work.mark.Goals.{then-kind, else-kind}

pub returns-then-get_at-ne0 : goal.returns-then-get_at-ne0
returns-then-get_at-ne0 c = marked_again c.requires (λ m. c.if-get_at-ne0.true (c.get_at.ensures.0 ∙ m))

pub put_at-requires : goal.put_at-requires
put_at-requires c =
    let ready : Readied _ _ _ _ c.if-kind.w =
    elim c.if-kind.branch [
      | then-kind w ↦ inl (w.if-kind.true, subst (Lowered _ _ _) (sym w.w-is) w.lower.ensures)
      | else-kind w ↦ inr (w.if-kind.false, w.w-is)
    ] in
    let l = readied_long c.requires ready in
    let h = c.requires.asked.is_node in
    (omega arith, search rules)

pub shape_of-w : goal.shape_of-w
shape_of-w c =
    let ready : Readied _ _ _ _ c.if-kind.w =
    elim c.if-kind.branch [
      | then-kind w ↦ inl (w.if-kind.true, subst (Lowered _ _ _) (sym w.w-is) w.lower.ensures)
      | else-kind w ↦ inr (w.if-kind.false, w.w-is)
    ] in
    c.put_at.auto.t ∙ (readied_long c.requires ready).0

pub returns : goal.returns
returns c =
    let ready : Readied _ _ _ _ c.if-kind.w =
    elim c.if-kind.branch [
      | then-kind w ↦ inl (w.if-kind.true, subst (Lowered _ _ _) (sym w.w-is) w.lower.ensures)
      | else-kind w ↦ inr (w.if-kind.false, w.w-is)
    ] in
    marked c.requires (c.mark_word-kind.ensures.0 ∙ c.term_kind.ensures) ready c.put_at.ensures
