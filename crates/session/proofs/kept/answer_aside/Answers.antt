-- What holds of the copies holds of the tables, which are the same.
use Rattle.shinri_core.proofs.Kit.{ap, sym, ◌∙◌, arith, length}
use Rattle.session.proofs.Memory.Keeping.{aside_asks, aside_full, aside_done}
use Rattle.session.proofs.kept.answer_aside.Goals as goal

pub answer_line-requires : goal.answer_line-requires
answer_line-requires c = (aside_asks c.copy_from_slice.ensures.after c.copy_from_slice-2.ensures.after c.copy_from_slice-3.ensures.after c.requires.0, omega arith)

pub returns-in_err-n : goal.returns-in_err-n
returns-in_err-n c =
    rw c.from_residual.ensures
    (aside_full c.answer_line.ensures (rw (c.copy_from_slice.ensures.after, c.copy_from_slice-2.ensures.after, c.copy_from_slice-3.ensures.after))
    c.in_err-n.was)

pub copy_from_slice-requires-4 : goal.copy_from_slice-requires-4
copy_from_slice-requires-4 c = sym (c.answer_line.auto.c ∙ ap length c.copy_from_slice.ensures.after)

pub copy_from_slice-requires-5 : goal.copy_from_slice-requires-5
copy_from_slice-requires-5 c = sym (c.answer_line.auto.e ∙ ap length c.copy_from_slice-2.ensures.after)

pub copy_from_slice-requires-6 : goal.copy_from_slice-requires-6
copy_from_slice-requires-6 c = sym (c.answer_line.auto.s ∙ ap length c.copy_from_slice-3.ensures.after)

pub returns : goal.returns
returns c =
    aside_done c.answer_line.ensures (rw (c.copy_from_slice.ensures.after, c.copy_from_slice-2.ensures.after, c.copy_from_slice-3.ensures.after))
    c.in_ok-n.was c.copy_from_slice-4.ensures.after c.copy_from_slice-5.ensures.after c.copy_from_slice-6.ensures.after
