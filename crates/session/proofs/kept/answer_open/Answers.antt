-- What the fourth table keeps is read, used and put back.
use Rattle.session.specs.Memory.Kept.{close_accepted, mark_counts}
use Rattle.session.proofs.Memory.Keeping.{open_asks, open_full, open_done}
use Rattle.session.proofs.kept.answer_open.Goals as goal

pub try_line-requires : goal.try_line-requires
try_line-requires c = open_asks c.copy_from_slice.ensures.after c.requires

pub returns-in_err-n : goal.returns-in_err-n
unfolding mark_counts close_accepted
returns-in_err-n c = rw c.from_residual.ensures (open_full c.try_line.ensures (rw c.copy_from_slice.ensures.after) c.in_err-n.was)

pub keep-requires : goal.keep-requires
keep-requires c = c.requires.long

pub returns : goal.returns
unfolding mark_counts close_accepted
returns c = open_done c.try_line.ensures (rw c.copy_from_slice.ensures.after) c.in_ok-n.was c.keep.ensures
