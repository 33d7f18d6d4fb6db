-- The part behind `at` is the text.
use Rattle.session.proofs.Memory.Printing.{text_put}
use Rattle.session.proofs.text.write_text.Goals as goal

pub returns : goal.returns
returns c = rw c.copy_from_slice.ensures.after (text_put _ _ _ c.requires)
