-- What does not fit is taken back from the copies.
use Rattle.shinri_core.proofs.Kit.{◌∙◌}
use Rattle.kept.proofs.Memory.Keeping.{restored, tried_full, tried_done}
use Rattle.kept.proofs.kept.answer_or_restore.Goals as goal

pub returns-then-is_none : goal.returns-then-is_none
returns-then-is_none c =
    let line = c.answer_line-placed.ensures in
    let save = c.save.ensures in
    let back = restored save line.1 c.restore.ensures in
    (tried_full line.0 (c.if-is_none.ensures) back, line.1.kept ∙ save.kept)

pub returns-else-is_none : goal.returns-else-is_none
returns-else-is_none c =
    let line = c.answer_line-placed.ensures in
    (tried_done line.0 (c.if-is_none.ensures), line.1.kept ∙ c.save.ensures.kept)
