-- The arguments of a term are a part of the pool.
use Rattle.shinri_core.proofs.Memory.Views.{part_ordered, part_within, part_is}
use Rattle.shinri_core.proofs.context.children.Goals as goal

pub words_at-requires : goal.words_at-requires
words_at-requires c = (search part_ordered, search part_within)

pub returns : goal.returns
returns c = search (part_is, c.words_at.ensures)
