-- By the term's mark and its sort.
use Rattle.solver.proofs.Memory.RingWalks.{seek_unmarked, seek_other, seek_watched}
use Rattle.solver.proofs.ring.walk_term.Goals as goal

pub returns-then-get_at-eq0 : goal.returns-then-get_at-eq0
returns-then-get_at-eq0 c = seek_unmarked c.requires.0 c.requires.1 _ c.get_at.ensures.0 c.if-get_at-eq0.true

pub returns-then-is_datatype_sort : goal.returns-then-is_datatype_sort
returns-then-is_datatype_sort c =
    seek_watched c.requires.0 c.requires.1 _ c.get_at.ensures.0 c.if-get_at-eq0.false _ _
    c.sort_of.ensures.0 c.is_datatype_sort.ensures c.if-is_datatype_sort.true
    c.walk_watched.result c.walk_watched.new.r c.walk_watched.ensures

pub returns-else-is_datatype_sort : goal.returns-else-is_datatype_sort
returns-else-is_datatype_sort c =
    seek_other c.requires.0 c.requires.1 _ c.get_at.ensures.0 c.if-get_at-eq0.false _ _
    c.sort_of.ensures.0 c.is_datatype_sort.ensures c.if-is_datatype_sort.false
