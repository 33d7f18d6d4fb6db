-- Unequal terms, then the watched ones.
use Rattle.solver.proofs.Memory.Watching.{unequal_asked, split_asked, watched_stopped, watched_on}
use Rattle.solver.proofs.Memory.Trying.{is_sat, is_answer}
use Rattle.solver.proofs.check.check_watched.Goals as goal

pub disequality_clash-r-requires : goal.disequality_clash-r-requires
disequality_clash-r-requires c = search unequal_asked

pub returns-then-ne : goal.returns-then-ne
returns-then-ne c = watched_stopped c.requires c.disequality_clash-r.ensures (is_answer _ c.ne.ensures c.if-ne.true)

pub split_watched-requires : goal.split_watched-requires
split_watched-requires c = search split_asked

pub returns : goal.returns
returns c =
    watched_on c.requires c.disequality_clash-r.ensures (is_sat _ c.ne.ensures c.if-ne.false) c.split_watched.ensures
