-- What the pass found, answered.
use Rattle.solver.proofs.Memory.Watching.{watched_asked, watched_found}
use Rattle.solver.proofs.exhaustiveness.split_watched.Goals as goal

pub answer_found-requires : goal.answer_found-requires
answer_found-requires c = watched_asked c.requires c.has_watched_term-found.ensures

pub returns : goal.returns
returns c = watched_found _ c.has_watched_term-found.ensures c.answer_found.ensures
