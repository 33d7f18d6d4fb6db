-- What the pass found, answered.
use Rattle.solver.proofs.Memory.Splitting.{found_asked, found_tried}
use Rattle.solver.proofs.exhaustiveness.exhaustiveness_split.Goals as goal

pub answer_found-requires : goal.answer_found-requires
answer_found-requires c =
    let z = c.requires in
    found_asked z.0 c.has_undetermined_class-found.ensures z.1

pub returns : goal.returns
returns c =
    let z = c.requires in
    found_tried _ z.0 c.has_undetermined_class-found.ensures c.answer_found.ensures
