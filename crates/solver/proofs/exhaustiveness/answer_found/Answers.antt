-- By what was found.
use Rattle.solver.proofs.Memory.Splitting.{found_splittable, found_split, found_unknown, found_nothing}
use Rattle.solver.proofs.exhaustiveness.answer_found.Goals as goal

pub split_on-requires : goal.split_on-requires
split_on-requires c =
    let z = c.requires in
    (found_splittable z c.in-Split.is, z.solver)

pub returns-in-Split : goal.returns-in-Split
returns-in-Split c = found_split _ c.in-Split.is c.split_on.ensures

pub returns-in-Unknown : goal.returns-in-Unknown
returns-in-Unknown c = found_unknown _ _ _ c.in-Unknown.is

pub returns-in-Nothing : goal.returns-in-Nothing
returns-in-Nothing c = found_nothing _ _ _ c.in-Nothing.is
