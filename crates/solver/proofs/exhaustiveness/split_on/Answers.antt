-- By whether the testers fit.
use Rattle.solver.proofs.Memory.Splitting.{split_made, split_lacks}
use Rattle.shinri_core.proofs.Kit.{refl}
use Rattle.solver.proofs.Memory.NoRooms.{no_room}
use Rattle.solver.proofs.exhaustiveness.split_on.Goals as goal

pub returns-in_err-make_testers : goal.returns-in_err-make_testers
returns-in_err-make_testers c =
    rw (no_room c.from_residual.result c.from_residual.ensures.0) (split_lacks c.requires.0 c.requires.1 c.in_err-make_testers.ensures refl)

pub returns : goal.returns
returns c =
    let z = c.requires in
    split_made z.0 z.1 c.in_ok-make_testers.ensures refl c.put_at.ensures
