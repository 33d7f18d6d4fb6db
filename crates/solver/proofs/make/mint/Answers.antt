-- A term that was made is marked; where it does not fit nothing was done.
use Rattle.shinri_core.proofs.Kit.{refl}
use Rattle.solver.proofs.Memory.Minting.{markable, minted, not_minted}
use Rattle.solver.proofs.Memory.NoRooms.{no_room}
use Rattle.solver.proofs.make.mint.Goals as goal

pub mark-requires : goal.mark-requires
mark-requires c =
    let pre = c.requires in
    markable pre.0 pre.1 c.in_ok-x.ensures refl

pub returns-in_err-x : goal.returns-in_err-x
returns-in_err-x c =
    rw (no_room c.from_residual.result c.from_residual.ensures.0) (not_minted c.requires.0 c.in_err-x.ensures refl)

pub returns : goal.returns
returns c =
    let pre = c.requires in
    minted pre.0 pre.1 c.in_ok-x.ensures refl c.mark.ensures
