-- Straight.
use Rattle.shinri_core.proofs.Kit.{arith}
use Rattle.solver.proofs.Memory.Splits.{atom_within, atom_is}
use Rattle.solver.proofs.answer.split_atom.Goals as goal

pub get_at-requires : goal.get_at-requires
get_at-requires c =
    let z = c.requires in
    let l = z.0.long in
    let h = atom_within z.0 _ z.1 in
    omega arith

pub returns : goal.returns
returns c =
    let z = c.requires in
    atom_is z.0 _ _ z.1 c.get_at.ensures.0
