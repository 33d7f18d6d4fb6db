-- The atom is an equation, so it has two sides.
use Rattle.shinri_core.proofs.Kit.{arith, refl}
use Rattle.session.proofs.Memory.Merging.{equated_var, equated_atom, side_count, side_nodes, sides_merged}
use Rattle.session.proofs.merging.merge_sides.Goals as goal

pub atom-requires : goal.atom-requires
atom-requires c = (c.requires.state.solver, equated_var c.requires c.var.ensures refl)

pub children-sides-requires : goal.children-sides-requires
children-sides-requires c = (c.requires.state.core, equated_atom c.requires c.var.ensures c.atom.ensures.0)

pub bounds-sides-0 : goal.bounds-sides-0
bounds-sides-0 c =
    let two = side_count c.requires c.var.ensures c.atom.ensures.0 c.children-sides.ensures in
    omega (arith, two)

pub bounds-sides-1 : goal.bounds-sides-1
bounds-sides-1 c =
    let two = side_count c.requires c.var.ensures c.atom.ensures.0 c.children-sides.ensures in
    omega (arith, two)

pub merge-requires : goal.merge-requires
merge-requires c = side_nodes c.requires c.var.ensures c.atom.ensures.0 c.children-sides.ensures

pub returns : goal.returns
returns c =
    sides_merged c.requires c.var.ensures c.atom.ensures.0 c.children-sides.ensures _ refl
    c.merge.ensures
