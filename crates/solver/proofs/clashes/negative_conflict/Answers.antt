-- The lowest application of its own constructor in the class of its argument.
use Rattle.shinri_core.proofs.Kit.{rules}
use Rattle.solver.proofs.Memory.Clashing.{term_within, term_arg, class_asked, disagree_asked, conflict_by_own}
use Rattle.solver.proofs.Memory.Owning.{own_equal, own_meant}
use Rattle.solver.proofs.clashes.negative_conflict.Goals as goal

pub children-requires : goal.children-requires
children-requires c = (search rules, search term_within)

pub bounds-children-0 : goal.bounds-children-0
bounds-children-0 c = search term_arg

pub own_app-found-requires : goal.own_app-found-requires
own_app-found-requires c = search class_asked

pub disagrees-requires : goal.disagrees-requires
disagrees-requires c =
    let z = c.requires in
    let q = c.children.ensures in
    disagree_asked z q (own_equal (class_asked z q) c.own_app-found.ensures)

pub returns : goal.returns
returns c =
    let z = c.requires in
    let q = c.children.ensures in
    conflict_by_own z q c.tester_ctor-c.ensures (own_meant (class_asked z q) c.own_app-found.ensures)
    c.disagrees.ensures
