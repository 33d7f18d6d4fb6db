-- The class of its argument, by a work table that is whole or short.
use Rattle.shinri_core.proofs.Kit.{rules}
use Rattle.solver.proofs.Memory.Clashing.{term_within, term_arg, class_asked, found_equal, disagree_asked, conflict_by_class}
use Rattle.solver.proofs.clashes.tester_conflict.Goals as goal

pub children-requires : goal.children-requires
children-requires c = (search rules, search term_within)

pub bounds-children-0 : goal.bounds-children-0
bounds-children-0 c = search term_arg

pub ctor_of_class-found-requires : goal.ctor_of_class-found-requires
ctor_of_class-found-requires c = search class_asked

pub disagrees-requires : goal.disagrees-requires
disagrees-requires c =
    let z = c.requires.asked in
    disagree_asked z c.children.ensures (found_equal z.term.core c.ctor_of_class-found.ensures)

pub returns : goal.returns
returns c =
    conflict_by_class c.requires c.children.ensures c.tester_ctor-c.ensures c.ctor_of_class-found.ensures
    c.disagrees.ensures
