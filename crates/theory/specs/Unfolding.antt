-- The definitions of this crate, for proofs by computation: `unfolding theory_definitions` opens them all.
use Rattle.theory.specs.Types.{same_leaf}
use Rattle.theory.specs.EqEngine.{singletons, under, child, root, union, classes, find, are_equal, merge, pop_merges, pairs_of, pairs_in_force, before, turned, nodes, common, rehung, way, same_pair, visit, cite, path, expand_edge, explain_rec, explain, firsts_after, firsts}
use Rattle.theory.specs.Atom.{register, is_registered, atom_of, atom, var_of, var_of_atom}

unfoldable pub theory_definitions : Unit {0}
unfolding same_leaf singletons under child root union classes find are_equal merge pop_merges pairs_of pairs_in_force before turned nodes common rehung way same_pair visit cite path expand_edge explain_rec explain firsts_after firsts register is_registered atom_of atom var_of var_of_atom
theory_definitions = tt
