-- The definitions of this crate, for proofs by computation: `unfolding core_definitions` opens them all.
use Rattle.shinri_core.specs.Lists.{keep, every, any, first, place_from, beside, pairs, cons_option, gather, range, total, zip, same_list, mem, insert}
use Rattle.shinri_core.specs.Sort.{is_datatype, is_bool, is_uninterpreted}
use Rattle.shinri_core.specs.Term.{same_op, same_term}
use Rattle.shinri_core.specs.Context.{empty_context, with_symbols, declare_sort, selectors_from, constructor_symbols, dt_add_constructor, declare_fun, sort_node, is_datatype_sort, no_symbol, symbol, is_constructor, builds, dt_constructors, dt_tester, dt_selectors, datatypes, ready, has_ready_fields, grounded, round, rounds, inhabited_datatypes, all_grounded, no_term, term, children, result_of, sort_of, intern, mk_app, mk_eq, places, terms_fit, declarations_fit, cut_terms, ctor_by_role, sel_by_role, tester_by_role, ctor_by_op, sel_by_op, tester_by_op, ctor_app, sel_app, tester_app}

unfoldable pub core_definitions : Unit {0}
unfolding keep every any first place_from beside pairs cons_option gather range total zip same_list mem insert is_datatype is_bool is_uninterpreted same_op same_term empty_context with_symbols declare_sort selectors_from constructor_symbols dt_add_constructor declare_fun sort_node is_datatype_sort no_symbol symbol is_constructor builds dt_constructors dt_tester dt_selectors datatypes ready has_ready_fields grounded round rounds inhabited_datatypes all_grounded no_term term children result_of sort_of intern mk_app mk_eq places terms_fit declarations_fit cut_terms ctor_by_role sel_by_role tester_by_role ctor_by_op sel_by_op tester_by_op ctor_app sel_app tester_app
core_definitions = tt
