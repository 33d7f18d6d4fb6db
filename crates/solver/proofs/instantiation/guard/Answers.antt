-- By whether the tester's atom has a variable.
use Rattle.solver.proofs.Memory.Instantiating.{registry_length, var_small, guard_none, guard_some}
use Rattle.solver.proofs.instantiation.guard.Goals as goal

pub slice_bounds-var_of_atom-end-2 : goal.slice_bounds-var_of_atom-end-2
slice_bounds-var_of_atom-end-2 c = registry_length c.requires.solver

pub new-requires : goal.new-requires
new-requires c = var_small c.requires c.var_of_atom.ensures c.in-Some.is

pub returns-in-None : goal.returns-in-None
returns-in-None c = guard_none c.requires c.var_of_atom.ensures c.in-None.is

pub returns-in-Some : goal.returns-in-Some
returns-in-Some c =
    guard_some c.requires c.var_of_atom.ensures c.in-Some.is c.new.ensures
    c.negate.ensures c.hand_out.ensures
