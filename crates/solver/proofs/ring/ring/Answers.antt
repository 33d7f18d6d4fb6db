-- At first nothing was met; a ring gives its leaves.
use Rattle.shinri_core.proofs.Kit.{refl, rules}
use Rattle.solver.specs.Memory.Walking.{ring_size}
use Rattle.solver.proofs.Memory.RingLeaves.{unmet_new, rings_none, rings_conflict}
use Rattle.solver.proofs.ring.ring.Goals as goal

pub constructor_graph_find_cycle-requires : goal.constructor_graph_find_cycle-requires
constructor_graph_find_cycle-requires c = (c.requires.making, unmet_new ring_size refl (search rules))

pub acyclicity_conflict-requires : goal.acyclicity_conflict-requires
acyclicity_conflict-requires c = (c.in-Err.ensures.0, search rules)

pub returns-in-Ok : goal.returns-in-Ok
returns-in-Ok c = rings_none _ _ _ c.constructor_graph_find_cycle.new.r _ c.in-Ok.ensures

pub returns-in-Err : goal.returns-in-Err
returns-in-Err c = rings_conflict c.args.t.now _ c.args.w.now _ _ c.in-Err.ensures c.acyclicity_conflict.ensures
