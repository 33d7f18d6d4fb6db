use Rattle.shinri_core.proofs.Kit.{rules}
use Rattle.theory.proofs.Memory.Turning.{turn_long, turn_first, turn_less, turn_next, turn_done}
use Rattle.theory.proofs.eq_engine.reroot_forest.Goals as goal

pub get_at-edge-requires : goal.get_at-edge-requires
get_at-edge-requires c = search (rules, turn_long)

pub get_at-cur-requires : goal.get_at-cur-requires
get_at-cur-requires c = search (rules, turn_long)

pub loop-cur-init : goal.loop-cur-init
loop-cur-init c = search turn_first

pub loop-cur-smaller : goal.loop-cur-smaller
loop-cur-smaller c = search turn_less

pub loop-cur-preserved : goal.loop-cur-preserved
loop-cur-preserved c =
    turn_next c.loop-cur.invariant c.loop-cur-test.true c.put_at.ensures c.put_at-in-loop-cur.ensures
    c.get_at-next.ensures.0 c.get_at-next_edge.ensures.0 c.get_at-next_edge.ensures.1

pub returns : goal.returns
returns c = search turn_done
