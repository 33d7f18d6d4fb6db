use Rattle.shinri_core.proofs.Kit.{arith}
use Rattle.solver.proofs.Memory.RingLeaves.{cite_first, cite_next, cite_ring, edge_asks}
use Rattle.solver.proofs.ring.acyclicity_conflict.Goals as goal

pub explain-requires : goal.explain-requires
explain-requires c =
    let ring = c.requires.0 in
    record {
      sound = ring.engine;
      first = ring.closing.first;
      second = ring.closing.second;
      equal = ring.closing.equal;
      answer = c.clear_leaves.ensures.sound _;
    }

pub loop-i-init : goal.loop-i-init
loop-i-init c = cite_first _ c.explain.ensures.sound

pub get_at-requires : goal.get_at-requires
get_at-requires c = omega (arith, c.requires.0.long, c.requires.0.fits, c.loop-i-test.true)

pub get_at-requires-in-loop-i : goal.get_at-requires-in-loop-i
get_at-requires-in-loop-i c = omega (arith, c.requires.0.long, c.requires.0.fits, c.loop-i-test.true)

pub explain-requires-in-loop-i : goal.explain-requires-in-loop-i
explain-requires-in-loop-i c =
    edge_asks _ _ c.requires.0 c.loop-i.invariant c.loop-i-test.true c.get_at.ensures.0
    c.get_at-in-loop-i.ensures.0

pub loop-i-preserved : goal.loop-i-preserved
loop-i-preserved c =
    cite_next _ _ c.loop-i.invariant c.loop-i-test.true c.get_at.ensures.0
    c.get_at-in-loop-i.ensures.0 c.explain-in-loop-i.ensures c.explain-in-loop-i.auto.out

pub returns : goal.returns
returns c =
    cite_ring c.ring_start-start.ensures c.clear_leaves.ensures c.explain.ensures
    c.loop-i.invariant (omega (arith, c.loop-i-test.false))
