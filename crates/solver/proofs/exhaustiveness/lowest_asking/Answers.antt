use Rattle.shinri_core.proofs.Kit.{arith}
use Rattle.solver.proofs.Memory.LowestAsking.{asked_first, asked_not, asked_done, asked_split, asked_unknown, asked_nothing}
use Rattle.solver.proofs.exhaustiveness.lowest_asking.Goals as goal
use Rattle.solver.proofs.exhaustiveness.lowest_asking.Goals.{then-asks+else-get_at-eq0, else-asks}

pub loop-x-init : goal.loop-x-init
loop-x-init g c = asked_first _ _ _

pub returns-then-get_at-eq0 : goal.returns-then-get_at-eq0
returns-then-get_at-eq0 g c =
    asked_split c.loop-x.invariant (omega (arith, c.term_count-x-end.ensures.0, c.loop-x-test.true)) c.asks.ensures _ c.if-asks.true
    c.get_at.ensures.0 c.if-get_at-eq0.true

pub loop-x-preserved : goal.loop-x-preserved
loop-x-preserved g c =
    let inv = c.loop-x.invariant in
    elim c.if-asks.branch [
      | then-asks+else-get_at-eq0 w ↦
          asked_done inv (omega (arith, c.term_count-x-end.ensures.0, c.loop-x-test.true)) c.asks.ensures _ w.if-asks.true
          w.get_at.ensures.0 w.if-get_at-eq0.false w.unknown-is
      | else-asks w ↦
          asked_not inv (omega (arith, c.term_count-x-end.ensures.0, c.loop-x-test.true)) c.asks.ensures w.if-asks.false w.unknown-is
    ]

pub returns-then-unknown : goal.returns-then-unknown
returns-then-unknown g c = asked_unknown c.loop-x.invariant (omega (arith, c.term_count-x-end.ensures.0, c.loop-x-test.false)) c.if-unknown.true

pub returns : goal.returns
returns g c = asked_nothing c.loop-x.invariant (omega (arith, c.term_count-x-end.ensures.0, c.loop-x-test.false)) c.if-unknown.false
