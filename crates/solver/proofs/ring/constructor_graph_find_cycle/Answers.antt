use Rattle.shinri_core.proofs.Kit.{arith}
use Rattle.std.proofs.lemmas.Result.{err_from_is_err_and}
use Rattle.solver.proofs.Memory.RingWalks.{watch_first, watch_ring, watch_next, watch_done}
use Rattle.solver.proofs.ring.constructor_graph_find_cycle.Goals as goal

pub loop-i-init : goal.loop-i-init
loop-i-init c = watch_first c.requires.0 c.requires.1

pub walk_term-requires : goal.walk_term-requires
walk_term-requires c = (c.loop-i.invariant.sound, omega (arith, c.term_count-i-end.ensures.0, c.loop-i-test.true))

pub returns-in_err-walk_term : goal.returns-in_err-walk_term
returns-in_err-walk_term c =
    let p = err_from_is_err_and c.from_residual.result c.from_residual.ensures.1 in
    rw (p.1, p.2) (watch_ring c.loop-i.invariant _ c.walk_term.new.r c.in_err-walk_term.ensures)

pub loop-i-preserved : goal.loop-i-preserved
loop-i-preserved c = watch_next c.loop-i.invariant c.walk_term.new.r c.in_ok-walk_term.ensures c.walk_term.auto.r

pub returns : goal.returns
returns c = watch_done c.loop-i.invariant _ c.term_count-i-end.ensures.0 (λ h. omega (arith, c.loop-i-test.false))
