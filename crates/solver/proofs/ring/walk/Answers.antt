use Rattle.shinri_core.proofs.Kit.{rules}
use Rattle.std.proofs.lemmas.Result.{err_from_is_err_and}
use Rattle.solver.proofs.Memory.RingWalks.{walks_first, walks_ring, walks_next, walks_done}
use Rattle.solver.proofs.ring.walk.Goals as goal

pub loop-n-init : goal.loop-n-init
loop-n-init c = walks_first c.requires

pub advance-requires : goal.advance-requires
advance-requires c = (c.loop-n.invariant.sound, search rules)

pub returns-in_err-n : goal.returns-in_err-n
returns-in_err-n c =
    let p = err_from_is_err_and c.from_residual.result c.from_residual.ensures.1 in
    rw (p.1, p.2) (walks_ring c.loop-n.invariant _ c.advance.new.r c.in_err-n.ensures)

pub loop-n-smaller : goal.loop-n-smaller
loop-n-smaller c = c.in_ok-n.ensures.0

pub loop-n-preserved : goal.loop-n-preserved
loop-n-preserved c = walks_next c.loop-n.invariant _ c.advance.new.r c.in_ok-n.ensures c.advance.auto.r

pub returns : goal.returns
returns c = walks_done c.loop-n.invariant c.loop-n-test.false
