use Rattle.shinri_core.proofs.Kit.{◌+◌, ◌-◌, ◌≡◌, arith}
use Rattle.solver.proofs.Memory.RingLeaves.{seek_first, seek_found, seek_next, seek_last}
use Rattle.solver.proofs.ring.ring_start.Goals as goal

pub loop-k-init : goal.loop-k-init
loop-k-init c = search seek_first

pub returns-then-get_at-app : goal.returns-then-get_at-app
returns-then-get_at-app c =
    let h = c.loop-k-test.true in
    let here : c.loop-k.k - 1 + 1 ≡ c.loop-k.k = omega arith in
    rw here (seek_found c.loop-k.invariant _ (λ z. omega arith) c.get_at.ensures.0 c.if-get_at-app.true)

pub loop-k-preserved : goal.loop-k-preserved
loop-k-preserved c = seek_next c.loop-k.invariant _ (λ z. omega arith) c.get_at.ensures.0 c.if-get_at-app.false

pub returns : goal.returns
returns c = seek_last c.loop-k.invariant (omega arith)
