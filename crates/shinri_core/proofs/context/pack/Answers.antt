use Rattle.shinri_core.proofs.Kit.{arith}
use Rattle.shinri_core.proofs.Memory.Codes.{pack_none, pack_fits, pack_more, pack_all}
use Rattle.shinri_core.proofs.context.pack.Goals as goal

pub loop-d-init : goal.loop-d-init
loop-d-init c = pack_none _ _

pub overflow_add-word : goal.overflow_add-word
overflow_add-word c =
    let p = pack_fits c.loop-d.invariant c.loop-d-test.true c.sort_or_0.ensures.1 in
    let d = c.loop-d-test.true in omega (arith, p.1)

pub loop-d-preserved : goal.loop-d-preserved
loop-d-preserved c = pack_more c.loop-d.invariant c.loop-d-test.true c.sort_or_0.ensures.1 c.sort_or_0.ensures.0

pub returns : goal.returns
returns c = pack_all c.loop-d.invariant (omega arith)
