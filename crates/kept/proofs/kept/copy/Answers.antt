use Rattle.shinri_core.proofs.Kit.{arith}
use Rattle.kept.proofs.Memory.Keeping.{whole_first, whole_next, whole_done}
use Rattle.kept.proofs.kept.copy.Goals as goal

pub loop-i-init : goal.loop-i-init
loop-i-init c = whole_first c.requires

pub loop-i-preserved : goal.loop-i-preserved
loop-i-preserved c = let e = c.loop-i.invariant.long in whole_next c.loop-i.invariant (omega (arith, c.loop-i-test.true))

pub returns : goal.returns
returns c = let e = c.loop-i.invariant.long in whole_done c.loop-i.invariant (omega (arith, c.loop-i-test.false))
