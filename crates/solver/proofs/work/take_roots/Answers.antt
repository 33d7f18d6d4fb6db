use Rattle.solver.proofs.Memory.Beginning.{linking_first, linking_app, linking_other, linking_done}
use Rattle.solver.proofs.work.take_roots.Goals as goal

pub loop-i-init : goal.loop-i-init
loop-i-init c = search linking_first

pub loop-i-preserved-then-get_at : goal.loop-i-preserved-then-get_at
loop-i-preserved-then-get_at c =
    linking_app c.loop-i.invariant c.loop-i-test.true c.find-root.ensures.0
    c.put_at.ensures
    c.get_at.ensures.0 c.if-get_at.true c.link.ensures

pub loop-i-preserved : goal.loop-i-preserved
loop-i-preserved c =
    linking_other c.loop-i.invariant c.loop-i-test.true c.find-root.ensures.0
    c.put_at.ensures
    c.get_at.ensures.0 c.if-get_at.false

pub shape_of-w : goal.shape_of-w
shape_of-w c = c.loop-i.invariant.kept.long

pub returns : goal.returns
returns c = search linking_done
