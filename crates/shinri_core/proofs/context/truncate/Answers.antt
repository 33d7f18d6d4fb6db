use Rattle.shinri_core.proofs.Kit.{rules}
use Rattle.shinri_core.proofs.Memory.Declarations.{drop_first, drop_next, drop_done}
use Rattle.shinri_core.proofs.context.truncate.Goals as goal

pub loop-i-init : goal.loop-i-init
loop-i-init c = search drop_first

pub drop_term-requires : goal.drop_term-requires
drop_term-requires c = (c.loop-i.invariant.sound, search rules)

pub loop-i-preserved : goal.loop-i-preserved
loop-i-preserved c = search drop_next

pub shape_of-t : goal.shape_of-t
shape_of-t c = c.loop-i.invariant.long

pub returns : goal.returns
returns c = drop_done c.loop-i.invariant c.loop-i-test.false
