use Rattle.shinri_core.specs.Memory.Words.{put_all}
use Rattle.shinri_core.proofs.Lists.{copy_first, copy_done}
use Rattle.shinri_core.proofs.context.copy_words.Goals as goal

pub loop-i-init : goal.loop-i-init
loop-i-init c = copy_first _ _ _

pub returns : goal.returns
unfolding put_all
returns c = copy_done c.loop-i.invariant c.loop-i-test.false
