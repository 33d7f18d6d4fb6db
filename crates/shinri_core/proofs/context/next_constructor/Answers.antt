use Rattle.shinri_core.proofs.Kit.{rules}
use Rattle.shinri_core.proofs.Memory.Searching.{search_first}
use Rattle.shinri_core.proofs.Memory.Constructors.{seek_found, seek_next, seek_none}
use Rattle.shinri_core.proofs.context.next_constructor.Goals as goal

pub loop-s-init : goal.loop-s-init
loop-s-init c = search_first _ _ _ (search rules)

pub returns-then-builds : goal.returns-then-builds
returns-then-builds c = search seek_found

pub loop-s-preserved : goal.loop-s-preserved
loop-s-preserved c = search seek_next

pub returns : goal.returns
returns c = search seek_none
