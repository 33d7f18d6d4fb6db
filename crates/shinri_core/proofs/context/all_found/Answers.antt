use Rattle.shinri_core.proofs.Kit.{rules}
use Rattle.shinri_core.proofs.Memory.Searching.{search_first}
use Rattle.shinri_core.proofs.Memory.Constructors.{sort_ready, one_unready, sorts_ready}
use Rattle.shinri_core.proofs.context.all_found.Goals as goal

pub loop-s-init : goal.loop-s-init
loop-s-init c = search_first _ 0 _ (search rules)

pub returns-then-not-is_ready : goal.returns-then-not-is_ready
returns-then-not-is_ready c = search one_unready

pub loop-s-preserved : goal.loop-s-preserved
loop-s-preserved c = search sort_ready

pub returns : goal.returns
returns c = search sorts_ready
