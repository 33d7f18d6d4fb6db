use Rattle.shinri_core.proofs.Kit.{rules}
use Rattle.shinri_core.proofs.Memory.Searching.{search_first}
use Rattle.shinri_core.proofs.Memory.Constructors.{field_ready, field_unready, fields_ready}
use Rattle.shinri_core.proofs.context.has_ready_fields.Goals as goal

pub loop-i-init : goal.loop-i-init
loop-i-init c = search_first _ 0 _ (search rules)

pub returns-then-not-is_ready : goal.returns-then-not-is_ready
returns-then-not-is_ready c = search field_unready

pub loop-i-preserved : goal.loop-i-preserved
loop-i-preserved c = search field_ready

pub returns : goal.returns
returns c = search fields_ready
