-- By the sort's kind, and by its mark.
use Rattle.shinri_core.proofs.Memory.Constructors.{other_ready, datatype_ready}
use Rattle.shinri_core.proofs.context.is_ready.Goals as goal

pub returns-then-not-is_datatype_sort : goal.returns-then-not-is_datatype_sort
returns-then-not-is_datatype_sort c = search other_ready

pub returns-else-not-is_datatype_sort : goal.returns-else-not-is_datatype_sort
returns-else-not-is_datatype_sort c = search datatype_ready
