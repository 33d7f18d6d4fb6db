-- Straight.
use Rattle.shinri_core.proofs.Kit.{sym, ◌∙◌, arith}
use Rattle.theory.proofs.Memory.Leaves.{leaves_length}
use Rattle.theory.proofs.types.leaf_count.Goals as goal

pub returns : goal.returns
returns c = (c.get_at.ensures.0 ∙ sym (leaves_length _), omega arith)
