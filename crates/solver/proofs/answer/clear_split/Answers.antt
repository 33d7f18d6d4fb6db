-- Three stores.
use Rattle.solver.proofs.Memory.Splits.{split_cleared}
use Rattle.solver.proofs.answer.clear_split.Goals as goal

pub returns : goal.returns
returns c = split_cleared _ c.requires c.put_at.ensures c.put_at-2.ensures c.put_at-3.ensures
