-- Three stores and the guard.
use Rattle.solver.proofs.Memory.Splits.{written}
use Rattle.solver.proofs.answer.write_lemma.Goals as goal

pub returns : goal.returns
returns c =
    written _ c.requires c.put_at.ensures c.put_at-2.ensures c.put_at-3.ensures
    c.write_guard.ensures
