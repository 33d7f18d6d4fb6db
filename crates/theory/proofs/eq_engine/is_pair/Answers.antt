-- The nodes are read, then compared in either order.
use Rattle.theory.proofs.Memory.Marks.{tested_first, tested_other}
use Rattle.theory.proofs.eq_engine.is_pair.Goals as goal

pub returns-then-eq : goal.returns-then-eq
returns-then-eq c = tested_first _ _ _ _ c.pair_at-q.ensures c.eq.ensures c.if-eq.true

pub returns-else-eq : goal.returns-else-eq
returns-else-eq c = tested_other _ _ _ _ c.pair_at-q.ensures c.eq.ensures c.if-eq.false c.eq-else-eq.ensures
