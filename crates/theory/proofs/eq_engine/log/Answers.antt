-- Straight.
use Rattle.theory.specs.Memory.Steps.{logged}
use Rattle.theory.proofs.eq_engine.log.Goals as goal

pub returns : goal.returns
unfolding logged
returns c = rw (c.put_at-5.ensures, c.put_at-4.ensures, c.put_at-3.ensures, c.put_at-2.ensures, c.put_at.ensures)
