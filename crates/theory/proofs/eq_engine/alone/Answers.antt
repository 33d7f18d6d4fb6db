-- Straight.
use Rattle.theory.proofs.eq_engine.alone.Goals as goal

pub returns : goal.returns
returns c = rw (c.put_at-3.ensures, c.put_at-2.ensures, c.put_at.ensures)
