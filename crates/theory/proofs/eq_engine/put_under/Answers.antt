-- Straight.
use Rattle.theory.specs.Memory.Steps.{united}
use Rattle.theory.proofs.eq_engine.put_under.Goals as goal

pub returns : goal.returns
unfolding united
returns c =
    rw (
      c.put_at-3.ensures,
      c.put_at-2.ensures,
      c.put_at.ensures,
      c.get_at-2.ensures.0,
      c.get_at.ensures.0,
    )
