-- A class is no smaller than the class that went under it.
use Rattle.shinri_core.proofs.Kit.{ap, arith}
use Rattle.theory.specs.Memory.Table.{size_word}
use Rattle.theory.specs.Memory.Steps.{separated}
use Rattle.theory.proofs.eq_engine.separate.Goals as goal

pub overflow_sub-rest : goal.overflow_sub-rest
overflow_sub-rest c =
    omega (
      arith,
      ap (size_word c.args.t.now)
          c.get_at-root.ensures.0,
    )

pub returns : goal.returns
unfolding separated
returns c =
    rw (
      c.put_at-2.ensures,
      c.put_at.ensures,
      c.get_at.ensures.0,
      c.get_at-both.ensures.0,
      c.get_at-root.ensures.0,
    )
