-- A word of a slice of 32-bit words fits a word.
use Rattle.shinri_core.proofs.Kit.{refl, ◌+◌, arith}
use Rattle.shinri_core.specs.Memory.Words.{at}
use Rattle.shinri_core.proofs.table.get_at.Goals as goal

pub overflow_cast-result : goal.overflow_cast-result
overflow_cast-result c = omega (arith, c.type_inv.t (c.args.base + c.args.i))

pub returns : goal.returns
unfolding at
returns c = (refl, omega (arith, c.type_inv.t (c.args.base + c.args.i)))
