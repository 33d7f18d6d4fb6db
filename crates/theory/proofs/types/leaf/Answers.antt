-- A kind is 0 or one more than a theory of 16 bits.
use Rattle.shinri_core.proofs.Kit.{arith}
use Rattle.theory.specs.Memory.Answer.{leaf_meaning}
use Rattle.theory.proofs.Memory.Leaves.{leaf_fits, leaf_asserted, leaf_interface}
use Rattle.theory.proofs.types.leaf.Goals as goal

pub get_at-kind-requires : goal.get_at-kind-requires
get_at-kind-requires c = let z = c.requires in omega (arith, leaf_fits _ _ z.0 z.1)

pub get_at-value-requires : goal.get_at-value-requires
get_at-value-requires c = let z = c.requires in omega (arith, leaf_fits _ _ z.0 z.1)

pub overflow_cast-result : goal.overflow_cast-result
overflow_cast-result c = let z = c.requires in omega (arith, leaf_fits _ _ z.0 z.1)

pub returns-then-kind-eq0 : goal.returns-then-kind-eq0
unfolding leaf_meaning
returns-then-kind-eq0 c = search leaf_asserted

pub returns-else-kind-eq0 : goal.returns-else-kind-eq0
unfolding leaf_meaning
returns-else-kind-eq0 c = search leaf_interface
