-- By its role and its result sort.
use Rattle.shinri_core.proofs.Kit.{rules}
use Rattle.shinri_core.proofs.Memory.Constructors.{other_builds, ctor_builds}
use Rattle.shinri_core.proofs.context.builds.Goals as goal

pub returns-then-eq : goal.returns-then-eq
returns-then-eq c = ctor_builds _ c.dt_role.ensures (search rules) c.result_sort.ensures.0 (search rules)

pub returns-else-eq : goal.returns-else-eq
returns-else-eq c = other_builds _ c.dt_role.ensures (search rules) (search rules)
