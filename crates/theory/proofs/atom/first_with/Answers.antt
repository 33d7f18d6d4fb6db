-- Straight.
use Rattle.shinri_core.proofs.Kit.{rules}
use Rattle.theory.proofs.Memory.RegistryWords.{first_new, first_old}
use Rattle.theory.proofs.atom.first_with.Goals as goal

pub returns-then-w-eq0 : goal.returns-then-w-eq0
returns-then-w-eq0 c = (search first_new, search rules)

pub returns-else-w-eq0 : goal.returns-else-w-eq0
returns-else-w-eq0 c = (search first_old, search rules)
