-- The word of the atom says which.
use Rattle.theory.specs.Memory.Registry.{first_var_meaning}
use Rattle.theory.proofs.Memory.RegistryWords.{no_var, one_var}
use Rattle.theory.proofs.atom.var_of_atom.Goals as goal

pub returns-then-w-eq0 : goal.returns-then-w-eq0
unfolding first_var_meaning
returns-then-w-eq0 c = search no_var

pub returns-else-w-eq0 : goal.returns-else-w-eq0
unfolding first_var_meaning
returns-else-w-eq0 c = search one_var
