-- An entry of the key that the variable gives.
use Rattle.shinri_core.proofs.Kit.{◌∙◌, ap}
use Rattle.theory.specs.Atom.{is_registered}
use Rattle.solver.proofs.Memory.Disequalities.{unequal_recordable, differs}
use Rattle.solver.proofs.disequalities.differ.Goals as goal

pub atom-x-requires : goal.atom-x-requires
atom-x-requires c = (c.requires.sound.solver, ap (is_registered _) c.var-v.ensures ∙ c.requires.registered)

pub enter-requires : goal.enter-requires
enter-requires c = search unequal_recordable

pub returns : goal.returns
returns c = search differs
