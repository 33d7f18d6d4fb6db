-- The words of variables and those of atoms are cleared, then the count is set.
use Rattle.theory.proofs.Memory.RegistryStores.{emptied}
use Rattle.theory.proofs.atom.clear.Goals as goal

pub returns : goal.returns
returns c = emptied _ _ _ _ c.requires c.clear_at.ensures c.clear_at-2.ensures c.put_at.ensures
