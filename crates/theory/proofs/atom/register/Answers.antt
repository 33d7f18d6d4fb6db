-- Four stores.
use Rattle.shinri_core.proofs.Kit.{arith}
use Rattle.theory.proofs.Memory.RegistryStores.{registers}
use Rattle.theory.proofs.atom.register.Goals as goal

pub put_at-requires-4 : goal.put_at-requires-4
put_at-requires-4 c = omega arith

pub returns : goal.returns
returns c =
    registers c.requires c.get_at-n.ensures.0 c.first_with-w.ensures.0
    c.put_at.ensures c.put_at-2.ensures c.put_at-3.ensures c.put_at-4.ensures
