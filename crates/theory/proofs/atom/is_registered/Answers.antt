-- A variable is registered where its word is not 0.
use Rattle.shinri_core.proofs.Kit.{le-ltb}
use Rattle.theory.proofs.Memory.RegistryWords.{registered_is, registered_beyond}
use Rattle.theory.proofs.atom.is_registered.Goals as goal

pub returns-then-i-lt-MAX_VARS : goal.returns-then-i-lt-MAX_VARS
returns-then-i-lt-MAX_VARS c = search registered_is

pub returns-else-i-lt-MAX_VARS : goal.returns-else-i-lt-MAX_VARS
returns-else-i-lt-MAX_VARS c = let b = registered_beyond _ _ c.requires c.if-i-lt-MAX_VARS.false in search (le-ltb, b)
