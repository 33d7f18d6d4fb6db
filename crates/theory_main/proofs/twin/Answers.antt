-- A node equals itself.
use Rattle.std.proofs.Common.{rules}
use Rattle.shinri_core.proofs.Lists.{T_true}
use Rattle.theory.proofs.Classes.{equal_refl}
use Rattle.theory_main.proofs.twin.Goals as goal

pub returns : goal.returns
returns c = record { first = search rules; second = search rules; equal = T_true _ (equal_refl _ _) }
