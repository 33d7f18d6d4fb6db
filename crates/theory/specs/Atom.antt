-- The registry of variables (AtomRegistry of atom.rs): registrations, oldest first.
use Rattle.std.specs.Prelude.{ℕ, Bool, List, [], ◌∷◌, ◌++◌, eqb}
use Rattle.std.proofs.Math.Option.{Option, none, some}
use Rattle.shinri_core.specs.Lists.{any, first}

pub record Registered : Type 0 where
  pub var : ℕ
  pub atom : ℕ

unfoldable pub register : List Registered → ℕ → ℕ → List Registered
register atoms v t = atoms ++ (record { var = v; atom = t } ∷ [])

unfoldable pub is_registered : List Registered → ℕ → Bool
is_registered atoms v = any (λ (r : Registered). eqb r.var v) atoms

unfoldable pub atom_of : Option Registered → ℕ
atom_of none = 0
atom_of (some r) = r.atom

-- the atom of a registered variable; question 5 asks that it is registered
unfoldable pub atom : List Registered → ℕ → ℕ
atom atoms v = atom_of (first (λ (r : Registered). eqb r.var v) atoms)

unfoldable pub var_of : Option Registered → Option ℕ
var_of none = none
var_of (some r) = some r.var

-- 01: its first variable
unfoldable pub var_of_atom : List Registered → ℕ → Option ℕ
var_of_atom atoms t = var_of (first (λ (r : Registered). eqb r.atom t) atoms)
