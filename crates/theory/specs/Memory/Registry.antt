-- The lent table of the atom registry: its regions, what a table means, and when it is sound.
use Rattle.std.specs.Prelude.{ℕ, zero, suc, ◌-◌, ◌≤◌, ◌<◌, ◌≡◌, Bool, false, List, [], ◌∷◌, eqb, length, None, Some}
use Rattle.std.specs.declared.option.Option as Given
use Rattle.std.proofs.Math.Option.{Option, none, some}
use Rattle.shinri_core.specs.declared.ids.Var.{Var}
use Rattle.shinri_core.specs.Limits.{max_vars, max_terms}
use Rattle.shinri_core.specs.Lists.{Apart, first}
use Rattle.shinri_core.specs.Memory.Words.{at, counted, room_in}
use Rattle.theory.specs.Atom.{Registered, is_registered}

-- ---- the regions

-- how many variables are registered, the only word of COUNTS
abbrev pub COUNTS : ℕ
COUNTS = 0

abbrev pub VARS : ℕ
VARS = 0

-- the variables as registered
abbrev pub VAR : ℕ
VAR = 1

-- for each variable one more than its atom, or 0
abbrev pub ATOM : ℕ
ATOM = 1025

-- for each atom one more than its first variable, or 0
abbrev pub FIRST : ℕ
FIRST = 2049

abbrev pub registry_layout : List (ℕ × ℕ)
registry_layout = (COUNTS, 1) ∷ (VAR, max_vars) ∷ (ATOM, max_vars) ∷ (FIRST, max_terms) ∷ []

abbrev pub registry_room : ℕ → ℕ
registry_room = room_in registry_layout

abbrev pub registry_size : ℕ
registry_size = 3073

-- ---- what a table means

abbrev pub vars# : List ℕ → ℕ
vars# t = at t COUNTS VARS

abbrev pub registered_at : List ℕ → ℕ → Registered
registered_at t i = record { var = at t VAR i; atom = at t ATOM (at t VAR i) - 1 }

unfoldable pub atoms : List ℕ → List Registered
atoms t = counted (registered_at t) (vars# t)

-- ---- when a table is sound

-- the word that stands for a registration, if there is one: one more than a number of it
unfoldable pub word_for : (Registered → ℕ) → Option Registered → ℕ
word_for f none = 0
word_for f (some r) = suc (f r)

abbrev pub of_var : ℕ → Registered → Bool
of_var v r = eqb r.var v

abbrev pub of_atom : ℕ → Registered → Bool
of_atom x r = eqb r.atom x

-- the word of a variable and the word of an atom, by the registrations
abbrev pub atom_word : List Registered → ℕ → ℕ
atom_word rs v = word_for (λ (r : Registered). r.atom) (first (of_var v) rs)

abbrev pub first_word : List Registered → ℕ → ℕ
first_word rs x = word_for (λ (r : Registered). r.var) (first (of_atom x) rs)

pub record RegistrySound (t : List ℕ) : Type 0 where
  pub long : registry_size ≤ length t
  pub fit : vars# t ≤ max_vars
  -- no variable is registered twice
  pub vars : (i : ℕ) → i < vars# t → at t VAR i < max_vars
  pub once : Apart (counted (at t VAR) (vars# t))
  -- the words of variables and of atoms
  pub atoms_are : (v : ℕ) → v < max_vars → at t ATOM v ≡ atom_word (atoms t) v
  pub atoms_fit : (v : ℕ) → v < max_vars → at t ATOM v ≤ max_terms
  pub firsts_are : (x : ℕ) → x < max_terms → at t FIRST x ≡ first_word (atoms t) x

-- a variable that is not registered yet, and an atom for it
pub record Registrable (t : List ℕ) (v x : ℕ) : Type 0 where
  pub sound : RegistrySound t
  pub var : v < max_vars
  pub atom : x < max_terms
  pub new : is_registered (atoms t) v ≡ false

-- a word, or another where it is 0
unfoldable pub or_else : ℕ → ℕ → ℕ
or_else zero b = b
or_else (suc a) b = suc a

-- the word of an atom once it has variable v too: its first variable stays its first
abbrev pub first_with : List ℕ → ℕ → ℕ → ℕ
first_with t x v = or_else (at t FIRST x) (suc v)

-- the code's answer in the definition
unfoldable pub first_var_meaning : Given.Option Var → Option ℕ
first_var_meaning (Some v) = some v.0
first_var_meaning None = none
