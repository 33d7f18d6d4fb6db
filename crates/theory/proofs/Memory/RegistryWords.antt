-- What the words of the registry's table say of the list of registrations.
use Rattle.shinri_core.proofs.Kit.{ℕ, zero, suc, ◌+◌, ◌-◌, ◌≤◌, ◌<◌, ◌≡◌, refl, sym, ap, ◌∙◌, Bool, true, false, cond, false≢true, List, [], ◌∷◌, Option, none, some, dec_lt, add-one, arith, ne_eqb, not, eqb}
use Rattle.shinri_core.specs.Limits.{max_vars, max_terms}
use Rattle.shinri_core.specs.Lists.{any, first}
use Rattle.shinri_core.specs.Memory.Words.{at}
use Rattle.shinri_core.proofs.Memory.Searching.{any_missing}
use Rattle.theory.specs.Atom.{Registered, is_registered, atom, atom_of, var_of, var_of_atom}
use Rattle.theory.specs.Memory.Registry.{VAR, ATOM, FIRST, vars#, registered_at, atoms, word_for, of_var, of_atom, or_else, first_with, RegistrySound}

-- ---- the first registration that passes a test

found : Option Registered → Bool
found none = false
found (some r) = true

any_first : (p : Registered → Bool) (rs : List Registered) → any p rs ≡ found (first p rs)
unfolding any first found
any_first p [] = refl
any_first p (r ∷ rs) = go (p r) (any_first p rs)
  where
    go : (b : Bool) → any p rs ≡ found (first p rs) → cond b true (any p rs) ≡ found (cond b (some r) (first p rs))
    go true e = refl
    go false e = e

word_none : (f : Registered → ℕ) (o : Option Registered) → word_for f o ≡ 0 → o ≡ none
unfolding word_for
word_none f none e = refl
word_none f (some r) e = absurd (omega arith)

word_some : (f : Registered → ℕ) (o : Option Registered) → (word_for f o ≡ 0 → ⊥) →
    (r : Registered) × (o ≡ some r) × (f r ≡ word_for f o - 1)
unfolding word_for
word_some f none d = absurd (d refl)
word_some f (some r) d = (r, refl, omega arith)

-- ---- asking, by a word w that was read

module _ (t : List ℕ) (v w : ℕ) (z : RegistrySound t) where
  pub registered_no : v < max_vars → w ≡ at t ATOM v → w ≡ 0 → false ≡ is_registered (atoms t) v
  unfolding is_registered found
  registered_no h e q =
      let o = word_none (λ (r : Registered). r.atom) (first (of_var v) (atoms t)) (sym (z.atoms_are v h) ∙ sym e ∙ q) in
      sym (any_first (of_var v) (atoms t) ∙ ap found o)

  pub registered_yes : v < max_vars → w ≡ at t ATOM v → (w ≡ 0 → ⊥) → true ≡ is_registered (atoms t) v
  unfolding is_registered found
  registered_yes h e d =
      let (r, o, q) = word_some (λ (r : Registered). r.atom) (first (of_var v) (atoms t)) (λ q. d (e ∙ z.atoms_are v h ∙ q)) in
      sym (any_first (of_var v) (atoms t) ∙ ap found o)

  pub no_var : v < max_terms → w ≡ at t FIRST v → w ≡ 0 → none ≡ var_of_atom (atoms t) v
  unfolding var_of_atom var_of
  no_var h e q =
      let o = word_none (λ (r : Registered). r.var) (first (of_atom v) (atoms t)) (sym (z.firsts_are v h) ∙ sym e ∙ q) in
      sym (ap var_of o)

  pub one_var : v < max_terms → w ≡ at t FIRST v → (w ≡ 0 → ⊥) → some (w - 1) ≡ var_of_atom (atoms t) v
  unfolding var_of_atom var_of
  one_var h e d =
      let f = e ∙ z.firsts_are v h in
      let (r, o, q) = word_some (λ (r : Registered). r.var) (first (of_atom v) (atoms t)) (λ q. d (f ∙ q)) in
      ap (λ (k : ℕ). some (k - 1)) f ∙ ap some (sym q) ∙ sym (ap var_of o)

module _ (t : List ℕ) (v : ℕ) (z : RegistrySound t) where
  pub registered_beyond : max_vars ≤ v → false ≡ is_registered (atoms t) v
  unfolding is_registered atoms
  registered_beyond h =
      sym (any_missing (of_var v) (registered_at t) (vars# t) (λ i l g. ne_eqb (at t VAR i) v (let b = z.vars i g in omega arith)))

  -- a registered variable has an atom
  pub registered_word : is_registered (atoms t) v ≡ true → (v < max_vars) × (0 < at t ATOM v) × (at t ATOM v ≤ max_terms)
  registered_word e = go (dec_lt v max_vars)
    where
      some_word : v < max_vars → (w : ℕ) → w ≡ at t ATOM v → 0 < w
      some_word h zero q = absurd (false≢true (registered_no t v zero z h q refl ∙ e))
      some_word h (suc w) q = omega arith

      go : Dec (v < max_vars) → (v < max_vars) × (0 < at t ATOM v) × (at t ATOM v ≤ max_terms)
      go (yes h) = (h, some_word h (at t ATOM v) refl, z.atoms_fit v h)
      go (no n) = absurd (false≢true (registered_beyond (omega arith) ∙ e))

-- the word of a variable says whether it is registered
pub registered_is : (t : List ℕ) (v w : ℕ) → RegistrySound t → v < max_vars → w ≡ at t ATOM v →
    not (eqb w 0) ≡ is_registered (atoms t) v
registered_is t v zero z h e = registered_no t v zero z h e refl
registered_is t v (suc w) z h e =
    let d : suc w ≡ 0 → ⊥ = λ q. omega arith in ap not (ne_eqb (suc w) 0 d) ∙ registered_yes t v (suc w) z h e d

atom_word_of : (o : Option Registered) → word_for (λ (r : Registered). r.atom) o - 1 ≡ atom_of o
unfolding word_for atom_of
atom_word_of none = refl
atom_word_of (some r) = omega arith

pub atom_is : (t : List ℕ) (v : ℕ) → RegistrySound t → v < max_vars → at t ATOM v - 1 ≡ atom (atoms t) v
unfolding atom
atom_is t v z h = ap (λ (w : ℕ). w - 1) (z.atoms_are v h) ∙ atom_word_of (first (of_var v) (atoms t))

pub first_new : (t : List ℕ) (x v w : ℕ) → w ≡ at t FIRST x → w ≡ 0 → v + 1 ≡ first_with t x v
unfolding or_else
first_new t x v w e q = add-one v ∙ ap (λ (a : ℕ). or_else a (suc v)) (sym q ∙ e)

pub first_old : (t : List ℕ) (x v w : ℕ) → w ≡ at t FIRST x → (w ≡ 0 → ⊥) → w ≡ first_with t x v
unfolding or_else
first_old t x v zero e d = absurd (d refl)
first_old t x v (suc w) e d = ap (λ (a : ℕ). or_else a (suc v)) e
