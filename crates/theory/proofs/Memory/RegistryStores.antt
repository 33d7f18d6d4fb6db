-- An empty registry, and one more registration: the table that its stores leave is sound and means the list with it at the end.
use Rattle.shinri_core.proofs.Kit.{ℕ, zero, suc, ◌+◌, ◌-◌, ◌≤◌, ◌<◌, ◌≡◌, refl, sym, subst, ap, ◌∙◌, inl, inr, Bool, true, false, cond, true≢false, List, [], ◌∷◌, ◌++◌, Option, none, some, ℕ_discrete, add-one, arith, eq-eqb, ne_eqb, T, eqb, leb, lit<, length, replicate}
use Rattle.shinri_core.specs.Limits.{max_vars, max_terms}
use Rattle.shinri_core.specs.Lists.{first, range}
use Rattle.shinri_core.specs.Memory.Words.{at, put, put_all, apart, counted}
use Rattle.shinri_core.proofs.Lists.{In, in_range, length_range}
use Rattle.shinri_core.proofs.Memory.Counted.{counted_length, counted_in, counted_grown}
use Rattle.shinri_core.proofs.Memory.Searching.{any_found}
use Rattle.shinri_core.proofs.Memory.Stores as Stores
use Rattle.theory.specs.Atom.{Registered, register, is_registered}
use Rattle.theory.specs.Memory.Registry.{COUNTS, VARS, VAR, ATOM, FIRST, registry_room, registry_size, vars#, registered_at, atoms, of_var, of_atom, word_for, or_else, atom_word, first_word, first_with, RegistrySound, Registrable}
use Rattle.theory.proofs.Members.{Apart, apart_length, apart_last}
use Rattle.theory.proofs.Memory.Filling.{filled}
use Rattle.theory.proofs.Memory.RegistryWords.{registered_yes}

-- ---- stores

other : (t : List ℕ) (b c x y v : ℕ) → T (apart registry_room b c) → x < registry_room b → y < registry_room c →
    at (put t c y v) b x ≡ at t b x
other = Stores.other_region registry_room

same : (t : List ℕ) (b x v : ℕ) → T (leb (b + registry_room b) registry_size) → registry_size ≤ length t → x < registry_room b →
    at (put t b x v) b x ≡ v
same = Stores.same_place registry_room registry_size

long : (t : List ℕ) (b x v : ℕ) → registry_size ≤ length t → registry_size ≤ length (put t b x v)
long = Stores.put_long registry_room registry_size

ruleset stores = (tt, lit<, other, same, long, Stores.other_place, Stores.length_put)

-- ---- a variable that is not registered

module _ {t : List ℕ} {v x : ℕ} (z : Registrable t v x) where
  not_var : (i : ℕ) → i < vars# t → at t VAR i ≡ v → ⊥
  unfolding is_registered atoms
  not_var i l e = true≢false (sym (any_found (of_var v) (registered_at t) (vars# t) i l (eq-eqb (at t VAR i) v e)) ∙ z.new)

  not_in : In v (counted (at t VAR) (vars# t)) → ⊥
  not_in k = let (i, l, e) = counted_in (at t VAR) (vars# t) v k in not_var i l e

  no_atom : at t ATOM v ≡ 0
  no_atom = go (ℕ_discrete (at t ATOM v) 0)
    where
      go : Dec (at t ATOM v ≡ 0) → at t ATOM v ≡ 0
      go (yes e) = e
      go (no d) = absurd (true≢false (registered_yes t v (at t ATOM v) z.sound z.var refl d ∙ z.new))

  -- fewer than all variables are registered
  one_free : vars# t < max_vars
  one_free =
      let l = apart_length (v ∷ counted (at t VAR) (vars# t)) (range 0 max_vars) (not_in, z.sound.once)
      (λ y k. in_range 0 max_vars y (omega arith) (below y k)) in
      omega (arith, counted_length (at t VAR) (vars# t), length_range 0 max_vars)
    where
      below : (y : ℕ) → In y (v ∷ counted (at t VAR) (vars# t)) → y < 0 + max_vars
      below y (inl e) = let h = z.var in omega arith
      below y (inr k) = let (i, l, e) = counted_in (at t VAR) (vars# t) y k in let h = z.sound.vars i l in omega arith

-- ---- the words

-- what the four stores did
record Written (t u : List ℕ) (v x : ℕ) : Type 0 where
  long : registry_size ≤ length u
  count : vars# u ≡ suc (vars# t)
  vars : (i : ℕ) → i < max_vars → (i ≡ vars# t → ⊥) → at u VAR i ≡ at t VAR i
  var_is : at u VAR (vars# t) ≡ v
  atoms : (y : ℕ) → y < max_vars → (y ≡ v → ⊥) → at u ATOM y ≡ at t ATOM y
  atom_is : at u ATOM v ≡ suc x
  firsts : (y : ℕ) → y < max_terms → (y ≡ x → ⊥) → at u FIRST y ≡ at t FIRST y
  first_is : at u FIRST x ≡ first_with t x v

written : (t t₁ t₂ t₃ u : List ℕ) (n v x w : ℕ) → registry_size ≤ length t → n < max_vars → v < max_vars → x < max_terms → n ≡ vars# t →
    w ≡ first_with t x v → t₁ ≡ put t FIRST x w → t₂ ≡ put t₁ VAR n v → t₃ ≡ put t₂ ATOM v (x + 1) → u ≡ put t₃ COUNTS VARS (n + 1) →
    Written t u v x
written t t₁ t₂ t₃ u n v x w l hn hv hx e q e₁ e₂ e₃ e₄ = search (← e, e₄, e₃, e₂, e₁, q, add-one, stores)

-- ---- the first registration with a key, as a word: one more counts where there was none

word_more : (f : Registered → ℕ) (p : Registered → Bool) (rs : List Registered) (r : Registered) →
    word_for f (first p (rs ++ (r ∷ []))) ≡ or_else (word_for f (first p rs)) (cond (p r) (suc (f r)) 0)
unfolding first word_for or_else
word_more f p [] r = go (p r)
  where
    go : (b : Bool) → word_for f (cond b (some r) none) ≡ cond b (suc (f r)) 0
    go true = refl
    go false = refl
word_more f p (s ∷ rs) r = go (p s) (first p rs) (first p (rs ++ (r ∷ []))) (cond (p r) (suc (f r)) 0) (word_more f p rs r)
  where
    go : (b : Bool) (o o' : Option Registered) (n : ℕ) → word_for f o' ≡ or_else (word_for f o) n →
        word_for f (cond b (some s) o') ≡ or_else (word_for f (cond b (some s) o)) n
    go true o o' n e = refl
    go false o o' n e = e

-- a word for the new key k, or for another
keyed : (k y c a w : ℕ) → (y ≡ k → w ≡ or_else a c) → ((y ≡ k → ⊥) → w ≡ a) → w ≡ or_else a (cond (eqb k y) c 0)
unfolding or_else
keyed k y c a w f g = go (ℕ_discrete y k)
  where
    or_none : (n : ℕ) → n ≡ or_else n 0
    or_none zero = refl
    or_none (suc n) = refl

    go : Dec (y ≡ k) → w ≡ or_else a (cond (eqb k y) c 0)
    go (yes e) = f e ∙ sym (ap (λ (b : Bool). or_else a (cond b c 0)) (eq-eqb k y (sym e)))
    go (no d) = g d ∙ or_none a ∙ sym (ap (λ (b : Bool). or_else a (cond b c 0)) (ne_eqb k y (λ e. d (sym e))))

-- ---- what they mean

module _ {t u : List ℕ} {v x : ℕ} (z : Registrable t v x) (w : Written t u v x) where
  old_var : (i : ℕ) → i < vars# t → at u VAR i ≡ at t VAR i
  old_var i l = let r = one_free z in w.vars i (omega arith) (omega arith)

  view : atoms u ≡ register (atoms t) v x
  unfolding atoms register
  view = counted_grown (registered_at t) (registered_at u) (vars# t) (vars# u) (record { var = v; atom = x }) w.count old new
    where
      old : (i : ℕ) → i < vars# t → registered_at u i ≡ registered_at t i
      old i l =
          let p = old_var i l in
          let q = ap (at u ATOM) p ∙ w.atoms (at t VAR i) (z.sound.vars i l) (not_var z i l) in
          λ k. record { var = p k; atom = q k - 1 }

      new : registered_at u (vars# t) ≡ record { var = v; atom = x }
      new =
          let q = ap (at u ATOM) w.var_is ∙ w.atom_is in
          let r : at u ATOM (at u VAR (vars# t)) - 1 ≡ x = omega arith in
          λ k. record { var = w.var_is k; atom = r k }

  -- a word by the registrations, with the new one
  grown : (f : Registered → ℕ) (p : Registered → Bool) →
      let r : Registered = record { var = v; atom = x } in
      or_else (word_for f (first p (atoms t))) (cond (p r) (suc (f r)) 0) ≡ word_for f (first p (atoms u))
  unfolding register
  grown f p = sym (ap (λ (rs : List Registered). word_for f (first p rs)) view ∙ word_more f p (atoms t) (record { var = v; atom = x }))

  atoms_now : (y : ℕ) → y < max_vars → at u ATOM y ≡ atom_word (atoms u) y
  unfolding or_else
  atoms_now y l =
      keyed v y (suc x) (at t ATOM y) (at u ATOM y) same (w.atoms y l)
      ∙ ap (λ (a : ℕ). or_else a (cond (eqb v y) (suc x) 0)) (z.sound.atoms_are y l)
      ∙ grown (λ (r : Registered). r.atom) (of_var y)
    where
      same : y ≡ v → at u ATOM y ≡ or_else (at t ATOM y) (suc x)
      same e = ap (at u ATOM) e ∙ w.atom_is ∙ sym (ap (λ (a : ℕ). or_else a (suc x)) (ap (at t ATOM) e ∙ no_atom z))

  firsts_now : (y : ℕ) → y < max_terms → at u FIRST y ≡ first_word (atoms u) y
  firsts_now y l =
      keyed x y (suc v) (at t FIRST y) (at u FIRST y)
      (λ e. ap (at u FIRST) e ∙ w.first_is ∙ ap (λ (k : ℕ). first_with t k v) (sym e)) (w.firsts y l)
      ∙ ap (λ (a : ℕ). or_else a (cond (eqb x y) (suc v) 0)) (z.sound.firsts_are y l)
      ∙ grown (λ (r : Registered). r.var) (of_atom y)

  sound : RegistrySound u
  sound = record {
    long = w.long;
    fit = let f = one_free z in let n = w.count in omega arith;
    vars = λ i l. below i l (ℕ_discrete i (vars# t));
    once =
        subst Apart (sym (counted_grown (at t VAR) (at u VAR) (vars# t) (vars# u) v w.count old_var w.var_is))
        (apart_last (counted (at t VAR) (vars# t)) v z.sound.once (not_in z));
    atoms_are = atoms_now;
    atoms_fit = λ y l. fits y l (ℕ_discrete y v);
    firsts_are = firsts_now;
  }
    where
      below : (i : ℕ) → i < vars# u → Dec (i ≡ vars# t) → at u VAR i < max_vars
      below i l (yes e) = let p = ap (at u VAR) e ∙ w.var_is in let h = z.var in omega arith
      below i l (no d) =
          let n = w.count in
          let g : i < vars# t = omega arith in
          omega (arith, old_var i g, z.sound.vars i g)

      fits : (y : ℕ) → y < max_vars → Dec (y ≡ v) → at u ATOM y ≤ max_terms
      fits y l (yes e) = let p = ap (at u ATOM) e ∙ w.atom_is in let h = z.atom in omega arith
      fits y l (no d) = omega (arith, w.atoms y l d, z.sound.atoms_fit y l)

pub registers : {t t₁ t₂ t₃ u : List ℕ} {n v x w : ℕ} → Registrable t v x → n ≡ vars# t → w ≡ first_with t x v →
    t₁ ≡ put t FIRST x w → t₂ ≡ put t₁ VAR n v → t₃ ≡ put t₂ ATOM v (x + 1) → u ≡ put t₃ COUNTS VARS (n + 1) →
    RegistrySound u × (atoms u ≡ register (atoms t) v x)
registers {t} {t₁} {t₂} {t₃} {u} {n} {v} {x} {w} z e q e₁ e₂ e₃ e₄ =
    let f = one_free z in
    let c = written t t₁ t₂ t₃ u n v x w z.sound.long (omega arith) z.var z.atom e q e₁ e₂ e₃ e₄ in
    (sound z c, view z c)

-- ---- an empty registry

-- the words of variables and those of atoms are cleared, then the count is set
pub emptied : (t t₁ t₂ u : List ℕ) → registry_size ≤ length t → t₁ ≡ put_all t ATOM 0 (replicate max_vars 0) →
    t₂ ≡ put_all t₁ FIRST 0 (replicate max_terms 0) → u ≡ put t₂ COUNTS VARS 0 → RegistrySound u × (atoms u ≡ [])
unfolding atoms counted range word_for first
emptied t t₁ t₂ u l p q e =
    let v = filled ATOM max_vars (omega arith) p in
    let m = v.long in
    let x = filled FIRST max_terms (omega arith) q in
    let l₂ : registry_size ≤ length t₂ = let n = x.long in omega arith in
    let z : vars# u ≡ 0 = search (e, stores) in
    let a : atoms u ≡ [] = ap (counted (registered_at u)) z in
    let no_atom : (y : ℕ) → y < max_vars → at u ATOM y ≡ 0 =
    λ y h. let w = x.before ATOM y (omega arith) ∙ v.own y h in search (e, w, stores) in
    let no_first : (y : ℕ) → y < max_terms → at u FIRST y ≡ 0 = λ y h. search (e, x.own, stores) in (
      record {
        long = search (e, stores);
        fit = omega arith;
        vars = λ i h. absurd (omega arith);
        once = subst (λ (n : ℕ). Apart (counted (at u VAR) n)) (sym z) tt;
        atoms_are = λ y h. no_atom y h ∙ sym (ap (λ (rs : List Registered). atom_word rs y) a);
        atoms_fit = λ y h. omega (arith, no_atom y h);
        firsts_are = λ y h. no_first y h ∙ sym (ap (λ (rs : List Registered). first_word rs y) a);
      },
      a,
    )
