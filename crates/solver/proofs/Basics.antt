-- Options, and members of what the shared list functions give.
use Prim.Native.Nat.{ℕ, ◌≤◌, ◌<◌}
use mathlib.Core.Path.{◌≡◌, refl, sym, subst, subst⁻¹, ap, ◌∙◌}
use mathlib.Core.Logic.{◌⊎◌, inl, inr}
use mathlib.Core.Bool.{Bool, true, false, cond, not}
use mathlib.Core.List.{List, [], ◌∷◌, ◌++◌, foldl, reverse, reverse-cons}
use mathlib.Core.Option.{Option, none, some, some-injective}
use native.Mathlib.Omega.{arith}
use native.Mathlib.Decide.{ℕ_discrete}
use lib.Dec.{T, eqb, ltb, eqb→eq}
use borrow.Author.Tests.{ltb-true, ltb-false, eq-eqb, ne_eqb}
use Rattle.shinri_core.specs.Lists.{first, beside, pairs, cons_option, gather, insert}
pub use Rattle.shinri_core.proofs.Lists.{mem_in, in_mem}
use Rattle.shinri_core.proofs.Lists.{In, true_T}
use Rattle.theory.proofs.Members.{in_left, in_right, in_either}

-- ---- options

is_there : {A : Type 0} → Option A → Type 0
is_there none = ⊥
is_there (some x) = Unit {0}

pub none_some : {A : Type 0} (x : A) → Path (Option A) none (some x) → ⊥
unfolding is_there
none_some x e = subst⁻¹ is_there e tt

pub some_none : {A : Type 0} (x : A) → Path (Option A) (some x) none → ⊥
some_none x e = none_some x (sym e)

pub some_is : {A : Type 0} (x y : A) → Path (Option A) (some x) (some y) → x ≡ y
some_is x y e = some-injective x y e

-- ---- tests

pub false_T : (b : Bool) → b ≡ false → T b → ⊥
false_T b e t = subst T e t

pub T-no : (b : Bool) → T (not b) → b ≡ false
T-no true t = absurd t
T-no false t = refl

-- a choice by a test, with what the test says
pub by_test : {A : Type 0} (b : Bool) → (b ≡ true → A) → (b ≡ false → A) → A
by_test true f g = f refl
by_test false f g = g refl

-- two tests of equality that say the same
pub eqb_same : (p q r t : ℕ) → (p ≡ q → r ≡ t) → (r ≡ t → p ≡ q) → eqb p q ≡ eqb r t
eqb_same p q r t f g = go (ℕ_discrete p q)
  where
    go : Dec (p ≡ q) → eqb p q ≡ eqb r t
    go (yes e) = eq-eqb p q e ∙ sym (eq-eqb r t (f e))
    go (no d) = ne_eqb p q d ∙ sym (ne_eqb r t (λ e. d (g e)))

-- ---- sets of numbers

pub insert_in : (x y : ℕ) (ys : List ℕ) → In x (insert y ys) → (x ≡ y) ⊎ In x ys
unfolding insert
insert_in x y [] (inl e) = inl e
insert_in x y [] (inr i) = absurd i
insert_in x y (z ∷ zs) i = go (ltb y z) (eqb y z) i (insert_in x y zs)
  where
    later : (x ≡ y) ⊎ In x zs → (x ≡ y) ⊎ In x (z ∷ zs)
    later (inl e) = inl e
    later (inr j) = inr (inr j)

    go : (a b : Bool) → In x (cond a (y ∷ z ∷ zs) (cond b (z ∷ zs) (z ∷ insert y zs))) → (In x (insert y zs) → (x ≡ y) ⊎ In x zs) → (x ≡ y) ⊎ In x (z ∷ zs)
    go true b (inl e) f = inl e
    go true b (inr j) f = inr j
    go false true j f = inr j
    go false false (inl e) f = inr (inl e)
    go false false (inr j) f = later (f j)

pub in_insert_new : (y : ℕ) (ys : List ℕ) → In y (insert y ys)
unfolding insert
in_insert_new y [] = inl refl
in_insert_new y (z ∷ zs) = go (ltb y z) (eqb y z) refl (in_insert_new y zs)
  where
    go : (a b : Bool) → eqb y z ≡ b → In y (insert y zs) → In y (cond a (y ∷ z ∷ zs) (cond b (z ∷ zs) (z ∷ insert y zs)))
    go true b e i = inl refl
    go false true e i = inl (eqb→eq y z (true_T (eqb y z) e))
    go false false e i = inr i

pub in_insert_old : (x y : ℕ) (ys : List ℕ) → In x ys → In x (insert y ys)
unfolding insert
in_insert_old x y [] i = absurd i
in_insert_old x y (z ∷ zs) i = go (ltb y z) (eqb y z) i (in_insert_old x y zs)
  where
    go : (a b : Bool) → In x (z ∷ zs) → (In x zs → In x (insert y zs)) → In x (cond a (y ∷ z ∷ zs) (cond b (z ∷ zs) (z ∷ insert y zs)))
    go true b j f = inr j
    go false true j f = j
    go false false (inl e) f = inl e
    go false false (inr j) f = inr (f j)

abbrev pub Ascending : List ℕ → Type 0
Ascending [] = Unit {0}
Ascending (x ∷ xs) = ((y : ℕ) → In y xs → x ≤ y) × Ascending xs

pub insert_ascending : (x : ℕ) (ys : List ℕ) → Ascending ys → Ascending (insert x ys)
unfolding insert
insert_ascending x [] a = (λ y i. absurd i, tt)
insert_ascending x (y ∷ ys) (l, a) = go (ltb x y) (eqb x y) refl (insert_ascending x ys a)
  where
    lower : x < y → (z : ℕ) → In z (y ∷ ys) → x ≤ z
    lower h z (inl e) = omega arith
    lower h z (inr i) = let k = l z i in omega arith

    higher : y ≤ x → (z : ℕ) → (z ≡ x) ⊎ In z ys → y ≤ z
    higher h z (inl e) = omega arith
    higher h z (inr i) = l z i

    go : (p q : Bool) → ltb x y ≡ p → Ascending (insert x ys) → Ascending (cond p (x ∷ y ∷ ys) (cond q (y ∷ ys) (y ∷ insert x ys)))
    go true q e b = (lower (ltb-true x y e), (l, a))
    go false true e b = (l, a)
    go false false e b = (λ z i. higher (ltb-false x y e) z (insert_in z x ys i), b)

-- ---- first, gather, pairs, reverse

-- two partial functions that agree on a list
pub gather_same : {A B : Type 0} (f g : A → Option B) (xs : List A) → ((x : A) → In x xs → f x ≡ g x) → gather f xs ≡ gather g xs
unfolding gather
gather_same f g [] h = refl
gather_same f g (x ∷ xs) h = rw (h x (inl refl), gather_same f g xs (λ y i. h y (inr i)))

module _ {A : Type 0} where
  pub first_some : (p : A → Bool) (xs : List A) (x : A) → first p xs ≡ some x → In x xs × T (p x)
  unfolding first
  first_some p [] x e = absurd (none_some x e)
  first_some p (y ∷ ys) x e = go (p y) refl e (first_some p ys x)
    where
      go : (b : Bool) → p y ≡ b → cond b (some y) (first p ys) ≡ some x → (first p ys ≡ some x → In x ys × T (p x)) → In x (y ∷ ys) × T (p x)
      go true q s f =
          let k = some_is y x s in
          (inl (sym k), subst (λ (z : A). T (p z)) k (true_T (p y) q))
      go false q s f = let (i, t) = f s in (inr i, t)

  pub first_none : (p : A → Bool) (xs : List A) (x : A) → first p xs ≡ none → In x xs → p x ≡ false
  unfolding first
  first_none p [] x e i = absurd i
  first_none p (y ∷ ys) x e i = go (p y) refl e i (first_none p ys x)
    where
      go : (b : Bool) → p y ≡ b → cond b (some y) (first p ys) ≡ none → In x (y ∷ ys) → (first p ys ≡ none → In x ys → p x ≡ false) → p x ≡ false
      go true q s j f = absurd (some_none y s)
      go false q s (inl j) f = ap p j ∙ q
      go false q s (inr j) f = f s j

  beside_in : (x : A) (ys : List A) (rest : List (A × A)) (p : A × A) → In p (beside x ys rest) → ((p.0 ≡ x) × In p.1 ys) ⊎ In p rest
  unfolding beside
  beside_in x [] rest p i = inr i
  beside_in x (y ∷ ys) rest p (inl e) = inl (ap (λ (q : A × A). q.0) e, inl (ap (λ (q : A × A). q.1) e))
  beside_in x (y ∷ ys) rest p (inr i) = go (beside_in x ys rest p i)
    where
      go : ((p.0 ≡ x) × In p.1 ys) ⊎ In p rest → ((p.0 ≡ x) × In p.1 (y ∷ ys)) ⊎ In p rest
      go (inl (e, j)) = inl (e, inr j)
      go (inr j) = inr j

  pub pairs_in : (xs : List A) (p : A × A) → In p (pairs xs) → In p.0 xs × In p.1 xs
  unfolding pairs
  pairs_in [] p i = absurd i
  pairs_in (x ∷ xs) p i = go (beside_in x xs (pairs xs) p i) (pairs_in xs p)
    where
      go : ((p.0 ≡ x) × In p.1 xs) ⊎ In p (pairs xs) → (In p (pairs xs) → In p.0 xs × In p.1 xs) → In p.0 (x ∷ xs) × In p.1 (x ∷ xs)
      go (inl (e, j)) f = (inl e, inr j)
      go (inr j) f = let (a, b) = f j in (inr a, inr b)

  in_beside_rest : (x : A) (ys : List A) (rest : List (A × A)) (p : A × A) → In p rest → In p (beside x ys rest)
  unfolding beside
  in_beside_rest x [] rest p i = i
  in_beside_rest x (y ∷ ys) rest p i = inr (in_beside_rest x ys rest p i)

  in_beside : (x y : A) (ys : List A) (rest : List (A × A)) → In y ys → In (x, y) (beside x ys rest)
  unfolding beside
  in_beside x y [] rest i = absurd i
  in_beside x y (z ∷ zs) rest (inl e) = inl (ap (λ (w : A). (x, w)) e)
  in_beside x y (z ∷ zs) rest (inr i) = inr (in_beside x y zs rest i)

  -- two members are one, or a pair in one order or the other
  pub in_pairs : (xs : List A) (p q : A) → In p xs → In q xs → (p ≡ q) ⊎ (In (p, q) (pairs xs) ⊎ In (q, p) (pairs xs))
  unfolding pairs
  in_pairs [] p q i j = absurd i
  in_pairs (x ∷ xs) p q (inl e) (inl f) = inl (e ∙ sym f)
  in_pairs (x ∷ xs) p q (inl e) (inr j) = inr
      (inl (subst⁻¹ (λ (z : A). In (z, q) (beside x xs (pairs xs))) e (in_beside x q xs (pairs xs) j)))
  in_pairs (x ∷ xs) p q (inr i) (inl f) = inr
      (inr (subst⁻¹ (λ (z : A). In (z, p) (beside x xs (pairs xs))) f (in_beside x p xs (pairs xs) i)))
  in_pairs (x ∷ xs) p q (inr i) (inr j) = go (in_pairs xs p q i j)
    where
      go : (p ≡ q) ⊎ (In (p, q) (pairs xs) ⊎ In (q, p) (pairs xs)) → (p ≡ q) ⊎ (In (p, q) (beside x xs (pairs xs)) ⊎ In (q, p)
          (beside x xs (pairs xs)))
      go (inl e) = inl e
      go (inr (inl k)) = inr (inl (in_beside_rest x xs (pairs xs) (p, q) k))
      go (inr (inr k)) = inr (inr (in_beside_rest x xs (pairs xs) (q, p) k))

  pub reverse_in : (x : A) (xs : List A) → In x (reverse xs) → In x xs
  reverse_in x [] i = i
  reverse_in x (y ∷ ys) i =
      go (in_either x (reverse ys) (y ∷ []) (subst (λ (zs : List A). In x zs) (reverse-cons y ys) i)) (reverse_in x ys)
    where
      go : In x (reverse ys) ⊎ In x (y ∷ []) → (In x (reverse ys) → In x ys) → In x (y ∷ ys)
      go (inl j) f = inr (f j)
      go (inr (inl e)) f = inl e
      go (inr (inr j)) f = absurd j

  pub in_reverse : (x : A) (xs : List A) → In x xs → In x (reverse xs)
  in_reverse x [] i = i
  in_reverse x (y ∷ ys) i = subst⁻¹ (λ (zs : List A). In x zs) (reverse-cons y ys) (go i (in_reverse x ys))
    where
      go : In x (y ∷ ys) → (In x ys → In x (reverse ys)) → In x (reverse ys ++ (y ∷ []))
      go (inl e) f = in_right x (reverse ys) (y ∷ []) (inl e)
      go (inr j) f = in_left x (reverse ys) (y ∷ []) (f j)

module _ {A B : Type 0} where
  pub gather_in : (f : A → Option B) (xs : List A) (y : B) → In y (gather f xs) → (x : A) × In x xs × (f x ≡ some y)
  unfolding gather cons_option
  gather_in f [] y i = absurd i
  gather_in f (x ∷ xs) y i = go (f x) refl i (gather_in f xs y)
    where
      later : ((z : A) × In z xs × (f z ≡ some y)) → (z : A) × In z (x ∷ xs) × (f z ≡ some y)
      later (z, j, e) = (z, inr j, e)

      go : (o : Option B) → f x ≡ o → In y (cons_option o (gather f xs)) → (In y (gather f xs) → (z : A) × In z xs × (f z ≡ some y)) → (z : A) × In z (x ∷ xs) × (f z ≡ some y)
      go none q j g = later (g j)
      go (some w) q (inl e) g = (x, inl refl, q ∙ ap {B = Option B} some (sym e))
      go (some w) q (inr j) g = later (g j)

  pub in_gather : (f : A → Option B) (xs : List A) (x : A) (y : B) → In x xs → f x ≡ some y → In y (gather f xs)
  unfolding gather cons_option
  in_gather f [] x y i e = absurd i
  in_gather f (z ∷ zs) x y i e = go (f z) refl i (in_gather f zs x y)
    where
      go : (o : Option B) → f z ≡ o → In x (z ∷ zs) → (In x zs → f x ≡ some y → In y (gather f zs)) → In y (cons_option o (gather f zs))
      go none q (inl j) g = absurd (none_some y (sym q ∙ ap f (sym j) ∙ e))
      go none q (inr j) g = g j e
      go (some w) q (inl j) g = inl (sym (some_is w y (sym q ∙ ap f (sym j) ∙ e)))
      go (some w) q (inr j) g = inr (g j e)

-- ---- folds

module _ {A B : Type 0} where
  pub fold_keeps : (P : B → Type 0) (f : B → A → B) (xs : List A) (b : B) → ((x : A) → In x xs → (c : B) → P c → P (f c x)) → P b → P (foldl f b xs)
  fold_keeps P f [] b h p = p
  fold_keeps P f (x ∷ xs) b h p = fold_keeps P f xs (f b x) (λ y i. h y (inr i)) (h x (inl refl) b p)
