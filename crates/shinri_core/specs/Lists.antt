-- The few functions on lists and sets of numbers that the definitions share.
use Rattle.std.specs.Prelude.{ℕ, zero, suc, ◌+◌, ◌≡◌, ◌⊎◌, Bool, true, false, cond, List, [], ◌∷◌, eqb, ltb}
use Rattle.std.proofs.Math.Option.{Option, none, some}

module _ {A : Type 0} where
  -- x stands in a list
  abbrev pub In : A → List A → Type 0
  In x [] = ⊥
  In x (y ∷ ys) = (x ≡ y) ⊎ In x ys

  -- no element stands twice
  abbrev pub Apart : List A → Type 0
  Apart [] = Unit {0}
  Apart (x ∷ xs) = (In x xs → ⊥) × Apart xs

  -- the elements that pass a test, in order
  unfoldable pub keep : (A → Bool) → List A → List A
  keep p [] = []
  keep p (x ∷ xs) = let r = keep p xs in cond (p x) (x ∷ r) r

  -- do all pass a test?
  unfoldable pub every : (A → Bool) → List A → Bool
  every p [] = true
  every p (x ∷ xs) = let r = every p xs in cond (p x) r false

  -- does any pass a test?
  unfoldable pub any : (A → Bool) → List A → Bool
  any p [] = false
  any p (x ∷ xs) = let r = any p xs in cond (p x) true r

  -- the first that passes a test
  unfoldable pub first : (A → Bool) → List A → Option A
  first p [] = none
  first p (x ∷ xs) = let r = first p xs in cond (p x) (some x) r

  -- its place, counted from k
  unfoldable pub place_from : ℕ → (A → Bool) → List A → Option ℕ
  place_from k p [] = none
  place_from k p (x ∷ xs) = let r = place_from (suc k) p xs in cond (p x) (some k) r

  -- each element with each later one, by the earlier and then the later
  unfoldable pub beside : A → List A → List (A × A) → List (A × A)
  beside x [] rest = rest
  beside x (y ∷ ys) rest = (x, y) ∷ beside x ys rest

  unfoldable pub pairs : List A → List (A × A)
  pairs [] = []
  pairs (x ∷ xs) = beside x xs (pairs xs)

  unfoldable pub cons_option : Option A → List A → List A
  cons_option none xs = xs
  cons_option (some x) xs = x ∷ xs

module _ {A B : Type 0} where
  -- what a partial function gives, in order
  unfoldable pub gather : (A → Option B) → List A → List B
  gather f [] = []
  gather f (x ∷ xs) = cons_option (f x) (gather f xs)

-- n numbers from k on
unfoldable pub range : ℕ → ℕ → List ℕ
range k zero = []
range k (suc n) = k ∷ range (suc k) n

unfoldable pub total : List ℕ → ℕ
total [] = 0
total (x ∷ xs) = x + total xs

-- the first of one list with the first of the other, and so on
unfoldable pub zip : List ℕ → List ℕ → List (ℕ × ℕ)
zip [] ys = []
zip (x ∷ xs) [] = []
zip (x ∷ xs) (y ∷ ys) = (x, y) ∷ zip xs ys

unfoldable pub same_list : List ℕ → List ℕ → Bool
same_list [] [] = true
same_list [] (y ∷ ys) = false
same_list (x ∷ xs) [] = false
same_list (x ∷ xs) (y ∷ ys) = let r = same_list xs ys in cond (eqb x y) r false

unfoldable pub mem : ℕ → List ℕ → Bool
mem x ys = any (eqb x) ys

-- A set of numbers is the list of its members, ascending.
unfoldable pub insert : ℕ → List ℕ → List ℕ
insert x [] = x ∷ []
insert x (y ∷ ys) = let r = insert x ys in cond (ltb x y) (x ∷ y ∷ ys) (cond (eqb x y) (y ∷ ys) (y ∷ r))
