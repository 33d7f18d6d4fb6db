-- Search loops: a loop goes up from a number and stops at the first that passes a test. One invariant, none below i passes, and what it
-- says of a counted list: whether any or every entry passes, and which is the first.
use Rattle.shinri_core.proofs.Kit.{ℕ, zero, suc, ◌+◌, ◌≤◌, ◌<◌, ◌≡◌, refl, sym, ap, ◌∙◌, Bool, true, false, cond, not, ◌&&◌, List, [], ◌∷◌, map, none, some, zero-add, add-zero, add-suc, suc-add, arith, below_more}
use Rattle.shinri_core.specs.Lists.{keep, every, any, place_from, range}
use Rattle.shinri_core.specs.Memory.Words.{counted}
use Rattle.shinri_core.proofs.Lists.{cond_both}

-- none of the numbers from one on up to i passes
abbrev pub NoneFrom : (ℕ → Bool) → ℕ → ℕ → Type 0
NoneFrom p from i = (k : ℕ) → from ≤ k → k < i → p k ≡ false

pub none_yet : (p : ℕ → Bool) (from : ℕ) → NoneFrom p from from
none_yet p from k l h = absurd (omega arith)

pub none_more : (p : ℕ → Bool) (from i : ℕ) → NoneFrom p from i → p i ≡ false → NoneFrom p from (i + 1)
none_more p from i n e k l h = below_more (λ (j : ℕ). from ≤ j → p j ≡ false) i (λ j g m. n j m g) (λ m. e) k h l

-- a loop has come from one number to i, on its way to n
pub record Searched (p : ℕ → Bool) (from i n : ℕ) : Type 0 where
  pub after : from ≤ i
  pub within : i ≤ n
  pub none : NoneFrom p from i

pub search_first : (p : ℕ → Bool) (from n : ℕ) → from ≤ n → Searched p from from n
search_first p from n h = record { after = omega arith; within = h; none = none_yet p from }

pub search_next : {p : ℕ → Bool} {from i n : ℕ} → Searched p from i n → i < n → p i ≡ false → Searched p from (i + 1) n
search_next {p} {from} {i} {n} w h e =
    record { after = let a = w.after in omega arith; within = omega arith; none = none_more p from i w.none e }

module _ {A : Type 0} (q : A → Bool) (f : ℕ → A) where
  -- the entries from k on, n of them
  abbrev Rest : ℕ → ℕ → List A
  Rest k n = map f (range k n)

  some_from : (k n i : ℕ) → i < n → q (f (k + i)) ≡ true → any q (Rest k n) ≡ true
  unfolding any range
  some_from k zero i h e = absurd (omega arith)
  some_from k (suc n) zero h e = rw (rw add-zero at e)
  some_from k (suc n) (suc i) h e =
      rw (some_from (suc k) n i (omega arith) (ap (λ (j : ℕ). q (f j)) (suc-add k i ∙ sym (add-suc k i)) ∙ e)) (cond_both (q (f k)))

  none_from : (k n : ℕ) → NoneFrom (λ j. q (f j)) k (k + n) → any q (Rest k n) ≡ false
  unfolding any range
  none_from k zero h = refl
  none_from k (suc n) h = rw (h k (omega arith) (omega arith)) (none_from (suc k) n (λ j l g. h j (omega arith) (omega arith)))

  place_here : (k n i : ℕ) → i < n → NoneFrom (λ j. q (f j)) k (k + i) → q (f (k + i)) ≡ true → place_from k q (Rest k n) ≡ some (k + i)
  unfolding place_from range
  place_here k zero i h w e = absurd (omega arith)
  place_here k (suc n) zero h w e = rw (rw add-zero at e, add-zero)
  place_here k (suc n) (suc i) h w e =
      let m = suc-add k i ∙ sym (add-suc k i) in
      let r = place_here (suc k) n i (omega arith) (λ j l g. w j (omega arith) (omega arith)) (ap (λ (j : ℕ). q (f j)) m ∙ e) in
      rw (w k (omega arith) (omega arith)) (r ∙ ap some m)

  place_none : (k n : ℕ) → NoneFrom (λ j. q (f j)) k (k + n) → place_from k q (Rest k n) ≡ none
  unfolding place_from range
  place_none k zero w = refl
  place_none k (suc n) w = rw (w k (omega arith) (omega arith)) (place_none (suc k) n (λ j l g. w j (omega arith) (omega arith)))

  pub any_found : (n i : ℕ) → i < n → q (f i) ≡ true → any q (counted f n) ≡ true
  unfolding counted
  any_found n i h e = some_from 0 n i h (ap (λ (j : ℕ). q (f j)) (zero-add i) ∙ e)

  pub any_missing : (n : ℕ) → NoneFrom (λ j. q (f j)) 0 n → any q (counted f n) ≡ false
  unfolding counted
  any_missing n w = none_from 0 n (λ j l g. w j l (omega arith))

  pub first_found : (n i : ℕ) → i < n → NoneFrom (λ j. q (f j)) 0 i → q (f i) ≡ true → place_from 0 q (counted f n) ≡ some i
  unfolding counted
  first_found n i h w e =
      place_here 0 n i h (λ j l g. w j l (omega arith)) (ap (λ (j : ℕ). q (f j)) (zero-add i) ∙ e) ∙ ap some (zero-add i)

  pub first_missing : (n : ℕ) → NoneFrom (λ j. q (f j)) 0 n → place_from 0 q (counted f n) ≡ none
  unfolding counted
  first_missing n w = place_none 0 n (λ j l g. w j l (omega arith))

-- ---- every and keep by any

module _ {A : Type 0} where
  -- every entry passes unless any fails
  pub every_by_any : (q : A → Bool) (xs : List A) → every q xs ≡ not (any (λ x. not (q x)) xs)
  unfolding every any
  every_by_any q [] = refl
  every_by_any q (x ∷ xs) = ap (λ (r : Bool). cond (q x) r false) (every_by_any q xs) ∙ turn (q x) (any (λ y. not (q y)) xs)
    where
      turn : (b r : Bool) → cond b (not r) false ≡ not (cond (not b) true r)
      turn true r = refl
      turn false r = refl

  -- any of those that are kept
  pub any_kept : (p q : A → Bool) (xs : List A) → any q (keep p xs) ≡ any (λ x. p x && q x) xs
  unfolding any keep
  any_kept p q [] = refl
  any_kept p q (x ∷ xs) = go (p x) (any_kept p q xs)
    where
      go : (b : Bool) → any q (keep p xs) ≡ any (λ y. p y && q y) xs →
          any q (cond b (x ∷ keep p xs) (keep p xs)) ≡ cond (b && q x) true (any (λ y. p y && q y) xs)
      go true h = ap (λ (r : Bool). cond (q x) true r) h
      go false h = h
