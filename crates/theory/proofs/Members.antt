-- Membership in appended lists and in lists without repetition.
use Rattle.shinri_core.proofs.Kit.{suc, ◌≤◌, ◌≡◌, refl, sym, ap, ◌∙◌, ◌⊎◌, inl, inr, ⊎_elim, ⊎_map, List, [], ◌∷◌, ◌++◌, arith, length}
pub use Rattle.shinri_core.specs.Lists.{Apart}
pub use Rattle.shinri_core.proofs.Lists.{T-or, T-left, in_any}
use Rattle.shinri_core.proofs.Lists.{In}

-- ---- members

module _ {A : Type 0} where
  pub in_left : (x : A) (s t : List A) → In x s → In x (s ++ t)
  in_left x [] t i = absurd i
  in_left x (y ∷ s) t (inl e) = inl e
  in_left x (y ∷ s) t (inr i) = inr (in_left x s t i)

  pub in_right : (x : A) (s t : List A) → In x t → In x (s ++ t)
  in_right x [] t i = i
  in_right x (y ∷ s) t i = inr (in_right x s t i)

  pub in_either : (x : A) (s t : List A) → In x (s ++ t) → In x s ⊎ In x t
  in_either x [] t i = inr i
  in_either x (y ∷ s) t (inl e) = inl (inl e)
  in_either x (y ∷ s) t (inr i) = ⊎_map inr (λ j. j) (in_either x s t i)

  -- a list without one of its elements
  record Without (x : A) (ys : List A) : Type 0 where
    others : List A
    fewer : length ys ≡ suc (length others)
    rest : (z : A) → In z ys → (z ≡ x) ⊎ In z others

  without : (x : A) (ys : List A) → In x ys → Without x ys
  without x [] i = absurd i
  without x (y ∷ ys) (inl e) = record { others = ys; fewer = refl; rest = λ z. ⊎_map (λ q. q ∙ sym e) (λ i. i) }
  without x (y ∷ ys) (inr i) =
      let w = without x ys i in
      record {
        others = y ∷ w.others;
        fewer = ap suc w.fewer;
        rest = λ z. ⊎_elim (λ q. inr (inl q)) (λ j. ⊎_map (λ q. q) inr (w.rest z j));
      }

  -- different elements of a list are no more than it has
  pub apart_length : (xs ys : List A) → Apart xs → ((z : A) → In z xs → In z ys) → length xs ≤ length ys
  apart_length [] ys a f = omega arith
  apart_length (x ∷ xs) ys (h, a) f =
      let w = without x ys (f x (inl refl)) in
      let no_x : (z : A) → In z xs → z ≡ x → In z w.others = λ z i q. absurd (h (rw (sym q) i)) in
      let l = apart_length xs w.others a (λ z i. ⊎_elim (no_x z i) (λ j. j) (w.rest z (f z (inr i)))) in
      omega (arith, w.fewer)

  -- one more element that is new
  pub apart_last : (xs : List A) (y : A) → Apart xs → (In y xs → ⊥) → Apart (xs ++ (y ∷ []))
  apart_last [] y a h = (λ i. i, tt)
  apart_last (x ∷ xs) y (g, a) h =
      let other : In x (y ∷ []) → ⊥ = ⊎_elim (λ e. h (inl (sym e))) (λ i. i) in
      (λ i. ⊎_elim g other (in_either x xs (y ∷ []) i), apart_last xs y a (λ i. h (inr i)))
