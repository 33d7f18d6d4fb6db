-- Ages of pairs, labels and steps: the pairs of the labels on a path were equal before its ends were.
use Rattle.shinri_core.proofs.Kit.{ℕ, suc, ◌≤◌, ◌<◌, ◌≡◌, refl, subst, ap, inl, inr, true, false, cond, List, [], ◌∷◌, dec_le, arith, ne_eqb, le-leb, lt-leb, leb, length}
use Rattle.shinri_core.proofs.Lists.{In, T_true}
use Rattle.theory.specs.Types.{EqJust}
use Rattle.theory.specs.EqEngine.{Merge, Step, find, are_equal, pairs_of, before, common, way, path}
use Rattle.theory.specs.Memory.Replay.{Justified}
use Rattle.theory.specs.Memory.Explaining.{age, larger, pairs_age, steps_age}
use Rattle.theory.proofs.Members.{in_left, in_right}
use Rattle.theory.proofs.Classes.{Same, same?, same_equal, same_suffix, Suffix, suffix_self, suffix_tail}
use Rattle.theory.proofs.Forest.{path_age}
use Rattle.theory.proofs.Explain.{justified_joins, justified_suffix, pairs_before}

-- ---- the larger of two numbers

larger_both : (m n : ℕ) → (m ≤ larger m n) × (n ≤ larger m n)
unfolding larger
larger_both m n = elim (dec_le m n) [
  | yes h ↦ let d = le-leb m n h in rw d (h, omega arith)
  | no h ↦ let d = lt-leb m n (omega arith) in rw d (omega arith, omega arith)
]

larger_least : (m n k : ℕ) → m ≤ k → n ≤ k → larger m n ≤ k
unfolding larger
larger_least m n k h g = elim (leb m n) as (λ b. cond b n m ≤ k) [ true ↦ g | false ↦ h ]

-- ---- pairs and steps

module _ (ms : List Merge) where
  pub pairs_age_in : (ps : List (ℕ × ℕ)) (p : ℕ × ℕ) → In p ps → age ms p.0 p.1 < pairs_age ms ps
  unfolding pairs_age
  pairs_age_in [] p i = absurd i
  pairs_age_in (q ∷ ps) p (inl e) =
      let g = ap (λ (z : ℕ × ℕ). age ms z.0 z.1) e in
      omega (arith, larger_both (suc (age ms q.0 q.1)) (pairs_age ms ps))
  pairs_age_in (q ∷ ps) p (inr i) = omega (arith, larger_both (suc (age ms q.0 q.1)) (pairs_age ms ps), pairs_age_in ps p i)

  pairs_age_least : (ps : List (ℕ × ℕ)) (k : ℕ) → ((p : ℕ × ℕ) → In p ps → age ms p.0 p.1 < k) → pairs_age ms ps ≤ k
  unfolding pairs_age
  pairs_age_least [] k f = omega arith
  pairs_age_least (q ∷ ps) k f =
      larger_least (suc (age ms q.0 q.1)) (pairs_age ms ps) k (f q (inl refl)) (pairs_age_least ps k (λ p i. f p (inr i)))

  -- fewer pairs are not older
  pub pairs_age_among : (ps qs : List (ℕ × ℕ)) → ((p : ℕ × ℕ) → In p ps → In p qs) → pairs_age ms ps ≤ pairs_age ms qs
  pairs_age_among ps qs f = pairs_age_least ps (pairs_age ms qs) (λ p i. pairs_age_in qs p (f p i))

  pub steps_age_in : (w : List Step) (s : Step) → In s w → pairs_age ms (pairs_of s.just) ≤ steps_age ms w
  unfolding steps_age
  steps_age_in [] s i = absurd i
  steps_age_in (u ∷ w) s (inl e) =
      let g = ap (λ (z : Step). pairs_age ms (pairs_of z.just)) e in
      omega (arith, larger_both (pairs_age ms (pairs_of u.just)) (steps_age ms w))
  steps_age_in (u ∷ w) s (inr i) = omega (arith, larger_both (pairs_age ms (pairs_of u.just)) (steps_age ms w), steps_age_in w s i)

  steps_age_least : (w : List Step) (k : ℕ) → ((s : Step) → In s w → pairs_age ms (pairs_of s.just) ≤ k) → steps_age ms w ≤ k
  unfolding steps_age
  steps_age_least [] k f = omega arith
  steps_age_least (u ∷ w) k f =
      larger_least (pairs_age ms (pairs_of u.just)) (steps_age ms w) k (f u (inl refl)) (steps_age_least w k (λ s i. f s (inr i)))

  pub steps_age_among : (u w : List Step) → ((s : Step) → In s u → In s w) → steps_age ms u ≤ steps_age ms w
  steps_age_among u w f = steps_age_least u (steps_age ms w) (λ s i. steps_age_in w s (f s i))

-- ---- the age of a pair

pub age_bound : (ms : List Merge) (x y : ℕ) → age ms x y ≤ length ms
unfolding age
age_bound [] x y = omega arith
age_bound (m ∷ ms) x y =
    let h = age_bound ms x y in
    elim (are_equal ms x y) as (λ b. cond b (age ms x y) (suc (length ms)) ≤ suc (length ms)) [ true ↦ omega arith | false ↦ omega arith ]

age_same : (m : Merge) (ms : List Merge) (x y : ℕ) → Same ms x y → age (m ∷ ms) x y ≡ age ms x y
unfolding age
age_same m ms x y s = rw (T_true (are_equal ms x y) (same_equal ms x y s))

age_new : (m : Merge) (ms : List Merge) (x y : ℕ) → (Same ms x y → ⊥) → age (m ∷ ms) x y ≡ suc (length ms)
unfolding age find are_equal
age_new m ms x y h = rw (ne_eqb (find ms x) (find ms y) h)

-- terms that some of the oldest merges make equal
age_old : (r ms : List Merge) (x y : ℕ) → Suffix r ms → Same r x y → age ms x y ≤ length r
age_old r [] x y u s = let h = age_bound [] x y in omega arith
age_old r (m ∷ ms) x y (inl e) s = let h = age_bound (m ∷ ms) x y in let g = ap length e in omega arith
age_old r (m ∷ ms) x y (inr u) s = let h = age_same m ms x y (same_suffix r ms x y u s) in let g = age_old r ms x y u s in omega arith

-- the pairs of the labels on a path were equal before its ends were
path_older : (ms r : List Merge) (x y : ℕ) → Justified ms → Suffix r ms → Same r x y →
    (s : Step) → In s (path ms x y) → (p : ℕ × ℕ) → In p (pairs_of s.just) → age ms p.0 p.1 < age r x y
path_older ms [] x y J u e s i p j = absurd (path_age ms [] x y (justified_joins ms J) u e s i).1
path_older ms (m ∷ r) x y J u e s i p j =
    let (n, o, a) = path_age ms (m ∷ r) x y (justified_joins ms J) u e s i in
    let v = suffix_tail m r ms u in
    elim (same? r x y) [
      | yes h ↦ let k = path_older ms r x y J v h s i p j in omega (arith, age_same m r x y h)
      | no h ↦
          let k = pairs_before m r (justified_suffix (m ∷ r) ms u J) n o p (subst (λ (l : EqJust). In p (pairs_of l)) a.0 j) in
          omega (arith, age_new m r x y h, age_old r ms p.0 p.1 v k)
    ]

-- both parts of the path
pub ways_older : (ms : List Merge) (x y n : ℕ) → Justified ms → Same ms x y → n ≡ common x (way ms x) y (way ms y) →
    (steps_age ms (before n (way ms x)) ≤ age ms x y) × (steps_age ms (before n (way ms y)) ≤ age ms x y)
unfolding path
ways_older ms x y n J e q =
    let c = common x (way ms x) y (way ms y) in
    let u = before c (way ms x) in
    let w = before c (way ms y) in
    rw q (part u (λ s. in_left s u w), part w (λ s. in_right s u w))
  where
    part : (w : List Step) → ((s : Step) → In s w → In s (path ms x y)) → steps_age ms w ≤ age ms x y
    part w f =
        steps_age_least ms w (age ms x y)
        (λ s i. pairs_age_least ms (pairs_of s.just) (age ms x y) (path_older ms ms x y J (suffix_self ms) e s (f s i)))
