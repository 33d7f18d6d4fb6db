-- Sizes of classes, and bounds: merges among N terms are fewer than N, and a class has at most one term more than there are merges.
use Rattle.shinri_core.proofs.Kit.{ℕ, suc, ◌+◌, ◌≤◌, ◌<◌, ◌≡◌, refl, sym, subst, ap, ◌∙◌, inl, inr, ⊎_elim, false, List, [], ◌∷◌, map, ℕ_discrete, arith, length, eq-eqb, ne_eqb}
use Rattle.shinri_core.specs.Lists.{range, total}
use Rattle.shinri_core.proofs.Lists.{In, in_range, length_range}
use Rattle.theory.specs.EqEngine.{Merge, singletons, classes, find, are_equal}
use Rattle.theory.proofs.Members.{Apart, apart_length}
use Rattle.theory.specs.Memory.Replay.{child_of, root_of}
use Rattle.theory.proofs.Classes.{find_alone, roots, size_more, find_child, find_kept, find_root, roots_apart}
use Rattle.theory.proofs.Forest.{Joins}

-- ---- roots

-- the root of a side is a root, where all roots were
side_rooted : (ms : List Merge) (m : Merge) → ((z : ℕ) → find ms (find ms z) ≡ find ms z) →
    (find ms (child_of ms m) ≡ child_of ms m) × (find ms (root_of ms m) ≡ root_of ms m)
side_rooted ms m f =
    let own : (r z : ℕ) → r ≡ find ms z → find ms r ≡ r = λ r z e. ap (find ms) e ∙ f z ∙ sym e in
    elim (roots m ms) [
      | inl (p, q) ↦ (own (child_of ms m) m.a p, own (root_of ms m) m.b q)
      | inr (p, q) ↦ (own (child_of ms m) m.b p, own (root_of ms m) m.a q)
    ]

-- the root of a term is its own root
pub find_find : (ms : List Merge) (x : ℕ) → find ms (find ms x) ≡ find ms x
find_find [] x = ap (find []) (find_alone x)
find_find (m ∷ ms) x = elim (ℕ_discrete (find ms x) (child_of ms m)) [
  | yes s ↦ let e = find_child m ms x s in rw (e, find_root m ms (root_of ms m) (side_rooted ms m (find_find ms)).1)
  | no k ↦ let e = find_kept m ms x k in rw (e, find_kept m ms (find ms x) (λ s. k (sym (find_find ms x) ∙ s)), find_find ms x)
]

pub child_rooted : (m : Merge) (ms : List Merge) → find ms (child_of ms m) ≡ child_of ms m
child_rooted m ms = (side_rooted ms m (find_find ms)).0

pub root_rooted : (m : Merge) (ms : List Merge) → find ms (root_of ms m) ≡ root_of ms m
root_rooted m ms = (side_rooted ms m (find_find ms)).1

-- a root after the merge was one before, and is not the one that went under
root_stays : (m : Merge) (ms : List Merge) → are_equal ms m.a m.b ≡ false → (r : ℕ) → find (m ∷ ms) r ≡ r →
    (find ms r ≡ r) × (r ≡ child_of ms m → ⊥)
root_stays m ms j r e = elim (ℕ_discrete (find ms r) (child_of ms m)) [
  | yes s ↦ absurd (roots_apart m ms j (sym s ∙ ap (find ms) (sym e ∙ find_child m ms r s) ∙ root_rooted m ms))
  | no h ↦ let q = sym (find_kept m ms r h) ∙ e in (q, λ p. h (q ∙ p))
]

-- the sides of all merges are terms below n
abbrev pub Within : ℕ → List Merge → Type 0
Within n ms = (m : Merge) → In m ms → (m.a < n) × (m.b < n)

-- the roots of a merge of terms below n are below n, where all roots were
roots_within : (n : ℕ) (m : Merge) (ms : List Merge) → ((z : ℕ) → z < n → find ms z < n) → (m.a < n) × (m.b < n) →
    (child_of ms m < n) × (root_of ms m < n)
roots_within n m ms f h =
    let a = f m.a h.0 in
    let b = f m.b h.1 in
    elim (roots m ms) [ inl (p, q) ↦ omega arith | inr (p, q) ↦ omega arith ]

pub find_within : (n : ℕ) (ms : List Merge) → Within n ms → (x : ℕ) → x < n → find ms x < n
find_within n [] w x l = subst (λ (z : ℕ). z < n) (sym (find_alone x)) l
find_within n (m ∷ ms) w x l =
    let f : (z : ℕ) → z < n → find ms z < n = find_within n ms (λ k i. w k (inr i)) in
    elim (ℕ_discrete (find ms x) (child_of ms m)) [
      | yes s ↦ let e = find_child m ms x s in let b = roots_within n m ms f (w m (inl refl)) in omega arith
      | no k ↦ let e = find_kept m ms x k in let b = f x l in omega arith
    ]

module _ (n : ℕ) (m : Merge) (ms : List Merge) (w : Within n ms) (h : (m.a < n) × (m.b < n)) where
  pub child_within : child_of ms m < n
  child_within = (roots_within n m ms (find_within n ms w) h).0

  pub root_within : root_of ms m < n
  root_within = (roots_within n m ms (find_within n ms w) h).1

-- ---- merges are fewer than terms

-- the roots that went under, one for each merge: different, and no longer anyone's root
record Gone (n : ℕ) (ms : List Merge) : Type 0 where
  gone : List ℕ
  count : length gone ≡ length ms
  apart : Apart gone
  never : (x : ℕ) → In (find ms x) gone → ⊥
  within : (r : ℕ) → In r gone → r < n

gone_more : (n : ℕ) (m : Merge) (ms : List Merge) → are_equal ms m.a m.b ≡ false → Within n (m ∷ ms) → Gone n ms → Gone n (m ∷ ms)
gone_more n m ms j w g = record {
  gone = child_of ms m ∷ g.gone;
  count = ap suc g.count;
  apart = (now_gone (child_of ms m) (child_rooted m ms), g.apart);
  never = λ x i. never x (ℕ_discrete (find ms x) (child_of ms m)) i;
  within = within;
}
  where
    now_gone : (r : ℕ) → find ms r ≡ r → In r g.gone → ⊥
    now_gone r e i = g.never r (subst (λ (z : ℕ). In z g.gone) (sym e) i)

    never : (x : ℕ) → Dec (find ms x ≡ child_of ms m) → In (find (m ∷ ms) x) (child_of ms m ∷ g.gone) → ⊥
    never x (yes s) (inl e) = roots_apart m ms j (sym e ∙ find_child m ms x s)
    never x (yes s) (inr i) = now_gone (root_of ms m) (root_rooted m ms) (subst (λ (z : ℕ). In z g.gone) (find_child m ms x s) i)
    never x (no h) (inl e) = h (sym (find_kept m ms x h) ∙ e)
    never x (no h) (inr i) = g.never x (subst (λ (z : ℕ). In z g.gone) (find_kept m ms x h) i)

    within : (r : ℕ) → In r (child_of ms m ∷ g.gone) → r < n
    within r (inl e) = let b = child_within n m ms (λ k i. w k (inr i)) (w m (inl refl)) in omega arith
    within r (inr i) = g.within r i

gone_of : (n : ℕ) (ms : List Merge) → Joins ms → Within n ms → Gone n ms
gone_of n [] j w = record { gone = []; count = refl; apart = tt; never = λ x i. i; within = λ r i. absurd i }
gone_of n (m ∷ ms) j w = gone_more n m ms j.0 w (gone_of n ms j.1 (λ k i. w k (inr i)))

-- Merges among n terms are fewer than n.
pub merges_fewer : (n : ℕ) (ms : List Merge) → 0 < n → Joins ms → Within n ms → length ms < n
merges_fewer n ms l j w =
    let g = gone_of n ms j w in
    let below : (z : ℕ) → In z (find ms 0 ∷ g.gone) → z < 0 + n =
    λ z. ⊎_elim (λ e. let h = find_within n ms w 0 l in omega arith) (λ i. let h = g.within z i in omega arith) in
    let h = apart_length (find ms 0 ∷ g.gone) (range 0 n) (g.never 0, g.apart) (λ z i. in_range 0 n z (omega arith) (below z i)) in
    omega (arith, length_range 0 n, g.count)

-- ---- classes are small

-- the sizes of some roots together
abbrev sizes : List Merge → List ℕ → ℕ
sizes ms rs = total (map (λ r. (classes ms).size r) rs)

module _ (m : Merge) (ms : List Merge) where
  pub size_other : (r : ℕ) → (r ≡ root_of ms m → ⊥) → (classes (m ∷ ms)).size r ≡ (classes ms).size r
  size_other r h = let d = ne_eqb r (root_of ms m) h in size_more m ms r ∙ rw d

  pub size_root : (r : ℕ) → r ≡ root_of ms m → (classes (m ∷ ms)).size r ≡ (classes ms).size (child_of ms m) + (classes ms).size r
  size_root r e = let d = eq-eqb r (root_of ms m) e in size_more m ms r ∙ rw d (rw e)

  sizes_other : (rs : List ℕ) → (In (root_of ms m) rs → ⊥) → sizes (m ∷ ms) rs ≡ sizes ms rs
  unfolding total
  sizes_other [] h = refl
  sizes_other (r ∷ rs) h = let e = size_other r (λ q. h (inl (sym q))) in let f = sizes_other rs (λ i. h (inr i)) in omega arith

  -- different roots together gain at most the class that went under
  sizes_grow : (rs : List ℕ) → Apart rs → sizes (m ∷ ms) rs ≤ (classes ms).size (child_of ms m) + sizes ms rs
  unfolding total
  sizes_grow [] a = omega arith
  sizes_grow (r ∷ rs) (h, a) =
      let l = sizes_grow rs a in
      elim (ℕ_discrete r (root_of ms m)) [
        | yes e ↦ omega (arith, size_root r e, sizes_other rs (λ i. h (subst (λ (z : ℕ). In z rs) (sym e) i)))
        | no k ↦ omega (arith, size_other r k)
      ]

sizes_alone : (rs : List ℕ) → sizes [] rs ≡ length rs
unfolding total classes singletons
sizes_alone [] = refl
sizes_alone (r ∷ rs) = let e = sizes_alone rs in omega arith

-- Different roots have together at most one term each and one for each merge.
pub sizes_bound : (ms : List Merge) → Joins ms → (rs : List ℕ) → Apart rs → ((r : ℕ) → In r rs → find ms r ≡ r) →
    sizes ms rs ≤ length ms + length rs
unfolding total
sizes_bound [] j rs a f = omega (arith, sizes_alone rs)
sizes_bound (m ∷ ms) j rs a f =
    let old = sizes_bound ms j.1 (child_of ms m ∷ rs) ((λ i. (stays (child_of ms m) i).1 refl), a) rooted in
    omega (arith, sizes_grow m ms rs a)
  where
    stays : (r : ℕ) → In r rs → (find ms r ≡ r) × (r ≡ child_of ms m → ⊥)
    stays r i = root_stays m ms j.0 r (f r i)

    rooted : (r : ℕ) → In r (child_of ms m ∷ rs) → find ms r ≡ r
    rooted r (inl e) = ap (find ms) e ∙ child_rooted m ms ∙ sym e
    rooted r (inr i) = (stays r i).0

-- two classes together
sizes_two : (ms : List Merge) (m : Merge) → Joins (m ∷ ms) →
    (classes ms).size (child_of ms m) + (classes ms).size (root_of ms m) ≤ length ms + 2
unfolding total
sizes_two ms m j =
    let two : Apart (child_of ms m ∷ root_of ms m ∷ []) = (⊎_elim (roots_apart m ms j.0) (λ i. i), (λ i. i, tt)) in
    let rooted : (r : ℕ) → In r (child_of ms m ∷ root_of ms m ∷ []) → find ms r ≡ r = λ r. ⊎_elim
    (λ e. rw (e, child_rooted m ms)) (⊎_elim (λ e. rw (e, root_rooted m ms)) (λ i. absurd i)) in
    omega (arith, sizes_bound ms j.1 (child_of ms m ∷ root_of ms m ∷ []) two rooted)

-- Any size, also one that went under, is at most one more than the number of merges.
pub size_bound : (ms : List Merge) → Joins ms → (r : ℕ) → (classes ms).size r ≤ suc (length ms)
unfolding classes singletons
size_bound [] j r = omega arith
size_bound (m ∷ ms) j r =
    let l = size_bound ms j.1 r in
    elim (ℕ_discrete r (root_of ms m)) [
      | yes e ↦ let h = ap (λ (z : ℕ). (classes ms).size z) e in omega (arith, size_root m ms r e, sizes_two ms m j)
      | no k ↦ omega (arith, size_other m ms r k)
    ]
