-- Equality in a list of merges: an equivalence, what one more merge adds, suffixes, chains over the sides of merges.
use Rattle.shinri_core.proofs.Kit.{ℕ, zero, suc, ◌+◌, ◌≤◌, ◌≡◌, refl, sym, subst, ap, ◌∙◌, ◌⊎◌, inl, inr, Bool, true, false, cond, List, [], ◌∷◌, cons≢nil, tail-eq_of_cons-eq, ℕ_discrete, dec_le, arith, T, leb, eqb, eqb→eq, eq-eqb, ne_eqb, eqb-false, le-leb, lt-leb}
use Rattle.shinri_core.proofs.Lists.{In}
use Rattle.theory.specs.Types.{EqJust}
pub use Rattle.theory.specs.Memory.Replay.{BothSides}
use Rattle.theory.specs.Memory.Replay.{child_of, root_of}
use Rattle.theory.specs.EqEngine.{Merge, Classes, singletons, under, child, root, union, classes, find, are_equal, merge, pop_merges}

-- ---- one class

-- x and y have one root
abbrev pub Same : List Merge → ℕ → ℕ → Type 0
Same ms x y = find ms x ≡ find ms y

pub same_equal : (ms : List Merge) (x y : ℕ) → Same ms x y → T (are_equal ms x y)
unfolding find are_equal
same_equal ms x y e = subst T (sym (eq-eqb (find ms x) (find ms y) e)) tt

pub equal_same : (ms : List Merge) (x y : ℕ) → T (are_equal ms x y) → Same ms x y
unfolding find are_equal
equal_same ms x y t = eqb→eq (find ms x) (find ms y) t

pub unequal : (ms : List Merge) (x y : ℕ) → are_equal ms x y ≡ false → Same ms x y → ⊥
unfolding find are_equal
unequal ms x y f e = eqb-false (find ms x) (find ms y) f e

pub same? : (ms : List Merge) (x y : ℕ) → Dec (Same ms x y)
same? ms x y = ℕ_discrete (find ms x) (find ms y)

pub equal_refl : (ms : List Merge) (x : ℕ) → T (are_equal ms x x)
equal_refl ms x = same_equal ms x x refl

pub equal_sym : (ms : List Merge) (x y : ℕ) → T (are_equal ms x y) → T (are_equal ms y x)
equal_sym ms x y t = same_equal ms y x (sym (equal_same ms x y t))

pub equal_trans : (ms : List Merge) (x y z : ℕ) → T (are_equal ms x y) → T (are_equal ms y z) → T (are_equal ms x z)
equal_trans ms x y z s t = same_equal ms x z (equal_same ms x y s ∙ equal_same ms y z t)

-- with no merges each term is alone
pub find_alone : (x : ℕ) → find [] x ≡ x
unfolding find classes singletons
find_alone x = refl

pub same_alone : (x y : ℕ) → Same [] x y → x ≡ y
same_alone x y e = sym (find_alone x) ∙ e ∙ find_alone y

-- ---- one more merge

-- c and r are the roots of the sides of a merge, in one order or the other
abbrev pub Roots : Merge → List Merge → ℕ → ℕ → Type 0
Roots m ms c r = ((c ≡ find ms m.a) × (r ≡ find ms m.b)) ⊎ ((c ≡ find ms m.b) × (r ≡ find ms m.a))

module _ (m : Merge) (ms : List Merge) where
  -- the two roots, and the classes with the one put under the other
  chosen : Roots m ms (child_of ms m) (root_of ms m) × (classes (m ∷ ms) ≡ under (classes ms) (child_of ms m) (root_of ms m))
  unfolding child_of root_of find classes union child root
  chosen = (go (leb ((classes ms).size (find ms m.b)) ((classes ms).size (find ms m.a))), refl)
    where
      go : (b : Bool) → Roots m ms (cond b (find ms m.b) (find ms m.a)) (cond b (find ms m.a) (find ms m.b))
      go true = inr (refl, refl)
      go false = inl (refl, refl)

  pub roots : Roots m ms (child_of ms m) (root_of ms m)
  roots = chosen.0

  pub find_more : (x : ℕ) → find (m ∷ ms) x ≡ cond (eqb (find ms x) (child_of ms m)) (root_of ms m) (find ms x)
  unfolding find under
  find_more x = ap (λ (c : Classes). c.find x) chosen.1

  pub size_more : (r : ℕ) → (classes (m ∷ ms)).size r ≡
      cond (eqb r (root_of ms m)) ((classes ms).size (child_of ms m) + (classes ms).size (root_of ms m)) ((classes ms).size r)
  unfolding under
  size_more r = ap (λ (c : Classes). c.size r) chosen.1

  -- who had the root that goes under has the other, and all others keep theirs
  pub find_child : (x : ℕ) → find ms x ≡ child_of ms m → find (m ∷ ms) x ≡ root_of ms m
  find_child x e = let d = eq-eqb (find ms x) (child_of ms m) e in find_more x ∙ rw d

  pub find_kept : (x : ℕ) → (find ms x ≡ child_of ms m → ⊥) → find (m ∷ ms) x ≡ find ms x
  find_kept x n = let d = ne_eqb (find ms x) (child_of ms m) n in find_more x ∙ rw d

  pub find_root : (x : ℕ) → find ms x ≡ root_of ms m → find (m ∷ ms) x ≡ root_of ms m
  find_root x e =
      elim (ℕ_discrete (find ms x) (child_of ms m)) [ yes q ↦ find_child x q | no n ↦ find_kept x n ∙ e ]

  -- the two roots differ, if the sides did
  pub roots_apart : are_equal ms m.a m.b ≡ false → child_of ms m ≡ root_of ms m → ⊥
  roots_apart j e =
      unequal ms m.a m.b j (elim roots [ inl (p, q) ↦ sym p ∙ e ∙ q | inr (p, q) ↦ sym q ∙ sym e ∙ p ])

-- x and y over the sides of a merge: x with one side, y with the other
abbrev pub Across : Merge → List Merge → ℕ → ℕ → Type 0
Across m ms x y = (Same ms x m.a × Same ms m.b y) ⊎ (Same ms x m.b × Same ms m.a y)

pub turned_sides : (m : Merge) (p q : ℕ) → BothSides m p q → BothSides m q p
turned_sides m p q (inl (e, f)) = inr (f, e)
turned_sides m p q (inr (e, f)) = inl (f, e)

module _ (m : Merge) (ms : List Merge) where
  -- older equality persists
  pub same_kept : (x y : ℕ) → Same ms x y → Same (m ∷ ms) x y
  same_kept x y e = rw (find_more m ms x, find_more m ms y, e)

  -- the sides are joined
  pub same_sides : Same (m ∷ ms) m.a m.b
  same_sides = elim (roots m ms) [
    | inl (p, q) ↦ find_child m ms m.a (sym p) ∙ sym (find_root m ms m.b (sym q))
    | inr (p, q) ↦ find_root m ms m.a (sym q) ∙ sym (find_child m ms m.b (sym p))
  ]

  -- what was not equal before goes over the new sides
  pub same_split : (x y : ℕ) → Same (m ∷ ms) x y → Same ms x y ⊎ Across m ms x y
  same_split x y e = go (ℕ_discrete (find ms x) (child_of ms m)) (ℕ_discrete (find ms y) (child_of ms m)) (roots m ms)
    where
      go : Dec (find ms x ≡ child_of ms m) → Dec (find ms y ≡ child_of ms m) → Roots m ms (child_of ms m) (root_of ms m) →
          Same ms x y ⊎ Across m ms x y
      go (yes s) (yes t) r = inl (s ∙ sym t)
      go (no h) (no k) r = inl (sym (find_kept m ms x h) ∙ e ∙ find_kept m ms y k)
      go (yes s) (no k) (inl (p, q)) = inr (inl (s ∙ p, sym q ∙ sym (find_child m ms x s) ∙ e ∙ find_kept m ms y k))
      go (yes s) (no k) (inr (p, q)) = inr (inr (s ∙ p, sym q ∙ sym (find_child m ms x s) ∙ e ∙ find_kept m ms y k))
      go (no h) (yes t) (inl (p, q)) = inr (inr (sym (find_kept m ms x h) ∙ e ∙ find_child m ms y t ∙ q, sym p ∙ sym t))
      go (no h) (yes t) (inr (p, q)) = inr (inl (sym (find_kept m ms x h) ∙ e ∙ find_child m ms y t ∙ q, sym p ∙ sym t))

-- ---- suffixes: the merges of some time before

abbrev pub Suffix : List Merge → List Merge → Type 0
Suffix r [] = r ≡ []
Suffix r (m ∷ ms) = (r ≡ m ∷ ms) ⊎ Suffix r ms

pub suffix_self : (ms : List Merge) → Suffix ms ms
suffix_self [] = refl
suffix_self (m ∷ ms) = inl refl

-- what is older than a part's newest merge is older than the whole
pub suffix_tail : (m : Merge) (r ms : List Merge) → Suffix (m ∷ r) ms → Suffix r ms
suffix_tail m r [] e = absurd (cons≢nil e)
suffix_tail m r (n ∷ ms) (inl e) = inr (subst (λ (q : List Merge). Suffix q ms) (sym (tail-eq_of_cons-eq e)) (suffix_self ms))
suffix_tail m r (n ∷ ms) (inr s) = inr (suffix_tail m r ms s)

pub same_suffix : (r ms : List Merge) (x y : ℕ) → Suffix r ms → Same r x y → Same ms x y
same_suffix r [] x y s e = subst (λ (q : List Merge). Same q x y) s e
same_suffix r (m ∷ ms) x y (inl s) e = subst (λ (q : List Merge). Same q x y) s e
same_suffix r (m ∷ ms) x y (inr s) e = same_kept m ms x y (same_suffix r ms x y s e)

pub equal_suffix : (r ms : List Merge) (x y : ℕ) → Suffix r ms → T (are_equal r x y) → T (are_equal ms x y)
equal_suffix r ms x y s t = same_equal ms x y (same_suffix r ms x y s (equal_same r x y t))

pub in_suffix : (r ms : List Merge) (m : Merge) → Suffix r ms → In m r → In m ms
in_suffix r [] m s i = subst (λ (q : List Merge). In m q) s i
in_suffix r (n ∷ ms) m (inl s) i = subst (λ (q : List Merge). In m q) s i
in_suffix r (n ∷ ms) m (inr s) i = inr (in_suffix r ms m s i)

pub pop_suffix : (k : ℕ) (ms : List Merge) → Suffix (pop_merges k ms) ms
unfolding pop_merges
pop_suffix k [] = refl
pop_suffix k (m ∷ ms) =
    let r = pop_merges k ms in
    elim (leb m.level k) as (λ b. Suffix (cond b (m ∷ ms) r) (m ∷ ms)) [ true ↦ inl refl | false ↦ inr (pop_suffix k ms) ]

-- what the lower level keeps, the higher keeps
pub pop_pop : (j k : ℕ) (ms : List Merge) → j ≤ k → pop_merges j (pop_merges k ms) ≡ pop_merges j ms
unfolding pop_merges
pop_pop j k [] l = refl
pop_pop j k (m ∷ ms) l = elim (dec_le m.level k) [
  | yes h ↦ let d = le-leb m.level k h in rw d
  | no h ↦
      let d = lt-leb m.level k (omega arith) in
      let f = lt-leb m.level j (omega arith) in
      rw (d, f, pop_pop j k ms l)
]

-- what a pop would keep, it keeps after one more merge
pub pop_more : (k : ℕ) (m : Merge) (ms : List Merge) → Suffix (pop_merges k ms) (pop_merges k (m ∷ ms))
unfolding pop_merges
pop_more k m ms =
    let r = pop_merges k ms in
    elim (leb m.level k) as (λ b. Suffix r (cond b (m ∷ ms) r)) [ true ↦ inr (pop_suffix k ms) | false ↦ suffix_self r ]

pub merge_equal : (ms : List Merge) (level x y : ℕ) (j : EqJust) → T (are_equal (merge ms level x y j) x y)
unfolding merge
merge_equal ms level x y j =
    let new : Merge = record { a = x; b = y; just = j; level = level } in
    elim (are_equal ms x y) as (λ b. are_equal ms x y ≡ b → T (are_equal (cond b ms (new ∷ ms)) x y)) [
      | true ↦ λ e. rw e tt
      | false ↦ λ e. same_equal (new ∷ ms) x y (same_sides new ms)
    ] refl

-- ---- chains

-- the sides of a merge
abbrev pub Sides : List Merge → ℕ → ℕ → Type 0
Sides ms x y = (m : Merge) × In m ms × (m.a ≡ x) × (m.b ≡ y)

-- n steps over such sides, either way
abbrev pub Linked : List Merge → ℕ → ℕ → ℕ → Type 0
Linked ms zero x y = x ≡ y
Linked ms (suc n) x y = (z : ℕ) × (Sides ms x z ⊎ Sides ms z x) × Linked ms n z y

linked_kept : (m : Merge) (ms : List Merge) (n x y : ℕ) → Linked ms n x y → Linked (m ∷ ms) n x y
linked_kept m ms zero x y e = e
linked_kept m ms (suc n) x y (z, inl (k, i, e, f), l) = (z, inl (k, inr i, e, f), linked_kept m ms n z y l)
linked_kept m ms (suc n) x y (z, inr (k, i, e, f), l) = (z, inr (k, inr i, e, f), linked_kept m ms n z y l)

-- some number of steps
abbrev pub Chained : List Merge → ℕ → ℕ → Type 0
Chained ms x y = (n : ℕ) × Linked ms n x y

chained_on : (ms : List Merge) (n x y z : ℕ) → Linked ms n x y → Chained ms y z → Chained ms x z
chained_on ms zero x y z e (k, l) = (k, subst (λ (w : ℕ). Linked ms k w z) (sym e) l)
chained_on ms (suc n) x y z (w, s, l) c = let (k, h) = chained_on ms n w y z l c in (suc k, (w, s, h))

-- over the newest merge, one way or the other
chained_over : (m : Merge) (ms : List Merge) (x p q y : ℕ) → Sides (m ∷ ms) p q ⊎ Sides (m ∷ ms) q p →
    Chained ms x p → Chained ms q y → Chained (m ∷ ms) x y
chained_over m ms x p q y s (i, l) (j, k) =
    chained_on (m ∷ ms) i x p y (linked_kept m ms i x p l) (suc j, (q, s, linked_kept m ms j q y k))

same_chained : (ms : List Merge) (x y : ℕ) → Same ms x y → Chained ms x y
same_chained [] x y e = (0, same_alone x y e)
same_chained (m ∷ ms) x y e = go (same_split m ms x y e) (same_chained ms)
  where
    go : Same ms x y ⊎ Across m ms x y → ((z w : ℕ) → Same ms z w → Chained ms z w) → Chained (m ∷ ms) x y
    go (inl s) old = let (n, l) = old x y s in (n, linked_kept m ms n x y l)
    go (inr (inl (p, q))) old =
        chained_over m ms x m.a m.b y (inl (m, inl refl, refl, refl)) (old x m.a p) (old m.b y q)
    go (inr (inr (p, q))) old =
        chained_over m ms x m.b m.a y (inr (m, inl refl, refl, refl)) (old x m.b p) (old m.a y q)

pub equal_linked : (ms : List Merge) (x y : ℕ) → T (are_equal ms x y) → (n : ℕ) × Linked ms n x y
equal_linked ms x y t = same_chained ms x y (equal_same ms x y t)
