-- The union-find as parents: a walk up the parents ends in the root that `find` gives.
use Rattle.shinri_core.proofs.Kit.{ℕ, suc, ◌<◌, ◌≡◌, refl, sym, ap, ◌∙◌, ◌⊎◌, inl, inr, true, false, cond, List, [], ◌∷◌, arith, ℕ_discrete, eqb, eq-eqb, ne_eqb}
use Rattle.theory.specs.EqEngine.{Merge, find, are_equal}
use Rattle.theory.specs.Memory.Replay.{child_of, root_of, parent}
use Rattle.theory.proofs.Classes.{find_alone, find_more, find_child, find_kept, roots_apart}
use Rattle.theory.proofs.Forest.{Joins}
use Rattle.theory.proofs.Sizes.{child_rooted, root_rooted, Within, root_within}

-- ---- how far a node is from its root

unfoldable pub depth : List Merge → ℕ → ℕ
depth [] x = 0
depth (m ∷ ms) x = cond (eqb (find ms x) (child_of ms m)) (suc (depth ms x)) (depth ms x)

depth_child : (m : Merge) (ms : List Merge) (x : ℕ) → find ms x ≡ child_of ms m → depth (m ∷ ms) x ≡ suc (depth ms x)
unfolding depth
depth_child m ms x e = rw (eq-eqb (find ms x) (child_of ms m) e)

depth_kept : (m : Merge) (ms : List Merge) (x : ℕ) → (find ms x ≡ child_of ms m → ⊥) → depth (m ∷ ms) x ≡ depth ms x
unfolding depth
depth_kept m ms x n = rw (ne_eqb (find ms x) (child_of ms m) n)

pub parent_child : (m : Merge) (ms : List Merge) (x : ℕ) → x ≡ child_of ms m → parent (m ∷ ms) x ≡ root_of ms m
unfolding parent
parent_child m ms x e = rw (eq-eqb x (child_of ms m) e)

pub parent_kept : (m : Merge) (ms : List Merge) (x : ℕ) → (x ≡ child_of ms m → ⊥) → parent (m ∷ ms) x ≡ parent ms x
unfolding parent
parent_kept m ms x n = rw (ne_eqb x (child_of ms m) n)

-- a root is at no distance
root_depth : (ms : List Merge) → Joins ms → (r : ℕ) → find ms r ≡ r → depth ms r ≡ 0
unfolding depth
root_depth [] js r e = refl
root_depth (m ∷ ms) (j, js) r e = elim (ℕ_discrete (find ms r) (child_of ms m)) [
  | yes q ↦ absurd (roots_apart m ms j (sym q ∙ ap (find ms) (sym e ∙ find_child m ms r q) ∙ root_rooted m ms))
  | no n ↦ depth_kept m ms r n ∙ root_depth ms js r (sym (find_kept m ms r n) ∙ e)
]

-- what is known of a node and its parent: the node is a root, or its parent is nearer to the same root
abbrev pub Up : List Merge → ℕ → Type 0
Up ms x =
    ((parent ms x ≡ x) × (find ms x ≡ x))
    ⊎ ((parent ms x ≡ x → ⊥) × (find ms (parent ms x) ≡ find ms x) × (depth ms (parent ms x) < depth ms x))

module _ (m : Merge) (ms : List Merge) (j : are_equal ms m.a m.b ≡ false) (js : Joins ms) (x : ℕ) where
  not_child : find ms (root_of ms m) ≡ child_of ms m → ⊥
  not_child q = roots_apart m ms j (sym q ∙ root_rooted m ms)

  -- the root that went under
  up_child : x ≡ child_of ms m → Up (m ∷ ms) x
  up_child e =
      let p = parent_child m ms x e in
      let r = ap (find ms) e ∙ child_rooted m ms in
      let d = root_depth ms js (root_of ms m) (root_rooted m ms) in
      inr (
        (λ q. roots_apart m ms j (sym e ∙ sym q ∙ p)),
        ap (find (m ∷ ms)) p ∙ find_kept m ms (root_of ms m) not_child ∙ root_rooted m ms ∙ sym (find_child m ms x r),
        rw p (omega (arith, depth_child m ms x r, depth_kept m ms (root_of ms m) not_child)),
      )

  -- any other root
  up_root : (x ≡ child_of ms m → ⊥) → parent ms x ≡ x → find ms x ≡ x → Up (m ∷ ms) x
  up_root n p f = inl (parent_kept m ms x n ∙ p, find_kept m ms x (λ q. n (sym f ∙ q)) ∙ f)

  -- any other node
  up_node : (x ≡ child_of ms m → ⊥) → (parent ms x ≡ x → ⊥) → find ms (parent ms x) ≡ find ms x →
      depth ms (parent ms x) < depth ms x → Up (m ∷ ms) x
  up_node n p f d =
      let e = parent_kept m ms x n in
      inr ((λ q. p (sym e ∙ q)), rw (e, find_more m ms (parent ms x), find_more m ms x, f), rw e nearer)
    where
      nearer : depth (m ∷ ms) (parent ms x) < depth (m ∷ ms) x
      nearer = elim (ℕ_discrete (find ms x) (child_of ms m)) [
        | yes q ↦ omega (arith, depth_child m ms (parent ms x) (f ∙ q), depth_child m ms x q)
        | no q ↦ omega (arith, depth_kept m ms (parent ms x) (λ w. q (sym f ∙ w)), depth_kept m ms x q)
      ]

pub up : (ms : List Merge) → Joins ms → (x : ℕ) → Up ms x
unfolding parent
up [] js x = inl (refl, find_alone x)
up (m ∷ ms) (j, js) x = go (ℕ_discrete x (child_of ms m)) (up ms js x)
  where
    go : Dec (x ≡ child_of ms m) → Up ms x → Up (m ∷ ms) x
    go (yes e) u = up_child m ms j js x e
    go (no n) (inl (p, f)) = up_root m ms j js x n p f
    go (no n) (inr (p, f, d)) = up_node m ms j js x n p f d

-- the root that goes under was its own parent
pub child_parent : (m : Merge) (ms : List Merge) → Joins ms → parent ms (child_of ms m) ≡ child_of ms m
child_parent m ms js = elim (up ms js (child_of ms m)) [
  | inl (p, f) ↦ p
  | inr (n, f, l) ↦ let d = root_depth ms js (child_of ms m) (child_rooted m ms) in absurd (omega arith)
]

-- a node's parent is a node
pub parent_within : (n : ℕ) (ms : List Merge) → Within n ms → (x : ℕ) → x < n → parent ms x < n
unfolding parent
parent_within n [] w x h = h
parent_within n (m ∷ ms) w x h =
    let old : Within n ms = λ k i. w k (inr i) in
    elim (eqb x (child_of ms m)) as (λ b. cond b (root_of ms m) (parent ms x) < n) [
      | true ↦ root_within n m ms old (w m (inl refl))
      | false ↦ parent_within n ms old x h
    ]
