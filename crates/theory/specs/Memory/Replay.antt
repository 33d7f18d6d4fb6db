-- What the list of merges says of each node: the union-find and the proof forest as the source keeps them. No table stands here; that of the
-- engine is sound when its words say the same.
use Rattle.std.specs.Prelude.{ℕ, ◌<◌, ◌≡◌, false, cond, List, [], ◌∷◌, map, ◌⊎◌, T, eqb}
use Rattle.shinri_core.specs.Limits.{max_terms}
use Rattle.shinri_core.specs.Lists.{In}
use Rattle.theory.specs.EqEngine.{Merge, child, root, classes, are_equal, pairs_of, Step}

abbrev pub IsNode : ℕ → Type 0
IsNode x = x < max_terms

-- ---- the union-find

-- the root that a merge put under the other, and the other
unfoldable pub child_of : List Merge → Merge → ℕ
child_of ms m = let c = classes ms in child c.size (c.find m.a) (c.find m.b)

unfoldable pub root_of : List Merge → Merge → ℕ
root_of ms m = let c = classes ms in root c.size (c.find m.a) (c.find m.b)

-- the parent of a node: a root is its own
unfoldable pub parent : List Merge → ℕ → ℕ
parent [] x = x
parent (m ∷ ms) x = cond (eqb x (child_of ms m)) (root_of ms m) (parent ms x)

-- ---- the forest

-- the node that a way ends in
abbrev pub end : ℕ → List Step → ℕ
end x [] = x
end x (s ∷ w) = end s.up w

-- two terms are the sides of a merge, in one order or the other
abbrev pub BothSides : Merge → ℕ → ℕ → Type 0
BothSides m x y = ((x ≡ m.a) × (y ≡ m.b)) ⊎ ((x ≡ m.b) × (y ≡ m.a))

-- the nodes that steps reach
abbrev pub ups : List Step → List ℕ
ups w = map (λ (s : Step). s.up) w

-- n is a node of the steps w from x
abbrev pub On : ℕ → ℕ → List Step → Type 0
On n x w = In n (x ∷ ups w)

-- ---- what merges rest on

-- each merge joined two classes, and the pairs of its label were equal then
abbrev pub Justified : List Merge → Type 0
Justified [] = Unit {0}
Justified (m ∷ ms) =
    (are_equal ms m.a m.b ≡ false)
    × ((p : ℕ × ℕ) → In p (pairs_of m.just) → T (are_equal ms p.0 p.1))
    × Justified ms

-- pairs of nodes that are equal in a list of merges
abbrev pub EqualPairs : List Merge → List (ℕ × ℕ) → Type 0
EqualPairs ms ps = (p : ℕ × ℕ) → In p ps → T (are_equal ms p.0 p.1) × IsNode p.0 × IsNode p.1
