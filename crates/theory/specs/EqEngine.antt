-- The equality engine (eq_engine.rs) as one list: the merges in force that joined two classes, newest first. Classes, the
-- proof forest and explanations are functions of this list. A node is its term.
use Rattle.std.specs.Prelude.{ℕ, zero, suc, ◌+◌, Bool, cond, ◌&&◌, ◌||◌, eqb, leb, length}
use mathlib.Core.List.{List, [], ◌∷◌, ◌++◌, map, foldl}
use Rattle.std.proofs.Math.Option.{get_or}
use Rattle.shinri_core.specs.Lists.{any, first, mem, total}
use Rattle.theory.specs.Types.{EqJust, Asserted, Congruence, Interface, EqLeaf, AssertedLeaf, InterfaceLeaf, same_leaf}

-- a merge that joined the classes of a and b, at the level it came at
pub record Merge : Type 0 where
  pub a : ℕ
  pub b : ℕ
  pub just : EqJust
  pub level : ℕ

-- ---- classes

-- the root of each term's class, and how many terms the class of each root has
pub record Classes : Type 0 where
  pub find : ℕ → ℕ
  pub size : ℕ → ℕ

unfoldable pub singletons : Classes
singletons = record { find = λ x. x; size = λ r. 1 }

-- the class of root child goes under the root
unfoldable pub under : Classes → ℕ → ℕ → Classes
under c child root = record {
  find = λ x. let r = c.find x in cond (eqb r child) root r;
  size = λ r. cond (eqb r root) (c.size child + c.size root) (c.size r);
}

-- The smaller class goes under the larger; on a tie the first side's root stays. Of two roots, the one that goes under, and the other:
unfoldable pub child : (ℕ → ℕ) → ℕ → ℕ → ℕ
child size ra rb = cond (leb (size rb) (size ra)) rb ra

unfoldable pub root : (ℕ → ℕ) → ℕ → ℕ → ℕ
root size ra rb = cond (leb (size rb) (size ra)) ra rb

unfoldable pub union : Classes → ℕ → ℕ → Classes
union c a b =
    let ra = c.find a in
    let rb = c.find b in
    under c (child c.size ra rb) (root c.size ra rb)

unfoldable pub classes : List Merge → Classes
classes [] = singletons
classes (m ∷ ms) = union (classes ms) m.a m.b

unfoldable pub find : List Merge → ℕ → ℕ
find ms x = (classes ms).find x

-- 01: equal now, in one class
unfoldable pub are_equal : List Merge → ℕ → ℕ → Bool
are_equal ms x y = let c = classes ms in eqb (c.find x) (c.find y)

-- ---- merging, levels

-- Merging within one class does nothing and takes no pairs.
unfoldable pub merge : List Merge → ℕ → ℕ → ℕ → EqJust → List Merge
merge ms level x y j = cond (are_equal ms x y) ms (record { a = x; b = y; just = j; level = level } ∷ ms)

-- the merges of level k or lower: pop to k drops the newest, of a higher level
unfoldable pub pop_merges : ℕ → List Merge → List Merge
pop_merges k [] = []
pop_merges k (m ∷ ms) = let r = pop_merges k ms in cond (leb m.level k) (m ∷ ms) r

unfoldable pub pairs_of : EqJust → List (ℕ × ℕ)
pairs_of (Asserted l) = []
pairs_of (Congruence ps) = ps
pairs_of (Interface h g) = []

-- 01: pairs in force
unfoldable pub pairs_in_force : List Merge → ℕ
pairs_in_force ms = total (map (λ (m : Merge). length (pairs_of m.just)) ms)

-- ---- the proof forest

-- an edge of the forest, walked from node to up
pub record Step : Type 0 where
  pub node : ℕ
  pub up : ℕ
  pub just : EqJust

-- the edges before a node is reached
unfoldable pub before : ℕ → List Step → List Step
before n [] = []
before n (s ∷ w) = let r = s ∷ before n w in cond (eqb s.node n) [] r

-- the same edges walked back
unfoldable pub turned : List Step → List Step
turned [] = []
turned (s ∷ w) = turned w ++ (record { node = s.up; up = s.node; just = s.just } ∷ [])

-- the nodes of a way from x
unfoldable pub nodes : ℕ → List Step → List ℕ
nodes x w = x ∷ map (λ (s : Step). s.up) w

-- the nearest common ancestor of two terms, by their ways up: the first node of y's way that x's way has. In one class the
-- ways end in one root, so there is one.
unfoldable pub common : ℕ → List Step → ℕ → List Step → ℕ
common x wx y wy = get_or (first (λ n. mem n (nodes x wx)) (nodes y wy)) y

-- the way from x to a, then over the new edge and on from b
unfoldable pub rehung : ℕ → List Step → Merge → List Step → List Step → List Step
rehung x wx m wa wb =
    let n = common x wx m.a wa in
    before n wx ++ turned (before n wa) ++ (record { node = m.a; up = m.b; just = m.just } ∷ wb)

-- the edges from a term up to the root of its tree. A merge turns the tree of its first side and hangs it under the second:
-- whoever was in the first side's class goes to the first side, and from there over the new edge.
unfoldable pub way : List Merge → ℕ → List Step
way [] = λ x. []
way (m ∷ ms) =
    let w = way ms in
    let c = classes ms in
    let wa = w m.a in
    let wb = w m.b in
    let ra = c.find m.a in
    λ x. let wx = w x in let r = rehung x wx m wa wb in cond (eqb (c.find x) ra) r wx

-- ---- explanation

-- the pairs expanded so far, and the leaves met, in order
pub record Explained : Type 0 where
  pub visited : List (ℕ × ℕ)
  pub leaves : List EqLeaf

unfoldable pub same_pair : ℕ → ℕ → ℕ × ℕ → Bool
same_pair x y p = (eqb x p.0 && eqb y p.1) || (eqb x p.1 && eqb y p.0)

unfoldable pub visit : ℕ → ℕ → Explained → Explained
visit x y e = record { visited = (x, y) ∷ e.visited; leaves = e.leaves }

unfoldable pub cite : EqLeaf → Explained → Explained
cite l e = record { visited = e.visited; leaves = e.leaves ++ (l ∷ []) }

-- First term up to the nearest common ancestor, then the second.
unfoldable pub path : List Merge → ℕ → ℕ → List Step
path ms x y =
    let w = way ms in
    let wx = w x in
    let wy = w y in
    let n = common x wx y wy in
    before n wx ++ before n wy

-- A congruence label explains its pairs in turn.
unfoldable pub expand_edge : (ℕ → ℕ → Explained → Explained) → EqJust → Explained → Explained
expand_edge explain_pair (Asserted l) e = cite (AssertedLeaf l) e
expand_edge explain_pair (Interface h g) e = cite (InterfaceLeaf h g) e
expand_edge explain_pair (Congruence ps) e = foldl (λ e' (p : ℕ × ℕ). explain_pair p.0 p.1 e') e ps

-- Identical nodes add no leaf; an expanded pair, in either order, is skipped. The first number bounds the depth: the pairs of a
-- congruence were joined by older merges, so one more than there are merges is enough.
unfoldable pub explain_rec : ℕ → List Merge → ℕ → ℕ → Explained → Explained
explain_rec zero ms x y e = e
explain_rec (suc k) ms x y e =
    let r = foldl (λ e' (s : Step). expand_edge (explain_rec k ms) s.just e') (visit x y e) (path ms x y) in
    cond (eqb x y || any (same_pair x y) e.visited) e r

unfoldable pub explain : List Merge → ℕ → ℕ → List EqLeaf
explain ms x y = (explain_rec (suc (length ms)) ms x y (record { visited = []; leaves = [] })).leaves

-- a leaf list with first occurrences only
unfoldable pub firsts_after : List EqLeaf → List EqLeaf → List EqLeaf
firsts_after seen [] = []
firsts_after seen (l ∷ ls) =
    let r = firsts_after seen ls in
    let new = l ∷ firsts_after (l ∷ seen) ls in
    cond (any (same_leaf l) seen) r new

unfoldable pub firsts : List EqLeaf → List EqLeaf
firsts ls = firsts_after [] ls
