-- What the functions that explain an equality promise: the parts of an explanation and their ages, and how marks and the answer table
-- stand for the pairs expanded and the leaves met. A caller of the crate needs `Explainable` and `Explains` only.
use Rattle.std.specs.Prelude.{ℕ, zero, suc, ◌-◌, ◌≤◌, ◌<◌, ◌≡◌, Bool, true, false, cond, eqb, leb, length}
use mathlib.Core.List.{List, [], ◌∷◌, ◌++◌, map, foldl}
use Rattle.shinri_core.specs.Lists.{any, range}
use Rattle.shinri_core.specs.Memory.Words.{at}
use Rattle.theory.specs.Types.{EqJust, EqLeaf}
use Rattle.theory.specs.EqEngine.{Merge, Step, Explained, are_equal, pairs_of, pairs_in_force, before, way, path, visit, expand_edge, explain_rec, explain, firsts_after}
use Rattle.theory.specs.Memory.Replay.{IsNode}
use Rattle.theory.specs.Memory.Table.{first_word, pair_at, is_pair, merges, EngineSound}
use Rattle.theory.specs.Memory.Answer.{leaves, AnswerSound}

-- ---- ages

-- how many merges, from the oldest on, make two terms equal; of terms that are not equal, all of them
unfoldable pub age : List Merge → ℕ → ℕ → ℕ
age [] x y = 0
age (m ∷ ms) x y = cond (are_equal ms x y) (age ms x y) (suc (length ms))

unfoldable pub larger : ℕ → ℕ → ℕ
larger m n = cond (leb m n) n m

-- one more than the largest age of some pairs
unfoldable pub pairs_age : List Merge → List (ℕ × ℕ) → ℕ
pairs_age ms [] = 0
pairs_age ms (p ∷ ps) = larger (suc (age ms p.0 p.1)) (pairs_age ms ps)

-- the largest of that over the labels of some steps
unfoldable pub steps_age : List Merge → List Step → ℕ
steps_age ms [] = 0
steps_age ms (s ∷ w) = larger (pairs_age ms (pairs_of s.just)) (steps_age ms w)

-- ---- the parts of an explanation

-- a pair that has not been expanded yet, the steps of a way, a label, argument pairs
pub data Part : Type 0 where
  NewPair : (x y : ℕ) → Part
  Way : List Step → Part
  Label : EqJust → Part
  Pairs : List (ℕ × ℕ) → Part

-- how deep explaining it goes
unfoldable pub part_age : List Merge → Part → ℕ
part_age ms (NewPair x y) = suc (age ms x y)
part_age ms (Way w) = steps_age ms w
part_age ms (Label j) = pairs_age ms (pairs_of j)
part_age ms (Pairs ps) = pairs_age ms ps

unfoldable pub expand_way : List Merge → List Step → ℕ → Explained → Explained
expand_way ms w d e = foldl (λ e' (s : Step). expand_edge (explain_rec d ms) s.just e') e w

unfoldable pub expand_new : List Merge → ℕ → ℕ → ℕ → Explained → Explained
expand_new ms x y zero e = e
expand_new ms x y (suc d) e = let r = expand_way ms (path ms x y) d (visit x y e) in cond (eqb x y) e r

-- of a table, part p is not older than part q
abbrev pub NotOlder : List ℕ → Part → Part → Type 0
NotOlder t p q = part_age (merges t) p ≤ part_age (merges t) q

-- what it makes of an explanation, at a depth
unfoldable pub expand : List Merge → Part → ℕ → Explained → Explained
expand ms (NewPair x y) d e = expand_new ms x y d e
expand ms (Way w) d e = expand_way ms w d e
expand ms (Label j) d e = expand_edge (explain_rec d ms) j e
expand ms (Pairs ps) d e = foldl (λ e' (p : ℕ × ℕ). explain_rec d ms p.0 p.1 e') e ps

-- the steps of the forest from a node up to one above it
abbrev pub up_to : List ℕ → ℕ → ℕ → List Step
up_to t node top = before top (way (merges t) node)

-- the argument pairs of a table from one number up to another
unfoldable pub pairs_from : List ℕ → ℕ → ℕ → List (ℕ × ℕ)
pairs_from t from to = map (pair_at t) (range from (to - from))

-- ---- marks and leaves

-- the marks are one region, one for each argument pair in force at least
abbrev pub MARKS : ℕ
MARKS = 0

-- a mark is any number but 0
unfoldable pub marked : ℕ → Bool
marked zero = false
marked (suc n) = true

-- the mark of argument pair j: that of the first pair of the same nodes
abbrev pub mark_of : List ℕ → List ℕ → ℕ → Bool
mark_of t marks j = marked (at marks MARKS (first_word t j))

-- The table holds the first occurrences of the leaves met, after those seen before; a pair in force is marked where it, in
-- either order, has been expanded.
pub record Shows (t marks out : List ℕ) (seen : List EqLeaf) (e : Explained) : Type 0 where
  pub listed : leaves out ≡ seen ++ firsts_after seen e.leaves
  pub marks_are : (j : ℕ) → j < pairs_in_force (merges t) → mark_of t marks j ≡ any (is_pair t j) e.visited

-- the tables that an explanation works on
pub record Explaining (t marks out : List ℕ) : Type 0 where
  pub engine : EngineSound t
  pub answer : AnswerSound (merges t) out
  pub long : pairs_in_force (merges t) ≤ length marks

-- If the tables before show an explanation, those after show what the part makes of it, at every depth from its age on.
pub record Goes (t marks out marks' out' : List ℕ) (p : Part) : Type 0 where
  pub answer : AnswerSound (merges t) out'
  pub shows : (d : ℕ) (seen : List EqLeaf) (e : Explained) → part_age (merges t) p ≤ d →
      Shows t marks out seen e → Shows t marks' out' seen (expand (merges t) p d e)

-- ---- what the functions ask

pub record EqualNodes (t : List ℕ) (a b : ℕ) : Type 0 where
  pub first : IsNode a
  pub second : IsNode b
  pub equal : are_equal (merges t) a b ≡ true

-- argument pair j is in force, of equal nodes
pub record EqualPair (t : List ℕ) (j : ℕ) : Type 0 where
  pub in_force : j < pairs_in_force (merges t)
  pub nodes : EqualNodes t (pair_at t j).0 (pair_at t j).1

pub record PairsEqual (t : List ℕ) (from to : ℕ) : Type 0 where
  pub ordered : from ≤ to
  pub each : (j : ℕ) → from ≤ j → j < to → EqualPair t j

-- ls is ks with the pairs in force that are a and b, in either order, marked
pub record MarksPair (t : List ℕ) (a b : ℕ) (ks ls : List ℕ) : Type 0 where
  pub each : (j : ℕ) → j < pairs_in_force (merges t) → mark_of t ls j ≡ cond (is_pair t j (a, b)) true (mark_of t ks j)

-- two equal terms, and an answer table for what their equality rests on
pub record Explainable (t : List ℕ) (a b : ℕ) (out : List ℕ) : Type 0 where
  pub sound : EngineSound t
  pub first : IsNode a
  pub second : IsNode b
  pub equal : are_equal (merges t) a b ≡ true
  pub answer : AnswerSound (merges t) out

-- the leaves that are new are appended in order
pub record Explains (t : List ℕ) (a b : ℕ) (out out' : List ℕ) : Type 0 where
  pub sound : AnswerSound (merges t) out'
  pub listed : leaves out' ≡ leaves out ++ firsts_after (leaves out) (explain (merges t) a b)
