-- Small examples of classes and explanations, in one table, and that the definition gives each row.
use Rattle.std.specs.Prelude.{ℕ, Bool, true, false, cond, ◌&&◌, T, eqb}
use mathlib.Core.List.{List, [], ◌∷◌, foldl}
use Rattle.shinri_core.specs.Lists.{every}
use Rattle.shinri_core.specs.Unfolding.{core_definitions}
use Rattle.theory.specs.Types.{EqJust, Asserted, Congruence, Interface, EqLeaf, AssertedLeaf, InterfaceLeaf, same_leaf}
use Rattle.theory.specs.EqEngine.{Merge, merge, find, explain, firsts, pop_merges}
use Rattle.theory.specs.Unfolding.{theory_definitions}

-- a merge line: its sides, its label and its level
pub record Line : Type 0 where
  pub x : ℕ
  pub y : ℕ
  pub just : EqJust
  pub level : ℕ

abbrev line : ℕ → ℕ → EqJust → Line
line x y j = record { x = x; y = y; just = j; level = 0 }

abbrev at_level : ℕ → ℕ → ℕ → EqJust → Line
at_level k x y j = record { x = x; y = y; just = j; level = k }

-- merges in order, the pop after them, then two terms: the root of the first one's class, and why the two are equal
pub record Example : Type 0 where
  pub lines : List Line
  pub pop : ℕ
  pub x : ℕ
  pub y : ℕ
  pub root : ℕ
  pub leaves : List EqLeaf

unfoldable pub merges : Example → List Merge
merges e = pop_merges e.pop (foldl (λ ms (l : Line). merge ms l.level l.x l.y l.just) [] e.lines)

unfoldable pub same_leaves : List EqLeaf → List EqLeaf → Bool
same_leaves [] [] = true
same_leaves [] (m ∷ ms) = false
same_leaves (l ∷ ls) [] = false
same_leaves (l ∷ ls) (m ∷ ms) = let r = same_leaves ls ms in cond (same_leaf l m) r false

unfoldable pub holds : Example → Bool
holds e = eqb (find (merges e) e.x) e.root && same_leaves (firsts (explain (merges e) e.x e.y)) e.leaves

pub examples : List Example
examples =
    -- a tie keeps the first side's root
    record {
      lines = line 0 1 (Asserted 0) ∷ [];
      pop = 0;
      x = 1;
      y = 0;
      root = 0;
      leaves = AssertedLeaf 0 ∷ [];
    }
    -- the smaller class goes under the larger
    ∷ record {
      lines = line 0 1 (Asserted 0) ∷ line 2 1 (Asserted 2) ∷ [];
      pop = 0;
      x = 2;
      y = 0;
      root = 0;
      leaves = AssertedLeaf 2 ∷ AssertedLeaf 0 ∷ [];
    }
    -- first term up to the nearest common ancestor, then the second, each upward
    ∷ record {
      lines = line 0 1 (Asserted 0) ∷ line 1 2 (Asserted 2) ∷ line 4 3 (Asserted 4) ∷ line 3 2 (Asserted 6) ∷ line 2 9 (Asserted 8) ∷ [];
      pop = 0;
      x = 0;
      y = 4;
      root = 0;
      leaves = AssertedLeaf 0 ∷ AssertedLeaf 2 ∷ AssertedLeaf 4 ∷ AssertedLeaf 6 ∷ [];
    }
    -- the first side's tree is turned and hung under the second
    ∷ record {
      lines = line 0 1 (Asserted 0) ∷ line 1 2 (Asserted 2) ∷ line 0 3 (Asserted 4) ∷ [];
      pop = 0;
      x = 2;
      y = 3;
      root = 0;
      leaves = AssertedLeaf 2 ∷ AssertedLeaf 0 ∷ AssertedLeaf 4 ∷ [];
    }
    -- a congruence explains its pairs in turn; identical nodes add no leaf, a pair in either order is expanded once
    ∷ record {
      lines =
          line 0 1 (Asserted 0)
          ∷ line 2 3 (Interface 7 9)
          ∷ line 4 5 (Congruence ((2, 3) ∷ (6, 6) ∷ (0, 1) ∷ []))
          ∷ line 5 8 (Congruence ((1, 0) ∷ (3, 2) ∷ []))
          ∷ [];
      pop = 0;
      x = 4;
      y = 8;
      root = 4;
      leaves = InterfaceLeaf 7 9 ∷ AssertedLeaf 0 ∷ [];
    }
    -- merging within one class does nothing; a pop gives back the older classes
    ∷ record {
      lines =
          at_level 0 0 1 (Asserted 0)
          ∷ at_level 1 1 2 (Asserted 2)
          ∷ at_level 1 0 2 (Asserted 4)
          ∷ at_level 2 5 6 (Asserted 6)
          ∷ at_level 2 5 7 (Asserted 8)
          ∷ at_level 2 5 8 (Asserted 10)
          ∷ at_level 2 5 2 (Asserted 12)
          ∷ [];
      pop = 1;
      x = 0;
      y = 2;
      root = 0;
      leaves = AssertedLeaf 0 ∷ AssertedLeaf 2 ∷ [];
    }
    ∷ []

pub shown : T (every holds examples)
unfolding core_definitions theory_definitions merges same_leaves holds examples
shown = tt
