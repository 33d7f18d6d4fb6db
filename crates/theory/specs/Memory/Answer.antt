-- The answer table: its regions, what it means, and why there is always room for a leaf.
use Rattle.std.specs.Prelude.{ℕ, zero, suc, ◌+◌, ◌%◌, ◌≤◌, ◌<◌, ◌≡◌, ◌⊎◌, Bool, true, cond, List, [], ◌∷◌, ◌++◌, length}
use Rattle.shinri_core.specs.Limits.{max_terms, max_theories}
use Rattle.shinri_core.specs.Lists.{In, Apart, any}
use Rattle.shinri_core.specs.Memory.Words.{at, put, counted, room_in}
use Rattle.shinri_core.specs.Memory.Table.{Indexed}
use Rattle.theory.specs.Types.{EqJust, Asserted, Congruence, Interface, EqLeaf, AssertedLeaf, InterfaceLeaf, same_leaf}
use Rattle.theory.specs.EqEngine.{Merge}
use Rattle.theory.specs.declared.types.EqLeaf as Given
use Rattle.theory.specs.declared.types.LeafWords as LeafWords

-- ---- the regions

-- how many leaves there are, the only word of COUNTS
abbrev pub COUNTS : ℕ
COUNTS = 0

abbrev pub LEAVES : ℕ
LEAVES = 0

-- for each leaf 0, or one more than its theory; its literal or its tag
abbrev pub LEAF_KIND : ℕ
LEAF_KIND = 1

abbrev pub LEAF_VALUE : ℕ
LEAF_VALUE = 1025

-- the index: for each bucket one more than the newest leaf in it, or 0; and for each leaf the same of the leaves before it in its bucket
abbrev pub BUCKET : ℕ
BUCKET = 2049

abbrev pub LINK : ℕ
LINK = 2300

abbrev pub buckets : ℕ
buckets = 251

abbrev pub answer_layout : List (ℕ × ℕ)
answer_layout =
    (COUNTS, 1) ∷ (LEAF_KIND, max_terms) ∷ (LEAF_VALUE, max_terms) ∷ (BUCKET, buckets) ∷ (LINK, max_terms) ∷ []

abbrev pub answer_room : ℕ → ℕ
answer_room = room_in answer_layout

abbrev pub answer_size : ℕ
answer_size = 3324

-- ---- what a table means

abbrev pub leaves# : List ℕ → ℕ
leaves# o = at o COUNTS LEAVES

unfoldable pub leaf_of : ℕ → ℕ → EqLeaf
leaf_of zero v = AssertedLeaf v
leaf_of (suc h) v = InterfaceLeaf h v

abbrev pub leaf_at : List ℕ → ℕ → EqLeaf
leaf_at o i = leaf_of (at o LEAF_KIND i) (at o LEAF_VALUE i)

unfoldable pub leaves : List ℕ → List EqLeaf
leaves o = counted (leaf_at o) (leaves# o)

-- the code's leaf in the definition
unfoldable pub leaf_meaning : Given.EqLeaf → EqLeaf
leaf_meaning (Given.TheVariants.Asserted l) = AssertedLeaf l.0
leaf_meaning (Given.TheVariants.Interface j) = InterfaceLeaf j.theory j.tag

-- the bucket of a leaf, by its words
abbrev pub bucket : ℕ → ℕ → ℕ
bucket kind value = (kind + value) % buckets

abbrev pub bucket_of : List ℕ → ℕ → ℕ
bucket_of o i = bucket (at o LEAF_KIND i) (at o LEAF_VALUE i)

-- ---- when the words of a table are those of leaves

pub record LeavesSound (o : List ℕ) : Type 0 where
  pub long : answer_size ≤ length o
  pub fit : leaves# o ≤ max_terms
  -- a theory has 16 bits
  pub theories : (i : ℕ) → i < leaves# o → at o LEAF_KIND i ≤ max_theories
  pub index : Indexed (bucket_of o) (at o BUCKET) (at o LINK) buckets (leaves# o)

-- does a leaf stand in a list?
abbrev pub has_leaf : EqLeaf → List EqLeaf → Bool
has_leaf l ls = any (same_leaf l) ls

-- the list with one more leaf, unless it stands there
abbrev pub with_leaf : EqLeaf → List EqLeaf → List EqLeaf
with_leaf l ls = cond (has_leaf l ls) ls (ls ++ (l ∷ []))

-- a leaf that stands there already, or has room
abbrev pub HasRoom : List ℕ → EqLeaf → Type 0
HasRoom o l = (has_leaf l (leaves o) ≡ true) ⊎ (length (leaves o) < max_terms)

pub record Pushed (o u : List ℕ) (l : EqLeaf) : Type 0 where
  pub sound : LeavesSound u
  pub listed : leaves u ≡ with_leaf l (leaves o)

-- words that a leaf may have
pub record LeafFits (w : LeafWords.LeafWords) : Type 0 where
  pub kind_fits : w.kind ≤ max_theories
  pub value_fits : w.value < 4294967296

-- the words of a leaf
pub record HoldsLeaf (l : Given.EqLeaf) (w : LeafWords.LeafWords) : Type 0 where
  pub fits : LeafFits w
  pub is : leaf_meaning l ≡ leaf_of w.kind w.value

-- a leaf of these words may be leaf n
pub record Linkable (o : List ℕ) (n : ℕ) (w : LeafWords.LeafWords) : Type 0 where
  pub long : answer_size ≤ length o
  pub place : n < max_terms
  pub fits : LeafFits w

-- leaf n is at the head of bucket h
unfoldable pub linked : List ℕ → ℕ → ℕ → List ℕ
linked o n h = put (put o LINK n (at o BUCKET h)) BUCKET h (n + 1)

-- ---- why there is room

-- the leaf of a label; a congruence has none
abbrev pub Labels : EqJust → EqLeaf → Type 0
Labels (Asserted l) k = k ≡ AssertedLeaf l
Labels (Congruence ps) k = ⊥
Labels (Interface h g) k = k ≡ InterfaceLeaf h g

-- a leaf that labels a merge of ms
abbrev pub Cites : List Merge → EqLeaf → Type 0
Cites ms l = (m : Merge) × In m ms × Labels m.just l

-- leaves of which all but one label merges
abbrev pub Cited : List Merge → EqLeaf → List EqLeaf → Type 0
Cited ms other ls = (l : EqLeaf) → In l ls → (l ≡ other) ⊎ Cites ms l

-- No leaf stands twice, and all but one label merges in force. Of a sound table there are fewer than 1,024 merges, so there is room.
pub record AnswerSound (ms : List Merge) (o : List ℕ) : Type 0 where
  pub words : LeavesSound o
  pub apart : Apart (leaves o)
  pub other : EqLeaf
  pub cited : Cited ms other (leaves o)

-- no leaf, whatever merges are in force
pub record Cleared (o : List ℕ) : Type 0 where
  pub sound : (ms : List Merge) → AnswerSound ms o
  pub empty : leaves o ≡ []
