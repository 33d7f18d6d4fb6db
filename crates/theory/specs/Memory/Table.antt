-- The lent table of the equality engine: where each part stands, what a table means, and when it is sound. Every part is a function
-- of the log of merges.
use Rattle.std.specs.Prelude.{ℕ, zero, suc, ◌+◌, ◌-◌, ◌*◌, ◌/◌, ◌%◌, ◌≤◌, ◌<◌, ◌≡◌, Bool, true, cond, List, [], ◌∷◌, map, leb, length}
use Rattle.shinri_core.specs.Limits.{max_terms, max_pairs, max_levels, max_theories, table_words}
use Rattle.shinri_core.specs.Lists.{In, range, zip}
use Rattle.shinri_core.specs.Memory.Words.{at, room_in}
use Rattle.shinri_core.specs.Memory.Table.{Indexed}
use Rattle.theory.specs.Types.{EqJust, Asserted, Congruence, Interface}
use Rattle.theory.specs.declared.types.EqJust as Given
use Rattle.theory.specs.Memory.Replay.{IsNode, child_of, parent, end, BothSides, Justified, EqualPairs}
use Rattle.theory.specs.EqEngine.{Merge, classes, are_equal, merge, pop_merges, pairs_of, pairs_in_force, Step, way, same_pair}

-- ---- the layout

abbrev pub engine_size : ℕ
engine_size = table_words

-- how many merges are in force, and the level
abbrev pub COUNTS : ℕ
COUNTS = 0

abbrev pub MERGES : ℕ
MERGES = 0

abbrev pub LEVEL : ℕ
LEVEL = 1

-- for each node: its parent in the union-find, the size of its class, its parent in the forest, and the merge of that edge
abbrev pub PARENT : ℕ
PARENT = 64

abbrev pub SIZE : ℕ
SIZE = 1088

abbrev pub FPARENT : ℕ
FPARENT = 2112

abbrev pub FEDGE : ℕ
FEDGE = 3136

-- for each merge: its sides; the kind of its label, the theory and the level in one word; literal, tag or start of its pairs; the root
-- that went under; the forest root of the first side's tree before it was turned; the pairs in force after it
abbrev pub SIDE_A : ℕ
SIDE_A = 4160

abbrev pub SIDE_B : ℕ
SIDE_B = 5184

abbrev pub LABEL : ℕ
LABEL = 6208

abbrev pub VALUE : ℕ
VALUE = 7232

abbrev pub CHILD : ℕ
CHILD = 8256

abbrev pub FROOT : ℕ
FROOT = 9280

abbrev pub AFTER : ℕ
AFTER = 10304

-- for each argument pair: its first node with the number of the first pair of the same nodes; its second node with one more than the
-- newest pair before it in its bucket, or 0
abbrev pub LEFT : ℕ
LEFT = 11328

abbrev pub RIGHT : ℕ
RIGHT = 13376

-- the index of pairs: for each bucket one more than the newest pair in it, or 0; how many pairs it has: those in force, and maybe some
-- behind them that were given back
abbrev pub HEAD : ℕ
HEAD = 15424

abbrev pub INDEXED : ℕ
INDEXED = 16377

abbrev pub pair_buckets : ℕ
pair_buckets = 953

-- A node is a term, and there are fewer merges than nodes.
abbrev pub engine_room : ℕ → ℕ
engine_room = room_in
    ((COUNTS, 64) ∷ (PARENT, max_terms) ∷ (SIZE, max_terms) ∷ (FPARENT, max_terms) ∷ (FEDGE, max_terms)
    ∷ (SIDE_A, max_terms) ∷ (SIDE_B, max_terms) ∷ (LABEL, max_terms) ∷ (VALUE, max_terms) ∷ (CHILD, max_terms)
    ∷ (FROOT, max_terms) ∷ (AFTER, max_terms) ∷ (LEFT, max_pairs) ∷ (RIGHT, max_pairs)
    ∷ (HEAD, pair_buckets) ∷ (INDEXED, 1) ∷ [])

abbrev pub merges# : List ℕ → ℕ
merges# t = at t COUNTS MERGES

abbrev pub level_word : List ℕ → ℕ
level_word t = at t COUNTS LEVEL

abbrev pub parent_word : List ℕ → ℕ → ℕ
parent_word t x = at t PARENT x

abbrev pub size_word : List ℕ → ℕ → ℕ
size_word t x = at t SIZE x

abbrev pub fparent_word : List ℕ → ℕ → ℕ
fparent_word t x = at t FPARENT x

abbrev pub fedge_word : List ℕ → ℕ → ℕ
fedge_word t x = at t FEDGE x

abbrev pub a_word : List ℕ → ℕ → ℕ
a_word t i = at t SIDE_A i

abbrev pub b_word : List ℕ → ℕ → ℕ
b_word t i = at t SIDE_B i

abbrev pub label_word : List ℕ → ℕ → ℕ
label_word t i = at t LABEL i

abbrev pub value_word : List ℕ → ℕ → ℕ
value_word t i = at t VALUE i

abbrev pub child_word : List ℕ → ℕ → ℕ
child_word t i = at t CHILD i

abbrev pub froot_word : List ℕ → ℕ → ℕ
froot_word t i = at t FROOT i

abbrev pub after_word : List ℕ → ℕ → ℕ
after_word t i = at t AFTER i

abbrev pub left_word : List ℕ → ℕ → ℕ
left_word t j = at t LEFT j % max_terms

abbrev pub right_word : List ℕ → ℕ → ℕ
right_word t j = at t RIGHT j % max_terms

abbrev pub first_word : List ℕ → ℕ → ℕ
first_word t j = at t LEFT j / max_terms

abbrev pub link_word : List ℕ → ℕ → ℕ
link_word t j = at t RIGHT j / max_terms

abbrev pub indexed# : List ℕ → ℕ
indexed# t = at t INDEXED 0

abbrev pub pair_at : List ℕ → ℕ → ℕ × ℕ
pair_at t j = (left_word t j, right_word t j)

-- is argument pair j a pair of nodes, in either order?
abbrev pub is_pair : List ℕ → ℕ → ℕ × ℕ → Bool
is_pair t j p = same_pair (pair_at t j).0 (pair_at t j).1 p

-- the bucket of two nodes, in either order
abbrev pub pair_bucket : ℕ → ℕ → ℕ
pair_bucket x y = (x + y) % pair_buckets

abbrev pub pair_bucket_of : List ℕ → ℕ → ℕ
pair_bucket_of t j = pair_bucket (left_word t j) (right_word t j)

-- a label's word: the level of its merge, its kind and its theory
abbrev pub kind_unit : ℕ
kind_unit = max_theories

abbrev pub level_unit : ℕ
level_unit = 262144

abbrev pub label_code : ℕ → ℕ → ℕ → ℕ
label_code level kind theory = level_unit * level + kind_unit * kind + theory

abbrev pub level_of : ℕ → ℕ
level_of w = w / level_unit

abbrev pub kind_of : ℕ → ℕ
kind_of w = w / kind_unit % 4

abbrev pub theory_of : ℕ → ℕ
theory_of w = w % kind_unit

-- ---- the log

-- a label by its kind (0 a literal, 1 a congruence, 2 an interface leaf), its theory, its value (literal, start of its pairs, tag)
-- and the pairs in force after it
unfoldable pub label : List ℕ → ℕ → ℕ → ℕ → ℕ → EqJust
label t zero h v e = Asserted v
label t (suc zero) h v e = Congruence (map (pair_at t) (range v (e - v)))
label t (suc (suc k)) h v e = Interface h v

-- where its pairs begin: a label that is no congruence has none
unfoldable pub begins : ℕ → ℕ → ℕ → ℕ
begins zero v e = e
begins (suc zero) v e = v
begins (suc (suc k)) v e = e

unfoldable pub just_at : List ℕ → ℕ → EqJust
just_at t i = label t (kind_of (label_word t i)) (theory_of (label_word t i)) (value_word t i) (after_word t i)

unfoldable pub pairs_start : List ℕ → ℕ → ℕ
pairs_start t i = begins (kind_of (label_word t i)) (value_word t i) (after_word t i)

unfoldable pub merge_at : List ℕ → ℕ → Merge
merge_at t i = record { a = a_word t i; b = b_word t i; just = just_at t i; level = level_of (label_word t i) }

-- the merges below n, newest first
unfoldable pub merges_below : List ℕ → ℕ → List Merge
merges_below t zero = []
merges_below t (suc i) = merge_at t i ∷ merges_below t i

unfoldable pub merges : List ℕ → List Merge
merges t = merges_below t (merges# t)

-- ---- when a table is sound

-- the words of a node are the first edge of its way: where it leads, and the merge that made it; a root is its own parent
abbrev pub FirstEdge : List ℕ → ℕ → List Step → Type 0
FirstEdge t x [] = fparent_word t x ≡ x
FirstEdge t x (s ∷ w) =
    (fparent_word t x ≡ s.up)
    × (fedge_word t x < merges# t)
    × (just_at t (fedge_word t x) ≡ s.just)
    × BothSides (merge_at t (fedge_word t x)) x s.up

-- the words of merge i are those of the merges before it
pub record EntrySound (t : List ℕ) (i : ℕ) : Type 0 where
  pub nodes : IsNode (a_word t i) × IsNode (b_word t i)
  pub child : child_word t i ≡ child_of (merges_below t i) (merge_at t i)
  pub froot : froot_word t i ≡ end (a_word t i) (way (merges_below t i) (a_word t i))
  -- its pairs follow those of the merges before it
  pub start : pairs_start t i ≡ pairs_in_force (merges_below t i)
  pub fit : (pairs_start t i ≤ after_word t i) × (after_word t i ≤ max_pairs)

-- pairs of the same nodes have one first pair
pub record FirstsSound (t : List ℕ) (n : ℕ) : Type 0 where
  pub lower : (j : ℕ) → j < n → first_word t j ≤ j
  pub same : (j : ℕ) → j < n → is_pair t (first_word t j) (pair_at t j) ≡ true
  pub one : (j k : ℕ) → j < n → k < n → is_pair t j (pair_at t k) ≡ true → first_word t j ≡ first_word t k

-- the first n pairs are found by the index
pub record PairsSound (t : List ℕ) (n : ℕ) : Type 0 where
  pub fit : n ≤ max_pairs
  pub index : Indexed (pair_bucket_of t) (at t HEAD) (link_word t) pair_buckets n
  pub firsts : FirstsSound t n

-- Each region is what the log of merges says.
pub record EngineSound (t : List ℕ) : Type 0 where
  pub long : engine_size ≤ length t
  -- the log
  pub fewer : merges# t < max_terms
  pub justified : Justified (merges t)
  pub pair_nodes : (m : Merge) → In m (merges t) → (p : ℕ × ℕ) → In p (pairs_of m.just) → IsNode p.0 × IsNode p.1
  pub entries : (i : ℕ) → i < merges# t → EntrySound t i
  -- levels rise along the log, up to the present level
  pub levels_fit : level_word t ≤ max_levels
  pub levels : (i : ℕ) → i < merges# t → level_of (label_word t i) ≤ level_word t
  pub levels_rise : (i : ℕ) → suc i < merges# t → level_of (label_word t i) ≤ level_of (label_word t (suc i))
  -- classes and forest
  pub parents : (x : ℕ) → IsNode x → parent_word t x ≡ parent (merges t) x
  pub sizes : (x : ℕ) → IsNode x → size_word t x ≡ (classes (merges t)).size x
  pub forest : (x : ℕ) → IsNode x → FirstEdge t x (way (merges t) x)
  -- the index has all pairs in force
  pub indexed : PairsSound t (indexed# t)
  pub covers : pairs_in_force (merges t) ≤ indexed# t

-- A caller sees the merges in force, newest first, and the level.
abbrev pub level : List ℕ → ℕ
level t = level_word t

-- a sound table of these merges at this level
pub record Engine (t : List ℕ) (ms : List Merge) (l : ℕ) : Type 0 where
  pub sound : EngineSound t
  pub log : merges t ≡ ms
  pub at_level : level t ≡ l

-- ---- the code's label in the definition

unfoldable pub just_meaning : Given.EqJust → EqJust
just_meaning (Given.TheVariants.Asserted l) = Asserted l.0
just_meaning (Given.TheVariants.Interface j) = Interface j.theory j.tag

-- ---- what the public functions promise, t before and u after

-- a sound table and two of its nodes
pub record TwoNodes (t : List ℕ) (a b : ℕ) : Type 0 where
  pub sound : EngineSound t
  pub first : IsNode a
  pub second : IsNode b

-- the classes of a and b are joined under a label; within one class nothing changes
pub record Merges (t u : List ℕ) (a b : ℕ) (j : EqJust) : Type 0 where
  pub engine : Engine u (merge (merges t) (level t) a b j) (level t)
  pub unchanged : are_equal (merges t) a b ≡ true → u ≡ t

-- two applications with these arguments may be merged by congruence: questions 9 and 11
pub record Congruent (t : List ℕ) (a b : ℕ) (xs ys : List ℕ) : Type 0 where
  pub nodes : TwoNodes t a b
  pub same_count : length xs ≡ length ys
  pub equal : EqualPairs (merges t) (zip xs ys)
  pub fit : pairs_in_force (merge (merges t) (level t) a b (Congruence (zip xs ys))) ≤ max_pairs

-- back to a level; at or above the present level nothing changes
pub record Pops (t u : List ℕ) (to : ℕ) : Type 0 where
  pub engine : Engine u (pop_merges to (merges t)) (cond (leb (level t) to) (level t) to)
  pub unchanged : level t ≤ to → u ≡ t
