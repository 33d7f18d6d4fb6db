-- What the engine's private functions do to its table: for the contracts between them. A caller of the crate needs none of it.
use Rattle.std.specs.Prelude.{ℕ, suc, ◌+◌, ◌-◌, ◌*◌, ◌≤◌, ◌<◌, ◌≡◌, Bool, true, false, List, [], ◌∷◌, ltb, length, Some, None, Option}
use Rattle.shinri_core.specs.Limits.{max_terms, max_pairs}
use Rattle.shinri_core.specs.Lists.{In}
use Rattle.shinri_core.specs.Memory.Words.{at, put, Kept}
use Rattle.theory.specs.declared.types.EqJust as Given
use Rattle.theory.specs.declared.eq_engine.EdgeLabel as EdgeLabel
use Rattle.theory.specs.declared.eq_engine.LabelWords as LabelWords
use Rattle.theory.specs.declared.eq_engine.Pair as Pair
use Rattle.theory.specs.Types.{EqJust}
use Rattle.theory.specs.EqEngine.{Merge, are_equal, pop_merges, pairs_of, pairs_in_force, Step, before, way}
use Rattle.theory.specs.Memory.Replay.{IsNode, end, On, EqualPairs}
use Rattle.theory.specs.Memory.Table.{engine_size, PARENT, SIZE, FPARENT, FEDGE, SIDE_A, SIDE_B, LABEL, VALUE, CHILD, FROOT, AFTER, LEFT, RIGHT, HEAD, INDEXED, engine_room, merges#, parent_word, size_word, fparent_word, fedge_word, a_word, b_word, label_word, value_word, child_word, froot_word, after_word, left_word, right_word, first_word, indexed#, is_pair, pair_buckets, pair_bucket, PairsSound, kind_unit, label_code, kind_of, theory_of, label, begins, merges_below, merges, just_meaning, level, EngineSound, Engine}

-- ---- the log

-- two tables agree on the words of one merge
pub record SameEntry (t u : List ℕ) (i : ℕ) : Type 0 where
  pub a : a_word u i ≡ a_word t i
  pub b : b_word u i ≡ b_word t i
  pub label : label_word u i ≡ label_word t i
  pub value : value_word u i ≡ value_word t i
  pub child : child_word u i ≡ child_word t i
  pub froot : froot_word u i ≡ froot_word t i
  pub after : after_word u i ≡ after_word t i

-- the regions of the index of pairs
abbrev pub pair_regions : List ℕ
pair_regions = LEFT ∷ RIGHT ∷ HEAD ∷ INDEXED ∷ []

-- and on the first p pairs
abbrev pub SamePairs : List ℕ → List ℕ → ℕ → Type 0
SamePairs t u p = (j : ℕ) → j < p → (left_word u j ≡ left_word t j) × (right_word u j ≡ right_word t j)

-- two tables agree on the first n merges and all their pairs
pub record SameLog (t u : List ℕ) (n : ℕ) : Type 0 where
  pub entries : (i : ℕ) → i < n → SameEntry t u i
  pub pairs : (i : ℕ) → i < n → SamePairs t u (after_word t i)

-- ---- the forest

-- a node and what stands above it on its way
pub record Upward (t : List ℕ) (node top : ℕ) : Type 0 where
  pub sound : EngineSound t
  pub is_node : IsNode node
  pub above : On top node (way (merges t) node)

-- two tables agree on the words of one node in the forest
pub record SameNode (t u : List ℕ) (x : ℕ) : Type 0 where
  pub parent : fparent_word u x ≡ fparent_word t x
  pub edge : fedge_word u x ≡ fedge_word t x

-- in u a step of t is walked back, over the same edge
pub record Turned (t u : List ℕ) (s : Step) : Type 0 where
  pub parent : fparent_word u s.up ≡ s.node
  pub edge : fedge_word u s.up ≡ fedge_word t s.node

-- the steps w from n are turned, and n is a root
pub record Rerooted (t u : List ℕ) (n : ℕ) (w : List Step) : Type 0 where
  pub kept : Kept engine_room (FPARENT ∷ FEDGE ∷ []) t u
  pub root : fparent_word u n ≡ n
  pub turned : (s : Step) → In s w → Turned t u s
  pub others : (x : ℕ) → IsNode x → (On x n w → ⊥) → SameNode t u x

-- t is the sound table s, but top, a node above node, is its own parent: the tree is cut there, if it does not end there
pub record Cut (s t : List ℕ) (node top : ℕ) : Type 0 where
  pub upward : Upward s node top
  pub kept : Kept engine_room (FPARENT ∷ []) s t
  pub log : merges t ≡ merges s
  pub root : fparent_word t top ≡ top
  pub others : (x : ℕ) → IsNode x → (x ≡ top → ⊥) → fparent_word t x ≡ fparent_word s x

-- the way from a node may be turned: some sound table is cut above it
pub record Turnable (t : List ℕ) (node : ℕ) : Type 0 where
  pub sound : List ℕ
  pub top : ℕ
  pub cut : Cut sound t node top

-- whatever sound table was cut, its way is turned up to where it was cut, and that is r
pub record Turns (t u : List ℕ) (node r : ℕ) : Type 0 where
  pub is_node : IsNode r
  pub last : (s : List ℕ) (top : ℕ) → Cut s t node top → r ≡ top
  pub turned : (s : List ℕ) (top : ℕ) → Cut s t node top → Rerooted s u node (before top (way (merges s) node))

-- the tree of a is turned and hangs from a under b, by merge i
pub record Spliced (t u : List ℕ) (a b i : ℕ) : Type 0 where
  pub kept : Kept engine_room (FPARENT ∷ FEDGE ∷ FROOT ∷ []) t u
  pub old_root : froot_word u i ≡ end a (way (merges t) a)
  pub older : (j : ℕ) → j < i → froot_word u j ≡ froot_word t j
  pub edge : (fparent_word u a ≡ b) × (fedge_word u a ≡ i)
  pub turned : (s : Step) → In s (way (merges t) a) → Turned t u s
  pub others : (x : ℕ) → IsNode x → (On x a (way (merges t) a) → ⊥) → SameNode t u x

-- ---- classes

-- two classes may be joined by merge i: their sizes fit a word
pub record TwoClasses (t : List ℕ) (ra rb i : ℕ) : Type 0 where
  pub long : engine_size ≤ length t
  pub first : IsNode ra
  pub second : IsNode rb
  pub entry : i < max_terms
  pub fit : size_word t ra + size_word t rb < 4294967296

-- the class of the root child is under root, by merge i
unfoldable pub united : List ℕ → ℕ → ℕ → ℕ → List ℕ
united t child root i = put (put (put t PARENT child root) SIZE root (size_word t child + size_word t root)) CHILD i child

-- the class of the root child, which was under root, may be taken out again
pub record Separable (t : List ℕ) (child : ℕ) : Type 0 where
  pub long : engine_size ≤ length t
  pub is_node : IsNode child
  pub above : IsNode (parent_word t child)
  pub smaller : size_word t child ≤ size_word t (parent_word t child)

-- and is its own again
unfoldable pub separated : List ℕ → ℕ → ℕ → List ℕ
separated t child root = put (put t SIZE root (size_word t root - size_word t child)) PARENT child child

-- ---- a new entry of the log

-- the words of a merge
pub record Entry (i a b : ℕ) (w : LabelWords.LabelWords) : Type 0 where
  pub entry : i < max_terms
  pub first : IsNode a
  pub second : IsNode b
  pub code : w.code < 4294967296
  pub value : w.value < 4294967296
  pub after : w.after ≤ max_pairs

-- entry i is written but for its roots
unfoldable pub logged : List ℕ → ℕ → ℕ → ℕ → ℕ → ℕ → ℕ → List ℕ
logged t i a b w v e = put (put (put (put (put t SIDE_A i a) SIDE_B i b) LABEL i w) VALUE i v) AFTER i e

-- a and b are in two classes, and a label of these words may join them
pub record Joinable (t : List ℕ) (a b kind h v e : ℕ) : Type 0 where
  pub sound : EngineSound t
  pub nodes : IsNode a × IsNode b
  pub two : are_equal (merges t) a b ≡ false
  pub known : kind < 3
  pub theory : h < kind_unit
  pub value : v < 4294967296
  pub start : begins kind v e ≡ pairs_in_force (merges t)
  pub ordered : begins kind v e ≤ e
  pub fit : e ≤ max_pairs
  pub indexed : e ≤ indexed# t
  pub pairs : EqualPairs (merges t) (pairs_of (label t kind h v e))

-- ---- labels

-- a label's kind, its theory, its value, and the pairs in force after it, n before it
unfoldable pub label_kind : EdgeLabel.EdgeLabel → ℕ
label_kind (EdgeLabel.TheVariants.Asserted p) = 0
label_kind (EdgeLabel.TheVariants.Congruence from to) = 1
label_kind (EdgeLabel.TheVariants.Interface j) = 2

unfoldable pub label_theory : EdgeLabel.EdgeLabel → ℕ
label_theory (EdgeLabel.TheVariants.Asserted p) = 0
label_theory (EdgeLabel.TheVariants.Congruence from to) = 0
label_theory (EdgeLabel.TheVariants.Interface j) = j.theory

unfoldable pub label_value : EdgeLabel.EdgeLabel → ℕ
label_value (EdgeLabel.TheVariants.Asserted p) = p.0
label_value (EdgeLabel.TheVariants.Congruence from to) = from
label_value (EdgeLabel.TheVariants.Interface j) = j.tag

unfoldable pub label_after : EdgeLabel.EdgeLabel → ℕ → ℕ
label_after (EdgeLabel.TheVariants.Asserted p) n = n
label_after (EdgeLabel.TheVariants.Congruence from to) n = to
label_after (EdgeLabel.TheVariants.Interface j) n = n

-- what it means as that of the next merge
abbrev pub just_of : List ℕ → EdgeLabel.EdgeLabel → EqJust
just_of t l = label t (label_kind l) (label_theory l) (label_value l) (label_after l (pairs_in_force (merges t)))

-- a and b are in two classes, and the label may join them
abbrev pub Joins : List ℕ → ℕ → ℕ → EdgeLabel.EdgeLabel → Type 0
Joins t a b l = Joinable t a b (label_kind l) (label_theory l) (label_value l) (label_after l (pairs_in_force (merges t)))

-- a label that was given, in the log: it has no pairs
pub record LabelOf (j : Given.EqJust) (l : EdgeLabel.EdgeLabel) : Type 0 where
  pub known : label_kind l < 3
  pub theory : label_theory l < kind_unit
  pub value : label_value l < 4294967296
  pub no_pairs : (n : ℕ) → (begins (label_kind l) (label_value l) n ≡ n) × (label_after l n ≡ n)
  pub is : (t : List ℕ) (n : ℕ) → label t (label_kind l) (label_theory l) (label_value l) n ≡ just_meaning j

-- its words
pub record HoldsLabel (l : EdgeLabel.EdgeLabel) (level n : ℕ) (w : LabelWords.LabelWords) : Type 0 where
  pub code : w.code ≡ label_code level (label_kind l) (label_theory l)
  pub value : w.value ≡ label_value l
  pub after : w.after ≡ label_after l n

-- the label of merge i by its words
abbrev pub IsLabel : List ℕ → ℕ → EdgeLabel.EdgeLabel → Type 0
IsLabel t i (EdgeLabel.TheVariants.Asserted p) = (kind_of (label_word t i) ≡ 0) × (p.0 ≡ value_word t i)
IsLabel t i (EdgeLabel.TheVariants.Congruence from to) =
    (kind_of (label_word t i) ≡ 1) × (from ≡ value_word t i) × (to ≡ after_word t i)
IsLabel t i (EdgeLabel.TheVariants.Interface j) =
    (kind_of (label_word t i) ≡ 0 → ⊥) × (kind_of (label_word t i) ≡ 1 → ⊥) × (j.theory ≡ theory_of (label_word t i))
    × (j.tag ≡ value_word t i)

-- ---- argument pairs

-- the nodes of two lists may be pairs from start on
pub record PairRoom (t : List ℕ) (start : ℕ) (xs ys : List ℕ) : Type 0 where
  pub long : engine_size ≤ length t
  pub same_count : length xs ≡ length ys
  pub fit : start + length xs ≤ max_pairs
  pub indexed : PairsSound t (indexed# t)
  pub covers : start ≤ indexed# t
  pub nodes : (i : ℕ) → i < length xs → IsNode (at xs 0 i) × IsNode (at ys 0 i)

-- they are the last pairs of the index, and all else is as before
pub record Copied (t u : List ℕ) (start : ℕ) (xs ys : List ℕ) : Type 0 where
  pub kept : Kept engine_room pair_regions t u
  pub older : SamePairs t u start
  pub new : (j : ℕ) → j < length xs → (left_word u (start + j) ≡ at xs 0 j) × (right_word u (start + j) ≡ at ys 0 j)
  pub indexed : PairsSound u (indexed# u)
  pub count : indexed# u ≡ start + length xs

-- no pair is in the index
pub record NoPairs (t : List ℕ) : Type 0 where
  pub long : engine_size ≤ length t
  pub none : indexed# t ≡ 0
  pub heads : (h : ℕ) → h < pair_buckets → at t HEAD h ≡ 0

-- two nodes may be looked for in the index
pub record PairAsked (t : List ℕ) (x y : ℕ) : Type 0 where
  pub long : engine_size ≤ length t
  pub indexed : PairsSound t (indexed# t)
  pub first : IsNode x
  pub second : IsNode y

-- the nodes of argument pair j
pub record IsPairAt (t : List ℕ) (j : ℕ) (p : Pair.Pair) : Type 0 where
  pub left : p.left ≡ left_word t j
  pub right : p.right ≡ right_word t j
  pub nodes : IsNode p.left × IsNode p.right

-- an indexed pair of the nodes x and y, or there is none
abbrev pub FindsPair : List ℕ → ℕ → ℕ → Option ℕ → Type 0
FindsPair t x y (Some k) = (k < indexed# t) × (is_pair t k (x, y) ≡ true)
FindsPair t x y None = (j : ℕ) → j < indexed# t → is_pair t j (x, y) ≡ false

-- f is the number of the first pair of the nodes x and y, if one more is added
pub record FirstOf (t : List ℕ) (x y f : ℕ) : Type 0 where
  pub lower : f ≤ indexed# t
  pub same : f < indexed# t → is_pair t f (x, y) ≡ true
  pub one : (j : ℕ) → j < indexed# t → is_pair t j (x, y) ≡ true → first_word t j ≡ f

-- the nodes x and y may be one more pair
pub record Addable (t : List ℕ) (x y : ℕ) : Type 0 where
  pub asked : PairAsked t x y
  pub room : indexed# t < max_pairs

-- its words fit
pub record PairLinkable (t : List ℕ) (n x y f : ℕ) : Type 0 where
  pub long : engine_size ≤ length t
  pub place : n < max_pairs
  pub first : IsNode x
  pub second : IsNode y
  pub lower : f ≤ max_pairs
  pub heads : at t HEAD (pair_bucket x y) ≤ max_pairs

-- one more pair, with first pair f
unfoldable pub pair_linked : List ℕ → ℕ → ℕ → ℕ → ℕ → List ℕ
pair_linked t n x y f =
    put (put (put (put t LEFT n (max_terms * f + x)) RIGHT n (max_terms * at t HEAD (pair_bucket x y) + y)) HEAD (pair_bucket x y)
    (n + 1)) INDEXED 0 (n + 1)

-- the index has one pair more, x and y
pub record PairAdded (t u : List ℕ) (x y : ℕ) : Type 0 where
  pub kept : Kept engine_room pair_regions t u
  pub older : SamePairs t u (indexed# t)
  pub new : (left_word u (indexed# t) ≡ x) × (right_word u (indexed# t) ≡ y)
  pub indexed : PairsSound u (indexed# u)
  pub count : indexed# u ≡ suc (indexed# t)

-- pair j is the newest of the index
pub record LastPair (t : List ℕ) (j : ℕ) : Type 0 where
  pub long : engine_size ≤ length t
  pub indexed : PairsSound t (indexed# t)
  pub last : indexed# t ≡ suc j

-- the index has n pairs at least
pub record Cuttable (t : List ℕ) (n : ℕ) : Type 0 where
  pub long : engine_size ≤ length t
  pub indexed : PairsSound t (indexed# t)
  pub enough : n ≤ indexed# t

-- the nodes of two lists may be pairs behind those of the index
pub record PairsAddable (t xs ys : List ℕ) : Type 0 where
  pub long : engine_size ≤ length t
  pub same_count : length xs ≡ length ys
  pub indexed : PairsSound t (indexed# t)
  pub fit : indexed# t + length xs ≤ max_pairs
  pub nodes : (i : ℕ) → i < length xs → IsNode (at xs 0 i) × IsNode (at ys 0 i)

-- the index is cut back to n pairs
pub record PairsCut (t u : List ℕ) (n : ℕ) : Type 0 where
  pub kept : Kept engine_room pair_regions t u
  pub older : SamePairs t u max_pairs
  pub indexed : PairsSound u (indexed# u)
  pub count : indexed# u ≡ n

-- ---- merges undone

-- the newest merge is taken back
pub record Undoes (t u : List ℕ) : Type 0 where
  pub sound : EngineSound u
  pub one_less : suc (merges# u) ≡ merges# t
  pub log : merges u ≡ merges_below t (merges# u)
  pub same_level : level u ≡ level t

-- is the newest merge of a level above k?
unfoldable pub newest_above : ℕ → List Merge → Bool
newest_above k [] = false
newest_above k (m ∷ ms) = ltb k m.level

-- the merges of a level above `to` are taken back, and the level is as it was
pub record Drops (t u : List ℕ) (to : ℕ) : Type 0 where
  pub engine : Engine u (pop_merges to (merges t)) (level t)
  pub below : newest_above to (merges u) ≡ false
