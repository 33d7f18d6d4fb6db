-- The work table of a check, a local array: the marks, the root of each term, and for each class its marked constructor
-- applications, ascending. A check works on these marks, so that a check that does not fit has none to take back. Outside a check the
-- marks and the words of the blocks alone, which the solver's table has side by side, are a short work table.
use Rattle.std.specs.Prelude.{ℕ, zero, suc, ◌+◌, ◌*◌, ◌≤◌, ◌<◌, ◌≡◌, ◌⊎◌, true, cond, List, [], ◌∷◌, eqb, ltb, length, get_or, take, drop}
use Rattle.std.proofs.Math.Option.{Option, none, some}
use Rattle.shinri_core.specs.declared.ids.SymbolId.{SymbolId}
use Rattle.shinri_core.specs.declared.ids.TermId.{TermId}
use Rattle.shinri_core.specs.Limits.{max_terms, table_words}
use Rattle.shinri_core.specs.Lists.{first, gather, insert}
use Rattle.shinri_core.specs.Context.{Context, CtorApp, ctor_app, children}
use Rattle.shinri_core.specs.Formed.{Signed}
use Rattle.shinri_core.specs.Memory.Words.{at, put, room_in, counted, Kept}
use Rattle.shinri_core.specs.Memory.Table.{context, ContextSound}
use Rattle.theory.specs.EqEngine.{Merge, find, are_equal}
use Rattle.theory.specs.Memory.Table.{merges, EngineSound}
use Rattle.solver.specs.State.{State}
use Rattle.std.specs.Prelude.{Option as GivenOption, Some, None}
use Rattle.solver.specs.Memory.Table.{MARK, blocks, block_terms, term_kind, is_set, flagged_from, MarksAre, Announced, state_with, StateSound}

-- ---- the layout

-- for each term its mark, as in the solver's table
abbrev pub W_MARK : ℕ
W_MARK = 0

-- for each block of terms whether a constructor application may be marked in it, as in the solver's table; 0 in a check, where the
-- lowest application of a class stands at its root
abbrev pub W_BLOCK : ℕ
W_BLOCK = 1024

-- a short work table ends here
abbrev pub marks_size : ℕ
marks_size = 1056

-- for each term one more than the root of its class, or 0 where it was not asked yet
abbrev pub ROOT : ℕ
ROOT = 1056

-- for each root one more than the lowest marked constructor application of its class, or 0
abbrev pub LOWEST : ℕ
LOWEST = 2080

-- for each marked constructor application one more than the next one of its class, or 0
abbrev pub NEXT : ℕ
NEXT = 3104

abbrev pub work_layout : List (ℕ × ℕ)
work_layout =
    (W_MARK, max_terms) ∷ (W_BLOCK, blocks) ∷ (ROOT, max_terms) ∷ (LOWEST, max_terms) ∷ (NEXT, max_terms) ∷ []

abbrev pub work_room : ℕ → ℕ
work_room = room_in work_layout

abbrev pub work_size : ℕ
work_size = 4128

abbrev pub work_marks : List ℕ → List ℕ
work_marks w = flagged_from w W_MARK 0

-- the state of a check under way: the marks are those of the work table
abbrev pub state_at : List ℕ → List ℕ → List ℕ → List ℕ → (ℕ → ℕ) → State
state_at c e s w lv = state_with c e s lv (work_marks w)

-- ---- marked constructor applications

-- those from term i on
unfoldable pub apps_from : Context → List ℕ → ℕ → List CtorApp
apps_from cx w i = gather (ctor_app cx) (flagged_from w W_MARK i)

-- the first of some that is in the class of x
unfoldable pub first_in_class : List Merge → ℕ → List CtorApp → Option CtorApp
first_in_class ms x apps = first (λ (a : CtorApp). are_equal ms x a.app) apps

-- the word for an application, if there is one
unfoldable pub app_word : Option CtorApp → ℕ
app_word none = 0
app_word (some a) = suc a.app

-- the lower of x and what a word stands for
unfoldable pub lower_word : ℕ → ℕ → ℕ
lower_word x zero = suc x
lower_word x (suc y) = cond (ltb x y) (suc x) (suc y)

-- ---- when a work table is sound

pub record WorkSound (c e w : List ℕ) : Type 0 where
  pub long : work_size ≤ length w
  pub marks : MarksAre (context c) w W_MARK
  pub roots : (x : ℕ) → x < max_terms → (at w ROOT x ≡ 0) ⊎ (at w ROOT x ≡ suc (find (merges e) x))
  pub lowest : (x : ℕ) → x < max_terms →
      at w LOWEST (find (merges e) x) ≡ app_word (first_in_class (merges e) x (apps_from (context c) w 0))

-- a short one: no roots and no chains, but the blocks say where constructor applications are marked
pub record ShortSound (c w : List ℕ) : Type 0 where
  pub long : marks_size ≤ length w
  pub short : length w < work_size
  pub marks : MarksAre (context c) w W_MARK
  pub announced : Announced w W_MARK W_BLOCK

-- the chain of each class: for an application the first of its class behind it
pub record ChainSound (c e w : List ℕ) : Type 0 where
  pub next : (x : ℕ) → x < max_terms → at w W_MARK x ≡ 1 →
      at w NEXT x ≡ app_word (first_in_class (merges e) x (apps_from (context c) w (suc x)))

-- a check under way: the tables fit together, and no mark was taken back
pub record CheckSound (c e s w : List ℕ) : Type 0 where
  pub state : StateSound c e s
  pub work : WorkSound c e w
  pub more : (x : ℕ) → x < max_terms → is_set (at s MARK x) ≡ true → at w W_MARK x ≡ at s MARK x

-- ---- what the functions on it ask and promise

-- the tables that a question about the class of x is put to
pub record ClassAsked (c e w : List ℕ) (x : ℕ) : Type 0 where
  pub core : ContextSound c
  pub signed : Signed (context c)
  pub engine : EngineSound e
  pub work : WorkSound c e w
  pub is_node : x < max_terms

-- a table that has a class's constructor: a work table, whole or short
abbrev pub ClassTable : List ℕ → List ℕ → List ℕ → Type 0
ClassTable c e w = WorkSound c e w ⊎ ShortSound c w

-- the tables that the constructor of the class of x is asked of
pub record CtorAsked (c e w : List ℕ) (x : ℕ) : Type 0 where
  pub core : ContextSound c
  pub signed : Signed (context c)
  pub engine : EngineSound e
  pub table : ClassTable c e w
  pub is_node : x < max_terms

-- what the code says of a class: its constructor and the application that stands for it, if there is one
abbrev pub CtorOf : Type 0
CtorOf = GivenOption (SymbolId × TermId)

-- the same in the definition
unfoldable pub ctor_meaning : Context → CtorOf → Option CtorApp
ctor_meaning cx (Some (f, x)) = some (record { app = x.0; ctor = f.0; fields = children cx x.0 })
ctor_meaning cx None = none

-- the lowest marked constructor application of the class of x
pub record CtorOfClass (c e w : List ℕ) (x : ℕ) (r : CtorOf) : Type 0 where
  pub is : ctor_meaning (context c) r ≡ first_in_class (merges e) x (apps_from (context c) w 0)
  pub within : (a : CtorApp) → ctor_meaning (context c) r ≡ some a → a.app < length (context c).terms
  pub declared : (a : CtorApp) → ctor_meaning (context c) r ≡ some a → a.ctor < length (context c).symbols

-- the word for the first application from term i on that is in the class of x
abbrev pub word_from : List ℕ → List ℕ → List ℕ → ℕ → ℕ → ℕ
word_from c e w x i = app_word (first_in_class (merges e) x (apps_from (context c) w i))

-- the word for a term, if there is one
abbrev pub term_word : GivenOption TermId → ℕ
term_word None = 0
term_word (Some x) = suc x.0

-- ---- a short work table

-- the one that the solver's table lends
abbrev pub marks_of : List ℕ → List ℕ
marks_of s = take marks_size (drop MARK s)

-- tables that may be asked for the marked applications of a class
pub record MarksAsked (e w : List ℕ) : Type 0 where
  pub engine : EngineSound e
  pub long : marks_size ≤ length w

-- the first application of block b in the class of a root, or 0: then those from this block on are those behind it
pub record LowestInBlock (e w : List ℕ) (b root word : ℕ) : Type 0 where
  pub is : (c : List ℕ) (x : ℕ) → MarksAre (context c) w W_MARK → root ≡ find (merges e) x →
      word_from c e w x (b * block_terms) ≡ cond (eqb word 0) (word_from c e w x (b * block_terms + block_terms)) word

pub record LowestMarked (e w : List ℕ) (root word : ℕ) : Type 0 where
  pub is : (c : List ℕ) (x : ℕ) → MarksAre (context c) w W_MARK → root ≡ find (merges e) x → word ≡ word_from c e w x 0

-- ---- a check without a work table

-- a work table that has the solver's marks and nothing else: no function makes it, but what the definition asks of marks is asked of it
unfoldable pub marks_only : List ℕ → List ℕ
marks_only s = counted (λ i. cond (ltb i max_terms) (at s MARK i) 0) work_size

-- ---- a check begins

-- a work table where nothing stands yet
pub record Blank (w : List ℕ) : Type 0 where
  pub long : work_size ≤ length w
  pub zero : (i : ℕ) → get_or w i 0 ≡ 0

-- a check begins: the marks are the solver's
pub record Begins (c e s w : List ℕ) : Type 0 where
  pub check : CheckSound c e s w
  pub chain : ChainSound c e w
  pub marks : (lv : ℕ → ℕ) → state_at c e s w lv ≡ state_with c e s lv (flagged_from s MARK 0)

-- the marks of the solver's table may be copied
pub record Copyable (c s w : List ℕ) : Type 0 where
  pub core : ContextSound c
  pub table : table_words ≤ length s
  pub long : work_size ≤ length w

-- those of the terms were
pub record MarksCopied (c s w u : List ℕ) : Type 0 where
  pub copied : (x : ℕ) → x < length (context c).terms → at u W_MARK x ≡ at s MARK x
  pub behind : (x : ℕ) → length (context c).terms ≤ x → at u W_MARK x ≡ at w W_MARK x
  pub kept : Kept work_room (W_MARK ∷ []) w u

-- constructor application x goes before those of its class that stand there; the class has this root
unfoldable pub linked : List ℕ → ℕ → ℕ → List ℕ
linked w x root = put (put w NEXT x (at w LOWEST root)) LOWEST root (x + 1)

-- the marks are there, but no root and no application yet
pub record Linkable (c e w : List ℕ) : Type 0 where
  pub core : ContextSound c
  pub engine : EngineSound e
  pub long : work_size ≤ length w
  pub marks : MarksAre (context c) w W_MARK
  pub no_root : (x : ℕ) → x < max_terms → at w ROOT x ≡ 0
  pub no_app : (x : ℕ) → x < max_terms → at w LOWEST x ≡ 0

-- the roots of the terms and the applications of the classes stand there
pub record Linked (c e w u : List ℕ) : Type 0 where
  pub work : WorkSound c e u
  pub chain : ChainSound c e u
  pub kept : Kept work_room (ROOT ∷ LOWEST ∷ NEXT ∷ []) w u

-- term x is marked as well; it is relevant
pub record Markable (c e w : List ℕ) (x : ℕ) : Type 0 where
  pub asked : ClassAsked c e w x
  pub within : x < length (context c).terms
  pub relevant : is_set (term_kind (context c) x) ≡ true

-- constructor application x is the lowest of the class of root r, unless there is a lower one
pub record Lowered (r x : ℕ) (w u : List ℕ) : Type 0 where
  pub words : (y : ℕ) → y < max_terms → at u LOWEST y ≡ cond (eqb y r) (lower_word x (at w LOWEST y)) (at w LOWEST y)
  pub kept : Kept work_room (LOWEST ∷ []) w u

pub record Marked (c e w : List ℕ) (x : ℕ) (u : List ℕ) : Type 0 where
  pub work : WorkSound c e u
  pub marks : work_marks u ≡ insert x (work_marks w)
  pub words : (y : ℕ) → y < max_terms → at u W_MARK y ≡ cond (eqb y x) (term_kind (context c) x) (at w W_MARK y)
  pub kept : Kept work_room (W_MARK ∷ LOWEST ∷ []) w u
