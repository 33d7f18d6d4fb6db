-- What the functions on the solver's table promise that make it empty, register variables and collect terms.
use Rattle.std.specs.Prelude.{ℕ, ◌/◌, ◌<◌, ◌≡◌, ◌⊎◌, true, false, cond, List, [], ◌∷◌, eqb, length}
use Rattle.shinri_core.specs.Limits.{max_terms, max_vars}
use Rattle.shinri_core.specs.Lists.{In}
use Rattle.shinri_core.specs.Context.{children}
use Rattle.shinri_core.specs.Formed.{Formed, Signed, Beneath}
use Rattle.shinri_core.specs.Memory.Words.{at, put, Kept}
use Rattle.shinri_core.specs.Memory.Table.{context, ContextSound}
use Rattle.theory.specs.Atom.{register, is_registered}
use Rattle.theory.specs.Memory.Registry.{atoms}
use Rattle.solver.specs.State.{with_atoms}
use Rattle.solver.specs.Records.{new_var}
use Rattle.solver.specs.Memory.Table.{COUNTS, BLOCK, blocks, block_terms, MARK, COLLECTED, LASTING, EMITTED, SPLIT, solver_room, records#, registry, is_set, flagged, MarksAre, Announced, state, SolverSound, CollectedSound, StateSound}

-- ---- an empty table

-- the count of the records, the marks, the words of the blocks and the flags of all terms and keys stand side by side, from COUNTS on
abbrev pub flag_words : ℕ
flag_words = 8256

-- these words are 0
pub record Wiped (s u : List ℕ) : Type 0 where
  pub long : length u ≡ length s
  pub zero : (i : ℕ) → i < flag_words → at u COUNTS i ≡ 0

-- the table of an empty session
pub record SolverCleared (u : List ℕ) : Type 0 where
  pub sound : SolverSound u
  pub atoms : atoms (registry u) ≡ []
  pub records : records# u ≡ 0
  pub marks : flagged u MARK ≡ []
  pub collected : flagged u COLLECTED ≡ []
  pub lasting : flagged u LASTING ≡ []
  pub emitted : flagged u EMITTED ≡ []
  pub split_done : flagged u SPLIT ≡ []

-- ---- registering

-- a variable that is not registered yet, and an atom for it
pub record MayRegister (s : List ℕ) (v x : ℕ) : Type 0 where
  pub sound : SolverSound s
  pub var : v < max_vars
  pub atom : x < max_terms
  pub new : is_registered (atoms (registry s)) v ≡ false

pub record Registers (s : List ℕ) (v x : ℕ) (u : List ℕ) : Type 0 where
  pub sound : (c e : List ℕ) → StateSound c e s → x < length (context c).terms → StateSound c e u
  pub state : (c e : List ℕ) (lv : ℕ → ℕ) → state c e u lv ≡ with_atoms (state c e s lv) (register (atoms (registry s)) v x)
  pub atoms : atoms (registry u) ≡ register (atoms (registry s)) v x

-- ---- marks

-- term x is marked as k; a constructor application is announced
unfoldable pub with_mark : List ℕ → ℕ → ℕ → List ℕ
with_mark s x k = cond (eqb k 1) (put (put s MARK x k) BLOCK (x / block_terms) 1) (put s MARK x k)

-- no block announces a constructor application
abbrev pub NoneAnnounced : List ℕ → Type 0
NoneAnnounced s = (b : ℕ) → b < blocks → is_set (at s BLOCK b) ≡ false

-- no term stands in the lasting record
abbrev pub NoneLasting : List ℕ → List ℕ → Type 0
NoneLasting c s = (x : ℕ) → x < length (context c).terms → is_set (at s LASTING x) ≡ false

-- ---- collection

-- the tables that terms are collected in
pub record Collecting (c s : List ℕ) : Type 0 where
  pub core : ContextSound c
  pub formed : Formed (context c)
  pub signed : Signed (context c)
  pub solver : SolverSound s
  pub marks : MarksAre (context c) s MARK
  pub announced : Announced s MARK BLOCK
  pub collected : (x : ℕ) → x < max_terms → is_set (at s COLLECTED x) ≡ true → CollectedSound (context c) s x

-- From s to u terms were collected, of which those that are new stand below x. No mark was taken back.
pub record Spreads (c : List ℕ) (x : ℕ) (s u : List ℕ) : Type 0 where
  pub tables : Collecting c u
  pub kept : Kept solver_room (BLOCK ∷ MARK ∷ COLLECTED ∷ []) s u
  pub stay_marked : (y : ℕ) → y < max_terms → is_set (at s MARK y) ≡ true → at u MARK y ≡ at s MARK y
  pub stay_collected : (y : ℕ) → y < max_terms → is_set (at s COLLECTED y) ≡ true → is_set (at u COLLECTED y) ≡ true
  pub only : (y : ℕ) → y < max_terms → is_set (at u MARK y) ≡ true →
      (is_set (at s MARK y) ≡ true) ⊎ ((n : ℕ) × Beneath (context c) n x y)

-- term x was collected
pub record Collects (c s : List ℕ) (x : ℕ) (u : List ℕ) : Type 0 where
  pub spreads : Spreads c x s u
  pub here : is_set (at u COLLECTED x) ≡ true

-- the children of term x were collected
pub record CollectsChildren (c s : List ℕ) (x : ℕ) (u : List ℕ) : Type 0 where
  pub spreads : Spreads c x s u
  pub below : (y : ℕ) → In y (children (context c) x) → is_set (at u COLLECTED y) ≡ true

-- a registered atom was collected
pub record CollectsVar (c s : List ℕ) (x : ℕ) (u : List ℕ) : Type 0 where
  pub sound : (e : List ℕ) → StateSound c e s → StateSound c e u
  pub state : (e : List ℕ) (lv : ℕ → ℕ) → state c e u lv ≡ new_var (state c e s lv) x
