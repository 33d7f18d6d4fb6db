-- The records by levels: the caller's mark counts say how many entries they had when each open level began. What the
-- functions on them promise.
use Rattle.std.specs.Prelude.{ℕ, zero, suc, ◌≤◌, ◌<◌, ◌≡◌, ◌⊎◌, Bool, true, false, cond, List, [], ◌∷◌, ◌++◌, eqb, leb, length, get_or}
use Rattle.shinri_core.specs.Limits.{max_levels, max_terms, table_words}
use Rattle.shinri_core.specs.Memory.Words.{at, Kept}
use Rattle.shinri_core.specs.Memory.Table.{context}
use Rattle.theory.specs.Memory.Table.{level}
use Rattle.solver.specs.State.{State, AssertedAtom, with_level_record, with_negative_record, with_disequalities}
use Rattle.solver.specs.Records.{record_tester, record_negative, pop_entries}
use Rattle.solver.specs.declared.levels.TesterMarks.{TesterMarks}
use Rattle.solver.specs.Memory.Table.{COUNTS, RECORDED, ENTRY, max_records, solver_room, records#, is_set, of_sign, of_unequal, entry_key, entry_word, asserted, record_of, state, term_kind, SolverSound, StateSound, max_lits}

-- ---- levels

-- how many of the first n counts are at most i
unfoldable pub begun : List ℕ → ℕ → ℕ → ℕ
begun cs zero i = 0
begun cs (suc n) i = cond (leb (get_or cs n 0) i) (suc (begun cs n i)) (begun cs n i)

-- the level of entry i: how many of the open levels had begun when it came
unfoldable pub entry_level : TesterMarks → ℕ → ℕ
entry_level m i = begun m.counts m.levels i

-- ---- when the counts are sound

-- the counts rise, and none is above the number of entries
pub record MarksSound (s : List ℕ) (m : TesterMarks) : Type 0 where
  pub levels_fit : m.levels ≤ max_levels
  pub rise : (i j : ℕ) → i ≤ j → j < m.levels → get_or m.counts i 0 ≤ get_or m.counts j 0
  pub within : (i : ℕ) → i < m.levels → get_or m.counts i 0 ≤ records# s

-- the solver's table is sound, and its records have keys; both follow from a sound state
pub record RecordsSound (s : List ℕ) : Type 0 where
  pub solver : SolverSound s
  pub keys : (i : ℕ) → i < records# s → entry_key s i < max_records

-- ---- push

-- one level more is open, and each entry keeps its level
pub record Opened (s : List ℕ) (m m' : TesterMarks) : Type 0 where
  pub marks : MarksSound s m'
  pub one_more : m'.levels ≡ suc m.levels
  pub entries : (p : ℕ → Bool) → record_of p s (entry_level m') ≡ record_of p s (entry_level m)
  pub state : (c e : List ℕ) → state c e s (entry_level m') ≡ state c e s (entry_level m)

-- ---- pop

-- the entries from n on are dropped
pub record Dropped (s : List ℕ) (n : ℕ) (s' : List ℕ) : Type 0 where
  pub sound : RecordsSound s'
  pub count : records# s' ≡ n
  pub kept : Kept solver_room (COUNTS ∷ RECORDED ∷ []) s s'

-- The entries of level `to` or lower are left; what else the table means is as it was. A level that is not open takes nothing back.
pub record Popped (s : List ℕ) (m : TesterMarks) (to : ℕ) (s' : List ℕ) (m' : TesterMarks) : Type 0 where
  pub sound : RecordsSound s'
  pub marks : MarksSound s' m'
  pub below : to < m.levels → m'.levels ≡ to
  pub above : m.levels ≤ to → (s' ≡ s) × (m' ≡ m)
  pub entries : (p : ℕ → Bool) → record_of p s' (entry_level m') ≡ pop_entries to (record_of p s (entry_level m))
  pub state_sound : (c e : List ℕ) → StateSound c e s → StateSound c e s'
  pub state : (c e : List ℕ) →
      state c e s' (entry_level m')
      ≡ with_disequalities
      (with_negative_record
      (with_level_record (state c e s (entry_level m)) (pop_entries to (record_of (of_sign true) s (entry_level m))))
      (pop_entries to (record_of (of_sign false) s (entry_level m))))
      (pop_entries to (record_of of_unequal s (entry_level m)))
  pub kept : Kept solver_room (COUNTS ∷ RECORDED ∷ []) s s'

-- ---- an entry

-- a key may be entered, with r beside it
pub record Recordable (s : List ℕ) (k r : ℕ) : Type 0 where
  pub sound : RecordsSound s
  pub key : k < max_records
  pub rest : r < max_lits

-- and has no entry
pub record NewEntry (s : List ℕ) (k r : ℕ) : Type 0 where
  pub may : Recordable s k r
  pub new : at s RECORDED k ≡ 0

-- there is one entry more
pub record Entered (s : List ℕ) (k r : ℕ) (s' : List ℕ) : Type 0 where
  pub long : table_words ≤ length s'
  pub count : records# s' ≡ suc (records# s)
  pub flags : (y : ℕ) → y < max_records → at s' RECORDED y ≡ cond (eqb y k) 1 (at s RECORDED y)
  pub words : (i : ℕ) → i < max_records → at s' ENTRY i ≡ cond (eqb i (records# s)) (entry_word k r) (at s ENTRY i)
  pub kept : Kept solver_room (COUNTS ∷ RECORDED ∷ ENTRY ∷ []) s s'

-- a record with an entry more, unless it is there
unfoldable pub with_entry : Bool → AssertedAtom → List AssertedAtom → List AssertedAtom
with_entry there a es = cond there es (es ++ (a ∷ []))

-- the key k has an entry in each record whose test lets it through
pub record Enters (s : List ℕ) (k r : ℕ) (s' : List ℕ) : Type 0 where
  pub sound : RecordsSound s'
  pub more : records# s ≤ records# s'
  pub entries : (p : ℕ → Bool) (lv : ℕ → ℕ) →
      record_of p s' lv
      ≡ cond (p k) (with_entry (is_set (at s RECORDED k)) (asserted k r (lv (records# s))) (record_of p s lv)) (record_of p s lv)
  pub words : (i : ℕ) → i < records# s' →
      (at s' ENTRY i ≡ entry_word k r) ⊎ ((j : ℕ) × (j < records# s) × (at s' ENTRY i ≡ at s ENTRY j))
  pub kept : Kept solver_room (COUNTS ∷ RECORDED ∷ ENTRY ∷ []) s s'

-- ---- record_tester

-- the tester application x may be recorded, with the literal l
pub record TesterRecordable (s : List ℕ) (x l : ℕ) : Type 0 where
  pub sound : RecordsSound s
  pub atom : x < max_terms
  pub lit : l < max_lits

-- what the definition records of a tester, positive or negative
abbrev pub recording : Bool → State → ℕ → ℕ → State
recording true = record_tester
recording false = record_negative

-- The tester x was recorded with the literal l. `lv` gives the entries' levels; a new entry has the present level.
pub record Recorded (b : Bool) (s : List ℕ) (x l : ℕ) (s' : List ℕ) : Type 0 where
  pub sound : RecordsSound s'
  pub state_sound : (c e : List ℕ) → StateSound c e s → term_kind (context c) x ≡ 4 → StateSound c e s'
  pub state : (c e : List ℕ) (lv : ℕ → ℕ) → lv (records# s) ≡ level e → state c e s' lv ≡ recording b (state c e s lv) x l
  pub marks : (m : TesterMarks) → MarksSound s m → MarksSound s' m
