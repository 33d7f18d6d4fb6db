-- The lent table of this layer: where each part stands, what a table means, and when the three tables fit together.
use Rattle.std.specs.Prelude.{ℕ, zero, suc, ◌+◌, ◌-◌, ◌*◌, ◌/◌, ◌%◌, ◌≤◌, ◌<◌, ◌≡◌, ◌⊎◌, Bool, true, false, cond, not, ◌||◌, ◌&&◌, List, [], ◌∷◌, eqb, ltb, length, take}
use Rattle.std.proofs.Math.Option.{Option, none, some}
use Rattle.shinri_core.specs.Limits.{max_terms, table_words}
use Rattle.shinri_core.specs.Lists.{In, Apart, any, gather, keep, range}
use Rattle.shinri_core.specs.Ids as Ids
use Rattle.shinri_core.specs.Term as Term
use Rattle.shinri_core.specs.Term.{Role, Constructor, Tester, Selector, Function, Op, Eq}
use Rattle.shinri_core.specs.Context.{Context, symbol, term, children, is_datatype_sort}
use Rattle.shinri_core.specs.Formed.{Formed, Signed}
use Rattle.shinri_core.specs.Memory.Words.{at, counted, room_in}
use Rattle.shinri_core.specs.Memory.Table.{context, ContextSound}
use Rattle.theory.specs.Atom.{Registered}
use Rattle.theory.specs.Memory.Table.{merges, level, EngineSound}
use Rattle.theory.specs.Memory.Registry.{registry_size, atoms, RegistrySound}
use Rattle.solver.specs.State.{State, DtSolver, AssertedAtom}

-- ---- the layout

-- the registry of variables, a table of its own
abbrev pub REGISTRY : ℕ
REGISTRY = 0

-- how many entries the records have
abbrev pub COUNTS : ℕ
COUNTS = 3136

abbrev pub RECORDS : ℕ
RECORDS = 0

-- for each term: what it was marked as, or 0
abbrev pub MARK : ℕ
MARK = 3168

-- for each block of terms: whether a constructor application may be marked in it
abbrev pub BLOCK : ℕ
BLOCK = 4192

abbrev pub blocks : ℕ
blocks = 32

abbrev pub block_terms : ℕ
block_terms = 32

-- for each term: whether it was collected, whether it stands in the lasting record, was handed out, was split on
abbrev pub COLLECTED : ℕ
COLLECTED = 4224

abbrev pub LASTING : ℕ
LASTING = 5248

abbrev pub EMITTED : ℕ
EMITTED = 6272

abbrev pub SPLIT : ℕ
SPLIT = 7296

-- The level record, the record of negative testers and that of unequal terms are one list, in order of the lines. The key of an entry is
-- its atom, and 1,024 more if the tester is negative; for unequal terms the variable of their literal, and 2,048 more. For each key:
-- whether it has an entry.
abbrev pub RECORDED : ℕ
RECORDED = 8320

-- for each entry: its key, times 2,048, and its literal; for unequal terms, whose key tells the literal, their equation
abbrev pub ENTRY : ℕ
ENTRY = 11392

-- an atom may have an entry in each record of testers, a variable one in that of unequal terms
abbrev pub max_records : ℕ
max_records = 3072

-- the keys from here on are those of unequal terms
abbrev pub UNEQUAL : ℕ
UNEQUAL = 2048

-- a variable has two literals
abbrev pub max_lits : ℕ
max_lits = 2048

-- The words from 14,464 on are free.
abbrev pub layout : List (ℕ × ℕ)
layout =
    (REGISTRY, registry_size)
    ∷ (COUNTS, 32)
    ∷ (MARK, max_terms)
    ∷ (BLOCK, blocks)
    ∷ (COLLECTED, max_terms)
    ∷ (LASTING, max_terms)
    ∷ (EMITTED, max_terms)
    ∷ (SPLIT, max_terms)
    ∷ (RECORDED, max_records)
    ∷ (ENTRY, max_records)
    ∷ []

abbrev pub solver_room : ℕ → ℕ
solver_room = room_in layout

abbrev pub records# : List ℕ → ℕ
records# s = at s COUNTS RECORDS

-- the part of the table that is the registry's
abbrev pub registry : List ℕ → List ℕ
registry s = take registry_size s

-- ---- sets of terms as flags

-- a flag is any word but 0
unfoldable pub is_set : ℕ → Bool
is_set zero = false
is_set (suc n) = true

-- the terms from i on whose flag in a region is set
unfoldable pub flagged_from : List ℕ → ℕ → ℕ → List ℕ
flagged_from t b i = keep (λ x. is_set (at t b x)) (range i (max_terms - i))

abbrev pub flagged : List ℕ → ℕ → List ℕ
flagged t b = flagged_from t b 0

-- ---- marks

-- What a mark says of its term: 1 it is an application of a constructor, 2 of a selector, 3 of a selector with a datatype field, 4 of a
-- tester, 5 of a function with a datatype result; 0 none of these.
unfoldable pub role_kind : Role → Bool → ℕ
role_kind Constructor datatype = 1
role_kind (Selector c i) datatype = cond datatype 3 2
role_kind (Tester c) datatype = 4
role_kind Function datatype = cond datatype 5 0

unfoldable pub op_kind : Context → Op → ℕ
op_kind cx Eq = 0
op_kind cx (Term.Uninterpreted f) = role_kind (symbol cx f).role (is_datatype_sort cx (symbol cx f).result)

unfoldable pub term_kind : Context → ℕ → ℕ
term_kind cx t = op_kind cx (term cx t).op

-- does a mark say that its term is a datatype term?
unfoldable pub watched_kind : ℕ → Bool
watched_kind k = eqb k 1 || eqb k 3 || eqb k 5

-- a region has a mark, the right one, or none for each term
abbrev pub MarksAre : Context → List ℕ → ℕ → Type 0
MarksAre cx t b = (x : ℕ) → x < max_terms → (at t b x ≡ 0) ⊎ (at t b x ≡ term_kind cx x)

-- by two regions, of marks and of blocks: a marked constructor application is announced in its block
abbrev pub Announced : List ℕ → ℕ → ℕ → Type 0
Announced t m b = (x : ℕ) → x < max_terms → at t m x ≡ 1 → is_set (at t b (x / block_terms)) ≡ true

-- ---- what a table means

-- the key of a tester, positive or negative
unfoldable pub tester_key : Bool → ℕ → ℕ
tester_key true x = x
tester_key false x = x + max_terms

-- that of unequal terms, by their literal
unfoldable pub unequal_key : ℕ → ℕ
unequal_key l = UNEQUAL + Ids.var l

-- is a key one of a positive tester, or of a negative one?
unfoldable pub of_sign : Bool → ℕ → Bool
of_sign true k = ltb k max_terms
of_sign false k = not (ltb k max_terms) && ltb k UNEQUAL

-- or of unequal terms?
unfoldable pub of_unequal : ℕ → Bool
of_unequal k = not (ltb k UNEQUAL)

-- the atom of a tester's key
unfoldable pub key_atom : ℕ → ℕ
key_atom k = cond (ltb k max_terms) k (k - max_terms)

-- the word of an entry, by its key and what stands beside it
unfoldable pub entry_word : ℕ → ℕ → ℕ
entry_word k r = k * max_lits + r

abbrev pub entry_key : List ℕ → ℕ → ℕ
entry_key s i = at s ENTRY i / max_lits

abbrev pub entry_rest : List ℕ → ℕ → ℕ
entry_rest s i = at s ENTRY i % max_lits

-- the entry that a key, what stands beside it and a level mean
unfoldable pub asserted : ℕ → ℕ → ℕ → AssertedAtom
asserted k r v =
    cond (ltb k UNEQUAL) (record { atom = key_atom k; lit = r; level = v })
    (record { atom = r; lit = 2 * (k - UNEQUAL) + 1; level = v })

-- Entry i, if a test lets its key through. The level that it came at is known by the caller's mark counts: `lv` gives it.
unfoldable pub entry_of : (ℕ → Bool) → List ℕ → (ℕ → ℕ) → ℕ → Option AssertedAtom
entry_of p s lv i = cond (p (entry_key s i)) (some (asserted (entry_key s i) (entry_rest s i) (lv i))) none

-- the record of those entries: of positive testers, which is the level record, of negative ones, or of unequal terms
unfoldable pub record_of : (ℕ → Bool) → List ℕ → (ℕ → ℕ) → List AssertedAtom
record_of p s lv = gather (entry_of p s lv) (range 0 (records# s))

-- what the solver keeps, with these marks
unfoldable pub dt_with : List ℕ → (ℕ → ℕ) → List ℕ → DtSolver
dt_with s lv marks = record {
  marks = marks;
  level_record = record_of (of_sign true) s lv;
  negative_record = record_of (of_sign false) s lv;
  disequalities = record_of of_unequal s lv;
  lasting = flagged s LASTING;
  emitted = flagged s EMITTED;
  split_done = flagged s SPLIT;
}

-- the state that three tables mean: core's, the engine's and the solver's, with these marks
unfoldable pub state_with : List ℕ → List ℕ → List ℕ → (ℕ → ℕ) → List ℕ → State
state_with c e s lv marks = record {
  terms = context c;
  eq = merges e;
  atoms = atoms (registry s);
  level = level e;
  dt = dt_with s lv marks;
}

-- and with those that the solver's table has
abbrev pub state : List ℕ → List ℕ → List ℕ → (ℕ → ℕ) → State
state c e s lv = state_with c e s lv (flagged s MARK)

-- ---- when a table is sound

pub record SolverSound (s : List ℕ) : Type 0 where
  pub long : table_words ≤ length s
  pub atoms : RegistrySound (registry s)
  -- a key has one entry, and its flag says so
  pub records_fit : records# s ≤ max_records
  pub once : Apart (counted (entry_key s) (records# s))
  pub recorded : (x : ℕ) → x < max_records → is_set (at s RECORDED x) ≡ any (eqb x) (counted (entry_key s) (records# s))

-- a collected term: its mark is there if it is to have one, and its children are collected
pub record CollectedSound (cx : Context) (s : List ℕ) (x : ℕ) : Type 0 where
  pub within : x < length cx.terms
  pub mark : at s MARK x ≡ term_kind cx x
  pub below : (y : ℕ) → In y (children cx x) → is_set (at s COLLECTED y) ≡ true

-- the word of an entry: its atom is a tester application, or an equation
pub record EntryFits (cx : Context) (w : ℕ) : Type 0 where
  pub key : w / max_lits < max_records
  pub tester : w / max_lits < UNEQUAL → term_kind cx (key_atom (w / max_lits)) ≡ 4
  pub equation : UNEQUAL ≤ w / max_lits → (w % max_lits < length cx.terms) × ((term cx (w % max_lits)).op ≡ Eq)

-- The three tables fit together.
pub record StateSound (c e s : List ℕ) : Type 0 where
  pub core : ContextSound c
  pub formed : Formed (context c)
  pub signed : Signed (context c)
  pub engine : EngineSound e
  pub solver : SolverSound s
  pub registered : (r : Registered) → In r (atoms (registry s)) → r.atom < length (context c).terms
  pub marks : MarksAre (context c) s MARK
  pub announced : Announced s MARK BLOCK
  pub collected : (x : ℕ) → x < max_terms → is_set (at s COLLECTED x) ≡ true → CollectedSound (context c) s x
  -- the atoms of the lasting record are tester applications, the entries of the others fit
  pub lasting : (x : ℕ) → x < max_terms → is_set (at s LASTING x) ≡ true → term_kind (context c) x ≡ 4
  pub records : (i : ℕ) → i < records# s → EntryFits (context c) (at s ENTRY i)
