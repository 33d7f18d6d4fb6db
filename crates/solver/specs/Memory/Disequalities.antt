-- What the functions promise that record unequal terms and find those that are equal now.
use Rattle.std.specs.Prelude.{ℕ, ◌≤◌, ◌<◌, ◌≡◌, true, false, List, length, Ok}
use Rattle.std.proofs.Math.Option.{Option}
use Rattle.shinri_core.specs.Ids as Ids
use Rattle.shinri_core.specs.Term.{Eq}
use Rattle.shinri_core.specs.Context.{term, children}
use Rattle.shinri_core.specs.Formed.{Formed}
use Rattle.shinri_core.specs.Memory.Table.{context, ContextSound}
use Rattle.theory.specs.Types.{EqLeaf}
use Rattle.theory.specs.Atom.{is_registered, atom}
use Rattle.theory.specs.Memory.Table.{level, EngineSound}
use Rattle.theory.specs.Memory.Registry.{atoms}
use Rattle.theory.specs.Memory.Answer.{answer_size}
use Rattle.solver.specs.State.{State, AssertedAtom}
use Rattle.solver.specs.Records.{differ, disequality_conflict}
use Rattle.solver.specs.Rules.{pass, disequality_clash}
use Rattle.solver.specs.declared.answer.TCheck as TCheck
use Rattle.solver.specs.declared.levels.TesterMarks.{TesterMarks}
use Rattle.solver.specs.Memory.Table.{records#, registry, of_unequal, entry_of, state, StateSound}
use Rattle.solver.specs.Memory.Work.{state_at}
use Rattle.solver.specs.Memory.Levels.{MarksSound, RecordsSound}
use Rattle.solver.specs.Memory.Answer.{Outcome, Readable}
use Rattle.solver.specs.Memory.Testing.{ConflictIs, found_at}

-- ---- differ

-- a negative literal of a registered variable
pub record Differable (s : List ℕ) (l : ℕ) : Type 0 where
  pub sound : RecordsSound s
  pub registered : is_registered (atoms (registry s)) (Ids.var l) ≡ true
  pub negative : Ids.is_positive l ≡ false

-- The literal l was recorded; the tables fit together still if its atom is an equation. `lv` gives the entries' levels; a new entry has the
-- present level.
pub record Differs (s : List ℕ) (l : ℕ) (s' : List ℕ) : Type 0 where
  pub state_sound : (c e : List ℕ) → StateSound c e s → (term (context c) (atom (atoms (registry s)) (Ids.var l))).op ≡ Eq →
      StateSound c e s'
  pub state : (c e : List ℕ) (lv : ℕ → ℕ) → lv (records# s) ≡ level e → state c e s' lv ≡ differ (state c e s lv) l
  pub marks : (m : TesterMarks) → MarksSound s m → MarksSound s' m

-- ---- the sides of an equation

pub record SidesAsked (c e : List ℕ) (x : ℕ) (o : List ℕ) : Type 0 where
  pub core : ContextSound c
  pub formed : Formed (context c)
  pub engine : EngineSound e
  pub within : x < length (context c).terms
  pub equation : (term (context c) x).op ≡ Eq
  pub long : answer_size ≤ length o

-- what the negative literal l of the equation x contradicts, whatever the solver's tables
pub record SidesConflict (c e : List ℕ) (l x : ℕ) (r : TCheck.TCheck) (o : List ℕ) : Type 0 where
  pub conflict : (s w : List ℕ) (lv : ℕ → ℕ) → ConflictIs r (disequality_conflict (state_at c e s w lv) l (children (context c) x)) o
  pub readable : Readable (Ok r) o

-- ---- the record

-- what the definition finds of an entry of the record of unequal terms
abbrev pub unequal_finds : AssertedAtom → State → Option (List EqLeaf)
unequal_finds a S = disequality_conflict S a.lit (children S.terms a.atom)

-- the tables that the record is asked in
pub record UnequalAsked (c e s o : List ℕ) : Type 0 where
  pub state : StateSound c e s
  pub long : answer_size ≤ length o

pub record PairAsked (c e s : List ℕ) (i : ℕ) (o : List ℕ) : Type 0 where
  pub asked : UnequalAsked c e s o
  pub within : i < records# s

-- what entry i gives, in a check with any marks
pub record PairConflict (c e s : List ℕ) (i : ℕ) (r : TCheck.TCheck) (o : List ℕ) : Type 0 where
  pub conflict : (w : List ℕ) (lv : ℕ → ℕ) → ConflictIs r (found_at unequal_finds (entry_of of_unequal s lv i) (state_at c e s w lv)) o
  pub readable : Readable (Ok r) o

-- what the rule gives, in a check with any marks
pub record UnequalClash (c e s : List ℕ) (r : TCheck.TCheck) (o : List ℕ) : Type 0 where
  pub outcome : (w : List ℕ) (lv : ℕ → ℕ) → Outcome (Ok r) (disequality_clash (state_at c e s w lv)) (state_at c e s w lv) o
  pub readable : Readable (Ok r) o

-- no recorded unequal terms are equal
abbrev pub NoneJoined : List ℕ → List ℕ → List ℕ → Type 0
NoneJoined c e s = (w : List ℕ) (lv : ℕ → ℕ) → disequality_clash (state_at c e s w lv) ≡ pass (state_at c e s w lv)
