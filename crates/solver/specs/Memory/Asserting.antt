-- What asserting a literal promises.
use Rattle.std.specs.Prelude.{ℕ, ◌≤◌, ◌<◌, ◌≡◌, Bool, true, List, length, Ok}
use Rattle.std.proofs.Math.Option.{some}
use Rattle.shinri_core.specs.Ids as Ids
use Rattle.shinri_core.specs.Context.{TesterApp, tester_app}
use Rattle.shinri_core.specs.Memory.Table.{context}
use Rattle.theory.specs.Atom.{is_registered}
use Rattle.theory.specs.Memory.Table.{level}
use Rattle.theory.specs.Memory.Registry.{atoms}
use Rattle.theory.specs.Memory.Answer.{answer_size}
use Rattle.solver.specs.Records.{assert}
use Rattle.solver.specs.declared.answer.TCheck as TCheck
use Rattle.solver.specs.Memory.Table.{records#, registry, term_kind, state, StateSound, max_lits}
use Rattle.solver.specs.declared.levels.TesterMarks.{TesterMarks}
use Rattle.solver.specs.Memory.Levels.{MarksSound, recording}
use Rattle.solver.specs.Memory.Answer.{Readable}
use Rattle.solver.specs.Memory.Testing.{ConflictIs, conflict_by}

-- tester application x may be asserted, by the literal l
pub record TesterAssertable (c e s : List ℕ) (l x : ℕ) (o : List ℕ) : Type 0 where
  pub sound : StateSound c e s
  pub lit : l < max_lits
  pub tester : term_kind (context c) x ≡ 4
  pub long : answer_size ≤ length o

-- Literal l asserts it or its negation; s' is the solver's table after. `lv` gives the entries' levels; a new entry has the present level.
pub record AssertsTester (b : Bool) (c e s : List ℕ) (l x : ℕ) (r : TCheck.TCheck) (s' o : List ℕ) : Type 0 where
  pub sound : StateSound c e s'
  pub app : TesterApp
  pub is_tester : tester_app (context c) x ≡ some app
  pub conflict : (lv : ℕ → ℕ) → ConflictIs r (conflict_by b (state c e s lv) l app) o
  pub state : (lv : ℕ → ℕ) → lv (records# s) ≡ level e → state c e s' lv ≡ recording b (state c e s lv) x l
  pub marks : (m : TesterMarks) → MarksSound s m → MarksSound s' m
  pub readable : Readable (Ok r) o

-- a literal of a registered variable may be asserted
pub record Assertable (c e s : List ℕ) (l : ℕ) (o : List ℕ) : Type 0 where
  pub sound : StateSound c e s
  pub registered : is_registered (atoms (registry s)) (Ids.var l) ≡ true
  pub long : answer_size ≤ length o

-- The answer is the definition's, `Sat` for no conflict, and so is the state. Mark counts stay sound.
pub record Asserts (c e s : List ℕ) (l : ℕ) (r : TCheck.TCheck) (s' o : List ℕ) : Type 0 where
  pub sound : StateSound c e s'
  pub conflict : (lv : ℕ → ℕ) → ConflictIs r (assert (state c e s lv) l).conflict o
  pub state : (lv : ℕ → ℕ) → lv (records# s) ≡ level e → (assert (state c e s lv) l).state ≡ state c e s' lv
  pub marks : (m : TesterMarks) → MarksSound s m → MarksSound s' m
  pub readable : Readable (Ok r) o
