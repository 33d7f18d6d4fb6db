-- What the solver sees and keeps (TheoryCtx and DtSolver).
use Rattle.std.specs.Prelude.{ℕ, Bool, List, []}
use Rattle.std.proofs.Math.Option.{Option}
use Rattle.shinri_core.specs.Lists.{first, gather, insert, keep}
use Rattle.shinri_core.specs.Context.{Context, empty_context, Made, mk_app, CtorApp, SelApp, TesterApp, ctor_app, sel_app, tester_app, is_datatype_sort, sort_of}
use Rattle.shinri_core.specs.Term.{Uninterpreted}
use Rattle.theory.specs.EqEngine.{Merge, are_equal}
use Rattle.theory.specs.Atom.{Registered}

-- an entry of a record: an atom, the literal of it that a line put in force, the level it came at
pub record AssertedAtom : Type 0 where
  pub atom : ℕ
  pub lit : ℕ
  pub level : ℕ

-- Sets of terms are ascending lists.
pub record DtSolver : Type 0 where
  -- 01: marked
  pub marks : List ℕ
  -- 01: the level record, in order of assertion
  pub level_record : List AssertedAtom
  -- 02 (i): the record of negative testers, in order of assertion
  pub negative_record : List AssertedAtom
  -- 02 (iii): the record of unequal terms, in order of the lines
  pub disequalities : List AssertedAtom
  -- 01: the lasting record
  pub lasting : List ℕ
  -- 01: atoms handed out by collapse, tester lemma and instantiation
  pub emitted : List ℕ
  -- 01: terms split on
  pub split_done : List ℕ

pub record State : Type 0 where
  pub terms : Context
  pub eq : List Merge
  pub atoms : List Registered
  pub level : ℕ
  pub dt : DtSolver

unfoldable pub empty_state : State
empty_state = record {
  terms = empty_context;
  eq = [];
  atoms = [];
  level = 0;
  dt = record { marks = []; level_record = []; negative_record = []; disequalities = []; lasting = []; emitted = []; split_done = [] };
}

-- ---- a state with one part changed

unfoldable pub with_terms : State → Context → State
with_terms s cx = record { terms = cx; eq = s.eq; atoms = s.atoms; level = s.level; dt = s.dt }

unfoldable pub with_eq : State → List Merge → State
with_eq s ms = record { terms = s.terms; eq = ms; atoms = s.atoms; level = s.level; dt = s.dt }

unfoldable pub with_atoms : State → List Registered → State
with_atoms s rs = record { terms = s.terms; eq = s.eq; atoms = rs; level = s.level; dt = s.dt }

unfoldable pub with_level : State → ℕ → State
with_level s k = record { terms = s.terms; eq = s.eq; atoms = s.atoms; level = k; dt = s.dt }

unfoldable pub with_dt : State → DtSolver → State
with_dt s d = record { terms = s.terms; eq = s.eq; atoms = s.atoms; level = s.level; dt = d }

unfoldable pub with_marks : State → List ℕ → State
with_marks s ts = with_dt s (record {
  marks = ts;
  level_record = s.dt.level_record;
  negative_record = s.dt.negative_record;
  disequalities = s.dt.disequalities;
  lasting = s.dt.lasting;
  emitted = s.dt.emitted;
  split_done = s.dt.split_done;
})

unfoldable pub with_level_record : State → List AssertedAtom → State
with_level_record s es = with_dt s (record {
  marks = s.dt.marks;
  level_record = es;
  negative_record = s.dt.negative_record;
  disequalities = s.dt.disequalities;
  lasting = s.dt.lasting;
  emitted = s.dt.emitted;
  split_done = s.dt.split_done;
})

unfoldable pub with_negative_record : State → List AssertedAtom → State
with_negative_record s es = with_dt s (record {
  marks = s.dt.marks;
  level_record = s.dt.level_record;
  negative_record = es;
  disequalities = s.dt.disequalities;
  lasting = s.dt.lasting;
  emitted = s.dt.emitted;
  split_done = s.dt.split_done;
})

unfoldable pub with_disequalities : State → List AssertedAtom → State
with_disequalities s es = with_dt s (record {
  marks = s.dt.marks;
  level_record = s.dt.level_record;
  negative_record = s.dt.negative_record;
  disequalities = es;
  lasting = s.dt.lasting;
  emitted = s.dt.emitted;
  split_done = s.dt.split_done;
})

unfoldable pub with_lasting : State → List ℕ → State
with_lasting s ts = with_dt s (record {
  marks = s.dt.marks;
  level_record = s.dt.level_record;
  negative_record = s.dt.negative_record;
  disequalities = s.dt.disequalities;
  lasting = ts;
  emitted = s.dt.emitted;
  split_done = s.dt.split_done;
})

unfoldable pub with_emitted : State → List ℕ → State
with_emitted s ts = with_dt s (record {
  marks = s.dt.marks;
  level_record = s.dt.level_record;
  negative_record = s.dt.negative_record;
  disequalities = s.dt.disequalities;
  lasting = s.dt.lasting;
  emitted = ts;
  split_done = s.dt.split_done;
})

unfoldable pub with_split_done : State → List ℕ → State
with_split_done s ts = with_dt s (record {
  marks = s.dt.marks;
  level_record = s.dt.level_record;
  negative_record = s.dt.negative_record;
  disequalities = s.dt.disequalities;
  lasting = s.dt.lasting;
  emitted = s.dt.emitted;
  split_done = ts;
})

-- ---- marked applications, ascending

unfoldable pub ctor_apps : State → List CtorApp
ctor_apps s = gather (ctor_app s.terms) s.dt.marks

unfoldable pub sel_apps : State → List SelApp
sel_apps s = gather (sel_app s.terms) s.dt.marks

unfoldable pub testers : State → List TesterApp
testers s = gather (tester_app s.terms) s.dt.marks

-- 01: watched, the marked datatype terms
unfoldable pub watched_dt_terms : State → List ℕ
watched_dt_terms s = keep (λ t. is_datatype_sort s.terms (sort_of s.terms t)) s.dt.marks

unfoldable pub equal : State → ℕ → ℕ → Bool
equal s x y = are_equal s.eq x y

-- the lowest marked constructor application of a term's class
unfoldable pub ctor_of_class : State → ℕ → Option CtorApp
ctor_of_class s t = first (λ (c : CtorApp). equal s t c.app) (ctor_apps s)

-- ---- making and marking

unfoldable pub mark : State → ℕ → State
mark s t = with_marks s (insert t s.dt.marks)

-- a term's number beside the state that has it
pub record MadeIn : Type 0 where
  pub id : ℕ
  pub state : State

unfoldable pub made_in : State → Made → MadeIn
made_in s m = record { id = m.id; state = with_terms s m.context }

unfoldable pub make_app : State → ℕ → List ℕ → MadeIn
make_app s f args = made_in s (mk_app s.terms (Uninterpreted f) args)

unfoldable pub marked_in : MadeIn → MadeIn
marked_in m = record { id = m.id; state = mark m.state m.id }

-- made and marked
unfoldable pub mint : State → ℕ → List ℕ → MadeIn
mint s f args = marked_in (make_app s f args)

unfoldable pub state_definitions : Unit {0}
unfolding empty_state with_terms with_eq with_atoms with_level with_dt with_marks with_level_record with_negative_record with_disequalities with_lasting with_emitted with_split_done ctor_apps sel_apps testers watched_dt_terms equal ctor_of_class mark made_in make_app marked_in mint
state_definitions = tt
