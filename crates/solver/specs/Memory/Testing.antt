-- What the functions promise that compare a tester with the constructor of its term's class. Each is said for both signs.
use Rattle.std.specs.Prelude.{ℕ, ◌≤◌, ◌<◌, ◌≡◌, Bool, true, false, cond, not, ◌&&◌, List, [], ◌∷◌, T, eqb, length}
use Rattle.std.proofs.Math.Option.{Option, none, some}
use Rattle.shinri_core.specs.Limits.{max_terms}
use Rattle.shinri_core.specs.Lists.{In, first}
use Rattle.shinri_core.specs.declared.ids.SymbolId.{SymbolId}
use Rattle.shinri_core.specs.declared.ids.TermId.{TermId}
use Rattle.shinri_core.specs.Context.{CtorApp, TesterApp, tester_app, children}
use Rattle.shinri_core.specs.Formed.{Formed, Signed}
use Rattle.shinri_core.specs.Memory.Words.{at}
use Rattle.shinri_core.specs.Memory.Table.{context, ContextSound}
use Rattle.theory.specs.Types.{EqLeaf}
use Rattle.theory.specs.EqEngine.{Merge, find, are_equal}
use Rattle.theory.specs.Memory.Table.{merges, EngineSound}
use Rattle.theory.specs.Memory.Answer.{answer_size, leaves}
use Rattle.solver.specs.State.{State, AssertedAtom}
use Rattle.solver.specs.Records.{tester_conflict, negative_conflict}
use Rattle.solver.specs.Rules.{Ruled, tester_clash, negative_clash}
use Rattle.solver.specs.declared.answer.TCheck as TCheck
use Rattle.std.specs.Prelude.{Some, Ok}
use Rattle.solver.specs.Memory.Table.{term_kind, records#, of_sign, entry_of}
use Rattle.solver.specs.Memory.Work.{W_MARK, state_at, apps_from, first_in_class, ctor_meaning, ClassTable, CheckSound, CtorOf}
use Rattle.solver.specs.Memory.Answer.{Readable}
use Rattle.solver.specs.Memory.ConstructorClash.{symbol_of}

-- the leaves of a conflict of the definition, by the code's answer: `Sat` stands for none
abbrev pub ConflictIs : TCheck.TCheck → Option (List EqLeaf) → List ℕ → Type 0
ConflictIs TCheck.TheVariants.Sat m o = m ≡ none
ConflictIs TCheck.TheVariants.Conflict m o = m ≡ some (leaves o)
ConflictIs TCheck.TheVariants.Split m o = ⊥
ConflictIs TCheck.TheVariants.Unknown m o = ⊥

-- ---- by the sign

abbrev pub conflict_by : Bool → State → ℕ → TesterApp → Option (List EqLeaf)
conflict_by true = tester_conflict
conflict_by false = negative_conflict

abbrev pub clash_by : Bool → State → Ruled
clash_by true = tester_clash
clash_by false = negative_clash

-- does a tester of this sign agree with a class, by whether the class has its constructor?
unfoldable pub agreeing : Bool → Bool → Bool
agreeing true same = same
agreeing false same = not same

-- ---- a class and one constructor

-- the first of some applications that is of constructor d and in the class of x
unfoldable pub own_in_class : List Merge → ℕ → ℕ → List CtorApp → Option CtorApp
own_in_class ms x d apps = first (λ (a : CtorApp). eqb a.ctor d && are_equal ms x a.app) apps

-- an application, if it is of constructor d
unfoldable pub with_ctor : ℕ → Option CtorApp → Option CtorApp
with_ctor d none = none
with_ctor d (some a) = cond (eqb a.ctor d) (some a) none

-- each class has one constructor
abbrev pub Lone : List ℕ → List ℕ → List ℕ → Type 0
Lone c e w =
    (p q : CtorApp) → In p (apps_from (context c) w 0) → In q (apps_from (context c) w 0) →
    T (are_equal (merges e) p.app q.app) → p.ctor ≡ q.ctor

-- What a tester is compared with: a positive one with the lowest application of its term's class, a negative one with the lowest of its
-- own constructor there; another application stands for none then.
abbrev pub Found : Bool → List ℕ → List ℕ → List ℕ → ℕ → ℕ → CtorOf → Type 0
Found true c e w x d k = ctor_meaning (context c) k ≡ first_in_class (merges e) x (apps_from (context c) w 0)
Found false c e w x d k = with_ctor d (ctor_meaning (context c) k) ≡ own_in_class (merges e) x d (apps_from (context c) w 0)

-- ---- a tester against what is found

-- a term, and what is found in its class
pub record DisagreeAsked (e : List ℕ) (arg : ℕ) (k : CtorOf) (o : List ℕ) : Type 0 where
  pub engine : EngineSound e
  pub first : arg < max_terms
  pub equal : (f : SymbolId) (y : TermId) → k ≡ Some (f, y) → (y.0 < max_terms) × (are_equal (merges e) arg y.0 ≡ true)
  pub long : answer_size ≤ length o

-- what literal l contradicts, if it says that the term is built by a constructor, or that it is not
pub record Disagrees (b : Bool) (e : List ℕ) (l ctor arg : ℕ) (k : CtorOf) (r : TCheck.TCheck) (o : List ℕ) : Type 0 where
  pub conflict : (c s w : List ℕ) (lv : ℕ → ℕ) (x : TesterApp) → x.ctor ≡ ctor → x.arg ≡ arg → Found b c e w arg ctor k →
      ConflictIs r (conflict_by b (state_at c e s w lv) l x) o
  pub readable : Readable (Ok r) o

-- ---- a tester application

pub record TesterTerm (c : List ℕ) (x : ℕ) : Type 0 where
  pub core : ContextSound c
  pub formed : Formed (context c)
  pub signed : Signed (context c)
  pub tester : term_kind (context c) x ≡ 4

-- its constructor is d
pub record TesterCtor (c : List ℕ) (x d : ℕ) : Type 0 where
  pub app : TesterApp
  pub is_tester : tester_app (context c) x ≡ some app
  pub ctor : app.ctor ≡ d
  pub arg : children (context c) x ≡ app.arg ∷ []

-- a tester application, and the tables that its class is asked of
pub record TesterAsked (c e w : List ℕ) (x : ℕ) (o : List ℕ) : Type 0 where
  pub term : TesterTerm c x
  pub engine : EngineSound e
  pub table : ClassTable c e w
  pub long : answer_size ≤ length o

-- by its class's lowest application: for a negative one the class has one constructor
pub record ConflictAsked (b : Bool) (c e w : List ℕ) (x : ℕ) (o : List ℕ) : Type 0 where
  pub asked : TesterAsked c e w x o
  pub lone : b ≡ false → Lone c e w

-- what literal l, which asserts it or its negation, contradicts
pub record TesterConflict (b : Bool) (c e w : List ℕ) (l x : ℕ) (r : TCheck.TCheck) (o : List ℕ) : Type 0 where
  pub app : TesterApp
  pub is_tester : tester_app (context c) x ≡ some app
  pub conflict : (s : List ℕ) (lv : ℕ → ℕ) → ConflictIs r (conflict_by b (state_at c e s w lv) l app) o
  pub readable : Readable (Ok r) o

-- ---- the lowest application of one constructor

-- term i is marked as an application of constructor d, in the class of a root
unfoldable pub own_at : List ℕ → List ℕ → List ℕ → ℕ → ℕ → ℕ → Bool
own_at c e w d root i =
    eqb (at w W_MARK i) 1 && eqb (symbol_of (context c) i) d && eqb (find (merges e) i) root

pub record OwnAsked (c e w : List ℕ) (i : ℕ) : Type 0 where
  pub core : ContextSound c
  pub engine : EngineSound e
  pub marks : max_terms ≤ length w
  pub within : i < length (context c).terms

pub record OwnApp (c e w : List ℕ) (x d : ℕ) (r : CtorOf) : Type 0 where
  pub is : ctor_meaning (context c) r ≡ own_in_class (merges e) x d (apps_from (context c) w 0)
  pub within : (a : CtorApp) → ctor_meaning (context c) r ≡ some a → a.app < length (context c).terms

-- ---- the records

unfoldable pub tester_found : Bool → ℕ → Option TesterApp → State → Option (List EqLeaf)
tester_found b l none S = none
tester_found b l (some x) S = conflict_by b S l x

-- what the definition finds of an entry of a record of testers
abbrev pub tester_finds : Bool → AssertedAtom → State → Option (List EqLeaf)
tester_finds b a S = tester_found b a.lit (tester_app S.terms a.atom) S

-- and of an entry, if there is one
unfoldable pub found_at : (AssertedAtom → State → Option (List EqLeaf)) → Option AssertedAtom → State → Option (List EqLeaf)
found_at f none S = none
found_at f (some a) S = f a S

-- the tables of a check, and a record whose entries are asked
pub record ClashAsked (b : Bool) (c e s w o : List ℕ) : Type 0 where
  pub check : CheckSound c e s w
  pub lone : b ≡ false → Lone c e w
  pub long : answer_size ≤ length o

pub record EntryAsked (b : Bool) (c e s w : List ℕ) (i : ℕ) (o : List ℕ) : Type 0 where
  pub asked : ClashAsked b c e s w o
  pub within : i < records# s

pub record EntryConflict (b : Bool) (c e s w : List ℕ) (i : ℕ) (r : TCheck.TCheck) (o : List ℕ) : Type 0 where
  pub conflict : (lv : ℕ → ℕ) → ConflictIs r (found_at (tester_finds b) (entry_of (of_sign b) s lv i) (state_at c e s w lv)) o
  pub readable : Readable (Ok r) o
