-- What the functions of collapse and of the tester lemma ask and promise.
use Rattle.std.specs.Prelude.{ℕ, ◌≤◌, ◌<◌, suc, ◌≡◌, true, cond, List, [], ◌∷◌, length, Ok}
use Rattle.std.proofs.Math.Option.{Option, none, some}
use Rattle.shinri_core.specs.Limits.{max_terms}
use Rattle.shinri_core.specs.Lists.{In}
use Rattle.shinri_core.specs.Term.{Selector, Tester, Uninterpreted}
use Rattle.shinri_core.specs.Context.{CtorApp, SelApp, TesterApp, symbol, ctor_app, sort_of, term, children}
use Rattle.shinri_core.specs.Memory.Words.{at}
use Rattle.shinri_core.specs.Memory.Table.{context, ContextSound}
use Rattle.theory.specs.EqEngine.{are_equal}
use Rattle.theory.specs.Memory.Table.{merges}
use Rattle.theory.specs.Memory.Answer.{answer_size}
use Rattle.solver.specs.State.{State, MadeIn, ctor_apps}
use Rattle.solver.specs.Rules.{Ruled, pass, try_each, collapse_at, tester_lemma_at}
use Rattle.solver.specs.declared.answer.TCheck as TCheck
use Rattle.solver.specs.declared.collapse.Selection.{Selection}
use Rattle.solver.specs.declared.collapse.Testing.{Testing}
use Rattle.solver.specs.Memory.Table.{is_set, SolverSound}
use Rattle.solver.specs.Memory.Work.{W_MARK, CheckSound, state_at, apps_from, first_in_class}
use Rattle.solver.specs.Memory.Answer.{Tried, RuleAnswer}
use Rattle.solver.specs.Memory.Checks.{Underway}

-- ---- rules

-- a rule for what is there
unfoldable pub when : {A : Type 0} → (A → State → Ruled) → Option A → State → Ruled
when rule none s = pass s
when rule (some x) s = rule x s

-- a rule for each marked constructor application
unfoldable pub by_apps : (CtorApp → State → Ruled) → State → Ruled
by_apps rule s = try_each rule (ctor_apps s) s

-- a rule for term x, if it is marked
unfoldable pub if_marked : List ℕ → ℕ → (State → Ruled) → State → Ruled
if_marked w x rule s = cond (is_set (at w W_MARK x)) (rule s) (pass s)

-- term x as the one made
abbrev pub at_made : ℕ → State → MadeIn
at_made x s = record { id = x; state = s }

-- selector f, which is selector i of a constructor, on arg; the rules do not ask for the number of the application
abbrev pub selection : ℕ → ℕ → ℕ → ℕ → SelApp
selection f ctor i arg = record { app = arg; selector = f; ctor = ctor; index = i; arg = arg }

-- tester f of a constructor on arg
abbrev pub testing : ℕ → ℕ → ℕ → TesterApp
testing f ctor arg = record { app = arg; tester = f; ctor = ctor; arg = arg }

-- those of the code
abbrev pub selected : Selection → SelApp
selected x = selection x.selector.0 x.ctor.0 x.index x.arg.0

abbrev pub tested : Testing → TesterApp
tested x = testing x.tester.0 x.ctor.0 x.arg.0

-- ---- what is asked

-- two terms may be equated, and the equation handed out
pub record FieldEquatable (c e s w : List ℕ) (x y : ℕ) (o : List ℕ) : Type 0 where
  pub check : CheckSound c e s w
  pub first : x < length (context c).terms
  pub second : y < length (context c).terms
  pub agree : sort_of (context c) x ≡ sort_of (context c) y
  pub long : answer_size ≤ length o

-- app is an application of a constructor, f is selector i of a constructor
pub record Collapsible (c e s w : List ℕ) (f ctor i app : ℕ) (o : List ℕ) : Type 0 where
  pub check : CheckSound c e s w
  pub role : (symbol (context c) f).role ≡ Selector ctor i
  pub a : CtorApp
  pub is_app : ctor_app (context c) app ≡ some a
  pub long : answer_size ≤ length o

-- the same for a tester
pub record Testable (c s : List ℕ) (f ctor app : ℕ) (o : List ℕ) : Type 0 where
  pub core : ContextSound c
  pub solver : SolverSound s
  pub role : (symbol (context c) f).role ≡ Tester ctor
  pub a : CtorApp
  pub is_app : ctor_app (context c) app ≡ some a
  pub long : answer_size ≤ length o

-- f is selector i of a constructor, arg is a term
pub record SelectorOn (c e s w : List ℕ) (f ctor i arg : ℕ) (o : List ℕ) : Type 0 where
  pub under : Underway c e s w o
  pub role : (symbol (context c) f).role ≡ Selector ctor i
  pub within : arg < max_terms

-- the same for a tester
pub record TesterOn (c e s w : List ℕ) (f ctor arg : ℕ) (o : List ℕ) : Type 0 where
  pub under : Underway c e s w o
  pub role : (symbol (context c) f).role ≡ Tester ctor
  pub within : arg < max_terms

-- ---- what is promised

-- the rule was tried for the application app, for every argument of its class
abbrev pub TriedAt : (ℕ → CtorApp → State → Ruled) → (c e s w : List ℕ) → ℕ → RuleAnswer → (c' s' o : List ℕ) → Type 0
TriedAt rule c e s w app r c' s' o =
    (arg : ℕ) → are_equal (merges e) arg app ≡ true → Tried (when (rule arg) (ctor_app (context c) app)) c e s w r c' s' w o

abbrev pub CollapsesAt : (c e s w : List ℕ) (f ctor i app : ℕ) → RuleAnswer → (c' s' o : List ℕ) → Type 0
CollapsesAt c e s w f ctor i app r c' s' o = TriedAt (λ arg. collapse_at (selection f ctor i arg)) c e s w app r c' s' o

-- a tester's does not ask for classes
abbrev pub TestsAt : (c s : List ℕ) (f ctor app : ℕ) → RuleAnswer → (c' s' o : List ℕ) → Type 0
TestsAt c s f ctor app r c' s' o =
    (e w : List ℕ) → CheckSound c e s w → TriedAt (λ arg. tester_lemma_at (testing f ctor arg)) c e s w app r c' s' o

-- ---- once for a class

-- The flags of a rule, one for each term.
abbrev pub FLAGS : ℕ
FLAGS = 0

-- collapse has been done for selector application z: it passes on each marked application
pub record Collapsed (c e s w : List ℕ) (z : ℕ) : Type 0 where
  pub within : z < length (context c).terms
  pub passes : (f y ctor i : ℕ) → term (context c) z ≡ record { op = Uninterpreted f; args = y ∷ [] } →
      (symbol (context c) f).role ≡ Selector ctor i → (lv : ℕ → ℕ) (a : CtorApp) → In a (apps_from (context c) w 0) →
      collapse_at (selection f ctor i y) a (state_at c e s w lv) ≡ pass (state_at c e s w lv)

-- a flag says so
pub record DoneSound (c e s w d : List ℕ) : Type 0 where
  pub long : max_terms ≤ length d
  pub done : (z : ℕ) → z < max_terms → is_set (at d FLAGS z) ≡ true → Collapsed c e s w z

-- a rule was tried, and what the flags say is right if it passes
pub record TriedOnce (Done : (c s : List ℕ) → Type 0) (rule : State → Ruled) (c e s w : List ℕ) (r : RuleAnswer) (c' s' o : List ℕ) :
    Type 0 where
  pub tried : Tried rule c e s w r c' s' w o
  pub flags : r ≡ Ok TCheck.TheVariants.Sat → Done c' s'

abbrev pub CollapsesOnce : (State → Ruled) → (c e s w : List ℕ) → RuleAnswer → (c' s' d o : List ℕ) → Type 0
CollapsesOnce rule c e s w r c' s' d o = TriedOnce (λ a b. DoneSound a e b w d) rule c e s w r c' s' o

-- f is selector i of a constructor, y the lowest application of arg's class, and one of that constructor
pub record CollapsibleOnce (c e s w d : List ℕ) (f ctor i arg y : ℕ) (o : List ℕ) : Type 0 where
  pub on : SelectorOn c e s w f ctor i arg o
  pub flags : DoneSound c e s w d
  pub lowest :
      first_in_class (merges e) arg (apps_from (context c) w 0)
      ≡ some (record { app = y; ctor = ctor; fields = children (context c) y })

-- z is selector f on a term of arg's class
pub record SelectedBy (c e s w d : List ℕ) (f ctor i arg z : ℕ) (o : List ℕ) : Type 0 where
  pub on : SelectorOn c e s w f ctor i arg o
  pub flags : DoneSound c e s w d
  pub within : z < length (context c).terms
  pub y : ℕ
  pub is : term (context c) z ≡ record { op = Uninterpreted f; args = y ∷ [] }
  pub near : are_equal (merges e) arg y ≡ true

-- the tester lemma has been done for tester f and the class of y: it passes on each marked application
pub record Tested (c e s w : List ℕ) (f y : ℕ) : Type 0 where
  pub passes : (ctor : ℕ) → (symbol (context c) f).role ≡ Tester ctor → (lv : ℕ → ℕ) (a : CtorApp) → In a (apps_from (context c) w 0) →
      tester_lemma_at (testing f ctor y) a (state_at c e s w lv) ≡ pass (state_at c e s w lv)

-- a flag has one more than such a tester
pub record TestsSound (c e s w d : List ℕ) : Type 0 where
  pub long : max_terms ≤ length d
  pub done : (y f : ℕ) → y < max_terms → at d FLAGS y ≡ suc f → Tested c e s w f y

abbrev pub TestsOnce : (State → Ruled) → (c e s w : List ℕ) → RuleAnswer → (c' s' d o : List ℕ) → Type 0
TestsOnce rule c e s w r c' s' d o = TriedOnce (λ a b. TestsSound a e b w d) rule c e s w r c' s' o

-- f is a tester, y a term of arg's class
pub record TestableOnce (c e s w d : List ℕ) (f ctor arg y : ℕ) (o : List ℕ) : Type 0 where
  pub on : TesterOn c e s w f ctor arg o
  pub flags : TestsSound c e s w d
  pub is_node : y < max_terms
  pub near : are_equal (merges e) arg y ≡ true
