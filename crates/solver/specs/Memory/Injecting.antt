-- What the functions of injectivity ask and promise: steps of the definition from state to state, whatever the solver's table.
use Rattle.std.specs.Prelude.{ℕ, suc, ◌≤◌, ◌<◌, ◌≡◌, ◌⊎◌, Bool, true, false, cond, eqb, length, Result, Ok, Err}
use Rattle.shinri_core.specs.declared.limits.NoRoom.{NoRoom}
use mathlib.Core.List.{List, [], ◌∷◌, foldl}
use Rattle.shinri_core.specs.Limits.{max_terms}
use Rattle.shinri_core.specs.Lists.{In}
use Rattle.shinri_core.specs.Term as Term
use Rattle.shinri_core.specs.Term.{Constructor, Selector}
use Rattle.shinri_core.specs.Context.{Context, CtorApp, symbol, term, sort_of, terms_fit, dt_selectors}
use Rattle.shinri_core.specs.Formed.{Extends}
use Rattle.shinri_core.specs.Memory.Words.{at}
use Rattle.shinri_core.specs.Memory.Table.{context, ContextSound}
use Rattle.theory.specs.EqEngine.{are_equal}
use Rattle.theory.specs.Memory.Table.{merges}
use Rattle.solver.specs.State.{State}
use Rattle.solver.specs.Rules.{pass, mint_on_both, mint_selectors, instantiate_injectivity_selectors}
use Rattle.solver.specs.declared.answer.TCheck as TCheck
use Rattle.solver.specs.Memory.Work.{W_MARK, work_marks, apps_from, state_at, ChainSound, CheckSound}
use Rattle.solver.specs.Memory.Answer.{RuleAnswer, Tried}
use Rattle.solver.specs.Memory.Making.{Making}
use Rattle.solver.specs.Memory.ConstructorClash.{symbol_of, app_at, MarkedApp}

-- ---- steps

-- the tables after some steps
pub record Moves (c e w c' w' : List ℕ) : Type 0 where
  pub sound : (s : List ℕ) → CheckSound c e s w → CheckSound c' e s w'
  pub making : Making c' e w'
  pub chain : ChainSound c e w → ChainSound c' e w'
  pub extends : Extends (context c) (context c')

-- the answer to some steps
abbrev pub Stepped : Type 0
Stepped = Result (Unit {0}) NoRoom

-- what a step of the definition gave: the state now, or terms that do not fit
abbrev pub StepOutcome : Stepped → State → State → Type 0
StepOutcome (Ok u) S S' = S ≡ S'
StepOutcome (Err n) S S' = terms_fit S.terms ≡ false

-- a step F of the definition was done; if it fits, the marked constructor applications are as before
pub record Steps (F : State → State) (c e w : List ℕ) (r : Stepped) (c' w' : List ℕ) : Type 0 where
  pub moves : Moves c e w c' w'
  pub marks : r ≡ Ok tt → (x : ℕ) → MarkedApp w x → MarkedApp w' x
  pub back : r ≡ Ok tt → (x : ℕ) → MarkedApp w' x → MarkedApp w x
  pub apps : r ≡ Ok tt → (i : ℕ) → i ≤ max_terms → apps_from (context c') w' i ≡ apps_from (context c) w i
  pub outcome : (s : List ℕ) (lv : ℕ → ℕ) → StepOutcome r (F (state_at c e s w lv)) (state_at c' e s w' lv)

-- ---- what is asked

-- f is a selector that may be applied to x
pub record Selects (cx : Context) (f x : ℕ) : Type 0 where
  pub ctor : ℕ
  pub index : ℕ
  pub role : (symbol cx f).role ≡ Selector ctor index
  pub within : x < length cx.terms
  pub agree : sort_of cx x ∷ [] ≡ (symbol cx f).params

pub record Selectable (c e w : List ℕ) (f x : ℕ) : Type 0 where
  pub making : Making c e w
  pub selects : Selects (context c) f x

-- the application of selector f to x stands in the table and is marked
pub record HasSelector (cx : Context) (marks : List ℕ) (f x : ℕ) : Type 0 where
  pub number : ℕ
  pub within : number < length cx.terms
  pub is : term cx number ≡ record { op = Term.Uninterpreted f; args = x ∷ [] }
  pub marked : In number marks

-- so do all selectors of constructor k on x
abbrev pub AllSelected : Context → List ℕ → ℕ → ℕ → Type 0
AllSelected cx marks k x = (f : ℕ) → In f (dt_selectors cx k) → HasSelector cx marks f x

-- on two terms; the first may be known to have it
pub record SelectableBoth (c e w : List ℕ) (f p q : ℕ) (known : Bool) : Type 0 where
  pub making : Making c e w
  pub first : Selects (context c) f p
  pub second : Selects (context c) f q
  pub has : known ≡ true → HasSelector (context c) (work_marks w) f p

-- p applies constructor k
pub record Applies (cx : Context) (k p : ℕ) : Type 0 where
  pub op : (term cx p).op ≡ Term.Uninterpreted k
  pub role : (symbol cx k).role ≡ Constructor

pub record AppliesBoth (c e w : List ℕ) (k p q : ℕ) (known : Bool) : Type 0 where
  pub making : Making c e w
  pub first : Applies (context c) k p
  pub second : Applies (context c) k q
  pub has : known ≡ true → AllSelected (context c) (work_marks w) k p

-- two marked applications of one class; all selectors on the lower one may be known to be there
pub record OneClass (c e w : List ℕ) (p q : ℕ) (known : Bool) : Type 0 where
  pub making : Making c e w
  pub lower : MarkedApp w p
  pub higher : MarkedApp w q
  pub equal : are_equal (merges e) p q ≡ true
  pub has : known ≡ true → AllSelected (context c) (work_marks w) (symbol_of (context c) p) p

-- two terms whose constructors may be asked
pub record TwoTerms (c : List ℕ) (p q : ℕ) : Type 0 where
  pub core : ContextSound c
  pub first : p < length (context c).terms
  pub second : q < length (context c).terms

-- all selectors on p: they were known before, or made for q, which has the constructor of p
abbrev pub KnownAfter : Context → ℕ → ℕ → Bool → Bool → Type 0
KnownAfter cx p q known r = r ≡ true → (known ≡ true) ⊎ (symbol_of cx p ≡ symbol_of cx q)

pub record Injectable (c e w : List ℕ) : Type 0 where
  pub making : Making c e w
  pub chain : ChainSound c e w

-- of each two applications of one constructor in one class, if the lower one is below p, on both
abbrev pub SelectedBelow : List ℕ → List ℕ → List ℕ → ℕ → Type 0
SelectedBelow c e w p = (x y : ℕ) → x < p → x < y → MarkedApp w x → MarkedApp w y → are_equal (merges e) x y ≡ true →
    symbol_of (context c) x ≡ symbol_of (context c) y →
    AllSelected (context c) (work_marks w) (symbol_of (context c) x) x × AllSelected (context c) (work_marks w) (symbol_of (context c) x) y

pub record InjectableAt (c e w : List ℕ) (p : ℕ) : Type 0 where
  pub ready : Injectable c e w
  pub within : p < length (context c).terms
  pub selected : SelectedBelow c e w p

-- a marked application
pub record AppAsked (c e w : List ℕ) (p : ℕ) : Type 0 where
  pub ready : Injectable c e w
  pub app : MarkedApp w p

-- its class has a lower one of its constructor
pub record Covered (c e w : List ℕ) (p : ℕ) : Type 0 where
  pub lowest : ℕ
  pub lower : lowest < p
  pub app : MarkedApp w lowest
  pub equal : are_equal (merges e) lowest p ≡ true
  pub symbol : symbol_of (context c) lowest ≡ symbol_of (context c) p

-- ---- the steps of the definition

-- the selectors of constructor k on p and on q
unfoldable pub select_both : Context → ℕ → ℕ → ℕ → State → State
select_both cx k p q s = foldl (mint_on_both p q) s (dt_selectors cx k)

-- application a with each of some others
unfoldable pub select_with : CtorApp → List CtorApp → State → State
select_with a others s = foldl (λ s' b. mint_selectors s' (a, b)) s others

-- term p, if it is marked as an application, with each one behind it
unfoldable pub select_from : Context → List ℕ → ℕ → State → State
select_from cx w p s = cond (eqb (at w W_MARK p) 1) (select_with (app_at cx p) (apps_from cx w (suc p)) s) s

-- ---- the rule

-- the answer of a rule that only passes
abbrev pub passing : Stepped → RuleAnswer
passing (Ok u) = Ok TCheck.TheVariants.Sat
passing (Err n) = Err n

pub record Injects (c e w : List ℕ) (r : Stepped) (c' w' : List ℕ) : Type 0 where
  pub tried : (s o : List ℕ) → CheckSound c e s w →
      Tried (λ S. pass (instantiate_injectivity_selectors S)) c e s w (passing r) c' s w' o
  pub chain : ChainSound c' e w'
