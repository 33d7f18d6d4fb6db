-- What the functions of the constructor clash ask and promise, by the numbers of the marked constructor applications.
use Rattle.std.specs.Prelude.{ℕ, ◌≤◌, ◌<◌, ◌≡◌, Bool, true, false, not, ◌&&◌, List, eqb, length, Option, MatchOption}
use Rattle.shinri_core.specs.declared.ids.TermId.{TermId}
use Rattle.shinri_core.specs.Limits.{max_terms}
use Rattle.shinri_core.specs.Term as Term
use Rattle.shinri_core.specs.Term.{Op, Eq}
use Rattle.shinri_core.specs.Context.{Context, CtorApp, term, children}
use Rattle.shinri_core.specs.Formed.{Signed}
use Rattle.shinri_core.specs.Memory.Words.{at}
use Rattle.shinri_core.specs.Memory.Table.{context, ContextSound}
use Rattle.theory.specs.EqEngine.{are_equal}
use Rattle.theory.specs.Memory.Table.{merges, EngineSound}
use Rattle.theory.specs.Memory.Answer.{answer_size}
use Rattle.solver.specs.Memory.Work.{W_MARK, WorkSound, ChainSound, CheckSound}

-- the symbol of an operation; an equation has none
unfoldable pub op_symbol : Op → ℕ
op_symbol Eq = 0
op_symbol (Term.Uninterpreted f) = f

unfoldable pub symbol_of : Context → ℕ → ℕ
symbol_of cx x = op_symbol (term cx x).op

-- the application of number x
abbrev pub app_at : Context → ℕ → CtorApp
app_at cx x = record { app = x; ctor = symbol_of cx x; fields = children cx x }

-- x is marked as a constructor application
pub record MarkedApp (w : List ℕ) (x : ℕ) : Type 0 where
  pub node : x < max_terms
  pub mark : at w W_MARK x ≡ 1

-- are two applications in one class, of different constructors?
unfoldable pub clashing : List ℕ → List ℕ → ℕ → ℕ → Bool
clashing c e x y = not (eqb (symbol_of (context c) x) (symbol_of (context c) y)) && are_equal (merges e) x y

-- x clashes with no application behind it and below y
abbrev pub NoClash : List ℕ → List ℕ → List ℕ → ℕ → ℕ → Type 0
NoClash c e w x y = (z : ℕ) → x < z → z < y → MarkedApp w z → clashing c e x z ≡ false

-- no application below p clashes with one behind it
abbrev pub NoneBelow : List ℕ → List ℕ → List ℕ → ℕ → Type 0
NoneBelow c e w p = (x : ℕ) → x < p → MarkedApp w x → NoClash c e w x max_terms

-- q is the first behind p that p clashes with
pub record FirstClash (c e w : List ℕ) (p q : ℕ) : Type 0 where
  pub lower : MarkedApp w p
  pub higher : MarkedApp w q
  pub above : p < q
  pub clash : clashing c e p q ≡ true
  pub between : NoClash c e w p q

-- r is the first behind p that p clashes with, if there is one
abbrev pub ClashAt : (c e w : List ℕ) → ℕ → Option TermId → Type 0
ClashAt c e w p r = MatchOption r (MarkedApp w p → NoClash c e w p max_terms) (λ q. FirstClash c e w p q.0)

-- the tables that a clash is looked for in
pub record ClashTables (c e w : List ℕ) : Type 0 where
  pub core : ContextSound c
  pub signed : Signed (context c)
  pub engine : EngineSound e
  pub work : WorkSound c e w
  pub chain : ChainSound c e w

-- those, and an application p whose class is walked
pub record ClassWalked (c e w : List ℕ) (p : ℕ) : Type 0 where
  pub tables : ClashTables c e w
  pub app : MarkedApp w p

-- those, and a term p below which none clashes
pub record ClashAsked (c e w : List ℕ) (p : ℕ) : Type 0 where
  pub tables : ClashTables c e w
  pub within : p < length (context c).terms
  pub earlier : NoneBelow c e w p

-- what the rule asks
pub record ClashReady (c e s w out : List ℕ) : Type 0 where
  pub check : CheckSound c e s w
  pub chain : ChainSound c e w
  pub room : answer_size ≤ length out
