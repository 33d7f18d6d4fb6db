-- Declarations and terms (context.rs): what is made, and what is asked of it. Sorts, symbols and terms are numbered from 0 as made.
-- Where a number is looked up, the default stands for no answer: question 5 asks that each number of a line exists, and a
-- term's symbol and arguments were asked about, or made, before the term.
use Rattle.std.specs.Prelude.{ℕ, zero, suc, ◌+◌, Bool, true, false, not, ◌&&◌, ◌||◌, List, [], ◌∷◌, ◌++◌, map, eqb, leb, length, get_or, take}
use Rattle.std.proofs.Math.Option.{Option, none, some}
use Rattle.shinri_core.specs.Limits.{max_sorts, max_symbols, max_terms, max_places}
use Rattle.shinri_core.specs.Lists.{keep, every, any, place_from, range, total, mem}
use Rattle.shinri_core.specs.Sort.{SortNode, BoolSort, is_datatype}
use Rattle.shinri_core.specs.Term as Term
use Rattle.shinri_core.specs.Term.{Role, Constructor, Tester, Selector, Function, Symbol, Op, Eq, Term, same_term}

pub record Context : Type 0 where
  pub sorts : List SortNode
  pub symbols : List Symbol
  pub terms : List Term

-- Sort 0 is Bool.
unfoldable pub empty_context : Context
empty_context = record { sorts = BoolSort ∷ []; symbols = []; terms = [] }

unfoldable pub with_symbols : Context → List Symbol → Context
with_symbols cx new = record { sorts = cx.sorts; symbols = cx.symbols ++ new; terms = cx.terms }

-- ---- declarations

unfoldable pub declare_sort : Context → SortNode → Context
declare_sort cx node = record { sorts = cx.sorts ++ (node ∷ []); symbols = cx.symbols; terms = cx.terms }

unfoldable pub selectors_from : ℕ → ℕ → ℕ → List ℕ → List Symbol
selectors_from c dt i [] = []
selectors_from c dt i (f ∷ fs) =
    record { role = Selector c i; params = dt ∷ []; result = f } ∷ selectors_from c dt (suc i) fs

-- A constructor takes symbols for itself, its tester and each selector, in this order.
unfoldable pub constructor_symbols : ℕ → ℕ → List ℕ → List Symbol
constructor_symbols c dt fields =
    record { role = Constructor; params = fields; result = dt }
    ∷ record { role = Tester c; params = dt ∷ []; result = 0 }
    ∷ selectors_from c dt 0 fields

unfoldable pub dt_add_constructor : Context → ℕ → List ℕ → Context
dt_add_constructor cx dt fields = with_symbols cx (constructor_symbols (length cx.symbols) dt fields)

unfoldable pub declare_fun : Context → ℕ → List ℕ → Context
declare_fun cx result params = with_symbols cx (record { role = Function; params = params; result = result } ∷ [])

-- ---- sorts and symbols

unfoldable pub sort_node : Context → ℕ → SortNode
sort_node cx s = get_or cx.sorts s BoolSort

unfoldable pub is_datatype_sort : Context → ℕ → Bool
is_datatype_sort cx s = is_datatype (sort_node cx s)

unfoldable pub no_symbol : Symbol
no_symbol = record { role = Function; params = []; result = 0 }

unfoldable pub symbol : Context → ℕ → Symbol
symbol cx s = get_or cx.symbols s no_symbol

unfoldable pub is_constructor : Role → Bool
is_constructor Constructor = true
is_constructor (Tester c) = false
is_constructor (Selector c i) = false
is_constructor Function = false

unfoldable pub builds : Context → ℕ → ℕ → Bool
builds cx dt s = is_constructor (symbol cx s).role && eqb (symbol cx s).result dt

-- the constructors of a datatype, as declared
unfoldable pub dt_constructors : Context → ℕ → List ℕ
dt_constructors cx dt = keep (builds cx dt) (range 0 (length cx.symbols))

unfoldable pub dt_tester : ℕ → ℕ
dt_tester c = c + 1

unfoldable pub dt_selectors : Context → ℕ → List ℕ
dt_selectors cx c = range (c + 2) (length (symbol cx c).params)

-- ---- question 10

-- the datatypes, ascending
unfoldable pub datatypes : Context → List ℕ
datatypes cx = keep (is_datatype_sort cx) (range 0 (length cx.sorts))

-- is a sort another one (Bool is one), or a datatype already found?
unfoldable pub ready : Context → (ℕ → Bool) → ℕ → Bool
ready cx found s = not (is_datatype_sort cx s) || found s

unfoldable pub has_ready_fields : Context → (ℕ → Bool) → ℕ → Bool
has_ready_fields cx found c = every (ready cx found) (symbol cx c).params

-- has a datatype a constructor with only such fields?
unfoldable pub grounded : Context → (ℕ → Bool) → ℕ → Bool
grounded cx found dt = any (has_ready_fields cx found) (dt_constructors cx dt)

-- a round finds the datatypes that are grounded in those found so far
unfoldable pub round : Context → List ℕ → List ℕ
round cx found = keep (grounded cx (λ s. mem s found)) (datatypes cx)

-- starting from none
unfoldable pub rounds : Context → ℕ → List ℕ
rounds cx zero = []
rounds cx (suc n) = round cx (rounds cx n)

-- After as many rounds as there are sorts one more adds nothing.
unfoldable pub inhabited_datatypes : Context → List ℕ
inhabited_datatypes cx = rounds cx (length cx.sorts)

-- 02 (ii): inhabited
abbrev pub inhabited : Context → ℕ → Bool
inhabited cx s = mem s (inhabited_datatypes cx)

-- Question 10: is each datatype inhabited?
unfoldable pub all_grounded : Context → Bool
all_grounded cx = every (inhabited cx) (datatypes cx)

-- ---- terms

unfoldable pub no_term : Term
no_term = record { op = Eq; args = [] }

unfoldable pub term : Context → ℕ → Term
term cx t = get_or cx.terms t no_term

unfoldable pub children : Context → ℕ → List ℕ
children cx t = (term cx t).args

unfoldable pub result_of : Context → Op → ℕ
result_of cx Eq = 0
result_of cx (Term.Uninterpreted s) = (symbol cx s).result

unfoldable pub sort_of : Context → ℕ → ℕ
sort_of cx t = result_of cx (term cx t).op

-- a term's number beside the table that has it
pub record Made : Type 0 where
  pub id : ℕ
  pub context : Context

unfoldable pub intern : Context → Op → List ℕ → Option ℕ → Made
intern cx op args (some t) = record { id = t; context = cx }
intern cx op args none = record {
  id = length cx.terms;
  context = record {
    sorts = cx.sorts;
    symbols = cx.symbols;
    terms = cx.terms ++ (record { op = op; args = args } ∷ []);
  };
}

-- An existing term gives its old number.
unfoldable pub mk_app : Context → Op → List ℕ → Made
mk_app cx op args = intern cx op args (place_from 0 (same_term op args) cx.terms)

-- The two sides are kept as given: eq=0,1 and eq=1,0 are two terms.
unfoldable pub mk_eq : Context → ℕ → ℕ → Made
mk_eq cx a b = mk_app cx Eq (a ∷ b ∷ [])

-- argument places of terms
unfoldable pub places : Context → ℕ
places cx = total (map (λ (t : Term). length t.args) cx.terms)

-- Question 11 for terms
unfoldable pub terms_fit : Context → Bool
terms_fit cx = leb (length cx.terms) max_terms && leb (places cx) max_places

-- Question 11 for declarations
unfoldable pub declarations_fit : Context → Bool
declarations_fit cx = leb (length cx.sorts) max_sorts && leb (length cx.symbols) max_symbols

-- the first n terms: a refused line gives back the terms that it made
unfoldable pub cut_terms : ℕ → Context → Context
cut_terms n cx = record { sorts = cx.sorts; symbols = cx.symbols; terms = take n cx.terms }

-- ---- a term by its role

-- an application of a constructor, of a selector, of a tester
pub record CtorApp : Type 0 where
  pub app : ℕ
  pub ctor : ℕ
  pub fields : List ℕ

pub record SelApp : Type 0 where
  pub app : ℕ
  pub selector : ℕ
  pub ctor : ℕ
  pub index : ℕ
  pub arg : ℕ

pub record TesterApp : Type 0 where
  pub app : ℕ
  pub tester : ℕ
  pub ctor : ℕ
  pub arg : ℕ

unfoldable pub ctor_by_role : ℕ → ℕ → Role → List ℕ → Option CtorApp
ctor_by_role t s Constructor args = some (record { app = t; ctor = s; fields = args })
ctor_by_role t s (Tester c) args = none
ctor_by_role t s (Selector c i) args = none
ctor_by_role t s Function args = none

unfoldable pub sel_by_role : ℕ → ℕ → Role → List ℕ → Option SelApp
sel_by_role t s Constructor args = none
sel_by_role t s (Tester c) args = none
sel_by_role t s (Selector c i) [] = none
sel_by_role t s (Selector c i) (a ∷ as') = some (record { app = t; selector = s; ctor = c; index = i; arg = a })
sel_by_role t s Function args = none

unfoldable pub tester_by_role : ℕ → ℕ → Role → List ℕ → Option TesterApp
tester_by_role t s Constructor args = none
tester_by_role t s (Tester c) [] = none
tester_by_role t s (Tester c) (a ∷ as') = some (record { app = t; tester = s; ctor = c; arg = a })
tester_by_role t s (Selector c i) args = none
tester_by_role t s Function args = none

unfoldable pub ctor_by_op : Context → ℕ → Op → List ℕ → Option CtorApp
ctor_by_op cx t Eq args = none
ctor_by_op cx t (Term.Uninterpreted s) args = ctor_by_role t s (symbol cx s).role args

unfoldable pub sel_by_op : Context → ℕ → Op → List ℕ → Option SelApp
sel_by_op cx t Eq args = none
sel_by_op cx t (Term.Uninterpreted s) args = sel_by_role t s (symbol cx s).role args

unfoldable pub tester_by_op : Context → ℕ → Op → List ℕ → Option TesterApp
tester_by_op cx t Eq args = none
tester_by_op cx t (Term.Uninterpreted s) args = tester_by_role t s (symbol cx s).role args

unfoldable pub ctor_app : Context → ℕ → Option CtorApp
ctor_app cx t = ctor_by_op cx t (term cx t).op (children cx t)

unfoldable pub sel_app : Context → ℕ → Option SelApp
sel_app cx t = sel_by_op cx t (term cx t).op (children cx t)

unfoldable pub tester_app : Context → ℕ → Option TesterApp
tester_app cx t = tester_by_op cx t (term cx t).op (children cx t)
