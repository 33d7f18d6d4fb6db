-- Well-formed signatures and tables of terms, tables that grow, and which terms stand below another.
use Rattle.std.specs.Prelude.{ℕ, zero, suc, ◌+◌, ◌<◌, ◌≡◌, List, [], ◌∷◌, ◌++◌, map, T, length, get_or}
use Rattle.shinri_core.specs.Lists.{In, mem}
use Rattle.shinri_core.specs.Sort.{BoolSort}
use Rattle.shinri_core.specs.Term.{Constructor, Tester, Selector, Symbol, Op, Eq, Uninterpreted, Term}
use Rattle.shinri_core.specs.Context.{Context, sort_node, is_datatype_sort, symbol, term, children, sort_of}

-- ---- signatures

-- w is the tester of constructor d
abbrev pub TesterIs : Symbol → Symbol → Type 0
TesterIs w d = (d.role ≡ Constructor) × (w.params ≡ d.result ∷ []) × (w.result ≡ 0)

-- w is the i-th selector of constructor d
abbrev pub SelectorIs : Symbol → Symbol → ℕ → Type 0
SelectorIs w d i =
    (d.role ≡ Constructor)
    × (w.params ≡ d.result ∷ [])
    × (i < length d.params)
    × (w.result ≡ get_or d.params i 0)

-- Sort 0 is Bool; constructors build datatypes; a constructor's tester and selectors stand right behind it.
pub record Signed (cx : Context) : Type 0 where
  pub bool : sort_node cx 0 ≡ BoolSort
  pub datatype : (c : ℕ) → (symbol cx c).role ≡ Constructor → T (is_datatype_sort cx (symbol cx c).result)
  pub tester : (f c : ℕ) → (symbol cx f).role ≡ Tester c → TesterIs (symbol cx f) (symbol cx c)
  pub selector : (f c i : ℕ) → (symbol cx f).role ≡ Selector c i → SelectorIs (symbol cx f) (symbol cx c) i
  pub own_tester : (c : ℕ) → (symbol cx c).role ≡ Constructor → (symbol cx (c + 1)).role ≡ Tester c
  pub own_selector : (c i : ℕ) → (symbol cx c).role ≡ Constructor → i < length (symbol cx c).params →
      (symbol cx (c + 2 + i)).role ≡ Selector c i

-- ---- terms

-- the arguments of an operation: an equation has two sides of one sort, a symbol its parameters' sorts
abbrev pub Agrees : Context → Op → List ℕ → Type 0
Agrees cx Eq as' = (a b : ℕ) × (as' ≡ a ∷ b ∷ []) × (sort_of cx a ≡ sort_of cx b)
Agrees cx (Uninterpreted f) as' = map (sort_of cx) as' ≡ (symbol cx f).params

-- Arguments are lower, sorts and counts agree, and no term stands twice.
pub record Formed (cx : Context) : Type 0 where
  pub lower : (t : ℕ) → t < length cx.terms → (a : ℕ) → In a (children cx t) → a < t
  pub agrees : (t : ℕ) → t < length cx.terms → Agrees cx (term cx t).op (children cx t)
  pub distinct : (t u : ℕ) → t < length cx.terms → u < length cx.terms → term cx t ≡ term cx u → t ≡ u

-- ---- a table that grows at its end

abbrev pub grown : Context → List Term → Context
grown cx new = record { sorts = cx.sorts; symbols = cx.symbols; terms = cx.terms ++ new }

abbrev pub Extends : Context → Context → Type 0
Extends cx cx' = (new : List Term) × (cx' ≡ grown cx new)

-- ---- terms below a term

-- t stands n levels below a
abbrev pub Beneath : Context → ℕ → ℕ → ℕ → Type 0
Beneath cx zero a t = a ≡ t
Beneath cx (suc n) a t = (b : ℕ) × T (mem b (children cx a)) × Beneath cx n b t
