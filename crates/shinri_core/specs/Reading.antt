-- Readings of a signature by finite trees (01: Reading). Datatype values are finite constructor trees, Bool is the two truth
-- values, other sorts any non-empty sets, functions anything, selectors free on foreign constructors. SMT-LIB 2.6 decides
-- what constructors, testers, selectors and equality mean.
use Rattle.std.specs.Prelude.{ℕ, zero, suc, ◌≡◌, ◌↔◌, Bool, true, false, cond, ◌&&◌, List, [], ◌∷◌, ◌++◌, T, eqb, get_or}
use Rattle.std.proofs.Math.Bool as Bool
use Rattle.std.proofs.Math.Option
use Rattle.std.proofs.Math.Option.{Option, none, some}
use Rattle.shinri_core.specs.Sort.{is_bool, is_datatype, is_uninterpreted}
use Rattle.shinri_core.specs.Term.{Role, Constructor, Tester, Selector, Function, Op, Eq, Uninterpreted, Term}
use Rattle.shinri_core.specs.Context.{Context, sort_node, symbol, builds}

-- a value: a truth value, an element of another sort's set, or a constructor over values
mutual
  pub data Value (E : Type 0) : Type 0 where
    truth : Bool → Value E
    element : E → Value E
    tree : (ctor : ℕ) → Values E → Value E

  pub data Values (E : Type 0) : Type 0 where
    nil : Values E
    cons : Value E → Values E → Values E

module _ {E : Type 0} where
  -- ---- equality as a test

  module _ (same : E → E → Bool) where
    unfoldable mutual
      pub same_value : Value E → Value E → Bool
      same_value (truth a) (truth b) = Bool.beq a b
      same_value (truth a) (element y) = false
      same_value (truth a) (tree d ws) = false
      same_value (element x) (truth b) = false
      same_value (element x) (element y) = same x y
      same_value (element x) (tree d ws) = false
      same_value (tree c vs) (truth b) = false
      same_value (tree c vs) (element y) = false
      same_value (tree c vs) (tree d ws) = eqb c d && same_values vs ws

      pub same_values : Values E → Values E → Bool
      same_values nil nil = true
      same_values nil (cons w ws) = false
      same_values (cons v vs) nil = false
      same_values (cons v vs) (cons w ws) = same_value v w && same_values vs ws

  -- ---- sorts of values, over the set of each other sort

  module _ (cx : Context) (domain : ℕ → E → Type 0) where
    abbrev mutual
      pub HasSort : Value E → ℕ → Type 0
      HasSort (truth b) s = T (is_bool (sort_node cx s))
      HasSort (element e) s = T (is_uninterpreted (sort_node cx s)) × domain s e
      HasSort (tree c vs) s = T (is_datatype (sort_node cx s)) × T (builds cx s c) × HasSorts vs (symbol cx c).params

      pub HasSorts : Values E → List ℕ → Type 0
      HasSorts nil [] = Unit {0}
      HasSorts nil (s ∷ ss) = ⊥
      HasSorts (cons v vs) [] = ⊥
      HasSorts (cons v vs) (s ∷ ss) = HasSort v s × HasSorts vs ss

  -- ---- testers and selectors

  unfoldable pub built_by : ℕ → Value E → Bool
  built_by c (truth b) = false
  built_by c (element e) = false
  built_by c (tree d vs) = eqb c d

  unfoldable pub field : Values E → ℕ → Option (Value E)
  field nil i = none
  field (cons v vs) zero = some v
  field (cons v vs) (suc i) = field vs i

  -- the field of a value of constructor c, or what stands for a selector on a foreign one
  unfoldable pub own_field : ℕ → ℕ → Value E → Value E → Value E
  own_field c i (truth b) other = other
  own_field c i (element e) other = other
  own_field c i (tree d vs) other = cond (eqb c d) (Option.get_or (field vs i) other) other

-- is the symbol a function, a selector?
unfoldable pub is_function : Role → Bool
is_function Constructor = false
is_function (Tester c) = false
is_function (Selector c i) = false
is_function Function = true

unfoldable pub is_selector : Role → Bool
is_selector Constructor = false
is_selector (Tester c) = false
is_selector (Selector c i) = true
is_selector Function = false

-- 01: a reading of a signature. A set of elements with its equality, the part of it that is each other sort's set, not empty;
-- what each function does, and each selector on foreign constructors, within their sorts.
pub record Reading (cx : Context) : Type 1 where
  pub Element : Type 0
  pub same : Element → Element → Bool
  pub same_is_equal : (x y : Element) → T (same x y) ↔ (x ≡ y)
  pub domain : ℕ → Element → Type 0
  pub inhabitant : (s : ℕ) → T (is_uninterpreted (sort_node cx s)) → (e : Element) × domain s e
  pub function : ℕ → Values Element → Value Element
  pub function_sorted : (f : ℕ) (vs : Values Element) → T (is_function (symbol cx f).role) → HasSorts cx domain vs (symbol cx f).params → HasSort cx domain (function f vs) (symbol cx f).result
  pub foreign : ℕ → Values Element → Value Element
  pub foreign_sorted : (f : ℕ) (vs : Values Element) → T (is_selector (symbol cx f).role) → HasSorts cx domain vs (symbol cx f).params → HasSort cx domain (foreign f vs) (symbol cx f).result

module _ {cx : Context} (r : Reading cx) where
  -- ---- the value of an application
  -- A tester and a selector have one argument and an equation two, by question 6 and by the rules that make terms, so the
  -- other clauses are never met.

  unfoldable pub equation_value : Values r.Element → Value r.Element
  equation_value nil = truth false
  equation_value (cons v nil) = truth false
  equation_value (cons v (cons w nil)) = truth (same_value r.same v w)
  equation_value (cons v (cons w (cons u us))) = truth false

  unfoldable pub tester_value : ℕ → Values r.Element → Value r.Element
  tester_value c nil = truth false
  tester_value c (cons v vs) = truth (built_by c v)

  unfoldable pub selector_value : ℕ → ℕ → ℕ → Values r.Element → Value r.Element
  selector_value f c i nil = r.foreign f nil
  selector_value f c i (cons v vs) = own_field c i v (r.foreign f (cons v vs))

  unfoldable pub symbol_value : ℕ → Role → Values r.Element → Value r.Element
  symbol_value f Constructor vs = tree f vs
  symbol_value f (Tester c) vs = tester_value c vs
  symbol_value f (Selector c i) vs = selector_value f c i vs
  symbol_value f Function vs = r.function f vs

  unfoldable pub app_value : Op → Values r.Element → Value r.Element
  app_value Eq vs = equation_value vs
  app_value (Uninterpreted f) vs = symbol_value f (symbol cx f).role vs

  -- ---- the value of a term
  -- A term's arguments have lower numbers, so the values are found in the order of the terms.

  unfoldable pub value_in : List (Value r.Element) → ℕ → Value r.Element
  value_in known t = get_or known t (truth false)

  unfoldable pub values_in : List (Value r.Element) → List ℕ → Values r.Element
  values_in known [] = nil
  values_in known (t ∷ ts) = cons (value_in known t) (values_in known ts)

  unfoldable pub term_values : List (Value r.Element) → List Term → List (Value r.Element)
  term_values known [] = known
  term_values known (t ∷ ts) = term_values (known ++ (app_value t.op (values_in known t.args) ∷ [])) ts

  unfoldable pub value : ℕ → Value r.Element
  value t = value_in (term_values [] cx.terms) t
