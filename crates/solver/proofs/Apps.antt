-- Terms by their role: what a constructor, a tester, a selector application is, and its value in a reading.
use Prim.Native.Nat.{ℕ, ◌<◌}
use mathlib.Core.Path.{◌≡◌, refl, sym, subst, ap, ap₂, ◌∙◌}
use mathlib.Core.Bool.{Bool}
use mathlib.Core.List.{List, [], ◌∷◌}
use mathlib.Core.Option.{some}
use native.Mathlib.Omega.{arith}
use native.Mathlib.Decide.{dec_lt}
use lib.ListN.{length, get_or-eq_default}
use Rattle.shinri_core.specs.Term as Term
use Rattle.shinri_core.specs.Term.{Term, Op, Eq, Role, Constructor, Tester, Selector, Function}
use Rattle.shinri_core.specs.Context.{Context, CtorApp, SelApp, TesterApp, symbol, term, no_term, children, ctor_app, ctor_by_op, ctor_by_role, sel_app, sel_by_op, sel_by_role, tester_app, tester_by_op, tester_by_role}
use Rattle.shinri_core.specs.Reading.{Value, Values, truth, tree, Reading, built_by, own_field, same_value, equation_value, tester_value, selector_value, symbol_value, app_value, value}
use Rattle.solver.proofs.Basics.{none_some, some_is}
use Rattle.solver.proofs.Terms.{Formed}
use Rattle.solver.proofs.Values.{values_of, value_is}

-- ---- constructor applications

ctor_role : (t s : ℕ) (ρ : Role) (as' : List ℕ) (c : CtorApp) → ctor_by_role t s ρ as' ≡ some c → (ρ ≡ Constructor) × (c ≡ record { app = t; ctor = s; fields = as' })
unfolding ctor_by_role
ctor_role t s Constructor as' c e = (refl, sym (some_is (record { app = t; ctor = s; fields = as' }) c e))
ctor_role t s (Tester d) as' c e = absurd (none_some c e)
ctor_role t s (Selector d i) as' c e = absurd (none_some c e)
ctor_role t s Function as' c e = absurd (none_some c e)

-- what a constructor application is
-- a symbol's operation names it
pub op_is : (a b : ℕ) → Term.Uninterpreted a ≡ Term.Uninterpreted b → a ≡ b
op_is a b e = cc

pub record IsCtor (cx : Context) (t : ℕ) (c : CtorApp) : Type 0 where
  pub app : c.app ≡ t
  pub op : (term cx t).op ≡ Term.Uninterpreted c.ctor
  pub args : children cx t ≡ c.fields
  pub role : (symbol cx c.ctor).role ≡ Constructor

ctor_op : (cx : Context) (t : ℕ) (o : Op) (as' : List ℕ) (c : CtorApp) → (term cx t).op ≡ o → children cx t ≡ as' → ctor_by_op cx t o as' ≡ some c → IsCtor cx t c
unfolding ctor_by_op
ctor_op cx t Eq as' c p q e = absurd (none_some c e)
ctor_op cx t (Term.Uninterpreted s) as' c p q e =
    let (x, y) = ctor_role t s (symbol cx s).role as' c e in
    record {
      app = ap (λ (z : CtorApp). z.app) y;
      op = p ∙ ap (λ (z : CtorApp). Term.Uninterpreted z.ctor) (sym y);
      args = q ∙ ap (λ (z : CtorApp). z.fields) (sym y);
      role = ap (λ (z : CtorApp). (symbol cx z.ctor).role) y ∙ x;
    }

pub ctor_app_is : (cx : Context) (t : ℕ) (c : CtorApp) → ctor_app cx t ≡ some c → IsCtor cx t c
unfolding ctor_app
ctor_app_is cx t c e = ctor_op cx t (term cx t).op (children cx t) c refl refl e

pub op_apart : (f : ℕ) → Eq ≡ Term.Uninterpreted f → ⊥
op_apart f e = subst is_eq e tt
  where
    is_eq : Op → Type 0
    is_eq Eq = Unit {0}
    is_eq (Term.Uninterpreted s) = ⊥

-- an application of a symbol is a term of the table
pub app_within : (cx : Context) (t f : ℕ) → (term cx t).op ≡ Term.Uninterpreted f → t < length cx.terms
unfolding term no_term
app_within cx t f e = go (dec_lt t (length cx.terms))
  where
    go : Dec (t < length cx.terms) → t < length cx.terms
    go (yes l) = l
    go (no h) = absurd (op_apart f (sym (ap (λ (x : Term). x.op) (get_or-eq_default cx.terms no_term {n = t} (omega arith))) ∙ e))

-- ---- tester applications

pub record IsTester (cx : Context) (t : ℕ) (x : TesterApp) : Type 0 where
  pub app : x.app ≡ t
  pub op : (term cx t).op ≡ Term.Uninterpreted x.tester
  pub rest : List ℕ
  pub args : children cx t ≡ x.arg ∷ rest
  pub role : (symbol cx x.tester).role ≡ Tester x.ctor

tester_role : (cx : Context) (t s : ℕ) (ρ : Role) (as' : List ℕ) (x : TesterApp) → (term cx t).op ≡ Term.Uninterpreted s → children cx t ≡ as' → (symbol cx s).role ≡ ρ → tester_by_role t s ρ as' ≡ some x → IsTester cx t x
unfolding tester_by_role
tester_role cx t s Constructor as' x p q r e = absurd (none_some x e)
tester_role cx t s (Tester c) [] x p q r e = absurd (none_some x e)
tester_role cx t s (Tester c) (a ∷ as') x p q r e =
    let y = some_is (record { app = t; tester = s; ctor = c; arg = a }) x e in
    record {
      app = ap (λ (z : TesterApp). z.app) (sym y);
      op = p ∙ ap (λ (z : TesterApp). Term.Uninterpreted z.tester) y;
      rest = as';
      args = q ∙ ap (λ (z : TesterApp). z.arg ∷ as') y;
      role = ap (λ (z : TesterApp). (symbol cx z.tester).role) (sym y) ∙ r ∙ ap (λ (z : TesterApp). Tester z.ctor) y;
    }
tester_role cx t s (Selector c i) as' x p q r e = absurd (none_some x e)
tester_role cx t s Function as' x p q r e = absurd (none_some x e)

tester_op : (cx : Context) (t : ℕ) (o : Op) (x : TesterApp) → (term cx t).op ≡ o → tester_by_op cx t o (children cx t) ≡ some x → IsTester cx t x
unfolding tester_by_op
tester_op cx t Eq x p e = absurd (none_some x e)
tester_op cx t (Term.Uninterpreted s) x p e = tester_role cx t s (symbol cx s).role (children cx t) x p refl refl e

pub tester_app_is : (cx : Context) (t : ℕ) (x : TesterApp) → tester_app cx t ≡ some x → IsTester cx t x
unfolding tester_app
tester_app_is cx t x e = tester_op cx t (term cx t).op x refl e

-- ---- selector applications

pub record IsSel (cx : Context) (t : ℕ) (x : SelApp) : Type 0 where
  pub app : x.app ≡ t
  pub op : (term cx t).op ≡ Term.Uninterpreted x.selector
  pub rest : List ℕ
  pub args : children cx t ≡ x.arg ∷ rest
  pub role : (symbol cx x.selector).role ≡ Selector x.ctor x.index

sel_role : (cx : Context) (t s : ℕ) (ρ : Role) (as' : List ℕ) (x : SelApp) → (term cx t).op ≡ Term.Uninterpreted s → children cx t ≡ as' → (symbol cx s).role ≡ ρ → sel_by_role t s ρ as' ≡ some x → IsSel cx t x
unfolding sel_by_role
sel_role cx t s Constructor as' x p q r e = absurd (none_some x e)
sel_role cx t s (Tester c) as' x p q r e = absurd (none_some x e)
sel_role cx t s (Selector c i) [] x p q r e = absurd (none_some x e)
sel_role cx t s (Selector c i) (a ∷ as') x p q r e =
    let y = some_is (record { app = t; selector = s; ctor = c; index = i; arg = a }) x e in
    record {
      app = ap (λ (z : SelApp). z.app) (sym y);
      op = p ∙ ap (λ (z : SelApp). Term.Uninterpreted z.selector) y;
      rest = as';
      args = q ∙ ap (λ (z : SelApp). z.arg ∷ as') y;
      role = ap (λ (z : SelApp). (symbol cx z.selector).role) (sym y) ∙ r ∙ ap (λ (z : SelApp). Selector z.ctor z.index) y;
    }
sel_role cx t s Function as' x p q r e = absurd (none_some x e)

sel_op : (cx : Context) (t : ℕ) (o : Op) (x : SelApp) → (term cx t).op ≡ o → sel_by_op cx t o (children cx t) ≡ some x → IsSel cx t x
unfolding sel_by_op
sel_op cx t Eq x p e = absurd (none_some x e)
sel_op cx t (Term.Uninterpreted s) x p e = sel_role cx t s (symbol cx s).role (children cx t) x p refl refl e

pub sel_app_is : (cx : Context) (t : ℕ) (x : SelApp) → sel_app cx t ≡ some x → IsSel cx t x
unfolding sel_app
sel_app_is cx t x e = sel_op cx t (term cx t).op x refl e

-- ---- their values

module _ {cx : Context} (r : Reading cx) (F : Formed cx) where
  -- the value of a term of the table that is known
  pub value_at : (t : ℕ) (o : Op) (as' : List ℕ) → t < length cx.terms → (term cx t).op ≡ o → children cx t ≡ as' → value r t ≡ app_value r o (values_of r as')
  value_at t o as' l p q = value_is r t l (F.lower t l) ∙ ap₂ (λ (x : Op) (xs : List ℕ). app_value r x (values_of r xs)) p q

  -- the value of an application of a symbol of a known role
  pub value_by_role : (t f : ℕ) (ρ : Role) (as' : List ℕ) → (term cx t).op ≡ Term.Uninterpreted f → children cx t ≡ as' → (symbol cx f).role ≡ ρ → value r t ≡ symbol_value r f ρ (values_of r as')
  unfolding app_value
  value_by_role t f ρ as' p q e =
      value_at t (Term.Uninterpreted f) as' (app_within cx t f p) p q ∙ ap (λ (x : Role). symbol_value r f x (values_of r as')) e

  pub ctor_value : (t c : ℕ) (as' : List ℕ) → (term cx t).op ≡ Term.Uninterpreted c → children cx t ≡ as' → (symbol cx c).role ≡ Constructor → value r t ≡ tree c (values_of r as')
  unfolding symbol_value
  ctor_value t c as' p q e = value_by_role t c Constructor as' p q e

  pub test_value : (t f c a : ℕ) (as' : List ℕ) → (term cx t).op ≡ Term.Uninterpreted f → children cx t ≡ a ∷ as' → (symbol cx f).role ≡ Tester c → value r t ≡ truth (built_by c (value r a))
  unfolding symbol_value tester_value
  test_value t f c a as' p q e = value_by_role t f (Tester c) (a ∷ as') p q e

  pub select_value : (t f c i a : ℕ) (as' : List ℕ) → (term cx t).op ≡ Term.Uninterpreted f → children cx t ≡ a ∷ as' → (symbol cx f).role ≡ Selector c i → value r t ≡ own_field c i (value r a) (r.foreign f (values_of r (a ∷ as')))
  unfolding symbol_value selector_value
  select_value t f c i a as' p q e = value_by_role t f (Selector c i) (a ∷ as') p q e

  pub equation_is : (t a b : ℕ) → t < length cx.terms → (term cx t).op ≡ Eq → children cx t ≡ a ∷ b ∷ [] → value r t ≡ truth (same_value r.same (value r a) (value r b))
  unfolding app_value equation_value
  equation_is t a b l p q = value_at t Eq (a ∷ b ∷ []) l p q

-- ---- values told apart

pub truth_is : {E : Type 0} (a b : Bool) → Path (Value E) (truth a) (truth b) → a ≡ b
truth_is a b e = cc

pub tree_ctor : {E : Type 0} (c d : ℕ) (vs ws : Values E) → tree c vs ≡ tree d ws → c ≡ d
tree_ctor c d vs ws e = cc
