-- Readings: the value of a term is its operation over its arguments' values, and has the term's sort.
use Prim.Native.Nat.{ℕ, zero, suc, ◌+◌, ◌<◌}
use mathlib.Core.Path.{◌≡◌, refl, sym, subst, subst⁻¹, ap, ap₂, ◌∙◌}
use mathlib.Core.Logic.{inl, inr}
use mathlib.Core.Bool.{Bool, true, false, cond}
use mathlib.Core.List.{List, [], ◌∷◌, ◌++◌, map}
use mathlib.Core.Option
use mathlib.Core.Option.{Option, some}
use native.Mathlib.Omega.{arith}
use native.Mathlib.Nat.{add-zero, zero-add}
use lib.Dec.{T, eqb, eqb→eq, eqb_refl}
use lib.ListN.{length, get_or, length-append, get_or-append}
use lib.Seq.{get_or-append_seam}
use Rattle.shinri_core.specs.Term as Term
use Rattle.shinri_core.specs.Term.{Role, Constructor, Tester, Selector, Function, Op, Eq, Term}
use Rattle.shinri_core.specs.Sort.{SortNode, is_bool}
use Rattle.shinri_core.specs.Context.{Context, sort_node, is_datatype_sort, symbol, builds, is_constructor, term, no_term, children, result_of, sort_of}
use Rattle.shinri_core.specs.Reading.{Value, Values, truth, element, tree, nil, cons, HasSort, HasSorts, Reading, built_by, field, own_field, is_function, is_selector, same_value, same_values, equation_value, tester_value, selector_value, symbol_value, app_value, value, value_in, values_in, term_values}
use Rattle.shinri_core.proofs.Lists.{In, T_and, T-both, true_T}
use Rattle.solver.proofs.Terms.{Below, Agrees, Formed}
use Rattle.solver.proofs.Signature.{SelectorIs, Signed}

-- ---- equality of values as a test

module _ {E : Type 0} (same : E → E → Bool) where
  module _ (sound : (x y : E) → T (same x y) → x ≡ y) where
    mutual
      unfolding same_value same_values

      pub same_value_eq : (v w : Value E) → T (same_value same v w) → v ≡ w
      same_value_eq (truth true) (truth true) t = refl
      same_value_eq (truth true) (truth false) t = absurd t
      same_value_eq (truth false) (truth true) t = absurd t
      same_value_eq (truth false) (truth false) t = refl
      same_value_eq (truth a) (element y) t = absurd t
      same_value_eq (truth a) (tree d ws) t = absurd t
      same_value_eq (element x) (truth b) t = absurd t
      same_value_eq (element x) (element y) t = ap element (sound x y t)
      same_value_eq (element x) (tree d ws) t = absurd t
      same_value_eq (tree c vs) (truth b) t = absurd t
      same_value_eq (tree c vs) (element y) t = absurd t
      same_value_eq (tree c vs) (tree d ws) t =
          ap₂ tree (eqb→eq c d (T_and (eqb c d) (same_values same vs ws) t).0) (same_values_eq vs ws (T_and (eqb c d) (same_values same vs ws) t).1)

      pub same_values_eq : (vs ws : Values E) → T (same_values same vs ws) → vs ≡ ws
      same_values_eq nil nil t = refl
      same_values_eq nil (cons w ws) t = absurd t
      same_values_eq (cons v vs) nil t = absurd t
      same_values_eq (cons v vs) (cons w ws) t =
          ap₂ cons (same_value_eq v w (T_and (same_value same v w) (same_values same vs ws) t).0) (same_values_eq vs ws (T_and (same_value same v w) (same_values same vs ws) t).1)

  module _ (itself : (x : E) → T (same x x)) where
    mutual
      unfolding same_value same_values

      pub same_value_refl : (v : Value E) → T (same_value same v v)
      same_value_refl (truth true) = tt
      same_value_refl (truth false) = tt
      same_value_refl (element x) = itself x
      same_value_refl (tree c vs) = T-both (eqb c c) (same_values same vs vs) (eqb_refl c) (same_values_refl vs)

      pub same_values_refl : (vs : Values E) → T (same_values same vs vs)
      same_values_refl nil = tt
      same_values_refl (cons v vs) = T-both (same_value same v v) (same_values same vs vs) (same_value_refl v) (same_values_refl vs)

-- ---- the value of a term

module _ {cx : Context} (r : Reading cx) where
  -- the values of terms
  abbrev pub values_of : List ℕ → Values r.Element
  values_of [] = nil
  values_of (t ∷ ts) = cons (value r t) (values_of ts)

  known_kept : (known : List (Value r.Element)) (ts : List Term) (i : ℕ) → i < length known → value_in r (term_values r known ts) i ≡ value_in r known i
  unfolding term_values value_in
  known_kept known [] i l = refl
  known_kept known (t ∷ ts) i l =
      known_kept (known ++ (app_value r t.op (values_in r known t.args) ∷ [])) ts i
      (subst⁻¹ (λ (n : ℕ). i < n) (length-append known (app_value r t.op (values_in r known t.args) ∷ [])) (omega arith))
      ∙ get_or-append known (app_value r t.op (values_in r known t.args) ∷ []) (truth false) i l

  last_of : (known : List (Value r.Element)) (v : Value r.Element) → value_in r (known ++ (v ∷ [])) (length known) ≡ v
  unfolding value_in
  last_of known v = get_or-append_seam known v [] (truth false)

  values_kept : (known : List (Value r.Element)) (ts : List Term) (as' : List ℕ) → Below (length known) as' → values_in r (term_values r known ts) as' ≡ values_in r known as'
  unfolding values_in
  values_kept known ts [] b = refl
  values_kept known ts (a ∷ as') b =
      ap₂ cons (known_kept known ts a (b a (inl refl))) (values_kept known ts as' (λ x i. b x (inr i)))

  values_at : (known : List (Value r.Element)) (ts : List Term) (i : ℕ) → i < length ts → Below (length known + i) (get_or ts i no_term).args → value_in r (term_values r known ts) (length known + i) ≡ app_value r (get_or ts i no_term).op (values_in r (term_values r known ts) (get_or ts i no_term).args)
  unfolding term_values
  values_at known [] i l b = absurd (omega arith)
  values_at known (t ∷ ts) zero l b =
      ap (value_in r (term_values r more ts)) (add-zero (length known))
      ∙ known_kept more ts (length known) (subst⁻¹ (λ (n : ℕ). length known < n) (length-append known (v ∷ [])) (omega arith))
      ∙ last_of known v
      ∙ ap (app_value r t.op) (sym (values_kept known (t ∷ ts) t.args (subst (λ (n : ℕ). Below n t.args) (add-zero (length known)) b)))
    where
      v : Value r.Element
      v = app_value r t.op (values_in r known t.args)

      more : List (Value r.Element)
      more = known ++ (v ∷ [])
  values_at known (t ∷ ts) (suc i) l b =
      ap (value_in r (term_values r more ts)) (sym place)
      ∙ values_at more ts i (omega arith) (subst⁻¹ (λ (n : ℕ). Below n (get_or ts i no_term).args) place b)
    where
      v : Value r.Element
      v = app_value r t.op (values_in r known t.args)

      more : List (Value r.Element)
      more = known ++ (v ∷ [])

      place : length more + i ≡ length known + suc i
      place = ap (λ (n : ℕ). n + i) (length-append known (v ∷ [])) ∙ omega arith

  values_of_are : (as' : List ℕ) → values_in r (term_values r [] cx.terms) as' ≡ values_of as'
  unfolding values_in value
  values_of_are [] = refl
  values_of_are (a ∷ as') = ap (cons (value_in r (term_values r [] cx.terms) a)) (values_of_are as')

  -- a term's value is its operation over its arguments' values
  pub value_is : (t : ℕ) → t < length cx.terms → Below t (children cx t) → value r t ≡ app_value r (term cx t).op (values_of (children cx t))
  unfolding value term children
  value_is t l b =
      ap (value_in r (term_values r [] cx.terms)) (sym (zero-add t))
      ∙ values_at [] cx.terms t l (subst⁻¹ (λ (n : ℕ). Below n (children cx t)) (zero-add t) b)
      ∙ ap (app_value r (term cx t).op) (values_of_are (children cx t))

-- ---- a term's value has the term's sort

module _ {E : Type 0} (cx : Context) (domain : ℕ → E → Type 0) where
  -- the field of a list of values
  pub field_sorted : (vs : Values E) (ss : List ℕ) (i : ℕ) → HasSorts cx domain vs ss → i < length ss → (v : Value E) × (field vs i ≡ some v) × HasSort cx domain v (get_or ss i 0)
  unfolding field
  field_sorted nil [] i h l = absurd (omega arith)
  field_sorted nil (s ∷ ss) i h l = absurd h
  field_sorted (cons v vs) [] i h l = absurd h
  field_sorted (cons v vs) (s ∷ ss) zero (h, k) l = (v, refl, h)
  field_sorted (cons v vs) (s ∷ ss) (suc i) (h, k) l = field_sorted vs ss i k (omega arith)

  -- a selector's value: the own field, or the other value
  own_sorted : (c i s : ℕ) (v other : Value E) → HasSort cx domain v s → i < length (symbol cx c).params → HasSort cx domain other (get_or (symbol cx c).params i 0) → HasSort cx domain (own_field c i v other) (get_or (symbol cx c).params i 0)
  unfolding own_field
  own_sorted c i s (truth b) other h l o = o
  own_sorted c i s (element e) other h l o = o
  own_sorted c i s (tree d vs) other h l o = go (eqb c d) refl
    where
      got : ((v : Value E) × (field vs i ≡ some v) × HasSort cx domain v (get_or (symbol cx c).params i 0)) → HasSort cx domain (Option.get_or (field vs i) other) (get_or (symbol cx c).params i 0)
      got (v, e, k) = subst⁻¹ (λ (x : Option (Value E)). HasSort cx domain (Option.get_or x other) (get_or (symbol cx c).params i 0)) e k

      go : (b : Bool) → eqb c d ≡ b → HasSort cx domain (cond b (Option.get_or (field vs i) other) other) (get_or (symbol cx c).params i 0)
      go true e = got (field_sorted vs (symbol cx c).params i (subst⁻¹ (λ (m : ℕ). HasSorts cx domain vs (symbol cx m).params) (eqb→eq c d (true_T (eqb c d) e)) h.2) l)
      go false e = o

module _ {cx : Context} (r : Reading cx) (S : Signed cx) where
  abbrev Sorted : Value r.Element → ℕ → Type 0
  Sorted v s = HasSort cx r.domain v s

  truth_sorted : (b : Bool) (s : ℕ) → s ≡ 0 → Sorted (truth b) s
  unfolding is_bool
  truth_sorted b s e = subst⁻¹ (λ (n : SortNode). T (is_bool n)) (ap (sort_node cx) e ∙ S.bool) tt

  args_sorted : (as' : List ℕ) → ((a : ℕ) → In a as' → Sorted (value r a) (sort_of cx a)) → HasSorts cx r.domain (values_of r as') (map (sort_of cx) as')
  args_sorted [] h = tt
  args_sorted (a ∷ as') h = (h a (inl refl), args_sorted as' (λ x i. h x (inr i)))

  equation_sorted : (vs : Values r.Element) → Sorted (equation_value r vs) 0
  unfolding equation_value
  equation_sorted nil = truth_sorted false 0 refl
  equation_sorted (cons v nil) = truth_sorted false 0 refl
  equation_sorted (cons v (cons w nil)) = truth_sorted (same_value r.same v w) 0 refl
  equation_sorted (cons v (cons w (cons u us))) = truth_sorted false 0 refl

  tester_sorted : (c s : ℕ) (vs : Values r.Element) → s ≡ 0 → Sorted (tester_value r c vs) s
  unfolding tester_value
  tester_sorted c s nil e = truth_sorted false s e
  tester_sorted c s (cons v vs) e = truth_sorted (built_by c v) s e

  selector_sorted : (f c i : ℕ) (vs : Values r.Element) → (symbol cx f).role ≡ Selector c i → HasSorts cx r.domain vs (symbol cx f).params → Sorted (selector_value r f c i vs) (symbol cx f).result
  unfolding selector_value is_selector
  selector_sorted f c i vs e h = go vs h (S.selector f c i e)
    where
      foreign : (vs : Values r.Element) → HasSorts cx r.domain vs (symbol cx f).params → Sorted (r.foreign f vs) (symbol cx f).result
      foreign vs h = r.foreign_sorted f vs (subst⁻¹ (λ (ρ : Role). T (is_selector ρ)) e tt) h

      go : (vs : Values r.Element) → HasSorts cx r.domain vs (symbol cx f).params → SelectorIs (symbol cx f) (symbol cx c) i → Sorted (selector_value r f c i vs) (symbol cx f).result
      go nil h q = foreign nil h
      go (cons v us) h (k, p, l, w) =
          subst⁻¹ (λ (s : ℕ). Sorted (own_field c i v (r.foreign f (cons v us))) s) w
          (own_sorted cx r.domain c i (symbol cx c).result v (r.foreign f (cons v us)) (subst (λ (ss : List ℕ). HasSorts cx r.domain (cons v us) ss) p h).0 l
          (subst (λ (s : ℕ). Sorted (r.foreign f (cons v us)) s) w (foreign (cons v us) h)))

  symbol_sorted : (f : ℕ) (ρ : Role) (vs : Values r.Element) → (symbol cx f).role ≡ ρ → HasSorts cx r.domain vs (symbol cx f).params → Sorted (symbol_value r f ρ vs) (symbol cx f).result
  unfolding symbol_value is_function is_datatype_sort builds is_constructor
  symbol_sorted f Constructor vs e h =
      (S.datatype f e, T-both (is_constructor (symbol cx f).role) (eqb (symbol cx f).result (symbol cx f).result) (subst⁻¹ (λ (ρ : Role). T (is_constructor ρ)) e tt) (eqb_refl (symbol cx f).result), h)
  symbol_sorted f (Tester c) vs e h = tester_sorted c (symbol cx f).result vs (S.tester f c e).2
  symbol_sorted f (Selector c i) vs e h = selector_sorted f c i vs e h
  symbol_sorted f Function vs e h = r.function_sorted f vs (subst⁻¹ (λ (ρ : Role). T (is_function ρ)) e tt) h

  app_sorted : (o : Op) (as' : List ℕ) → Agrees cx o as' → ((a : ℕ) → In a as' → Sorted (value r a) (sort_of cx a)) → Sorted (app_value r o (values_of r as')) (result_of cx o)
  unfolding app_value result_of
  app_sorted Eq as' g h = equation_sorted (values_of r as')
  app_sorted (Term.Uninterpreted f) as' g h =
      symbol_sorted f (symbol cx f).role (values_of r as') refl (subst (λ (ss : List ℕ). HasSorts cx r.domain (values_of r as') ss) g (args_sorted as' h))

  sorted_below : Formed cx → (n t : ℕ) → t < n → t < length cx.terms → Sorted (value r t) (sort_of cx t)
  unfolding sort_of
  sorted_below F zero t l m = absurd (omega arith)
  sorted_below F (suc n) t l m =
      subst⁻¹ (λ (v : Value r.Element). Sorted v (sort_of cx t)) (value_is r t m (F.lower t m))
      (app_sorted (term cx t).op (children cx t) (F.agrees t m)
      (λ a i. let k = F.lower t m a i in sorted_below F n a (omega arith) (omega arith)))

  pub value_sorted : Formed cx → (t : ℕ) → t < length cx.terms → HasSort cx r.domain (value r t) (sort_of cx t)
  value_sorted F t l = sorted_below F (suc t) t (omega arith) l
