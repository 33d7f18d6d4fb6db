-- Signatures: a constructor's tester and selectors stand right behind it. Kept by the declarations.
use Prim.Native.Nat.{ℕ, zero, suc, ◌+◌, ◌-◌, ◌≤◌, ◌<◌}
use mathlib.Core.Path.{◌≡◌, refl, sym, subst, subst⁻¹, ap, ◌∙◌}
use mathlib.Core.Logic.{◌⊎◌, inl, inr}
use mathlib.Core.List.{List, [], ◌∷◌}
use native.Mathlib.Omega.{arith}
use native.Mathlib.Nat.{add-zero, add-suc, suc-add, zero-add}
use native.Mathlib.Decide.{dec_lt}
use lib.Dec.{T}
use lib.ListN.{length, get_or, get_or-append, get_or-eq_default}
use lib.Seq.{get_or-append-add}
use Rattle.shinri_core.specs.Term.{Symbol, Role, Constructor, Tester, Selector, Function}
use Rattle.shinri_core.specs.Sort.{SortNode, BoolSort, is_datatype}
use Rattle.shinri_core.specs.Context.{Context, empty_context, with_symbols, declare_sort, selectors_from, constructor_symbols, dt_add_constructor, declare_fun, sort_node, is_datatype_sort, symbol, no_symbol, is_constructor}
pub use Rattle.shinri_core.specs.Formed.{TesterIs, SelectorIs, Signed}
use Rattle.shinri_core.specs.Reading.{is_function, is_selector}
use Rattle.shinri_core.proofs.Inhabited.{datatype_in_range}
use Rattle.shinri_core.proofs.Symbols.{symbol_count}
use Rattle.solver.proofs.Terms.{Extends, extends_sorts}

-- ---- roles are told apart

pub constructor_function : Constructor ≡ Function → ⊥
unfolding is_function
constructor_function e = subst⁻¹ (λ (x : Role). T (is_function x)) e tt

pub tester_function : (c : ℕ) → Tester c ≡ Function → ⊥
unfolding is_function
tester_function c e = subst⁻¹ (λ (x : Role). T (is_function x)) e tt

pub selector_function : (c i : ℕ) → Selector c i ≡ Function → ⊥
unfolding is_function
selector_function c i e = subst⁻¹ (λ (x : Role). T (is_function x)) e tt

pub constructor_tester : (c : ℕ) → Constructor ≡ Tester c → ⊥
unfolding is_constructor
constructor_tester c e = subst (λ (x : Role). T (is_constructor x)) e tt

pub constructor_selector : (c i : ℕ) → Constructor ≡ Selector c i → ⊥
unfolding is_constructor
constructor_selector c i e = subst (λ (x : Role). T (is_constructor x)) e tt

pub tester_selector : (d c i : ℕ) → Tester d ≡ Selector c i → ⊥
unfolding is_selector
tester_selector d c i e = subst⁻¹ (λ (x : Role). T (is_selector x)) e tt

pub tester_of : (c d : ℕ) → Tester c ≡ Tester d → c ≡ d
tester_of c d e = cc

pub selector_ctor : (c i d j : ℕ) → Selector c i ≡ Selector d j → c ≡ d
selector_ctor c i d j e = cc

pub selector_index : (c i d j : ℕ) → Selector c i ≡ Selector d j → i ≡ j
selector_index c i d j e = cc

-- a symbol with a role is declared
pub declared_role : (cx : Context) (f : ℕ) → ((symbol cx f).role ≡ Function → ⊥) → f < length cx.symbols
unfolding symbol no_symbol
declared_role cx f h = go (dec_lt f (length cx.symbols))
  where
    go : Dec (f < length cx.symbols) → f < length cx.symbols
    go (yes l) = l
    go (no n) = absurd (h (ap (λ (x : Symbol). x.role) (get_or-eq_default cx.symbols no_symbol {n = f} (omega arith))))

-- ---- what `term` lines and rules do not touch

pub extends_sort_node : (a b : Context) (s : ℕ) → Extends a b → sort_node b s ≡ sort_node a s
unfolding sort_node
extends_sort_node a b s e = ap (λ (ss : List SortNode). get_or ss s BoolSort) (extends_sorts a b e)

same_signature : (a b : Context) → a.sorts ≡ b.sorts → a.symbols ≡ b.symbols → Signed a → Signed b
unfolding symbol sort_node is_datatype_sort
same_signature a b p q S = record {
  bool = sym (ap (λ (ss : List SortNode). get_or ss 0 BoolSort) p) ∙ S.bool;
  datatype = subst (λ (ys : List Symbol). (c : ℕ) → (get_or ys c no_symbol).role ≡ Constructor → T (is_datatype (get_or b.sorts (get_or ys c no_symbol).result BoolSort))) q
      (subst (λ (ss : List SortNode). (c : ℕ) → (get_or a.symbols c no_symbol).role ≡ Constructor → T (is_datatype (get_or ss (get_or a.symbols c no_symbol).result BoolSort))) p S.datatype);
  tester = subst (λ (ys : List Symbol). (f c : ℕ) → (get_or ys f no_symbol).role ≡ Tester c → TesterIs (get_or ys f no_symbol) (get_or ys c no_symbol)) q S.tester;
  selector = subst (λ (ys : List Symbol). (f c i : ℕ) → (get_or ys f no_symbol).role ≡ Selector c i → SelectorIs (get_or ys f no_symbol) (get_or ys c no_symbol) i) q S.selector;
  own_tester = subst (λ (ys : List Symbol). (c : ℕ) → (get_or ys c no_symbol).role ≡ Constructor → (get_or ys (c + 1) no_symbol).role ≡ Tester c) q S.own_tester;
  own_selector = subst (λ (ys : List Symbol). (c i : ℕ) → (get_or ys c no_symbol).role ≡ Constructor → i < length (get_or ys c no_symbol).params → (get_or ys (c + 2 + i) no_symbol).role ≡ Selector c i) q S.own_selector;
}

pub extends_signed : (a b : Context) → Extends a b → Signed a → Signed b
extends_signed a b e S = same_signature a b (sym (extends_sorts a b e)) (sym (ap (λ (z : Context). z.symbols) e.1)) S

-- ---- declarations

pub empty_signed : Signed empty_context
unfolding empty_context symbol sort_node is_datatype_sort no_symbol
empty_signed = record {
  bool = refl;
  datatype = λ c e. absurd (constructor_function (sym e));
  tester = λ f c e. absurd (tester_function c (sym e));
  selector = λ f c i e. absurd (selector_function c i (sym e));
  own_tester = λ c e. absurd (constructor_function (sym e));
  own_selector = λ c i e l. absurd (constructor_function (sym e));
}

-- one more sort
pub sort_signed : (cx : Context) (n : SortNode) → 0 < length cx.sorts → Signed cx → Signed (declare_sort cx n)
unfolding declare_sort symbol sort_node is_datatype_sort
sort_signed cx n l S = record {
  bool = get_or-append cx.sorts (n ∷ []) BoolSort 0 l ∙ S.bool;
  datatype = λ c e. subst⁻¹ (λ (x : SortNode). T (is_datatype x)) (get_or-append cx.sorts (n ∷ []) BoolSort (symbol cx c).result (datatype_in_range cx.sorts (symbol cx c).result (S.datatype c e))) (S.datatype c e);
  tester = S.tester;
  selector = S.selector;
  own_tester = S.own_tester;
  own_selector = S.own_selector;
}

-- ---- more symbols

module _ (cx : Context) (new : List Symbol) where
  symbol_old : (f : ℕ) → f < length cx.symbols → symbol (with_symbols cx new) f ≡ symbol cx f
  unfolding symbol with_symbols
  symbol_old f l = get_or-append cx.symbols new no_symbol f l

  pub symbol_new : (j : ℕ) → symbol (with_symbols cx new) (length cx.symbols + j) ≡ get_or new j no_symbol
  unfolding symbol with_symbols
  symbol_new j = get_or-append-add cx.symbols new j no_symbol

  -- a symbol with a role stays
  pub symbol_kept : (f : ℕ) → ((symbol cx f).role ≡ Function → ⊥) → symbol (with_symbols cx new) f ≡ symbol cx f
  symbol_kept f h = symbol_old f (declared_role cx f h)

  -- a symbol is old or new
  pub record Placed (f : ℕ) : Type 0 where
    pub place : ℕ
    pub at : f ≡ length cx.symbols + place
    pub is : symbol (with_symbols cx new) f ≡ get_or new place no_symbol

  pub old_or_new : (f : ℕ) → (symbol (with_symbols cx new) f ≡ symbol cx f) ⊎ Placed f
  old_or_new f = go (dec_lt f (length cx.symbols))
    where
      go : Dec (f < length cx.symbols) → (symbol (with_symbols cx new) f ≡ symbol cx f) ⊎ Placed f
      go (yes l) = inl (symbol_old f l)
      go (no h) =
          let e : f ≡ length cx.symbols + (f - length cx.symbols) = omega arith in
          inr (record { place = f - length cx.symbols; at = e; is = ap (symbol (with_symbols cx new)) e ∙ symbol_new (f - length cx.symbols) })

  -- the new symbols fit into the whole
  pub record Block : Type 0 where
    pub datatype : (j : ℕ) → (get_or new j no_symbol).role ≡ Constructor → T (is_datatype_sort cx (get_or new j no_symbol).result)
    pub tester : (j c : ℕ) → (get_or new j no_symbol).role ≡ Tester c → TesterIs (get_or new j no_symbol) (symbol (with_symbols cx new) c)
    pub selector : (j c i : ℕ) → (get_or new j no_symbol).role ≡ Selector c i → SelectorIs (get_or new j no_symbol) (symbol (with_symbols cx new) c) i
    pub own_tester : (j : ℕ) → (get_or new j no_symbol).role ≡ Constructor → (symbol (with_symbols cx new) (length cx.symbols + j + 1)).role ≡ Tester (length cx.symbols + j)
    pub own_selector : (j i : ℕ) → (get_or new j no_symbol).role ≡ Constructor → i < length (get_or new j no_symbol).params → (symbol (with_symbols cx new) (length cx.symbols + j + 2 + i)).role ≡ Selector (length cx.symbols + j) i

  module _ (S : Signed cx) (B : Block) where
    abbrev role_is : (f : ℕ) (x : Symbol) → symbol (with_symbols cx new) f ≡ x → (ρ : Role) → (symbol (with_symbols cx new) f).role ≡ ρ → x.role ≡ ρ
    role_is f x e ρ h = subst (λ (y : Symbol). y.role ≡ ρ) e h

    kept_ctor : (c : ℕ) → (symbol cx c).role ≡ Constructor → symbol (with_symbols cx new) c ≡ symbol cx c
    kept_ctor c e = symbol_kept c (λ q. constructor_function (sym e ∙ q))

    all_datatype : (c : ℕ) → (symbol (with_symbols cx new) c ≡ symbol cx c) ⊎ Placed c → (symbol (with_symbols cx new) c).role ≡ Constructor → T (is_datatype_sort cx (symbol (with_symbols cx new) c).result)
    all_datatype c (inl e) h = subst⁻¹ (λ (y : Symbol). T (is_datatype_sort cx y.result)) e (S.datatype c (role_is c (symbol cx c) e Constructor h))
    all_datatype c (inr p) h = subst⁻¹ (λ (y : Symbol). T (is_datatype_sort cx y.result)) p.is (B.datatype p.place (role_is c (get_or new p.place no_symbol) p.is Constructor h))

    all_tester : (f c : ℕ) → (symbol (with_symbols cx new) f ≡ symbol cx f) ⊎ Placed f → (symbol (with_symbols cx new) f).role ≡ Tester c → TesterIs (symbol (with_symbols cx new) f) (symbol (with_symbols cx new) c)
    all_tester f c (inl e) h =
        let (x, y, z) = S.tester f c (role_is f (symbol cx f) e (Tester c) h) in
        let k = kept_ctor c x in
        subst⁻¹ (λ (w : Symbol). TesterIs w (symbol (with_symbols cx new) c)) e
        (subst⁻¹ (λ (w : Symbol). TesterIs (symbol cx f) w) k (x, y, z))
    all_tester f c (inr p) h =
        subst⁻¹ (λ (w : Symbol). TesterIs w (symbol (with_symbols cx new) c)) p.is
        (B.tester p.place c (role_is f (get_or new p.place no_symbol) p.is (Tester c) h))

    all_selector : (f c i : ℕ) → (symbol (with_symbols cx new) f ≡ symbol cx f) ⊎ Placed f → (symbol (with_symbols cx new) f).role ≡ Selector c i → SelectorIs (symbol (with_symbols cx new) f) (symbol (with_symbols cx new) c) i
    all_selector f c i (inl e) h =
        let q = S.selector f c i (role_is f (symbol cx f) e (Selector c i) h) in
        subst⁻¹ (λ (w : Symbol). SelectorIs w (symbol (with_symbols cx new) c) i) e
        (subst⁻¹ (λ (w : Symbol). SelectorIs (symbol cx f) w i) (kept_ctor c q.0) q)
    all_selector f c i (inr p) h =
        subst⁻¹ (λ (w : Symbol). SelectorIs w (symbol (with_symbols cx new) c) i) p.is
        (B.selector p.place c i (role_is f (get_or new p.place no_symbol) p.is (Selector c i) h))

    all_own_tester : (c : ℕ) → (symbol (with_symbols cx new) c ≡ symbol cx c) ⊎ Placed c → (symbol (with_symbols cx new) c).role ≡ Constructor → (symbol (with_symbols cx new) (c + 1)).role ≡ Tester c
    all_own_tester c (inl e) h =
        let q = S.own_tester c (role_is c (symbol cx c) e Constructor h) in
        ap (λ (y : Symbol). y.role) (symbol_kept (c + 1) (λ w. tester_function c (sym q ∙ w))) ∙ q
    all_own_tester c (inr p) h =
        subst⁻¹ (λ (m : ℕ). (symbol (with_symbols cx new) (m + 1)).role ≡ Tester m) p.at
        (B.own_tester p.place (role_is c (get_or new p.place no_symbol) p.is Constructor h))

    all_own_selector : (c i : ℕ) → (symbol (with_symbols cx new) c ≡ symbol cx c) ⊎ Placed c → (symbol (with_symbols cx new) c).role ≡ Constructor → i < length (symbol (with_symbols cx new) c).params → (symbol (with_symbols cx new) (c + 2 + i)).role ≡ Selector c i
    all_own_selector c i (inl e) h l =
        let q = S.own_selector c i (role_is c (symbol cx c) e Constructor h) (subst (λ (y : Symbol). i < length y.params) e l) in
        ap (λ (y : Symbol). y.role) (symbol_kept (c + 2 + i) (λ w. selector_function c i (sym q ∙ w))) ∙ q
    all_own_selector c i (inr p) h l =
        subst⁻¹ (λ (m : ℕ). (symbol (with_symbols cx new) (m + 2 + i)).role ≡ Selector m i) p.at
        (B.own_selector p.place i (role_is c (get_or new p.place no_symbol) p.is Constructor h) (subst (λ (y : Symbol). i < length y.params) p.is l))

    bool_kept : sort_node (with_symbols cx new) 0 ≡ BoolSort
    unfolding with_symbols sort_node
    bool_kept = S.bool

    datatype_kept : (s : ℕ) → T (is_datatype_sort cx s) → T (is_datatype_sort (with_symbols cx new) s)
    unfolding with_symbols sort_node is_datatype_sort
    datatype_kept s t = t

    pub symbols_signed : Signed (with_symbols cx new)
    symbols_signed = record {
      bool = bool_kept;
      datatype = λ c h. datatype_kept (symbol (with_symbols cx new) c).result (all_datatype c (old_or_new c) h);
      tester = λ f c h. all_tester f c (old_or_new f) h;
      selector = λ f c i h. all_selector f c i (old_or_new f) h;
      own_tester = λ c h. all_own_tester c (old_or_new c) h;
      own_selector = λ c i h l. all_own_selector c i (old_or_new c) h l;
    }

-- ---- a function

function_at : (j result : ℕ) (params : List ℕ) → (get_or (record { role = Function; params = params; result = result } ∷ []) j no_symbol).role ≡ Function
unfolding no_symbol
function_at zero result params = refl
function_at (suc j) result params = refl

pub fun_signed : (cx : Context) (result : ℕ) (params : List ℕ) → Signed cx → Signed (declare_fun cx result params)
unfolding declare_fun
fun_signed cx result params S =
    symbols_signed cx (record { role = Function; params = params; result = result } ∷ []) S (record {
      datatype = λ j h. absurd (constructor_function (sym h ∙ function_at j result params));
      tester = λ j c h. absurd (tester_function c (sym h ∙ function_at j result params));
      selector = λ j c i h. absurd (selector_function c i (sym h ∙ function_at j result params));
      own_tester = λ j h. absurd (constructor_function (sym h ∙ function_at j result params));
      own_selector = λ j i h l. absurd (constructor_function (sym h ∙ function_at j result params));
    })

-- ---- a constructor

selectors_at : (c dt i : ℕ) (fs : List ℕ) (k : ℕ) → k < length fs → get_or (selectors_from c dt i fs) k no_symbol ≡ record { role = Selector c (i + k); params = dt ∷ []; result = get_or fs k 0 }
unfolding selectors_from
selectors_at c dt i [] k l = absurd (omega arith)
selectors_at c dt i (f ∷ fs) zero l = ap (λ (m : ℕ). record { role = Selector c m; params = dt ∷ []; result = f }) (sym (add-zero i))
selectors_at c dt i (f ∷ fs) (suc k) l =
    selectors_at c dt (suc i) fs k (omega arith)
    ∙ ap (λ (m : ℕ). record { role = Selector c m; params = dt ∷ []; result = get_or fs k 0 }) (suc-add i k ∙ sym (add-suc i k))

module _ (cx : Context) (dt : ℕ) (fields : List ℕ) where
  new_symbols : List Symbol
  new_symbols = constructor_symbols (length cx.symbols) dt fields

  selector_symbol : ℕ → Symbol
  selector_symbol k = record { role = Selector (length cx.symbols) k; params = dt ∷ []; result = get_or fields k 0 }

  -- what stands at a place of the new symbols
  data NewAt (j : ℕ) : Type 0 where
    ctor_at : j ≡ 0 → get_or new_symbols j no_symbol ≡ record { role = Constructor; params = fields; result = dt } → NewAt j
    tester_at : j ≡ 1 → get_or new_symbols j no_symbol ≡ record { role = Tester (length cx.symbols); params = dt ∷ []; result = 0 } → NewAt j
    selector_at : (k : ℕ) → j ≡ 2 + k → k < length fields → get_or new_symbols j no_symbol ≡ selector_symbol k → NewAt j
    nothing_at : (get_or new_symbols j no_symbol).role ≡ Function → NewAt j

  at_selector : (k : ℕ) → k < length fields → get_or new_symbols (suc (suc k)) no_symbol ≡ selector_symbol k
  unfolding new_symbols constructor_symbols selector_symbol
  at_selector k l =
      selectors_at (length cx.symbols) dt 0 fields k l
      ∙ ap (λ (m : ℕ). record { role = Selector (length cx.symbols) m; params = dt ∷ []; result = get_or fields k 0 }) (zero-add k)

  new_at : (j : ℕ) → NewAt j
  unfolding new_symbols constructor_symbols no_symbol
  new_at zero = ctor_at refl refl
  new_at (suc zero) = tester_at refl refl
  new_at (suc (suc k)) = go (dec_lt k (length fields))
    where
      go : Dec (k < length fields) → NewAt (suc (suc k))
      go (yes l) = selector_at k (omega arith) l (at_selector k l)
      go (no h) = nothing_at (ap (λ (x : Symbol). x.role) (get_or-eq_default (selectors_from (length cx.symbols) dt 0 fields) no_symbol {n = k} (subst⁻¹ (λ (m : ℕ). m ≤ k) (symbol_count (length cx.symbols) dt 0 fields) (omega arith))))

  abbrev after : Context
  after = with_symbols cx new_symbols

  ctor_is : symbol after (length cx.symbols) ≡ record { role = Constructor; params = fields; result = dt }
  unfolding new_symbols constructor_symbols
  ctor_is = ap (symbol after) (sym (add-zero (length cx.symbols))) ∙ symbol_new cx new_symbols 0

  tester_is : symbol after (length cx.symbols + 1) ≡ record { role = Tester (length cx.symbols); params = dt ∷ []; result = 0 }
  unfolding new_symbols constructor_symbols
  tester_is = symbol_new cx new_symbols 1

  selector_is : (k : ℕ) → k < length fields → symbol after (length cx.symbols + 2 + k) ≡ selector_symbol k
  selector_is k l =
      let e : length cx.symbols + 2 + k ≡ length cx.symbols + suc (suc k) = omega arith in
      ap (symbol after) e ∙ symbol_new cx new_symbols (suc (suc k)) ∙ at_selector k l

  role_at : (j : ℕ) (x : Symbol) (ρ : Role) → get_or new_symbols j no_symbol ≡ x → (get_or new_symbols j no_symbol).role ≡ ρ → x.role ≡ ρ
  role_at j x ρ e h = subst (λ (y : Symbol). y.role ≡ ρ) e h

  module _ (D : T (is_datatype_sort cx dt)) where
    new_datatype : (j : ℕ) → NewAt j → (get_or new_symbols j no_symbol).role ≡ Constructor → T (is_datatype_sort cx (get_or new_symbols j no_symbol).result)
    unfolding selector_symbol
    new_datatype j (ctor_at p e) h = subst⁻¹ (λ (y : Symbol). T (is_datatype_sort cx y.result)) e D
    new_datatype j (tester_at p e) h = absurd (constructor_tester (length cx.symbols) (sym (role_at j (record { role = Tester (length cx.symbols); params = dt ∷ []; result = 0 }) Constructor e h)))
    new_datatype j (selector_at k p l e) h = absurd (constructor_selector (length cx.symbols) k (sym (role_at j (selector_symbol k) Constructor e h)))
    new_datatype j (nothing_at e) h = absurd (constructor_function (sym h ∙ e))

    new_tester : (j c : ℕ) → NewAt j → (get_or new_symbols j no_symbol).role ≡ Tester c → TesterIs (get_or new_symbols j no_symbol) (symbol after c)
    unfolding selector_symbol
    new_tester j c (ctor_at p e) h = absurd (constructor_tester c (role_at j (record { role = Constructor; params = fields; result = dt }) (Tester c) e h))
    new_tester j c (tester_at p e) h =
        let q = tester_of (length cx.symbols) c (role_at j (record { role = Tester (length cx.symbols); params = dt ∷ []; result = 0 }) (Tester c) e h) in
        subst⁻¹ (λ (w : Symbol). TesterIs w (symbol after c)) e
        (subst⁻¹ (λ (d : Symbol). TesterIs (record { role = Tester (length cx.symbols); params = dt ∷ []; result = 0 }) d) (ap (symbol after) (sym q) ∙ ctor_is) (refl, refl, refl))
    new_tester j c (selector_at k p l e) h = absurd (tester_selector c (length cx.symbols) k (sym (role_at j (selector_symbol k) (Tester c) e h)))
    new_tester j c (nothing_at e) h = absurd (tester_function c (sym h ∙ e))

    new_selector : (j c i : ℕ) → NewAt j → (get_or new_symbols j no_symbol).role ≡ Selector c i → SelectorIs (get_or new_symbols j no_symbol) (symbol after c) i
    unfolding selector_symbol
    new_selector j c i (ctor_at p e) h = absurd (constructor_selector c i (role_at j (record { role = Constructor; params = fields; result = dt }) (Selector c i) e h))
    new_selector j c i (tester_at p e) h = absurd (tester_selector (length cx.symbols) c i (role_at j (record { role = Tester (length cx.symbols); params = dt ∷ []; result = 0 }) (Selector c i) e h))
    new_selector j c i (selector_at k p l e) h =
        let s = role_at j (selector_symbol k) (Selector c i) e h in
        let q = selector_ctor (length cx.symbols) k c i s in
        let x = selector_index (length cx.symbols) k c i s in
        subst (λ (m : ℕ). SelectorIs (get_or new_symbols j no_symbol) (symbol after c) m) x
        (subst⁻¹ (λ (w : Symbol). SelectorIs w (symbol after c) k) e
        (subst⁻¹ (λ (d : Symbol). SelectorIs (selector_symbol k) d k) (ap (symbol after) (sym q) ∙ ctor_is) (refl, refl, l, refl)))
    new_selector j c i (nothing_at e) h = absurd (selector_function c i (sym h ∙ e))

    new_own_tester : (j : ℕ) → NewAt j → (get_or new_symbols j no_symbol).role ≡ Constructor → (symbol after (length cx.symbols + j + 1)).role ≡ Tester (length cx.symbols + j)
    unfolding selector_symbol
    new_own_tester j (ctor_at p e) h =
        subst⁻¹ (λ (m : ℕ). (symbol after (length cx.symbols + m + 1)).role ≡ Tester (length cx.symbols + m)) p
        (subst⁻¹ (λ (m : ℕ). (symbol after (m + 1)).role ≡ Tester m) (add-zero (length cx.symbols)) (ap (λ (y : Symbol). y.role) tester_is))
    new_own_tester j (tester_at p e) h = absurd (constructor_tester (length cx.symbols) (sym (role_at j (record { role = Tester (length cx.symbols); params = dt ∷ []; result = 0 }) Constructor e h)))
    new_own_tester j (selector_at k p l e) h = absurd (constructor_selector (length cx.symbols) k (sym (role_at j (selector_symbol k) Constructor e h)))
    new_own_tester j (nothing_at e) h = absurd (constructor_function (sym h ∙ e))

    new_own_selector : (j i : ℕ) → NewAt j → (get_or new_symbols j no_symbol).role ≡ Constructor → i < length (get_or new_symbols j no_symbol).params → (symbol after (length cx.symbols + j + 2 + i)).role ≡ Selector (length cx.symbols + j) i
    unfolding selector_symbol
    new_own_selector j i (ctor_at p e) h l =
        subst⁻¹ (λ (m : ℕ). (symbol after (length cx.symbols + m + 2 + i)).role ≡ Selector (length cx.symbols + m) i) p
        (subst⁻¹ (λ (m : ℕ). (symbol after (m + 2 + i)).role ≡ Selector m i) (add-zero (length cx.symbols))
        (ap (λ (y : Symbol). y.role) (selector_is i (subst (λ (y : Symbol). i < length y.params) e l))))
    new_own_selector j i (tester_at p e) h l = absurd (constructor_tester (length cx.symbols) (sym (role_at j (record { role = Tester (length cx.symbols); params = dt ∷ []; result = 0 }) Constructor e h)))
    new_own_selector j i (selector_at k p m e) h l = absurd (constructor_selector (length cx.symbols) k (sym (role_at j (selector_symbol k) Constructor e h)))
    new_own_selector j i (nothing_at e) h l = absurd (constructor_function (sym h ∙ e))

    new_block : Block cx new_symbols
    new_block = record {
      datatype = λ j h. new_datatype j (new_at j) h;
      tester = λ j c h. new_tester j c (new_at j) h;
      selector = λ j c i h. new_selector j c i (new_at j) h;
      own_tester = λ j h. new_own_tester j (new_at j) h;
      own_selector = λ j i h l. new_own_selector j i (new_at j) h l;
    }

    pub ctor_signed : Signed cx → Signed (dt_add_constructor cx dt fields)
    unfolding dt_add_constructor new_symbols
    ctor_signed S = symbols_signed cx new_symbols S new_block
