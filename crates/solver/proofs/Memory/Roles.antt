-- The kind of a term's mark, and the applications of the definition: a term is an equation or an application of a symbol, whose role
-- gives both. What is known of a kind follows case by case.
use Rattle.shinri_core.proofs.Kit.{ℕ, zero, suc, ◌*◌, ◌≤◌, ◌<◌, ◌≡◌, refl, sym, ap, ◌∙◌, subst, Bool, true, false, cond, true≢false, List, [], ◌∷◌, map, none, some, ◌⊎◌, inl, inr, arith, length, nil≢cons, tail-eq_of_cons-eq}
use Rattle.shinri_core.specs.Sort.{is_datatype}
use Rattle.shinri_core.specs.Term as Term
use Rattle.shinri_core.specs.Term.{Term, Role, Constructor, Tester, Selector, Function, Op, Eq}
use Rattle.shinri_core.specs.Context.{Context, symbol, term, children, sort_node, is_datatype_sort, sort_of, result_of, ctor_app, ctor_by_op, ctor_by_role, sel_app, sel_by_op, sel_by_role, tester_app, tester_by_op, tester_by_role}
use Rattle.shinri_core.specs.Formed.{Formed, Signed, Extends, grown, Agrees}
use Rattle.shinri_core.specs.Memory.Words.{at}
use Rattle.shinri_core.specs.Memory.Table.{context}
use Rattle.shinri_core.specs.Memory.Codes.{op_meaning, role_meaning, OpAt, RoleAt}
use Rattle.shinri_core.specs.declared.ids.SymbolId.{SymbolId}
use Rattle.shinri_core.specs.declared.term.Op as FoundOp
use Rattle.shinri_core.specs.declared.term.DtRole as DtRole
use Rattle.shinri_core.proofs.Lists.{T_true}
use Rattle.solver.specs.Records.{is_some, relevant}
use Rattle.solver.specs.Memory.Table.{is_set, role_kind, op_kind, term_kind, watched_kind, MarksAre}
use Rattle.solver.proofs.Terms.{extends_term}
use Rattle.solver.proofs.Apps.{app_within}

-- ---- kinds told apart

sel_range : (b : Bool) → (2 ≤ cond b 3 2) × (cond b 3 2 ≤ 3)
sel_range true = (omega arith, omega arith)
sel_range false = (omega arith, omega arith)

fun_range : (b : Bool) → ◌≡◌ {A = ℕ} (cond b 5 0) (5 * cond b 1 0) × (cond b 1 0 ≤ 1)
fun_range true = (refl, omega arith)
fun_range false = (refl, omega arith)

module _ (cx : Context) where
  -- ---- a term by its symbol and the symbol's role

  pub data Seen (t : ℕ) : Type 0 where
    equation : (term cx t).op ≡ Eq → Seen t
    constructor_app : (f : ℕ) → (term cx t).op ≡ Term.Uninterpreted f → (symbol cx f).role ≡ Constructor → Seen t
    tester_of : (f c : ℕ) → (term cx t).op ≡ Term.Uninterpreted f → (symbol cx f).role ≡ Tester c → Seen t
    selector_of : (f c i : ℕ) → (term cx t).op ≡ Term.Uninterpreted f → (symbol cx f).role ≡ Selector c i → Seen t
    function_app : (f : ℕ) → (term cx t).op ≡ Term.Uninterpreted f → (symbol cx f).role ≡ Function → Seen t

  pub see : (t : ℕ) → Seen t
  see t = by_op (term cx t).op refl
    where
      by_role : (f : ℕ) (ρ : Role) → (term cx t).op ≡ Term.Uninterpreted f → (symbol cx f).role ≡ ρ → Seen t
      by_role f Constructor p q = constructor_app f p q
      by_role f (Tester c) p q = tester_of f c p q
      by_role f (Selector c i) p q = selector_of f c i p q
      by_role f Function p q = function_app f p q

      by_op : (o : Op) → (term cx t).op ≡ o → Seen t
      by_op Eq p = equation p
      by_op (Term.Uninterpreted f) p = by_role f (symbol cx f).role p refl

  -- ---- what an application of a known role is

  abbrev field_test : ℕ → Bool
  field_test f = is_datatype_sort cx (symbol cx f).result

  module _ (t f : ℕ) (p : (term cx t).op ≡ Term.Uninterpreted f) where
    pub kind_by_role : (ρ : Role) → (symbol cx f).role ≡ ρ → term_kind cx t ≡ role_kind ρ (field_test f)
    unfolding term_kind op_kind
    kind_by_role ρ q = rw (p, q)

    ctor_app_by : (ρ : Role) → (symbol cx f).role ≡ ρ → ctor_app cx t ≡ ctor_by_role t f ρ (children cx t)
    unfolding ctor_app ctor_by_op
    ctor_app_by ρ q = rw (p, q)

    sel_app_by : (ρ : Role) → (symbol cx f).role ≡ ρ → sel_app cx t ≡ sel_by_role t f ρ (children cx t)
    unfolding sel_app sel_by_op
    sel_app_by ρ q = rw (p, q)

    tester_app_by : (ρ : Role) → (symbol cx f).role ≡ ρ → tester_app cx t ≡ tester_by_role t f ρ (children cx t)
    unfolding tester_app tester_by_op
    tester_app_by ρ q = rw (p, q)

    pub sort_by_symbol : sort_of cx t ≡ (symbol cx f).result
    unfolding sort_of result_of
    sort_by_symbol = rw p

    pub ctor_kind : (symbol cx f).role ≡ Constructor → term_kind cx t ≡ 1
    unfolding role_kind
    ctor_kind q = kind_by_role Constructor q

    pub sel_kind : (c i : ℕ) → (symbol cx f).role ≡ Selector c i → term_kind cx t ≡ cond (field_test f) 3 2
    unfolding role_kind
    sel_kind c i q = kind_by_role (Selector c i) q

    pub tester_kind : (c : ℕ) → (symbol cx f).role ≡ Tester c → term_kind cx t ≡ 4
    unfolding role_kind
    tester_kind c q = kind_by_role (Tester c) q

    pub function_kind : (symbol cx f).role ≡ Function → term_kind cx t ≡ cond (field_test f) 5 0
    unfolding role_kind
    function_kind q = kind_by_role Function q

  pub equation_kind : (t : ℕ) → (term cx t).op ≡ Eq → term_kind cx t ≡ 0
  unfolding term_kind op_kind
  equation_kind t p = rw p

  -- ---- constructor applications

  abbrev pub CtorAt : ℕ → Type 0
  CtorAt t =
      (f : ℕ)
      × ((term cx t).op ≡ Term.Uninterpreted f)
      × ((symbol cx f).role ≡ Constructor)
      × (ctor_app cx t ≡ some (record { app = t; ctor = f; fields = children cx t }))

  pub kind_ctor : (t : ℕ) → term_kind cx t ≡ 1 → CtorAt t
  unfolding ctor_by_role
  kind_ctor t e = go (see t)
    where
      go : Seen t → CtorAt t
      go (equation p) = absurd (omega (arith, equation_kind t p))
      go (constructor_app f p q) = (f, p, q, ctor_app_by t f p Constructor q)
      go (tester_of f c p q) = absurd (omega (arith, tester_kind t f p c q))
      go (selector_of f c i p q) = absurd (omega (arith, sel_kind t f p c i q, sel_range (field_test f)))
      go (function_app f p q) = absurd (omega (arith, function_kind t f p q, fun_range (field_test f)))

  pub kind_no_ctor : (t : ℕ) → (term_kind cx t ≡ 1 → ⊥) → ctor_app cx t ≡ none
  unfolding ctor_app ctor_by_op ctor_by_role
  kind_no_ctor t n = go (see t)
    where
      go : Seen t → ctor_app cx t ≡ none
      go (equation p) = rw p
      go (constructor_app f p q) = absurd (n (ctor_kind t f p q))
      go (tester_of f c p q) = ctor_app_by t f p (Tester c) q
      go (selector_of f c i p q) = ctor_app_by t f p (Selector c i) q
      go (function_app f p q) = ctor_app_by t f p Function q

  -- ---- numbers that are no terms

  pub kind_within : (t : ℕ) → is_set (term_kind cx t) ≡ true → t < length cx.terms
  unfolding is_set
  kind_within t e = go (see t)
    where
      go : Seen t → t < length cx.terms
      go (equation p) = absurd (true≢false (sym e ∙ ap is_set (equation_kind t p)))
      go (constructor_app f p q) = app_within cx t f p
      go (tester_of f c p q) = app_within cx t f p
      go (selector_of f c i p q) = app_within cx t f p
      go (function_app f p q) = app_within cx t f p

  -- ---- with a formed table and signature

  module _ (F : Formed cx) (Z : Signed cx) where
    -- a symbol with one parameter has one argument
    one_arg : (t f s : ℕ) → (term cx t).op ≡ Term.Uninterpreted f → (symbol cx f).params ≡ s ∷ [] → (a : ℕ) × (children cx t ≡ a ∷ [])
    one_arg t f s p q =
        go (children cx t) refl (subst (λ (o : Op). Agrees cx o (children cx t)) p (F.agrees t (app_within cx t f p)) ∙ q)
      where
        go : (as' : List ℕ) → children cx t ≡ as' → map (sort_of cx) as' ≡ s ∷ [] → (a : ℕ) × (children cx t ≡ a ∷ [])
        go [] e h = absurd (nil≢cons h)
        go (a ∷ []) e h = (a, e)
        go (a ∷ b ∷ bs) e h = absurd (nil≢cons (sym (tail-eq_of_cons-eq h)))

    -- ---- selector applications

    abbrev pub SelAt : ℕ → Type 0
    SelAt t =
        (f : ℕ) × (c : ℕ) × (i : ℕ) × (a : ℕ)
        × ((term cx t).op ≡ Term.Uninterpreted f)
        × ((symbol cx f).role ≡ Selector c i)
        × (children cx t ≡ a ∷ [])
        × (sel_app cx t ≡ some (record { app = t; selector = f; ctor = c; index = i; arg = a }))

    sel_at : (t f c i : ℕ) → (term cx t).op ≡ Term.Uninterpreted f → (symbol cx f).role ≡ Selector c i → SelAt t
    unfolding sel_by_role
    sel_at t f c i p q =
        let (a, e) = one_arg t f (symbol cx c).result p (Z.selector f c i q).1 in
        (f, c, i, a, p, q, e, sel_app_by t f p (Selector c i) q ∙ ap (sel_by_role t f (Selector c i)) e)

    pub kind_no_sel : (t : ℕ) → (term_kind cx t ≡ 2 → ⊥) → (term_kind cx t ≡ 3 → ⊥) → sel_app cx t ≡ none
    unfolding sel_app sel_by_op sel_by_role
    kind_no_sel t m n = go (see t)
      where
        go : Seen t → sel_app cx t ≡ none
        go (equation p) = rw p
        go (constructor_app f p q) = sel_app_by t f p Constructor q
        go (tester_of f c p q) = sel_app_by t f p (Tester c) q
        go (selector_of f c i p q) = absurd (omega (arith, sel_kind t f p c i q, sel_range (field_test f), m, n))
        go (function_app f p q) = sel_app_by t f p Function q

    -- ---- tester applications

    abbrev pub TesterAt : ℕ → Type 0
    TesterAt t =
        (f : ℕ) × (c : ℕ) × (a : ℕ)
        × ((term cx t).op ≡ Term.Uninterpreted f)
        × ((symbol cx f).role ≡ Tester c)
        × (children cx t ≡ a ∷ [])
        × (tester_app cx t ≡ some (record { app = t; tester = f; ctor = c; arg = a }))

    tester_at : (t f c : ℕ) → (term cx t).op ≡ Term.Uninterpreted f → (symbol cx f).role ≡ Tester c → TesterAt t
    unfolding tester_by_role
    tester_at t f c p q =
        let (a, e) = one_arg t f (symbol cx c).result p (Z.tester f c q).1 in
        (f, c, a, p, q, e, tester_app_by t f p (Tester c) q ∙ ap (tester_by_role t f (Tester c)) e)

    pub kind_tester : (t : ℕ) → term_kind cx t ≡ 4 → TesterAt t
    kind_tester t e = go (see t)
      where
        go : Seen t → TesterAt t
        go (equation p) = absurd (omega (arith, equation_kind t p))
        go (constructor_app f p q) = absurd (omega (arith, ctor_kind t f p q))
        go (tester_of f c p q) = tester_at t f c p q
        go (selector_of f c i p q) = absurd (omega (arith, sel_kind t f p c i q, sel_range (field_test f)))
        go (function_app f p q) = absurd (omega (arith, function_kind t f p q, fun_range (field_test f)))

    pub kind_no_tester : (t : ℕ) → (term_kind cx t ≡ 4 → ⊥) → tester_app cx t ≡ none
    unfolding tester_app tester_by_op tester_by_role
    kind_no_tester t n = go (see t)
      where
        go : Seen t → tester_app cx t ≡ none
        go (equation p) = rw p
        go (constructor_app f p q) = tester_app_by t f p Constructor q
        go (tester_of f c p q) = absurd (n (tester_kind t f p c q))
        go (selector_of f c i p q) = tester_app_by t f p (Selector c i) q
        go (function_app f p q) = tester_app_by t f p Function q

    -- ---- datatype terms

    bool_sort : is_datatype_sort cx 0 ≡ false
    unfolding is_datatype_sort is_datatype
    bool_sort = ap is_datatype Z.bool

    pub kind_watched : (t : ℕ) → is_datatype_sort cx (sort_of cx t) ≡ watched_kind (term_kind cx t)
    unfolding watched_kind sort_of result_of
    kind_watched t = go (see t)
      where
        sel : (b : Bool) → b ≡ watched_kind (cond b 3 2)
        sel true = refl
        sel false = refl

        fun : (b : Bool) → b ≡ watched_kind (cond b 5 0)
        fun true = refl
        fun false = refl

        go : Seen t → is_datatype_sort cx (sort_of cx t) ≡ watched_kind (term_kind cx t)
        go (equation p) = rw (equation_kind t p, p) bool_sort
        go (constructor_app f p q) = rw (ctor_kind t f p q, p) (T_true (field_test f) (Z.datatype f q))
        go (tester_of f c p q) = rw (tester_kind t f p c q, p, (Z.tester f c q).2) bool_sort
        go (selector_of f c i p q) = rw (sel_kind t f p c i q, p) (sel (field_test f))
        go (function_app f p q) = rw (function_kind t f p q, p) (fun (field_test f))

    -- ---- what is to be marked

    pub kind_relevant : (t : ℕ) → relevant cx t ≡ is_set (term_kind cx t)
    unfolding relevant is_some is_set ctor_app ctor_by_op ctor_by_role sel_app sel_by_op sel_by_role tester_app tester_by_op tester_by_role sort_of result_of
    kind_relevant t = go (see t)
      where
        sel : (b : Bool) → true ≡ is_set (cond b 3 2)
        sel true = refl
        sel false = refl

        fun : (b : Bool) → b ≡ is_set (cond b 5 0)
        fun true = refl
        fun false = refl

        go : Seen t → relevant cx t ≡ is_set (term_kind cx t)
        go (equation p) = rw (equation_kind t p, p) bool_sort
        go (constructor_app f p q) = rw (ctor_kind t f p q, p, q)
        go (tester_of f c p q) =
            let (f', c', a, p', q', e, r) = tester_at t f c p q in
            rw (tester_kind t f p c q, p, q, e)
        go (selector_of f c i p q) =
            let (f', c', i', a, p', q', e, r) = sel_at t f c i p q in
            rw (sel_kind t f p c i q, p, q, e) (sel (field_test f))
        go (function_app f p q) = rw (function_kind t f p q, p, q) (fun (field_test f))

-- ---- a table that grows

op_kind_grown : (cx : Context) (new : List Term) (o : Op) → op_kind (grown cx new) o ≡ op_kind cx o
unfolding op_kind symbol is_datatype_sort sort_node
op_kind_grown cx new Eq = refl
op_kind_grown cx new (Term.Uninterpreted f) = refl

pub kind_kept : (a b : Context) (t : ℕ) → Extends a b → t < length a.terms → term_kind b t ≡ term_kind a t
unfolding term_kind
kind_kept a b t (new, e) l =
    ap (λ (x : Term). op_kind b x.op) (extends_term a b t (new, e) l)
    ∙ ap (λ (z : Context). op_kind z (term a t).op) e
    ∙ op_kind_grown a new (term a t).op

pub kind_stays : (a b : Context) (t : ℕ) → Extends a b → is_set (term_kind a t) ≡ true → term_kind b t ≡ term_kind a t
kind_stays a b t e s = kind_kept a b t e (kind_within a t s)

-- a region of marks still has the right ones
pub marks_kept : (a b : Context) (t : List ℕ) (r : ℕ) → Extends a b → MarksAre a t r → MarksAre b t r
unfolding is_set
marks_kept a b t r e h x l = go (h x l)
  where
    known : (k : ℕ) → term_kind a x ≡ k → at t r x ≡ k → (at t r x ≡ 0) ⊎ (at t r x ≡ term_kind b x)
    known zero p q = inl q
    known (suc k) p q = inr (q ∙ sym p ∙ sym (kind_stays a b x e (ap is_set p)))

    go : (at t r x ≡ 0) ⊎ (at t r x ≡ term_kind a x) → (at t r x ≡ 0) ⊎ (at t r x ≡ term_kind b x)
    go (inl q) = inl q
    go (inr q) = known (term_kind a x) refl q

-- ---- what the code finds

module _ (t : List ℕ) where
  -- a symbol's kind by the role that was found, and by the test of its result sort
  abbrev symbol_kind : ℕ → ℕ
  symbol_kind f = role_kind (symbol (context t) f).role (is_datatype_sort (context t) (symbol (context t) f).result)

  found_role : (f : ℕ) (r : DtRole.DtRole) (ρ : Role) → RoleAt t f r → role_meaning r ≡ ρ →
      role_kind ρ (is_datatype_sort (context t) (symbol (context t) f).result) ≡ symbol_kind f
  found_role f r ρ o e = rw (sym e ∙ o.is)

  tested_role : (f : ℕ) (r : DtRole.DtRole) (ρ : Role) (s : ℕ) (b d : Bool) → RoleAt t f r → role_meaning r ≡ ρ →
      s ≡ (symbol (context t) f).result → b ≡ is_datatype_sort (context t) s → b ≡ d → role_kind ρ d ≡ symbol_kind f
  tested_role f r ρ s b d o e p q h = rw (sym h ∙ q ∙ ap (is_datatype_sort (context t)) p) (found_role f r ρ o e)

  pub found_ctor : (f : ℕ) (r : DtRole.DtRole) → RoleAt t f r → r ≡ DtRole.TheVariants.Constructor → 1 ≡ symbol_kind f
  unfolding role_kind role_meaning
  found_ctor f r o e = found_role f r Constructor o (ap role_meaning e)

  pub found_tester : (f : ℕ) (r : DtRole.DtRole) (c : SymbolId) → RoleAt t f r → r ≡ DtRole.TheVariants.Tester c → 4 ≡ symbol_kind f
  unfolding role_kind role_meaning
  found_tester f r c o e = found_role f r (Tester c.0) o (ap role_meaning e)

  pub found_datatype_selector : (f : ℕ) (r : DtRole.DtRole) (c : SymbolId) (i s : ℕ) (b : Bool) → RoleAt t f r →
      r ≡ DtRole.TheVariants.Selector c i → s ≡ (symbol (context t) f).result → b ≡ is_datatype_sort (context t) s → b ≡ true →
      3 ≡ symbol_kind f
  unfolding role_kind role_meaning
  found_datatype_selector f r c i s b o e p q h = tested_role f r (Selector c.0 i) s b true o (ap role_meaning e) p q h

  pub found_selector : (f : ℕ) (r : DtRole.DtRole) (c : SymbolId) (i s : ℕ) (b : Bool) → RoleAt t f r →
      r ≡ DtRole.TheVariants.Selector c i → s ≡ (symbol (context t) f).result → b ≡ is_datatype_sort (context t) s → b ≡ false →
      2 ≡ symbol_kind f
  unfolding role_kind role_meaning
  found_selector f r c i s b o e p q h = tested_role f r (Selector c.0 i) s b false o (ap role_meaning e) p q h

  pub found_datatype_function : (f : ℕ) (r : DtRole.DtRole) (s : ℕ) (b : Bool) → RoleAt t f r → r ≡ DtRole.TheVariants.Function →
      s ≡ (symbol (context t) f).result → b ≡ is_datatype_sort (context t) s → b ≡ true → 5 ≡ symbol_kind f
  unfolding role_kind role_meaning
  found_datatype_function f r s b o e p q h = tested_role f r Function s b true o (ap role_meaning e) p q h

  pub found_function : (f : ℕ) (r : DtRole.DtRole) (s : ℕ) (b : Bool) → RoleAt t f r → r ≡ DtRole.TheVariants.Function →
      s ≡ (symbol (context t) f).result → b ≡ is_datatype_sort (context t) s → b ≡ false → 0 ≡ symbol_kind f
  unfolding role_kind role_meaning
  found_function f r s b o e p q h = tested_role f r Function s b false o (ap role_meaning e) p q h

  -- a term's kind by the operation that was found
  pub found_equation : (x : ℕ) (r : FoundOp.Op) → OpAt t x r → r ≡ FoundOp.TheVariants.Eq → 0 ≡ term_kind (context t) x
  unfolding term_kind op_kind op_meaning
  found_equation x r o e = ap (op_kind (context t)) (sym (ap op_meaning e) ∙ o.is)

  pub found_symbol : (x : ℕ) (r : FoundOp.Op) (f : SymbolId) (k : ℕ) → OpAt t x r → r ≡ FoundOp.TheVariants.Uninterpreted f →
      k ≡ role_kind (symbol (context t) f.0).role (is_datatype_sort (context t) (symbol (context t) f.0).result) →
      k ≡ term_kind (context t) x
  unfolding term_kind op_kind op_meaning
  found_symbol x r f k o e p = p ∙ ap (op_kind (context t)) (sym (ap op_meaning e) ∙ o.is)
