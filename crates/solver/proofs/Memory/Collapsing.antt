-- Collapse and the tester lemma: a term is made for a marked application of the constructor and equated or handed out.
use Rattle.shinri_core.proofs.Kit.{ℕ, zero, suc, ◌-◌, ◌≤◌, ◌<◌, ◌≡◌, refl, sym, ap, ◌∙◌, subst, subst⁻¹, inl, inr, Bool, true, cond, List, [], ◌∷◌, none, some, Option, arith, eqb, eq-eqb, ne_eqb, ◌&&◌, ap₂, map, nil≢cons, tail-eq_of_cons-eq, length, get_or, length-map, ◌⊎◌}
use lib.ListN.{get_elem?}
use Rattle.shinri_core.specs.Limits.{max_terms, max_params}
use Rattle.shinri_core.specs.Lists.{In}
use Rattle.shinri_core.specs.Context.{Context, CtorApp, SelApp, ctor_app, sel_app, sel_by_op, sel_by_role, symbol, term, children, sort_of}
use Rattle.shinri_core.specs.Formed.{Agrees, Formed}
use Rattle.shinri_core.specs.Memory.Words.{at}
use Rattle.shinri_core.specs.Term as Term
use Rattle.shinri_core.specs.Term.{Term, Symbol, Eq, Selector}
use Rattle.shinri_core.specs.Memory.Table.{ARITY, context}
use Rattle.shinri_core.specs.Memory.Codes.{op_meaning, role_meaning, OpAt, RoleAt, MkApp}
use Rattle.shinri_core.specs.declared.ids.SymbolId.{SymbolId}
use Rattle.shinri_core.specs.declared.term.Op as Op
use Rattle.shinri_core.specs.declared.term.DtRole as DtRole
use Rattle.shinri_core.specs.declared.ids.TermId.{TermId}
use Rattle.shinri_core.proofs.Lists.{and_no}
use Rattle.shinri_core.proofs.Memory.Views.{arity_at}
use Rattle.theory.specs.EqEngine.{Merge, classes, find, are_equal}
use Rattle.theory.specs.Memory.Table.{merges}
use Rattle.theory.specs.Memory.Answer.{answer_size}
use Rattle.solver.specs.State.{State, MadeIn, with_terms, ctor_apps, equal, made_in, make_app, sel_apps}
use Rattle.solver.specs.Rules.{Ruled, pass, hand_out_made, make_eq, equate_field, collapse_field, collapse_at, collapse_lemma}
use Rattle.solver.specs.declared.answer.TCheck as TCheck
use Rattle.std.specs.Prelude.{None, Ok, Err}
use Rattle.solver.specs.Memory.Table.{state_with, term_kind}
use Rattle.solver.specs.Memory.Work.{state_at, CheckSound, W_MARK}
use Rattle.solver.specs.Memory.Answer.{Outcome, Tried, listed, guard_meaning, RuleAnswer}
use Rattle.solver.specs.Memory.Making.{Making, Makeable, Equatable, MadeOutcome, MadeWithin, MakesTerm, HandsOut, Made}
use Rattle.solver.specs.Memory.Checks.{Underway}
use Rattle.solver.specs.Memory.Collapse.{when, by_apps, at_made, selection, FieldEquatable, Collapsible, SelectorOn, if_marked}
use Rattle.solver.proofs.Terms.{app, extends_self, extends_then, extends_length, extends_symbol, extends_sort_of, mk_app_makes}
use Rattle.solver.proofs.Signature.{constructor_function, selector_function, declared_role}
use Rattle.solver.proofs.Apps.{op_is, ctor_app_is, app_within}
use Rattle.solver.proofs.Memory.Roles.{sort_by_symbol, kind_no_sel}
use Rattle.solver.proofs.Memory.Growing.{made_app, made_eq, only_below}
use Rattle.solver.proofs.Memory.Unfitting.{Onward, onward_unfit, hand_out_made_onward, equate_field_onward}
use Rattle.solver.proofs.Memory.Trying.{tried_as, tried_pass, try_same}
use Rattle.solver.proofs.Memory.Chains.{PassesOthers, Walking, walk_at, walk_app, by_terms, term_passes, term_tried}

-- ---- a term made, and what is done with it

module _ {make : State → MadeIn} {P : Type 0} {c e s w : List ℕ} {c' : List ℕ} where
  -- it does not fit
  pub made_none : (rest : MadeIn → Ruled) → {r : Made} {o : List ℕ} → MakesTerm make P c e w r c' w → r ≡ Err (record {}) →
      CheckSound c e s w → ((m : MadeIn) → Onward m.state (rest m).state) →
      Tried (λ S. rest (make S)) c e s w (Err (record {})) c' s w o
  made_none rest M q C h = record {
    sound = M.sound s C;
    extends = M.extends;
    outcome = λ lv.
        onward_unfit (make (state_at c e s w lv)).state (rest (make (state_at c e s w lv))).state (h (make (state_at c e s w lv)))
        (subst (λ (z : Made). MadeOutcome z (make (state_at c e s w lv)) (state_at c' e s w lv)) q (M.outcome s lv));
    unchanged = λ n. refl;
    readable = tt;
  }

  -- it is x
  pub made_some : (rest : MadeIn → Ruled) → {m : Made} {x : TermId} {r : RuleAnswer} {c'' s' o : List ℕ} →
      MakesTerm make P c e w m c' w → m ≡ Ok x →
      Tried (λ S. rest (at_made x.0 S)) c' e s w r c'' s' w o → Tried (λ S. rest (make S)) c e s w r c'' s' w o
  made_some rest {m} {x} {r} {c''} {s'} {o} M q T = record {
    sound = T.sound;
    extends = extends_then (context c) (context c') (context c'') M.extends T.extends;
    outcome = λ lv.
        subst⁻¹ (λ (z : MadeIn). Outcome r (rest z) (state_at c'' e s' w lv) o)
        (subst (λ (z : Made). MadeOutcome z (make (state_at c e s w lv)) (state_at c' e s w lv)) q (M.outcome s lv))
        (T.outcome lv);
    unchanged = T.unchanged;
    readable = T.readable;
  }

-- a lemma without a guard is handed out
pub handed : {c e s w : List ℕ} {x : ℕ} {r : TCheck.TCheck} {s' o : List ℕ} → CheckSound c e s w →
    HandsOut x None s r s' o → Tried (λ S. hand_out_made (at_made x S) []) c e s w (Ok r) c s' w o
unfolding hand_out_made listed guard_meaning
handed {c} {e} {s} {w} {x} {r} {s'} {o} C H = record {
  sound = H.sound c e w C;
  extends = extends_self (context c);
  outcome = λ lv. H.outcome c e w lv;
  unchanged = λ q. H.unchanged (λ d. q (ap Ok d));
  readable = H.readable;
}

-- what a check knows of the tables in which terms are made
pub making_of : {c e s w : List ℕ} → CheckSound c e s w → Making c e w
making_of C = record {
  core = C.state.core;
  formed = C.state.formed;
  signed = C.state.signed;
  engine = C.state.engine;
  work = C.work;
}

-- ---- equating a field

module _ {c e s w : List ℕ} {x y : ℕ} {o : List ℕ} (F : FieldEquatable c e s w x y o) where
  pub equatable : Equatable c e w x y
  equatable = record { making = making_of F.check; first = F.first; second = F.second; agree = F.agree }

  -- the two are equal now
  pub field_equal : {q p : ℕ} {o' : List ℕ} → q ≡ find (merges e) x → p ≡ find (merges e) y → q ≡ p →
      Tried (λ S. equate_field y (at_made x S)) c e s w (Ok TCheck.TheVariants.Sat) c s w o'
  unfolding equate_field equal state_with are_equal find
  field_equal {q} {p} h g z = record {
    sound = F.check;
    extends = extends_self (context c);
    outcome = λ lv.
        ap (λ (b : Bool). cond b (pass (state_at c e s w lv)) (hand_out_made (make_eq (state_at c e s w lv) x y) []))
        (eq-eqb ((classes (merges e)).find x) ((classes (merges e)).find y) (sym h ∙ z ∙ g));
    unchanged = λ n. refl;
    readable = tt;
  }

  -- they are not: the equation is made
  module _ {q p : ℕ} (h : q ≡ find (merges e) x) (g : p ≡ find (merges e) y) (n : q ≡ p → ⊥) where
    field_apart : (lv : ℕ → ℕ) →
        equate_field y (at_made x (state_at c e s w lv)) ≡ hand_out_made (make_eq (state_at c e s w lv) x y) []
    unfolding equate_field equal state_with are_equal find
    field_apart lv =
        ap (λ (b : Bool). cond b (pass (state_at c e s w lv)) (hand_out_made (make_eq (state_at c e s w lv) x y) []))
        (ne_eqb ((classes (merges e)).find x) ((classes (merges e)).find y) (λ z. n (h ∙ z ∙ sym g)))

    pub field_none : {m : Made} {c' o' : List ℕ} → MkApp c Eq (x ∷ y ∷ []) m c' → m ≡ Err (record {}) →
        Tried (λ S. equate_field y (at_made x S)) c e s w (Err (record {})) c' s w o'
    field_none K z =
        tried_as (made_none (λ m. hand_out_made m []) (made_eq equatable K) z F.check (λ m. hand_out_made_onward m [])) field_apart

    pub field_some : {m : Made} {z : TermId} {c' s' o' : List ℕ} {r : TCheck.TCheck} → MkApp c Eq (x ∷ y ∷ []) m c' →
        m ≡ Ok z → HandsOut z.0 None s r s' o' →
        Tried (λ S. equate_field y (at_made x S)) c e s w (Ok r) c' s' w o'
    field_some K q H =
        let M = made_eq equatable K in
        tried_as (made_some (λ m. hand_out_made m []) M q (handed (M.sound s F.check) H)) field_apart

  -- what was made is a node
  pub field_node : {m : Made} {z : TermId} {c' : List ℕ} → MkApp c Eq (x ∷ y ∷ []) m c' → m ≡ Ok z →
      z.0 < max_terms
  field_node {m} {z} {c'} K q =
      let l = subst (λ (a : Made). MadeWithin a (length (context c').terms)) q (made_eq equatable K).within in
      omega (arith, K.sound.term_count, K.sound.terms_fit)

-- ---- an application of the constructor

-- the made term is the application
pub made_is : {c e w : List ℕ} {f : ℕ} {args : List ℕ} {P : Type 0} {m : Made} {x : TermId} {c' : List ℕ} →
    MakesTerm (λ S. make_app S f args) P c e w m c' w → m ≡ Ok x →
    term (context c') x.0 ≡ app (Term.Uninterpreted f) args
unfolding make_app made_in with_terms state_with
made_is {c} {e} {w} {f} {args} {c' = c'} M q =
    ap (λ (z : MadeIn). term z.state.terms z.id)
    (sym (subst (λ (z : Made). MadeOutcome z (make_app (state_at c e [] w (λ i. 0)) f args) (state_at c' e [] w (λ i. 0))) q
    (M.outcome [] (λ i. 0))))
    ∙ (mk_app_makes (context c) (Term.Uninterpreted f) args).made

-- element i of a list that is long enough
pub element_here : (xs : List ℕ) (i : ℕ) → i < length xs → get_elem? xs i ≡ some (get_or xs i 0)
element_here [] i h = absurd (omega arith)
element_here (x ∷ xs) zero h = refl
element_here (x ∷ xs) (suc i) h = element_here xs i (omega arith)

map_at : (g : ℕ → ℕ) (xs : List ℕ) (i : ℕ) → i < length xs → get_or (map g xs) i 0 ≡ g (get_or xs i 0)
map_at g [] i h = absurd (omega arith)
map_at g (x ∷ xs) zero h = refl
map_at g (x ∷ xs) (suc i) h = map_at g xs i (omega arith)

element_in : (xs : List ℕ) (i : ℕ) → i < length xs → In (get_or xs i 0) xs
element_in [] i h = absurd (omega arith)
element_in (x ∷ xs) zero h = inl refl
element_in (x ∷ xs) (suc i) h = inr (element_in xs i (omega arith))

-- the code's test of the constructor of an application
module _ (c : List ℕ) {x : ℕ} (a : CtorApp) (A : ctor_app (context c) x ≡ some a) where
  pub app_is_term : x < length (context c).terms
  app_is_term = app_within (context c) x a.ctor (ctor_app_is (context c) x a A).op

  pub no_equation : {r : Op.Op} → OpAt c x r → r ≡ Op.TheVariants.Eq → ⊥
  unfolding op_meaning
  no_equation {r} o q =
      let p : Eq ≡ Term.Uninterpreted a.ctor = sym (ap op_meaning q) ∙ o.is ∙ (ctor_app_is (context c) x a A).op in
      let z : ◌≡◌ {A = ℕ} 0 1 = cc in
      omega arith

  pub its_ctor : {r : Op.Op} {g : SymbolId} → OpAt c x r → r ≡ Op.TheVariants.Uninterpreted g → a.ctor ≡ g.0
  unfolding op_meaning
  its_ctor {r} {g} o q = sym (op_is g.0 a.ctor (sym (ap op_meaning q) ∙ o.is ∙ (ctor_app_is (context c) x a A).op))

module _ {c e s w : List ℕ} {f ctor i x : ℕ} {o : List ℕ} (P : Collapsible c e s w f ctor i x o) where
  abbrev rule_at : ℕ → State → Ruled
  rule_at arg = when (collapse_at (selection f ctor i arg)) (ctor_app (context c) x)

  abbrev Kept-on : ℕ → Type 0
  Kept-on arg = are_equal (merges e) arg x ≡ true

  its_fields : P.a.fields ≡ children (context c) x
  its_fields = sym (ctor_app_is (context c) x P.a P.is_app).args

  -- the number of a selector is small
  pub index_small : i < max_params
  index_small =
      let (r, p, l, q) = P.check.state.signed.selector f ctor i P.role in
      let d = declared_role (context c) ctor (λ h. constructor_function (sym r ∙ h)) in
      let (g, h) = arity_at c ctor (at c ARITY ctor) P.check.state.core d refl in
      omega arith

  -- another constructor
  pub collapse_other : {o' : List ℕ} → (P.a.ctor ≡ ctor → ⊥) → (arg : ℕ) → Kept-on arg →
      Tried (rule_at arg) c e s w (Ok TCheck.TheVariants.Sat) c s w o'
  unfolding when collapse_at
  collapse_other n arg k =
      tried_pass P.check (λ lv.
      ap (λ (z : Option CtorApp). when (collapse_at (selection f ctor i arg)) z (state_at c e s w lv)) P.is_app
      ∙ ap (λ (b : Bool). cond (b && equal (state_at c e s w lv) arg P.a.app)
      (collapse_field (selection f ctor i arg) P.a (state_at c e s w lv) (get_elem? P.a.fields i)) (pass (state_at c e s w lv)))
      (ne_eqb P.a.ctor ctor n))

  module _ (own : P.a.ctor ≡ ctor) where
    sort_here : map (sort_of (context c)) (children (context c) x) ≡ (symbol (context c) ctor).params
    sort_here =
        let C = ctor_app_is (context c) x P.a P.is_app in
        subst (λ (z : ℕ). map (sort_of (context c)) (children (context c) x) ≡ (symbol (context c) z).params) own
        (subst (λ (z : Term.Op). Agrees (context c) z (children (context c) x)) C.op
        (P.check.state.formed.agrees x (app_is_term c P.a P.is_app)))

    pub field_within : i < length (children (context c) x)
    field_within =
        let (r, p, l, q) = P.check.state.signed.selector f ctor i P.role in
        let h = sym (length-map (children (context c) x) (sort_of (context c))) ∙ ap length sort_here in
        omega arith

    pub makeable : Makeable c e w f (x ∷ [])
    makeable =
        let (r, p, l, q) = P.check.state.signed.selector f ctor i P.role in
        let C = ctor_app_is (context c) x P.a P.is_app in
        record {
          making = making_of P.check;
          declared = declared_role (context c) f (λ z. selector_function ctor i (sym P.role ∙ z));
          terms = only_below (length (context c).terms) x (app_is_term c P.a P.is_app);
          agree =
              ap (λ (z : ℕ). z ∷ []) (sort_by_symbol (context c) x P.a.ctor C.op ∙ ap (λ (z : ℕ). (symbol (context c) z).result) own)
              ∙ sym p;
        }

    pub own_rule : (arg : ℕ) → Kept-on arg → (lv : ℕ → ℕ) →
        rule_at arg (state_at c e s w lv)
        ≡ equate_field (get_or (children (context c) x) i 0) (make_app (state_at c e s w lv) f (x ∷ []))
    unfolding when collapse_at collapse_field equal state_with
    own_rule arg k lv =
        let C = ctor_app_is (context c) x P.a P.is_app in
        let S = state_at c e s w lv in
        ap (λ (z : Option CtorApp). when (collapse_at (selection f ctor i arg)) z S) P.is_app
        ∙ ap (λ (b : Bool). cond b (collapse_field (selection f ctor i arg) P.a S (get_elem? P.a.fields i)) (pass S))
        (ap₂ (λ (a b : Bool). a && b) (eq-eqb P.a.ctor ctor own) (ap (are_equal (merges e) arg) C.app ∙ k))
        ∙ ap (λ (as' : List ℕ). collapse_field (selection f ctor i arg) P.a S (get_elem? as' i)) its_fields
        ∙ ap (collapse_field (selection f ctor i arg) P.a S) (element_here (children (context c) x) i field_within)
        ∙ ap (λ (z : ℕ). equate_field (get_or (children (context c) x) i 0) (make_app S f (z ∷ []))) C.app

    module _ {m : Made} {c' : List ℕ} (K : MkApp c (Term.Uninterpreted f) (x ∷ []) m c') where
      pub makes : MakesTerm (λ S. make_app S f (x ∷ [])) (Unit {0}) c e w m c' w
      makes = made_app makeable K

      pub field_equatable : {z : TermId} {y : ℕ} {o' : List ℕ} → m ≡ Ok z → y ≡ get_or (children (context c) x) i 0 →
          answer_size ≤ length o' → FieldEquatable c' e s w z.0 y o'
      field_equatable {z} {y} {o'} q h l =
          let ex = makes.extends in
          let (r, p, g, t) = P.check.state.signed.selector f ctor i P.role in
          let k = element_in (children (context c) x) i field_within in
          let below = P.check.state.formed.lower x (app_is_term c P.a P.is_app) (get_or (children (context c) x) i 0) k in
          let within = app_is_term c P.a P.is_app in
          let longer = extends_length (context c) (context c') ex in
          record {
            check = makes.sound s P.check;
            first = subst (λ (a : Made). MadeWithin a (length (context c').terms)) q makes.within;
            second = omega arith;
            agree =
                sort_by_symbol (context c') z.0 f (ap (λ (a : Term). a.op) (made_is makes q))
                ∙ ap (λ (a : Symbol). a.result) (extends_symbol (context c) (context c') f ex)
                ∙ t
                ∙ ap (λ (as' : List ℕ). get_or as' i 0) (sym sort_here)
                ∙ map_at (sort_of (context c)) (children (context c) x) i field_within
                ∙ ap (sort_of (context c)) (sym h)
                ∙ sym (extends_sort_of (context c) (context c') y ex (omega arith));
            long = l;
          }

      pub collapse_none : {o' : List ℕ} → m ≡ Err (record {}) → (arg : ℕ) → Kept-on arg →
          Tried (rule_at arg) c e s w (Err (record {})) c' s w o'
      collapse_none q arg k =
          tried_as
          (made_none (equate_field (get_or (children (context c) x) i 0)) makes q P.check
          (λ a. equate_field_onward (get_or (children (context c) x) i 0) a))
          (own_rule arg k)

      pub collapse_some : {z : TermId} {y : ℕ} {r : RuleAnswer} {c'' s' o' : List ℕ} → m ≡ Ok z →
          y ≡ get_or (children (context c) x) i 0 → Tried (λ S. equate_field y (at_made z.0 S)) c' e s w r c'' s' w o' →
          (arg : ℕ) → Kept-on arg → Tried (rule_at arg) c e s w r c'' s' w o'
      collapse_some {z} {y} q h T arg k =
          tried_as (made_some (equate_field y) makes q T)
          (λ lv. own_rule arg k lv ∙ ap (λ (n : ℕ). equate_field n (make_app (state_at c e s w lv) f (x ∷ []))) (sym h))

-- ---- collapse along a class

pub collapse_others : (x : SelApp) (ms : List Merge) → PassesOthers (collapse_at x) ms x.arg
unfolding collapse_at equal
collapse_others x ms a S q h =
    ap (λ (b : Bool). cond b (collapse_field x a S (get_elem? a.fields x.index)) (pass S))
    (ap (λ (b : Bool). eqb a.ctor x.ctor && b) (ap (λ (es : List Merge). are_equal es x.arg a.app) q ∙ h)
    ∙ and_no (eqb a.ctor x.ctor))

pub walk_collapsible : {c₀ e s₀ w c s : List ℕ} {f ctor i arg : ℕ} {o₀ o : List ℕ} {k x : ℕ} → SelectorOn c₀ e s₀ w f ctor i arg o₀ →
    Walking (collapse_at (selection f ctor i arg)) c₀ e s₀ w arg c s k → k ≡ suc x → length o ≡ length o₀ →
    Collapsible c e s w f ctor i x o
walk_collapsible {c₀} {c = c} {f = f} P W n l = record {
  check = W.trying.sound;
  role = ap (λ (z : Symbol). z.role) (extends_symbol (context c₀) (context c) f W.trying.extends) ∙ P.role;
  a = (walk_at W n).app;
  is_app = walk_app W n;
  long = let h = P.under.long in omega arith;
}

-- ---- a term that may be a selector application

-- an application of a symbol with one parameter has one argument
pub one_argument : (cx : Context) (x f s : ℕ) → Formed cx → (term cx x).op ≡ Term.Uninterpreted f → (symbol cx f).params ≡ s ∷ [] →
    (a : ℕ) × (children cx x ≡ a ∷ [])
one_argument cx x f s F p q =
    go (children cx x) (subst (λ (z : Term.Op). Agrees cx z (children cx x)) p (F.agrees x (app_within cx x f p)) ∙ q)
  where
    go : (as' : List ℕ) → map (sort_of cx) as' ≡ s ∷ [] → (a : ℕ) × (as' ≡ a ∷ [])
    go [] h = absurd (nil≢cons h)
    go (a ∷ []) h = (a, refl)
    go (a ∷ b ∷ bs) h = absurd (nil≢cons (sym (tail-eq_of_cons-eq h)))

-- what the code finds of a term, by its operation and the role of its symbol
module _ (c : List ℕ) (x : ℕ) {r : Op.Op} (o : OpAt c x r) where
  pub op_equation : r ≡ Op.TheVariants.Eq → (term (context c) x).op ≡ Eq
  unfolding op_meaning
  op_equation q = sym o.is ∙ ap op_meaning q

  pub op_symbol : {f : SymbolId} → r ≡ Op.TheVariants.Uninterpreted f → (term (context c) x).op ≡ Term.Uninterpreted f.0
  unfolding op_meaning
  op_symbol q = sym o.is ∙ ap op_meaning q

module _ {A : Type 0} (rule : A → CtorApp → State → Ruled) {c e s w : List ℕ} where
  pub tried_none : {a : Option A} {o : List ℕ} → CheckSound c e s w → a ≡ none →
      Tried (λ S. when (λ z. by_apps (rule z)) a S) c e s w (Ok TCheck.TheVariants.Sat) c s w o
  unfolding when
  tried_none C q = tried_pass C (λ lv. ap (λ (z : Option A). when (λ y. by_apps (rule y)) z (state_at c e s w lv)) q)

  pub tried_some : {a : Option A} {x : A} {r : RuleAnswer} {c' s' o : List ℕ} → a ≡ some x →
      Tried (by_apps (rule x)) c e s w r c' s' w o → Tried (λ S. when (λ z. by_apps (rule z)) a S) c e s w r c' s' w o
  unfolding when
  tried_some q T = tried_as T (λ lv. ap (λ (z : Option A). when (λ y. by_apps (rule y)) z (state_at c e s w lv)) q)

-- the rule does not ask for the number of the selector application
renumbered : (x f ctor i arg : ℕ) (a : CtorApp) (S : State) →
    collapse_at (record { app = x; selector = f; ctor = ctor; index = i; arg = arg }) a S ≡ collapse_at (selection f ctor i arg) a S
unfolding collapse_at collapse_field
renumbered x f ctor i arg a S =
    ap (λ (z : Ruled). cond (eqb a.ctor ctor && equal S arg a.app) z (pass S)) (go (get_elem? a.fields i))
  where
    go : (o : Option ℕ) →
        collapse_field (record { app = x; selector = f; ctor = ctor; index = i; arg = arg }) a S o
        ≡ collapse_field (selection f ctor i arg) a S o
    go none = refl
    go (some y) = refl

module _ {c e s w : List ℕ} {x : ℕ} {o : List ℕ} (U : Underway c e s w o) where
  pub argument_within : (a : ℕ) → x < length (context c).terms → children (context c) x ≡ a ∷ [] → a < max_terms
  argument_within a l q =
      let z = U.check.state in
      let h = z.formed.lower x l a (subst⁻¹ (λ (as' : List ℕ). In a as') q (inl refl)) in
      omega (arith, z.core.term_count, z.core.terms_fit)

  pub sel_equation : {r : Op.Op} → OpAt c x r → r ≡ Op.TheVariants.Eq → sel_app (context c) x ≡ none
  unfolding sel_app sel_by_op
  sel_equation p q = rw (op_equation c x p q)

  module _
      {r : Op.Op} {f : SymbolId} {d : DtRole.DtRole} (p : OpAt c x r) (q : r ≡ Op.TheVariants.Uninterpreted f) (ρ : RoleAt c f.0 d)
    where
      sel_by : sel_app (context c) x ≡ sel_by_role x f.0 (role_meaning d) (children (context c) x)
      unfolding sel_app sel_by_op
      sel_by = rw (op_symbol c x p q, sym ρ.is)

      pub sel_none : ((g : SymbolId) (i : ℕ) → d ≡ DtRole.TheVariants.Selector g i → ⊥) → sel_app (context c) x ≡ none
      unfolding role_meaning sel_by_role
      sel_none k = sel_by ∙ go d k
        where
          go : (z : DtRole.DtRole) → ((g : SymbolId) (i : ℕ) → z ≡ DtRole.TheVariants.Selector g i → ⊥) →
              sel_by_role x f.0 (role_meaning z) (children (context c) x) ≡ none
          go DtRole.TheVariants.Constructor h = refl
          go (DtRole.TheVariants.Tester g) h = refl
          go (DtRole.TheVariants.Selector g i) h = absurd (h g i refl)
          go DtRole.TheVariants.Function h = refl

      module _ {g : SymbolId} {i : ℕ} (k : d ≡ DtRole.TheVariants.Selector g i) where
        sel_role : (symbol (context c) f.0).role ≡ Selector g.0 i
        unfolding role_meaning
        sel_role = sym ρ.is ∙ ap role_meaning k

        pub sel_argument : (a : ℕ) × (children (context c) x ≡ a ∷ [])
        sel_argument =
            let (h, ps, l, t) = U.check.state.signed.selector f.0 g.0 i sel_role in
            one_argument (context c) x f.0 (symbol (context c) g.0).result U.check.state.formed (op_symbol c x p q) ps

        module _ {y : ℕ} (l : y ≡ get_or (children (context c) x) 0 0) where
          its_argument : y ≡ sel_argument.0
          its_argument = l ∙ ap (λ (as' : List ℕ). get_or as' 0 0) sel_argument.1

          pub selector_on : SelectorOn c e s w f.0 g.0 i y o
          selector_on =
              let m = argument_within sel_argument.0 (app_within (context c) x f.0 (op_symbol c x p q)) sel_argument.1 in
              let h = its_argument in
              record { under = U; role = sel_role; within = omega arith }

          pub selector_tried : {r : RuleAnswer} {c' s' o' : List ℕ} →
              Tried (by_apps (collapse_at (selection f.0 g.0 i y))) c e s w r c' s' w o' →
              Tried (λ S. when (λ z. by_apps (collapse_at z)) (sel_app (context c) x) S) c e s w r c' s' w o'
          unfolding role_meaning sel_by_role by_apps
          selector_tried T =
              tried_some collapse_at {x = record { app = x; selector = f.0; ctor = g.0; index = i; arg = y }}
              (sel_by
              ∙ ap (λ (z : DtRole.DtRole). sel_by_role x f.0 (role_meaning z) (children (context c) x)) k
              ∙ ap (sel_by_role x f.0 (Selector g.0 i)) sel_argument.1
              ∙ ap (λ (z : ℕ). some (record { app = x; selector = f.0; ctor = g.0; index = i; arg = z })) (sym its_argument))
              (tried_as T (λ lv.
              try_same (collapse_at (record { app = x; selector = f.0; ctor = g.0; index = i; arg = y }))
              (collapse_at (selection f.0 g.0 i y))
              (renumbered x f.0 g.0 i y) (ctor_apps (state_at c e s w lv)) (state_at c e s w lv)))

  -- the mark of a term
  module _ {k : ℕ} (l : x < length (context c).terms) (m : k ≡ at w W_MARK x) where
    node : x < max_terms
    node = let z = U.check.state.core in omega (arith, z.term_count, z.terms_fit)

    pub sel_other : {o' : List ℕ} → (k ≡ 2 → ⊥) → (k ≡ 3 → ⊥) →
        Tried (if_marked w x (when (λ z. by_apps (collapse_at z)) (sel_app (context c) x))) c e s w (Ok TCheck.TheVariants.Sat) c s w o'
    sel_other i j = term_passes collapse_at x (sel_app (context c) x) U.check (go (U.check.work.marks x node))
      where
        go : (at w W_MARK x ≡ 0) ⊎ (at w W_MARK x ≡ term_kind (context c) x) → (at w W_MARK x ≡ 0) ⊎ (sel_app (context c) x ≡ none)
        go (inl z) = inl z
        go (inr z) =
            inr (kind_no_sel (context c) U.check.state.formed U.check.state.signed x (λ q. i (m ∙ z ∙ q)) (λ q. j (m ∙ z ∙ q)))

    pub sel_marked : {r : RuleAnswer} {c' s' o' : List ℕ} → 0 < k →
        Tried (λ S. when (λ z. by_apps (collapse_at z)) (sel_app (context c) x) S) c e s w r c' s' w o' →
        Tried (if_marked w x (when (λ z. by_apps (collapse_at z)) (sel_app (context c) x))) c e s w r c' s' w o'
    sel_marked h T = term_tried collapse_at x (sel_app (context c) x) {k = k - 1} (let q = m in omega arith) T

-- the rule as the definition has it
pub collapse_is : {c e s w : List ℕ} {r : RuleAnswer} {c' s' o : List ℕ} → Tried (by_terms collapse_at sel_app) c e s w r c' s' w o →
    Tried collapse_lemma c e s w r c' s' w o
unfolding collapse_lemma sel_apps by_terms
collapse_is T = tried_as T (λ lv. refl)
