-- The tester lemma: the tester of an application's constructor on the application is made and handed out.
use Rattle.shinri_core.proofs.Kit.{ℕ, ◌-◌, ◌<◌, ◌≡◌, refl, sym, ap, ap₂, ◌∙◌, ◌⊎◌, inl, inr, Bool, true, false, cond, ◌&&◌, List, [], ◌∷◌, none, some, Option, arith, eqb, eq-eqb, ne_eqb, length, get_or, suc}
use Rattle.shinri_core.specs.Limits.{max_terms}
use Rattle.shinri_core.specs.Term as Term
use Rattle.shinri_core.specs.Term.{Symbol, Tester}
use Rattle.shinri_core.specs.Context as Context
use Rattle.shinri_core.specs.Context.{CtorApp, TesterApp, ctor_app, tester_app, tester_by_op, tester_by_role, symbol, children, terms_fit, mk_app}
use Rattle.shinri_core.specs.Memory.Words.{at}
use Rattle.shinri_core.specs.Memory.Table.{context, MayApply}
use Rattle.shinri_core.specs.Memory.Codes.{role_meaning, OpAt, RoleAt, MkApp, made_answer, made_context}
use Rattle.shinri_core.specs.declared.ids.TermId.{TermId}
use Rattle.shinri_core.specs.declared.ids.SymbolId.{SymbolId}
use Rattle.shinri_core.specs.declared.term.Op as Op
use Rattle.shinri_core.specs.declared.term.DtRole as DtRole
use Rattle.shinri_core.proofs.Lists.{and_no}
use Rattle.theory.specs.EqEngine.{Merge, are_equal}
use Rattle.theory.specs.Memory.Table.{merges}
use Rattle.solver.specs.State.{State, ctor_apps, testers, equal, make_app}
use Rattle.solver.specs.Rules.{Ruled, pass, hand_out_made, tester_lemma_at, tester_lemma}
use Rattle.solver.specs.declared.answer.TCheck as TCheck
use Rattle.std.specs.Prelude.{None, Ok, Err}
use Rattle.solver.specs.Memory.Table.{term_kind, state_with}
use Rattle.solver.specs.Memory.Work.{W_MARK, state_at, CheckSound}
use Rattle.solver.specs.Memory.Answer.{Tried, RuleAnswer}
use Rattle.solver.specs.Memory.Making.{Makeable, HandsOut, Made}
use Rattle.solver.specs.Memory.Checks.{Underway}
use Rattle.solver.specs.Memory.Collapse.{when, by_apps, if_marked, testing, Testable, TesterOn}
use Rattle.solver.proofs.Basics.{by_test}
use Rattle.solver.proofs.Terms.{extends_symbol, mk_app_makes}
use Rattle.solver.proofs.Signature.{tester_function, declared_role}
use Rattle.solver.proofs.Apps.{ctor_app_is, app_within}
use Rattle.solver.proofs.Memory.Roles.{sort_by_symbol, kind_no_tester}
use Rattle.solver.proofs.Memory.Growing.{made_app}
use Rattle.solver.proofs.Memory.Unfitting.{hand_out_made_onward}
use Rattle.solver.proofs.Memory.Trying.{tried_as, tried_pass, try_same}
use Rattle.solver.proofs.Memory.Chains.{PassesOthers, Walking, walk_at, walk_app, by_terms, term_passes, term_tried}
use Rattle.solver.proofs.Memory.Growing.{only_below}
use Rattle.solver.proofs.Memory.Collapsing.{made_none, made_some, handed, making_of, app_is_term, one_argument, argument_within, op_equation, op_symbol, tried_some}

-- ---- an application of the constructor

module _
    {c c' : List ℕ} {o : Term.Op} {args : List ℕ} {m : Made} {z : TermId} (K : MkApp c o args m c') (q : m ≡ Ok z)
  where
    abbrev new : Context.Made
    new = mk_app (context c) o args

    below_fits : terms_fit new.context ≡ true → z.0 < max_terms
    unfolding made_answer made_context
    below_fits h =
        let a : m ≡ Ok (record { 0 = new.id }) = rw h at K.answer in
        let v : context c' ≡ new.context = rw h at K.view in
        let e : z ≡ record { 0 = new.id } = cc in
        let l = (mk_app_makes (context c) o args).within in
        let n : length (context c').terms ≡ length new.context.terms = ap (λ (y : Context.Context). length y.terms) v in
        let i : z.0 ≡ new.id = ap (λ (y : TermId). y.0) e in
        omega (arith, K.sound.term_count, K.sound.terms_fit)

    below_lacks : terms_fit new.context ≡ false → z.0 < max_terms
    unfolding made_answer
    below_lacks h =
        let a : m ≡ Err (record {}) = rw h at K.answer in
        let b : ◌≡◌ {A = ℕ} 0 1 = cc in
        omega arith

    -- the number of what was made is small
    pub made_below : z.0 < max_terms
    made_below = by_test (terms_fit new.context) below_fits below_lacks

module _ {c s : List ℕ} {f ctor x : ℕ} {o : List ℕ} (P : Testable c s f ctor x o) where
  pub may_test : MayApply c f (x ∷ [])
  may_test = record {
    sound = P.core;
    declared = declared_role (context c) f (λ z. tester_function ctor (sym P.role ∙ z));
    terms = only_below (length (context c).terms) x (app_is_term c P.a P.is_app);
  }

  module _ (e w : List ℕ) (C : CheckSound c e s w) where
    abbrev rule_at : ℕ → State → Ruled
    rule_at arg = when (tester_lemma_at (testing f ctor arg)) (ctor_app (context c) x)

    abbrev Kept-on : ℕ → Type 0
    Kept-on arg = are_equal (merges e) arg x ≡ true

    abbrev made_on : State → Ruled
    made_on S = hand_out_made (make_app S f (x ∷ [])) []

    -- another constructor
    pub test_other : {o' : List ℕ} → (P.a.ctor ≡ ctor → ⊥) → (arg : ℕ) → Kept-on arg →
        Tried (rule_at arg) c e s w (Ok TCheck.TheVariants.Sat) c s w o'
    unfolding when tester_lemma_at
    test_other n arg k =
        tried_pass C (λ lv.
        let S = state_at c e s w lv in
        ap (λ (z : Option CtorApp). when (tester_lemma_at (testing f ctor arg)) z S) P.is_app
        ∙ ap (λ (b : Bool). cond (b && equal S arg P.a.app) (hand_out_made (make_app S f (P.a.app ∷ [])) []) (pass S))
        (ne_eqb P.a.ctor ctor n))

    module _ (own : P.a.ctor ≡ ctor) where
      makeable : Makeable c e w f (x ∷ [])
      makeable =
          let (r, p, q) = C.state.signed.tester f ctor P.role in
          let A = ctor_app_is (context c) x P.a P.is_app in
          record {
            making = making_of C;
            declared = may_test.declared;
            terms = may_test.terms;
            agree =
                ap (λ (z : ℕ). z ∷ [])
                (sort_by_symbol (context c) x P.a.ctor A.op ∙ ap (λ (z : ℕ). (symbol (context c) z).result) own)
                ∙ sym p;
          }

      own_rule : (arg : ℕ) → Kept-on arg → (lv : ℕ → ℕ) → rule_at arg (state_at c e s w lv) ≡ made_on (state_at c e s w lv)
      unfolding when tester_lemma_at equal state_with
      own_rule arg k lv =
          let A = ctor_app_is (context c) x P.a P.is_app in
          let S = state_at c e s w lv in
          ap (λ (z : Option CtorApp). when (tester_lemma_at (testing f ctor arg)) z S) P.is_app
          ∙ ap (λ (b : Bool). cond b (hand_out_made (make_app S f (P.a.app ∷ [])) []) (pass S))
          (ap₂ (λ (a b : Bool). a && b) (eq-eqb P.a.ctor ctor own) (ap (are_equal (merges e) arg) A.app ∙ k))
          ∙ ap (λ (z : ℕ). hand_out_made (make_app S f (z ∷ [])) []) A.app

      module _ {m : Made} {c' : List ℕ} (K : MkApp c (Term.Uninterpreted f) (x ∷ []) m c') where
        pub test_none : {o' : List ℕ} → m ≡ Err (record {}) → (arg : ℕ) → Kept-on arg →
            Tried (rule_at arg) c e s w (Err (record {})) c' s w o'
        test_none q arg k =
            tried_as (made_none (λ a. hand_out_made a []) (made_app makeable K) q C (λ a. hand_out_made_onward a [])) (own_rule arg k)

        pub test_some : {z : TermId} {r : TCheck.TCheck} {s' o' : List ℕ} → m ≡ Ok z →
            HandsOut z.0 None s r s' o' → (arg : ℕ) → Kept-on arg → Tried (rule_at arg) c e s w (Ok r) c' s' w o'
        test_some q H arg k =
            let M = made_app makeable K in
            tried_as (made_some (λ a. hand_out_made a []) M q (handed (M.sound s C) H)) (own_rule arg k)

-- ---- along a class

pub tester_others : (x : TesterApp) (ms : List Merge) → PassesOthers (tester_lemma_at x) ms x.arg
unfolding tester_lemma_at equal
tester_others x ms a S q h =
    ap (λ (b : Bool). cond b (hand_out_made (make_app S x.tester (a.app ∷ [])) []) (pass S))
    (ap (λ (b : Bool). eqb a.ctor x.ctor && b) (ap (λ (es : List Merge). are_equal es x.arg a.app) q ∙ h)
    ∙ and_no (eqb a.ctor x.ctor))

pub walk_testable : {c₀ e s₀ w c s : List ℕ} {f ctor arg : ℕ} {o₀ o : List ℕ} {k x : ℕ} → TesterOn c₀ e s₀ w f ctor arg o₀ →
    Walking (tester_lemma_at (testing f ctor arg)) c₀ e s₀ w arg c s k → k ≡ suc x → length o ≡ length o₀ → Testable c s f ctor x o
walk_testable {c₀} {c = c} {f = f} P W n l = record {
  core = W.trying.sound.state.core;
  solver = W.trying.sound.state.solver;
  role = ap (λ (z : Symbol). z.role) (extends_symbol (context c₀) (context c) f W.trying.extends) ∙ P.role;
  a = (walk_at W n).app;
  is_app = walk_app W n;
  long = let h = P.under.long in omega arith;
}

-- ---- a term that may be a tester application

-- the rule does not ask for the number of the tester application
renumbered : (x f ctor arg : ℕ) (a : CtorApp) (S : State) →
    tester_lemma_at (record { app = x; tester = f; ctor = ctor; arg = arg }) a S ≡ tester_lemma_at (testing f ctor arg) a S
unfolding tester_lemma_at
renumbered x f ctor arg a S = refl

module _ {c e s w : List ℕ} {x : ℕ} {o : List ℕ} (U : Underway c e s w o) where
  pub tester_equation : {r : Op.Op} → OpAt c x r → r ≡ Op.TheVariants.Eq → tester_app (context c) x ≡ none
  unfolding tester_app tester_by_op
  tester_equation p q = rw (op_equation c x p q)

  module _
      {r : Op.Op} {f : SymbolId} {d : DtRole.DtRole} (p : OpAt c x r) (q : r ≡ Op.TheVariants.Uninterpreted f) (ρ : RoleAt c f.0 d)
    where
      tester_by : tester_app (context c) x ≡ tester_by_role x f.0 (role_meaning d) (children (context c) x)
      unfolding tester_app tester_by_op
      tester_by = rw (op_symbol c x p q, sym ρ.is)

      pub tester_none : ((g : SymbolId) → d ≡ DtRole.TheVariants.Tester g → ⊥) → tester_app (context c) x ≡ none
      unfolding role_meaning tester_by_role
      tester_none k = tester_by ∙ go d k
        where
          go : (z : DtRole.DtRole) → ((g : SymbolId) → z ≡ DtRole.TheVariants.Tester g → ⊥) →
              tester_by_role x f.0 (role_meaning z) (children (context c) x) ≡ none
          go DtRole.TheVariants.Constructor h = refl
          go (DtRole.TheVariants.Tester g) h = absurd (h g refl)
          go (DtRole.TheVariants.Selector g i) h = refl
          go DtRole.TheVariants.Function h = refl

      module _ {g : SymbolId} (k : d ≡ DtRole.TheVariants.Tester g) where
        tester_role : (symbol (context c) f.0).role ≡ Tester g.0
        unfolding role_meaning
        tester_role = sym ρ.is ∙ ap role_meaning k

        pub tester_argument : (a : ℕ) × (children (context c) x ≡ a ∷ [])
        tester_argument =
            let (h, ps, t) = U.check.state.signed.tester f.0 g.0 tester_role in
            one_argument (context c) x f.0 (symbol (context c) g.0).result U.check.state.formed (op_symbol c x p q) ps

        module _ {y : ℕ} (l : y ≡ get_or (children (context c) x) 0 0) where
          its_argument : y ≡ tester_argument.0
          its_argument = l ∙ ap (λ (as' : List ℕ). get_or as' 0 0) tester_argument.1

          pub tester_on : TesterOn c e s w f.0 g.0 y o
          tester_on =
              let m = argument_within U tester_argument.0 (app_within (context c) x f.0 (op_symbol c x p q)) tester_argument.1 in
              let h = its_argument in
              record { under = U; role = tester_role; within = omega arith }

          pub tester_tried : {r : RuleAnswer} {c' s' o' : List ℕ} →
              Tried (by_apps (tester_lemma_at (testing f.0 g.0 y))) c e s w r c' s' w o' →
              Tried (λ S. when (λ z. by_apps (tester_lemma_at z)) (tester_app (context c) x) S) c e s w r c' s' w o'
          unfolding role_meaning tester_by_role by_apps
          tester_tried T =
              tried_some tester_lemma_at {x = record { app = x; tester = f.0; ctor = g.0; arg = y }}
              (tester_by
              ∙ ap (λ (z : DtRole.DtRole). tester_by_role x f.0 (role_meaning z) (children (context c) x)) k
              ∙ ap (tester_by_role x f.0 (Tester g.0)) tester_argument.1
              ∙ ap (λ (z : ℕ). some (record { app = x; tester = f.0; ctor = g.0; arg = z })) (sym its_argument))
              (tried_as T (λ lv.
              try_same (tester_lemma_at (record { app = x; tester = f.0; ctor = g.0; arg = y }))
              (tester_lemma_at (testing f.0 g.0 y))
              (renumbered x f.0 g.0 y) (ctor_apps (state_at c e s w lv)) (state_at c e s w lv)))

  -- the mark of a term
  module _ {k : ℕ} (l : x < length (context c).terms) (m : k ≡ at w W_MARK x) where
    node : x < max_terms
    node = let z = U.check.state.core in omega (arith, z.term_count, z.terms_fit)

    pub tester_other : {o' : List ℕ} → (k ≡ 4 → ⊥) →
        Tried (if_marked w x (when (λ z. by_apps (tester_lemma_at z)) (tester_app (context c) x))) c e s w (Ok TCheck.TheVariants.Sat) c s w o'
    tester_other i = term_passes tester_lemma_at x (tester_app (context c) x) U.check (go (U.check.work.marks x node))
      where
        go : (at w W_MARK x ≡ 0) ⊎ (at w W_MARK x ≡ term_kind (context c) x) → (at w W_MARK x ≡ 0) ⊎ (tester_app (context c) x ≡ none)
        go (inl z) = inl z
        go (inr z) = inr (kind_no_tester (context c) U.check.state.formed U.check.state.signed x (λ q. i (m ∙ z ∙ q)))

    pub tester_marked : {r : RuleAnswer} {c' s' o' : List ℕ} → 0 < k →
        Tried (λ S. when (λ z. by_apps (tester_lemma_at z)) (tester_app (context c) x) S) c e s w r c' s' w o' →
        Tried (if_marked w x (when (λ z. by_apps (tester_lemma_at z)) (tester_app (context c) x))) c e s w r c' s' w o'
    tester_marked h T = term_tried tester_lemma_at x (tester_app (context c) x) {k = k - 1} (let q = m in omega arith) T

-- the rule as the definition has it
pub tester_lemma_is : {c e s w : List ℕ} {r : RuleAnswer} {c' s' o : List ℕ} →
    Tried (by_terms tester_lemma_at tester_app) c e s w r c' s' w o → Tried tester_lemma c e s w r c' s' w o
unfolding tester_lemma testers by_terms
tester_lemma_is T = tried_as T (λ lv. refl)
