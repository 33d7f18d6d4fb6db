-- Why the solver answers so, in the claim's words: what a conflict comes from, which watched classes have an application.
use Prim.Native.Nat.{ℕ}
use mathlib.Core.Path.{◌≡◌, refl, sym, subst, subst⁻¹, ap, ◌∙◌}
use mathlib.Core.Logic.{inl, inr}
use mathlib.Core.Bool.{Bool, false, not}
use mathlib.Core.Option.{Option, none, some}
use lib.Dec.{T, eqb}
use borrow.Author.Tests.{eqb-true, eqb-false}
use Rattle.shinri_core.specs.Lists.{any}
use Rattle.shinri_core.specs.Ids as Ids
use Rattle.shinri_core.specs.Term as Term
use Rattle.shinri_core.specs.Context.{CtorApp, TesterApp, term, children, ctor_app, tester_app}
use Rattle.shinri_core.proofs.Lists.{In, T_and, T_true, true_T, any_in}
use Rattle.theory.proofs.Members.{in_any}
use Rattle.solver.specs.State.{ctor_apps, ctor_of_class, watched_dt_terms, equal}
use Rattle.solver.specs.Records.{is_some}
use Rattle.solver.specs.Rules.{clash, has_undetermined_class}
use Rattle.solver.proofs.Basics.{gather_in, false_T, T-no}
use Rattle.solver.proofs.Apps.{op_is, ctor_app_is}
use Rattle.solver.proofs.Walk.{class_ctor, Stands}
use Rattle.solver.proofs.Clash.{Against, Denied, Joined, Assertion, Affirmed, Negated, Unequal, Caused, record_by, ctor_in}
use Rattle.session.specs.Session.{Session}
use Rattle.session.specs.Line.{Assert}
use Rattle.session.specs.History.{History, HoldsNow, IsAtom, EqualNow}
use Rattle.session.specs.Claim.{MarkedCtor, Lowest, ConstructorClash, TesterClash, NegativeClash, UnequalPair, Clash, Cause, Determined, Undetermined}
use Rattle.session.proofs.Invariant.{Inv}
use Rattle.session.proofs.Truth.{SaidNow}
use Rattle.solver.proofs.Clear.{Clear}
use Rattle.session.proofs.Asserted.{Asserted}
use Rattle.session.proofs.Rings.{there_some, in_marked, marked_ctor_in, now, stands_lowest, lowest_stands, watched_in, in_watched, there_ring}

module _ (s : Session) (h : History) (I : Inv s h) where
  -- ---- watched classes

  without : ℕ → Bool
  without t = not (is_some (ctor_of_class s.state t))

  pub determined : has_undetermined_class s.state ≡ false → Determined s.state.terms s.state.dt.marks h
  unfolding has_undetermined_class without is_some
  determined e t w = go (ctor_of_class s.state t) refl
    where
      go : (o : Option CtorApp) → ctor_of_class s.state t ≡ o → (c : ℕ) × Lowest s.state.terms s.state.dt.marks h t c
      go none q =
          absurd (false_T (any without (watched_dt_terms s.state)) e
          (in_any without (watched_dt_terms s.state) t (watched_in s h I t w) (subst⁻¹ (λ (o : Option CtorApp). T (not (is_some o))) q tt)))
      go (some d) q = (d.app, stands_lowest s h I t d.app (d, q, refl))

  pub undetermined : T (has_undetermined_class s.state) → Undetermined s.state.terms s.state.dt.marks h
  unfolding has_undetermined_class without is_some
  undetermined u =
      let (t, i, n) = any_in without (watched_dt_terms s.state) u in
      (t, in_watched s h I t i, λ c l. none_there t c n (lowest_stands s h I t c l))
    where
      none_there : (t c : ℕ) → T (without t) → Stands s.state t c → ⊥
      none_there t c n (d, e, q) = subst (λ (o : Option CtorApp). T (not (is_some o))) e n

  -- ---- conflicts

  in_marked_ctor : (c : CtorApp) → In c (ctor_apps s.state) → MarkedCtor s.state.terms s.state.dt.marks h c.app
  unfolding ctor_apps
  in_marked_ctor c i =
      let (u, j, g) = gather_in (ctor_app s.state.terms) s.state.dt.marks c i in
      subst⁻¹ (MarkedCtor s.state.terms s.state.dt.marks h) (ctor_app_is s.state.terms u c g).app
      (in_marked s h I u j, there_some (ctor_app s.state.terms u) c g)

  constructors : (p q : CtorApp) → In p (ctor_apps s.state) → In q (ctor_apps s.state) → T (clash s.state (p, q)) → ConstructorClash s.state.terms s.state.dt.marks h
  unfolding clash
  constructors p q i j t =
      let (n, e) = T_and (not (eqb p.ctor q.ctor)) (equal s.state p.app q.app) t in (
        p.app,
        q.app,
        in_marked_ctor p i,
        in_marked_ctor q j,
        (now s h I p.app q.app).0 e,
        λ o. eqb-false p.ctor q.ctor (T-no (eqb p.ctor q.ctor) n) (op_is p.ctor q.ctor (sym (ctor_in s.state p i).op ∙ o ∙ (ctor_in s.state q j).op)),
      )

  tester : (Said : Assertion → ℕ → ℕ → Type 0) → SaidNow s h I Said → (k t : ℕ) → Said Affirmed k t → Against s.state t →
      TesterClash s.state.terms s.state.dt.marks h
  tester Said S k t w (x, c, y, q, n) =
      let (force, at, sign, shape) = S Affirmed k t w in
      let C = ctor_app_is s.state.terms c.app c (class_ctor s.state x.arg c q).1 in (
        k,
        force,
        (
          t,
          c.app,
          x,
          true_T (Ids.is_positive k) sign,
          at,
          y,
          stands_lowest s h I x.arg c.app (c, q, refl),
          λ o. n
              (op_is c.ctor x.ctor (sym C.op ∙ o)),
        ),
      )

  negative : (Said : Assertion → ℕ → ℕ → Type 0) → SaidNow s h I Said → (k t : ℕ) → Said Negated k t → Denied s.state t →
      NegativeClash s.state.terms s.state.dt.marks h
  negative Said S k t w (x, c, y, i, e, o) =
      let (force, at, sign, shape) = S Negated k t w in (
        k,
        force,
        (
          t,
          c.app,
          x,
          subst⁻¹ (λ (b : Bool). T (not b)) sign tt,
          at,
          y,
          in_marked_ctor c i,
          (now s h I x.arg c.app).0 e,
          (ctor_in s.state c i).op ∙ ap Term.Uninterpreted o,
        ),
      )

  unequal : (Said : Assertion → ℕ → ℕ → Type 0) → SaidNow s h I Said → (k t : ℕ) → Said Unequal k t → Joined s.state t →
      UnequalPair s.state.terms s.state.dt.marks h
  unequal Said S k t w (x, y, c, e) =
      let (force, at, sign, shape) = S Unequal k t w in (k, t, x, y, force, at, (shape, c), (now s h I x y).0 e)

  pub cause_now : (Said : Assertion → ℕ → ℕ → Type 0) → SaidNow s h I Said → Caused s.state Said →
      Cause s.state.terms s.state.dt.marks h
  cause_now Said S (inl (p, q, i, j, t)) = inl (inl (constructors p q i j t))
  cause_now Said S (inr (inl (k, t, w, a))) = inl (inr (inl (tester Said S k t w a)))
  cause_now Said S (inr (inr (inl (k, t, w, a)))) = inl (inr (inr (inl (negative Said S k t w a))))
  cause_now Said S (inr (inr (inr (inl (k, t, w, a))))) = inl (inr (inr (inr (unequal Said S k t w a))))
  cause_now Said S (inr (inr (inr (inr r)))) = inr (there_ring s h I r)

  -- ---- no clash

  app_op : (c : ℕ) (p : CtorApp) → p.app ≡ c → In p (ctor_apps s.state) → (term s.state.terms c).op ≡
      Term.Uninterpreted p.ctor
  app_op c p e i = subst (λ (z : ℕ). (term s.state.terms z).op ≡ Term.Uninterpreted p.ctor) e (ctor_in s.state p i).op

  -- an asserted tester's sign says whether a marked application of its term's class has its constructor
  sign_is : Asserted s.state.terms s.state.atoms (record_by s.state) h → Clear s.state → (l a c : ℕ) (x : TesterApp) →
      HoldsNow h (Assert l) → IsAtom h l a → tester_app s.state.terms a ≡ some x →
      MarkedCtor s.state.terms s.state.dt.marks h c → EqualNow s.state.terms h x.arg c →
      (p : CtorApp) × (p.app ≡ c) × In p (ctor_apps s.state) × (eqb p.ctor x.ctor ≡ Ids.is_positive l)
  sign_is A C l a c x (v, i) at q m e =
      let (p, y, j) = marked_ctor_in s h I c m in
      let (w, k, n, u) = A.entry v l a x i at q in
      let t = subst⁻¹ (λ (z : ℕ). T (equal s.state x.arg z)) y ((now s h I x.arg c).1 e) in
      (p, y, j, C.testers (Ids.is_positive l) w x p k (ap (tester_app s.state.terms) n ∙ q) j t)

  -- where the definition finds no clash and every asserted tester and all unequal terms are recorded, there is none
  pub clear_now : Asserted s.state.terms s.state.atoms (record_by s.state) h → Clear s.state →
      Clash s.state.terms s.state.dt.marks h → ⊥
  clear_now A C (inl (c, d, m, n, e, o)) =
      let (p, x, i) = marked_ctor_in s h I c m in
      let (q, y, j) = marked_ctor_in s h I d n in
      let t = subst⁻¹ (λ (z : ℕ). T (equal s.state z q.app)) x (subst⁻¹ (λ (z : ℕ). T (equal s.state c z)) y
      ((now s h I c d).1 e)) in
      o (app_op c p x i ∙ ap Term.Uninterpreted (C.constructors p q i j t) ∙ sym (app_op d q y j))
  clear_now A C (inr (inl (l, f, (a, c, x, positive, at, q, (m, e, low), o)))) =
      let (p, y, j, t) = sign_is A C l a c x f at q m e in
      o (app_op c p y j ∙ ap Term.Uninterpreted (eqb-true p.ctor x.ctor (t ∙ T_true (Ids.is_positive l) positive)))
  clear_now A C (inr (inr (inl (l, f, (a, c, x, negative, at, q, m, e, o))))) =
      let (p, y, j, t) = sign_is A C l a c x f at q m e in
      eqb-false p.ctor x.ctor (t ∙ T-no (Ids.is_positive l) negative) (op_is p.ctor x.ctor (sym (app_op c p y j) ∙ o))
  clear_now A C (inr (inr (inr (l, a, x, y, (v, f), at, (o, c), e)))) =
      let (w, k, n, u) = A.unequal v l a f at in
      C.unequal w x y k (ap (children s.state.terms) n ∙ c) ((now s h I x y).1 e)
