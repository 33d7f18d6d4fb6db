-- Selectors made on applications stay, and to make them again changes nothing. So of a class and a constructor only the lowest application
-- has to be paired with the others.
use Rattle.shinri_core.proofs.Kit.{ℕ, zero, suc, ◌+◌, ◌-◌, ◌≤◌, ◌≡◌, refl, sym, ap, ◌∙◌, subst, subst⁻¹, inl, inr, Bool, true, false, cond, ◌&&◌, List, [], ◌∷◌, foldl, ℕ_discrete, arith, eqb, eq-eqb, ne_eqb, eqb-true}
use Rattle.shinri_core.specs.Limits.{max_terms}
use Rattle.shinri_core.specs.Lists.{In, insert}
use Rattle.shinri_core.specs.Term as Term
use Rattle.shinri_core.specs.Term.{Term}
use Rattle.shinri_core.specs.Context.{CtorApp, mk_app, dt_selectors}
use Rattle.shinri_core.specs.Formed.{Formed}
use Rattle.shinri_core.specs.Memory.Words.{at}
use Rattle.shinri_core.specs.Memory.Table.{context}
use Rattle.shinri_core.proofs.Lists.{and_no}
use Rattle.theory.specs.EqEngine.{Merge, are_equal}
use Rattle.theory.specs.Memory.Table.{merges}
use Rattle.solver.specs.State.{State, with_terms, with_marks, with_dt, equal, mark, made_in, make_app, marked_in, mint}
use Rattle.solver.specs.Rules.{mint_on_both, same_constructor, mint_selectors}
use Rattle.solver.specs.Memory.Table.{flagged_from, MarksAre, dt_with, state_with}
use Rattle.solver.specs.Memory.Work.{W_MARK, work_marks, apps_from, state_at}
use Rattle.solver.specs.Memory.ConstructorClash.{symbol_of, app_at, MarkedApp}
use Rattle.solver.specs.Memory.Injecting.{HasSelector, AllSelected, select_with}
use Rattle.solver.proofs.Basics.{in_insert_new, in_insert_old, fold_keeps}
use Rattle.solver.proofs.Terms.{mk_app_makes, extends_symbol, extends_term, extends_length}
use Rattle.solver.proofs.Repeats.{mk_app_again}
use Rattle.solver.proofs.Memory.Flags.{has, also, insert_members, members_same, flagged_in}
use Rattle.solver.proofs.Memory.Unfitting.{Onward, mint_selectors_onward}
use Rattle.solver.proofs.Memory.AppNumbers.{apps_step, apps_none}

-- ---- what is made stays

-- selector f on x in a state
abbrev pub Has : State → ℕ → ℕ → Type 0
Has S f x = HasSelector S.terms S.dt.marks f x

mint_keeps : (S : State) (f : ℕ) (args : List ℕ) (g x : ℕ) → Has S g x → Has (mint S f args).state g x
unfolding mint marked_in mark make_app made_in with_terms with_marks with_dt
mint_keeps S f args g x H =
    let made = mk_app S.terms (Term.Uninterpreted f) args in
    let E = (mk_app_makes S.terms (Term.Uninterpreted f) args).extends in
    let l = H.within in
    let h = extends_length S.terms made.context E in
    record {
      number = H.number;
      within = omega arith;
      is = extends_term S.terms made.context H.number E l ∙ H.is;
      marked = in_insert_old H.number made.id S.dt.marks H.marked;
    }

mint_gives : (S : State) (f x : ℕ) → Has (mint S f (x ∷ [])).state f x
unfolding mint marked_in mark make_app made_in with_terms with_marks with_dt
mint_gives S f x =
    let made = mk_app S.terms (Term.Uninterpreted f) (x ∷ []) in
    let M = mk_app_makes S.terms (Term.Uninterpreted f) (x ∷ []) in
    record { number = made.id; within = M.within; is = M.made; marked = in_insert_new made.id S.dt.marks }

pub both_keeps : (p q : ℕ) (S : State) (f g x : ℕ) → Has S g x → Has (mint_on_both p q S f) g x
unfolding mint_on_both
both_keeps p q S f g x H =
    let half = (mint S f (p ∷ [])).state in
    mint_keeps half f (q ∷ []) g x (mint_keeps S f (p ∷ []) g x H)

both_gives : (p q : ℕ) (S : State) (f : ℕ) → Has (mint_on_both p q S f) f p × Has (mint_on_both p q S f) f q
unfolding mint_on_both
both_gives p q S f =
    let half = (mint S f (p ∷ [])).state in
    (mint_keeps half f (q ∷ []) f p (mint_gives S f p), mint_gives half f q)

fold_both_keeps : (p q : ℕ) (S : State) (fs : List ℕ) (g x : ℕ) → Has S g x → Has (foldl (mint_on_both p q) S fs) g x
fold_both_keeps p q S fs g x H = fold_keeps (λ (z : State). Has z g x) (mint_on_both p q) fs S (λ f i z h. both_keeps p q z f g x h) H

fold_both_gives : (p q : ℕ) (S : State) (fs : List ℕ) (f : ℕ) → In f fs →
    Has (foldl (mint_on_both p q) S fs) f p × Has (foldl (mint_on_both p q) S fs) f q
fold_both_gives p q S [] f i = absurd i
fold_both_gives p q S (g ∷ fs) f (inl e) =
    let done = mint_on_both p q S g in
    let (a, b) = both_gives p q S g in (
      subst⁻¹ (λ (z : ℕ). Has (foldl (mint_on_both p q) done fs) z p) e (fold_both_keeps p q done fs g p a),
      subst⁻¹ (λ (z : ℕ). Has (foldl (mint_on_both p q) done fs) z q) e (fold_both_keeps p q done fs g q b),
    )
fold_both_gives p q S (g ∷ fs) f (inr i) = fold_both_gives p q (mint_on_both p q S g) fs f i

-- ---- a pair of applications

pub pair_keeps : (S : State) (a b : CtorApp) (g x : ℕ) → Has S g x → Has (mint_selectors S (a, b)) g x
unfolding mint_selectors
pair_keeps S a b g x H = go (same_constructor S (a, b))
  where
    go : (d : Bool) → Has (cond d (foldl (mint_on_both a.app b.app) S (dt_selectors S.terms a.ctor)) S) g x
    go true = fold_both_keeps a.app b.app S (dt_selectors S.terms a.ctor) g x H
    go false = H

pub pair_gives : (S : State) (a b : CtorApp) → same_constructor S (a, b) ≡ true → (f : ℕ) → In f (dt_selectors S.terms a.ctor) →
    Has (mint_selectors S (a, b)) f a.app × Has (mint_selectors S (a, b)) f b.app
unfolding mint_selectors
pair_gives S a b h f i = rw h (fold_both_gives a.app b.app S (dt_selectors S.terms a.ctor) f i)

-- the classes are as they were
both_eq : (p q : ℕ) (S : State) (f : ℕ) → (mint_on_both p q S f).eq ≡ S.eq
unfolding mint_on_both mint marked_in mark make_app made_in with_terms with_marks with_dt
both_eq p q S f = refl

pair_eq : (S : State) (a b : CtorApp) → (mint_selectors S (a, b)).eq ≡ S.eq
unfolding mint_selectors
pair_eq S a b = go (same_constructor S (a, b))
  where
    go : (d : Bool) → (cond d (foldl (mint_on_both a.app b.app) S (dt_selectors S.terms a.ctor)) S).eq ≡ S.eq
    go true =
        fold_keeps (λ (z : State). z.eq ≡ S.eq) (mint_on_both a.app b.app) (dt_selectors S.terms a.ctor) S
        (λ f i z h. both_eq a.app b.app z f ∙ h) refl
    go false = refl

same_by_eq : (S S' : State) (a b : CtorApp) → S.eq ≡ S'.eq → same_constructor S (a, b) ≡ same_constructor S' (a, b)
unfolding same_constructor equal
same_by_eq S S' a b e = ap (λ (ms : List Merge). eqb a.ctor b.ctor && are_equal ms a.app b.app) e

pub selectors_same : (S S' : State) → Onward S S' → (k : ℕ) → dt_selectors S'.terms k ≡ dt_selectors S.terms k
unfolding dt_selectors
selectors_same S S' E k = rw (extends_symbol S.terms S'.terms k E)

-- ---- an application with others

pub with_keeps : (a : CtorApp) (others : List CtorApp) (S : State) (g x : ℕ) → Has S g x → Has (select_with a others S) g x
unfolding select_with
with_keeps a others S g x H =
    fold_keeps (λ (z : State). Has z g x) (λ z b. mint_selectors z (a, b)) others S (λ b i z h. pair_keeps z a b g x h) H

pub with_gives : (a : CtorApp) (others : List CtorApp) (S : State) (b : CtorApp) → In b others → same_constructor S (a, b) ≡ true →
    (f : ℕ) → In f (dt_selectors S.terms a.ctor) → Has (select_with a others S) f a.app × Has (select_with a others S) f b.app
unfolding select_with
with_gives a [] S b i h f j = absurd i
with_gives a (d ∷ others) S b (inl e) h f j =
    let done = mint_selectors S (a, d) in
    let (u, v) = pair_gives S a d (subst (λ (z : CtorApp). same_constructor S (a, z) ≡ true) e h) f j in (
      with_keeps a others done f a.app u,
      with_keeps a others done f b.app (subst⁻¹ (λ (z : CtorApp). Has done f z.app) e v),
    )
with_gives a (d ∷ others) S b (inr i) h f j =
    let done = mint_selectors S (a, d) in
    with_gives a others done b i (same_after d) f
    (subst⁻¹ (λ (fs : List ℕ). In f fs) (selectors_same S done (mint_selectors_onward S (a, d)) a.ctor) j)
  where
    same_after : (d : CtorApp) → same_constructor (mint_selectors S (a, d)) (a, b) ≡ true
    same_after d = same_by_eq (mint_selectors S (a, d)) S a b (pair_eq S a d) ∙ h

-- ---- to make them again changes nothing

module _ (c e w : List ℕ) (F : Formed (context c)) (s : List ℕ) (lv : ℕ → ℕ) where
  abbrev S : State
  S = state_at c e s w lv

  insert_again : (z : ℕ) → In z (work_marks w) → insert z (work_marks w) ≡ work_marks w
  unfolding flagged_from
  insert_again z i =
      let (l, h, k) = flagged_in w W_MARK 0 z (omega arith) i in
      insert_members z 0 max_terms (has w W_MARK) (omega arith) (omega arith)
      ∙ members_same (also z (has w W_MARK)) (has w W_MARK) 0 max_terms (λ y u v. go y k (ℕ_discrete y z))
    where
      go : (y : ℕ) → has w W_MARK z ≡ true → Dec (y ≡ z) → also z (has w W_MARK) y ≡ has w W_MARK y
      go y k (yes d) = rw (eq-eqb y z d) (sym (ap (has w W_MARK) d ∙ k))
      go y k (no d) = rw (ne_eqb y z d)

  pub mint_again : (f x : ℕ) → HasSelector (context c) (work_marks w) f x → (mint S f (x ∷ [])).state ≡ S
  unfolding mint marked_in mark make_app made_in with_terms with_marks with_dt state_with dt_with
  mint_again f x H =
      let d = mk_app_again (context c) (Term.Uninterpreted f) (x ∷ []) H.number F H.within H.is in
      rw d (rw (insert_again H.number H.marked))

  both_again : (p q f : ℕ) → HasSelector (context c) (work_marks w) f p → HasSelector (context c) (work_marks w) f q →
      mint_on_both p q S f ≡ S
  unfolding mint_on_both
  both_again p q f A B = ap (λ (z : State). (mint z f (q ∷ [])).state) (mint_again f p A) ∙ mint_again f q B

  fold_again : (p q : ℕ) (fs : List ℕ) → ((f : ℕ) → In f fs → HasSelector (context c) (work_marks w) f p) →
      ((f : ℕ) → In f fs → HasSelector (context c) (work_marks w) f q) → foldl (mint_on_both p q) S fs ≡ S
  fold_again p q [] A B = refl
  fold_again p q (f ∷ fs) A B =
      ap (λ (z : State). foldl (mint_on_both p q) z fs) (both_again p q f (A f (inl refl)) (B f (inl refl)))
      ∙ fold_again p q fs (λ g i. A g (inr i)) (λ g i. B g (inr i))

  -- a pair changes nothing, if both are selected should they have one constructor in one class
  pub pair_again : (p q : ℕ) →
      (are_equal (merges e) p q ≡ true → symbol_of (context c) p ≡ symbol_of (context c) q →
      AllSelected (context c) (work_marks w) (symbol_of (context c) p) p
      × AllSelected (context c) (work_marks w) (symbol_of (context c) p) q) →
      mint_selectors S (app_at (context c) p, app_at (context c) q) ≡ S
  unfolding mint_selectors same_constructor equal state_with
  pair_again p q h = go (ℕ_discrete (symbol_of (context c) p) (symbol_of (context c) q)) (are_equal (merges e) p q) refl
    where
      go : Dec (symbol_of (context c) p ≡ symbol_of (context c) q) → (b : Bool) → are_equal (merges e) p q ≡ b →
          cond (eqb (symbol_of (context c) p) (symbol_of (context c) q) && are_equal (merges e) p q)
          (foldl (mint_on_both p q) S (dt_selectors (context c) (symbol_of (context c) p))) S ≡ S
      go (no d) b g = rw (ne_eqb (symbol_of (context c) p) (symbol_of (context c) q) d)
      go (yes d) false g = rw (g, and_no (eqb (symbol_of (context c) p) (symbol_of (context c) q)))
      go (yes d) true g =
          let (A, B) = h g d in
          rw (eq-eqb (symbol_of (context c) p) (symbol_of (context c) q) d, g)
          (fold_again p q (dt_selectors (context c) (symbol_of (context c) p)) A B)

  module _ (M : MarksAre (context c) w W_MARK) (a : CtorApp) where
    -- so an application with others, if each pair changes nothing
    idle_from : (n i : ℕ) → n + i ≡ max_terms → ((y : ℕ) → i ≤ y → MarkedApp w y → mint_selectors S (a, app_at (context c) y) ≡ S) →
        select_with a (apps_from (context c) w i) S ≡ S
    unfolding select_with
    idle_from zero i d h = ap (λ (as' : List CtorApp). select_with a as' S) (apps_none (context c) w M i (omega arith))
    idle_from (suc n) i d h =
        ap (λ (as' : List CtorApp). select_with a as' S) (apps_step (context c) w M i (omega arith))
        ∙ go (eqb (at w W_MARK i) 1) refl
        ∙ idle_from n (suc i) (omega arith) (λ y l m. h y (omega arith) m)
      where
        go : (b : Bool) → eqb (at w W_MARK i) 1 ≡ b →
            select_with a (cond b (app_at (context c) i ∷ apps_from (context c) w (suc i)) (apps_from (context c) w (suc i))) S
            ≡ select_with a (apps_from (context c) w (suc i)) S
        go true k =
            ap (λ (z : State). select_with a (apps_from (context c) w (suc i)) z)
            (h i (omega arith) (record { node = omega arith; mark = eqb-true (at w W_MARK i) 1 k }))
        go false k = refl

    pub idle : (i : ℕ) → i ≤ max_terms → ((y : ℕ) → i ≤ y → MarkedApp w y → mint_selectors S (a, app_at (context c) y) ≡ S) →
        select_with a (apps_from (context c) w i) S ≡ S
    idle i l h = idle_from (max_terms - i) i (omega arith) h
