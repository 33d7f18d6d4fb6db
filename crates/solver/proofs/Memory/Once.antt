-- Collapse once for a class and a selector: the flag stands at the selector on the lowest application of the class. What passed once
-- passes again, since terms are only added.
use Rattle.shinri_core.proofs.Kit.{ℕ, zero, suc, ◌≤◌, ◌<◌, ◌≡◌, refl, sym, ap, ap₂, head-eq_of_cons-eq, ◌∙◌, subst, subst⁻¹, ℕ_discrete, true, List, [], ◌∷◌, some, Option, arith, T, length, get_or, replicate, true≢false, ◌+◌}
use lib.ListN.{length-replicate}
use Rattle.shinri_core.specs.Limits.{max_terms}
use Rattle.shinri_core.specs.Lists.{In}
use Rattle.shinri_core.specs.Term as Term
use Rattle.shinri_core.specs.Term.{Term, Symbol, Selector}
use Rattle.shinri_core.specs.Context.{CtorApp, SelApp, symbol, children, ctor_app}
use Rattle.shinri_core.specs.Formed.{Formed, Extends}
use Rattle.shinri_core.specs.Memory.Words.{at, put}
use Rattle.shinri_core.proofs.Memory.Stores.{other_place, length_put}
use Rattle.shinri_core.specs.Memory.Table.{context, MayApply}
use Rattle.shinri_core.specs.Memory.Codes.{MkApp}
use Rattle.shinri_core.specs.declared.ids.TermId.{TermId}
use Rattle.shinri_core.proofs.Lists.{T_true, true_T, zeros}
use Rattle.theory.specs.EqEngine.{are_equal}
use Rattle.theory.specs.Memory.Table.{merges}
use Rattle.theory.proofs.Classes.{equal_refl, equal_sym}
use Rattle.solver.specs.State.{State, MadeIn, with_terms, equal, made_in, make_app}
use Rattle.solver.specs.Rules.{Ruled, pass, then, equate_field, collapse_at, try_each}
use Rattle.solver.specs.declared.answer.TCheck as TCheck
use Rattle.solver.specs.Memory.Table.{EMITTED, is_set, flagged, flagged_from, dt_with, state_with}
use Rattle.solver.specs.Memory.Work.{W_MARK, state_at, apps_from, first_in_class, app_word, CheckSound, ctor_meaning, CtorOfClass, CtorOf}
use Rattle.std.specs.Prelude.{Some, Ok, Err}
use Rattle.shinri_core.specs.declared.ids.SymbolId.{SymbolId}
use Rattle.solver.specs.Memory.Answer.{Outcome, Tried, RuleAnswer}
use Rattle.solver.specs.Memory.Collapse.{when, by_apps, at_made, selection, SelectorOn, FLAGS, Collapsible, Collapsed, DoneSound, CollapsesOnce, SelectedBy, CollapsibleOnce}
use Rattle.solver.specs.Memory.Making.{MadeOutcome, MadeWithin, MakesTerm, Made}
use Rattle.solver.proofs.Basics.{first_some, gather_in}
use Rattle.solver.proofs.Terms.{extends_then, app, extends_symbol, extends_term, extends_length}
use Rattle.solver.proofs.Signature.{selector_ctor, selector_index}
use Rattle.solver.proofs.Apps.{op_is, ctor_app_is}
use Rattle.solver.proofs.Repeats.{mk_app_again, GoesOn, try_each_does, try_each_idle, SelectedOn, selected_keeps, collapse_goes_on, collapse_does, collapse_again}
use Rattle.solver.proofs.Memory.Growing.{may_apply, old_children, old_ctor_app, old_apps}
use Rattle.solver.proofs.Memory.Trying.{sat_split, tried_pass, tried_as, err_not_sat}
use Rattle.solver.proofs.Memory.Unfitting.{onward_through, try_onward, equate_field_onward, collapse_at_onward}
use Rattle.solver.proofs.Memory.Flags.{has, flagged_in}
use Rattle.solver.proofs.Memory.Chains.{chain_from, apps_here, all_apps, to_first, still_under}
use Rattle.solver.proofs.Memory.Collapsing.{made_none, made_is, app_is_term, makeable, makes, own_rule, collapse_others}

-- ---- what passed once

-- an application that the rule passes on is settled
passed_selected : (x : SelApp) (a : CtorApp) (S : State) → collapse_at x a S ≡ pass S →
    SelectedOn x.selector x.ctor x.index x.arg a S
unfolding pass
passed_selected x a S e =
    subst (λ (r : Ruled). SelectedOn x.selector x.ctor x.index x.arg a r.state) e
    (collapse_does x a S (ap (λ (r : Ruled). r.answer) e))

-- settled for one argument of a class is settled for another
selected_passes : (f ctor i y arg : ℕ) (a : CtorApp) (S : State) → Formed S.terms → T (equal S y arg) → SelectedOn f ctor i y a S →
    collapse_at (selection f ctor i arg) a S ≡ pass S
selected_passes f ctor i y arg a S F q d = collapse_again (selection f ctor i arg) a S f ctor i y F refl refl refl q d

-- ---- flags

-- where all pass, each did what it does
all_selected : (x : SelApp) (as' : List CtorApp) (S S' : State) → try_each (collapse_at x) as' S ≡ pass S' → (a : CtorApp) → In a as' →
    SelectedOn x.selector x.ctor x.index x.arg a S'
unfolding pass
all_selected x as' S S' e a j =
    let (g, h) =
    try_each_does (collapse_at x) (SelectedOn x.selector x.ctor x.index x.arg) (collapse_goes_on x) (collapse_does x)
    (selected_keeps x.selector x.ctor x.index x.arg) as' S (ap (λ (r : Ruled). r.answer) e) in
    subst (λ (r : Ruled). SelectedOn x.selector x.ctor x.index x.arg a r.state) e (h a j)

all_pass : (x : SelApp) (as' : List CtorApp) (S : State) → ((a : CtorApp) → In a as' → collapse_at x a S ≡ pass S) →
    try_each (collapse_at x) as' S ≡ pass S
all_pass x as' S h =
    try_each_idle (collapse_at x) (SelectedOn x.selector x.ctor x.index x.arg) (collapse_goes_on x) (collapse_does x)
    (selected_keeps x.selector x.ctor x.index x.arg) S as' h

module _ {c e s w : List ℕ} {rule : State → Ruled} {r : RuleAnswer} {c' s' o : List ℕ} (C : CheckSound c e s w)
    (K : Tried rule c e s w r c' s' w o) (q : r ≡ Ok TCheck.TheVariants.Sat)
  where
    pub goes_on : (lv : ℕ → ℕ) → GoesOn (state_at c e s w lv) (state_at c' e s' w lv)
    unfolding state_with dt_with
    goes_on lv = record { terms = K.extends; eq = refl; emitted = ap (λ (t : List ℕ). flagged t EMITTED) (K.unchanged (sat_split r q)) }

    pub apps_back : (a : CtorApp) → In a (apps_from (context c') w 0) → In a (apps_from (context c) w 0)
    apps_back a j =
        subst (λ (as' : List CtorApp). In a as')
        (old_apps (context c) (context c') K.extends w C.work.marks 0 (omega arith)) j

    pub role_back : (f : ℕ) (ρ : Term.Role) → (symbol (context c') f).role ≡ ρ → (symbol (context c) f).role ≡ ρ
    role_back f ρ h = ap (λ (z : Symbol). z.role) (sym (extends_symbol (context c) (context c') f K.extends)) ∙ h

    collapsed_keeps : (z : ℕ) → Collapsed c e s w z → Collapsed c' e s' w z
    unfolding equal state_with
    collapsed_keeps z D = record {
      within = let l = extends_length (context c) (context c') K.extends in let h = D.within in omega arith;
      passes = λ f y ctor i p ρ lv a j.
          selected_passes f ctor i y y a (state_at c' e s' w lv) K.sound.state.formed (equal_refl (merges e) y)
          (selected_keeps f ctor i y a (state_at c e s w lv) (state_at c' e s' w lv) (goes_on lv)
          (passed_selected (selection f ctor i y) a (state_at c e s w lv)
          (D.passes f y ctor i (sym (extends_term (context c) (context c') z K.extends D.within) ∙ p)
          (role_back f (Selector ctor i) ρ) lv a (apps_back a j))));
    }

    -- a rule that passes keeps what was done
    pub done_keeps : {d : List ℕ} → DoneSound c e s w d → DoneSound c' e s' w d
    done_keeps D = record { long = D.long; done = λ z l h. collapsed_keeps z (D.done z l h) }

-- ---- a flag asked and set

-- a word that is not 0 is a flag
pub flag_set : (n : ℕ) {m : ℕ} → m ≡ n → (m ≡ 0 → ⊥) → is_set n ≡ true
unfolding is_set
flag_set zero q h = absurd (h q)
flag_set (suc n) q h = refl

module _ {c e s w d : List ℕ} {f ctor i arg z : ℕ} {o : List ℕ} (P : SelectedBy c e s w d f ctor i arg z o) where
  abbrev rule : State → Ruled
  rule = by_apps (collapse_at (selection f ctor i arg))

  C : CheckSound c e s w
  C = P.on.under.check

  pub node : z < max_terms
  node = let l = P.within in omega (arith, C.state.core.term_count, C.state.core.terms_fit)

  -- it was done: the rule passes, for every argument of the class
  pub done_passes : {o' : List ℕ} → is_set (at d FLAGS z) ≡ true → CollapsesOnce rule c e s w (Ok TCheck.TheVariants.Sat) c s d o'
  unfolding equal state_with
  done_passes h = record {
    tried = tried_pass C (λ lv.
        let S = state_at c e s w lv in
        let near = equal_sym (merges e) arg P.y (true_T (are_equal (merges e) arg P.y) P.near) in
        all_apps (collapse_at (selection f ctor i arg)) c s e w lv
        ∙ all_pass (selection f ctor i arg) (apps_from (context c) w 0) S (λ a j.
        selected_passes f ctor i P.y arg a S C.state.formed near
        (passed_selected (selection f ctor i P.y) a S
        ((P.flags.done z node h).passes f P.y ctor i P.is P.on.role lv a j))));
    flags = λ q. P.flags;
  }

  module _ {r : RuleAnswer} {c' s' o' : List ℕ} (K : Tried rule c e s w r c' s' w o') where
    module _ (q : r ≡ Ok TCheck.TheVariants.Sat) where
      now_passes : (lv : ℕ → ℕ) (a : CtorApp) → In a (apps_from (context c') w 0) →
          collapse_at (selection f ctor i P.y) a (state_at c' e s' w lv) ≡ pass (state_at c' e s' w lv)
      unfolding equal state_with
      now_passes lv a j =
          let S = state_at c e s w lv in
          let S' = state_at c' e s' w lv in
          let outcome = subst (λ (m : RuleAnswer). Outcome m (rule S) S' o') q (K.outcome lv) in
          selected_passes f ctor i arg P.y a S' K.sound.state.formed (true_T (are_equal (merges e) arg P.y) P.near)
          (all_selected (selection f ctor i arg) (apps_from (context c) w 0) S S'
          (sym (all_apps (collapse_at (selection f ctor i arg)) c s e w lv) ∙ outcome) a (apps_back C K q a j))

      now_collapsed : Collapsed c' e s' w z
      now_collapsed = record {
        within = let g = extends_length (context c) (context c') K.extends in let l = P.within in omega arith;
        passes = λ f' y' ctor' i' p' ρ' lv a j.
            let one : app (Term.Uninterpreted f') (y' ∷ []) ≡ app (Term.Uninterpreted f) (P.y ∷ []) =
            sym p' ∙ extends_term (context c) (context c') z K.extends P.within ∙ P.is in
            let same_f : f' ≡ f = op_is f' f (ap (λ (x : Term). x.op) one) in
            let same_y : y' ≡ P.y = head-eq_of_cons-eq (ap (λ (x : Term). x.args) one) in
            let roles : Selector ctor' i' ≡ Selector ctor i =
            sym (role_back C K q f' (Selector ctor' i') ρ') ∙ ap (λ (n : ℕ). (symbol (context c) n).role) same_f ∙ P.on.role in
            let same_ctor = selector_ctor ctor' i' ctor i roles in
            let same_i = selector_index ctor' i' ctor i roles in
            let same : selection f' ctor' i' y' ≡ selection f ctor i P.y =
            ap₂ (λ (u v : ℕ). selection u v i' y') same_f same_ctor ∙ ap₂ (λ (u v : ℕ). selection f ctor u v) same_i same_y in
            subst⁻¹ (λ (x : SelApp). collapse_at x a (state_at c' e s' w lv) ≡ pass (state_at c' e s' w lv)) same (now_passes lv a j);
      }

      done_more : DoneSound c' e s' w (put d FLAGS z 1)
      done_more = record {
        long = let m = length_put d FLAGS z 1 in let k = P.flags.long in omega arith;
        done = λ x k b. go x k b (ℕ_discrete x z);
      }
        where
          go : (x : ℕ) → x < max_terms → is_set (at (put d FLAGS z 1) FLAGS x) ≡ true → Dec (x ≡ z) → Collapsed c' e s' w x
          go x k b (yes m) = subst⁻¹ (Collapsed c' e s' w) m now_collapsed
          go x k b (no m) = collapsed_keeps C K q x (P.flags.done x k (ap is_set (sym (other_place d FLAGS z x 1 m)) ∙ b))

    -- it is done now, and the flag is set
    pub done_now : {d' : List ℕ} → d' ≡ put d FLAGS z 1 → CollapsesOnce rule c e s w r c' s' d' o'
    done_now g = record { tried = K; flags = λ m. subst⁻¹ (DoneSound c' e s' w) g (done_more m) }

    -- it answers
    pub done_answer : {d' : List ℕ} → (r ≡ Ok TCheck.TheVariants.Sat → ⊥) → CollapsesOnce rule c e s w r c' s' d' o'
    done_answer n = record { tried = K; flags = λ m. absurd (n m) }

-- ---- the selector on the lowest application is made first

-- terms made before a rule that come to the same
pub tried_from : {rule : State → Ruled} {c c₁ e s w : List ℕ} {r : RuleAnswer} {c' s' o : List ℕ} → Extends (context c) (context c₁) →
    ((lv : ℕ → ℕ) → rule (state_at c e s w lv) ≡ rule (state_at c₁ e s w lv)) → Tried rule c₁ e s w r c' s' w o →
    Tried rule c e s w r c' s' w o
tried_from {rule} {c} {c₁} {e} {s} {w} {r} {c'} {s'} {o} ex h T = record {
  sound = T.sound;
  extends = extends_then (context c) (context c₁) (context c') ex T.extends;
  outcome = λ lv. subst⁻¹ (λ (z : Ruled). Outcome r z (state_at c' e s' w lv) o) (h lv) (T.outcome lv);
  unchanged = T.unchanged;
  readable = T.readable;
}

module _ {c e s w d : List ℕ} {f ctor i arg y : ℕ} {o : List ℕ} (P : CollapsibleOnce c e s w d f ctor i arg y o) where
  abbrev low : CtorApp
  low = record { app = y; ctor = ctor; fields = children (context c) y }

  low_sound : CheckSound c e s w
  low_sound = P.on.under.check

  -- the lowest application, as a term
  low_found : (x : ℕ) × In x (flagged_from w W_MARK 0) × (ctor_app (context c) x ≡ some low)
  unfolding first_in_class apps_from
  low_found =
      gather_in (ctor_app (context c)) (flagged_from w W_MARK 0) low
      (first_some (λ (a : CtorApp). are_equal (merges e) arg a.app) (apps_from (context c) w 0) low P.lowest).0

  low_near : are_equal (merges e) arg y ≡ true
  unfolding first_in_class
  low_near =
      T_true (are_equal (merges e) arg y)
      (first_some (λ (a : CtorApp). are_equal (merges e) arg a.app) (apps_from (context c) w 0) low P.lowest).1

  low_is : ctor_app (context c) y ≡ some low
  low_is =
      let (x, j, p) = low_found in
      ap (ctor_app (context c)) (ctor_app_is (context c) x low p).app ∙ p

  low_marked : has w W_MARK y ≡ true
  low_marked =
      let (x, j, p) = low_found in
      let (k, l, m) = flagged_in w W_MARK 0 x (omega arith) j in
      ap (has w W_MARK) (ctor_app_is (context c) x low p).app ∙ m

  pub low_collapsible : Collapsible c e s w f ctor i y o
  low_collapsible = record { check = low_sound; role = P.on.role; a = low; is_app = low_is; long = P.on.under.long }

  pub low_may : MayApply c f (y ∷ [])
  unfolding low_collapsible
  low_may = may_apply (makeable low_collapsible refl)

  -- the rule begins at the lowest application
  abbrev low_rule : CtorApp → State → Ruled
  low_rule = collapse_at (selection f ctor i arg)

  abbrev low_next : State → Ruled
  low_next S = try_each low_rule (apps_from (context c) w (suc y)) S

  low_node : y < max_terms
  low_node = let l = app_is_term c low low_is in omega (arith, low_sound.state.core.term_count, low_sound.state.core.terms_fit)

  begins : (c₁ : List ℕ) (lv : ℕ → ℕ) →
      try_each low_rule (apps_from (context c) w 0) (state_at c₁ e s w lv) ≡ then (low_rule low (state_at c₁ e s w lv)) low_next
  unfolding app_word chain_from try_each
  begins c₁ lv =
      to_first low_rule c₁ s e w lv c arg 0 (collapse_others (selection f ctor i arg) (merges e)) (omega arith)
      ∙ ap (λ (z : Option CtorApp). try_each low_rule (chain_from (context c) w (app_word z)) (state_at c₁ e s w lv)) P.lowest
      ∙ ap (λ (as' : List CtorApp). try_each low_rule as' (state_at c₁ e s w lv))
      (apps_here (context c) w y low low_node low_marked low_is)

  module _ {m : Made} {c₁ : List ℕ} (K : MkApp c (Term.Uninterpreted f) (y ∷ []) m c₁) where
    low_makes : MakesTerm (λ S. make_app S f (y ∷ [])) (Unit {0}) c e w m c₁ w
    unfolding low_collapsible
    low_makes = makes low_collapsible refl K

    abbrev low_field : ℕ
    low_field = get_or (children (context c) y) i 0

    low_own : (lv : ℕ → ℕ) → low_rule low (state_at c e s w lv) ≡ equate_field low_field (make_app (state_at c e s w lv) f (y ∷ []))
    unfolding when low_collapsible
    low_own lv =
        ap (λ (z : Option CtorApp). when low_rule z (state_at c e s w lv)) (sym low_is)
        ∙ own_rule low_collapsible refl arg low_near lv

    -- it does not fit
    pub once_none : {o' : List ℕ} {d' : List ℕ} → m ≡ Err (record {}) →
        CollapsesOnce (by_apps low_rule) c e s w (Err (record {})) c₁ s d' o'
    once_none q = record {
      tried =
          tried_as
          (made_none (λ a. then (equate_field low_field a) low_next) low_makes q low_sound (λ a.
          onward_through a.state (equate_field low_field a) low_next (equate_field_onward low_field a)
          (λ S. try_onward low_rule (collapse_at_onward (selection f ctor i arg)) (apps_from (context c) w (suc y)) S)))
          (λ lv.
          all_apps low_rule c s e w lv
          ∙ begins c lv
          ∙ ap (λ (z : Ruled). then z low_next) (low_own lv));
      flags = λ n. absurd (err_not_sat refl n);
    }

    module _ {z : TermId} (q : m ≡ Ok z) where
      made_here : (lv : ℕ → ℕ) → make_app (state_at c e s w lv) f (y ∷ []) ≡ at_made z.0 (state_at c₁ e s w lv)
      made_here lv =
          subst (λ (a : Made). MadeOutcome a (make_app (state_at c e s w lv) f (y ∷ [])) (state_at c₁ e s w lv)) q
          (low_makes.outcome s lv)

      z_within : z.0 < length (context c₁).terms
      z_within = subst (λ (a : Made). MadeWithin a (length (context c₁).terms)) q low_makes.within

      sound₁ : CheckSound c₁ e s w
      sound₁ = low_makes.sound s low_sound

      -- it is found again
      again : (lv : ℕ → ℕ) → make_app (state_at c₁ e s w lv) f (y ∷ []) ≡ at_made z.0 (state_at c₁ e s w lv)
      unfolding make_app made_in with_terms state_with
      again lv =
          ap (made_in (state_at c₁ e s w lv))
          (mk_app_again (context c₁) (Term.Uninterpreted f) (y ∷ []) z.0 sound₁.state.formed z_within (made_is low_makes q))

      role₁ : (symbol (context c₁) f).role ≡ Selector ctor i
      role₁ = ap (λ (a : Symbol). a.role) (extends_symbol (context c) (context c₁) f low_makes.extends) ∙ P.on.role

      collapsible₁ : Collapsible c₁ e s w f ctor i y o
      collapsible₁ = record {
        check = sound₁;
        role = role₁;
        a = low;
        is_app = old_ctor_app (context c) (context c₁) low_makes.extends y (app_is_term c low low_is) ∙ low_is;
        long = P.on.under.long;
      }

      low_own₁ : (lv : ℕ → ℕ) → low_rule low (state_at c₁ e s w lv) ≡ equate_field low_field (at_made z.0 (state_at c₁ e s w lv))
      unfolding when collapsible₁
      low_own₁ lv =
          ap (λ (a : Option CtorApp). when low_rule a (state_at c₁ e s w lv)) (sym collapsible₁.is_app)
          ∙ own_rule collapsible₁ refl arg low_near lv
          ∙ ap (λ (as' : List ℕ). equate_field (get_or as' i 0) (make_app (state_at c₁ e s w lv) f (y ∷ [])))
          (old_children (context c) (context c₁) low_makes.extends y (app_is_term c low low_is))
          ∙ ap (equate_field low_field) (again lv)

      -- so the rule comes to the same
      early : (lv : ℕ → ℕ) → by_apps low_rule (state_at c e s w lv) ≡ by_apps low_rule (state_at c₁ e s w lv)
      early lv =
          all_apps low_rule c s e w lv
          ∙ begins c lv
          ∙ ap (λ (a : Ruled). then a low_next) (low_own lv ∙ ap (equate_field low_field) (made_here lv) ∙ sym (low_own₁ lv))
          ∙ sym (begins c₁ lv)
          ∙ ap (λ (as' : List CtorApp). try_each low_rule as' (state_at c₁ e s w lv))
          (sym (old_apps (context c) (context c₁) low_makes.extends w low_sound.work.marks 0 (omega arith)))
          ∙ sym (all_apps low_rule c₁ s e w lv)

      -- making the term is a rule that passes
      making_passes : Tried (λ S. pass (make_app S f (y ∷ [])).state) c e s w (Ok TCheck.TheVariants.Sat) c₁ s w o
      making_passes = record {
        sound = sound₁;
        extends = low_makes.extends;
        outcome = λ lv. ap (λ (a : MadeIn). pass a.state) (made_here lv);
        unchanged = λ n. refl;
        readable = tt;
      }

      pub once_selected : {o' : List ℕ} → length o' ≡ length o → SelectedBy c₁ e s w d f ctor i arg z.0 o'
      once_selected l = record {
        on = record { under = still_under P.on.under sound₁ low_makes.extends l; role = role₁; within = P.on.within };
        flags = done_keeps low_sound making_passes refl P.flags;
        within = z_within;
        y = y;
        is = made_is low_makes q;
        near = low_near;
      }

      pub once_some : {r : RuleAnswer} {c' s' d' o' : List ℕ} → CollapsesOnce (by_apps low_rule) c₁ e s w r c' s' d' o' →
          CollapsesOnce (by_apps low_rule) c e s w r c' s' d' o'
      once_some T = record { tried = tried_from low_makes.extends early T.tried; flags = T.flags }

-- ---- a class whose lowest application is of another constructor, or that has none

pub not_once : {rule : State → Ruled} {c e s w d : List ℕ} {r : RuleAnswer} {c' s' o : List ℕ} → CheckSound c e s w →
    DoneSound c e s w d → Tried rule c e s w r c' s' w o → CollapsesOnce rule c e s w r c' s' d o
not_once C D T = record { tried = T; flags = λ q. done_keeps C T q D }

pub lowest_is : {c e s w d : List ℕ} {f ctor i arg : ℕ} {o : List ℕ} {a : CtorOf} {g : SymbolId} {x : TermId} →
    SelectorOn c e s w f ctor i arg o → DoneSound c e s w d → CtorOfClass c e w arg a → a ≡ Some (g, x) → g.0 ≡ ctor →
    CollapsibleOnce c e s w d f ctor i arg x.0 o
unfolding ctor_meaning
lowest_is {c} {x = x} P D K q h = record {
  on = P;
  flags = D;
  lowest =
      sym K.is
      ∙ ap (ctor_meaning (context c)) q
      ∙ ap (λ (n : ℕ). some (record { app = x.0; ctor = n; fields = children (context c) x.0 })) h;
}

-- at first no flag is set
pub done_first : {c e s w : List ℕ} (n : ℕ) → max_terms ≤ n → DoneSound c e s w (replicate n 0)
unfolding at is_set
done_first n l = record {
  long = let e = length-replicate {A = ℕ} n 0 in omega arith;
  done = λ z h q. absurd (true≢false (sym q ∙ ap is_set (zeros n (FLAGS + z))));
}
