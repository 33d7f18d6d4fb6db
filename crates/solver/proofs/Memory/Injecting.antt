-- Injectivity: selectors are made pair by pair of applications. Terms made are no constructor applications, so the list of those stays;
-- and what is not in the class of an application changes nothing with it.
use Rattle.shinri_core.proofs.Kit.{ℕ, zero, suc, ◌+◌, ◌-◌, ◌≤◌, ◌<◌, ◌%◌, ◌≡◌, refl, sym, ap, ◌∙◌, subst, subst⁻¹, ◌⊎◌, inl, inr, Bool, true, false, cond, false≢true, List, [], ◌∷◌, foldl, some, dec_lt, ℕ_discrete, arith, eqb, eq-eqb, ne_eqb, eqb-true, length}
use Rattle.shinri_core.specs.Limits.{max_symbols, max_terms}
use Rattle.shinri_core.specs.Lists.{In, mem, insert, range, beside, pairs}
use Rattle.shinri_core.specs.Term as Term
use Rattle.shinri_core.specs.Term.{Term, Symbol, Constructor, Selector, Function}
use Rattle.shinri_core.specs.Context.{Context, CtorApp, children, symbol, term, is_datatype_sort, mk_app, terms_fit, dt_selectors}
use Rattle.shinri_core.specs.Formed.{Signed, Extends}
use Rattle.shinri_core.specs.Memory.Words.{at}
use Rattle.shinri_core.specs.Memory.Table.{context}
use Rattle.shinri_core.specs.declared.ids.SymbolId as SymbolId
use Rattle.shinri_core.specs.declared.ids.TermId as TermId
use Rattle.shinri_core.proofs.Lists.{and_no, T_true, in_range}
use Rattle.theory.specs.EqEngine.{are_equal}
use Rattle.theory.specs.Memory.Table.{merges}
use Rattle.theory.proofs.Classes.{equal_refl}
use Rattle.solver.specs.State.{State, MadeIn, with_terms, with_marks, with_dt, ctor_apps, equal, mark, made_in, make_app, marked_in, mint}
use Rattle.solver.specs.Rules.{pass, mint_on_both, same_constructor, mint_selectors, instantiate_injectivity_selectors}
use Rattle.std.specs.Prelude.{Some, Ok, Err}
use Rattle.solver.specs.Memory.Table.{is_set, flagged_from, term_kind, MarksAre, dt_with, state_with}
use Rattle.solver.specs.Memory.Work.{W_MARK, NEXT, work_marks, apps_from, first_in_class, app_word, word_from, ctor_meaning, state_at, ChainSound, CtorAsked, CtorOfClass, CtorOf}
use Rattle.solver.specs.Memory.Making.{Making, Makeable, MakesTerm, Made}
use Rattle.solver.specs.Memory.ConstructorClash.{op_symbol, symbol_of, app_at, MarkedApp}
use Rattle.solver.specs.Memory.Injecting.{Moves, StepOutcome, Steps, Selects, Selectable, SelectableBoth, Applies, AppliesBoth, OneClass, TwoTerms, KnownAfter, Injectable, HasSelector, AllSelected, SelectedBelow, InjectableAt, AppAsked, Covered, select_both, select_with, select_from, Stepped, Injects}
use Rattle.solver.proofs.Basics.{some_is}
use Rattle.solver.proofs.Terms.{mk_app_makes, extends_self, extends_then, extends_symbol, extends_term, extends_length, extends_sort_of}
use Rattle.solver.proofs.Signature.{constructor_selector, constructor_function, selector_function, declared_role}
use Rattle.solver.proofs.Moves.{sort_by_op}
use Rattle.solver.proofs.Apps.{app_within}
use Rattle.solver.proofs.Memory.Flags.{has, also, insert_members, mem_members, flagged_mem}
use Rattle.solver.proofs.Memory.Roles.{kind_ctor, sel_kind, kind_kept}
use Rattle.solver.proofs.Memory.Growing.{old_children, marked_within, only_below}
use Rattle.solver.proofs.Memory.NoRooms.{err_not_ok}
use Rattle.solver.proofs.Memory.Unfitting.{Onward, onward_unfit, fold_onward, mint_onward, mint_on_both_onward, mint_selectors_onward}
use Rattle.solver.proofs.Memory.AppNumbers.{apps_step, apps_none, marked_app_within, app_in, first_at, WordIs, word_is, word_less}
use Rattle.solver.proofs.Memory.ConstructorClash.{class_carries, turned, LowestIs, lowest_word}
use Rattle.solver.proofs.Memory.Selected.{Has, both_keeps, pair_keeps, pair_gives, with_keeps, with_gives, mint_again, pair_again, idle}

-- ---- the list of marked applications stays

-- the applications from i on by two tables that mark the same ones
module _ (cx cx' : Context) (w w' : List ℕ) (E : Extends cx cx') (M : MarksAre cx w W_MARK) (M' : MarksAre cx' w' W_MARK) where
  pub app_same : (x : ℕ) → x < length cx.terms → app_at cx' x ≡ app_at cx x
  unfolding symbol_of
  app_same x l = rw (extends_term cx cx' x E l, old_children cx cx' E x l)

  symbol_same : (x : ℕ) → MarkedApp w x → symbol_of cx' x ≡ symbol_of cx x
  symbol_same x m = ap (λ (a : CtorApp). a.ctor) (app_same x (marked_app_within cx w M x m))

  module _ (more : (y : ℕ) → MarkedApp w y → MarkedApp w' y) (less : (y : ℕ) → MarkedApp w' y → MarkedApp w y) where
    mark_same : (y : ℕ) → y < max_terms → eqb (at w' W_MARK y) 1 ≡ eqb (at w W_MARK y) 1
    mark_same y l = go (ℕ_discrete (at w W_MARK y) 1)
      where
        go : Dec (at w W_MARK y ≡ 1) → eqb (at w' W_MARK y) 1 ≡ eqb (at w W_MARK y) 1
        go (yes e) = eq-eqb (at w' W_MARK y) 1 (more y (record { node = l; mark = e })).mark ∙ sym (eq-eqb (at w W_MARK y) 1 e)
        go (no e) = ne_eqb (at w' W_MARK y) 1 (λ d. e (less y (record { node = l; mark = d })).mark) ∙ sym (ne_eqb (at w W_MARK y) 1 e)

    same_from : (n i : ℕ) → n + i ≡ max_terms → apps_from cx' w' i ≡ apps_from cx w i
    same_from zero i e = apps_none cx' w' M' i (omega arith) ∙ sym (apps_none cx w M i (omega arith))
    same_from (suc n) i e =
        apps_step cx' w' M' i (omega arith)
        ∙ go (eqb (at w W_MARK i) 1) refl (same_from n (suc i) (omega arith))
        ∙ sym (apps_step cx w M i (omega arith))
      where
        go : (b : Bool) → eqb (at w W_MARK i) 1 ≡ b → apps_from cx' w' (suc i) ≡ apps_from cx w (suc i) →
            cond (eqb (at w' W_MARK i) 1) (app_at cx' i ∷ apps_from cx' w' (suc i)) (apps_from cx' w' (suc i))
            ≡ cond (eqb (at w W_MARK i) 1) (app_at cx i ∷ apps_from cx w (suc i)) (apps_from cx w (suc i))
        go true d r =
            let m = marked_app_within cx w M i (record { node = omega arith; mark = eqb-true (at w W_MARK i) 1 d }) in
            rw (mark_same i (omega arith), d, app_same i m, r)
        go false d r = rw (mark_same i (omega arith), d, r)

    pub apps_same : (i : ℕ) → i ≤ max_terms → apps_from cx' w' i ≡ apps_from cx w i
    apps_same i l = same_from (max_terms - i) i (omega arith)

-- ---- a selector made and marked

selector_kind : (cx : Context) (x f k i : ℕ) → (term cx x).op ≡ Term.Uninterpreted f → (symbol cx f).role ≡ Selector k i →
    term_kind cx x ≡ 1 → ⊥
selector_kind cx x f k i o r e = go (is_datatype_sort cx (symbol cx f).result) (sym (sel_kind cx x f o k i r) ∙ e)
  where
    go : (d : Bool) → ◌≡◌ {A = ℕ} (cond d 3 2) 1 → ⊥
    go true h = omega arith
    go false h = omega arith

module _ {c e w c' w' : List ℕ} {f a : ℕ} {y : TermId.TermId} (S : Selectable c e w f a)
    (K : MakesTerm (λ s. mint s f (a ∷ [])) ((symbol (context c) f).role ≡ Constructor → ⊥) c e w (Ok y) c' w') where
  abbrev made : MadeIn
  made = mint (state_at c e [] w (λ i. 0)) f (a ∷ [])

  abbrev now_is : MadeIn
  now_is = record { id = y.0; state = state_at c' e [] w' (λ i. 0) }

  made_is : made ≡ now_is
  made_is = K.outcome [] (λ i. 0)

  number_is : (mk_app (context c) (Term.Uninterpreted f) (a ∷ [])).id ≡ y.0
  unfolding mint marked_in make_app made_in with_terms state_with
  number_is = ap (λ (m : MadeIn). m.id) made_is

  table_is : (mk_app (context c) (Term.Uninterpreted f) (a ∷ [])).context ≡ context c'
  unfolding mint marked_in mark make_app made_in with_terms with_marks with_dt state_with
  table_is = ap (λ (m : MadeIn). m.state.terms) made_is

  marks_are : insert (mk_app (context c) (Term.Uninterpreted f) (a ∷ [])).id (work_marks w) ≡ work_marks w'
  unfolding mint marked_in mark make_app made_in with_terms with_marks with_dt state_with dt_with
  marks_are = ap (λ (m : MadeIn). m.state.dt.marks) made_is

  op_is_selector : (term (context c') y.0).op ≡ Term.Uninterpreted f
  op_is_selector =
      let h = (mk_app_makes (context c) (Term.Uninterpreted f) (a ∷ [])).made in
      ap (λ (t : Term). t.op) (rw (table_is, number_is) at h)

  not_ctor : term_kind (context c') y.0 ≡ 1 → ⊥
  not_ctor =
      selector_kind (context c') y.0 f S.selects.ctor S.selects.index op_is_selector
      (ap (λ (z : Symbol). z.role) (extends_symbol (context c) (context c') f K.extends) ∙ S.selects.role)

  made_node : y.0 < max_terms
  made_node = let h = K.within in let l = K.making.core.terms_fit in let n = K.making.core.term_count in omega arith

  has_after : (z : ℕ) → z < max_terms → has w' W_MARK z ≡ also y.0 (has w W_MARK) z
  unfolding flagged_from
  has_after z l =
      let h = made_node in
      sym (flagged_mem w' W_MARK z l) ∙ ap (mem z) (sym marks_are)
      ∙ ap (λ (n : ℕ). mem z (insert n (work_marks w))) number_is
      ∙ ap (mem z) (insert_members y.0 0 max_terms (has w W_MARK) (omega arith) (omega arith))
      ∙ mem_members z 0 max_terms (also y.0 (has w W_MARK)) (omega arith) (omega arith)

  abbrev marks : MarksAre (context c) w W_MARK
  marks = S.making.work.marks

  abbrev marks' : MarksAre (context c') w' W_MARK
  marks' = K.making.work.marks

  marks_more : (z : ℕ) → MarkedApp w z → MarkedApp w' z
  unfolding is_set
  marks_more z m = record { node = m.node; mark = go (marks' z m.node) }
    where
      was : has w W_MARK z ≡ true
      was = ap is_set m.mark

      either : (b : Bool) → cond b true (has w W_MARK z) ≡ true
      either true = refl
      either false = was

      kind : (at w W_MARK z ≡ 0) ⊎ (at w W_MARK z ≡ term_kind (context c) z) → term_kind (context c) z ≡ 1
      kind (inl d) = let h = m.mark in absurd (omega arith)
      kind (inr d) = sym d ∙ m.mark

      go : (at w' W_MARK z ≡ 0) ⊎ (at w' W_MARK z ≡ term_kind (context c') z) → at w' W_MARK z ≡ 1
      go (inl d) = absurd (false≢true (sym (ap is_set d) ∙ has_after z m.node ∙ either (eqb z y.0)))
      go (inr d) = d ∙ kind_kept (context c) (context c') z K.extends (marked_app_within (context c) w marks z m)
          ∙ kind (marks z m.node)

  marks_less : (z : ℕ) → MarkedApp w' z → MarkedApp w z
  unfolding is_set
  marks_less z m = record { node = m.node; mark = go (marks z m.node) }
    where
      kind : (at w' W_MARK z ≡ 0) ⊎ (at w' W_MARK z ≡ term_kind (context c') z) → term_kind (context c') z ≡ 1
      kind (inl d) = let h = m.mark in absurd (omega arith)
      kind (inr d) = sym d ∙ m.mark

      other : z ≡ y.0 → ⊥
      other d = not_ctor (subst (λ (n : ℕ). term_kind (context c') n ≡ 1) d (kind (marks' z m.node)))

      was : has w W_MARK z ≡ true
      was =
          ap (λ (b : Bool). cond b true (has w W_MARK z)) (sym (ne_eqb z y.0 other)) ∙ sym (has_after z m.node) ∙ ap is_set m.mark

      go : (at w W_MARK z ≡ 0) ⊎ (at w W_MARK z ≡ term_kind (context c) z) → at w W_MARK z ≡ 1
      go (inl d) = absurd (false≢true (sym (ap is_set d) ∙ was))
      go (inr d) =
          let l = marked_within (context c) w W_MARK z marks m.node was in
          d ∙ sym (kind_kept (context c) (context c') z K.extends l) ∙ kind (marks' z m.node)

  fits : Steps (λ s. (mint s f (a ∷ [])).state) c e w (Ok tt) c' w'
  fits = record {
    moves = record {
      sound = K.sound;
      making = K.making;
      chain = K.chain (λ q. constructor_selector S.selects.ctor S.selects.index (sym q ∙ S.selects.role));
      extends = K.extends;
    };
    marks = λ q. marks_more;
    back = λ q. marks_less;
    apps = λ q i l. apps_same (context c) (context c') w w' K.extends marks marks' marks_more marks_less i l;
    outcome = λ s lv. ap (λ (m : MadeIn). m.state) (K.outcome s lv);
  }

module _ {c e w c' w' : List ℕ} {f a : ℕ} {r : Made} (S : Selectable c e w f a)
    (K : MakesTerm (λ s. mint s f (a ∷ [])) ((symbol (context c) f).role ≡ Constructor → ⊥) c e w r c' w') where
  abbrev Makes : Made → Type 0
  Makes q = MakesTerm (λ s. mint s f (a ∷ [])) ((symbol (context c) f).role ≡ Constructor → ⊥) c e w q c' w'

  pub mint_fits : {y : TermId.TermId} → r ≡ Ok y → Steps (λ s. (mint s f (a ∷ [])).state) c e w (Ok tt) c' w'
  mint_fits q = fits S (subst Makes q K)

  pub mint_full : r ≡ Err (record {}) → Steps (λ s. (mint s f (a ∷ [])).state) c e w (Err (record {})) c' w'
  mint_full q =
      let N = subst Makes q K in
      record {
        moves = record {
          sound = N.sound;
          making = N.making;
          chain = N.chain (λ z. constructor_selector S.selects.ctor S.selects.index (sym z ∙ S.selects.role));
          extends = N.extends;
        };
        marks = λ z. absurd (err_not_ok z);
        back = λ z. absurd (err_not_ok z);
        apps = λ z. absurd (err_not_ok z);
        outcome = N.outcome;
      }

pub selector_no_function : {c e w : List ℕ} {f a : ℕ} → Selectable c e w f a → (symbol (context c) f).role ≡ Function → ⊥
selector_no_function S q = selector_function S.selects.ctor S.selects.index (sym S.selects.role ∙ q)

pub selector_makeable : {c e w : List ℕ} {f a : ℕ} → Selectable c e w f a → Makeable c e w f (a ∷ [])
selector_makeable {c} {f = f} {a} S = record {
  making = S.making;
  declared = declared_role (context c) f (selector_no_function S);
  terms = only_below (length (context c).terms) a S.selects.within;
  agree = S.selects.agree;
}

pub selector_small : {c e w : List ℕ} {f a : ℕ} → Selectable c e w f a → f < max_symbols
selector_small {c} {f = f} S =
    let h = declared_role (context c) f (selector_no_function S) in
    let n = S.making.core.symbol_count in
    let l = S.making.core.symbols_fit in
    omega arith

-- ---- steps one after the other

moves_then : {c e w c₁ w₁ c₂ w₂ : List ℕ} → Moves c e w c₁ w₁ → Moves c₁ e w₁ c₂ w₂ → Moves c e w c₂ w₂
moves_then {c} {c₁ = c₁} {c₂ = c₂} A B = record {
  sound = λ s h. B.sound s (A.sound s h);
  making = B.making;
  chain = λ h. B.chain (A.chain h);
  extends = extends_then (context c) (context c₁) (context c₂) A.extends B.extends;
}

moves_none : {c e w : List ℕ} → Making c e w → Moves c e w c w
moves_none {c} M = record { sound = λ s h. h; making = M; chain = λ h. h; extends = extends_self (context c) }

-- the work F on the state before is the work G on the state now
pub record Onway (F G : State → State) (c e w c' w' : List ℕ) : Type 0 where
  pub moves : Moves c e w c' w'
  pub marks : (x : ℕ) → MarkedApp w x → MarkedApp w' x
  pub back : (x : ℕ) → MarkedApp w' x → MarkedApp w x
  pub apps : (i : ℕ) → i ≤ max_terms → apps_from (context c') w' i ≡ apps_from (context c) w i
  pub rest : (s : List ℕ) (lv : ℕ → ℕ) → F (state_at c e s w lv) ≡ G (state_at c' e s w' lv)

module _ {F G : State → State} {c e w c₁ w₁ : List ℕ} (O : Onway F G c e w c₁ w₁) where
  -- H is done, and K is left
  onway_next : {H : State → State} {c₂ w₂ : List ℕ} (K G' : State → State) → Steps H c₁ e w₁ (Ok tt) c₂ w₂ →
      ((s : List ℕ) (lv : ℕ → ℕ) → G (state_at c₁ e s w₁ lv) ≡ K (H (state_at c₁ e s w₁ lv))) →
      ((s : List ℕ) (lv : ℕ → ℕ) → K (state_at c₂ e s w₂ lv) ≡ G' (state_at c₂ e s w₂ lv)) → Onway F G' c e w c₂ w₂
  onway_next K G' X h k = record {
    moves = moves_then O.moves X.moves;
    marks = λ x m. X.marks refl x (O.marks x m);
    back = λ x m. O.back x (X.back refl x m);
    apps = λ i l. X.apps refl i l ∙ O.apps i l;
    rest = λ s lv. O.rest s lv ∙ h s lv ∙ ap K (X.outcome s lv) ∙ k s lv;
  }

  -- H does not fit
  onway_stop : {H : State → State} {c₂ w₂ : List ℕ} (K : State → State) → ((S : State) → Onward S (K S)) → Steps H c₁ e w₁ (Err (record {})) c₂ w₂ →
      ((s : List ℕ) (lv : ℕ → ℕ) → G (state_at c₁ e s w₁ lv) ≡ K (H (state_at c₁ e s w₁ lv))) → Steps F c e w (Err (record {})) c₂ w₂
  onway_stop {H} K n X h = record {
    moves = moves_then O.moves X.moves;
    marks = λ z. absurd (err_not_ok z);
    back = λ z. absurd (err_not_ok z);
    apps = λ z. absurd (err_not_ok z);
    outcome = λ s lv.
        subst⁻¹ (λ (S : State). terms_fit S.terms ≡ false) (O.rest s lv ∙ h s lv)
        (onward_unfit (H (state_at c₁ e s w₁ lv)) (K (H (state_at c₁ e s w₁ lv))) (n (H (state_at c₁ e s w₁ lv))) (X.outcome s lv));
  }

  onway_done : ((s : List ℕ) (lv : ℕ → ℕ) → G (state_at c₁ e s w₁ lv) ≡ state_at c₁ e s w₁ lv) → Steps F c e w (Ok tt) c₁ w₁
  onway_done h = record {
    moves = O.moves;
    marks = λ z. O.marks;
    back = λ z. O.back;
    apps = λ z. O.apps;
    outcome = λ s lv. O.rest s lv ∙ h s lv;
  }

onway_first : {F G : State → State} {c e w : List ℕ} → Making c e w →
    ((s : List ℕ) (lv : ℕ → ℕ) → F (state_at c e s w lv) ≡ G (state_at c e s w lv)) → Onway F G c e w c w
onway_first M h = record { moves = moves_none M; marks = λ x m. m; back = λ x m. m; apps = λ i l. refl; rest = h }

-- a step by another name
steps_as : {F G : State → State} {c e w c' w' : List ℕ} {r : Stepped} → Steps F c e w r c' w' →
    ((s : List ℕ) (lv : ℕ → ℕ) → G (state_at c e s w lv) ≡ F (state_at c e s w lv)) → Steps G c e w r c' w'
steps_as {c = c} {e} {w} {c'} {w'} {r} X h = record {
  moves = X.moves;
  marks = X.marks;
  back = X.back;
  apps = X.apps;
  outcome = λ s lv. subst⁻¹ (λ (S : State). StepOutcome r S (state_at c' e s w' lv)) (h s lv) (X.outcome s lv);
}

-- ---- a selector on two terms

selects_kept : {cx cx' : Context} {f x : ℕ} → Extends cx cx' → Selects cx f x → Selects cx' f x
selects_kept {cx} {cx'} {f} {x} E S =
    let l = extends_length cx cx' E in
    let h = S.within in
    record {
      ctor = S.ctor;
      index = S.index;
      role = ap (λ (z : Symbol). z.role) (extends_symbol cx cx' f E) ∙ S.role;
      within = omega arith;
      agree = rw (extends_symbol cx cx' f E, extends_sort_of cx cx' x E h) S.agree;
    }

module _ {c e w : List ℕ} {f p q : ℕ} {known : Bool} (B : SelectableBoth c e w f p q known) where
  pub both_first : Selectable c e w f p
  both_first = record { making = B.making; selects = B.first }

  pub both_last : Selectable c e w f q
  both_last = record { making = B.making; selects = B.second }

  -- to make it on p again changes nothing
  pub both_known : {r : Stepped} {c₁ w₁ : List ℕ} → known ≡ true → Steps (λ s. (mint s f (q ∷ [])).state) c e w r c₁ w₁ →
      Steps (λ s. mint_on_both p q s f) c e w r c₁ w₁
  unfolding mint_on_both
  both_known t X =
      steps_as X (λ s lv. ap (λ (z : State). (mint z f (q ∷ [])).state) (mint_again c e w B.making.formed s lv f p (B.has t)))

module _ {c e w c₁ w₁ : List ℕ} {f p q : ℕ} {known : Bool} (B : SelectableBoth c e w f p q known) where
  pub both_second : {r : Stepped} → Steps (λ s. (mint s f (p ∷ [])).state) c e w r c₁ w₁ → Selectable c₁ e w₁ f q
  both_second X = record { making = X.moves.making; selects = selects_kept X.moves.extends B.second }

  pub both_done : {r r₂ : Stepped} {c₂ w₂ : List ℕ} → Steps (λ s. (mint s f (p ∷ [])).state) c e w r c₁ w₁ → r ≡ Ok tt →
      Steps (λ s. (mint s f (q ∷ [])).state) c₁ e w₁ r₂ c₂ w₂ → Steps (λ s. mint_on_both p q s f) c e w r₂ c₂ w₂
  unfolding mint_on_both
  both_done {r₂ = r₂} {c₂} {w₂} X t Y =
      let X' = subst (λ (z : Stepped). Steps (λ s. (mint s f (p ∷ [])).state) c e w z c₁ w₁) t X in
      record {
        moves = moves_then X'.moves Y.moves;
        marks = λ z x m. Y.marks z x (X'.marks refl x m);
        back = λ z x m. X'.back refl x (Y.back z x m);
        apps = λ z i l. Y.apps z i l ∙ X'.apps refl i l;
        outcome = λ s lv.
            subst⁻¹ (λ (S : State). StepOutcome r₂ (mint S f (q ∷ [])).state (state_at c₂ e s w₂ lv)) (X'.outcome s lv)
            (Y.outcome s lv);
      }

  pub both_full : {r : Stepped} → Steps (λ s. (mint s f (p ∷ [])).state) c e w r c₁ w₁ → r ≡ Err (record {}) →
      Steps (λ s. mint_on_both p q s f) c e w (Err (record {})) c₁ w₁
  unfolding mint_on_both
  both_full X t =
      let X' = subst (λ (z : Stepped). Steps (λ s. (mint s f (p ∷ [])).state) c e w z c₁ w₁) t X in
      record {
        moves = X'.moves;
        marks = λ z. absurd (err_not_ok z);
        back = λ z. absurd (err_not_ok z);
        apps = λ z. absurd (err_not_ok z);
        outcome = λ s lv.
            let half = (mint (state_at c e s w lv) f (p ∷ [])).state in
            onward_unfit half (mint half f (q ∷ [])).state (mint_onward half f (q ∷ [])) (X'.outcome s lv);
      }

-- ---- selectors that are there stay

dt_selectors_kept : (cx cx' : Context) → Extends cx cx' → (k : ℕ) → dt_selectors cx' k ≡ dt_selectors cx k
unfolding dt_selectors
dt_selectors_kept cx cx' E k = rw (extends_symbol cx cx' k E)

module _ {F : State → State} {c e w c' w' : List ℕ} (X : Steps F c e w (Ok tt) c' w') where
  -- what the step gives stands in the tables
  steps_give : (f x : ℕ) → Has (F (state_at c e [] w (λ i. 0))) f x → HasSelector (context c') (work_marks w') f x
  unfolding state_with dt_with
  steps_give f x H = subst (λ (z : State). Has z f x) (X.outcome [] (λ i. 0)) H

  all_kept : ((S : State) (g x : ℕ) → Has S g x → Has (F S) g x) → (k x : ℕ) → AllSelected (context c) (work_marks w) k x →
      AllSelected (context c') (work_marks w') k x
  unfolding state_with dt_with
  all_kept h k x A f i =
      steps_give f x (h (state_at c e [] w (λ j. 0)) f x
      (A f (subst (λ (fs : List ℕ). In f fs) (dt_selectors_kept (context c) (context c') X.moves.extends k) i)))

-- ---- the selectors of a constructor on two of its applications

applies_kept : {cx cx' : Context} {k p : ℕ} → Extends cx cx' → Applies cx k p → Applies cx' k p
applies_kept {cx} {cx'} {k} {p} E A = record {
  op = ap (λ (t : Term). t.op) (extends_term cx cx' p E (app_within cx p k A.op)) ∙ A.op;
  role = ap (λ (z : Symbol). z.role) (extends_symbol cx cx' k E) ∙ A.role;
}

applies_selects : {cx : Context} {k p i : ℕ} → Signed cx → Applies cx k p → i < length (symbol cx k).params → Selects cx (k + 2 + i) p
applies_selects {cx} {k} {p} {i} S A l =
    let r = S.own_selector k i A.role l in
    record {
      ctor = k;
      index = i;
      role = r;
      within = app_within cx p k A.op;
      agree = ap (λ (z : ℕ). z ∷ []) (sort_by_op cx p k A.op) ∙ sym (S.selector (k + 2 + i) k i r).1;
    }

pub applies_declared : {c e w : List ℕ} {k p q : ℕ} {known : Bool} → AppliesBoth c e w k p q known → k < length (context c).symbols
applies_declared {c} {k = k} B = declared_role (context c) k (λ z. constructor_function (sym B.first.role ∙ z))

pub applies_small : {c e w : List ℕ} {k p q : ℕ} {known : Bool} → AppliesBoth c e w k p q known → k < max_symbols
applies_small B =
    let h = applies_declared B in
    let n = B.making.core.symbol_count in
    let l = B.making.core.symbols_fit in
    omega arith

-- i of n selectors are done
pub record Each (k p q : ℕ) (known : Bool) (c e w c' w' : List ℕ) (n i : ℕ) : Type 0 where
  pub both : AppliesBoth c' e w' k p q known
  pub count : n ≡ length (symbol (context c') k).params
  pub within : i ≤ n
  pub way : Onway (select_both (context c) k p q) (λ s. foldl (mint_on_both p q) s (range (k + 2 + i) (n - i))) c e w c' w'

pub each_first : {k p q : ℕ} {known : Bool} {c e w : List ℕ} {n : ℕ} → AppliesBoth c e w k p q known →
    n ≡ length (symbol (context c) k).params → Each k p q known c e w c w n 0
unfolding select_both dt_selectors
each_first {k} {p} {q} {known} {c} {e} {w} {n} B h =
    let d : n - 0 ≡ n = omega arith in
    let f : k + 2 + 0 ≡ k + 2 = omega arith in
    record { both = B; count = h; within = omega arith; way = onway_first B.making (λ s lv. rw (d, f, h)) }

module _ {k p q : ℕ} {known : Bool} {c e w c₁ w₁ : List ℕ} {n i : ℕ} (I : Each k p q known c e w c₁ w₁ n i) where
  pub each_asked : i < n → SelectableBoth c₁ e w₁ (k + 2 + i) p q known
  unfolding dt_selectors
  each_asked l =
      let M = I.both.making in
      let h = I.count in
      record {
        making = M;
        first = applies_selects M.signed I.both.first (omega arith);
        second = applies_selects M.signed I.both.second (omega arith);
        has = λ t. I.both.has t (k + 2 + i)
            (in_range (k + 2) (length (symbol (context c₁) k).params) (k + 2 + i) (omega arith) (omega arith));
      }

  abbrev left : State → State
  left s = foldl (mint_on_both p q) s (range (k + 2 + (i + 1)) (n - (i + 1)))

  unrolled : i < n → (S : State) → foldl (mint_on_both p q) S (range (k + 2 + i) (n - i)) ≡ left (mint_on_both p q S (k + 2 + i))
  unfolding range
  unrolled l S =
      let d : n - i ≡ suc (n - (i + 1)) = omega arith in
      let f : k + 2 + (i + 1) ≡ suc (k + 2 + i) = omega arith in
      rw (d, f)

  pub each_next : {r : Stepped} {c₂ w₂ : List ℕ} → i < n → Steps (λ s. mint_on_both p q s (k + 2 + i)) c₁ e w₁ r c₂ w₂ → r ≡ Ok tt →
      Each k p q known c e w c₂ w₂ n (i + 1)
  each_next {c₂ = c₂} {w₂} l X t =
      let X' = subst (λ (z : Stepped). Steps (λ s. mint_on_both p q s (k + 2 + i)) c₁ e w₁ z c₂ w₂) t X in
      let E = X'.moves.extends in
      record {
        both = record {
          making = X'.moves.making;
          first = applies_kept E I.both.first;
          second = applies_kept E I.both.second;
          has = λ d. all_kept X' (λ S g x H. both_keeps p q S (k + 2 + i) g x H) k p (I.both.has d);
        };
        count = I.count ∙ ap (λ (z : Symbol). length z.params) (sym (extends_symbol (context c₁) (context c₂) k E));
        within = omega arith;
        way = onway_next I.way left left X' (λ s lv. unrolled l (state_at c₁ e s w₁ lv)) (λ s lv. refl);
      }

  pub each_stop : {r : Stepped} {c₂ w₂ : List ℕ} → i < n → Steps (λ s. mint_on_both p q s (k + 2 + i)) c₁ e w₁ r c₂ w₂ → r ≡ Err (record {}) →
      Steps (select_both (context c) k p q) c e w (Err (record {})) c₂ w₂
  each_stop {c₂ = c₂} {w₂} l X t =
      let X' = subst (λ (z : Stepped). Steps (λ s. mint_on_both p q s (k + 2 + i)) c₁ e w₁ z c₂ w₂) t X in
      onway_stop I.way left
      (fold_onward (λ (z : State). z) (mint_on_both p q) (mint_on_both_onward p q) (range (k + 2 + (i + 1)) (n - (i + 1))))
      X' (λ s lv. unrolled l (state_at c₁ e s w₁ lv))

  pub each_done : n ≤ i → Steps (select_both (context c) k p q) c e w (Ok tt) c₁ w₁
  unfolding range
  each_done l = let d : n - i ≡ 0 = let h = I.within in omega arith in onway_done I.way (λ s lv. rw d)

-- ---- two applications of one class

kind_applies : (cx : Context) (x : ℕ) → term_kind cx x ≡ 1 → Applies cx (symbol_of cx x) x
unfolding symbol_of op_symbol
kind_applies cx x e = let (f, p, q, r) = kind_ctor cx x e in record { op = rw p; role = rw p q }

module _ {c e w : List ℕ} {p q : ℕ} {known : Bool} (B : OneClass c e w p q known) where
  abbrev cx : Context
  cx = context c

  abbrev marked : MarksAre cx w W_MARK
  marked = B.making.work.marks

  applies_own : (x : ℕ) → MarkedApp w x → Applies cx (symbol_of cx x) x
  applies_own x m = kind_applies cx x (go (marked x m.node))
    where
      go : (at w W_MARK x ≡ 0) ⊎ (at w W_MARK x ≡ term_kind cx x) → term_kind cx x ≡ 1
      go (inl d) = let h = m.mark in absurd (omega arith)
      go (inr d) = sym d ∙ m.mark

  pub lower_within : p < length cx.terms
  lower_within = marked_app_within cx w marked p B.lower

  pub higher_within : q < length cx.terms
  higher_within = marked_app_within cx w marked q B.higher

  pub same_asked : {k j : ℕ} → k ≡ symbol_of cx p → j ≡ symbol_of cx q → j ≡ k → AppliesBoth c e w k p q known
  same_asked h g d = record {
    making = B.making;
    first = subst⁻¹ (λ (z : ℕ). Applies cx z p) h (applies_own p B.lower);
    second = subst⁻¹ (λ (z : ℕ). Applies cx z q) (sym d ∙ g) (applies_own q B.higher);
    has = λ t. subst⁻¹ (λ (z : ℕ). AllSelected cx (work_marks w) z p) h (B.has t);
  }

  pub other_skipped : {k j : ℕ} → k ≡ symbol_of cx p → j ≡ symbol_of cx q → (j ≡ k → ⊥) →
      Steps (λ s. mint_selectors s (app_at cx p, app_at cx q)) c e w (Ok tt) c w
  unfolding mint_selectors same_constructor
  other_skipped {k} {j} h g d = record {
    moves = moves_none B.making;
    marks = λ z x m. m;
    back = λ z x m. m;
    apps = λ z i l. refl;
    outcome = λ s lv. rw (ne_eqb (symbol_of cx p) (symbol_of cx q) (λ z. d (g ∙ sym z ∙ sym h)));
  }

  pub same_selected : {k j : ℕ} {r : Stepped} {c' w' : List ℕ} → k ≡ symbol_of cx p → j ≡ symbol_of cx q → j ≡ k →
      Steps (select_both cx k p q) c e w r c' w' → Steps (λ s. mint_selectors s (app_at cx p, app_at cx q)) c e w r c' w'
  unfolding mint_selectors same_constructor equal select_both state_with
  same_selected {k} {j} h g d X = steps_as X (λ s lv. rw (eq-eqb (symbol_of cx p) (symbol_of cx q) (sym h ∙ sym d ∙ g), B.equal, h))

-- ---- an application with those behind it

-- what is not in the class of an application changes nothing with it
apart_skipped : (S : State) (a b : CtorApp) → equal S a.app b.app ≡ false → mint_selectors S (a, b) ≡ S
unfolding mint_selectors same_constructor
apart_skipped S a b h = rw (h, and_no (eqb a.ctor b.ctor))

module _ (cx : Context) (w : List ℕ) (M : MarksAre cx w W_MARK) (a : CtorApp) (S : State) where
  -- those from i to below q are in other classes
  jump : (n i q : ℕ) → n + i ≡ q → q ≤ max_terms → ((y : ℕ) → i ≤ y → y < q → MarkedApp w y → equal S a.app y ≡ false) →
      select_with a (apps_from cx w i) S ≡ select_with a (apps_from cx w q) S
  unfolding select_with
  jump zero i q e l h = let d : i ≡ q = omega arith in ap (λ (z : ℕ). select_with a (apps_from cx w z) S) d
  jump (suc n) i q e l h =
      ap (λ (as' : List CtorApp). select_with a as' S) (apps_step cx w M i (omega arith))
      ∙ go (eqb (at w W_MARK i) 1) refl
      ∙ jump n (suc i) q (omega arith) l (λ y k u m. h y (omega arith) u m)
    where
      go : (b : Bool) → eqb (at w W_MARK i) 1 ≡ b →
          select_with a (cond b (app_at cx i ∷ apps_from cx w (suc i)) (apps_from cx w (suc i))) S
          ≡ select_with a (apps_from cx w (suc i)) S
      go true d =
          ap (λ (z : State). select_with a (apps_from cx w (suc i)) z)
          (apart_skipped S a (app_at cx i)
          (h i (omega arith) (omega arith) (record { node = omega arith; mark = eqb-true (at w W_MARK i) 1 d })))
      go false d = refl

-- what is left at word k: those from application k - 1 on, or none
unfoldable pub rest_from : Context → List ℕ → ℕ → List CtorApp
rest_from cx w zero = []
rest_from cx w (suc q) = apps_from cx w q

module _ {c e w : List ℕ} (R : Injectable c e w) where
  -- what the word behind application x says
  next_is : (x k : ℕ) → MarkedApp w x → k ≡ at w NEXT x →
      WordIs (context c) w R.making.work.marks (λ (b : CtorApp). are_equal (merges e) x b.app) (suc x) k
  unfolding first_in_class
  next_is x k m h = let l = m.node in word_is (context c) w R.making.work.marks _ (suc x) k (omega arith)
      (h ∙ R.chain.next x m.node m.mark)

  -- the word behind application x: between the two there are none of the class of p
  skip : (s : List ℕ) (lv : ℕ → ℕ) (p x k : ℕ) → MarkedApp w x → are_equal (merges e) p x ≡ true → k ≡ at w NEXT x →
      select_with (app_at (context c) p) (apps_from (context c) w (suc x)) (state_at c e s w lv)
      ≡ select_with (app_at (context c) p) (rest_from (context c) w k) (state_at c e s w lv)
  unfolding rest_from equal state_with
  skip s lv p x k m g h = go k (next_is x k m h)
    where
      go : (j : ℕ) → WordIs (context c) w R.making.work.marks (λ (b : CtorApp). are_equal (merges e) x b.app) (suc x) j →
          select_with (app_at (context c) p) (apps_from (context c) w (suc x)) (state_at c e s w lv)
          ≡ select_with (app_at (context c) p) (rest_from (context c) w j) (state_at c e s w lv)
      go zero W =
          let l = m.node in
          jump (context c) w R.making.work.marks (app_at (context c) p) (state_at c e s w lv) (max_terms - suc x) (suc x) max_terms
          (omega arith) (omega arith) (λ y u v n. class_carries (merges e) p x y g ∙ W.none refl y u n)
          ∙ ap (λ (as' : List CtorApp). select_with (app_at (context c) p) as' (state_at c e s w lv))
          (apps_none (context c) w R.making.work.marks max_terms (omega arith))
      go (suc q) W =
          let u = W.after q refl in
          let v = (W.app q refl).node in
          jump (context c) w R.making.work.marks (app_at (context c) p) (state_at c e s w lv) (q - suc x) (suc x) q
          (omega arith) (omega arith) (λ y u v n. class_carries (merges e) p x y g ∙ W.before q refl y u v n)

abbrev with_onward : (a : CtorApp) (others : List CtorApp) (S : State) → Onward S (select_with a others S)
with_onward a others S =
    unfold select_with in fold_onward (λ (z : State). z) (λ z b. mint_selectors z (a, b)) (λ z b. mint_selectors_onward z (a, b)) others S

pub from_skipped : {c e w : List ℕ} {p m : ℕ} → InjectableAt c e w p → m ≡ at w W_MARK p → (m ≡ 1 → ⊥) →
    Steps (select_from (context c) w p) c e w (Ok tt) c w
unfolding select_from
from_skipped {w = w} {p} A h n = record {
  moves = moves_none A.ready.making;
  marks = λ z x m. m;
  back = λ z x m. m;
  apps = λ z i l. refl;
  outcome = λ s lv. rw (ne_eqb (at w W_MARK p) 1 (λ d. n (h ∙ d)));
}

pub from_node : {c e w : List ℕ} {p : ℕ} → InjectableAt c e w p → p < max_terms
from_node A = let l = A.within in let h = A.ready.making.core.terms_fit in let n = A.ready.making.core.term_count in omega arith

-- ---- an application that is not the lowest of its constructor in its class

module _ {c e w : List ℕ} {p : ℕ} (A : AppAsked c e w p) where
  pub cover_asked : CtorAsked c e w p
  cover_asked =
      let M = A.ready.making in
      record { core = M.core; signed = M.signed; engine = M.engine; table = inl M.work; is_node = A.app.node }

  pub cover_own : p < length (context c).terms
  cover_own = marked_app_within (context c) w A.ready.making.work.marks p A.app

  module _ {r : CtorOf} {f : SymbolId.SymbolId} {x : TermId.TermId}
      (K : CtorOfClass c e w p r) (q : r ≡ Some (f, x)) where
    -- the application found is the first of the class
    found : some (record { app = x.0; ctor = f.0; fields = children (context c) x.0 })
        ≡ first_in_class (merges e) p (apps_from (context c) w 0)
    unfolding ctor_meaning
    found = ap (ctor_meaning (context c)) (sym q) ∙ K.is

    word : suc x.0 ≡ word_from c e w p 0
    unfolding app_word
    word = ap app_word found

    lowest : LowestIs e w p x.0
    lowest =
        let (y, n, L) = lowest_word (suc x.0) A.ready.making.work A.app word in
        let d : y ≡ x.0 = omega arith in
        subst (LowestIs e w p) d L

    -- and its constructor is the symbol that it applies
    symbol_is : f.0 ≡ symbol_of (context c) x.0
    unfolding first_in_class
    symbol_is =
        let passes : CtorApp → Bool = λ a. are_equal (merges e) p a.app in
        let W = word_is (context c) w A.ready.making.work.marks passes 0 (suc x.0) (omega arith) word in
        let first = first_at (context c) w A.ready.making.work.marks passes 0 x.0 (omega arith) (W.app x.0 refl) (W.passes x.0 refl)
        (W.before x.0 refl) in
        ap (λ (a : CtorApp). a.ctor) (some_is _ (app_at (context c) x.0) (found ∙ first))

    pub cover_by : {j : ℕ} → (x.0 ≡ p → ⊥) → j ≡ symbol_of (context c) p → eqb f.0 j ≡ true → Covered c e w p
    cover_by {j} d h t = record {
      lowest = x.0;
      lower = omega (arith, lowest.below, d);
      app = lowest.app;
      equal = turned (merges e) p x.0 lowest.equal;
      symbol = sym symbol_is ∙ eqb-true f.0 j t ∙ h;
    }

pub not_covered : {c e w : List ℕ} {p : ℕ} → false ≡ true → Covered c e w p
not_covered q = absurd (false≢true q)

-- every pair with it changes nothing
pub from_covered : {c e w : List ℕ} {p : ℕ} → InjectableAt c e w p → Covered c e w p → Steps (select_from (context c) w p) c e w (Ok tt) c w
unfolding select_from
from_covered {c} {e} {w} {p} A C = record {
  moves = moves_none A.ready.making;
  marks = λ z x m. m;
  back = λ z x m. m;
  apps = λ z i l. refl;
  outcome = λ s lv. go s lv (eqb (at w W_MARK p) 1) refl;
}
  where
    pair_idle : (s : List ℕ) (lv : ℕ → ℕ) → MarkedApp w p → (y : ℕ) → suc p ≤ y → MarkedApp w y →
        mint_selectors (state_at c e s w lv) (app_at (context c) p, app_at (context c) y) ≡ state_at c e s w lv
    pair_idle s lv m y l n =
        pair_again c e w A.ready.making.formed s lv p y (λ h k.
        let u = C.lower in
        let one = A.selected C.lowest p u u C.app m C.equal C.symbol in
        let other = A.selected C.lowest y u (omega arith) C.app n (class_carries (merges e) C.lowest p y C.equal ∙ h)
        (C.symbol ∙ k) in (
          subst (λ (z : ℕ). AllSelected (context c) (work_marks w) z p) C.symbol one.1,
          subst (λ (z : ℕ). AllSelected (context c) (work_marks w) z y) C.symbol other.1,
        ))

    go : (s : List ℕ) (lv : ℕ → ℕ) (b : Bool) → eqb (at w W_MARK p) 1 ≡ b →
        cond b (select_with (app_at (context c) p) (apps_from (context c) w (suc p)) (state_at c e s w lv)) (state_at c e s w lv)
        ≡ state_at c e s w lv
    go s lv false d = refl
    go s lv true d =
        let node = from_node A in
        let m : MarkedApp w p = record { node = node; mark = eqb-true (at w W_MARK p) 1 d } in
        idle c e w A.ready.making.formed s lv A.ready.making.work.marks (app_at (context c) p) (suc p) (omega arith)
        (pair_idle s lv m)

-- ---- the walk along a class

-- k is the word of the application that p is paired with next, or 0 behind the last
pub record Along (p : ℕ) (c e w c' w' : List ℕ) (known : Bool) (k : ℕ) : Type 0 where
  pub ready : Injectable c' e w'
  pub lower : MarkedApp w' p
  pub app : (x : ℕ) → k ≡ suc x → MarkedApp w' x
  pub class : (x : ℕ) → k ≡ suc x → are_equal (merges e) p x ≡ true
  pub has : known ≡ true → AllSelected (context c') (work_marks w') (symbol_of (context c') p) p
  pub way : Onway (select_from (context c) w p) (λ s. select_with (app_at (context c') p) (rest_from (context c') w' k) s) c e w c' w'

pub along_first : {p : ℕ} {c e w : List ℕ} {k : ℕ} → AppAsked c e w p → k ≡ at w NEXT p → Along p c e w c w false k
unfolding select_from
along_first {p} {c} {e} {w} {k} A g =
    let mark = A.app in
    let own = T_true (are_equal (merges e) p p) (equal_refl (merges e) p) in
    let W = next_is A.ready p k mark g in
    record {
      ready = A.ready;
      lower = mark;
      app = W.app;
      class = W.passes;
      has = λ t. absurd (false≢true t);
      way = onway_first A.ready.making (λ s lv. rw (eq-eqb (at w W_MARK p) 1 mark.mark) (skip A.ready s lv p p k mark own g));
    }

module _ {p : ℕ} {c e w c₁ w₁ : List ℕ} {known : Bool} {k x : ℕ} (I : Along p c e w c₁ w₁ known k) (n : k ≡ suc x) where
  abbrev at_hand : MarkedApp w₁ x
  at_hand = I.app x n

  pub along_asked : OneClass c₁ e w₁ p x known
  along_asked = record { making = I.ready.making; lower = I.lower; higher = at_hand; equal = I.class x n; has = I.has }

  pub along_place : NEXT + x < length w₁
  along_place = let l = at_hand.node in let h = I.ready.making.work.long in omega arith

  abbrev pair : State → State
  pair s = mint_selectors s (app_at (context c₁) p, app_at (context c₁) x)

  abbrev others : State → State
  others s = select_with (app_at (context c₁) p) (apps_from (context c₁) w₁ (suc x)) s

  unpaired : (S : State) → select_with (app_at (context c₁) p) (rest_from (context c₁) w₁ k) S ≡ others (pair S)
  unfolding select_with rest_from
  unpaired S =
      let m = at_hand in
      rw (
        n,
        apps_step (context c₁) w₁ I.ready.making.work.marks x m.node,
        eq-eqb
            (at w₁ W_MARK x) 1 m.mark,
      )

  module _ {r : Stepped} {c₂ w₂ : List ℕ}
      (X : Steps (λ s. mint_selectors s (app_at (context c₁) p, app_at (context c₁) x)) c₁ e w₁ r c₂ w₂) where
    pub along_terms : r ≡ Ok tt → TwoTerms c₂ p x
    along_terms t =
        let X' = subst (λ (z : Stepped). Steps pair c₁ e w₁ z c₂ w₂) t X in
        let M = X'.moves.making.work.marks in
        record {
          core = X'.moves.making.core;
          first = marked_app_within (context c₂) w₂ M p (X'.marks refl p I.lower);
          second = marked_app_within (context c₂) w₂ M x (X'.marks refl x at_hand);
        }

    -- the selectors on p that were known stay, or they were made for x
    along_has : {next : Bool} → r ≡ Ok tt → KnownAfter (context c₂) p x known next → next ≡ true →
        AllSelected (context c₂) (work_marks w₂) (symbol_of (context c₂) p) p
    unfolding same_constructor equal state_with
    along_has t after d = go (after d)
      where
        X' : Steps pair c₁ e w₁ (Ok tt) c₂ w₂
        X' = subst (λ (z : Stepped). Steps pair c₁ e w₁ z c₂ w₂) t X

        marked : MarksAre (context c₁) w₁ W_MARK
        marked = I.ready.making.work.marks

        symbol_kept : (x : ℕ) → MarkedApp w₁ x → symbol_of (context c₂) x ≡ symbol_of (context c₁) x
        symbol_kept = symbol_same (context c₁) (context c₂) w₁ w₂ X'.moves.extends marked X'.moves.making.work.marks

        here : symbol_of (context c₂) p ≡ symbol_of (context c₁) p
        here = symbol_kept p I.lower

        go : (known ≡ true) ⊎ (symbol_of (context c₂) p ≡ symbol_of (context c₂) x) →
            AllSelected (context c₂) (work_marks w₂) (symbol_of (context c₂) p) p
        go (inl b) =
            subst⁻¹ (λ (z : ℕ). AllSelected (context c₂) (work_marks w₂) z p) here
            (all_kept X' (λ S g y H. pair_keeps S (app_at (context c₁) p) (app_at (context c₁) x) g y H)
            (symbol_of (context c₁) p) p (I.has b))
        go (inr b) = λ f i.
            let s = sym here ∙ b ∙ symbol_kept x at_hand in
            let kept = dt_selectors_kept (context c₁) (context c₂) X'.moves.extends (symbol_of (context c₁) p) in
            let j = subst (λ (fs : List ℕ). In f fs) (ap (dt_selectors (context c₂)) here ∙ kept) i in
            steps_give X' f p
            (pair_gives (state_at c₁ e [] w₁ (λ z. 0)) (app_at (context c₁) p) (app_at (context c₁) x)
            (rw (eq-eqb (symbol_of (context c₁) p) (symbol_of (context c₁) x) s, I.class x n)) f j).0

    pub along_next : {next : Bool} {j : ℕ} → r ≡ Ok tt → KnownAfter (context c₂) p x known next → j ≡ at w₂ NEXT x →
        Along p c e w c₂ w₂ next j
    along_next {next} {j} t after g =
        let X' = subst (λ (z : Stepped). Steps pair c₁ e w₁ z c₂ w₂) t X in
        let m = X'.marks refl x at_hand in
        let ready : Injectable c₂ e w₂ = record { making = X'.moves.making; chain = X'.moves.chain I.ready.chain } in
        let W = next_is ready x j m g in
        let l = at_hand.node in
        let same = app_same (context c₁) (context c₂) w₁ w₂ X'.moves.extends I.ready.making.work.marks
        X'.moves.making.work.marks p
        (marked_app_within (context c₁) w₁ I.ready.making.work.marks p I.lower) in
        record {
          ready = ready;
          lower = X'.marks refl p I.lower;
          app = W.app;
          class = λ y z. class_carries (merges e) p x y (I.class x n) ∙ W.passes y z;
          has = along_has t after;
          way = onway_next I.way others (λ s. select_with (app_at (context c₂) p) (rest_from (context c₂) w₂ j) s) X'
              (λ s lv. unpaired (state_at c₁ e s w₁ lv))
              (λ s lv. rw (sym same, sym (X'.apps refl (suc x) (omega arith))) (skip ready s lv p x j m (I.class x n) g));
        }

    pub along_less : {j : ℕ} → r ≡ Ok tt → j ≡ at w₂ NEXT x → (max_terms + 1 - j) % 1025 < (max_terms + 1 - k) % 1025
    along_less {j} t g =
        let X' = subst (λ (z : Stepped). Steps pair c₁ e w₁ z c₂ w₂) t X in
        let m = X'.marks refl x at_hand in
        let ready : Injectable c₂ e w₂ = record { making = X'.moves.making; chain = X'.moves.chain I.ready.chain } in
        rw n (word_less (context c₂) w₂ ready.making.work.marks (λ (b : CtorApp). are_equal (merges e) x b.app) x j
        (next_is ready x j m g) at_hand.node)

    pub along_stop : r ≡ Err (record {}) → Steps (select_from (context c) w p) c e w (Err (record {})) c₂ w₂
    along_stop t =
        let X' = subst (λ (z : Stepped). Steps pair c₁ e w₁ z c₂ w₂) t X in
        onway_stop I.way others (with_onward (app_at (context c₁) p) (apps_from (context c₁) w₁ (suc x))) X'
        (λ s lv. unpaired (state_at c₁ e s w₁ lv))

pub along_done : {p : ℕ} {c e w c₁ w₁ : List ℕ} {known : Bool} {k : ℕ} → Along p c e w c₁ w₁ known k → k ≡ 0 →
    Steps (select_from (context c) w p) c e w (Ok tt) c₁ w₁
unfolding rest_from select_with
along_done I z = onway_done I.way (λ s lv. rw z)

-- ---- what has been selected

from_keeps : (cx : Context) (w : List ℕ) (p : ℕ) (S : State) (g x : ℕ) → Has S g x → Has (select_from cx w p S) g x
unfolding select_from
from_keeps cx w p S g x H = go (eqb (at w W_MARK p) 1)
  where
    go : (b : Bool) → Has (cond b (select_with (app_at cx p) (apps_from cx w (suc p)) S) S) g x
    go true = with_keeps (app_at cx p) (apps_from cx w (suc p)) S g x H
    go false = H

module _ {c₁ e w₁ c₂ w₂ : List ℕ} {p : ℕ} (M : MarksAre (context c₁) w₁ W_MARK) (M₂ : MarksAre (context c₂) w₂ W_MARK)
    (D : SelectedBelow c₁ e w₁ p) (X : Steps (select_from (context c₁) w₁ p) c₁ e w₁ (Ok tt) c₂ w₂) where
  abbrev before : State
  before = state_at c₁ e [] w₁ (λ i. 0)

  abbrev after : State
  after = select_from (context c₁) w₁ p before

  -- p and each of its class and its constructor behind it
  own_gives : (y : ℕ) → p < y → MarkedApp w₁ p → MarkedApp w₁ y → are_equal (merges e) p y ≡ true →
      symbol_of (context c₁) p ≡ symbol_of (context c₁) y → (f : ℕ) → In f (dt_selectors (context c₁) (symbol_of (context c₁) p)) →
      Has after f p × Has after f y
  unfolding select_from same_constructor equal state_with
  own_gives y l m n h k f i =
      rw (eq-eqb (at w₁ W_MARK p) 1 m.mark)
      (with_gives (app_at (context c₁) p) (apps_from (context c₁) w₁ (suc p)) before (app_at (context c₁) y)
      (app_in (context c₁) w₁ M (suc p) y l n) (rw (eq-eqb (symbol_of (context c₁) p) (symbol_of (context c₁) y) k, h)) f i)

  old_gives : (x y : ℕ) → x < p → x < y → MarkedApp w₁ x → MarkedApp w₁ y → are_equal (merges e) x y ≡ true →
      symbol_of (context c₁) x ≡ symbol_of (context c₁) y → (f : ℕ) → In f (dt_selectors (context c₁) (symbol_of (context c₁) x)) →
      Has after f x × Has after f y
  unfolding state_with dt_with
  old_gives x y l u m n h k f i =
      let (A, B) = D x y l u m n h k in
      (from_keeps (context c₁) w₁ p before f x (A f i), from_keeps (context c₁) w₁ p before f y (B f i))

  gives : (x y : ℕ) → x < p + 1 → x < y → MarkedApp w₁ x → MarkedApp w₁ y → are_equal (merges e) x y ≡ true →
      symbol_of (context c₁) x ≡ symbol_of (context c₁) y → (f : ℕ) → In f (dt_selectors (context c₁) (symbol_of (context c₁) x)) →
      Has after f x × Has after f y
  gives x y l u m n h k f i = go (dec_lt x p)
    where
      go : Dec (x < p) → Has after f x × Has after f y
      go (yes v) = old_gives x y v u m n h k f i
      go (no v) =
          let d : p ≡ x = omega arith in
          subst (λ (z : ℕ). z < y → MarkedApp w₁ z → are_equal (merges e) z y ≡ true →
          symbol_of (context c₁) z ≡ symbol_of (context c₁) y →
          In f (dt_selectors (context c₁) (symbol_of (context c₁) z)) → Has after f z × Has after f y) d
          (λ u' m' h' k' i'. own_gives y u' m' n h' k' f i') u m h k i

  selected_next : SelectedBelow c₂ e w₂ (p + 1)
  selected_next x y l u m n h k = (λ f i. steps_give X f x (both f i).0, λ f i. steps_give X f y (both f i).1)
    where
      symbol_kept : (z : ℕ) → MarkedApp w₁ z → symbol_of (context c₂) z ≡ symbol_of (context c₁) z
      symbol_kept = symbol_same (context c₁) (context c₂) w₁ w₂ X.moves.extends M M₂

      moved : (j k : ℕ) → j ≡ k → (f : ℕ) → In f (dt_selectors (context c₂) j) → In f (dt_selectors (context c₁) k)
      moved j k d f i =
          subst (λ (fs : List ℕ). In f fs)
          (ap (dt_selectors (context c₂)) d ∙ dt_selectors_kept (context c₁) (context c₂) X.moves.extends k) i

      both : (f : ℕ) → In f (dt_selectors (context c₂) (symbol_of (context c₂) x)) → Has after f x × Has after f y
      both f i =
          let m₁ = X.back refl x m in
          let n₁ = X.back refl y n in
          let d = symbol_kept x m₁ in
          gives x y l u m₁ n₁ h (sym d ∙ k ∙ symbol_kept y n₁) f (moved (symbol_of (context c₂) x) (symbol_of (context c₁) x) d f i)

-- ---- all pairs

fold_beside : {A : Type 0} (f : State → A × A → State) (x : A) (ys : List A) (rest : List (A × A)) (S : State) →
    foldl f S (beside x ys rest) ≡ foldl f (foldl (λ s y. f s (x, y)) S ys) rest
unfolding beside
fold_beside f x [] rest S = refl
fold_beside f x (y ∷ ys) rest S = fold_beside f x ys rest (f S (x, y))

-- the pairs whose lower number is below p are done
pub record Scan (c e w c' w' : List ℕ) (n p : ℕ) : Type 0 where
  pub ready : Injectable c' e w'
  pub begun : ChainSound c e w
  pub within : p ≤ n
  pub terms : n ≤ length (context c').terms
  pub nodes : n ≤ max_terms
  pub ends : apps_from (context c') w' n ≡ []
  pub selected : SelectedBelow c' e w' p
  pub way : Onway instantiate_injectivity_selectors (λ s. foldl mint_selectors s (pairs (apps_from (context c') w' p))) c e w c' w'

apps_end : (cx : Context) (w : List ℕ) → MarksAre cx w W_MARK → (m i : ℕ) → m + i ≡ max_terms → length cx.terms ≤ i →
    apps_from cx w i ≡ []
apps_end cx w M zero i e l = apps_none cx w M i (omega arith)
apps_end cx w M (suc m) i e l =
    apps_step cx w M i (omega arith)
    ∙ rw (ne_eqb (at w W_MARK i) 1 (λ d. let h = marked_app_within cx w M i (record { node = omega arith; mark = d }) in omega arith))
    (apps_end cx w M m (suc i) (omega arith) (omega arith))

pub scan_first : {c e w : List ℕ} {n : ℕ} → Injectable c e w → n ≡ length (context c).terms → n ≤ max_terms → Scan c e w c w n 0
unfolding instantiate_injectivity_selectors ctor_apps apps_from state_with dt_with
scan_first {c} {e} {w} {n} R h l = record {
  ready = R;
  begun = R.chain;
  within = omega arith;
  terms = omega arith;
  nodes = l;
  ends = apps_end (context c) w R.making.work.marks (max_terms - n) n (omega arith) (omega arith);
  selected = λ x y z. absurd (omega arith);
  way = onway_first R.making (λ s lv. refl);
}

module _ {c e w c₁ w₁ : List ℕ} {n p : ℕ} (I : Scan c e w c₁ w₁ n p) where
  pub scan_asked : p < n → InjectableAt c₁ e w₁ p
  scan_asked l = let h = I.terms in record { ready = I.ready; within = omega arith; selected = I.selected }

  abbrev later : State → State
  later s = foldl mint_selectors s (pairs (apps_from (context c₁) w₁ (suc p)))

  by_first : p < n → (S : State) → foldl mint_selectors S (pairs (apps_from (context c₁) w₁ p)) ≡ later (select_from (context c₁) w₁ p S)
  unfolding select_from select_with pairs
  by_first l S =
      let k = I.nodes in
      ap (λ (as' : List CtorApp). foldl mint_selectors S (pairs as'))
      (apps_step (context c₁) w₁ I.ready.making.work.marks p (omega arith))
      ∙ go (eqb (at w₁ W_MARK p) 1)
    where
      go : (b : Bool) →
          foldl mint_selectors S
          (pairs (cond b (app_at (context c₁) p ∷ apps_from (context c₁) w₁ (suc p)) (apps_from (context c₁) w₁ (suc p))))
          ≡ foldl mint_selectors
          (cond b (foldl (λ s b. mint_selectors s (app_at (context c₁) p, b)) S (apps_from (context c₁) w₁ (suc p))) S)
          (pairs (apps_from (context c₁) w₁ (suc p)))
      go true = fold_beside mint_selectors (app_at (context c₁) p) (apps_from (context c₁) w₁ (suc p))
          (pairs (apps_from (context c₁) w₁ (suc p))) S
      go false = refl

  module _ {r : Stepped} {c₂ w₂ : List ℕ} (l : p < n) (X : Steps (select_from (context c₁) w₁ p) c₁ e w₁ r c₂ w₂) where
    pub scan_next : r ≡ Ok tt → Scan c e w c₂ w₂ n (p + 1)
    scan_next t =
        let X' = subst (λ (z : Stepped). Steps (select_from (context c₁) w₁ p) c₁ e w₁ z c₂ w₂) t X in
        let d : p + 1 ≡ suc p = omega arith in
        let k = I.nodes in
        let g = I.terms in
        let h = extends_length (context c₁) (context c₂) X'.moves.extends in
        record {
          ready = record { making = X'.moves.making; chain = X'.moves.chain I.ready.chain };
          begun = I.begun;
          within = omega arith;
          terms = omega arith;
          nodes = I.nodes;
          ends = X'.apps refl n k ∙ I.ends;
          selected = selected_next I.ready.making.work.marks X'.moves.making.work.marks I.selected X';
          way = onway_next I.way later (λ s. foldl mint_selectors s (pairs (apps_from (context c₂) w₂ (p + 1)))) X'
              (λ s lv. by_first l (state_at c₁ e s w₁ lv))
              (λ s lv. rw (d, X'.apps refl (suc p) (omega arith)));
        }

    pub scan_stop : r ≡ Err (record {}) → Injects c e w (Err (record {})) c₂ w₂
    unfolding pass
    scan_stop t =
        let X' = subst (λ (z : Stepped). Steps (select_from (context c₁) w₁ p) c₁ e w₁ z c₂ w₂) t X in
        let Y = onway_stop I.way later
        (fold_onward (λ (z : State). z) mint_selectors mint_selectors_onward (pairs (apps_from (context c₁) w₁ (suc p))))
        X' (λ s lv. by_first l (state_at c₁ e s w₁ lv)) in
        record {
          tried = λ s o h. record {
            sound = Y.moves.sound s h;
            extends = Y.moves.extends;
            outcome = λ lv. Y.outcome s lv;
            unchanged = λ q. refl;
            readable = tt;
          };
          chain = Y.moves.chain I.begun;
        }

  pub scan_done : n ≤ p → Injects c e w (Ok tt) c₁ w₁
  unfolding pairs
  scan_done l =
      let d : p ≡ n = let h = I.within in omega arith in
      let Y = onway_done I.way (λ s lv. rw (d, I.ends)) in
      record {
        tried = λ s o h. record {
          sound = Y.moves.sound s h;
          extends = Y.moves.extends;
          outcome = λ lv. ap pass (Y.outcome s lv);
          unchanged = λ q. refl;
          readable = tt;
        };
        chain = Y.moves.chain I.begun;
      }
