-- Rules that are tried once for a class: what was made is found again, and what was handed out is passed over, so a second tester or
-- selector application of the class changes nothing.
use Prim.Native.Nat.{ℕ, ◌<◌}
use mathlib.Core.Path.{◌≡◌, refl, sym, subst, subst⁻¹, ap, ◌∙◌}
use mathlib.Core.Logic.{◌⊎◌, inl, inr}
use mathlib.Core.Bool.{Bool, true, false, cond, ◌&&◌}
use mathlib.Core.List.{List, [], ◌∷◌}
use mathlib.Core.Option.{Option, none, some}
use native.Mathlib.Omega.{arith}
use native.Mathlib.Nat.{zero-add}
use lib.Dec.{T, eqb}
use lib.ListN.{length, get_elem?}
use Rattle.shinri_core.specs.Lists.{In, place_from, mem}
use Rattle.shinri_core.specs.Term as Term
use Rattle.shinri_core.specs.Term.{Term, Op, Eq, same_term}
use Rattle.shinri_core.specs.Context.{Context, Made, CtorApp, SelApp, TesterApp, term, no_term, intern, mk_app, mk_eq}
use Rattle.shinri_core.proofs.Lists.{T_and, T-both, T_true, true_T}
use Rattle.theory.specs.EqEngine.{Merge, are_equal}
use Rattle.theory.proofs.Classes.{equal_trans}
use Rattle.solver.specs.State.{State, MadeIn, with_terms, made_in, make_app, equal}
use Rattle.solver.specs.Rules.{TCheck, Ruled, pass, answered, go_on, then, try_each, hand_out, hand_out_made, make_eq, equate_field, collapse_field, collapse_at, tester_lemma_at}
use Rattle.solver.proofs.Basics.{none_some, some_none, some_is, by_test, false_T}
use Rattle.solver.proofs.Terms.{Formed, Extends, extends_self, extends_then, extends_length, extends_term, app, same_term_refl, same_term_eq, place_some, place_none, term_in, mk_app_makes}

-- ---- a term that stands in a table is found again

pub mk_app_again : (cx : Context) (o : Op) (as' : List ℕ) (t : ℕ) → Formed cx → t < length cx.terms → term cx t ≡ app o as' →
    mk_app cx o as' ≡ record { id = t; context = cx }
unfolding mk_app intern term
mk_app_again cx o as' t F l e = go (place_from 0 (same_term o as') cx.terms) refl
  where
    fits : T (same_term o as' (term cx t))
    fits = subst (λ (x : Term). T (same_term o as' x)) (sym e) (same_term_refl (app o as'))

    go : (p : Option ℕ) → place_from 0 (same_term o as') cx.terms ≡ p → intern cx o as' p ≡ record { id = t; context = cx }
    go none q = absurd (false_T (same_term o as' (term cx t)) (place_none (same_term o as') 0 cx.terms (term cx t) q (term_in
        cx.terms t no_term l)) fits)
    go (some i) q =
        let (j, k, m, s) = place_some (same_term o as') 0 cx.terms i no_term q in
        let same : j ≡ t = F.distinct j t m l (same_term_eq o as' (term cx j) s ∙ sym e) in
        let n : i ≡ t = k ∙ zero-add j ∙ same in
        λ z. record { id = n z; context = cx }

-- ---- rules tried for each of a list, none of which answers

-- the state goes on: terms are added, classes and atoms handed out are as they were
pub record GoesOn (s s' : State) : Type 0 where
  pub terms : Extends s.terms s'.terms
  pub eq : s'.eq ≡ s.eq
  pub emitted : s'.dt.emitted ≡ s.dt.emitted

pub goes_on_self : (s : State) → GoesOn s s
goes_on_self s = record { terms = extends_self s.terms; eq = refl; emitted = refl }

pub goes_on_then : (a b c : State) → GoesOn a b → GoesOn b c → GoesOn a c
goes_on_then a b c p q = record {
  terms = extends_then a.terms b.terms c.terms p.terms q.terms;
  eq = q.eq ∙ p.eq;
  emitted = q.emitted ∙ p.emitted;
}

module _ {A : Type 0} (rule : A → State → Ruled) (P : A → State → Type 0)
    (on : (x : A) (s : State) → (rule x s).answer ≡ none → GoesOn s (rule x s).state)
    (does : (x : A) (s : State) → (rule x s).answer ≡ none → P x (rule x s).state)
    (keeps : (x : A) (s s' : State) → GoesOn s s' → P x s → P x s') where
  -- each of them did what it does
  pub try_each_does : (xs : List A) (s : State) → (try_each rule xs s).answer ≡ none →
      GoesOn s (try_each rule xs s).state × ((x : A) → In x xs → P x (try_each rule xs s).state)
  unfolding try_each then pass go_on answered
  try_each_does [] s e = (goes_on_self s, λ x i. absurd i)
  try_each_does (x ∷ xs) s e = go (rule x s).answer refl e (try_each_does xs (rule x s).state)
    where
      rest : State
      rest = (try_each rule xs (rule x s).state).state

      each : (y : A) → In y (x ∷ xs) → GoesOn (rule x s).state rest → ((z : A) → In z xs → P z rest) →
          (rule x s).answer ≡ none → P y rest
      each y (inl e) g p q = subst (λ (z : A). P z rest) (sym e) (keeps x (rule x s).state rest g (does x s q))
      each y (inr i) g p q = p y i

      go : (a : Option TCheck) → (rule x s).answer ≡ a → (go_on a (rule x s).state (λ s'. try_each rule xs s')).answer ≡ none →
          ((try_each rule xs (rule x s).state).answer ≡ none →
          GoesOn (rule x s).state rest × ((y : A) → In y xs → P y rest)) →
          GoesOn s (go_on a (rule x s).state (λ s'. try_each rule xs s')).state
          × ((y : A) → In y (x ∷ xs) → P y (go_on a (rule x s).state (λ s'. try_each rule xs s')).state)
      go none q f h =
          let (g, p) = h f in
          (goes_on_then s (rule x s).state rest (on x s q) g, λ y i. each y i g p q)
      go (some a) q f h = absurd (some_none a f)

  -- and where each passes at once, so do all
  pub try_each_idle : (s : State) → (xs : List A) → ((x : A) → In x xs → rule x s ≡ pass s) → try_each rule xs s ≡ pass s
  unfolding try_each then go_on pass
  try_each_idle s [] h = refl
  try_each_idle s (x ∷ xs) h = rw (h x (inl refl)) (try_each_idle s xs (λ y i. h y (inr i)))

-- ---- the tester lemma

-- does a constructor application stand in the class of a term, under this constructor?
abbrev pub concerns : State → ℕ → ℕ → CtorApp → Bool
concerns s ctor arg c = eqb c.ctor ctor && equal s arg c.app

-- the tester on the application was handed out
pub record TestedOn (tester ctor arg : ℕ) (c : CtorApp) (s : State) : Type 0 where
  pub lemma : T (concerns s ctor arg c) →
      (t : ℕ) × (t < length s.terms.terms) × (term s.terms t ≡ app (Term.Uninterpreted tester) (c.app ∷ [])) × T (mem t
      s.dt.emitted)

pub tested_keeps : (tester ctor arg : ℕ) (c : CtorApp) (s s' : State) → GoesOn s s' → TestedOn tester ctor arg c s →
    TestedOn tester ctor arg c s'
unfolding equal
tested_keeps tester ctor arg c s s' g d = record {
  lemma = λ k.
      let k₀ : T (concerns s ctor arg c) = subst (λ (ms : List Merge). T (eqb c.ctor ctor && are_equal ms arg c.app)) g.eq k in
      let (t, l, e, m) = d.lemma k₀ in
      let n = extends_length s.terms s'.terms g.terms in
      (t, omega arith, extends_term s.terms s'.terms t g.terms l ∙ e, subst (λ (ts : List ℕ). T (mem t ts)) (sym g.emitted) m);
}

module _ (x : TesterApp) (c : CtorApp) (s : State) where
  abbrev made : MadeIn
  made = make_app s x.tester (c.app ∷ [])

  tester_at : (b : Bool) → concerns s x.ctor x.arg c ≡ b → tester_lemma_at x c s ≡ cond b (hand_out_made made []) (pass s)
  unfolding tester_lemma_at
  tester_at b e = ap (λ (d : Bool). cond d (hand_out_made made []) (pass s)) e

  -- where it passes, either it does not concern the application or the atom was handed out
  handed : (b : Bool) → mem made.id made.state.dt.emitted ≡ b → (hand_out_made made []).answer ≡ none →
      (hand_out_made made [] ≡ pass made.state) × T (mem made.id made.state.dt.emitted)
  unfolding hand_out_made hand_out pass answered
  handed true e q = (rw e, true_T (mem made.id made.state.dt.emitted) e)
  handed false e q = absurd (some_none _ (rw e at q))

  made_goes_on : GoesOn s made.state
  unfolding make_app made_in with_terms
  made_goes_on = record {
    terms = (mk_app_makes s.terms (Term.Uninterpreted x.tester) (c.app ∷ [])).extends;
    eq = refl;
    emitted = refl;
  }

  pub tester_goes_on : (tester_lemma_at x c s).answer ≡ none → GoesOn s (tester_lemma_at x c s).state
  unfolding pass
  tester_goes_on q = by_test (concerns s x.ctor x.arg c) (λ e. yes_on e) (λ e. subst⁻¹ (λ (r : Ruled). GoesOn s r.state)
      (tester_at false e) (goes_on_self s))
    where
      yes_on : concerns s x.ctor x.arg c ≡ true → GoesOn s (tester_lemma_at x c s).state
      yes_on e =
          let p = tester_at true e in
          let (h, m) = handed (mem made.id made.state.dt.emitted) refl (subst (λ (r : Ruled). r.answer ≡ none) p q) in
          subst⁻¹ (λ (r : Ruled). GoesOn s r.state) (p ∙ h) made_goes_on

  pub tester_does : (tester_lemma_at x c s).answer ≡ none → TestedOn x.tester x.ctor x.arg c (tester_lemma_at x c s).state
  unfolding pass make_app made_in with_terms
  tester_does q = by_test (concerns s x.ctor x.arg c) (λ e. yes_does e) (λ e. no_does e)
    where
      yes_does : concerns s x.ctor x.arg c ≡ true → TestedOn x.tester x.ctor x.arg c (tester_lemma_at x c s).state
      yes_does e =
          let p = tester_at true e in
          let (h, m) = handed (mem made.id made.state.dt.emitted) refl (subst (λ (r : Ruled). r.answer ≡ none) p q) in
          let makes = mk_app_makes s.terms (Term.Uninterpreted x.tester) (c.app ∷ []) in
          subst⁻¹ (λ (r : Ruled). TestedOn x.tester x.ctor x.arg c r.state) (p ∙ h)
          (record { lemma = λ k. (made.id, makes.within, makes.made, m) })

      no_does : concerns s x.ctor x.arg c ≡ false → TestedOn x.tester x.ctor x.arg c (tester_lemma_at x c s).state
      no_does e =
          subst⁻¹ (λ (r : Ruled). TestedOn x.tester x.ctor x.arg c r.state) (tester_at false e)
          (record { lemma = λ k. absurd (false_T (concerns s x.ctor x.arg c) e k) })

  -- a second tester of the class changes nothing
  pub tester_again : (tester ctor arg : ℕ) → Formed s.terms → x.tester ≡ tester → x.ctor ≡ ctor → T (equal s arg x.arg) →
      TestedOn tester ctor arg c s → tester_lemma_at x c s ≡ pass s
  unfolding hand_out_made hand_out make_app made_in with_terms equal
  tester_again tester ctor arg F p q r d = by_test (concerns s x.ctor x.arg c) (λ e. tester_at true e
      ∙ idle e) (λ e. tester_at false e)
    where
      passed : (t : ℕ) → mem t s.dt.emitted ≡ true → hand_out t [] s ≡ pass s
      passed t e = rw e

      idle : concerns s x.ctor x.arg c ≡ true → hand_out_made made [] ≡ pass s
      idle e =
          let (k, h) = T_and (eqb c.ctor x.ctor) (equal s x.arg c.app) (true_T (concerns s x.ctor x.arg c) e) in
          let k' = subst (λ (n : ℕ). T (eqb c.ctor n)) q k in
          let (t, l, m, n) = d.lemma (T-both (eqb c.ctor ctor) (equal s arg c.app) k' (equal_trans s.eq arg x.arg
          c.app r h)) in
          let made_is = mk_app_again s.terms (Term.Uninterpreted x.tester) (c.app ∷ []) t F l (m
          ∙ ap (λ (f : ℕ). app (Term.Uninterpreted f) (c.app ∷ [])) (sym p)) in
          let at_t : hand_out_made made [] ≡ hand_out t [] s = ap (λ (w : Made). hand_out_made (made_in s w) []) made_is in
          at_t ∙ passed t (T_true (mem t s.dt.emitted) n)

-- ---- collapse

-- the selector on the application was made, and its equation with the field was handed out, unless the two are equal
pub record SelectedOn (selector ctor index arg : ℕ) (c : CtorApp) (s : State) : Type 0 where
  pub lemma : T (concerns s ctor arg c) → (field : ℕ) → get_elem? c.fields index ≡ some field →
      (t : ℕ) × (t < length s.terms.terms) × (term s.terms t ≡ app (Term.Uninterpreted selector) (c.app ∷ []))
      × (T (equal s t field)
      ⊎ ((q : ℕ) × (q < length s.terms.terms) × (term s.terms q ≡ app Eq (t ∷ field ∷ [])) × T (mem q s.dt.emitted)))

pub selected_keeps : (selector ctor index arg : ℕ) (c : CtorApp) (s s' : State) → GoesOn s s' → SelectedOn selector ctor index arg c s →
    SelectedOn selector ctor index arg c s'
unfolding equal
selected_keeps selector ctor index arg c s s' g d = record {
  lemma = λ k field f.
      let k₀ : T (concerns s ctor arg c) = subst (λ (ms : List Merge). T (eqb c.ctor ctor && are_equal ms arg c.app)) g.eq k in
      let (t, l, e, m) = d.lemma k₀ field f in
      let n = extends_length s.terms s'.terms g.terms in
      (t, omega arith, extends_term s.terms s'.terms t g.terms l ∙ e, later t field m);
}
  where
    later : (t field : ℕ) →
        T (equal s t field) ⊎ ((q : ℕ) × (q < length s.terms.terms) × (term s.terms q ≡ app Eq (t ∷ field ∷ [])) × T (mem q
        s.dt.emitted)) →
        T (equal s' t field) ⊎ ((q : ℕ) × (q < length s'.terms.terms) × (term s'.terms q ≡ app Eq (t ∷ field ∷ [])) × T
        (mem q s'.dt.emitted))
    later t field (inl h) = inl (subst⁻¹ (λ (ms : List Merge). T (are_equal ms t field)) g.eq h)
    later t field (inr (q, l, e, m)) =
        let n = extends_length s.terms s'.terms g.terms in
        inr (
          q,
          omega arith,
          extends_term s.terms s'.terms q g.terms l
              ∙ e,
          subst (λ (ts : List ℕ). T (mem q ts)) (sym g.emitted) m,
        )

module _ (x : SelApp) (c : CtorApp) (s : State) where
  abbrev selected : MadeIn
  selected = make_app s x.selector (c.app ∷ [])

  abbrev equated : ℕ → MadeIn
  equated field = make_eq selected.state selected.id field

  collapse_concerned : (b : Bool) (o : Option ℕ) → concerns s x.ctor x.arg c ≡ b → get_elem? c.fields x.index ≡ o →
      collapse_at x c s ≡ cond b (collapse_field x c s o) (pass s)
  unfolding collapse_at
  collapse_concerned b o e f = rw (e, f)

  selected_goes_on : GoesOn s selected.state
  unfolding make_app made_in with_terms
  selected_goes_on =
      record { terms = (mk_app_makes s.terms (Term.Uninterpreted x.selector) (c.app ∷ [])).extends; eq = refl; emitted = refl }

  equated_goes_on : (field : ℕ) → GoesOn s (equated field).state
  unfolding make_app make_eq made_in with_terms mk_eq
  equated_goes_on field =
      goes_on_then s selected.state (equated field).state selected_goes_on
      (record { terms = (mk_app_makes selected.state.terms Eq (selected.id ∷ field ∷ [])).extends; eq = refl; emitted = refl })

  -- what a field's equation comes to when it is not answered
  record FieldPasses (field : ℕ) : Type 0 where
    state : State
    is : equate_field field selected ≡ pass state
    on : GoesOn s state
    selected_in : selected.id < length state.terms.terms
    selected_is : term state.terms selected.id ≡ app (Term.Uninterpreted x.selector) (c.app ∷ [])
    settled :
        T (equal state selected.id field)
        ⊎ ((q : ℕ) × (q < length state.terms.terms) × (term state.terms q ≡ app Eq (selected.id ∷ field ∷ [])) × T (mem q
        state.dt.emitted))

  field_passes : (field : ℕ) → (equate_field field selected).answer ≡ none → FieldPasses field
  unfolding equate_field equal make_app make_eq made_in with_terms mk_eq hand_out_made hand_out pass answered
  field_passes field q =
      let makes = mk_app_makes s.terms (Term.Uninterpreted x.selector) (c.app ∷ []) in
      let equates = mk_app_makes selected.state.terms Eq (selected.id ∷ field ∷ []) in
      by_test (equal selected.state selected.id field)
      (λ e. record {
        state = selected.state;
        is = rw e;
        on = selected_goes_on;
        selected_in = makes.within;
        selected_is = makes.made;
        settled = inl (true_T (equal selected.state selected.id field) e);
      })
      (λ e. by_test (mem (equated field).id s.dt.emitted)
      (λ m. record {
        state = (equated field).state;
        is = rw (e, m);
        on = equated_goes_on field;
        selected_in = let l = makes.within in let n = extends_length selected.state.terms (equated field).state.terms
            equates.extends in omega arith;
        selected_is = extends_term selected.state.terms (equated field).state.terms selected.id equates.extends
            makes.within ∙ makes.made;
        settled = inr ((equated field).id, equates.within, equates.made, true_T (mem (equated field).id s.dt.emitted) m);
      })
      (λ m. absurd (some_none _ (rw (e, m) at q))))

  -- by cases: it does not concern the application, the field is not there, or it is
  collapse_cases : (P : Ruled → Type 0) → (concerns s x.ctor x.arg c ≡ false → P (pass s)) →
      (get_elem? c.fields x.index ≡ none → P (pass s)) →
      ((field : ℕ) → get_elem? c.fields x.index ≡ some field → concerns s x.ctor x.arg c ≡ true →
      P (equate_field field selected)) →
      P (collapse_at x c s)
  unfolding collapse_field
  collapse_cases P other missing here = by_test (concerns s x.ctor x.arg c)
      (λ e. at_field e (get_elem? c.fields x.index) refl)
      (λ e. subst⁻¹ P (collapse_concerned false (get_elem? c.fields x.index) e refl) (other e))
    where
      at_field : concerns s x.ctor x.arg c ≡ true → (o : Option ℕ) → get_elem? c.fields x.index ≡ o → P (collapse_at x c s)
      at_field e none f = subst⁻¹ P (collapse_concerned true none e f) (missing f)
      at_field e (some field) f = subst⁻¹ P (collapse_concerned true (some field) e f) (here field f e)

  pub collapse_goes_on : (collapse_at x c s).answer ≡ none → GoesOn s (collapse_at x c s).state
  unfolding pass
  collapse_goes_on = collapse_cases (λ (r : Ruled). r.answer ≡ none → GoesOn s r.state) (λ e q. goes_on_self s) (λ e q. goes_on_self s)
      (λ field f e q. let p = field_passes field q in subst⁻¹ (λ (r : Ruled). GoesOn s r.state) p.is p.on)

  pub collapse_does : (collapse_at x c s).answer ≡ none →
      SelectedOn x.selector x.ctor x.index x.arg c (collapse_at x c s).state
  unfolding pass
  collapse_does = collapse_cases
      (λ (r : Ruled). r.answer ≡ none → SelectedOn x.selector x.ctor x.index x.arg c r.state)
      (λ e q. record { lemma = λ k field f. absurd (false_T (concerns s x.ctor x.arg c) e k) })
      (λ e q. record { lemma = λ k field f. absurd (none_some field (sym e ∙ f)) })
      (λ field f e q.
      let p = field_passes field q in
      subst⁻¹ (λ (r : Ruled). SelectedOn x.selector x.ctor x.index x.arg c r.state) p.is
      (record { lemma = λ k g h. (selected.id, p.selected_in, p.selected_is, there field g (some_is field g (sym f ∙ h)) p) }))
    where
      there : (field g : ℕ) → field ≡ g → (p : FieldPasses field) →
          T (equal p.state selected.id g)
          ⊎ ((q : ℕ) × (q < length p.state.terms.terms) × (term p.state.terms q ≡ app Eq (selected.id ∷ g ∷ [])) × T
          (mem q p.state.dt.emitted))
      there field g e p = subst
          (λ (n : ℕ). T (equal p.state selected.id n)
          ⊎ ((q : ℕ) × (q < length p.state.terms.terms) × (term p.state.terms q ≡ app Eq (selected.id ∷ n ∷ [])) × T
          (mem q p.state.dt.emitted)))
          e p.settled

  -- a second application of the selector to a term of the class changes nothing
  pub collapse_again : (selector ctor index arg : ℕ) → Formed s.terms → x.selector ≡ selector → x.ctor ≡ ctor → x.index ≡ index →
      T (equal s arg x.arg) → SelectedOn selector ctor index arg c s → collapse_at x c s ≡ pass s
  unfolding equal equate_field make_app make_eq made_in with_terms mk_eq hand_out_made hand_out
  collapse_again selector ctor index arg F p q i r d = collapse_cases (λ (z : Ruled). z ≡ pass s) (λ e. refl) (λ e. refl) here
    where
      found : (t : ℕ) → t < length s.terms.terms → term s.terms t ≡ app (Term.Uninterpreted selector) (c.app ∷ []) →
          selected ≡ record { id = t; state = s }
      found t l e =
          ap (made_in s)
          (mk_app_again s.terms (Term.Uninterpreted x.selector) (c.app ∷ []) t F l
          (e ∙ ap (λ (f : ℕ). app (Term.Uninterpreted f) (c.app ∷ [])) (sym p)))

      settles : (field t : ℕ) →
          T (equal s t field) ⊎ ((q : ℕ) × (q < length s.terms.terms) × (term s.terms q ≡ app Eq (t ∷ field ∷ [])) × T (mem q
          s.dt.emitted)) →
          equate_field field (record { id = t; state = s }) ≡ pass s
      settles field t (inl h) = rw (T_true (equal s t field) h)
      settles field t (inr (n, l, e, m)) =
          by_test (equal s t field) (λ h. rw h)
          (λ h. rw h
          (ap (λ (w : Made). hand_out_made (made_in s w) []) (mk_app_again s.terms Eq (t ∷ field ∷ []) n F l e)
          ∙ rw (T_true (mem n s.dt.emitted) m)))

      here : (field : ℕ) → get_elem? c.fields x.index ≡ some field → concerns s x.ctor x.arg c ≡ true →
          equate_field field selected ≡ pass s
      here field f e =
          let (k, h) = T_and (eqb c.ctor x.ctor) (equal s x.arg c.app) (true_T (concerns s x.ctor x.arg c) e) in
          let k' = subst (λ (n : ℕ). T (eqb c.ctor n)) q k in
          let near = T-both (eqb c.ctor ctor) (equal s arg c.app) k' (equal_trans s.eq arg x.arg c.app r h) in
          let (t, l, m, done) = d.lemma near field (ap (λ (n : ℕ). get_elem? c.fields n) (sym i) ∙ f) in
          ap (equate_field field) (found t l m) ∙ settles field t done
