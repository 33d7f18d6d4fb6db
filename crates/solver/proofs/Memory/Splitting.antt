-- Exhaustiveness and unknown. One pass goes up over the terms: for the first watched term that is to be split on, and for whether any
-- class is undetermined, what the definition makes of all terms is what it makes of those from x on.
use Rattle.shinri_core.proofs.Kit.{ℕ_discrete, ℕ, zero, suc, ◌+◌, ◌-◌, ◌≤◌, ◌<◌, ◌≡◌, refl, sym, ap, ap₂, ◌∙◌, subst, subst⁻¹, ◌⊎◌, inl, inr, Bool, true, false, cond, not, ◌&&◌, true≢false, false≢true, List, [], ◌∷◌, ◌++◌, foldl, map, append_assoc, append-nil, length-append, add-zero, none, some, Option, add-one, arith, eqb, length, eq-eqb, ne_eqb, eqb-true, eqb-false, ◌||◌}
use Rattle.shinri_core.specs.Limits.{max_terms}
use Rattle.shinri_core.specs.Lists.{In, insert, range, any, first, keep, gather, mem}
use Rattle.shinri_core.specs.Term as Term
use Rattle.shinri_core.specs.Term.{Symbol, Constructor, Tester, Op}
use Rattle.shinri_core.specs.Context as Context
use Rattle.shinri_core.specs.Context.{Context, mk_app, terms_fit, builds, dt_tester, dt_constructors, CtorApp, symbol, sort_of, is_datatype_sort, ctor_app, children}
use Rattle.shinri_core.specs.Formed.{Formed, Signed, Extends}
use Rattle.shinri_core.specs.Memory.Codes.{made_answer, made_context, MkApp}
use Rattle.shinri_core.specs.declared.ids.SymbolId.{SymbolId}
use Rattle.shinri_core.specs.declared.ids.TermId.{TermId}
use Rattle.shinri_core.specs.Memory.Words.{at, put, Kept}
use Rattle.shinri_core.specs.Memory.Table.{context, ContextSound, MayApply, NoneBuilds, LowestConstructor}
use Rattle.shinri_core.proofs.Memory.Searching.{NoneFrom}
use Rattle.shinri_core.proofs.Lists.{keep_in, T_true, true_T, and_no, cond_both, not_true_false}
use Rattle.theory.specs.EqEngine.{are_equal}
use Rattle.theory.specs.Memory.Table.{merges}
use Rattle.theory.specs.Memory.Answer.{answer_size}
use Rattle.theory.proofs.Classes.{equal_refl}
use Rattle.solver.specs.State.{State, with_terms, with_dt, with_split_done, made_in, make_app, watched_dt_terms, ctor_of_class, ctor_apps, equal}
use Rattle.solver.specs.Records.{is_some}
use Rattle.solver.specs.Rules as Rules
use Rattle.solver.specs.Rules.{Phase, Positive, NoPhase, Testers, make_tester, phase, to_split, Ruled, pass, answered, go_on, then, split_on, split_answer, exhaustiveness_split, has_undetermined_class, unknown_fence}
use Rattle.solver.specs.declared.answer.TCheck as TCheck
use Rattle.std.specs.Prelude.{Some, None, is_some as given_some, Ok, Err}
use Rattle.solver.specs.declared.exhaustiveness.Undetermined as Undetermined
use Rattle.solver.specs.Memory.Table.{watched_kind, COUNTS, RECORDS, MARK, LASTING, EMITTED, SPLIT, solver_room, records#, SolverSound, is_set, flagged_from, term_kind, of_sign, of_unequal, state_with, dt_with}
use Rattle.solver.specs.Memory.Work.{W_MARK, state_at, apps_from, first_in_class, ctor_meaning, CtorOfClass, WorkSound, CheckSound, CtorOf}
use Rattle.shinri_core.specs.declared.limits.NoRoom.{NoRoom}
use Rattle.solver.specs.Memory.Injecting.{Stepped}
use Rattle.solver.proofs.Memory.NoRooms.{err_not_ok}
use Rattle.solver.specs.Memory.Splitting.{is_watched, is_open, is_undetermined, Found, Passed, Testable, testers_at, MakesTester, Splittable, ctors_of, TestersOutcome, MakesTesters, SplitsOn, FoundAsked, FoundAnswered, Asking}
use Rattle.solver.specs.Memory.Answer.{split_of, listed, split_atoms, split_guard, split_phases, SplitSound, SplitCleared, TesterPushed, Tried, RuleAnswer}
use Rattle.solver.proofs.Basics.{first_none, first_some, in_gather, by_test}
use Rattle.solver.proofs.Terms.{extends_self, extends_then, extends_length, extends_sort_of, extends_symbols, extends_symbol, mk_app_makes, mk_app_formed}
use Rattle.solver.proofs.Signature.{extends_signed, declared_role, constructor_function, tester_function}
use Rattle.solver.proofs.Moves.{one_below}
use Rattle.solver.proofs.Lemmas.{one_arg, builds_is, datatype_within}
use Rattle.solver.proofs.Memory.Unfitting.{onward_unfit, fold_onward, make_tester_onward, unknown_onward}
use Rattle.solver.proofs.Memory.Trying.{try_first, try_as, try_answer}
use Rattle.solver.proofs.Memory.Growing.{marked_within, check_grows, only_below}
use Rattle.solver.proofs.Memory.Roles.{kind_ctor, kind_watched}
use Rattle.solver.proofs.Memory.Frames.{registry_kept, flagged_kept, record_kept, state_kept}
use Rattle.solver.proofs.Memory.TableStores.{region, kept_none, kept_put}
use Rattle.solver.proofs.Memory.Flags.{has, flagged_insert, in_flagged, flagged_step, flagged_none, flagged_mem, unset_by}
use Rattle.solver.specs.Memory.Making.{Made}

-- ---- the marks of watched terms

abbrev datatype_term : Context → ℕ → Bool
datatype_term cx x = is_datatype_sort cx (sort_of cx x)

set_watched : (k : ℕ) → (is_set k && watched_kind k) ≡ watched_kind k
unfolding is_set watched_kind
set_watched zero = refl
set_watched (suc k) = refl

-- the marks of terms whose classes are asked about
abbrev pub Asked : ℕ → Type 0
Asked k = (k ≡ 3) ⊎ (k ≡ 5)

-- by the code's tests
pub kind_asked : (k : ℕ) {b : Bool} → b ≡ (eqb k 3 || eqb k 5) → b ≡ true → Asked k
kind_asked k q e = go (eqb k 3) refl (eqb k 5) refl (sym q ∙ e)
  where
    go : (p : Bool) → eqb k 3 ≡ p → (t : Bool) → eqb k 5 ≡ t → (p || t) ≡ true → Asked k
    go true i t j r = inl (eqb-true k 3 i)
    go false i true j r = inr (eqb-true k 5 j)
    go false i false j r = absurd (false≢true r)

asked_watched : (k : ℕ) → Asked k → watched_kind k ≡ true
unfolding watched_kind
asked_watched k (inl e) = rw e
asked_watched k (inr e) = rw e

other_kind : (k : ℕ) → (k ≡ 1 → ⊥) → (k ≡ 3 → ⊥) → (k ≡ 5 → ⊥) → watched_kind k ≡ false
unfolding watched_kind
other_kind k p q r = rw (ne_eqb k 1 p, ne_eqb k 3 q, ne_eqb k 5 r)

module _ (c e w : List ℕ) (F : Formed (context c)) (S : Signed (context c)) (W : WorkSound c e w) (x : ℕ) (l : x < max_terms) where
  watched_by_mark : is_watched c w x ≡ watched_kind (at w W_MARK x)
  unfolding is_watched
  watched_by_mark = go (W.marks x l)
    where
      go : (at w W_MARK x ≡ 0) ⊎ (at w W_MARK x ≡ term_kind (context c) x) →
          (is_set (at w W_MARK x) && datatype_term (context c) x) ≡ watched_kind (at w W_MARK x)
      go (inl z) = unfold is_set watched_kind in rw z
      go (inr z) =
          ap (λ (b : Bool). is_set (at w W_MARK x) && b) (kind_watched (context c) F S x ∙ ap watched_kind (sym z))
          ∙ set_watched (at w W_MARK x)

  -- a marked constructor application is in its own class
  own_class : at w W_MARK x ≡ 1 → is_open c e w x ≡ false
  unfolding is_open first_in_class apps_from is_some is_set
  own_class k = go (first_in_class (merges e) x (apps_from (context c) w 0)) refl
    where
      kind : (at w W_MARK x ≡ 0) ⊎ (at w W_MARK x ≡ term_kind (context c) x) → term_kind (context c) x ≡ 1
      kind (inl z) = absurd (omega arith)
      kind (inr z) = sym z ∙ k

      f : ℕ
      f = (kind_ctor (context c) x (kind (W.marks x l))).0

      own : CtorApp
      own = record { app = x; ctor = f; fields = children (context c) x }

      stands : In own (gather (ctor_app (context c)) (flagged_from w W_MARK 0))
      stands =
          in_gather (ctor_app (context c)) (flagged_from w W_MARK 0) x own (in_flagged w W_MARK 0 x (omega arith) l (ap is_set k))
          (kind_ctor (context c) x (kind (W.marks x l))).3

      go : (o : Option CtorApp) → first_in_class (merges e) x (apps_from (context c) w 0) ≡ o → not (is_some o) ≡ false
      go none n =
          absurd
          (true≢false
          (sym (T_true (are_equal (merges e) x x) (equal_refl (merges e) x))
          ∙ first_none (λ (a : CtorApp). are_equal (merges e) x a.app) (gather (ctor_app (context c)) (flagged_from w W_MARK 0)) own n
          stands))
      go (some a) n = refl

  -- a term with another mark is not asked about
  pub passed_over : (k : ℕ) → k ≡ at w W_MARK x → (k ≡ 3 → ⊥) → (k ≡ 5 → ⊥) → false ≡ is_undetermined c e w x
  unfolding is_undetermined
  passed_over k i p q = sym (go (ℕ_discrete k 1))
    where
      go : Dec (k ≡ 1) → (is_watched c w x && is_open c e w x) ≡ false
      go (yes o) = rw (own_class (sym i ∙ o)) (and_no (is_watched c w x))
      go (no o) = rw (watched_by_mark ∙ ap watched_kind (sym i) ∙ other_kind k o p q)

  pub kind_passed : {b : Bool} → b ≡ (eqb (at w W_MARK x) 3 || eqb (at w W_MARK x) 5) → b ≡ false → b ≡ is_undetermined c e w x
  kind_passed q n = n ∙ go (eqb (at w W_MARK x) 3) refl (eqb (at w W_MARK x) 5) refl (sym q ∙ n)
    where
      go : (p : Bool) → eqb (at w W_MARK x) 3 ≡ p → (t : Bool) → eqb (at w W_MARK x) 5 ≡ t → (p || t) ≡ false →
          false ≡ is_undetermined c e w x
      go true i t j r = absurd (true≢false r)
      go false i true j r = absurd (true≢false r)
      go false i false j r = passed_over (at w W_MARK x) refl (eqb-false (at w W_MARK x) 3 i) (eqb-false (at w W_MARK x) 5 j)

  -- a term that is asked about is undetermined unless its class has an application
  watched_asked : Asked (at w W_MARK x) → is_watched c w x ≡ true
  watched_asked h = watched_by_mark ∙ asked_watched (at w W_MARK x) h

  pub asked_none : {r : CtorOf} → Asked (at w W_MARK x) → CtorOfClass c e w x r → r ≡ None →
      true ≡ is_undetermined c e w x
  unfolding is_undetermined is_open is_some ctor_meaning
  asked_none h C z = rw (watched_asked h, sym C.is ∙ ap (ctor_meaning (context c)) z)

  asked_some : {r : CtorOf} {f : SymbolId} {a : TermId} → Asked (at w W_MARK x) → CtorOfClass c e w x r →
      r ≡ Some (f, a) → false ≡ is_undetermined c e w x
  unfolding is_undetermined is_open is_some ctor_meaning
  asked_some h C z = rw (watched_asked h, sym C.is ∙ ap (ctor_meaning (context c)) z)

  pub asked_open : (r : CtorOf) (b : Bool) → Asked (at w W_MARK x) → CtorOfClass c e w x r → given_some r ≡ not b →
      b ≡ is_undetermined c e w x
  asked_open None true h C q = asked_none h C refl
  asked_open None false h C q = absurd (false≢true q)
  asked_open (Some (f, a)) true h C q = absurd (true≢false q)
  asked_open (Some (f, a)) false h C q = asked_some h C refl

-- ---- the pass

set_by : (k : ℕ) → (k ≡ 0 → ⊥) → is_set k ≡ true
unfolding is_set
set_by zero z = absurd (z refl)
set_by (suc k) z = refl

-- the watched terms from i on
abbrev watched_from : List ℕ → List ℕ → ℕ → List ℕ
watched_from c w i = keep (λ x. datatype_term (context c) x) (flagged_from w W_MARK i)

-- is x to be split on, if it is watched?
abbrev unsplit : List ℕ → List ℕ → List ℕ → List ℕ → ℕ → Bool
unsplit c e s w x = is_open c e w x && not (mem x (flagged_from s SPLIT 0))

-- those from i on are i, if it is watched, and those behind it
watched_step : (c w : List ℕ) (i : ℕ) → i < max_terms →
    watched_from c w i ≡ cond (is_watched c w i) (i ∷ watched_from c w (suc i)) (watched_from c w (suc i))
unfolding is_watched keep
watched_step c w i h = rw (flagged_step w W_MARK i h) (go (has w W_MARK i))
  where
    go : (b : Bool) → keep (λ x. datatype_term (context c) x) (cond b (i ∷ flagged_from w W_MARK (suc i)) (flagged_from w W_MARK (suc i)))
        ≡ cond (b && datatype_term (context c) i) (i ∷ watched_from c w (suc i)) (watched_from c w (suc i))
    go true = refl
    go false = refl

module _ (c e s w : List ℕ) where
  first_step : (i : ℕ) → i < max_terms → first (unsplit c e s w) (watched_from c w i)
      ≡ cond (is_undetermined c e w i && not (mem i (flagged_from s SPLIT 0))) (some i) (first (unsplit c e s w) (watched_from c w
      (suc i)))
  unfolding is_undetermined first
  first_step i h = rw (watched_step c w i h) (go (is_watched c w i) (is_open c e w i))
    where
      go : (a b : Bool) → first (unsplit c e s w) (cond a (i ∷ watched_from c w (suc i)) (watched_from c w (suc i)))
          ≡ cond ((a && is_open c e w i) && not (mem i (flagged_from s SPLIT 0))) (some i)
          (first (unsplit c e s w) (watched_from c w (suc i)))
      go true b = refl
      go false b = refl

  any_step : (i : ℕ) → i < max_terms → any (is_open c e w) (watched_from c w i)
      ≡ cond (is_undetermined c e w i) true (any (is_open c e w) (watched_from c w (suc i)))
  unfolding is_undetermined any
  any_step i h = rw (watched_step c w i h) (go (is_watched c w i))
    where
      go : (a : Bool) → any (is_open c e w) (cond a (i ∷ watched_from c w (suc i)) (watched_from c w (suc i)))
          ≡ cond (a && is_open c e w i) true (any (is_open c e w) (watched_from c w (suc i)))
      go true = refl
      go false = refl

  -- what the definition asks of the state
  first_is : (lv : ℕ → ℕ) → first (to_split (state_at c e s w lv)) (watched_dt_terms (state_at c e s w lv))
      ≡ first (unsplit c e s w) (watched_from c w 0)
  unfolding to_split watched_dt_terms ctor_of_class ctor_apps equal state_with dt_with is_open first_in_class apps_from
  first_is lv = refl

  any_is : (lv : ℕ → ℕ) → has_undetermined_class (state_at c e s w lv) ≡ any (is_open c e w) (watched_from c w 0)
  unfolding has_undetermined_class watched_dt_terms ctor_of_class ctor_apps equal state_with dt_with is_open first_in_class apps_from
  any_is lv = refl

-- the terms below x were passed; a watched class without an application was met, or not
record Passing (c e s w : List ℕ) (n x : ℕ) (unknown : Bool) : Type 0 where
  pub within : x ≤ n
  pub split : first (unsplit c e s w) (watched_from c w 0) ≡ first (unsplit c e s w) (watched_from c w x)
  pub undetermined : any (is_open c e w) (watched_from c w 0) ≡ cond unknown true (any (is_open c e w) (watched_from c w x))

pass_first : (c e s w : List ℕ) (n : ℕ) → Passing c e s w n 0 false
pass_first c e s w n = record { within = omega arith; split = refl; undetermined = refl }

module _
    {c e s w : List ℕ} {n x : ℕ} {unknown : Bool}
    (P : Passing c e s w n x unknown) (r : Bool) (R : r ≡ is_undetermined c e w x) (h : x < n) (f : n ≤ max_terms)
  where
    -- x is not watched, or its class has an application
    pass_by : {b : Bool} → r ≡ false → b ≡ unknown → Passing c e s w n (x + 1) b
    pass_by q k =
        let u = sym R ∙ q in
        rw (k, add-one)
        (record {
          within = omega arith;
          split = P.split ∙ (rw u at (first_step c e s w x (omega arith)));
          undetermined = P.undetermined ∙ ap (cond unknown true) (rw u at (any_step c e s w x (omega arith)));
        })

    -- it has none, and x was split on
    pass_done : {b : Bool} (k : ℕ) → r ≡ true → k ≡ at s SPLIT x → (k ≡ 0 → ⊥) → b ≡ true → Passing c e s w n (x + 1) b
    pass_done k q i z j =
        let u = sym R ∙ q in
        let m : mem x (flagged_from s SPLIT 0) ≡ true = flagged_mem s SPLIT x (omega arith) ∙ set_by (at s SPLIT x) (λ y. z (i ∙ y)) in
        rw (j, add-one)
        (record {
          within = omega arith;
          split = P.split ∙ (rw (u, m) at (first_step c e s w x (omega arith)));
          undetermined = P.undetermined ∙ ap (cond unknown true) (rw u at (any_step c e s w x (omega arith))) ∙ cond_both unknown;
        })

    -- it has none, and x was not split on
    pass_split : (k : ℕ) → r ≡ true → k ≡ at s SPLIT x → k ≡ 0 → Passed c e s w (Undetermined.TheVariants.Split (record { 0 = x }))
    pass_split k q i z =
        let u = sym R ∙ q in
        let m : mem x (flagged_from s SPLIT 0) ≡ false = flagged_mem s SPLIT x (omega arith) ∙ unset_by (at s SPLIT x) (sym i ∙ z) in
        record { is = λ lv. first_is c e s w lv ∙ P.split ∙ (rw (u, m) at (first_step c e s w x (omega arith))) }

module _
    {c e s w : List ℕ} {n x : ℕ} {unknown : Bool}
    (P : Passing c e s w n x unknown) (C : CheckSound c e s w) (i : n ≡ length (context c).terms) (h : n ≤ x)
  where
    -- behind the last term there is none
    none_left : watched_from c w x ≡ []
    unfolding keep
    none_left =
        ap (keep (λ y. datatype_term (context c) y))
        (flagged_none w W_MARK x (λ y l g. not_true_false (has w W_MARK y)
        (λ q. let k = marked_within (context c) w W_MARK y C.work.marks g q in omega arith)))

    none_split : (lv : ℕ → ℕ) → first (to_split (state_at c e s w lv)) (watched_dt_terms (state_at c e s w lv)) ≡ none
    unfolding first
    none_split lv = first_is c e s w lv ∙ P.split ∙ ap (first (unsplit c e s w)) none_left

    met : (lv : ℕ → ℕ) → has_undetermined_class (state_at c e s w lv) ≡ cond unknown true false
    unfolding any
    met lv = any_is c e s w lv ∙ P.undetermined ∙ ap (λ (xs : List ℕ). cond unknown true (any (is_open c e w) xs)) none_left

    pass_unknown : unknown ≡ true → Passed c e s w Undetermined.TheVariants.Unknown
    pass_unknown q = record { is = λ lv. (none_split lv, met lv ∙ ap (λ (b : Bool). cond b true false) q) }

    pass_nothing : unknown ≡ false → Passed c e s w Undetermined.TheVariants.Nothing
    pass_nothing q = record { is = λ lv. (none_split lv, met lv ∙ ap (λ (b : Bool). cond b true false) q) }

-- a pass by a test
module _ {c e s w : List ℕ} (C : CheckSound c e s w) where
  abbrev asks : ℕ → Bool
  asks = is_undetermined c e w

  -- whether one of the first x asks
  abbrev met_below : ℕ → Bool
  met_below zero = false
  met_below (suc x) = cond (asks x) true (met_below x)

  few : length (context c).terms ≤ max_terms
  few = omega (arith, C.state.core.term_count, C.state.core.terms_fit)

  come_to : (x : ℕ) → x ≤ length (context c).terms → ((y : ℕ) → y < x → asks y ≡ true → at s SPLIT y ≡ 0 → ⊥) →
      Passing c e s w (length (context c).terms) x (met_below x)
  come_to zero l d = pass_first c e s w (length (context c).terms)
  come_to (suc x) l d = go (come_to x (omega arith) (λ y h. d y (omega arith))) (asks x) refl
    where
      go : Passing c e s w (length (context c).terms) x (met_below x) → (b : Bool) → asks x ≡ b →
          Passing c e s w (length (context c).terms) (suc x) (cond b true (met_below x))
      go before true q = rw (← add-one) (pass_done before (asks x) refl (omega arith) few (at s SPLIT x) q refl (d x (omega arith) q) refl)
      go before false q = rw (← add-one) (pass_by before (asks x) refl (omega arith) few q refl)

  met_one : (x y : ℕ) → y < x → asks y ≡ true → met_below x ≡ true
  met_one zero y l q = absurd (omega arith)
  met_one (suc x) y l q = go (asks x) refl (ℕ_discrete y x) (λ h. met_one x y h q)
    where
      go : (b : Bool) → asks x ≡ b → Dec (y ≡ x) → (y < x → met_below x ≡ true) → cond b true (met_below x) ≡ true
      go true e d r = refl
      go false e (yes i) r = absurd (true≢false (sym q ∙ ap asks i ∙ e))
      go false e (no i) r = r (omega arith)

  met_none : (x : ℕ) → ((y : ℕ) → y < x → asks y ≡ false) → met_below x ≡ false
  met_none zero h = refl
  met_none (suc x) h = rw (h x (omega arith)) (met_none x (λ y l. h y (omega arith)))

  pub passed_by : (r : Undetermined.Undetermined) → Asking (is_undetermined c e w) (length (context c).terms) s r → Passed c e s w r
  passed_by (Undetermined.TheVariants.Split x) (l, q, z, d) =
      pass_split (come_to x.0 (omega arith) d) (asks x.0) refl l few (at s SPLIT x.0) q refl z
  passed_by Undetermined.TheVariants.Unknown ((y, l, q), d) =
      pass_unknown (come_to (length (context c).terms) (omega arith) d) C refl (omega arith)
      (met_one (length (context c).terms) y l q)
  passed_by Undetermined.TheVariants.Nothing f =
      pass_nothing (come_to (length (context c).terms) (omega arith) (λ y h q. absurd (true≢false (sym q ∙ f y h)))) C refl
      (omega arith) (met_none (length (context c).terms) f)

-- ---- a tester made

-- what was made, where it fits
mk_fits : {c : List ℕ} {o : Op} {args : List ℕ} {r : Made} {c' : List ℕ} {y : TermId} → MkApp c o args r c' →
    r ≡ Ok y → mk_app (context c) o args ≡ record { id = y.0; context = context c' }
unfolding made_answer made_context
mk_fits {c} {o} {args} {r} {c'} {y} K e = by_test (terms_fit (mk_app (context c) o args).context) fits lacks
  where
    fits : terms_fit (mk_app (context c) o args).context ≡ true → mk_app (context c) o args ≡ record { id = y.0; context = context c' }
    fits q =
        let a = sym e ∙ (rw q at K.answer) in
        let v = rw q at K.view in
        let i : y.0 ≡ (mk_app (context c) o args).id = cc in
        rw (i, v)

    lacks : terms_fit (mk_app (context c) o args).context ≡ false → mk_app (context c) o args ≡ record { id = y.0; context = context c' }
    lacks q =
        let a = sym e ∙ (rw q at K.answer) in
        let z : ◌≡◌ {A = ℕ} 0 1 = cc in
        absurd (omega arith)

-- where it does not fit nothing changes
mk_lacks : {c : List ℕ} {o : Op} {args : List ℕ} {r : Made} {c' : List ℕ} → MkApp c o args r c' → r ≡ Err (record {}) →
    terms_fit (mk_app (context c) o args).context ≡ false
unfolding made_answer
mk_lacks {c} {o} {args} {r} {c'} K e = by_test (terms_fit (mk_app (context c) o args).context) fits (λ q. q)
  where
    fits : terms_fit (mk_app (context c) o args).context ≡ true → terms_fit (mk_app (context c) o args).context ≡ false
    fits q =
        let a = sym e ∙ (rw q at K.answer) in
        let z : ◌≡◌ {A = ℕ} 0 1 = cc in
        absurd (omega arith)

module _ {c : List ℕ} {x f : ℕ} {o : List ℕ} (t : Testable c x f o) where
  -- f is a constructor of the sort of x
  built : ((symbol (context c) f).role ≡ Constructor) × ((symbol (context c) f).result ≡ sort_of (context c) x)
  built = builds_is (context c) (sort_of (context c) x) f (true_T (builds (context c) (sort_of (context c) x) f) t.building)

  pub ctor_declared : f < length (context c).symbols
  ctor_declared = declared_role (context c) f (λ q. constructor_function (sym built.0 ∙ q))

  pub ctor_small : f < 4294967295
  ctor_small = let l = ctor_declared in let m = t.core.symbol_count in let h = t.core.symbols_fit in omega arith

  module _ (g : ℕ) (e : g ≡ dt_tester f) where
    is_tester : (symbol (context c) g).role ≡ Tester f
    unfolding dt_tester
    is_tester = ap (λ (k : ℕ). (symbol (context c) k).role) e ∙ t.signed.own_tester f built.0

    tester_agrees : map (sort_of (context c)) (x ∷ []) ≡ (symbol (context c) g).params
    tester_agrees = one_arg (context c) x f g (sym built.1) (t.signed.tester g f is_tester).1

    pub may_test : MayApply c g (x ∷ [])
    may_test = record {
      sound = t.core;
      declared = declared_role (context c) g (λ q. tester_function f (sym is_tester ∙ q));
      terms = only_below (length (context c).terms) x t.within;
    }

    module _ {r : Made} {c' : List ℕ} (K : MkApp c (Term.Uninterpreted g) (x ∷ []) r c') where
      pub tester_made : {y : TermId} {p : Phase} {o' : List ℕ} → r ≡ Ok y → p ≡ phase (context c) f →
          TesterPushed o y.0 p o' → MakesTester c x f o (Ok tt) c' o'
      unfolding make_tester make_app made_in with_terms
      tester_made {y} {p} {o'} q h P =
          let m = mk_fits K q in
          let n = subst (λ (k : ℕ). mk_app (context c) (Term.Uninterpreted k) (x ∷ []) ≡ record { id = y.0; context = context c' }) e m in
          let v = ap (λ (z : Context.Made). z.context) m in
          record {
            core = K.sound;
            formed = subst Formed v (mk_app_formed (context c) (Term.Uninterpreted g) (x ∷ []) t.formed
                (one_below (length (context c).terms) x t.within) tester_agrees);
            extends = subst (Extends (context c)) v (mk_app_makes (context c) (Term.Uninterpreted g) (x ∷ [])).extends;
            outcome = λ s. rw (n, P.atoms);
            pushed = λ z. (y.0, subst (λ (ph : Phase). TesterPushed o y.0 ph o') h P);
          }

      pub tester_lacks : r ≡ Err (record {}) → MakesTester c x f o (Err (record {})) c' o
      unfolding make_tester make_app made_in with_terms
      tester_lacks q =
          let l = mk_lacks K q in
          let k = K.unchanged l in
          record {
            core = K.sound;
            formed = subst⁻¹ (λ (z : List ℕ). Formed (context z)) k t.formed;
            extends = subst⁻¹ (λ (z : List ℕ). Extends (context c) (context z)) k (extends_self (context c));
            outcome = λ s. subst (λ (k : ℕ). terms_fit (mk_app (context c) (Term.Uninterpreted k) (x ∷ [])).context ≡ false) e l;
            pushed = λ z. absurd (err_not_ok z);
          }

-- the phase by the number of fields
pub phase_none : (cx : Context) (f n : ℕ) → n ≡ length (symbol cx f).params → n ≡ 0 → Positive ≡ phase cx f
unfolding phase
phase_none cx f n e z = rw (eq-eqb (length (symbol cx f).params) 0 (sym e ∙ z))

pub phase_some : (cx : Context) (f n : ℕ) → n ≡ length (symbol cx f).params → (n ≡ 0 → ⊥) → NoPhase ≡ phase cx f
unfolding phase
phase_some cx f n e z = rw (ne_eqb (length (symbol cx f).params) 0 (λ q. z (e ∙ q)))

-- ---- all testers

-- the constructors from symbol i on
abbrev ctors_from : Context → ℕ → ℕ → List ℕ
ctors_from cx dt i = keep (builds cx dt) (range i (length cx.symbols - i))

-- numbers that fail are passed over
skip : (p : ℕ → Bool) (d i n : ℕ) → i + d ≤ n → NoneFrom p i (i + d) → keep p (range i (n - i)) ≡ keep p (range (i + d) (n - (i + d)))
unfolding keep range
skip p zero i n l h = let e = add-zero i in rw e
skip p (suc d) i n l h =
    let e : n - i ≡ suc (n - suc i) = omega arith in
    let k : suc i + d ≡ i + suc d = omega arith in
    let r = skip p d (suc i) n (omega arith) (λ j a b. h j (omega arith) (omega arith)) in
    rw (e, h i (omega arith) (omega arith)) (r ∙ ap (λ (j : ℕ). keep p (range j (n - j))) k)

module _ (c₀ c : List ℕ) (dt : ℕ) (ex : Extends (context c₀) (context c)) where
  -- the symbols are those of the start
  symbols_same : length (context c).symbols ≡ length (context c₀).symbols
  symbols_same = ap (λ (ss : List Symbol). length ss) (extends_symbols (context c₀) (context c) ex)

  builds_same : (k : ℕ) → builds (context c) dt k ≡ builds (context c₀) dt k
  unfolding builds
  builds_same k = rw (extends_symbol (context c₀) (context c) k ex)

  ctors_skip : (from to : ℕ) → from ≤ to → to ≤ length (context c).symbols → NoneBuilds c dt from to →
      ctors_from (context c₀) dt from ≡ ctors_from (context c₀) dt to
  ctors_skip from to a w N =
      let m = symbols_same in
      let e : from + (to - from) ≡ to = omega arith in
      skip (builds (context c₀) dt) (to - from) from (length (context c₀).symbols) (omega arith)
      (λ k l h. sym (builds_same k) ∙ N k l (omega arith))
      ∙ ap (ctors_from (context c₀) dt) e

ctors_all : (cx : Context) (dt : ℕ) → dt_constructors cx dt ≡ ctors_from cx dt 0
unfolding dt_constructors
ctors_all cx dt =
    let e : length cx.symbols ≡ length cx.symbols - 0 = omega arith in
    ap (λ (k : ℕ). keep (builds cx dt) (range 0 k)) e

ctors_here : (cx : Context) (dt i : ℕ) → i < length cx.symbols → builds cx dt i ≡ true →
    ctors_from cx dt i ≡ i ∷ ctors_from cx dt (i + 1)
unfolding keep range
ctors_here cx dt i l b =
    let e : length cx.symbols - i ≡ suc (length cx.symbols - suc i) = omega arith in
    rw (add-one, e, b)

ctors_end : (cx : Context) (dt i : ℕ) → length cx.symbols ≤ i → ctors_from cx dt i ≡ []
unfolding keep range
ctors_end cx dt i l = let e : length cx.symbols - i ≡ 0 = omega arith in rw e

-- The testers of the constructors below i are made and listed; o₀ is the answer table at the start.
pub record Testing (c₀ : List ℕ) (x : ℕ) (o₀ c o : List ℕ) (i : ℕ) : Type 0 where
  pub long : length c ≡ length c₀
  pub out_long : length o ≡ length o₀
  pub core : ContextSound c
  pub formed : Formed (context c)
  pub extends : Extends (context c₀) (context c)
  pub within : i ≤ length (context c₀).symbols
  pub split : SplitSound o
  pub guard : split_guard o ≡ none
  pub few : length (split_atoms o) ≤ i
  pub few_phases : length (split_phases o) ≤ i
  pub rest : (s : State) →
      foldl (make_tester x) (record { atoms = []; state = with_terms s (context c₀) }) (ctors_of c₀ x)
      ≡ foldl (make_tester x) (testers_at s c o) (ctors_from (context c₀) (sort_of (context c₀) x) i)
  pub phases : map (phase (context c₀)) (ctors_of c₀ x)
      ≡ split_phases o ++ map (phase (context c₀)) (ctors_from (context c₀) (sort_of (context c₀) x) i)

pub test_first : {c : List ℕ} {x : ℕ} {p o : List ℕ} → Splittable c x p → SplitCleared o → Testing c x o c o 0
test_first {c} {x} z C =
    let a = C.atoms in
    let k = C.phases in
    let q = ctors_all (context c) (sort_of (context c) x) in
    record {
      long = refl;
      out_long = refl;
      core = z.core;
      formed = z.formed;
      extends = extends_self (context c);
      within = omega arith;
      split = C.sound;
      guard = C.guard;
      few = rw a (omega arith);
      few_phases = rw k (omega arith);
      rest = λ s. rw (a, q);
      phases = rw (k, q);
    }

module _
    {c₀ : List ℕ} {x : ℕ} {p o₀ c o : List ℕ} {i dt : ℕ} (z : Splittable c₀ x p) (t : Testing c₀ x o₀ c o i)
    (d : dt ≡ sort_of (context c₀) x)
  where
    abbrev symbols# : ℕ
    symbols# = length (context c₀).symbols

    same_count : length (context c).symbols ≡ symbols#
    same_count = symbols_same c₀ c dt t.extends

    pub next_asked : ContextSound c × (i ≤ length (context c).symbols)
    next_asked = (t.core, let l = t.within in let e = same_count in omega arith)

    module _ {f : ℕ} (N : LowestConstructor c dt i f) where
      below : f < symbols#
      below = let l = N.within in let e = same_count in omega arith

      sort_kept : sort_of (context c) x ≡ sort_of (context c₀) x
      sort_kept = extends_sort_of (context c₀) (context c) x t.extends z.within

      pub testable : Testable c x f o
      testable = record {
        core = t.core;
        formed = t.formed;
        signed = extends_signed (context c₀) (context c) t.extends z.signed;
        within = let l = extends_length (context c₀) (context c) t.extends in let w = z.within in omega arith;
        building = rw (sort_kept, ← d) N.here;
        room = record {
          sound = t.split;
          atoms = let a = t.few in let l = N.after in let w = N.within in let m = t.core.symbols_fit in let k = t.core.symbol_count in omega arith;
          phases =
              let a = t.few_phases in let l = N.after in let w = N.within in let m = t.core.symbols_fit in let k = t.core.symbol_count in
              omega arith;
        };
      }

      -- the constructors from i on begin with f
      behind : ctors_from (context c₀) (sort_of (context c₀) x) i ≡ f ∷ ctors_from (context c₀) (sort_of (context c₀) x) (f + 1)
      behind =
          subst (λ (y : ℕ). ctors_from (context c₀) y i ≡ f ∷ ctors_from (context c₀) y (f + 1)) d
          (ctors_skip c₀ c dt t.extends i f N.after (let l = N.within in omega arith) N.between
          ∙ ctors_here (context c₀) dt f below (sym (builds_same c₀ c dt t.extends f) ∙ N.here))

      phase_kept : phase (context c) f ≡ phase (context c₀) f
      unfolding phase
      phase_kept = rw (extends_symbol (context c₀) (context c) f t.extends)

      module _ {c' o' : List ℕ} where
        pub test_next : MakesTester c x f o (Ok tt) c' o' → length c' ≡ length c → length o' ≡ length o → Testing c₀ x o₀ c' o' (f + 1)
        test_next M l k = record {
          long = l ∙ t.long;
          out_long = k ∙ t.out_long;
          core = M.core;
          formed = M.formed;
          extends = extends_then (context c₀) (context c) (context c') t.extends M.extends;
          within = let l = below in omega arith;
          split = P.sound;
          guard = P.guard ∙ t.guard;
          few = let n = t.few in let j = N.after in rw (P.atoms, length-append) (omega arith);
          few_phases = let n = t.few_phases in let j = N.after in rw (P.phases, length-append) (omega arith);
          rest = λ s.
              t.rest s
              ∙ ap (foldl (make_tester x) (testers_at s c o)) behind
              ∙ ap (λ (ts : Testers). foldl (make_tester x) ts (ctors_from (context c₀) (sort_of (context c₀) x) (f + 1))) (M.outcome s);
          phases =
              t.phases
              ∙ ap (λ (is : List ℕ). split_phases o ++ map (phase (context c₀)) is) behind
              ∙ sym (append_assoc (split_phases o) (phase (context c₀) f ∷ []) after)
              ∙ ap (λ (ps : List Phase). ps ++ after) (ap (λ (q : Phase). split_phases o ++ (q ∷ [])) (sym phase_kept) ∙ sym P.phases);
        }
          where
            P : TesterPushed o (M.pushed refl).0 (phase (context c) f) o'
            P = (M.pushed refl).1

            after : List Phase
            after = map (phase (context c₀)) (ctors_from (context c₀) (sort_of (context c₀) x) (f + 1))

        pub test_lacks : {n : NoRoom} → MakesTester c x f o (Err n) c' o' → MakesTesters c₀ x (Err n) c' o'
        test_lacks M = record {
          core = M.core;
          formed = M.formed;
          extends = extends_then (context c₀) (context c) (context c') t.extends M.extends;
          outcome = λ s.
              let made = make_tester x (testers_at s c o) f in
              let is = ctors_from (context c₀) (sort_of (context c₀) x) (f + 1) in
              subst⁻¹ (λ (ts : Testers). terms_fit ts.state.terms ≡ false)
              (t.rest s ∙ ap (foldl (make_tester x) (testers_at s c o)) behind)
              (onward_unfit made.state (foldl (make_tester x) made is).state
              (fold_onward (λ (ts : Testers). ts.state) (make_tester x) (make_tester_onward x) is made) (M.outcome s));
          listed = λ q. absurd (err_not_ok q);
        }

    pub test_done : NoneBuilds c dt i (length (context c).symbols) → MakesTesters c₀ x (Ok tt) c o
    test_done N = record {
      core = t.core;
      formed = t.formed;
      extends = t.extends;
      outcome = λ s. t.rest s ∙ ap (foldl (make_tester x) (testers_at s c o)) none_left;
      listed = λ q. record {
        sound = t.split;
        guard = t.guard;
        phases_are =
            sym
            (t.phases ∙ ap (λ (is : List ℕ). split_phases o ++ map (phase (context c₀)) is) none_left ∙ append-nil (split_phases o));
      };
    }
      where
        none_left : ctors_from (context c₀) (sort_of (context c₀) x) i ≡ []
        none_left =
            subst (λ (y : ℕ). ctors_from (context c₀) y i ≡ []) d
            (ctors_skip c₀ c dt t.extends i (length (context c).symbols) next_asked.1 (omega arith) N
            ∙ ctors_end (context c₀) dt (length (context c).symbols) (let e = same_count in omega arith))

-- ---- a term split on

-- the flag of x is set
module _ {s : List ℕ} (z : SolverSound s) {x : ℕ} (l : x < max_terms) where
  abbrev flagged_split : List ℕ
  flagged_split = put s SPLIT x 1

  kept : Kept solver_room (SPLIT ∷ []) s flagged_split
  kept = kept_put (SPLIT ∷ []) s s SPLIT x 1 tt l (kept_none (SPLIT ∷ []) s)

  one_more : flagged_from flagged_split SPLIT 0 ≡ insert x (flagged_from s SPLIT 0)
  unfolding is_set
  one_more =
      flagged_insert s flagged_split SPLIT x l (λ y h. ap is_set (region s SPLIT x y 1 tt z.long l) ∙ go y (eqb y x))
    where
      go : (y : ℕ) (b : Bool) → is_set (cond b 1 (at s SPLIT y)) ≡ cond b true (has s SPLIT y)
      go y true = refl
      go y false = refl

  check_flagged : {c e w : List ℕ} → CheckSound c e s w → CheckSound c e flagged_split w
  check_flagged {c} {e} {w} C = record {
    state = state_kept kept tt tt tt tt tt tt tt tt C.state;
    work = C.work;
    more = λ y h q.
        let k = kept.rest MARK y tt h in
        C.more y h (ap is_set (sym k) ∙ q) ∙ sym k;
  }

  state_flagged : (c c' e w : List ℕ) (lv : ℕ → ℕ) →
      with_terms (with_split_done (state_at c e s w lv) (insert x (flagged_from s SPLIT 0))) (context c')
      ≡ state_at c' e flagged_split w lv
  unfolding with_terms with_split_done with_dt state_with dt_with
  state_flagged c c' e w lv =
      let n : records# flagged_split ≡ records# s = kept.rest COUNTS RECORDS tt (omega arith) in
      sym (rw (
        registry_kept kept tt z.long,
        record_kept kept (of_sign true) lv z.records_fit n tt,
        record_kept kept (of_sign false) lv z.records_fit n tt,
        record_kept kept of_unequal lv z.records_fit n tt,
        flagged_kept kept LASTING 0 tt refl,
        flagged_kept kept EMITTED 0 tt refl,
        one_more,
      ))

module _ {c : List ℕ} {x : ℕ} {p s : List ℕ} (y : Splittable c x p) (z : SolverSound s) where
  small : x < max_terms
  small = let l = y.within in let n = y.core.term_count in let m = y.core.terms_fit in omega arith

  module _ {b : Stepped} {c' o : List ℕ} (M : MakesTesters c x b c' o) where
    -- the testers fit
    pub split_made : {s' : List ℕ} → b ≡ Ok tt → s' ≡ put s SPLIT x 1 → SplitsOn c s x (Ok TCheck.TheVariants.Split) c' s' o
    unfolding split_on answered split_of listed with_terms with_split_done with_dt state_with dt_with
    split_made q k = rw k (record {
      tried = λ e w C. record {
        sound = check_grows c c' M.extends M.core M.formed e (put s SPLIT x 1) w (check_flagged z small C);
        extends = M.extends;
        outcome = λ lv.
            let start = with_split_done (state_at c e s w lv) (insert x (flagged_from s SPLIT 0)) in
            let m = subst (λ (a : Stepped).
            TestersOutcome a (foldl (make_tester x) (record { atoms = []; state = with_terms start (context c) })
            (ctors_of c x)) (testers_at start c' o)) q (M.outcome start) in
            let L = M.listed q in
            let is = map (phase (context c)) (ctors_of c x) in
            ap (λ (ts : Testers). answered ts.state (Rules.Split ts.atoms [] is)) m
            ∙ ap (λ (u : State). answered u (Rules.Split (split_atoms o) [] is)) (state_flagged z small c c' e w lv)
            ∙ ap₂ (λ (g : List ℕ) (ps : List Phase). answered (state_at c' e (put s SPLIT x 1) w lv) (Rules.Split (split_atoms o) g ps))
            (ap listed (sym L.guard)) (sym L.phases_are);
        unchanged = λ n. absurd (n refl);
        readable = (M.listed q).sound;
      };
      marks = λ y h. (kept z small).rest MARK y tt h;
      answers = λ i. let k : ◌≡◌ {A = ℕ} 0 1 = cc in omega arith;
    })

    -- they do not
    pub split_lacks : b ≡ Err (record {}) → SplitsOn c s x (Err (record {})) c' s o
    unfolding split_on answered with_terms with_split_done with_dt state_with dt_with
    split_lacks q = record {
      tried = λ e w C. record {
        sound = check_grows c c' M.extends M.core M.formed e s w C;
        extends = M.extends;
        outcome = λ lv.
            let start = with_split_done (state_at c e s w lv) (insert x (flagged_from s SPLIT 0)) in
            subst (λ (a : Stepped). TestersOutcome a (foldl (make_tester x) (record { atoms = []; state = with_terms start (context c) })
            (ctors_of c x)) (testers_at start c' o)) q (M.outcome start);
        unchanged = λ n. refl;
        readable = tt;
      };
      marks = λ y h. refl;
      answers = λ i. let k : ◌≡◌ {A = ℕ} 0 1 = cc in omega arith;
    }

-- ---- what was found

pub found_splittable : {c s o : List ℕ} {u : Undetermined.Undetermined} {x : TermId} → FoundAsked c s u o →
    u ≡ Undetermined.TheVariants.Split x → Splittable c x.0 o
found_splittable {x = x} y i = record { core = y.core; formed = y.formed; signed = y.signed; within = y.within x i; long = y.long }

module _ {c s c' s' o : List ℕ} (u : Undetermined.Undetermined) where
  pub found_split : {x : TermId} {r : RuleAnswer} → u ≡ Undetermined.TheVariants.Split x → SplitsOn c s x.0 r c' s' o →
      FoundAnswered u c s r c' s' o
  found_split {x} {r} i k = subst (λ (v : Undetermined.Undetermined). FoundAnswered v c s r c' s' o) (sym i) k

pub found_unknown : (c s o : List ℕ) {u : Undetermined.Undetermined} → u ≡ Undetermined.TheVariants.Unknown →
    FoundAnswered u c s (Ok TCheck.TheVariants.Unknown) c s o
found_unknown c s o i =
    subst (λ (v : Undetermined.Undetermined). FoundAnswered v c s (Ok TCheck.TheVariants.Unknown) c s o) (sym i) (refl, refl, refl)

pub found_nothing : (c s o : List ℕ) {u : Undetermined.Undetermined} → u ≡ Undetermined.TheVariants.Nothing →
    FoundAnswered u c s (Ok TCheck.TheVariants.Sat) c s o
found_nothing c s o i =
    subst (λ (v : Undetermined.Undetermined). FoundAnswered v c s (Ok TCheck.TheVariants.Sat) c s o) (sym i) (refl, refl, refl)

-- ---- the rule

abbrev rule : State → Ruled
rule u = then (exhaustiveness_split u) (λ v. unknown_fence v)

module _ {c e s w : List ℕ} (C : CheckSound c e s w) {r : Undetermined.Undetermined} (P : Passed c e s w r) where
  passed_as : {q : Undetermined.Undetermined} → r ≡ q → (lv : ℕ → ℕ) → Found q (state_at c e s w lv)
  passed_as i lv = subst (λ (a : Undetermined.Undetermined). Found a (state_at c e s w lv)) i (P.is lv)

  -- the term that is to be split on is a term
  split_within : {x : TermId} → r ≡ Undetermined.TheVariants.Split x → x.0 < length (context c).terms
  unfolding watched_dt_terms state_with
  split_within {x} i =
      let z = state_at c e s w (λ j. j) in
      let (k, t) = first_some (to_split z) (watched_dt_terms z) x.0 (passed_as i (λ j. j)) in
      let (j, d) = keep_in (λ y. is_datatype_sort z.terms (sort_of z.terms y)) z.dt.marks x.0 k in
      datatype_within (context c) C.state.signed x.0 d

  pub split_tried : {x : TermId} {a : RuleAnswer} {c' s' o : List ℕ} → r ≡ Undetermined.TheVariants.Split x →
      SplitsOn c s x.0 a c' s' o → Tried rule c e s w a c' s' w o
  unfolding exhaustiveness_split split_answer
  split_tried {x} i K =
      try_answer (λ u. split_on u x.0) (λ v. unknown_fence v)
      (try_as (try_first rule C) (λ lv.
      ap (λ (f : Option ℕ). then (split_answer (state_at c e s w lv) f) (λ v. unknown_fence v)) (passed_as i lv)))
      (K.tried e w C) K.answers unknown_onward

  -- nothing is to be split on
  no_split : (lv : ℕ → ℕ) → first (to_split (state_at c e s w lv)) (watched_dt_terms (state_at c e s w lv)) ≡ none →
      rule (state_at c e s w lv) ≡ unknown_fence (state_at c e s w lv)
  unfolding exhaustiveness_split split_answer then pass go_on
  no_split lv n = ap (λ (f : Option ℕ). then (split_answer (state_at c e s w lv) f) (λ v. unknown_fence v)) n

  pub unknown_tried : {o : List ℕ} → r ≡ Undetermined.TheVariants.Unknown → Tried rule c e s w (Ok TCheck.TheVariants.Unknown) c s w o
  unfolding unknown_fence
  unknown_tried i = record {
    sound = C;
    extends = extends_self (context c);
    outcome = λ lv.
        let (n, u) = passed_as i lv in
        no_split lv n ∙ ap (λ (b : Bool). cond b (answered (state_at c e s w lv) Rules.Unknown) (pass (state_at c e s w lv))) u;
    unchanged = λ q. refl;
    readable = tt;
  }

  pub none_tried : {o : List ℕ} → r ≡ Undetermined.TheVariants.Nothing → Tried rule c e s w (Ok TCheck.TheVariants.Sat) c s w o
  unfolding unknown_fence
  none_tried i = record {
    sound = C;
    extends = extends_self (context c);
    outcome = λ lv.
        let (n, u) = passed_as i lv in
        no_split lv n ∙ ap (λ (b : Bool). cond b (answered (state_at c e s w lv) Rules.Unknown) (pass (state_at c e s w lv))) u;
    unchanged = λ q. refl;
    readable = tt;
  }

-- by what the pass found
pub found_asked : {c e s w o : List ℕ} {u : Undetermined.Undetermined} → CheckSound c e s w → Passed c e s w u → answer_size ≤ length o →
    FoundAsked c s u o
found_asked C P l = record {
  core = C.state.core;
  formed = C.state.formed;
  signed = C.state.signed;
  solver = C.state.solver;
  within = λ x i. split_within C P i;
  long = l;
}

pub found_tried : {c e s w c' s' o : List ℕ} {r : RuleAnswer} (u : Undetermined.Undetermined) → CheckSound c e s w →
    Passed c e s w u → FoundAnswered u c s r c' s' o → Tried rule c e s w r c' s' w o
found_tried (Undetermined.TheVariants.Split x) C P k = split_tried C P refl k
found_tried Undetermined.TheVariants.Unknown C P (q, i, j) = rw (q, i, j) (unknown_tried C P refl)
found_tried Undetermined.TheVariants.Nothing C P (q, i, j) = rw (q, i, j) (none_tried C P refl)
