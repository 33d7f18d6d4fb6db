-- The steps of the walk for a ring: what became of a field, and the next field of the newest application, or its end.
use Rattle.shinri_core.proofs.Kit.{ℕ, zero, suc, ◌-◌, ◌≤◌, ◌<◌, ◌≡◌, refl, sym, subst, subst⁻¹, ap, ◌∙◌, inl, inr, Bool, true, false, cond, List, [], ◌∷◌, none, some, arith, length, get_or}
use Rattle.shinri_core.specs.Limits.{max_terms}
use Rattle.shinri_core.specs.Lists.{In}
use Rattle.shinri_core.specs.Context.{Context, CtorApp, children, is_datatype_sort, sort_of}
use Rattle.shinri_core.specs.Formed.{Formed}
use Rattle.shinri_core.specs.declared.ids.SymbolId.{SymbolId}
use Rattle.shinri_core.specs.declared.ids.TermId.{TermId}
use Rattle.shinri_core.specs.Memory.Words.{at, put}
use Rattle.shinri_core.specs.Memory.Table.{context, ContextSound}
use Rattle.shinri_core.proofs.Lists.{T_true}
use Rattle.theory.specs.EqEngine.{Merge, are_equal}
use Rattle.theory.specs.Memory.Table.{merges}
use Rattle.solver.specs.State.{State, ctor_of_class, ctor_apps, equal}
use Rattle.solver.specs.Ring.{Frame, Found, on_path, ring_edges, after, kids}
use Rattle.std.specs.Prelude.{Some, None, Result, Ok, Err}
use Rattle.solver.specs.declared.ring.Cycle.{Cycle}
use Rattle.solver.specs.Memory.Table.{state_with, dt_with}
use Rattle.solver.specs.Memory.Work.{state_at, apps_from, first_in_class, ctor_meaning, CtorOfClass, CtorOf}
use Rattle.solver.specs.Memory.Walking.{COLOUR, PATH_APP, PATH_VIA, PATH_LEFT, Open, frames, resume, entering, untried, opened, path, colour, outlook, Leads, Walking, Goes, load, pushed, entered, Meets, Enters, EnterOutcome, tried, TriesTo, FieldOutcome, StepOutcome}
use Rattle.solver.proofs.Basics.{first_some}
use Rattle.solver.proofs.Memory.Resuming.{enter_none, enter_path, enter_finished, enter_new, resume_field, resume_finish, untried_all}
use Rattle.solver.proofs.Memory.Rings.{path_fits, path_room, frames_opened, length_opened, opened_same, colour_path, colour_not_path, colour_finished, colour_not_finished, colour_new, PushedWords, pushed_words, push_walking, push_opened, push_load, SamePath, TriedWords, tried_words, tried_walking, tried_load, FinishedWords, finished_words, finish_before, finish_walking, finish_load}

-- ---- the class of a field

-- the lowest marked constructor application, by the tables alone
class_is : (c e s w : List ℕ) (lv : ℕ → ℕ) (x : ℕ) →
    ctor_of_class (state_at c e s w lv) x ≡ first_in_class (merges e) x (apps_from (context c) w 0)
unfolding ctor_of_class ctor_apps equal first_in_class apps_from state_with dt_with
class_is c e s w lv x = refl

in_class : (ms : List Merge) (x : ℕ) (apps : List CtorApp) (a : CtorApp) → first_in_class ms x apps ≡ some a →
    are_equal ms x a.app ≡ true
unfolding first_in_class
in_class ms x apps a e =
    T_true (are_equal ms x a.app) (first_some (λ (b : CtorApp). are_equal ms x b.app) apps a e).1

module _ {c e w : List ℕ} {field : ℕ} {o : CtorOf} (is : CtorOfClass c e w field o) where
  -- no application
  pub enters_nothing : (r : List ℕ) (n : ℕ) → o ≡ None → (done : List ℕ) → Walking c e r n done →
      Enters c e w r n done field r n
  enters_nothing r n q done v = record {
    walking = v;
    same = λ s lv. enter_none (state_at c e s w lv) (opened (context c) r n) done field (class_is c e s w lv field ∙ none_there);
  }
    where
      none_there : first_in_class (merges e) field (apps_from (context c) w 0) ≡ none
      none_there = sym is.is ∙ ap (ctor_meaning (context c)) q ∙ unfold ctor_meaning in refl

  module _ {f : SymbolId} {x : TermId} (q : o ≡ Some (f, x)) where
    app_of : CtorApp
    app_of = record { app = x.0; ctor = f.0; fields = children (context c) x.0 }

    meaning : ctor_meaning (context c) o ≡ some app_of
    unfolding ctor_meaning app_of
    meaning = ap (ctor_meaning (context c)) q

    there : first_in_class (merges e) field (apps_from (context c) w 0) ≡ some app_of
    there = sym is.is ∙ meaning

    pub app_below : x.0 < length (context c).terms
    unfolding app_of
    app_below = is.within app_of meaning

    leads_there : field < length (context c).terms → Leads c e field x.0
    unfolding app_of
    leads_there h = record {
      field_within = h;
      app_within = app_below;
      equal = in_class (merges e) field (apps_from (context c) w 0) app_of there;
    }

    -- the application is on the path
    pub enters_path : (r : List ℕ) (n k : ℕ) → ContextSound c → field < length (context c).terms → k ≡ at r COLOUR x.0 → k ≡ 1 →
        (done : List ℕ) → Walking c e r n done → Meets c e w r n done field x.0
    unfolding app_of
    enters_path r n k C h g z done v = record {
      on = on_it;
      leads = leads_there h;
      found = λ s lv.
          enter_path (state_at c e s w lv) (opened (context c) r n) done field app_of (class_is c e s w lv field ∙ there) on_frames
          ∙ ap (λ (fs : List Frame). Found (ring_edges field x.0 fs)) (frames_opened (context c) r n);
    }
      where
        on_it : on_path x.0 (path r n) ≡ true
        on_it =
            let b = app_below in
            colour_path (path r n) done x.0 k (g ∙ v.colours x.0 (omega (arith, C.term_count, C.terms_fit))) z

        on_frames : on_path x.0 (frames (opened (context c) r n)) ≡ true
        on_frames = rw (frames_opened (context c) r n) on_it

    -- it is finished
    pub enters_finished : (r : List ℕ) (n k : ℕ) → ContextSound c → k ≡ at r COLOUR x.0 → (k ≡ 1 → ⊥) → k ≡ 2 →
        (done : List ℕ) → Walking c e r n done → Enters c e w r n done field r n
    unfolding app_of
    enters_finished r n k C g d z done v = record {
      walking = v;
      same = λ s lv.
          enter_finished (state_at c e s w lv) (opened (context c) r n) done field app_of (class_is c e s w lv field ∙ there) off
          (colour_finished (path r n) done x.0 k col z);
    }
      where
        col : k ≡ colour (path r n) done x.0
        col = let b = app_below in g ∙ v.colours x.0 (omega (arith, C.term_count, C.terms_fit))

        off : on_path x.0 (frames (opened (context c) r n)) ≡ false
        off = rw (frames_opened (context c) r n) (colour_not_path (path r n) done x.0 k col d)

    -- it was not met before
    module _ (r : List ℕ) (n k : ℕ) (C : ContextSound c) (h : field < length (context c).terms) (g : k ≡ at r COLOUR x.0)
        (d₁ : k ≡ 1 → ⊥) (d₂ : k ≡ 2 → ⊥) where
      abbrev len : ℕ
      len = length (children (context c) x.0)

      col_new : (done : List ℕ) → Walking c e r n done → k ≡ colour (path r n) done x.0
      col_new done v = let b = app_below in g ∙ v.colours x.0 (omega (arith, C.term_count, C.terms_fit))

      pub enters_room : (done : List ℕ) → Walking c e r n done → n < max_terms
      enters_room done v =
          let l = path_room v x.0 app_below (colour_not_path (path r n) done x.0 k (col_new done v) d₁) in
          omega (arith, C.term_count, C.terms_fit)

      off_path : (done : List ℕ) → Walking c e r n done → on_path x.0 (path r n) ≡ false
      off_path done v = colour_not_path (path r n) done x.0 k (col_new done v) d₁

      words_of : (u : List ℕ) → u ≡ pushed r n field x.0 len → (done : List ℕ) → Walking c e r n done →
          PushedWords r n field x.0 len u
      words_of u p done v =
          let b = app_below in
          rw p (pushed_words r n field x.0 len v.long (enters_room done v) (omega (arith, C.term_count, C.terms_fit)))

      pub enters_new : (u : List ℕ) → u ≡ pushed r n field x.0 len → (done : List ℕ) → Walking c e r n done →
          Enters c e w r n done field u (suc n)
      unfolding app_of
      enters_new u p done v = record { walking = push_walking v (leads_there h) off (words_of u p done v); same = λ s lv. goes s lv }
        where
          off : on_path x.0 (path r n) ≡ false
          off = off_path done v

          off_frames : on_path x.0 (frames (opened (context c) r n)) ≡ false
          off_frames = rw (frames_opened (context c) r n) off

          room : length (opened (context c) r n) < length (context c).terms
          room = rw (length_opened (context c) r n) (path_room v x.0 app_below off)

          new : opened (context c) u (suc n)
              ≡ record { app = x.0; via = field; left = kids (context c) app_of } ∷ opened (context c) r n
          new =
              push_opened v (leads_there h) off (words_of u p done v)
              ∙ ap (λ (xs : List ℕ). record { app = x.0; via = field; left = xs } ∷ opened (context c) r n)
              (untried_all (context c) app_of len refl)

          goes : (s : List ℕ) (lv : ℕ → ℕ) → entered c e s w lv r n done field ≡ outlook c e s w lv u (suc n) done
          goes s lv =
              enter_new (state_at c e s w lv) (opened (context c) r n) done field app_of (class_is c e s w lv field ∙ there) off_frames
              (colour_not_finished (path r n) done x.0 k (col_new done v) d₁ d₂) (unfold state_with in room)
              ∙ unfold state_with in ap (λ (os : List Open). resume (state_at c e s w lv) os done) (sym new)

      pub enters_lighter : (u : List ℕ) → u ≡ pushed r n field x.0 len → (done : List ℕ) → Walking c e r n done →
          load (context c) u (suc n) < load (context c) r n
      enters_lighter u p done v =
          let b = app_below in
          push_load v (leads_there h) (off_path done v) (words_of u p done v) (omega (arith, C.term_count, C.terms_fit))
          (sym g ∙ colour_new (path r n) done x.0 k (col_new done v) d₁ d₂)

-- ---- a field of any sort

tried_entered : (c e s w : List ℕ) (lv : ℕ → ℕ) (r : List ℕ) (n : ℕ) (done : List ℕ) (field k : ℕ) → k ≡ sort_of (context c) field →
    true ≡ is_datatype_sort (context c) k → tried c e s w lv r n done field ≡ entered c e s w lv r n done field
tried_entered c e s w lv r n done field k K is = rw (sym K, sym is)

tried_passed : (c e s w : List ℕ) (lv : ℕ → ℕ) (r : List ℕ) (n : ℕ) (done : List ℕ) (field k : ℕ) → k ≡ sort_of (context c) field →
    false ≡ is_datatype_sort (context c) k → tried c e s w lv r n done field ≡ outlook c e s w lv r n done
tried_passed c e s w lv r n done field k K is = rw (sym K, sym is)

module _ (c e w r : List ℕ) (n field : ℕ) {b : Bool} {k : ℕ} (K : k ≡ sort_of (context c) field)
    (is : b ≡ is_datatype_sort (context c) k) where
  pub tries_entered : b ≡ true → (u : List ℕ) (a : Result ℕ Cycle) → EnterOutcome c e w r n field a u →
      FieldOutcome c e w r n field a u
  tries_entered t u (Ok m) (less, met) = (
    less,
    λ done v.
        let g = met done v in
        record { walking = g.walking; same = λ s lv. tried_entered c e s w lv r n done field k K (sym t ∙ is) ∙ g.same s lv },
  )
  tries_entered t u (Err p) (f, l, same, met) = (
    f,
    l,
    same,
    λ done v.
        let g = met done v in
        record { leads = g.leads; found = λ s lv. tried_entered c e s w lv r n done field k K (sym t ∙ is) ∙ g.found s lv },
  )

module _ {c e w r : List ℕ} {n field : ℕ} {b : Bool} {k : ℕ} (K : k ≡ sort_of (context c) field)
    (is : b ≡ is_datatype_sort (context c) k) where
  pub tries_other : b ≡ false →
      (load (context c) r n ≤ load (context c) r n) × ((done : List ℕ) → Walking c e r n done → TriesTo c e w r n done field r n)
  tries_other t =
      (omega arith, λ done v. record { walking = v; same = λ s lv. tried_passed c e s w lv r n done field k K (sym t ∙ is) })

-- ---- the end of the fields

module _ {c e r : List ℕ} {n app left : ℕ} {u : List ℕ} (C : ContextSound c) (some_there : 0 < n) (A : app ≡ at r PATH_APP (n - 1))
    (L : left ≡ at r PATH_LEFT (n - 1)) (z : left ≡ 0) (P : u ≡ put r COLOUR app 2) where
  finish_at : {done : List ℕ} → Walking c e r (suc (n - 1)) done → (n - 1 < max_terms) × FinishedWords r (at r PATH_APP (n - 1)) u
  finish_at v =
      let f = path_fits v in
      let b = (v.leads (n - 1) (omega arith)).app_within in (
        omega (arith, C.term_count, C.terms_fit),
        rw (P, A) (finished_words r (at r PATH_APP (n - 1)) v.long (omega (arith, C.term_count, C.terms_fit))),
      )

  back : {done : List ℕ} → Walking c e r n done → Walking c e r (suc (n - 1)) done
  back {done} v = let q : n ≡ suc (n - 1) = omega arith in subst (λ (k : ℕ). Walking c e r k done) q v

  pub finish_lighter : (done : List ℕ) → Walking c e r n done → load (context c) u (n - 1) < load (context c) r n
  finish_lighter done v =
      let (l, p) = finish_at (back v) in
      let q : n ≡ suc (n - 1) = omega arith in
      subst⁻¹ (λ (k : ℕ). load (context c) u (n - 1) < load (context c) r k) q (finish_load l p (back v) (sym L ∙ z))

  pub finish_goes : {w : List ℕ} (done : List ℕ) → Walking c e r n done → Goes c e w r n done u (n - 1)
  finish_goes {w} done v =
      let (l, p) = finish_at (back v) in
      let q : n ≡ suc (n - 1) = omega arith in
      subst⁻¹ (λ (k : ℕ). Goes c e w r k done u (n - 1)) q (record {
        done' = at r PATH_APP (n - 1) ∷ done;
        walking = finish_walking l p (back v);
        same = λ s lv. goes s lv (finish_before l p);
      })
    where
      goes : (s : List ℕ) (lv : ℕ → ℕ) → SamePath r u (n - 1) →
          outlook c e s w lv r (suc (n - 1)) done ≡ outlook c e s w lv u (n - 1) (at r PATH_APP (n - 1) ∷ done)
      goes s lv p =
          first
          ∙ resume_finish (state_at c e s w lv) (opened (context c) r (n - 1)) (at r PATH_APP (n - 1)) (at r PATH_VIA (n - 1)) done
          ∙ ap (λ (os : List Open). resume (state_at c e s w lv) os (at r PATH_APP (n - 1) ∷ done))
          (sym (opened_same (context c) r u (n - 1) p))
        where
          first : outlook c e s w lv r (suc (n - 1)) done
              ≡ resume (state_at c e s w lv)
              (record { app = at r PATH_APP (n - 1); via = at r PATH_VIA (n - 1); left = [] } ∷ opened (context c) r (n - 1)) done
          first = unfold opened untried in rw (sym L ∙ z)

-- ---- the next field

next_is : (c e s w : List ℕ) (lv : ℕ → ℕ) (r : List ℕ) (m k : ℕ) (u done : List ℕ) → at r PATH_LEFT m ≡ suc k → TriedWords r m k u →
    outlook c e s w lv r (suc m) done ≡ tried c e s w lv u (suc m) done (get_or (children (context c) (at r PATH_APP m)) k 0)
next_is c e s w lv r m k u done was p = before_it ∙ go (is_datatype_sort cx (sort_of cx field)) ∙ sym behind_it
  where
    cx : Context
    cx = context c

    S : State
    S = state_at c e s w lv

    app : ℕ
    app = at r PATH_APP m

    field : ℕ
    field = get_or (children cx app) k 0

    xs : List ℕ
    xs = untried cx (children cx app) k

    opens : List ℕ → List Open
    opens left = record { app = app; via = at r PATH_VIA m; left = left } ∷ opened cx r m

    before_it : outlook c e s w lv r (suc m) done ≡ resume S (opens (cond (is_datatype_sort cx (sort_of cx field)) (field ∷ xs) xs)) done
    before_it = unfold opened untried in rw was

    go : (b : Bool) → resume S (opens (cond b (field ∷ xs) xs)) done
        ≡ cond b (after (resume S (opens xs)) (entering S (opens xs) done field)) (resume S (opens xs) done)
    go true = resume_field S (opened cx r m) app (at r PATH_VIA m) field xs done
    go false = refl

    behind : opened cx u (suc m) ≡ opens xs
    behind = unfold opened in rw (p.app_is, p.via_is, p.left_is, opened_same cx r u m p.before)

    behind_it : tried c e s w lv u (suc m) done field
        ≡ cond (is_datatype_sort cx (sort_of cx field)) (after (resume S (opens xs)) (entering S (opens xs) done field))
        (resume S (opens xs) done)
    behind_it = rw behind

-- a count that is not 0
one_more : (n : ℕ) → 0 < n → n ≡ suc (n - 1)
one_more n h = omega arith

-- a word that is not 0
word_more : {left : ℕ} (w : ℕ) → left ≡ w → (left ≡ 0 → ⊥) → w ≡ suc (left - 1)
word_more w e z = omega arith

in_list : (xs : List ℕ) (i : ℕ) → i < length xs → In (get_or xs i 0) xs
in_list [] i h = absurd (omega arith)
in_list (x ∷ xs) zero h = inl refl
in_list (x ∷ xs) (suc i) h = inr (in_list xs i (omega arith))

-- the newest application: the words of its place on the path
module _ {c e r : List ℕ} {n app left : ℕ} (C : ContextSound c) (some_there : 0 < n) (A : app ≡ at r PATH_APP (n - 1))
    (L : left ≡ at r PATH_LEFT (n - 1)) {done : List ℕ} (v : Walking c e r n done) where
  pub top_within : app < length (context c).terms
  top_within = rw A (v.leads (n - 1) (omega arith)).app_within

  pub left_within : left ≤ length (children (context c) app)
  left_within = rw (L, A) (v.left (n - 1) (omega arith))

  pub field_below : Formed (context c) → (left ≡ 0 → ⊥) → (fs : List ℕ) → fs ≡ children (context c) app →
      get_or fs (left - 1) 0 < length (context c).terms
  field_below F z fs e =
      let l = left_within in
      let i = F.lower app top_within (get_or fs (left - 1) 0) (rw e (in_list (children (context c) app) (left - 1) (omega arith))) in
      let t = top_within in
      omega arith

module _ {c e r : List ℕ} {n app left : ℕ} {u : List ℕ} (C : ContextSound c) (some_there : 0 < n) (A : app ≡ at r PATH_APP (n - 1))
    (L : left ≡ at r PATH_LEFT (n - 1)) (z : left ≡ 0 → ⊥) (P : u ≡ put r PATH_LEFT (n - 1) (left - 1)) where
  next_words : {done : List ℕ} → Walking c e r n done → TriedWords r (n - 1) (left - 1) u
  next_words v = let f = path_fits v in rw P (tried_words r (n - 1) (left - 1) v.long (omega (arith, C.term_count, C.terms_fit)))

  pub next_walking : (done : List ℕ) → Walking c e r n done → Walking c e u n done
  next_walking done v =
      subst⁻¹ (λ (k : ℕ). Walking c e u k done) (one_more n some_there)
      (tried_walking (word_more (at r PATH_LEFT (n - 1)) L z) (next_words v)
      (subst (λ (k : ℕ). Walking c e r k done) (one_more n some_there) v))

  next_lighter : (done : List ℕ) → Walking c e r n done → load (context c) u n < load (context c) r n
  next_lighter done v =
      subst⁻¹ (λ (k : ℕ). load (context c) u k < load (context c) r k) (one_more n some_there)
      (tried_load (word_more (at r PATH_LEFT (n - 1)) L z) (next_words v) c)

  module _ (w fs : List ℕ) (F : fs ≡ children (context c) app) where
    next_same : (s : List ℕ) (lv : ℕ → ℕ) (done : List ℕ) → Walking c e r n done →
        outlook c e s w lv r n done ≡ tried c e s w lv u n done (get_or fs (left - 1) 0)
    next_same s lv done v =
        subst⁻¹ (λ (k : ℕ). outlook c e s w lv r k done ≡ tried c e s w lv u k done (get_or fs (left - 1) 0)) (one_more n some_there)
        (next_is c e s w lv r (n - 1) (left - 1) u done (word_more (at r PATH_LEFT (n - 1)) L z) (next_words v)
        ∙ ap (λ (xs : List ℕ). tried c e s w lv u (suc (n - 1)) done (get_or xs (left - 1) 0)) (ap (children (context c)) (sym A) ∙ sym F))

    pub next_outcome : (a : Result ℕ Cycle) (u' : List ℕ) → FieldOutcome c e w u n (get_or fs (left - 1) 0) a u' →
        (done : List ℕ) → Walking c e r n done → StepOutcome c e w r n a u'
    next_outcome (Ok m) u' (l, o) done₀ v₀ = (
      let h = next_lighter done₀ v₀ in omega arith,
      λ done v.
          let t = o done (next_walking done v) in
          record { done' = done; walking = t.walking; same = λ s lv. next_same s lv done v ∙ t.same s lv },
    )
    next_outcome (Err p) u' (f, l, q, o) done₀ v₀ = λ done v.
        let t = o done (next_walking done v) in
        record {
          done' = done;
          walking = rw (q, l) (next_walking done v);
          leads = rw f t.leads;
          found = λ s lv. next_same s lv done v ∙ rw (q, f, l) (t.found s lv);
        }
