-- A check where no constructor application is marked and no tester was asserted: unequal terms, then the watched ones. The pass over the
-- watched terms goes by the solver's marks, as if they were those of a work table: no class has an application, so each watched term is
-- undetermined.
use Rattle.shinri_core.proofs.Kit.{ℕ, ◌≤◌, ◌<◌, ◌≡◌, refl, sym, ap, ◌∙◌, subst, inl, inr, Bool, true, false, ◌||◌, List, [], Option, some, arith, eqb, eq-eqb, ne_eqb, eqb-true, eqb-false, length}
use Rattle.shinri_core.specs.Limits.{max_terms}
use Rattle.shinri_core.specs.Lists.{first}
use Rattle.shinri_core.specs.Memory.Words.{at}
use Rattle.shinri_core.specs.Memory.Table.{context}
use Rattle.shinri_core.specs.declared.ids.TermId.{TermId}
use Rattle.solver.specs.State.{ctor_apps}
use Rattle.solver.specs.Rules.{Ruled, disequality_clash}
use Rattle.solver.specs.Ring.{Edge}
use Rattle.solver.specs.Check.{before_ring, ring_answer}
use Rattle.solver.specs.declared.answer.TCheck as TCheck
use Rattle.std.specs.Prelude.{None, Ok}
use Rattle.solver.specs.declared.exhaustiveness.Undetermined as Undetermined
use Rattle.solver.specs.Memory.Table.{MARK, LASTING, is_set, flagged, state_with, dt_with, StateSound}
use Rattle.solver.specs.Memory.Recording.{NoneAnnounced, NoneLasting}
use Rattle.solver.specs.Memory.Work.{W_MARK, state_at, apps_from, first_in_class, ctor_meaning, marks_only, CtorOfClass, CheckSound}
use Rattle.solver.specs.Memory.Answer.{answer_meaning, Outcome, Tried, RuleAnswer}
use Rattle.solver.specs.Memory.Splitting.{is_undetermined, Watches, SplitsOn, FoundAsked, FoundAnswered, Asking}
use Rattle.solver.specs.Memory.Checks.{from_split, from_injectivity, Rings, ChecksFully, UnmarkedAsked, WatchedAsked, ChecksWatched, ChecksKept}
use Rattle.solver.specs.Memory.Disequalities.{UnequalAsked, UnequalClash, NoneJoined}
use Rattle.solver.proofs.Basics.{none_some, by_test}
use Rattle.solver.proofs.NoApps.{no_ring, unequal_first, only_watched}
use Rattle.solver.proofs.Memory.Flags.{flagged_none, flagged_same}
use Rattle.solver.proofs.Memory.Roles.{kind_within}
use Rattle.solver.proofs.Memory.MarksOnly.{only_mark, none_built, begins_only}
use Rattle.solver.proofs.Memory.Splitting.{Asked, passed_over, asked_none, split_tried, unknown_tried, none_tried, passed_by}
use Rattle.solver.proofs.Memory.Checking.{passed, then_stop, fully_stopped, fully_walked, check_kept}
use Rattle.solver.proofs.Memory.LowestAsking.{asking_same}
use Rattle.solver.proofs.Memory.Unfitting.{from_injectivity_onward}
use Rattle.solver.proofs.Memory.Trying.{tried_as}
use Rattle.solver.proofs.Memory.Disequalities.{unequal_tried}

-- ---- a term

-- the code's test, by the first of the two kinds
pub watched_selector : (m : ℕ) {k : ℕ} → k ≡ m → k ≡ 3 → eqb k 3 ≡ (eqb m 3 || eqb m 5)
watched_selector m {k} q e = eq-eqb k 3 e ∙ sym (ap (λ (b : Bool). b || eqb m 5) (eq-eqb m 3 (sym q ∙ e)))

pub watched_function : (m : ℕ) {k : ℕ} → k ≡ m → (k ≡ 3 → ⊥) → eqb k 5 ≡ (eqb m 3 || eqb m 5)
watched_function m q d = ap (λ (j : ℕ). eqb j 5) q ∙ sym (ap (λ (b : Bool). b || eqb m 5) (ne_eqb m 3 (λ e. d (q ∙ e))))

module _ {c e s : List ℕ} (z : StateSound c e s) (n : NoneAnnounced s) where
  sound : CheckSound c e s (marks_only s)
  sound = (begins_only z n).check

  open_class : (x : ℕ) → CtorOfClass c e (marks_only s) x None
  unfolding ctor_meaning first_in_class first
  open_class x = record {
    is = rw (none_built z n);
    within = λ a h. absurd (none_some a h);
    declared = λ a h. absurd (none_some a h);
  }

  -- the code's test is the definition's
  watched_is : (x : ℕ) {b : Bool} → x < max_terms → b ≡ (eqb (at s MARK x) 3 || eqb (at s MARK x) 5) →
      b ≡ is_undetermined c e (marks_only s) x
  watched_is x {b} h q = q ∙ go (eqb (at s MARK x) 3) refl (eqb (at s MARK x) 5) refl
    where
      asked : Asked (at (marks_only s) W_MARK x) → true ≡ is_undetermined c e (marks_only s) x
      asked a = asked_none c e (marks_only s) z.formed z.signed sound.work x h a (open_class x) refl

      go : (p : Bool) → eqb (at s MARK x) 3 ≡ p → (t : Bool) → eqb (at s MARK x) 5 ≡ t → (p || t) ≡ is_undetermined c e (marks_only s) x
      go true i t j = asked (inl (only_mark s x h ∙ eqb-true (at s MARK x) 3 i))
      go false i true j = asked (inr (only_mark s x h ∙ eqb-true (at s MARK x) 5 j))
      go false i false j =
          passed_over c e (marks_only s) z.formed z.signed sound.work x h (at s MARK x) (sym (only_mark s x h))
          (eqb-false (at s MARK x) 3 i) (eqb-false (at s MARK x) 5 j)

-- what the watched terms ask is what the definition asks
pub watches : {c s : List ℕ} (r : Undetermined.Undetermined) → length (context c).terms ≤ max_terms →
    Asking (λ x. eqb (at s MARK x) 3 || eqb (at s MARK x) 5) (length (context c).terms) s r → Watches c s r
watches {c} {s} r f a = record {
  within = λ x q. lower r a x q;
  passed = λ e z n.
      passed_by (sound z n) r
      (asking_same (λ x. eqb (at s MARK x) 3 || eqb (at s MARK x) 5) (is_undetermined c e (marks_only s)) (length (context c).terms) s r
      (same z n) a);
}
  where
    lower : (r : Undetermined.Undetermined) → Asking (λ x. eqb (at s MARK x) 3 || eqb (at s MARK x) 5) (length (context c).terms) s r →
        (x : TermId) → r ≡ Undetermined.TheVariants.Split x → x.0 < length (context c).terms
    lower (Undetermined.TheVariants.Split y) (l, _, _, _) x q = let k : y ≡ x = cc in let m = ap (λ (z : TermId). z.0) k in omega arith
    lower Undetermined.TheVariants.Unknown a x q = let k : ◌≡◌ {A = ℕ} 0 1 = cc in absurd (omega arith)
    lower Undetermined.TheVariants.Nothing a x q = let k : ◌≡◌ {A = ℕ} 0 1 = cc in absurd (omega arith)

    same : {e : List ℕ} (z : StateSound c e s) (n : NoneAnnounced s) (x : ℕ) → x < length (context c).terms →
        (eqb (at s MARK x) 3 || eqb (at s MARK x) 5) ≡ is_undetermined c e (marks_only s) x
    same z n x h = watched_is z n x (omega arith) refl

-- ---- the check

-- no term is flagged in the lasting record
none_lasting : {c e s : List ℕ} → StateSound c e s → NoneLasting c s → flagged s LASTING ≡ []
unfolding is_set
none_lasting {c} {e} {s} z n = flagged_none s LASTING 0 (λ x l h. by_test (is_set (at s LASTING x)) (λ q. among x h q) (λ q. q))
  where
    among : (x : ℕ) → x < max_terms → is_set (at s LASTING x) ≡ true → is_set (at s LASTING x) ≡ false
    among x h q = n x (kind_within (context c) x (ap is_set (z.lasting x h q)))

module _ {c e s : List ℕ} (z : StateSound c e s) (n : NoneAnnounced s) where
  -- whatever the solver's table, the work table has no application
  none_in : (u : List ℕ) (lv : ℕ → ℕ) → ctor_apps (state_at c e u (marks_only s) lv) ≡ []
  unfolding ctor_apps state_with dt_with apps_from
  none_in u lv = none_built z n

  -- what follows the rules that pass is the whole
  whole : {r : RuleAnswer} {c' s' o : List ℕ} → NoneLasting c s → NoneJoined c e s →
      Tried from_split c e s (marks_only s) r c' s' (marks_only s) o →
      Tried before_ring c e s (marks_only s) r c' s' (marks_only s) o
  unfolding state_with dt_with
  whole {r} {c'} {s'} {o} l j t = record {
    sound = t.sound;
    extends = t.extends;
    outcome = λ lv.
        subst (λ (k : Ruled). Outcome r k (state_at c' e s' (marks_only s) lv) o)
        (sym (only_watched (state_at c e s (marks_only s) lv) (none_in s lv) (none_lasting z l)
        (j (marks_only s) lv))) (t.outcome lv);
    unchanged = t.unchanged;
    readable = t.readable;
  }

  no_rings : (o : List ℕ) → Rings c e (marks_only s) TCheck.TheVariants.Sat o
  unfolding answer_meaning ring_answer
  no_rings o = record {
    outcome = λ u lv.
        ap (λ (m : Option (List Edge)). some (ring_answer (state_at c e u (marks_only s) lv) m))
        (sym (no_ring (state_at c e u (marks_only s) lv) (none_in u lv)));
    readable = tt;
  }

unknown_sat : ◌≡◌ {A = RuleAnswer} (Ok TCheck.TheVariants.Unknown) (Ok TCheck.TheVariants.Sat) → ⊥
unknown_sat q = let z : ◌≡◌ {A = ℕ} 0 1 = cc in omega arith

-- what was found may be answered
pub watched_asked : {c s o : List ℕ} {u : Undetermined.Undetermined} → WatchedAsked c s o → Watches c s u → FoundAsked c s u o
watched_asked y w =
    record { core = y.core; formed = y.formed; signed = y.signed; solver = y.solver; within = w.within; long = y.long }

module _ {c s : List ℕ} {r : Undetermined.Undetermined} (w : Watches c s r) where
  watched_split : {x : TermId} {a : RuleAnswer} {c' s' o : List ℕ} → r ≡ Undetermined.TheVariants.Split x →
      SplitsOn c s x.0 a c' s' o → ChecksWatched c s a c' s' o
  watched_split {x} {a} i k = record {
    fully = λ e z n l j.
        fully_stopped (begins_only z n) k.answers
        (whole z n l j (split_tried (sound z n) (w.passed e z n) i k));
    marks = k.marks;
  }

  watched_unknown : {o : List ℕ} → r ≡ Undetermined.TheVariants.Unknown → ChecksWatched c s (Ok TCheck.TheVariants.Unknown) c s o
  watched_unknown i = record {
    fully = λ e z n l j.
        fully_stopped (begins_only z n) unknown_sat (whole z n l j (unknown_tried (sound z n) (w.passed e z n) i));
    marks = λ x h. refl;
  }

  watched_none : {o : List ℕ} → r ≡ Undetermined.TheVariants.Nothing → ChecksWatched c s (Ok TCheck.TheVariants.Sat) c s o
  watched_none {o} i = record {
    fully = λ e z n l j.
        fully_walked (begins_only z n) refl (whole z n l j (none_tried (sound z n) (w.passed e z n) {o = o} i)) (no_rings z n o);
    marks = λ x h. refl;
  }

-- by what the pass found
pub watched_found : {c s c' s' o : List ℕ} {r : RuleAnswer} (u : Undetermined.Undetermined) → Watches c s u →
    FoundAnswered u c s r c' s' o → ChecksWatched c s r c' s' o
watched_found (Undetermined.TheVariants.Split x) w k = watched_split w refl k
watched_found Undetermined.TheVariants.Unknown w (q, i, j) = rw (q, i, j) (watched_unknown w refl)
watched_found Undetermined.TheVariants.Nothing w (q, i, j) = rw (q, i, j) (watched_none w refl)

-- its marks are the solver's already
marks_kept : {c e s c' s' o : List ℕ} {r : RuleAnswer} → ChecksFully c e s r c' s' (marks_only s) o →
    ((x : ℕ) → x < max_terms → at s' MARK x ≡ at s MARK x) → ChecksKept c e s r c' s' o
marks_kept {s = s} {s' = s'} k m = record {
  fits = λ h. check_kept refl k h (record {
    sound = λ d f y n. y.state;
    view = λ d f lv y n.
        ap (state_with d f s' lv)
        (flagged_same (marks_only s) s' W_MARK MARK 0 (λ x g i. ap is_set (m x i ∙ sym (only_mark s x i))));
  });
  refused = λ h. (marks_only s, k);
}

pub unequal_asked : {c e s o : List ℕ} → UnmarkedAsked c e s o → UnequalAsked c e s o
unequal_asked z = record { state = z.state; long = z.long }

pub split_asked : {c e s o o₁ : List ℕ} → UnmarkedAsked c e s o → length o₁ ≡ length o → WatchedAsked c s o₁
split_asked z n =
    let st = z.state in
    let l = z.long in
    record { core = st.core; formed = st.formed; signed = st.signed; solver = st.solver; long = omega arith }

-- unequal terms first
module _ {c e s o : List ℕ} {r : TCheck.TCheck} {o₁ : List ℕ} (z : UnmarkedAsked c e s o) (u : UnequalClash c e s r o₁) where
  pub watched_stopped : (◌≡◌ {A = RuleAnswer} (Ok r) (Ok TCheck.TheVariants.Sat) → ⊥) → ChecksKept c e s (Ok r) c s o₁
  watched_stopped n =
      marks_kept
      (fully_stopped (begins_only z.state z.apps) n
      (tried_as
      (then_stop disequality_clash from_injectivity n from_injectivity_onward
      (unequal_tried (sound z.state z.apps) u))
      (λ lv. unequal_first (state_at c e s (marks_only s) lv) (none_in z.state z.apps s lv))))
      (λ x h. refl)

  pub watched_on : {c' s' o₂ : List ℕ} {q : RuleAnswer} → ◌≡◌ {A = RuleAnswer} (Ok r) (Ok TCheck.TheVariants.Sat) →
      ChecksWatched c s q c' s' o₂ → ChecksKept c e s q c' s' o₂
  watched_on p w = marks_kept (w.fully e z.state z.apps z.lasting none) w.marks
    where
      none : NoneJoined c e s
      none v lv =
          passed (Ok r) (disequality_clash (state_at c e s v lv)) (state_at c e s v lv) o₁ p (u.outcome v lv)
