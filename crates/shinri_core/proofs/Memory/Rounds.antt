-- Question 10: rounds over the marks. A mark that a round adds is right, since the inhabited datatypes have each one that is grounded in
-- them; a round that adds none has marked each datatype that is grounded in the marks. So the marks are the least such set at the end.
use Rattle.shinri_core.proofs.Kit.{ℕ, zero, suc, ◌+◌, ◌≤◌, ◌<◌, ◌≡◌, refl, sym, subst, subst⁻¹, ap, ◌∙◌, ◌⊎◌, inl, inr, Bool, true, false, not, ◌&&◌, ◌||◌, false≢true, true≢false, List, ℕ_discrete, arith, T, eqb, eqb→eq, eqb_refl, length, get_or, set, length-set, replicate, get_or-set_same, get_or-set_other}
use lib.Dec.{not_T}
use lib.ListN.{length-replicate}
use Rattle.shinri_core.specs.Limits.{max_sorts}
use Rattle.shinri_core.specs.Lists.{In, keep, every, range}
use Rattle.shinri_core.specs.Context.{Context, symbol, is_constructor, is_datatype_sort, builds, dt_constructors, datatypes, ready, has_ready_fields, grounded, inhabited, all_grounded}
use Rattle.shinri_core.specs.Inhabited.{Closed}
use Rattle.shinri_core.specs.Memory.Table.{context, ContextSound, marked, unmarked, adds, Marks, MarkRound}
use Rattle.shinri_core.proofs.Lists.{T_and, T-both, T-or, T_true, true_T, T-same, in_any, any_in, every_same, in_keep, keep_in, keep_more, in_range}
use Rattle.shinri_core.proofs.Symbols.{builds_in, in_builds, in_symbols}
use Rattle.shinri_core.proofs.Inhabited.{grounded_more, inhabited_closed, inhabited_least}
use Rattle.shinri_core.proofs.Memory.Searching.{NoneFrom, none_yet, none_more}

-- a sort that is not ready is a datatype that is not found
unready_is : (d f : Bool) → T (not (not d || f)) → T d × (T f → ⊥)
unready_is true true t = absurd t
unready_is true false t = (tt, λ w. w)
unready_is false f t = absurd t

not_turned : (a b : Bool) → (T b → T a) → T (not a) → T (not b)
not_turned a true f t = subst T (ap not (T_true a (f tt))) t
not_turned a false f t = tt

-- ---- one mark more

module _ (u : List Bool) (p : ℕ) (h : p < length u) where
  mark_there : marked (set u p true) p ≡ true
  unfolding marked
  mark_there = get_or-set_same u p true false h

  mark_old : (x : ℕ) → T (marked (set u p true) x) → (x ≡ p) ⊎ T (marked u x)
  unfolding marked
  mark_old x t = go (ℕ_discrete x p)
    where
      go : Dec (x ≡ p) → (x ≡ p) ⊎ T (marked u x)
      go (yes e) = inl e
      go (no d) = inr (subst T (get_or-set_other u p x true false d) t)

  mark_stays : (x : ℕ) → T (marked u x) → T (marked (set u p true) x)
  unfolding marked
  mark_stays x t = go (ℕ_discrete x p)
    where
      go : Dec (x ≡ p) → T (marked (set u p true) x)
      go (yes e) = subst⁻¹ (λ (y : ℕ). T (marked (set u p true) y)) e (true_T (marked (set u p true) p) mark_there)
      go (no d) = subst⁻¹ T (get_or-set_other u p x true false d) t

  abbrev before : ℕ → Bool
  before s = not (marked u s)

  abbrev after : ℕ → Bool
  after s = not (marked (set u p true) s)

  unmarked_less : (T (marked u p) → ⊥) → length (unmarked (set u p true)) < length (unmarked u)
  unfolding unmarked
  unmarked_less new =
      subst⁻¹ (λ (n : ℕ). length (keep after (range 0 n)) < length (keep before (range 0 (length u)))) (length-set u p true)
      (less (keep_more after before (range 0 (length u)) (λ x. not_turned (marked (set u p true) x) (marked u x) (mark_stays x))))
    where
      there : In p (keep before (range 0 (length u)))
      there = in_keep before (range 0 (length u)) p (in_range 0 (length u) p (omega arith) (omega arith)) (not_T (marked u p) new)

      gone : In p (keep after (range 0 (length u))) → ⊥
      gone i = subst T (ap not mark_there) (keep_in after (range 0 (length u)) p i).1

      less : (keep before (range 0 (length u)) ≡ keep after (range 0 (length u)))
          ⊎ (length (keep after (range 0 (length u))) < length (keep before (range 0 (length u)))) →
          length (keep after (range 0 (length u))) < length (keep before (range 0 (length u)))
      less (inl e) = absurd (gone (subst (λ (xs : List ℕ). In p xs) e there))
      less (inr l) = l

-- ---- a constructor that adds

module _ (cx : Context) (found : ℕ → Bool) (c : ℕ) where
  -- what is asked of it
  record Added : Type 0 where
    datatype : T (is_datatype_sort cx (symbol cx c).result)
    new : T (found (symbol cx c).result) → ⊥
    grounds : T (grounded cx found (symbol cx c).result)

  added : T (adds cx found c) → Added
  unfolding adds ready grounded builds
  added a =
      let s = (symbol cx c).result in
      let (tests, fields) = T_and (is_constructor (symbol cx c).role && not (ready cx found s)) (has_ready_fields cx found c) a in
      let (ctor, unready) = T_and (is_constructor (symbol cx c).role) (not (ready cx found s)) tests in
      let (d, n) = unready_is (is_datatype_sort cx s) (found s) unready in
      let b = builds_in cx s c (T-both (is_constructor (symbol cx c).role) (eqb s s) ctor (eqb_refl s)) in
      record { datatype = d; new = n; grounds = in_any (has_ready_fields cx found) (dt_constructors cx s) c b fields }

-- none adds, so each datatype that is grounded is found
none_adds : (cx : Context) (found : ℕ → Bool) → NoneFrom (adds cx found) 0 (length cx.symbols) → Closed cx found
unfolding grounded builds adds ready
none_adds cx found none s d g =
    let (c, i, fields) = any_in (has_ready_fields cx found) (dt_constructors cx s) g in
    let (ctor, e) = T_and (is_constructor (symbol cx c).role) (eqb (symbol cx c).result s) (in_builds cx s c i) in
    by_ready c (none c (omega arith) (in_symbols cx s c i)) ctor (eqb→eq (symbol cx c).result s e) fields
    (ready cx found (symbol cx c).result) refl
  where
    is_found : (r : ℕ) → r ≡ s → T (not (is_datatype_sort cx r)) ⊎ T (found r) → T (found s)
    is_found r e (inl o) =
        let other = subst (λ (x : ℕ). T (not (is_datatype_sort cx x))) e o in
        absurd (subst (λ (b : Bool). T (not b)) (T_true (is_datatype_sort cx s) d) other)
    is_found r e (inr m) = subst (λ (x : ℕ). T (found x)) e m

    by_ready : (c : ℕ) → adds cx found c ≡ false → T (is_constructor (symbol cx c).role) → (symbol cx c).result ≡ s →
        T (has_ready_fields cx found c) → (b : Bool) → ready cx found (symbol cx c).result ≡ b → T (found s)
    by_ready c Adds-none ctor e fields true q =
        let r = (symbol cx c).result in
        is_found r e (T-or (not (is_datatype_sort cx r)) (found r) (true_T (ready cx found r) q))
    by_ready c Adds-none ctor e fields false q =
        let r = (symbol cx c).result in
        let tests = T-both (is_constructor (symbol cx c).role) (not (ready cx found r)) ctor (subst⁻¹ (λ (b : Bool). T (not b)) q tt) in
        absurd (subst T Adds-none
        (T-both (is_constructor (symbol cx c).role && not (ready cx found r)) (has_ready_fields cx found c) tests fields))

-- ---- a round

-- symbols below c were tried on marks m, which are u now
pub record Rounding (t : List ℕ) (m : List Bool) (c : ℕ) (added : Bool) (u : List Bool) : Type 0 where
  pub long : length u ≡ length m
  pub marks : Marks t u
  pub more : added ≡ true → length (unmarked u) < length (unmarked m)
  pub same : added ≡ false → u ≡ m
  pub none : added ≡ false → NoneFrom (adds (context t) (marked u)) 0 c

-- there is room for the mark of a sort
pub mark_fits : {t : List ℕ} {u : List Bool} {p : ℕ} → ContextSound t → p < length (context t).sorts → Marks t u → p < length u
mark_fits {t} z h k = let l = k.long in let e = z.sort_count in let n = z.sorts_fit in omega arith

module _ {t : List ℕ} {m : List Bool} where
  pub round_first : Marks t m → Rounding t m 0 false m
  round_first k = record {
    long = refl;
    marks = k;
    more = λ e. absurd (false≢true e);
    same = λ e. refl;
    none = λ e. none_yet (adds (context t) (marked m)) 0;
  }

  module _ {c : ℕ} {b : Bool} {u : List Bool} {r : Bool} (w : Rounding t m c b u) (e : r ≡ adds (context t) (marked u) c) where
    pub round_passes : r ≡ false → Rounding t m (c + 1) b u
    round_passes q = record {
      long = w.long;
      marks = w.marks;
      more = w.more;
      same = w.same;
      none = λ f. none_more (adds (context t) (marked u)) 0 c (w.none f) (sym e ∙ q);
    }

    pub round_adds : {p : ℕ} → r ≡ true → ContextSound t → p ≡ (symbol (context t) c).result → p < length (context t).sorts →
        Rounding t m (c + 1) true (set u p true)
    round_adds {p} q z result h = record {
      long = length-set u p true ∙ w.long;
      marks = record {
        long = let n = length-set u p true in let l = w.marks.long in omega arith;
        inhabited = λ s i. right s (mark_old u p (mark_fits z h w.marks) s i);
      };
      more = λ o. fewer b refl;
      same = λ o. absurd (true≢false o);
      none = λ o. absurd (true≢false o);
    }
      where
        a : Added (context t) (marked u) c
        a = added (context t) (marked u) c (true_T (adds (context t) (marked u) c) (sym e ∙ q))

        inhabited_now : T (inhabited (context t) (symbol (context t) c).result)
        inhabited_now =
            inhabited_closed (context t) (symbol (context t) c).result a.datatype
            (grounded_more (context t) (marked u) (inhabited (context t)) w.marks.inhabited
            (symbol (context t) c).result a.grounds)

        right : (s : ℕ) → (s ≡ p) ⊎ T (marked u s) → T (inhabited (context t) s)
        right s (inl g) = subst⁻¹ (λ (x : ℕ). T (inhabited (context t) x)) (g ∙ result) inhabited_now
        right s (inr i) = w.marks.inhabited s i

        one_less : length (unmarked (set u p true)) < length (unmarked u)
        one_less = unmarked_less u p (mark_fits z h w.marks) (λ i. a.new (subst (λ (x : ℕ). T (marked u x)) result i))

        fewer : (o : Bool) → b ≡ o → length (unmarked (set u p true)) < length (unmarked m)
        fewer true g = let l = w.more g in let k = one_less in omega arith
        fewer false g = subst (λ (v : List Bool). length (unmarked (set u p true)) < length (unmarked v)) (w.same g) one_less

  pub round_done : {c : ℕ} {b : Bool} {u : List Bool} (n : ℕ) → Rounding t m c b u → n ≡ length (context t).symbols → n ≤ c →
      MarkRound t m b u
  round_done {c} {b} {u} n w e h = record {
    marks = w.marks;
    more = w.more;
    same = w.same;
    closed = λ o. none_adds (context t) (marked u) (λ k i j. w.none o k i (omega arith));
  }

-- ---- all rounds

-- marks after some rounds
pub record Finding (t : List ℕ) (u : List Bool) : Type 0 where
  pub long : length u ≡ max_sorts
  pub marks : Marks t u

pub finding_first : (t : List ℕ) → Finding t (replicate max_sorts false)
unfolding marked
finding_first t = record {
  long = length-replicate {A = Bool} max_sorts false;
  marks = record {
    long = let l = length-replicate {A = Bool} max_sorts false in omega arith;
    inhabited = λ s i. absurd (subst T (none_marked max_sorts s) i);
  };
}
  where
    none_marked : (n s : ℕ) → get_or (replicate n false) s false ≡ false
    none_marked zero s = refl
    none_marked (suc n) zero = refl
    none_marked (suc n) (suc s) = none_marked n s

module _ {t : List ℕ} {m u : List Bool} {more : Bool} (w : MarkRound t m more u) where
  -- a round that adds none has found them all
  pub finding_done : {r : Bool} → more ≡ false → r ≡ every (marked u) (datatypes (context t)) → r ≡ all_grounded (context t)
  unfolding all_grounded
  finding_done q e =
      e ∙ every_same (marked u) (inhabited (context t)) (datatypes (context t))
      (λ s i. T-same (marked u s) (inhabited (context t) s) (w.marks.inhabited s)
      (inhabited_least (context t) (marked u) (w.closed q) s))
