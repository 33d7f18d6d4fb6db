-- What the definition makes of a walk under way (`resume`) stays the same at each step: a field is entered, an application is finished.
-- No table is in it.
use Rattle.shinri_core.proofs.Kit.{ℕ, zero, suc, ◌-◌, ◌≤◌, ◌<◌, ◌≡◌, refl, ap, ◌∙◌, Bool, true, false, cond, List, [], ◌∷◌, ◌++◌, append-nil, none, some, arith, length, get_or, take, take_all}
use mathlib.Core.List.{reverse, reverse-append}
use lib.Seq.{take-suc}
use Rattle.shinri_core.specs.Lists.{keep, mem}
use Rattle.shinri_core.specs.Context.{Context, CtorApp, is_datatype_sort, sort_of}
use Rattle.solver.specs.State.{State, ctor_of_class}
use Rattle.solver.specs.Ring.{Edge, Walk, Found, Finished, kids, ring_edges, on_path, enter, after, finish, walk_from, walk_watched}
use Rattle.solver.specs.Memory.Walking.{Open, frames, depth, entering, trying, resume, untried}

-- ---- walks

pub after_finished : (s : State) (w : Walk) → after (resume s []) w ≡ w
unfolding after resume
after_finished s (Found es) = refl
after_finished s (Finished d) = refl

trying_found : (s : State) (os : List Open) (es : List Edge) (fs : List ℕ) → trying s os (Found es) fs ≡ Found es
unfolding trying after
trying_found s os es [] = refl
trying_found s os es (f ∷ fs) = trying_found s os es fs

-- ---- steps

module _ (s : State) (os : List Open) where
  abbrev opens : ℕ → ℕ → List ℕ → List Open
  opens app via left = record { app = app; via = via; left = left } ∷ os

  -- the fields of the newest application behind a walk
  rest : (app via : ℕ) (xs : List ℕ) (w : Walk) →
      after (resume s os) (finish app (trying s (opens app via xs) w xs)) ≡ after (resume s (opens app via xs)) w
  unfolding resume after finish
  rest app via xs (Found es) = ap (λ (w : Walk). after (resume s os) (finish app w)) (trying_found s (opens app via xs) es xs)
  rest app via xs (Finished d) = refl

  -- the next field is entered
  pub resume_field : (app via x : ℕ) (xs done : List ℕ) →
      resume s (opens app via (x ∷ xs)) done ≡ after (resume s (opens app via xs)) (entering s (opens app via xs) done x)
  resume_field app via x xs done = first ∙ rest app via xs (entering s (opens app via xs) done x)
    where
      first : resume s (opens app via (x ∷ xs)) done
          ≡ after (resume s os) (finish app (trying s (opens app via xs) (entering s (opens app via xs) done x) xs))
      first = unfold resume trying entering depth frames after in refl

  -- no field is left
  pub resume_finish : (app via : ℕ) (done : List ℕ) → resume s (opens app via []) done ≡ resume s os (app ∷ done)
  unfolding resume trying after finish
  resume_finish app via done = refl

  -- ---- a field that is entered

  module _ (done : List ℕ) (x : ℕ) where
    pub enter_none : ctor_of_class s x ≡ none → after (resume s os) (entering s os done x) ≡ resume s os done
    unfolding entering enter after
    enter_none e = rw e

    module _ (a : CtorApp) (is : ctor_of_class s x ≡ some a) where
      pub enter_path : on_path a.app (frames os) ≡ true →
          after (resume s os) (entering s os done x) ≡ Found (ring_edges x a.app (frames os))
      unfolding entering enter after
      enter_path p = rw (is, p)

      pub enter_finished : on_path a.app (frames os) ≡ false → mem a.app done ≡ true →
          after (resume s os) (entering s os done x) ≡ resume s os done
      unfolding entering enter after
      enter_finished p m = rw (is, p, m)

      pub enter_new : on_path a.app (frames os) ≡ false → mem a.app done ≡ false → length os < length s.terms.terms →
          after (resume s os) (entering s os done x) ≡ resume s (opens a.app x (kids s.terms a)) done
      enter_new p m l = ap (after (resume s os)) (here ∙ there) ∙ unfold resume in refl
        where
          new : List Open
          new = opens a.app x (kids s.terms a)

          here : entering s os done x ≡ walk_from (depth s os) s (record { app = a.app; via = x } ∷ frames os) a done
          here = unfold entering enter in rw (is, p, m)

          deeper : depth s os ≡ suc (depth s new)
          deeper = unfold depth in omega arith

          there : walk_from (depth s os) s (record { app = a.app; via = x } ∷ frames os) a done
              ≡ finish a.app (trying s new (Finished done) (kids s.terms a))
          there = rw deeper (unfold walk_from trying entering frames in refl)

-- ---- fields

module _ (cx : Context) where
  abbrev datatype : ℕ → Bool
  datatype f = is_datatype_sort cx (sort_of cx f)

  keep_last : (xs : List ℕ) (y : ℕ) → keep datatype (xs ++ (y ∷ [])) ≡ keep datatype xs ++ cond (datatype y) (y ∷ []) []
  unfolding keep
  keep_last [] y = refl
  keep_last (x ∷ xs) y = go (datatype x) (keep_last xs y)
    where
      go : (b : Bool) → keep datatype (xs ++ (y ∷ [])) ≡ keep datatype xs ++ cond (datatype y) (y ∷ []) [] →
          cond b (x ∷ keep datatype (xs ++ (y ∷ []))) (keep datatype (xs ++ (y ∷ [])))
          ≡ cond b (x ∷ keep datatype xs) (keep datatype xs) ++ cond (datatype y) (y ∷ []) []
      go true h = ap (λ (zs : List ℕ). x ∷ zs) h
      go false h = h

  reverse_last : (xs : List ℕ) (y : ℕ) (b : Bool) → reverse (xs ++ cond b (y ∷ []) []) ≡ cond b (y ∷ reverse xs) (reverse xs)
  reverse_last xs y true = reverse-append xs (y ∷ [])
  reverse_last xs y false = ap reverse (append-nil xs)

  untried_is : (fs : List ℕ) (m : ℕ) → m ≤ length fs → untried cx fs m ≡ reverse (keep datatype (take m fs))
  unfolding untried
  untried_is fs zero h = unfold keep in refl
  untried_is fs (suc m) h =
      let y = get_or fs m 0 in
      let e : keep datatype (take (suc m) fs) ≡ keep datatype (take m fs) ++ cond (datatype y) (y ∷ []) [] =
      ap (keep datatype) (take-suc fs m 0 (omega arith)) ∙ keep_last (take m fs) y in
      rw (untried_is fs m (omega arith), e, reverse_last (keep datatype (take m fs)) y (datatype y))

  -- all fields of an application
  pub untried_all : (a : CtorApp) (m : ℕ) → m ≡ length a.fields → untried cx a.fields m ≡ kids cx a
  unfolding kids
  untried_all a m e =
      untried_is a.fields m (omega arith)
      ∙ ap (λ (xs : List ℕ). reverse (keep datatype xs)) (take_all m a.fields (omega arith))

pub watched_entering : (s : State) (t : ℕ) (done : List ℕ) → walk_watched s t done ≡ entering s [] done t
unfolding walk_watched entering depth frames
watched_entering s t done = let e : suc (length s.terms.terms) - 0 ≡ suc (length s.terms.terms) = omega arith in rw e
