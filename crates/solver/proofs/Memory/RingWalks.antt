-- The loops of the walk for a ring: the steps from a path of one application, and the watched terms.
use Rattle.shinri_core.proofs.Kit.{ℕ, zero, suc, ◌+◌, ◌≤◌, ◌<◌, ◌≡◌, refl, sym, subst, ap, ◌∙◌, ◌⊎◌, inl, inr, Bool, true, false, false≢true, List, [], ◌∷◌, none, arith, length}
use Rattle.std.specs.Prelude.{Result, Ok, Err}
use Rattle.shinri_core.specs.Limits.{max_terms}
use Rattle.shinri_core.specs.Lists.{any, keep, mem}
use Rattle.shinri_core.specs.Context.{Context, is_datatype_sort, sort_of}
use Rattle.shinri_core.specs.Memory.Words.{at}
use Rattle.shinri_core.specs.Memory.Table.{context, ContextSound}
use Rattle.theory.specs.Memory.Explaining.{EqualNodes}
use Rattle.solver.specs.State.{State, watched_dt_terms}
use Rattle.solver.specs.Ring.{Edge, Walk, Found, Finished, on_path, after, walk_watched, ring_of, constructor_graph_find_cycle, ring_edges}
use Rattle.solver.specs.declared.ring.Cycle.{Cycle}
use Rattle.solver.specs.Memory.Table.{is_set, term_kind, state_with, dt_with}
use Rattle.solver.specs.Memory.Work.{W_MARK, state_at}
use Rattle.solver.specs.Memory.Making.{Making}
use Rattle.solver.specs.Memory.Walking.{COLOUR, PATH_APP, PATH_VIA, entering, resume, opened, path, path_apps, colour, outlook, Leads, Walking, WalkSound, Goes, entered, EnterOutcome, StepOutcome, WalkOutcome, WatchedOutcome, watched_from, seeking, SeekOn, SeekOutcome, Unmet, CycleOutcome}
use Rattle.solver.proofs.Memory.Rings.{path_fits}
use Rattle.solver.proofs.Memory.Flags.{flagged_step, flagged_none}
use Rattle.solver.proofs.Memory.Roles.{kind_within}
use Rattle.solver.proofs.Memory.Resuming.{after_finished, watched_entering}

-- ---- the steps

-- the loop has come from table r₀ with n₀ applications on the path to r with n
pub record Walks (c e w r₀ : List ℕ) (n₀ : ℕ) (r : List ℕ) (n : ℕ) : Type 0 where
  pub long : length r ≡ length r₀
  pub sound : WalkSound c e w r n
  pub goes : (done : List ℕ) → Walking c e r₀ n₀ done → Goes c e w r₀ n₀ done r n

pub walks_first : {c e w r : List ℕ} {n : ℕ} → WalkSound c e w r n → Walks c e w r n r n
walks_first s = record { long = refl; sound = s; goes = λ done v. record { done' = done; walking = v; same = λ s lv. refl } }

module _ {c e w r₀ : List ℕ} {n₀ : ℕ} {r : List ℕ} {n : ℕ} (W : Walks c e w r₀ n₀ r n) where
  pub walks_ring : (p : Cycle) (u : List ℕ) → StepOutcome c e w r n (Err p) u → WalkOutcome c e w r₀ n₀ (Err p) u
  walks_ring p u o = λ done v.
      let g = W.goes done v in
      let k = o g.done' g.walking in
      record { done' = k.done'; walking = k.walking; leads = k.leads; found = λ s lv. g.same s lv ∙ k.found s lv }

  pub walks_next : (m : ℕ) (u : List ℕ) → StepOutcome c e w r n (Ok m) u → length u ≡ length r → Walks c e w r₀ n₀ u m
  walks_next m u o l =
      let next = o.1 in
      let now = next W.sound.done W.sound.walking in
      record {
        long = l ∙ W.long;
        sound = record { making = W.sound.making; done = now.done'; walking = now.walking };
        goes = λ done v.
            let g = W.goes done v in
            let k = next g.done' g.walking in
            record { done' = k.done'; walking = k.walking; same = λ s lv. g.same s lv ∙ k.same s lv };
      }

  pub walks_done : n ≡ 0 → (done : List ℕ) → Walking c e r₀ n₀ done → Goes c e w r₀ n₀ done r 0
  walks_done z done v = subst (λ (k : ℕ). Goes c e w r₀ n₀ done r k) z (W.goes done v)

-- ---- a watched term

-- a walk from a watched term enters it with nothing on the path
watched_is : (c e s w : List ℕ) (lv : ℕ → ℕ) (r : List ℕ) (x : ℕ) (done : List ℕ) →
    walk_watched (state_at c e s w lv) x done ≡ entered c e s w lv r 0 done x
unfolding opened
watched_is c e s w lv r x done =
    watched_entering (state_at c e s w lv) x done
    ∙ sym (after_finished (state_at c e s w lv) (entering (state_at c e s w lv) [] done x))

-- nothing is on the path
outlook_none : (c e s w : List ℕ) (lv : ℕ → ℕ) (r done : List ℕ) → outlook c e s w lv r 0 done ≡ Finished done
unfolding opened resume
outlook_none c e s w lv r done = refl

-- so it leads back to nothing
pub watched_never : (c e w r : List ℕ) (x : ℕ) (p : Cycle) (u : List ℕ) → EnterOutcome c e w r 0 x (Err p) u →
    (a : Result (Unit {0}) Cycle) → WatchedOutcome c e w r x a u
watched_never c e w r x p u o = go
  where
    never : (z : ℕ) → false ≡ on_path z (path r 0)
    never z = unfold path on_path any in refl

    no : (done : List ℕ) → Walking c e r 0 done → ⊥
    no done v = let m = o.3 done v in false≢true (never p.app.0 ∙ m.on)

    go : (a : Result (Unit {0}) Cycle) → WatchedOutcome c e w r x a u
    go (Ok _) = λ done v. absurd (no done v)
    go (Err q) = λ done v. absurd (no done v)

-- the walk goes on from it, or there is nothing to walk
module _ {c e w r : List ℕ} (s : WalkSound c e w r 0) (x n : ℕ) (u : List ℕ) (o : EnterOutcome c e w r 0 x (Ok n) u) where
  pub watched_sound : WalkSound c e w u n
  watched_sound = record { making = s.making; done = s.done; walking = (o.1 s.done s.walking).walking }

  pub watched_walk : (b : Result (Unit {0}) Cycle) (u' : List ℕ) → WalkOutcome c e w u n b u' → WatchedOutcome c e w r x b u'
  watched_walk (Ok _) u' k = λ done v.
      let m = o.1 done v in
      let t = k done m.walking in
      record {
        done' = t.done';
        walking = t.walking;
        finished = λ z lv. watched_is c e z w lv r x done ∙ m.same z lv ∙ t.same z lv ∙ outlook_none c e z w lv u' t.done';
      }
  watched_walk (Err p) u' k = λ done v.
      let m = o.1 done v in
      let t = k done m.walking in
      record {
        done' = t.done';
        walking = t.walking;
        leads = t.leads;
        found = λ z lv. watched_is c e z w lv r x done ∙ m.same z lv ∙ t.found z lv;
      }

-- ---- a term

seeking_found : (s : State) (es : List Edge) (ts : List ℕ) → seeking s (Found es) ts ≡ Found es
unfolding seeking after
seeking_found s es [] = refl
seeking_found s es (t ∷ ts) = seeking_found s es ts

seeking_step : (s : State) (t : ℕ) (ts done : List ℕ) (v : Walk) → walk_watched s t done ≡ v →
    seeking s (Finished done) (t ∷ ts) ≡ seeking s v ts
unfolding seeking after
seeking_step s t ts done v e = rw e

module _ (cx : Context) (w : List ℕ) (i : ℕ) (h : i < max_terms) where
  -- a term without a mark
  watched_unmarked : at w W_MARK i ≡ 0 → watched_from cx w i ≡ watched_from cx w (suc i)
  unfolding watched_from
  watched_unmarked z =
      let m : is_set (at w W_MARK i) ≡ false = unfold is_set in rw z in
      rw (flagged_step w W_MARK i h, m)

  module _ (z : at w W_MARK i ≡ 0 → ⊥) where
    marked : is_set (at w W_MARK i) ≡ true
    marked = go (at w W_MARK i) z
      where
        go : (k : ℕ) → (k ≡ 0 → ⊥) → is_set k ≡ true
        go zero d = absurd (d refl)
        go (suc k) d = unfold is_set in refl

    -- one of another sort
    watched_other : is_datatype_sort cx (sort_of cx i) ≡ false → watched_from cx w i ≡ watched_from cx w (suc i)
    unfolding watched_from keep
    watched_other d = rw (flagged_step w W_MARK i h, marked, d)

    watched_here : is_datatype_sort cx (sort_of cx i) ≡ true → watched_from cx w i ≡ i ∷ watched_from cx w (suc i)
    unfolding watched_from keep
    watched_here d = rw (flagged_step w W_MARK i h, marked, d)

-- a term that is passed over
module _ {c e w r : List ℕ} (s : WalkSound c e w r 0) {i : ℕ} (h : i < length (context c).terms) where
  within : i < max_terms
  within = let C = s.making.core in omega (arith, C.term_count, C.terms_fit)

  seek_on : watched_from (context c) w i ≡ watched_from (context c) w (suc i) → (done : List ℕ) → Walking c e r 0 done →
      SeekOn c e w done i r
  seek_on q done v = record {
    done' = done;
    walking = v;
    same = λ z lv. ap (λ (ts : List ℕ). seeking (state_at c e z w lv) (Finished done) ts) q;
  }

  -- it has no mark
  pub seek_unmarked : (k : ℕ) → k ≡ at w W_MARK i → k ≡ 0 → (done : List ℕ) → Walking c e r 0 done → SeekOn c e w done i r
  seek_unmarked k g z = seek_on (watched_unmarked (context c) w i within (sym g ∙ z))

  module _ (k : ℕ) (g : k ≡ at w W_MARK i) (d : k ≡ 0 → ⊥) (b : Bool) (t : ℕ) (K : t ≡ sort_of (context c) i)
      (is : b ≡ is_datatype_sort (context c) t) where
    -- it is of another sort
    pub seek_other : b ≡ false → (done : List ℕ) → Walking c e r 0 done → SeekOn c e w done i r
    seek_other f =
        seek_on (watched_other (context c) w i within (λ z. d (g ∙ z)) (sym (is ∙ ap (is_datatype_sort (context c)) K) ∙ f))

    -- it is watched
    pub seek_watched : b ≡ true → (a : Result (Unit {0}) Cycle) (u : List ℕ) → WatchedOutcome c e w r i a u → SeekOutcome c e w r i a u
    seek_watched f a u o = go a o
      where
        here : watched_from (context c) w i ≡ i ∷ watched_from (context c) w (suc i)
        here = watched_here (context c) w i within (λ z. d (g ∙ z)) (sym (is ∙ ap (is_datatype_sort (context c)) K) ∙ f)

        step : (z : List ℕ) (lv : ℕ → ℕ) (done : List ℕ) (v : Walk) → walk_watched (state_at c e z w lv) i done ≡ v →
            seeking (state_at c e z w lv) (Finished done) (watched_from (context c) w i)
            ≡ seeking (state_at c e z w lv) v (watched_from (context c) w (suc i))
        step z lv done v q = rw here (seeking_step (state_at c e z w lv) i (watched_from (context c) w (suc i)) done v q)

        go : (a : Result (Unit {0}) Cycle) → WatchedOutcome c e w r i a u → SeekOutcome c e w r i a u
        go (Ok _) o = λ done v.
            let t = o done v in
            record { done' = t.done'; walking = t.walking; same = λ z lv. step z lv done (Finished t.done') (t.finished z lv) }
        go (Err p) o = λ done v.
            let t = o done v in
            record {
              done' = t.done';
              walking = t.walking;
              leads = t.leads;
              found = λ z lv.
                  step z lv done (Found (ring_edges p.field.0 p.app.0 (path u p.len))) (t.found z lv)
                  ∙ seeking_found (state_at c e z w lv) (ring_edges p.field.0 p.app.0 (path u p.len)) (watched_from (context c) w (suc i));
            }

-- ---- the watched terms

-- the loop has come to term i
pub record Watching (c e w r₀ r : List ℕ) (i : ℕ) : Type 0 where
  pub long : length r ≡ length r₀
  pub sound : WalkSound c e w r 0
  pub rest : (s : List ℕ) (lv : ℕ → ℕ) →
      constructor_graph_find_cycle (state_at c e s w lv)
      ≡ ring_of (seeking (state_at c e s w lv) (Finished sound.done) (watched_from (context c) w i))

none_met : (c e r : List ℕ) → Unmet r → Walking c e r 0 []
none_met c e r u = record {
  long = u.long;
  leads = λ i h. absurd (omega arith);
  left = λ i h. absurd (omega arith);
  once = unfold path_apps in tt;
  colours = λ x h. unfold at colour path on_path any mem in u.zero (COLOUR + x);
}

pub watch_first : {c e w r : List ℕ} → Making c e w → Unmet r → Watching c e w r r 0
watch_first {c} {e} {w} {r} m u = record {
  long = refl;
  sound = record { making = m; done = []; walking = none_met c e r u };
  rest = λ s lv. unfold constructor_graph_find_cycle seeking watched_from watched_dt_terms state_with dt_with in refl;
}

equal_nodes : (c e : List ℕ) → ContextSound c → (f x : ℕ) → Leads c e f x → EqualNodes e f x
equal_nodes c e C f x l = record {
  first = let h = l.field_within in omega (arith, C.term_count, C.terms_fit);
  second = let h = l.app_within in omega (arith, C.term_count, C.terms_fit);
  equal = l.equal;
}

module _ {c e w r₀ r : List ℕ} {i : ℕ} (W : Watching c e w r₀ r i) where
  pub watch_ring : (p : Cycle) (u : List ℕ) → SeekOutcome c e w r i (Err p) u → CycleOutcome c e w (Err p) u
  watch_ring p u o =
      let t = o W.sound.done W.sound.walking in
      let C = W.sound.making.core in (
        record {
          engine = W.sound.making.engine;
          long = t.walking.long;
          fits = let n = path_fits t.walking in omega (arith, C.term_count, C.terms_fit);
          closing = equal_nodes c e C p.field.0 p.app.0 t.leads;
          path = λ j h. equal_nodes c e C (at u PATH_VIA j) (at u PATH_APP j) (t.walking.leads j h);
        },
        λ s lv. W.rest s lv ∙ ap ring_of (t.found s lv) ∙ unfold ring_of in refl,
      )

  pub watch_next : (u : List ℕ) → ((done : List ℕ) → Walking c e r 0 done → SeekOn c e w done i u) → length u ≡ length r →
      Watching c e w r₀ u (i + 1)
  watch_next u o l =
      let t = o W.sound.done W.sound.walking in
      let k : i + 1 ≡ suc i = omega arith in
      rw k (record {
        long = l ∙ W.long;
        sound = record { making = W.sound.making; done = t.done'; walking = t.walking };
        rest = λ s lv. W.rest s lv ∙ ap ring_of (t.same s lv);
      })

  pub watch_done : (n : ℕ) → n ≡ length (context c).terms → (i < n → ⊥) → (s : List ℕ) (lv : ℕ → ℕ) →
      constructor_graph_find_cycle (state_at c e s w lv) ≡ none
  watch_done n g d s lv =
      W.rest s lv ∙ ap (λ (ts : List ℕ). ring_of (seeking (state_at c e s w lv) (Finished W.sound.done) ts)) none_left
      ∙ unfold seeking ring_of in refl
    where
      unmarked : (x : ℕ) → i ≤ x → x < max_terms → is_set (at w W_MARK x) ≡ false
      unmarked x l h = go (is_set (at w W_MARK x)) refl (W.sound.making.work.marks x h)
        where
          go : (b : Bool) → is_set (at w W_MARK x) ≡ b → (at w W_MARK x ≡ 0) ⊎ (at w W_MARK x ≡ term_kind (context c) x) → b ≡ false
          go false e k = refl
          go true e (inl z) = absurd (false≢true (unset ∙ sym (ap is_set z) ∙ e))
            where
              unset : false ≡ is_set 0
              unset = unfold is_set in refl
          go true e (inr k) = let b = kind_within (context c) x (sym (ap is_set k) ∙ e) in absurd (omega arith)

      none_left : watched_from (context c) w i ≡ []
      none_left = unfold watched_from keep in rw (flagged_none w W_MARK i unmarked)
