-- The walk for a ring on its table: what a step stores keeps the table sound, and the path and the colours are those of the walk that
-- `resume` speaks of.
use Rattle.shinri_core.proofs.Kit.{ℕ, zero, suc, ◌+◌, ◌-◌, ◌≤◌, ◌<◌, ◌≡◌, refl, sym, subst, ap, ◌∙◌, inl, inr, Bool, true, false, cond, true≢false, List, ◌∷◌, arith, eq-eqb, ne_eqb, eqb, ℕ_discrete, length, drop, length-drop, length-take-le}
use Rattle.shinri_core.specs.Limits.{max_terms}
use Rattle.shinri_core.specs.Lists.{In, Apart, any, range, mem}
use Rattle.shinri_core.specs.Context.{Context, children}
use Rattle.shinri_core.specs.Memory.Words.{at, put}
use Rattle.shinri_core.specs.Memory.Table.{OFFSET, POOL, context, ContextSound}
use Rattle.shinri_core.proofs.Lists.{in_range, length_range}
use Rattle.shinri_core.proofs.Memory.Views.{args_fit, part_ordered, part_within, part_is}
use Rattle.theory.proofs.Members.{apart_length}
use Rattle.solver.specs.Ring.{Frame, on_path}
use Rattle.solver.specs.Memory.Walking.{COLOUR, PATH_APP, PATH_VIA, PATH_LEFT, ring_size, frames, untried, opened, path, path_apps, colour, Leads, Walking, sum_below, unmet, load, pushed}
use Rattle.solver.proofs.Memory.RingStores.{stores}

-- ---- sums

sum_same : (f g : ℕ → ℕ) (n : ℕ) → ((i : ℕ) → i < n → f i ≡ g i) → sum_below f n ≡ sum_below g n
unfolding sum_below
sum_same f g zero h = refl
sum_same f g (suc n) h = rw (h n (omega arith), sum_same f g n (λ i l. h i (omega arith)))

-- two functions that differ at one place at most
sum_but_one : (f g : ℕ → ℕ) (n x : ℕ) → x < n → ((i : ℕ) → i < n → (i ≡ x → ⊥) → f i ≡ g i) →
    sum_below f n + g x ≡ sum_below g n + f x
unfolding sum_below
sum_but_one f g zero x l h = absurd (omega arith)
sum_but_one f g (suc n) x l h = go (ℕ_discrete x n) (λ d. sum_but_one f g n x (omega arith) (λ i k. h i (omega arith)))
  where
    go : Dec (x ≡ n) → ((x ≡ n → ⊥) → sum_below f n + g x ≡ sum_below g n + f x) → f n + sum_below f n + g x ≡ g n + sum_below g n + f x
    go (yes e) r =
        let s : sum_below f n ≡ sum_below g n = sum_same f g n (λ i k. h i (omega arith) (omega arith)) in
        rw (e, s) (omega arith)
    go (no d) r = let a = r d in let b = h n (omega arith) (λ e. d (sym e)) in omega arith

-- ---- the path

-- the first n places of the path are the same
pub record SamePath (r u : List ℕ) (n : ℕ) : Type 0 where
  pub apps : (i : ℕ) → i < n → at u PATH_APP i ≡ at r PATH_APP i
  pub vias : (i : ℕ) → i < n → at u PATH_VIA i ≡ at r PATH_VIA i
  pub lefts : (i : ℕ) → i < n → at u PATH_LEFT i ≡ at r PATH_LEFT i

shorter : (r u : List ℕ) (n : ℕ) → SamePath r u (suc n) → SamePath r u n
shorter r u n p = record {
  apps = λ i l. p.apps i (omega arith);
  vias = λ i l. p.vias i (omega arith);
  lefts = λ i l. p.lefts i (omega arith);
}

pub opened_same : (cx : Context) (r u : List ℕ) (n : ℕ) → SamePath r u n → opened cx u n ≡ opened cx r n
unfolding opened
opened_same cx r u zero p = refl
opened_same cx r u (suc n) p =
    rw (p.apps n (omega arith), p.vias n (omega arith), p.lefts n (omega arith), opened_same cx r u n (shorter r u n p))

pub path_same : (r u : List ℕ) (n : ℕ) → SamePath r u n → path u n ≡ path r n
unfolding path
path_same r u zero p = refl
path_same r u (suc n) p = rw (p.apps n (omega arith), p.vias n (omega arith), path_same r u n (shorter r u n p))

apps_same : (r u : List ℕ) (n : ℕ) → SamePath r u n → path_apps u n ≡ path_apps r n
unfolding path_apps
apps_same r u zero p = refl
apps_same r u (suc n) p = rw (p.apps n (omega arith), apps_same r u n (shorter r u n p))

pub frames_opened : (cx : Context) (r : List ℕ) (n : ℕ) → frames (opened cx r n) ≡ path r n
unfolding frames opened path
frames_opened cx r zero = refl
frames_opened cx r (suc n) = rw (frames_opened cx r n)

pub length_opened : (cx : Context) (r : List ℕ) (n : ℕ) → length (opened cx r n) ≡ n
unfolding opened
length_opened cx r zero = refl
length_opened cx r (suc n) = ap suc (length_opened cx r n)

-- what is not on the path is none of its applications
not_in_path : (r : List ℕ) (n x : ℕ) → on_path x (path r n) ≡ false → In x (path_apps r n) → ⊥
unfolding on_path any path path_apps
not_in_path r zero x e i = i
not_in_path r (suc n) x e (inl q) = true≢false (sym (rw (eq-eqb (at r PATH_APP n) x (sym q)) refl) ∙ e)
not_in_path r (suc n) x e (inr i) = not_in_path r n x (go (eqb (at r PATH_APP n) x) e) i
  where
    go : (b : Bool) → cond b true (on_path x (path r n)) ≡ false → on_path x (path r n) ≡ false
    go true h = absurd (true≢false h)
    go false h = h

in_path_not : (r : List ℕ) (n x : ℕ) → (In x (path_apps r n) → ⊥) → on_path x (path r n) ≡ false
unfolding on_path any path path_apps
in_path_not r zero x h = refl
in_path_not r (suc n) x h =
    let e : eqb (at r PATH_APP n) x ≡ false = ne_eqb (at r PATH_APP n) x (λ q. h (inl (sym q))) in
    rw (e, in_path_not r n x (λ i. h (inr i)))

-- different applications below a number
in_apps : (r : List ℕ) (n m : ℕ) → ((i : ℕ) → i < n → at r PATH_APP i < m) → (x : ℕ) → In x (path_apps r n) → x < m
unfolding path_apps
in_apps r zero m h x i = absurd i
in_apps r (suc n) m h x (inl e) = let l = h n (omega arith) in omega arith
in_apps r (suc n) m h x (inr i) = in_apps r n m (λ j l. h j (omega arith)) x i

length_apps : (r : List ℕ) (n : ℕ) → length (path_apps r n) ≡ n
unfolding path_apps
length_apps r zero = refl
length_apps r (suc n) = ap suc (length_apps r n)

apart_fit : (xs : List ℕ) (m : ℕ) → Apart xs → ((x : ℕ) → In x xs → x < m) → length xs ≤ m
apart_fit xs m a h =
    subst (λ (k : ℕ). length xs ≤ k) (length_range 0 m)
    (apart_length xs (range 0 m) a (λ x i. let l = h x i in in_range 0 m x (omega arith) (omega arith)))

module _ {c e r : List ℕ} {n : ℕ} {done : List ℕ} (w : Walking c e r n done) where
  below : (x : ℕ) → In x (path_apps r n) → x < length (context c).terms
  below = in_apps r n (length (context c).terms) (λ i l. (w.leads i l).app_within)

  pub path_fits : n ≤ length (context c).terms
  path_fits =
      let l = apart_fit (path_apps r n) (length (context c).terms) w.once below in
      let e = length_apps r n in
      omega arith

  -- one that is not on the path has room there
  pub path_room : (x : ℕ) → x < length (context c).terms → on_path x (path r n) ≡ false → n < length (context c).terms
  path_room x h q =
      let l = apart_fit (x ∷ path_apps r n) (length (context c).terms) (not_in_path r n x q, w.once) each in
      let e = length_apps r n in
      omega arith
    where
      each : (y : ℕ) → In y (x ∷ path_apps r n) → y < length (context c).terms
      each y (inl e) = omega arith
      each y (inr i) = below y i

-- ---- fields

-- how many fields a term has fits a word
pub fields_fit : (t : List ℕ) (x : ℕ) → ContextSound t → x < length (context t).terms → length (children (context t) x) < 4294967296
fields_fit t x z h =
    let a = at t OFFSET x in
    let e = at t OFFSET (x + 1) in
    let within = part_within t x a e z refl refl h in
    let ordered = part_ordered t x a e z refl refl h in
    let fits = args_fit t x a e z refl refl (e - a) (omega (arith, z.term_count)) refl in
    let n : e - a ≤ length (drop (POOL + a) t) = rw length-drop (omega arith) in
    let l = ap length (part_is t x a e z refl refl h) in
    let k = length-take-le (e - a) (drop (POOL + a) t) n in
    omega arith

-- ---- colours

pub colour_path : (fs : List Frame) (done : List ℕ) (x k : ℕ) → k ≡ colour fs done x → k ≡ 1 → on_path x fs ≡ true
unfolding colour
colour_path fs done x k e h = go (on_path x fs) (mem x done) e
  where
    go : (p m : Bool) → k ≡ cond p 1 (cond m 2 0) → p ≡ true
    go true m q = refl
    go false true q = absurd (omega arith)
    go false false q = absurd (omega arith)

pub colour_not_path : (fs : List Frame) (done : List ℕ) (x k : ℕ) → k ≡ colour fs done x → (k ≡ 1 → ⊥) → on_path x fs ≡ false
unfolding colour
colour_not_path fs done x k e h = go (on_path x fs) e
  where
    go : (p : Bool) → k ≡ cond p 1 (cond (mem x done) 2 0) → p ≡ false
    go true q = absurd (h q)
    go false q = refl

pub colour_finished : (fs : List Frame) (done : List ℕ) (x k : ℕ) → k ≡ colour fs done x → k ≡ 2 → mem x done ≡ true
unfolding colour
colour_finished fs done x k e h = go (on_path x fs) (mem x done) e
  where
    go : (p m : Bool) → k ≡ cond p 1 (cond m 2 0) → m ≡ true
    go true m q = absurd (omega arith)
    go false true q = refl
    go false false q = absurd (omega arith)

pub colour_not_finished : (fs : List Frame) (done : List ℕ) (x k : ℕ) → k ≡ colour fs done x → (k ≡ 1 → ⊥) → (k ≡ 2 → ⊥) →
    mem x done ≡ false
unfolding colour
colour_not_finished fs done x k e h g = go (on_path x fs) (mem x done) e
  where
    go : (p m : Bool) → k ≡ cond p 1 (cond m 2 0) → m ≡ false
    go true m q = absurd (h q)
    go false true q = absurd (g q)
    go false false q = refl

pub colour_new : (fs : List Frame) (done : List ℕ) (x k : ℕ) → k ≡ colour fs done x → (k ≡ 1 → ⊥) → (k ≡ 2 → ⊥) → k ≡ 0
unfolding colour
colour_new fs done x k e h g = go (on_path x fs) (mem x done) e
  where
    go : (p m : Bool) → k ≡ cond p 1 (cond m 2 0) → k ≡ 0
    go true m q = absurd (h q)
    go false true q = absurd (g q)
    go false false q = q

-- a fact about n more places
below_suc : (P : ℕ → Type 0) (n : ℕ) → ((i : ℕ) → i < n → P i) → P n → (i : ℕ) → i < suc n → P i
below_suc P n h p i l = go (ℕ_discrete i n)
  where
    go : Dec (i ≡ n) → P i
    go (yes e) = subst P (sym e) p
    go (no d) = h i (omega arith)

-- ---- one more application on the path

pub record PushedWords (r : List ℕ) (n via app left : ℕ) (u : List ℕ) : Type 0 where
  pub long : ring_size ≤ length u
  pub colours : (x : ℕ) → x < max_terms → at u COLOUR x ≡ cond (eqb x app) 1 (at r COLOUR x)
  pub app_is : at u PATH_APP n ≡ app
  pub via_is : at u PATH_VIA n ≡ via
  pub left_is : at u PATH_LEFT n ≡ left
  pub before : SamePath r u n

pub pushed_words : (r : List ℕ) (n via app left : ℕ) → ring_size ≤ length r → n < max_terms → app < max_terms →
    PushedWords r n via app left (pushed r n via app left)
unfolding pushed
pushed_words r n via app left l h k =
    record {
      long = search stores;
      colours = λ x g. search stores;
      app_is = search stores;
      via_is = search stores;
      left_is = search stores;
      before = record {
        apps = λ i g. let m : i < max_terms = omega arith in let q = ne_eqb i n (omega arith) in search (q, stores);
        vias = λ i g. let m : i < max_terms = omega arith in let q = ne_eqb i n (omega arith) in search (q, stores);
        lefts = λ i g. let m : i < max_terms = omega arith in let q = ne_eqb i n (omega arith) in search (q, stores);
      };
    }

lighter : (su sr : ℕ) {uu ur pu pr lu len : ℕ} → su + ur ≡ sr + uu → uu ≡ 0 → ur ≡ suc (suc len) → pu ≡ pr → lu ≡ len →
    su + (suc lu + pu) < sr + pr
lighter su sr a b d e f = omega arith

module _ {c e r : List ℕ} {n : ℕ} {done : List ℕ} {via app : ℕ} {u : List ℕ} (w : Walking c e r n done) (l : Leads c e via app)
    (q : on_path app (path r n) ≡ false) (p : PushedWords r n via app (length (children (context c) app)) u) where
  push_colours : (x : ℕ) → x < max_terms → at u COLOUR x ≡ colour (path u (suc n)) done x
  unfolding path colour on_path any
  push_colours x h = p.colours x h ∙ rw (p.app_is, path_same r u n p.before, w.colours x h) (go (ℕ_discrete x app))
    where
      go : Dec (x ≡ app) →
          ◌≡◌ {A = ℕ} (cond (eqb x app) 1 (cond (on_path x (path r n)) 1 (cond (mem x done) 2 0)))
          (cond (cond (eqb app x) true (on_path x (path r n))) 1 (cond (mem x done) 2 0))
      go (yes e) = rw (eq-eqb x app e, eq-eqb app x (sym e))
      go (no d) = rw (ne_eqb x app d, ne_eqb app x (λ e. d (sym e)))

  -- a sound table stays so
  pub push_walking : Walking c e u (suc n) done
  push_walking = record {
    long = p.long;
    leads = below_suc (λ i. Leads c e (at u PATH_VIA i) (at u PATH_APP i)) n
        (λ i h. rw (p.before.vias i h, p.before.apps i h) (w.leads i h)) (rw (p.via_is, p.app_is) l);
    left = below_suc (λ i. at u PATH_LEFT i ≤ length (children (context c) (at u PATH_APP i))) n
        (λ i h. rw (p.before.lefts i h, p.before.apps i h) (w.left i h)) (rw (p.left_is, p.app_is) (omega arith));
    once = unfold path_apps in rw (p.app_is, apps_same r u n p.before) (not_in_path r n app q, w.once);
    colours = push_colours;
  }

  pub push_opened : opened (context c) u (suc n)
      ≡ record { app = app; via = via; left = untried (context c) (children (context c) app) (length (children (context c) app)) }
      ∷ opened (context c) r n
  unfolding opened
  push_opened = rw (p.app_is, p.via_is, p.left_is, opened_same (context c) r u n p.before)

  pub push_load : app < max_terms → at r COLOUR app ≡ 0 → load (context c) u (suc n) < load (context c) r n
  push_load h z = unfold load sum_below in
      lighter (sum_below (unmet (context c) u) max_terms) (sum_below (unmet (context c) r) max_terms)
      (sum_but_one (unmet (context c) u) (unmet (context c) r) max_terms app h others) new old
      (sum_same (λ i. suc (at u PATH_LEFT i)) (λ i. suc (at r PATH_LEFT i)) n (λ i l. ap suc (p.before.lefts i l))) p.left_is
    where
      others : (i : ℕ) → i < max_terms → (i ≡ app → ⊥) → unmet (context c) u i ≡ unmet (context c) r i
      others i l d = unfold unmet in rw (p.colours i l, ne_eqb i app d)

      new : unmet (context c) u app ≡ 0
      new = unfold unmet in rw (p.colours app h, eq-eqb app app refl)

      old : unmet (context c) r app ≡ suc (suc (length (children (context c) app)))
      old = unfold unmet in rw z

-- ---- the newest application has one field less to try

pub record TriedWords (r : List ℕ) (n m : ℕ) (u : List ℕ) : Type 0 where
  pub long : ring_size ≤ length u
  pub colours : (x : ℕ) → x < max_terms → at u COLOUR x ≡ at r COLOUR x
  pub app_is : at u PATH_APP n ≡ at r PATH_APP n
  pub via_is : at u PATH_VIA n ≡ at r PATH_VIA n
  pub left_is : at u PATH_LEFT n ≡ m
  pub before : SamePath r u n

pub tried_words : (r : List ℕ) (n m : ℕ) → ring_size ≤ length r → n < max_terms → TriedWords r n m (put r PATH_LEFT n m)
tried_words r n m l h = record {
  long = search stores;
  colours = λ x g. search stores;
  app_is = search stores;
  via_is = search stores;
  left_is = search stores;
  before = record {
    apps = λ i g. let k : i < max_terms = omega arith in search stores;
    vias = λ i g. let k : i < max_terms = omega arith in search stores;
    lefts = λ i g. let q = ne_eqb i n (omega arith) in search (q, stores);
  };
}

fewer : (a b : ℕ) {pu pr lu lr m : ℕ} → a ≡ b → pu ≡ pr → lu ≡ m → lr ≡ suc m → a + (suc lu + pu) < b + (suc lr + pr)
fewer a b d e f g = omega arith

module _ {r : List ℕ} {n m : ℕ} {u : List ℕ} (was : at r PATH_LEFT n ≡ suc m) (p : TriedWords r n m u) where
  pub tried_path : path u (suc n) ≡ path r (suc n)
  tried_path = unfold path in rw (p.app_is, p.via_is, path_same r u n p.before)

  pub tried_walking : {c e done : List ℕ} → Walking c e r (suc n) done → Walking c e u (suc n) done
  tried_walking {c} {e} {done} w = record {
    long = p.long;
    leads = below_suc (λ i. Leads c e (at u PATH_VIA i) (at u PATH_APP i)) n
        (λ i h. rw (p.before.vias i h, p.before.apps i h) (w.leads i (omega arith)))
        (rw (p.via_is, p.app_is) (w.leads n (omega arith)));
    left = below_suc (λ i. at u PATH_LEFT i ≤ length (children (context c) (at u PATH_APP i))) n
        (λ i h. rw (p.before.lefts i h, p.before.apps i h) (w.left i (omega arith)))
        (rw (p.left_is, p.app_is) (let l = w.left n (omega arith) in omega arith));
    once = let o = w.once in unfold path_apps in rw (p.app_is, apps_same r u n p.before) o;
    colours = λ x h. p.colours x h ∙ w.colours x h ∙ ap (λ (fs : List Frame). colour fs done x) (sym tried_path);
  }

  pub tried_load : (c : List ℕ) → load (context c) u (suc n) < load (context c) r (suc n)
  tried_load c = unfold load sum_below in
      fewer (sum_below (unmet (context c) u) max_terms) (sum_below (unmet (context c) r) max_terms)
      (sum_same (unmet (context c) u) (unmet (context c) r) max_terms (λ i l. unfold unmet in rw (p.colours i l)))
      (sum_same (λ i. suc (at u PATH_LEFT i)) (λ i. suc (at r PATH_LEFT i)) n (λ i l. ap suc (p.before.lefts i l))) p.left_is was

-- ---- the newest application is finished

pub record FinishedWords (r : List ℕ) (app : ℕ) (u : List ℕ) : Type 0 where
  pub long : ring_size ≤ length u
  pub colours : (x : ℕ) → x < max_terms → at u COLOUR x ≡ cond (eqb x app) 2 (at r COLOUR x)
  pub before : SamePath r u max_terms

pub finished_words : (r : List ℕ) (app : ℕ) → ring_size ≤ length r → app < max_terms → FinishedWords r app (put r COLOUR app 2)
finished_words r app l h = record {
  long = search stores;
  colours = λ x g. search stores;
  before = record { apps = λ i g. search stores; vias = λ i g. search stores; lefts = λ i g. search stores };
}

gone : (a b : ℕ) {pu pr lr : ℕ} → a ≡ b → pu ≡ pr → lr ≡ 0 → a + pu < b + (suc lr + pr)
gone a b d e f = omega arith

module _ {r : List ℕ} {n : ℕ} {u : List ℕ} (fits : n < max_terms) (p : FinishedWords r (at r PATH_APP n) u) where
  pub finish_before : SamePath r u n
  finish_before = record {
    apps = λ i h. p.before.apps i (omega arith);
    vias = λ i h. p.before.vias i (omega arith);
    lefts = λ i h. p.before.lefts i (omega arith);
  }

  finish_colours : {c e done : List ℕ} → Walking c e r (suc n) done → (x : ℕ) → x < max_terms →
      at u COLOUR x ≡ colour (path u n) (at r PATH_APP n ∷ done) x
  unfolding path colour on_path any mem path_apps
  finish_colours {c} {e} {done} w x h = p.colours x h ∙ rw (path_same r u n finish_before, w.colours x h) (go (ℕ_discrete x app))
    where
      app : ℕ
      app = at r PATH_APP n

      go : Dec (x ≡ app) →
          ◌≡◌ {A = ℕ} (cond (eqb x app) 2 (cond (cond (eqb app x) true (on_path x (path r n))) 1 (cond (mem x done) 2 0)))
          (cond (on_path x (path r n)) 1 (cond (cond (eqb x app) true (mem x done)) 2 0))
      go (yes e) =
          let q : on_path x (path r n) ≡ false = rw e (in_path_not r n app w.once.0) in
          rw (eq-eqb x app e, q)
      go (no d) = rw (ne_eqb x app d, ne_eqb app x (λ e. d (sym e)))

  pub finish_walking : {c e done : List ℕ} → Walking c e r (suc n) done → Walking c e u n (at r PATH_APP n ∷ done)
  finish_walking {c} {e} {done} w = record {
    long = p.long;
    leads = λ i h. rw (finish_before.vias i h, finish_before.apps i h) (w.leads i (omega arith));
    left = λ i h. rw (finish_before.lefts i h, finish_before.apps i h) (w.left i (omega arith));
    once = let o = w.once in rw (apps_same r u n finish_before) (unfold path_apps in o.1);
    colours = finish_colours w;
  }

  pub finish_load : {c e done : List ℕ} → Walking c e r (suc n) done → at r PATH_LEFT n ≡ 0 →
      load (context c) u n < load (context c) r (suc n)
  finish_load {c} {e} {done} w z = unfold load sum_below in
      gone (sum_below (unmet (context c) u) max_terms) (sum_below (unmet (context c) r) max_terms)
      (sum_same (unmet (context c) u) (unmet (context c) r) max_terms each)
      (sum_same (λ i. suc (at u PATH_LEFT i)) (λ i. suc (at r PATH_LEFT i)) n (λ i l. ap suc (finish_before.lefts i l))) z
    where
      was_on_path : (x : ℕ) → x < max_terms → x ≡ at r PATH_APP n → at r COLOUR x ≡ 1
      was_on_path x l e = w.colours x l ∙ unfold colour path on_path any in rw (eq-eqb (at r PATH_APP n) x (sym e))

      each : (x : ℕ) → x < max_terms → unmet (context c) u x ≡ unmet (context c) r x
      each x l = go (ℕ_discrete x (at r PATH_APP n))
        where
          go : Dec (x ≡ at r PATH_APP n) → unmet (context c) u x ≡ unmet (context c) r x
          go (yes e) = unfold unmet in rw (p.colours x l, eq-eqb x (at r PATH_APP n) e, was_on_path x l e)
          go (no d) = unfold unmet in rw (p.colours x l, ne_eqb x (at r PATH_APP n) d)
