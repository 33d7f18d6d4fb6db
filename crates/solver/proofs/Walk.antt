-- The ring walk. What it finds is a closed chain reachable from a watched term; where it finds none, the finished
-- applications are listed so that successors stand behind each, so that no closed chain goes through them.
use Prim.Native.Nat.{ℕ, zero, suc, ◌+◌, ◌≤◌, ◌<◌}
use mathlib.Core.Path.{◌≡◌, refl, sym, subst, subst⁻¹, ap, ◌∙◌}
use mathlib.Core.Logic.{inl, inr}
use mathlib.Core.Bool.{Bool, true, false, cond}
use mathlib.Core.List.{List, [], ◌∷◌, foldl}
use mathlib.Core.Option.{Option, none, some}
use native.Mathlib.Omega.{arith}
use lib.Dec.{T, eqb, eqb→eq, eqb_refl}
use borrow.Author.Tests.{eqb-true}
use lib.ListN.{length}
use Rattle.shinri_core.specs.Lists.{range, mem, any}
use Rattle.shinri_core.specs.Context.{CtorApp, ctor_app}
use Rattle.shinri_core.proofs.Lists.{In, any_in, in_range, true_T, length_range}
use Rattle.theory.proofs.Members.{Apart, apart_length, in_any}
use Rattle.solver.proofs.Apps.{ctor_app_is, app_within}
use Rattle.solver.specs.State.{State, ctor_apps, ctor_of_class, watched_dt_terms, equal}
use Rattle.solver.specs.Ring.{Frame, Edge, Walk, Found, Finished, kids, below_entry, ring_edges, on_path, enter, after, finish, walk_from, walk_watched, ring_of, constructor_graph_find_cycle}
use Rattle.solver.proofs.Basics.{none_some, some_is, mem_in, first_some, gather_in, false_T}

-- the lowest application of a class is marked and in the class
pub class_ctor : (s : State) (t : ℕ) (c : CtorApp) → ctor_of_class s t ≡ some c → In c.app s.dt.marks × (ctor_app s.terms c.app ≡ some c) × T (equal s t c.app)
unfolding ctor_of_class ctor_apps
class_ctor s t c e =
    let (i, q) = first_some (λ (d : CtorApp). equal s t d.app) (ctor_apps s) c e in
    let (u, j, p) = gather_in (ctor_app s.terms) s.dt.marks c i in
    let a = (ctor_app_is s.terms u c p).app in
    (subst⁻¹ (λ (z : ℕ). In z s.dt.marks) a j, subst⁻¹ (λ (z : ℕ). ctor_app s.terms z ≡ some c) a p, q)

-- ---- no more than n different numbers below n

apart_below : (n : ℕ) (xs : List ℕ) → Apart xs → ((x : ℕ) → In x xs → x < n) → length xs ≤ n
apart_below n xs a h =
    subst (λ (m : ℕ). length xs ≤ m) (length_range 0 n)
    (apart_length xs (range 0 n) a (λ x i. let l = h x i in in_range 0 n x (omega arith) (omega arith)))

apps_of : List Frame → List ℕ
apps_of [] = []
apps_of (f ∷ fs) = f.app ∷ apps_of fs

apps_length : (fs : List Frame) → length (apps_of fs) ≡ length fs
unfolding apps_of
apps_length [] = refl
apps_length (f ∷ fs) = ap suc (apps_length fs)

apps_in : (fs : List Frame) (x : ℕ) → In x (apps_of fs) → (f : Frame) × In f fs × (f.app ≡ x)
unfolding apps_of
apps_in [] x i = absurd i
apps_in (f ∷ fs) x (inl e) = (f, inl refl, sym e)
apps_in (f ∷ fs) x (inr i) = let (g, j, e) = apps_in fs x i in (g, inr j, e)

on_path_in : (a : ℕ) (fs : List Frame) → T (on_path a fs) → (f : Frame) × In f fs × (f.app ≡ a)
unfolding on_path
on_path_in a fs t =
    let (f, i, q) = any_in (λ (f : Frame). eqb f.app a) fs t in
    (f, i, eqb→eq f.app a q)

in_on_path : (a : ℕ) (fs : List Frame) → In a (apps_of fs) → T (on_path a fs)
unfolding on_path
in_on_path a fs i =
    let (f, j, e) = apps_in fs a i in
    in_any (λ (f : Frame). eqb f.app a) fs f j (subst⁻¹ (λ (z : ℕ). T (eqb z a)) e (eqb_refl a))

module _ (s : State) where
  -- ---- the graph

  -- f is a datatype field of the application a
  abbrev pub KidOf : ℕ → ℕ → Type 0
  KidOf a f = (c : CtorApp) × (ctor_app s.terms a ≡ some c) × In f (kids s.terms c)

  -- the class of f stands by b
  abbrev pub Stands : ℕ → ℕ → Type 0
  Stands f b = (d : CtorApp) × (ctor_of_class s f ≡ some d) × (d.app ≡ b)

  abbrev pub Link : ℕ → Edge → Type 0
  Link a e = KidOf a e.field × Stands e.field e.app

  abbrev pub Joined : ℕ → ℕ → Type 0
  Joined a b = (f : ℕ) × KidOf a f × Stands f b

  abbrev pub Reaches : ℕ → ℕ → ℕ → Type 0
  Reaches zero a b = a ≡ b
  Reaches (suc n) a b = (e : ℕ) × Joined a e × Reaches n e b

  -- a way over edges
  abbrev pub Trail : ℕ → List Edge → ℕ → Type 0
  Trail a [] b = a ≡ b
  Trail a (e ∷ es) b = Link a e × Trail e.app es b

  -- where a way begins: at a watched term
  abbrev pub Rooted : ℕ → Type 0
  Rooted a = (t : ℕ) × In t (watched_dt_terms s) × Stands t a

  -- the closing edge first, then the way from the ring's entry to where the closing edge begins
  pub record Ringed (es : List Edge) : Type 0 where
    pub closing : Edge
    pub rest : List Edge
    pub last : ℕ
    pub root : ℕ
    pub steps : ℕ
    pub edges : es ≡ closing ∷ rest
    pub trail : Trail closing.app rest last
    pub link : Link last closing
    pub rooted : Rooted root
    pub reached : Reaches steps root closing.app

  reaches_more : (n a b c : ℕ) → Reaches n a b → Joined b c → Reaches (suc n) a c
  reaches_more zero a b c e j = (c, subst⁻¹ (λ (z : ℕ). Joined z c) e j, refl)
  reaches_more (suc n) a b c (d, j, r) k = (d, j, reaches_more n d b c r k)

  -- ---- the path

  abbrev Source : List Frame → ℕ → Type 0
  Source [] f = In f (watched_dt_terms s)
  Source (g ∷ fs) f = KidOf g.app f

  abbrev Chained : List Frame → Type 0
  Chained [] = Unit {0}
  Chained (f ∷ fs) = Source fs f.via × Stands f.via f.app × Chained fs

  -- from the root of a path to each of its applications
  reach : (fs : List Frame) → Chained fs → (f : Frame) → In f fs → (a n : ℕ) × Rooted a × Reaches n a f.app
  reach [] c f i = absurd i
  reach (g ∷ []) (o, d, c) f (inl e) = (g.app, 0, (g.via, o, d), ap (λ (x : Frame). x.app) (sym e))
  reach (g ∷ []) c f (inr i) = absurd i
  reach (g ∷ h ∷ fs) (o, d, c) f (inl e) =
      let (a, n, t, w) = reach (h ∷ fs) c h (inl refl) in
      (a, suc n, t, reaches_more n a h.app f.app w (subst⁻¹ (λ (x : Frame). Joined h.app x.app) e (g.via, o, d)))
  reach (g ∷ h ∷ fs) (o, d, c) f (inr i) = reach (h ∷ fs) c f i

  -- from the entry down the path
  down : (entry : ℕ) (f : Frame) (fs : List Frame) (es : List Edge) (last : ℕ) → Chained (f ∷ fs) → T (on_path entry (f ∷ fs)) → Trail f.app es last → Trail entry (below_entry entry (f ∷ fs) es) last
  unfolding below_entry on_path any
  down entry f [] es last c t w = go (eqb f.app entry) refl t
    where
      go : (b : Bool) → eqb f.app entry ≡ b → T (cond b true false) → Trail entry (cond b es (record { field = f.via; app = f.app } ∷ es)) last
      go true e u = subst (λ (z : ℕ). Trail z es last) (eqb-true f.app entry e) w
      go false e u = absurd u
  down entry f (g ∷ fs) es last c t w =
      go (eqb f.app entry) refl t (λ u. down entry g fs (record { field = f.via; app = f.app } ∷ es) last c.2 u ((c.0, c.1), w))
    where
      go : (b : Bool) → eqb f.app entry ≡ b → T (cond b true (on_path entry (g ∷ fs))) → (T (on_path entry (g ∷ fs)) → Trail entry (below_entry entry (g ∷ fs) (record { field = f.via; app = f.app } ∷ es)) last) → Trail entry (cond b es (below_entry entry (g ∷ fs) (record { field = f.via; app = f.app } ∷ es))) last
      go true e u h = subst (λ (z : ℕ). Trail z es last) (eqb-true f.app entry e) w
      go false e u h = h u

  -- a field that leads to an application of the path closes a ring
  closes : (fs : List Frame) (f : ℕ) (d : CtorApp) → Chained fs → Source fs f → ctor_of_class s f ≡ some d → T (on_path d.app fs) → Ringed (ring_edges f d.app fs)
  closes [] f d c o e t = absurd (on_path_in d.app [] t).1
  closes (g ∷ fs) f d c o e t =
      let (h, i, q) = on_path_in d.app (g ∷ fs) t in
      let (a, n, r, w) = reach (g ∷ fs) c h i in
      make a n r (subst (λ (z : ℕ). Reaches n a z) q w)
    where
      make : (a n : ℕ) → Rooted a → Reaches n a d.app → Ringed (ring_edges f d.app (g ∷ fs))
      make a n r w = record {
        closing = record { field = f; app = d.app };
        rest = below_entry d.app (g ∷ fs) [];
        last = g.app;
        root = a;
        steps = n;
        edges = unfold ring_edges in refl;
        trail = down d.app g fs [] g.app c t refl;
        link = (o, (d, e, refl));
        rooted = r;
        reached = w;
      }

  -- ---- the finished list

  abbrev pub Ordered : List ℕ → Type 0
  Ordered [] = Unit {0}
  Ordered (a ∷ as') = ((b : ℕ) → Joined a b → In b as') × Ordered as'

  pub ordered_closed : (as' : List ℕ) (a b : ℕ) → Ordered as' → In a as' → Joined a b → In b as'
  ordered_closed [] a b o i j = absurd i
  ordered_closed (x ∷ xs) a b (o, p) (inl e) j = inr (o b (subst (λ (z : ℕ). Joined z b) e j))
  ordered_closed (x ∷ xs) a b (o, p) (inr i) j = inr (ordered_closed xs a b p i j)

  pub ordered_reached : (as' : List ℕ) (n a b : ℕ) → Ordered as' → In a as' → Reaches n a b → In b as'
  ordered_reached as' zero a b o i e = subst (λ (z : ℕ). In z as') e i
  ordered_reached as' (suc n) a b o i (d, j, r) = ordered_reached as' n d b o (ordered_closed as' a d o i j) r

  -- no closed chain goes through a finished application
  pub ordered_open : (as' : List ℕ) (n a : ℕ) → Ordered as' → In a as' → Reaches (suc n) a a → ⊥
  ordered_open [] n a o i r = i
  ordered_open (x ∷ xs) n a (o, p) (inl e) (d, j, r) =
      ordered_open xs n d p (o d (subst (λ (z : ℕ). Joined z d) e j)) (reaches_more n d a d r j)
  ordered_open (x ∷ xs) n a (o, p) (inr i) r = ordered_open xs n a p i r

  -- ---- the walk

  -- what a walk leaves: a ring, or a longer finished list with P
  abbrev Leaves : List ℕ → (List ℕ → Type 0) → Walk → Type 0
  Leaves done P (Found es) = Ringed es
  Leaves done P (Finished d) = Ordered d × ((x : ℕ) → In x done → In x d) × P d

  abbrev Reached : ℕ → List ℕ → Type 0
  Reached f d = (e : CtorApp) → ctor_of_class s f ≡ some e → In e.app d

  -- different applications, all of the table
  abbrev Fits : ℕ → List Frame → Type 0
  Fits k fs = (k + length fs ≡ length s.terms.terms + 2) × Apart (apps_of fs) × ((x : ℕ) → In x (apps_of fs) → x < length s.terms.terms)

  abbrev Walks : ℕ → (List Frame → CtorApp → List ℕ → Walk) → Type 0
  Walks k walk = (f : Frame) (fs : List Frame) (c : CtorApp) (done : List ℕ) → f.app ≡ c.app → ctor_app s.terms c.app ≡ some c → Chained (f ∷ fs) → Fits k (f ∷ fs) → Ordered done → Leaves done (λ d. In c.app d) (walk (f ∷ fs) c done)

  ctor_within : (c : CtorApp) → ctor_app s.terms c.app ≡ some c → c.app < length s.terms.terms
  ctor_within c e = app_within s.terms c.app c.ctor (ctor_app_is s.terms c.app c e).op

  longer : (k : ℕ) (f : Frame) (fs : List Frame) → Fits (suc k) fs → (T (on_path f.app fs) → ⊥) → f.app < length s.terms.terms → Fits k (f ∷ fs)
  unfolding apps_of
  longer k f fs (e, a, w) h l = (omega arith, (λ i. h (in_on_path f.app fs i), a), λ x i. go x i)
    where
      go : (x : ℕ) → In x (f.app ∷ apps_of fs) → x < length s.terms.terms
      go x (inl q) = subst⁻¹ (λ (z : ℕ). z < length s.terms.terms) q l
      go x (inr i) = w x i

  enter_leaves : (k : ℕ) (walk : List Frame → CtorApp → List ℕ → Walk) → Walks k walk → (fs : List Frame) (done : List ℕ) (f : ℕ) → Chained fs → Fits (suc k) fs → Source fs f → Ordered done → (o : Option CtorApp) → ctor_of_class s f ≡ o → Leaves done (Reached f) (enter walk fs done f o)
  unfolding enter
  enter_leaves k walk W fs done f c r so od none e = (od, λ x i. i, λ d q. absurd (none_some d (sym e ∙ q)))
  enter_leaves k walk W fs done f c r so od (some d) e = first (on_path d.app fs) refl
    where
      frame : Frame
      frame = record { app = d.app; via = f }

      valid : ctor_app s.terms d.app ≡ some d
      valid = (class_ctor s f d e).1

      here : (x : CtorApp) → ctor_of_class s f ≡ some x → x.app ≡ d.app
      here x q = ap (λ (z : CtorApp). z.app) (some_is x d (sym q ∙ e))

      went : (w : Walk) → Leaves done (λ z. In d.app z) w → Leaves done (Reached f) w
      went (Found es) h = h
      went (Finished z) (a, b, i) = (a, b, λ x q. subst⁻¹ (λ (y : ℕ). In y z) (here x q) i)

      second : (b : Bool) → on_path d.app fs ≡ false → mem d.app done ≡ b → Leaves done (Reached f) (cond b (Finished done) (walk (frame ∷ fs) d done))
      second true n q = (od, λ x i. i, λ x p. mem_in x.app done (subst⁻¹ (λ (y : ℕ). T (mem y done)) (here x p) (true_T (mem d.app done) q)))
      second false n q =
          went (walk (frame ∷ fs) d done)
          (W frame fs d done refl valid (so, (d, e, refl), c) (longer k frame fs r (false_T (on_path d.app fs) n) (ctor_within d valid)) od)

      first : (b : Bool) → on_path d.app fs ≡ b → Leaves done (Reached f) (cond b (Found (ring_edges f d.app fs)) (cond (mem d.app done) (Finished done) (walk (frame ∷ fs) d done)))
      first true q = closes fs f d c so e (true_T (on_path d.app fs) q)
      first false q = second (mem d.app done) q refl

  -- a step of a fold over fields
  abbrev step : (List Frame → CtorApp → List ℕ → Walk) → List Frame → Walk → ℕ → Walk
  step walk fs w f = after (λ d. enter walk fs d f (ctor_of_class s f)) w

  fold_found : (walk : List Frame → CtorApp → List ℕ → Walk) (fs : List Frame) (es : List Edge) (ks : List ℕ) → foldl (step walk fs) (Found es) ks ≡ Found es
  unfolding after
  fold_found walk fs es [] = refl
  fold_found walk fs es (f ∷ ks) = fold_found walk fs es ks

  fold_leaves : (k : ℕ) (walk : List Frame → CtorApp → List ℕ → Walk) → Walks k walk → (fs : List Frame) → Chained fs → Fits (suc k) fs → (ks : List ℕ) → ((f : ℕ) → In f ks → Source fs f) → (done : List ℕ) → Ordered done → Leaves done (λ d. (f : ℕ) → In f ks → Reached f d) (foldl (step walk fs) (Finished done) ks)
  unfolding after
  fold_leaves k walk W fs c r [] so done od = (od, λ x i. i, λ f i. absurd i)
  fold_leaves k walk W fs c r (f ∷ ks) so done od =
      go (enter walk fs done f (ctor_of_class s f)) (enter_leaves k walk W fs done f c r (so f (inl refl)) od (ctor_of_class s f) refl)
      (λ d o. fold_leaves k walk W fs c r ks (λ g i. so g (inr i)) d o)
    where
      later : (d : List ℕ) → ((x : ℕ) → In x done → In x d) → Reached f d → (w : Walk) → Leaves d (λ z. (g : ℕ) → In g ks → Reached g z) w → Leaves done (λ z. (g : ℕ) → In g (f ∷ ks) → Reached g z) w
      later d sub q (Found es) h = h
      later d sub q (Finished z) (a, b, h) = (a, λ x i. b x (sub x i), λ g i. each g i)
        where
          each : (g : ℕ) → In g (f ∷ ks) → Reached g z
          each g (inl e) x p = b x.app (q x (subst (λ (y : ℕ). ctor_of_class s y ≡ some x) e p))
          each g (inr i) x p = h g i x p

      go : (w : Walk) → Leaves done (Reached f) w → ((d : List ℕ) → Ordered d → Leaves d (λ z. (g : ℕ) → In g ks → Reached g z) (foldl (step walk fs) (Finished d) ks)) → Leaves done (λ z. (g : ℕ) → In g (f ∷ ks) → Reached g z) (foldl (step walk fs) w ks)
      go (Found es) h ih = subst⁻¹ (Leaves done (λ z. (g : ℕ) → In g (f ∷ ks) → Reached g z)) (fold_found walk fs es ks) h
      go (Finished d) (a, b, q) ih = later d b q (foldl (step walk fs) (Finished d) ks) (ih d a)

  no_room : (fs : List Frame) → Fits zero fs → ⊥
  no_room fs (e, a, w) =
      let l = apart_below (length s.terms.terms) (apps_of fs) a w in
      let q = apps_length fs in
      omega arith

  walk_leaves : (k : ℕ) → Walks k (walk_from k s)
  unfolding walk_from finish
  walk_leaves zero f fs c done e v ch r od = absurd (no_room (f ∷ fs) r)
  walk_leaves (suc k) f fs c done e v ch r od =
      go (foldl (step (walk_from k s) (f ∷ fs)) (Finished done) (kids s.terms c))
      (fold_leaves k (walk_from k s) (walk_leaves k) (f ∷ fs) ch r (kids s.terms c)
      (λ g i. (c, subst⁻¹ (λ (z : ℕ). ctor_app s.terms z ≡ some c) e v, i)) done od)
    where
      joins : (d : List ℕ) → ((g : ℕ) → In g (kids s.terms c) → Reached g d) → (b : ℕ) → Joined c.app b → In b d
      joins d h b (g, (c', v', i), (x, p, q)) =
          subst (λ (z : ℕ). In z d) q (h g (subst (λ (z : CtorApp). In g (kids s.terms z)) (some_is c' c (sym v' ∙ v)) i) x p)

      go : (w : Walk) → Leaves done (λ d. (g : ℕ) → In g (kids s.terms c) → Reached g d) w → Leaves done (λ d. In c.app d) (finish c.app w)
      go (Found es) h = h
      go (Finished d) (a, b, h) = ((joins d h, a), λ x i. inr (b x i), inl refl)

  -- ---- the whole walk

  whole : Walk
  whole = foldl (λ w t. after (walk_watched s t) w) (Finished []) (watched_dt_terms s)

  whole_leaves : Leaves [] (λ d. (t : ℕ) → In t (watched_dt_terms s) → Reached t d) whole
  unfolding whole walk_watched apps_of
  whole_leaves =
      fold_leaves (suc (length s.terms.terms)) (walk_from (suc (length s.terms.terms)) s) (walk_leaves (suc (length s.terms.terms))) [] tt
      (omega arith, tt, λ x i. absurd i) (watched_dt_terms s) (λ f i. i) [] tt

  -- a closed chain reachable from a watched term
  abbrev pub HasRing : Type 0
  HasRing = (a d m n : ℕ) × Rooted a × Reaches m a d × Reaches (suc n) d d

  abbrev pub WalkSays : Option (List Edge) → Type 0
  WalkSays none = HasRing → ⊥
  WalkSays (some es) = Ringed es

  -- The walk finds a ring if there is one, and only then.
  pub walk_says : WalkSays (constructor_graph_find_cycle s)
  unfolding constructor_graph_find_cycle whole ring_of
  walk_says = go whole whole_leaves
    where
      none_there : (z : List ℕ) → Ordered z → ((t : ℕ) → In t (watched_dt_terms s) → Reached t z) → HasRing → ⊥
      none_there z o h (a, d, m, n, (t, i, (x, p, q)), r, l) =
          ordered_open z n d o (ordered_reached z m a d o (subst (λ (y : ℕ). In y z) q (h t i x p)) r) l

      go : (w : Walk) → Leaves [] (λ d. (t : ℕ) → In t (watched_dt_terms s) → Reached t d) w → WalkSays (ring_of w)
      go (Found es) h = h
      go (Finished z) (o, b, h) = none_there z o h

  trail_reaches : (es : List Edge) (a b : ℕ) → Trail a es b → (n : ℕ) × Reaches n a b
  trail_reaches [] a b e = (0, e)
  trail_reaches (e ∷ es) a b ((k, d), w) =
      let (n, r) = trail_reaches es e.app b w in
      (suc n, (e.app, (e.field, k, d), r))

  -- what was found is a ring
  pub ringed_ring : (es : List Edge) → Ringed es → HasRing
  ringed_ring es R =
      let (n, w) = trail_reaches R.rest R.closing.app R.last R.trail in (
        R.root,
        R.closing.app,
        R.steps,
        n,
        R.rooted,
        R.reached,
        reaches_more n R.closing.app R.last R.closing.app w (R.closing.field, R.link.0, R.link.1),
      )
