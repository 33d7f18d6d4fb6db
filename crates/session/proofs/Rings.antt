-- The ring of the claim, over lowest marked applications and lines in force, is the ring of the walk.
use Prim.Native.Nat.{ℕ, zero, suc, ◌≤◌}
use mathlib.Core.Path.{◌≡◌, refl, subst, subst⁻¹}
use mathlib.Core.Logic.{inl, inr, ◌↔◌}
use mathlib.Core.Bool.{Bool, true, false, cond}
use mathlib.Core.List.{List, [], ◌∷◌}
use mathlib.Core.Option.{Option, none, some}
use native.Mathlib.Omega.{arith}
use native.Mathlib.Nat.{le_antisymm}
use lib.Dec.{T}
use Rattle.shinri_core.specs.Lists.{keep, first, gather, cons_option}
use Rattle.shinri_core.specs.Context.{Context, CtorApp, ctor_app, is_datatype_sort, sort_of, children}
use Rattle.shinri_core.proofs.Lists.{In, keep_in, in_keep}
use Rattle.solver.specs.State.{ctor_apps, ctor_of_class, watched_dt_terms, equal}
use Rattle.solver.specs.Records.{is_some}
use Rattle.solver.specs.Ring.{kids}
use Rattle.solver.proofs.Basics.{some_is, mem_in, in_mem, first_none, gather_in, in_gather, in_reverse, Ascending, false_T}
use Rattle.solver.proofs.Apps.{ctor_app_is}
use Rattle.solver.proofs.Walk.{class_ctor, Stands, Joined, Reaches, HasRing}
use Rattle.solver.proofs.Clash.{kid_field}
use Rattle.session.specs.Session.{Session}
use Rattle.session.specs.History.{History, EqualNow}
use Rattle.session.specs.Claim.{Marked, MarkedCtor, Watched, Lowest, EdgeTo, Leads, Ring}
use Rattle.session.proofs.Invariant.{Inv, classes_agree}

-- the first gathered application that passes is the lowest
first_lowest : (cx : Context) (p : CtorApp → Bool) (ms : List ℕ) (c d : CtorApp) → Ascending ms → first p (gather (ctor_app cx) ms) ≡ some c → In d (gather (ctor_app cx) ms) → T (p d) → c.app ≤ d.app
unfolding gather cons_option first
first_lowest cx p [] c d a e i t = absurd i
first_lowest cx p (m ∷ ms) c d (l, a) e i t = go (ctor_app cx m) refl e i (first_lowest cx p ms c d a)
  where
    later : (w : CtorApp) → ctor_app cx m ≡ some w → In d (w ∷ gather (ctor_app cx) ms) → w.app ≤ d.app
    later w q (inl k) = subst⁻¹ (λ (z : CtorApp). w.app ≤ z.app) k (omega arith)
    later w q (inr k) =
        let (x, j, g) = gather_in (ctor_app cx) ms d k in
        let h = l x j in
        let u = (ctor_app_is cx m w q).app in
        let v = (ctor_app_is cx x d g).app in
        omega arith

    pick : (w : CtorApp) → ctor_app cx m ≡ some w → (b : Bool) → p w ≡ b → cond b (some w) (first p (gather (ctor_app cx) ms)) ≡ some c → In d (w ∷ gather (ctor_app cx) ms) → (first p (gather (ctor_app cx) ms) ≡ some c → In d (gather (ctor_app cx) ms) → T (p d) → c.app ≤ d.app) → c.app ≤ d.app
    pick w q true b k j f = subst (λ (z : CtorApp). z.app ≤ d.app) (some_is w c k) (later w q j)
    pick w q false b k (inl j) f = absurd (false_T (p w) b (subst (λ (z : CtorApp). T (p z)) j t))
    pick w q false b k (inr j) f = f k j t

    go : (o : Option CtorApp) → ctor_app cx m ≡ o → first p (cons_option o (gather (ctor_app cx) ms)) ≡ some c → In d (cons_option o (gather (ctor_app cx) ms)) → (first p (gather (ctor_app cx) ms) ≡ some c → In d (gather (ctor_app cx) ms) → T (p d) → c.app ≤ d.app) → c.app ≤ d.app
    go none q k j f = f k j t
    go (some w) q k j f = pick w q (p w) refl k j f

some_there : {A : Type 0} (o : Option A) → T (is_some o) → (x : A) × (o ≡ some x)
unfolding is_some
some_there none t = absurd t
some_there (some x) t = (x, refl)

pub there_some : {A : Type 0} (o : Option A) (x : A) → o ≡ some x → T (is_some o)
unfolding is_some
there_some o x e = subst⁻¹ (λ (z : Option _). T (is_some z)) e tt

module _ (s : Session) (h : History) (I : Inv s h) where
  marked_in : (t : ℕ) → Marked s.state.terms s.state.dt.marks h t → In t s.state.dt.marks
  marked_in t (inl (v, a, n, w, b, r)) = I.marked v a n t w b r
  marked_in t (inr m) = mem_in t s.state.dt.marks m

  pub in_marked : (t : ℕ) → In t s.state.dt.marks → Marked s.state.terms s.state.dt.marks h t
  in_marked t i = inr (in_mem t s.state.dt.marks i)

  pub now : (x y : ℕ) → T (equal s.state x y) ↔ EqualNow s.state.terms h x y
  unfolding equal
  now x y = classes_agree s.state.terms s.state.atoms s.state.eq s.state.level h I.named I.merged x y

  pub marked_ctor_in : (c : ℕ) → MarkedCtor s.state.terms s.state.dt.marks h c → (d : CtorApp) × (d.app ≡ c) × In d (ctor_apps s.state)
  unfolding ctor_apps
  marked_ctor_in c (m, t) =
      let (d, e) = some_there (ctor_app s.state.terms c) t in
      (d, (ctor_app_is s.state.terms c d e).app, in_gather (ctor_app s.state.terms) s.state.dt.marks c d (marked_in c m) e)

  pub stands_lowest : (t c : ℕ) → Stands s.state t c → Lowest s.state.terms s.state.dt.marks h t c
  unfolding ctor_of_class ctor_apps
  stands_lowest t c (d, e, q) =
      let (i, v, w) = class_ctor s.state t d e in
      subst (Lowest s.state.terms s.state.dt.marks h t) q
      ((in_marked d.app i, there_some (ctor_app s.state.terms d.app) d v), (now t d.app).0 w, λ x m y. low x (marked_ctor_in x m) y)
    where
      low : (x : ℕ) → ((g : CtorApp) × (g.app ≡ x) × In g (ctor_apps s.state)) → EqualNow s.state.terms h t x → d.app ≤ x
      low x (g, k, j) y =
          subst (λ (z : ℕ). d.app ≤ z) k
          (first_lowest s.state.terms (λ (z : CtorApp). equal s.state t z.app) s.state.dt.marks d g I.ascending e j (subst⁻¹ (λ (z : ℕ). T (equal s.state t z)) k ((now t x).1 y)))

  pub lowest_stands : (t c : ℕ) → Lowest s.state.terms s.state.dt.marks h t c → Stands s.state t c
  unfolding ctor_of_class
  lowest_stands t c (m, y, low) = go (ctor_of_class s.state t) refl (marked_ctor_in c m)
    where
      go : (o : Option CtorApp) → ctor_of_class s.state t ≡ o → ((g : CtorApp) × (g.app ≡ c) × In g (ctor_apps s.state)) → Stands s.state t c
      go none e (g, k, j) =
          absurd (false_T (equal s.state t g.app) (first_none (λ (z : CtorApp). equal s.state t z.app) (ctor_apps s.state) g e j) (subst⁻¹ (λ (z : ℕ). T (equal s.state t z)) k ((now t c).1 y)))
      go (some d) e (g, k, j) =
          let L = stands_lowest t d.app (d, e, refl) in
          (d, e, le_antisymm (L.2 c m y) (low d.app L.0 L.1))

  pub watched_in : (t : ℕ) → Watched s.state.terms s.state.dt.marks h t → In t (watched_dt_terms s.state)
  unfolding watched_dt_terms
  watched_in t (m, w) = in_keep (λ z. is_datatype_sort s.state.terms (sort_of s.state.terms z)) s.state.dt.marks t (marked_in t m) w

  pub in_watched : (t : ℕ) → In t (watched_dt_terms s.state) → Watched s.state.terms s.state.dt.marks h t
  unfolding watched_dt_terms
  in_watched t i =
      let (j, w) = keep_in (λ z. is_datatype_sort s.state.terms (sort_of s.state.terms z)) s.state.dt.marks t i in
      (in_marked t j, w)

  -- ---- edges

  abbrev CtorAt : ℕ → Type 0
  CtorAt c = T (is_some (ctor_app s.state.terms c))

  edge_joined : (c d : ℕ) → CtorAt c → EdgeTo s.state.terms s.state.dt.marks h c d → Joined s.state c d × CtorAt d
  unfolding kids
  edge_joined c d k (f, (m, t), l) =
      let (g, e) = some_there (ctor_app s.state.terms c) k in
      let G = ctor_app_is s.state.terms c g e in (
        (f, (g, e, in_reverse f (keep (λ z. is_datatype_sort s.state.terms (sort_of s.state.terms z)) g.fields) (in_keep (λ z. is_datatype_sort s.state.terms (sort_of s.state.terms z)) g.fields f (subst (λ (zs : List ℕ). In f zs) G.args (mem_in f (children s.state.terms c) m)) t)), lowest_stands f d l),
        l.0.1,
      )

  joined_edge : (c d : ℕ) → Joined s.state c d → EdgeTo s.state.terms s.state.dt.marks h c d
  joined_edge c d (f, (g, e, i), w) =
      let G = ctor_app_is s.state.terms c g e in
      let (j, t) = kid_field s.state.terms g f i in
      (f, (in_mem f (children s.state.terms c) (subst⁻¹ (λ (zs : List ℕ). In f zs) G.args j), t), stands_lowest f d w)

  leads_reaches : (n c d : ℕ) → CtorAt c → Leads s.state.terms s.state.dt.marks h n c d → Reaches s.state n c d × CtorAt d
  leads_reaches zero c d k e = (e, subst CtorAt e k)
  leads_reaches (suc n) c d k (x, e, l) =
      let (j, k') = edge_joined c x k e in
      let (r, k'') = leads_reaches n x d k' l in
      ((x, j, r), k'')

  reaches_leads : (n c d : ℕ) → Reaches s.state n c d → Leads s.state.terms s.state.dt.marks h n c d
  reaches_leads zero c d e = e
  reaches_leads (suc n) c d (x, j, r) = (x, joined_edge c x j, reaches_leads n x d r)

  pub ring_there : Ring s.state.terms s.state.dt.marks h → HasRing s.state
  ring_there (t, c, d, w, l, (i, x), (n, y)) =
      let (a, k) = leads_reaches i c d l.0.1 x in
      let (b, k') = leads_reaches (suc n) d d k y in
      (c, d, i, n, (t, watched_in t w, lowest_stands t c l), a, b)

  pub there_ring : HasRing s.state → Ring s.state.terms s.state.dt.marks h
  there_ring (a, d, m, n, (t, i, w), x, y) =
      (t, a, d, in_watched t i, stands_lowest t a w, (m, reaches_leads m a d x), (n, reaches_leads (suc n) d d y))
