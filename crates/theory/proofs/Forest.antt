-- The proof forest: ways up to a root, the nearest common node of two terms, the path between them, and its age.
use Rattle.shinri_core.proofs.Kit.{ℕ, suc, ◌≤◌, ◌<◌, ◌≡◌, refl, sym, subst, ap, ◌∙◌, ◌⊎◌, inl, inr, ⊎_elim, ⊎_map, true, false, cond, List, [], ◌∷◌, ◌++◌, append_assoc, append_cancel_right, append-nil, nil≢cons, tail-eq_of_cons-eq, head-eq_of_cons-eq, none, some, option_get_or, le_antisymm, ℕ_discrete, arith, T, eqb, eqb→eq, eqb_refl, length, eq-eqb, ne_eqb}
use Rattle.shinri_core.specs.Lists.{first, mem}
use Rattle.shinri_core.proofs.Lists.{In, any_in}
pub use Rattle.theory.specs.Memory.Replay.{end, On}
use Rattle.theory.specs.Memory.Replay.{ups}
use Rattle.theory.specs.EqEngine.{Merge, Step, classes, find, are_equal, before, turned, nodes, common, rehung, way, path}
use Rattle.theory.proofs.Members.{in_left, in_right, in_either, in_any, Apart}
use Rattle.theory.proofs.Classes.{Same, same_alone, same?, BothSides, turned_sides, unequal, Across, same_split, same_kept, same_sides, Suffix, same_suffix}

-- each merge joined two classes
abbrev pub Joins : List Merge → Type 0
Joins [] = Unit {0}
Joins (m ∷ ms) = (are_equal ms m.a m.b ≡ false) × Joins ms

-- ---- steps

-- the steps w lead from x to z
abbrev pub Leads : ℕ → List Step → ℕ → Type 0
Leads x [] z = x ≡ z
Leads x (s ∷ w) z = (s.node ≡ x) × Leads s.up w z

-- a step over the sides of a merge, one way or the other
abbrev pub Along : Merge → Step → Type 0
Along m s = (s.just ≡ m.just) × BothSides m s.node s.up

-- a step over a merge of ms
abbrev pub Edge : List Merge → Step → Type 0
Edge ms s = (m : Merge) × In m ms × Along m s

-- all steps over merges of ms
abbrev pub Over : List Merge → List Step → Type 0
Over ms w = (s : Step) → In s w → Edge ms s

-- a step the other way round
abbrev pub back : Step → Step
back s = record { node = s.up; up = s.node; just = s.just }

-- the edge of a merge
abbrev pub new_step : Merge → Step
new_step m = record { node = m.a; up = m.b; just = m.just }

over_append : (ms : List Merge) (u w : List Step) → Over ms u → Over ms w → Over ms (u ++ w)
over_append ms u w f g s i = ⊎_elim (f s) (g s) (in_either s u w i)

-- the sides of an edge are in one class
pub edge_same : (ms : List Merge) (s : Step) → Edge ms s → Same ms s.node s.up
edge_same [] s (m, i, a) = absurd i
edge_same (n ∷ ms) s (m, inr i, a) = same_kept n ms s.node s.up (edge_same ms s (m, i, a))
edge_same (n ∷ ms) s (m, inl e, (j, inl (p, q))) = rw (p, q, e) (same_sides n ms)
edge_same (n ∷ ms) s (m, inl e, (j, inr (p, q))) = rw (p, q, e) (sym (same_sides n ms))

-- ---- before, turned

pub before_skip : (n : ℕ) (s : Step) (w : List Step) → (s.node ≡ n → ⊥) → before n (s ∷ w) ≡ s ∷ before n w
unfolding before
before_skip n s w h = rw (ne_eqb s.node n h)

pub before_stop : (n : ℕ) (s : Step) (w : List Step) → s.node ≡ n → before n (s ∷ w) ≡ []
unfolding before
before_stop n s w e = rw (eq-eqb s.node n e)

before_in : (n : ℕ) (w : List Step) (s : Step) → In s (before n w) → In s w
unfolding before
before_in n [] s i = absurd i
before_in n (t ∷ w) s i =
    elim (eqb t.node n) as (λ b. In s (cond b [] (t ∷ before n w)) → In s (t ∷ w)) [
      | true ↦ λ j. absurd j
      | false ↦ ⊎_map (λ e. e) (before_in n w s)
    ] i

before_over : (ms : List Merge) (n : ℕ) (w : List Step) → Over ms w → Over ms (before n w)
before_over ms n w f s i = f s (before_in n w s i)

turned_last : (u : List Step) (s : Step) → turned (u ++ (s ∷ [])) ≡ back s ∷ turned u
unfolding turned
turned_last [] s = refl
turned_last (t ∷ u) s = ap (λ (w : List Step). w ++ (back t ∷ [])) (turned_last u s)

-- a step turned was a step
pub turned_in : (w : List Step) (q : Step) → In q (turned w) → (s : Step) × In s w × (q ≡ back s)
unfolding turned
turned_in [] q i = absurd i
turned_in (t ∷ w) q i = elim (in_either q (turned w) (back t ∷ []) i) [
  | inl j ↦ let (s, k, e) = turned_in w q j in (s, inr k, e)
  | inr (inl e) ↦ (t, inl refl, e)
  | inr (inr j) ↦ absurd j
]

pub in_turned : (w : List Step) (s : Step) → In s w → In (back s) (turned w)
unfolding turned
in_turned [] s i = absurd i
in_turned (t ∷ w) s (inl e) = in_right (back s) (turned w) (back t ∷ []) (inl (ap back e))
in_turned (t ∷ w) s (inr i) = in_left (back s) (turned w) (back t ∷ []) (in_turned w s i)

turned_over : (ms : List Merge) (w : List Step) → Over ms w → Over ms (turned w)
turned_over ms w f s i =
    let (t, j, e) = turned_in w s i in
    let (m, k, a) = f t j in
    subst (Edge ms) (sym e) (m, k, (a.0, turned_sides m t.node t.up a.1))

-- ---- every step of a way is an edge

way_over_more : (m : Merge) (ms : List Merge) (x : ℕ) → ((y : ℕ) → Over ms (way ms y)) → Over (m ∷ ms) (way (m ∷ ms) x)
unfolding way rehung
way_over_more m ms x f =
    let n = common x (way ms x) m.a (way ms m.a) in
    let u = before n (way ms x) in
    let v = before n (way ms m.a) in
    elim (eqb ((classes ms).find x) ((classes ms).find m.a)) as
    (λ b. Over (m ∷ ms) (cond b (rehung x (way ms x) m (way ms m.a) (way ms m.b)) (way ms x))) [
      | true ↦
          over_append (m ∷ ms) (u ++ turned v) (new_step m ∷ way ms m.b)
          (old (u ++ turned v)
          (over_append ms u (turned v) (before_over ms n (way ms x) (f x))
          (turned_over ms v (before_over ms n (way ms m.a) (f m.a)))))
          new
      | false ↦ old (way ms x) (f x)
    ]
  where
    old : (w : List Step) → Over ms w → Over (m ∷ ms) w
    old w g s i = let (n, j, a) = g s i in (n, inr j, a)

    new : Over (m ∷ ms) (new_step m ∷ way ms m.b)
    new s (inl e) = (m, inl refl, (ap (λ (t : Step). t.just) e, inl (ap (λ (t : Step). t.node) e, ap (λ (t : Step). t.up) e)))
    new s (inr i) = old (way ms m.b) (f m.b) s i

pub way_over : (ms : List Merge) (x : ℕ) → Over ms (way ms x)
unfolding way
way_over [] x s i = absurd i
way_over (m ∷ ms) x s i = way_over_more m ms x (way_over ms) s i

-- the path too, of any two terms
pub path_over : (ms : List Merge) (x y : ℕ) → Over ms (path ms x y)
unfolding path
path_over ms x y =
    let n = common x (way ms x) y (way ms y) in
    over_append ms (before n (way ms x)) (before n (way ms y))
    (before_over ms n (way ms x) (way_over ms x))
    (before_over ms n (way ms y) (way_over ms y))

-- ---- a forest, given by each term's way up

-- a way begins at its term and goes on as the way of the next
abbrev pub Forest : (ℕ → List Step) → Type 0
Forest W = (x : ℕ) (s : Step) (w : List Step) → W x ≡ s ∷ w → (s.node ≡ x) × (W s.up ≡ w)

-- n is x or stands above x
abbrev pub Above : (ℕ → List Step) → ℕ → ℕ → Type 0
Above W n x = On n x (W x)

-- n is the nearest common node of x and y
pub record Meet (W : ℕ → List Step) (x y n : ℕ) : Type 0 where
  pub on_x : Above W n x
  pub on_y : Above W n y
  pub lowest : (v : ℕ) → Above W v x → Above W v y → length (W v) ≤ length (W n)

pub end_on : (w : List Step) (x : ℕ) → On (end x w) x w
end_on [] x = inl refl
end_on (s ∷ w) x = inr (end_on w s.up)

module _ (W : ℕ → List Step) (F : Forest W) where
  -- above x is x alone, or x and what is above the next
  pub at_root : (n x : ℕ) → W x ≡ [] → Above W n x → n ≡ x
  at_root n x p (inl e) = e
  at_root n x p (inr i) = absurd (subst (λ (w : List Step). In n (ups w)) p i)

  pub at_step : (n x : ℕ) (s : Step) (w : List Step) → W x ≡ s ∷ w → Above W n x → (n ≡ x) ⊎ Above W n s.up
  at_step n x s w p (inl e) = inl e
  at_step n x s w p (inr i) = inr (rw (F x s w p).1 (subst (λ (u : List Step). In n (ups u)) p i))

  pub from_step : (n x : ℕ) (s : Step) (w : List Step) → W x ≡ s ∷ w → Above W n s.up → Above W n x
  from_step n x s w p i = inr (rw p (subst (λ (u : List Step). On n s.up u) (F x s w p).1 i))

  pub longer : (x : ℕ) (s : Step) (w : List Step) → W x ≡ s ∷ w → length (W x) ≡ suc (length (W s.up))
  longer x s w p = ap length p ∙ ap (λ (u : List Step). suc (length u)) (sym (F x s w p).1)

  -- what stands above has a shorter way
  pub lower : (w : List Step) (n x : ℕ) → W x ≡ w → Above W n x → (n ≡ x) ⊎ (length (W n) < length (W x))
  lower [] n x p i = inl (at_root n x p i)
  lower (s ∷ w) n x p i = elim (at_step n x s w p i) [
    | inl e ↦ inl e
    | inr j ↦ inr (elim (lower w n s.up (F x s w p).1 j) [
      | inl e ↦ let h = ap (λ (v : ℕ). length (W v)) e in omega (arith, longer x s w p)
      | inr l ↦ omega (arith, longer x s w p)
    ])
  ]

  pub shorter : (n x : ℕ) → Above W n x → length (W n) ≤ length (W x)
  shorter n x i = elim (lower (W x) n x refl i) [ inl e ↦ let h = ap (λ (v : ℕ). length (W v)) e in omega arith | inr l ↦ omega arith ]

  pub above_trans : (w : List Step) (n v x : ℕ) → W x ≡ w → Above W v x → Above W n v → Above W n x
  above_trans [] n v x p i j = subst (λ (u : ℕ). Above W n u) (at_root v x p i) j
  above_trans (s ∷ w) n v x p i j = elim (at_step v x s w p i) [
    | inl e ↦ subst (λ (u : ℕ). Above W n u) e j
    | inr k ↦ from_step n x s w p (above_trans w n v s.up (F x s w p).1 k j)
  ]

  -- on one way, a node is known by the length of its own
  pub same_height : (w : List Step) (n v x : ℕ) → W x ≡ w → Above W n x → Above W v x → length (W n) ≡ length (W v) → n ≡ v
  same_height [] n v x p i j e = at_root n x p i ∙ sym (at_root v x p j)
  same_height (s ∷ w) n v x p i j e = elim (at_step n x s w p i) [
    | inl q ↦ elim (at_step v x s w p j) [ inl r ↦ q ∙ sym r | inr l ↦ absurd (below n v q l e) ]
    | inr k ↦ elim (at_step v x s w p j) [
      | inl r ↦ absurd (below v n r k (sym e))
      | inr l ↦ same_height w n v s.up (F x s w p).1 k l e
    ]
  ]
    where
      below : (a b : ℕ) → a ≡ x → Above W b s.up → length (W a) ≡ length (W b) → ⊥
      below a b q k h = let g = ap (λ (u : ℕ). length (W u)) q in omega (arith, longer x s w p, shorter b s.up k)

  -- a way's nodes are different
  pub apart : (w : List Step) (x : ℕ) → W x ≡ w → Apart (x ∷ ups w)
  apart [] x p = (λ i. i, tt)
  apart (s ∷ w) x p =
      let above : On x s.up w → Above W x s.up = λ i. rw (F x s w p).1 i in
      (λ i. omega (arith, longer x s w p, shorter x s.up (above i)), apart w s.up (F x s w p).1)

  -- ---- the way up to a node above

  pub before_self : (x : ℕ) → before x (W x) ≡ []
  unfolding before
  before_self x =
      elim (W x) as (λ w. W x ≡ w → before x w ≡ []) [ [] ↦ λ p. refl | s ∷ w ↦ λ p. before_stop x s w (F x s w p).0 ] refl

  pub before_step : (n x : ℕ) (s : Step) (w : List Step) → W x ≡ s ∷ w → (x ≡ n → ⊥) → before n (W x) ≡ s ∷ before n (W s.up)
  before_step n x s w p h = rw (p, before_skip n s w (λ e. h (sym (F x s w p).0 ∙ e)), (F x s w p).1)

  -- climbing from x to n above it
  pub climb : (P : ℕ → Type 0) (n : ℕ) → P n →
      ((x : ℕ) (s : Step) (w : List Step) → W x ≡ s ∷ w → (x ≡ n → ⊥) → Above W n s.up → P s.up → P x) →
      (x : ℕ) → Above W n x → P x
  climb P n base more x = go (W x) x refl
    where
      go : (w : List Step) (x : ℕ) → W x ≡ w → Above W n x → P x
      go [] x p i = subst P (at_root n x p i) base
      go (s ∷ w) x p i = elim (ℕ_discrete x n) [
        | yes e ↦ subst P (sym e) base
        | no h ↦ elim (at_step n x s w p i) [ inl e ↦ absurd (h (sym e)) | inr j ↦ more x s w p h j (go w s.up (F x s w p).1 j) ]
      ]

  -- the steps before n, then the way of n
  pub split : (n x : ℕ) → Above W n x → W x ≡ before n (W x) ++ W n
  split n x i =
      climb (λ x. W x ≡ before n (W x) ++ W n) n (rw (before_self n))
      (λ x s w p h j e. rw (before_step n x s w p h) (p ∙ ap (λ (u : List Step). s ∷ u) (sym (F x s w p).1 ∙ e))) x i

  -- they lead there
  pub leads_before : (n x : ℕ) → Above W n x → Leads x (before n (W x)) n
  leads_before n x i =
      climb (λ x. Leads x (before n (W x)) n) n (rw (before_self n) refl)
      (λ x s w p h j l. rw (before_step n x s w p h) ((F x s w p).0, l)) x i

  -- one step more
  pub before_next : (v a : ℕ) (s : Step) (w : List Step) → Above W v a → W v ≡ s ∷ w → before s.up (W a) ≡ before v (W a) ++ (s ∷ [])
  before_next v a s w i p =
      append_cancel_right (before s.up (W a)) (before v (W a) ++ (s ∷ [])) (W s.up)
      (sym (split s.up a (above_trans (W a) s.up v a refl i (from_step s.up v s w p (inl refl))))
      ∙ split v a i ∙ rw (append_assoc, p, (F v s w p).1))

  -- the node just below x on the way of a
  abbrev pub Below : ℕ → ℕ → Type 0
  Below x a = (v : ℕ) × (s : Step) × (w : List Step) × Above W v a × (W v ≡ s ∷ w) × (s.up ≡ x)

  pub below : (x a : ℕ) → Above W x a → (a ≡ x → ⊥) → Below x a
  below x a i h =
      climb (λ a. (a ≡ x → ⊥) → Below x a) x (λ k. absurd (k refl))
      (λ a s w p k j f g. elim (ℕ_discrete s.up x) [
        | yes e ↦ (a, s, w, inl refl, p, e)
        | no h ↦ let (v, t, u, l, q, e) = f h in (v, t, u, from_step v a s w p l, q, e)
      ]) a i h

  -- ---- the nearest common node

  mem_on : (v x : ℕ) → mem v (nodes x (W x)) ≡ true → Above W v x
  unfolding mem nodes
  mem_on v x e =
      let (u, i, q) = any_in (eqb v) (x ∷ ups (W x)) (subst T (sym e) tt) in
      subst (λ (z : ℕ). Above W z x) (sym (eqb→eq v u q)) i

  not_on : (v x : ℕ) → mem v (nodes x (W x)) ≡ false → Above W v x → ⊥
  unfolding mem nodes
  not_on v x e i = subst T e (in_any (eqb v) (x ∷ ups (W x)) v i (eqb_refl v))

  pub above? : (v x : ℕ) → Dec (Above W v x)
  above? v x =
      elim (mem v (nodes x (W x))) as (λ b. mem v (nodes x (W x)) ≡ b → Dec (Above W v x)) [
        | true ↦ λ e. yes (mem_on v x e)
        | false ↦ λ e. no (not_on v x e)
      ] refl

  -- what stands above the other is itself the common node
  pub meet_above : (v a : ℕ) → Above W v a → Meet W v a v
  meet_above v a i = record { on_x = inl refl; on_y = i; lowest = λ u k l. shorter u v k }

  meet_below : (x y : ℕ) → Above W y x → Meet W x y y
  meet_below x y i = record { on_x = i; on_y = inl refl; lowest = λ u k l. shorter u y l }

  -- the first node of y's way that x's way has, where some node is on both
  meets : (x : ℕ) (w : List Step) (y : ℕ) → W y ≡ w → (d v : ℕ) → Above W v x → Above W v y →
      Meet W x y (option_get_or (first (λ n. mem n (nodes x (W x))) (y ∷ ups w)) d)
  unfolding first
  meets x [] y p d v i j =
      elim (mem y (nodes x (W x))) as (λ b. mem y (nodes x (W x)) ≡ b → Meet W x y (option_get_or (cond b (some y) none) d)) [
        | true ↦ λ e. meet_below x y (mem_on y x e)
        | false ↦ λ e. absurd (not_on y x e (subst (λ (u : ℕ). Above W u x) (at_root v y p j) i))
      ] refl
  meets x (s ∷ w) y p d v i j =
      let later = first (λ n. mem n (nodes x (W x))) (s.up ∷ ups w) in
      elim (mem y (nodes x (W x))) as (λ b. mem y (nodes x (W x)) ≡ b → Meet W x y (option_get_or (cond b (some y) later) d)) [
        | true ↦ λ e. meet_below x y (mem_on y x e)
        | false ↦ λ e.
            let not_y : (u : ℕ) → u ≡ y → Above W u x → ⊥ = λ u q k. not_on y x e (subst (λ (z : ℕ). Above W z x) q k) in
            elim (at_step v y s w p j) [
              | inl q ↦ absurd (not_y v q i)
              | inr k ↦
                  let m = meets x w s.up (F y s w p).1 d v i k in
                  record {
                    on_x = m.on_x;
                    on_y = from_step (option_get_or later d) y s w p m.on_y;
                    lowest = λ u l o. elim (at_step u y s w p o) [ inl q ↦ absurd (not_y u q l) | inr o ↦ m.lowest u l o ];
                  }
            ]
      ] refl

  pub common_meets : (x y v : ℕ) → Above W v x → Above W v y → Meet W x y (common x (W x) y (W y))
  unfolding common nodes
  common_meets x y v i j = meets x (W y) y refl y v i j

  pub common_is : (x y n : ℕ) → Meet W x y n → common x (W x) y (W y) ≡ n
  common_is x y n m =
      let c = common_meets x y n m.on_x m.on_y in
      same_height (W y) (common x (W x) y (W y)) n y refl c.on_y m.on_y
      (le_antisymm (m.lowest (common x (W x) y (W y)) c.on_x c.on_y) (c.lowest n m.on_x m.on_y))

  -- one step up keeps the common node, if it is not the term itself
  pub meet_up : (x a n : ℕ) (s : Step) (w : List Step) → W x ≡ s ∷ w → (x ≡ n → ⊥) → Meet W x a n → Meet W s.up a n
  meet_up x a n s w p h m = record {
    on_x = elim (at_step n x s w p m.on_x) [ inl e ↦ absurd (h (sym e)) | inr i ↦ i ];
    on_y = m.on_y;
    lowest = λ u k. m.lowest u (from_step u x s w p k);
  }

  -- ---- the end of a way

  -- a way ends where no way goes on
  pub end_root : (w : List Step) (x : ℕ) → W x ≡ w → W (end x w) ≡ []
  end_root [] x p = p
  end_root (s ∷ w) x p = end_root w s.up (F x s w p).1

  -- the way up to its end is the whole way
  pub before_end : (x : ℕ) → before (end x (W x)) (W x) ≡ W x
  before_end x = sym (split (end x (W x)) x (end_on (W x) x) ∙ rw (end_root (W x) x refl, append-nil))

  -- what stands above has the same end
  pub end_above : (n x : ℕ) → Above W n x → end x (W x) ≡ end n (W n)
  end_above n x i =
      climb (λ x. end x (W x) ≡ end n (W n)) n refl
      (λ x s w p h j e. ap (end x) p ∙ ap (end s.up) (sym (F x s w p).1) ∙ e) x i

  -- the steps of a way begin at nodes above its term
  pub step_above : (w : List Step) (x : ℕ) → W x ≡ w → (s : Step) → In s w → Above W s.node x
  step_above [] x p s i = absurd i
  step_above (r ∷ w) x p s (inl e) = inl (ap (λ (q : Step). q.node) e ∙ (F x r w p).0)
  step_above (r ∷ w) x p s (inr i) = from_step s.node x r w p (step_above w r.up (F x r w p).1 s i)

-- ---- the ways of a list of merges

-- who was with the first side is hung under the second, the others stay
way_in : (m : Merge) (ms : List Merge) (x : ℕ) → Same ms x m.a → way (m ∷ ms) x ≡ rehung x (way ms x) m (way ms m.a) (way ms m.b)
unfolding way find
way_in m ms x e = rw (eq-eqb (find ms x) (find ms m.a) e)

way_out : (m : Merge) (ms : List Merge) (x : ℕ) → (Same ms x m.a → ⊥) → way (m ∷ ms) x ≡ way ms x
unfolding way find
way_out m ms x h = rw (ne_eqb (find ms x) (find ms m.a) h)

end_over : (u : List Step) (x : ℕ) (s : Step) (w : List Step) → end x (u ++ (s ∷ w)) ≡ end s.up w
end_over [] x s w = refl
end_over (t ∷ u) x s w = end_over u t.up s w

end_in : (m : Merge) (ms : List Merge) (x : ℕ) → Same ms x m.a → end x (way (m ∷ ms) x) ≡ end m.b (way ms m.b)
unfolding rehung
end_in m ms x e =
    let n = common x (way ms x) m.a (way ms m.a) in
    ap (end x) (way_in m ms x e) ∙ end_over (before n (way ms x) ++ turned (before n (way ms m.a))) x (new_step m) (way ms m.b)

end_out : (m : Merge) (ms : List Merge) (x : ℕ) → (Same ms x m.a → ⊥) → end x (way (m ∷ ms) x) ≡ end x (way ms x)
end_out m ms x h = ap (end x) (way_out m ms x h)

way_end_more : (m : Merge) (ms : List Merge) (x y : ℕ) → (Same ms m.a m.b → ⊥) →
    ((z w : ℕ) → Same ms z w → end z (way ms z) ≡ end w (way ms w)) → Same ms x y ⊎ Across m ms x y → Dec (Same ms x m.a) →
    end x (way (m ∷ ms) x) ≡ end y (way (m ∷ ms) y)
way_end_more m ms x y j old (inl s) (yes e) = end_in m ms x e ∙ sym (end_in m ms y (sym s ∙ e))
way_end_more m ms x y j old (inl s) (no h) = end_out m ms x h ∙ old x y s ∙ sym (end_out m ms y (λ q. h (s ∙ q)))
way_end_more m ms x y j old (inr (inl (p, q))) d = end_in m ms x p ∙ old m.b y q ∙ sym (end_out m ms y (λ r. j (sym (q ∙ r))))
way_end_more m ms x y j old (inr (inr (p, q))) d = end_out m ms x (λ r. j (sym r ∙ p)) ∙ old x m.b p ∙ sym (end_in m ms y (sym q))

-- ways of equal terms end in one root
pub way_end : (ms : List Merge) → Joins ms → (x y : ℕ) → Same ms x y → end x (way ms x) ≡ end y (way ms y)
unfolding way
way_end [] j x y e = same_alone x y e
way_end (m ∷ ms) (j, js) x y e =
    way_end_more m ms x y (unequal ms m.a m.b j) (way_end ms js) (same_split m ms x y e) (same? ms x m.a)

-- a step of a way goes on in the class
pub step_same : (ms : List Merge) → Forest (way ms) → (x : ℕ) (s : Step) (w : List Step) → way ms x ≡ s ∷ w → Same ms x s.up
step_same ms F x s w p = ap (find ms) (sym (F x s w p).0) ∙ edge_same ms s (way_over ms x s (rw p (inl refl)))

-- a way stays in its class
pub way_class : (ms : List Merge) → Forest (way ms) → (n x : ℕ) → Above (way ms) n x → Same ms x n
way_class ms F n x = climb (way ms) F (λ x. Same ms x n) n refl (λ x s w p h j e. step_same ms F x s w p ∙ e) x

-- equal terms have a nearest common node
pub way_meets : (ms : List Merge) → Joins ms → Forest (way ms) → (x y : ℕ) → Same ms x y →
    Meet (way ms) x y (common x (way ms x) y (way ms y))
way_meets ms J F x y e =
    common_meets (way ms) F x y (end x (way ms x)) (end_on (way ms x) x)
    (subst (λ (v : ℕ). Above (way ms) v y) (sym (way_end ms J x y e)) (end_on (way ms y) y))

-- a way by its first step
climbs_by : (W : ℕ → List Step) (x : ℕ) (s : Step) (w : List Step) (t : Step) → W x ≡ t ∷ W t.up → t.node ≡ x → W x ≡ s ∷ w →
    (s.node ≡ x) × (W s.up ≡ w)
climbs_by W x s w t q a p =
    let h : t ≡ s = head-eq_of_cons-eq (sym q ∙ p) in
    (subst (λ (v : Step). v.node ≡ x) h a, subst (λ (v : Step). W v.up ≡ w) h (tail-eq_of_cons-eq (sym q ∙ p)))

-- What one more merge does to the first step of each way: the first side gets the new edge, the edges above it are turned, and
-- all others stay.
module _ (m : Merge) (ms : List Merge) (J : Joins (m ∷ ms)) (F : Forest (way ms)) where
  -- after the steps of x, those of the first side turned, the new edge, and the way of the second side
  hung : List Step → List Step → List Step
  hung u w = (u ++ turned w) ++ (new_step m ∷ way ms m.b)

  hung_at : (x n : ℕ) → Meet (way ms) x m.a n → way (m ∷ ms) x ≡ hung (before n (way ms x)) (before n (way ms m.a))
  unfolding rehung hung
  hung_at x n k =
      way_in m ms x (way_class ms F n x k.on_x ∙ sym (way_class ms F n m.a k.on_y))
      ∙ ap (λ (v : ℕ). hung (before v (way ms x)) (before v (way ms m.a))) (common_is (way ms) F x m.a n k)

  hung_above : (v : ℕ) → Above (way ms) v m.a → way (m ∷ ms) v ≡ hung [] (before v (way ms m.a))
  hung_above v i = hung_at v v (meet_above (way ms) F v m.a i) ∙ rw (before_self (way ms) F v)

  pub second_side : way (m ∷ ms) m.b ≡ way ms m.b
  second_side = way_out m ms m.b (λ e. unequal ms m.a m.b J.0 (sym e))

  pub first_side : way (m ∷ ms) m.a ≡ new_step m ∷ way (m ∷ ms) m.b
  unfolding hung turned
  first_side = hung_above m.a (inl refl) ∙ rw (before_self (way ms) F m.a, second_side)

  pub turned_above : (v : ℕ) (s : Step) (w : List Step) → Above (way ms) v m.a → way ms v ≡ s ∷ w →
      way (m ∷ ms) s.up ≡ back s ∷ way (m ∷ ms) v
  unfolding hung
  turned_above v s w i p =
      hung_above s.up (above_trans (way ms) F (way ms m.a) s.up v m.a refl i (from_step (way ms) F s.up v s w p (inl refl)))
      ∙ ap (hung []) (before_next (way ms) F v m.a s w i p)
      ∙ ap (λ (u : List Step). u ++ (new_step m ∷ way ms m.b)) (turned_last (before v (way ms m.a)) s)
      ∙ ap (λ (u : List Step). back s ∷ u) (sym (hung_above v i))

  pub other_stays : (x : ℕ) (s : Step) (w : List Step) → (Above (way ms) x m.a → ⊥) → way ms x ≡ s ∷ w →
      way (m ∷ ms) x ≡ s ∷ way (m ∷ ms) s.up
  unfolding hung
  other_stays x s w h p = elim (same? ms x m.a) [
    | yes e ↦
        let n = common x (way ms x) m.a (way ms m.a) in
        let k = way_meets ms J.1 F x m.a e in
        let g : x ≡ n → ⊥ = λ q. h (subst (λ (v : ℕ). Above (way ms) v m.a) (sym q) k.on_y) in
        hung_at x n k
        ∙ ap (λ (u : List Step). hung u (before n (way ms m.a))) (before_step (way ms) F n x s w p g)
        ∙ ap (λ (u : List Step). s ∷ u) (sym (hung_at s.up n (meet_up (way ms) F x m.a n s w p g k)))
    | no k ↦
        let o = way_out m ms s.up (λ e. k (step_same ms F x s w p ∙ e)) ∙ (F x s w p).1 in
        way_out m ms x k ∙ p ∙ ap (λ (u : List Step). s ∷ u) (sym o)
  ]

  pub other_root : (x : ℕ) → (Above (way ms) x m.a → ⊥) → way ms x ≡ [] → way (m ∷ ms) x ≡ []
  other_root x h p =
      let root : Same ms x m.a → end m.a (way ms m.a) ≡ x = λ e. sym (way_end ms J.1 x m.a e) ∙ ap (end x) p in
      way_out m ms x (λ e. h (subst (λ (v : ℕ). Above (way ms) v m.a) (root e) (end_on (way ms m.a) m.a))) ∙ p

  -- the old root of the first side's tree goes the old way back, then over the new edge
  pub from_old_root : way (m ∷ ms) (end m.a (way ms m.a)) ≡ turned (way ms m.a) ++ (new_step m ∷ way ms m.b)
  unfolding hung
  from_old_root = hung_above (end m.a (way ms m.a)) (end_on (way ms m.a) m.a) ∙ ap (hung []) (before_end (way ms) F m.a)

  abbrev Climbs : ℕ → Type 0
  Climbs x = (s : Step) (w : List Step) → way (m ∷ ms) x ≡ s ∷ w → (s.node ≡ x) × (way (m ∷ ms) s.up ≡ w)

  climbs_other : (x : ℕ) → (Above (way ms) x m.a → ⊥) → (w : List Step) → way ms x ≡ w → Climbs x
  climbs_other x h [] q s w p = absurd (nil≢cons (sym (other_root x h q) ∙ p))
  climbs_other x h (t ∷ u) q s w p = climbs_by (way (m ∷ ms)) x s w t (other_stays x t u h q) (F x t u q).0 p

  climbs_turned : (x : ℕ) → Below (way ms) F x m.a → Climbs x
  climbs_turned x (v, t, u, j, q, e) s w p =
      climbs_by (way (m ∷ ms)) x s w (back t)
      (ap (way (m ∷ ms)) (sym e) ∙ turned_above v t u j q ∙ ap (λ (z : ℕ). back t ∷ way (m ∷ ms) z) (sym (F v t u q).0))
      e p

  climbs : (x : ℕ) → Dec (Above (way ms) x m.a) → Dec (m.a ≡ x) → Climbs x
  climbs x (no h) d = climbs_other x h (way ms x) refl
  climbs x (yes i) (yes e) = subst Climbs e (λ s w p. climbs_by (way (m ∷ ms)) m.a s w (new_step m) first_side refl p)
  climbs x (yes i) (no h) = climbs_turned x (below (way ms) F x m.a i h)

-- the ways of merges that join are a forest
pub way_forest : (ms : List Merge) → Joins ms → Forest (way ms)
unfolding way
way_forest [] J x s w p = absurd (nil≢cons p)
way_forest (m ∷ ms) J x s w p =
    climbs m ms J (way_forest ms J.1) x (above? (way ms) (way_forest ms J.1) x m.a) (ℕ_discrete m.a x) s w p

-- a way's nodes are different
pub way_apart : (ms : List Merge) → Joins ms → (x : ℕ) → Apart (nodes x (way ms x))
unfolding nodes
way_apart ms J x = apart (way ms) (way_forest ms J) (way ms x) x refl

-- ---- the path

-- the path of two equal terms: from each up to their nearest common node
pub record PathOf (ms : List Merge) (x y : ℕ) : Type 0 where
  pub peak : ℕ
  pub rise : List Step
  pub fall : List Step
  pub parts : path ms x y ≡ rise ++ fall
  pub from_x : Leads x rise peak
  pub from_y : Leads y fall peak

pub path_of : (ms : List Merge) → Joins ms → (x y : ℕ) → Same ms x y → PathOf ms x y
unfolding path
path_of ms J x y e =
    let F = way_forest ms J in
    let n = common x (way ms x) y (way ms y) in
    let k = way_meets ms J F x y e in
    record {
      peak = n;
      rise = before n (way ms x);
      fall = before n (way ms y);
      parts = refl;
      from_x = leads_before (way ms) F n x k.on_x;
      from_y = leads_before (way ms) F n y k.on_y;
    }

-- ---- age: a path between terms that were equal before goes over the older merges only

-- the sides of m, from d to c, above which the way goes over merges of r up to n
record Crossing (W : ℕ → List Step) (m : Merge) (r : List Merge) (n : ℕ) : Type 0 where
  d : ℕ
  c : ℕ
  sides : BothSides m d c
  deeper : length (W n) < length (W d)
  next : length (W d) ≡ suc (length (W c))
  from : Same r c n

-- a climb from x over the sides of m, and else over merges of r
abbrev Crosses : (ℕ → List Step) → Merge → List Merge → ℕ → ℕ → Type 0
Crosses W m r n x = (z : Crossing W m r n) × Above W z.d x × Same r x z.d

-- the sides of m in either order, told apart by the length of their ways
sides_clash : (h : ℕ → ℕ) (m : Merge) (d c e f : ℕ) → BothSides m d c → BothSides m e f → h d ≡ suc (h c) → h e ≡ suc (h f) → d ≡ e
sides_clash h m d c e f (inl (p, q)) (inl (u, v)) g k = p ∙ sym u
sides_clash h m d c e f (inl (p, q)) (inr (u, v)) g k = let i = ap h (p ∙ sym v) in let j = ap h (q ∙ sym u) in absurd (omega arith)
sides_clash h m d c e f (inr (p, q)) (inl (u, v)) g k = let i = ap h (p ∙ sym v) in let j = ap h (q ∙ sym u) in absurd (omega arith)
sides_clash h m d c e f (inr (p, q)) (inr (u, v)) g k = p ∙ sym u

module _ (W : ℕ → List Step) (F : Forest W) where
  -- a climb over merges of r stays in the class
  climb_same : (r : List Merge) (n x : ℕ) → Above W n x → Over r (before n (W x)) → Same r x n
  climb_same r n x =
      climb W F (λ x. Over r (before n (W x)) → Same r x n) n (λ o. refl)
      (λ x s w p h j f o.
      let e = before_step W F n x s w p h in
      ap (find r) (sym (F x s w p).0) ∙ edge_same r s (o s (rw e (inl refl))) ∙ f (λ t k. o t (rw e (inr k)))) x

  over_more : (r : List Merge) (n x : ℕ) (s : Step) (w : List Step) → W x ≡ s ∷ w → (x ≡ n → ⊥) → Edge r s →
      Over r (before n (W s.up)) → Over r (before n (W x))
  over_more r n x s w p h g o t i =
      let j : In t (s ∷ before n (W s.up)) = subst (λ (u : List Step). In t u) (before_step W F n x s w p h) i in
      elim j [ inl e ↦ subst (Edge r) (sym e) g | inr k ↦ o t k ]

  -- a climb goes over the newest merge once at most
  crosses_once : (m : Merge) (r : List Merge) (n x : ℕ) → Above W n x → Over (m ∷ r) (before n (W x)) →
      Over r (before n (W x)) ⊎ Crosses W m r n x
  crosses_once m r n x =
      climb W F (λ x. Over (m ∷ r) (before n (W x)) → Over r (before n (W x)) ⊎ Crosses W m r n x) n
      (λ o. inl (λ s i. absurd (subst (λ (u : List Step). In s u) (before_self W F n) i)))
      (λ x s w p h j f o.
      let e = before_step W F n x s w p h in
      go x s w p h j (o s (rw e (inl refl))) (f (λ t k. o t (rw e (inr k))))) x
    where
      height : ℕ → ℕ
      height v = length (W v)

      here : (x : ℕ) (s : Step) (w : List Step) → W x ≡ s ∷ w → (k : Merge) → k ≡ m → Along k s → BothSides m x s.up
      here x s w p k e (q, inl (u, v)) = inl (sym (F x s w p).0 ∙ u ∙ ap (λ (l : Merge). l.a) e, v ∙ ap (λ (l : Merge). l.b) e)
      here x s w p k e (q, inr (u, v)) = inr (sym (F x s w p).0 ∙ u ∙ ap (λ (l : Merge). l.b) e, v ∙ ap (λ (l : Merge). l.a) e)

      go : (x : ℕ) (s : Step) (w : List Step) → W x ≡ s ∷ w → (x ≡ n → ⊥) → Above W n s.up → Edge (m ∷ r) s →
          Over r (before n (W s.up)) ⊎ Crosses W m r n s.up → Over r (before n (W x)) ⊎ Crosses W m r n x
      go x s w p h j (k, inr q, a) (inl o) = inl (over_more r n x s w p h (k, q, a) o)
      go x s w p h j (k, inr q, a) (inr (z, o, t)) =
          inr (z, from_step W F z.d x s w p o, ap (find r) (sym (F x s w p).0) ∙ edge_same r s (k, q, a) ∙ t)
      go x s w p h j (k, inl q, a) (inl o) =
          let crossing : Crossing W m r n = record {
            d = x;
            c = s.up;
            sides = here x s w p k q a;
            deeper = omega (arith, longer W F x s w p, shorter W F n s.up j);
            next = longer W F x s w p;
            from = climb_same r n s.up j o;
          } in
          inr (crossing, inl refl, refl)
      go x s w p h j (k, inl q, a) (inr (z, o, t)) =
          let e : x ≡ z.d =
          sides_clash height m x s.up z.d z.c (here x s w p k q a) z.sides (longer W F x s w p) z.next in
          let g : height x ≡ height z.d = ap height e in
          absurd (omega (arith, longer W F x s w p, shorter W F z.d s.up o))

  -- the climbs from x and from y to n go over merges of r
  abbrev Climbs-over : List Merge → ℕ → ℕ → ℕ → Type 0
  Climbs-over r n x y = Over r (before n (W x)) × Over r (before n (W y))

  -- equal before the newest merge: neither climb goes over it
  age_step : (m : Merge) (r : List Merge) (n x y : ℕ) → (Same r m.a m.b → ⊥) → Same r x y → Meet W x y n →
      Climbs-over (m ∷ r) n x y → Climbs-over r n x y
  age_step m r n x y h e k (o, q) = go (crosses_once m r n x k.on_x o) (crosses_once m r n y k.on_y q)
    where
      joined : (d c : ℕ) → BothSides m d c → Same r d c → ⊥
      joined d c (inl (u, v)) s = h (ap (find r) (sym u) ∙ s ∙ ap (find r) v)
      joined d c (inr (u, v)) s = h (ap (find r) (sym v) ∙ sym s ∙ ap (find r) u)

      go : Over r (before n (W x)) ⊎ Crosses W m r n x → Over r (before n (W y)) ⊎ Crosses W m r n y → Climbs-over r n x y
      go (inl u) (inl v) = (u, v)
      go (inl u) (inr (z, o, t)) = absurd (joined z.d z.c z.sides (sym t ∙ sym e ∙ climb_same r n x k.on_x u ∙ sym z.from))
      go (inr (z, o, t)) (inl v) = absurd (joined z.d z.c z.sides (sym t ∙ e ∙ climb_same r n y k.on_y v ∙ sym z.from))
      go (inr (z, o, t)) (inr (w, o', t')) =
          let g : z.d ≡ w.d = sides_clash (λ v. length (W v)) m z.d z.c w.d w.c z.sides w.sides z.next w.next in
          let l = k.lowest z.d o (subst (λ (v : ℕ). Above W v y) (sym g) o') in
          absurd (omega (arith, z.deeper))

  -- and so for any time since which they are equal
  age : (r s : List Merge) (n x y : ℕ) → Suffix r s → Joins s → Same r x y → Meet W x y n → Climbs-over s n x y → Climbs-over r n x y
  age r [] n x y u J e k o = subst (λ (s : List Merge). Climbs-over s n x y) (sym u) o
  age r (m ∷ s) n x y (inl u) J e k o = subst (λ (s : List Merge). Climbs-over s n x y) (sym u) o
  age r (m ∷ s) n x y (inr u) J e k o =
      age r s n x y u J.1 e k (age_step m s n x y (unequal s m.a m.b J.0) (same_suffix r s x y u e) k o)

-- A path between terms that were equal before goes over the merges of then.
pub path_age : (ms r : List Merge) (x y : ℕ) → Joins ms → Suffix r ms → Same r x y → Over r (path ms x y)
unfolding path
path_age ms r x y J u e =
    let F = way_forest ms J in
    let n = common x (way ms x) y (way ms y) in
    let k = way_meets ms J F x y (same_suffix r ms x y u e) in
    let over : (z : ℕ) → Over ms (before n (way ms z)) = λ z. before_over ms n (way ms z) (way_over ms z) in
    let (f, g) = age (way ms) F r ms n x y u J e k (over x, over y) in
    over_append r (before n (way ms x)) (before n (way ms y)) f g
