-- Walks on a sound table: up the parents to the root of a class; in the proof forest the first edge of a node, the depth, the nearest
-- common node.
use Rattle.shinri_core.proofs.Kit.{ℕ, suc, ◌+◌, ◌-◌, ◌≤◌, ◌<◌, ◌≡◌, refl, sym, subst, ap, ◌∙◌, ◌⊎◌, inl, inr, true, List, [], ◌∷◌, map, arith, length}
use Rattle.shinri_core.specs.Limits.{max_terms}
use Rattle.shinri_core.specs.Lists.{In, range}
use Rattle.shinri_core.proofs.Lists.{in_range, true_T, length_range}
use Rattle.theory.specs.EqEngine.{Merge, Step, find, are_equal, nodes, common, way}
use Rattle.theory.specs.Memory.Replay.{IsNode, parent, BothSides}
use Rattle.theory.specs.Memory.Table.{merges#, parent_word, fparent_word, fedge_word, just_at, merge_at, merges, FirstEdge, EngineSound, TwoNodes}
use Rattle.theory.proofs.Members.{apart_length}
use Rattle.theory.proofs.Classes.{equal_same}
use Rattle.theory.proofs.Forest.{On, Forest, way_over, Above, Meet, at_root, lower, longer, meet_up, way_forest, way_apart, way_meets}
use Rattle.theory.proofs.UnionFind.{Up, up, depth, parent_within}
use Rattle.theory.proofs.Memory.Log.{merges_within, sound_joins}

-- ---- up to the root of a class

-- n lies on the way from node to its root, and p is its parent
pub record Climb (t : List ℕ) (node n p : ℕ) : Type 0 where
  pub sound : EngineSound t
  pub within : IsNode n
  pub up_within : IsNode p
  pub at : p ≡ parent (merges t) n
  pub same : find (merges t) n ≡ find (merges t) node

climbs : {t : List ℕ} {node n p : ℕ} → EngineSound t → IsNode n → p ≡ parent_word t n → find (merges t) n ≡ find (merges t) node →
    Climb t node n p
climbs {t} {n = n} z h e f =
    let a = e ∙ z.parents n h in
    record {
      sound = z;
      within = h;
      up_within = subst IsNode (sym a) (parent_within max_terms (merges t) (merges_within t z) n h);
      at = a;
      same = f;
    }

pub climb_first : {t : List ℕ} {node p : ℕ} → EngineSound t → IsNode node → p ≡ parent_word t node → Climb t node node p
climb_first z h e = climbs z h e refl

-- what a step up brings
stepped : {t : List ℕ} {node n p : ℕ} → Climb t node n p → (p ≡ n → ⊥) →
    (find (merges t) p ≡ find (merges t) n) × (depth (merges t) p < depth (merges t) n)
stepped {t} {node} {n} {p} c d = go (up (merges t) (sound_joins t c.sound) n)
  where
    go : Up (merges t) n → (find (merges t) p ≡ find (merges t) n) × (depth (merges t) p < depth (merges t) n)
    go (inl (q, f)) = absurd (d (c.at ∙ q))
    go (inr (q, f, l)) = (ap (find (merges t)) c.at ∙ f, subst (λ (x : ℕ). depth (merges t) x < depth (merges t) n) (sym c.at) l)

pub climb_next : {t : List ℕ} {node n p q : ℕ} → Climb t node n p → (p ≡ n → ⊥) → q ≡ parent_word t p → Climb t node p q
climb_next c d e = climbs c.sound c.up_within e ((stepped c d).0 ∙ c.same)

pub climb_less : {t : List ℕ} {node n p : ℕ} → Climb t node n p → (p ≡ n → ⊥) → depth (merges t) p < depth (merges t) n
climb_less c d = (stepped c d).1

pub climb_done : {t : List ℕ} {node n p : ℕ} → Climb t node n p → p ≡ n → (n ≡ find (merges t) node) × IsNode n
climb_done {t} {node} {n} c e = (go (up (merges t) (sound_joins t c.sound) n), c.within)
  where
    go : Up (merges t) n → n ≡ find (merges t) node
    go (inl (q, f)) = sym f ∙ c.same
    go (inr (q, f, l)) = absurd (q (sym c.at ∙ e))

-- ---- one step up the forest

-- the ways of a sound table are a forest
pub sound_forest : (t : List ℕ) → EngineSound t → Forest (way (merges t))
sound_forest t z = way_forest (merges t) (sound_joins t z)

-- p is the next node above x, over an edge that a merge in force made
pub record Rises (t : List ℕ) (x p : ℕ) : Type 0 where
  pub step : Step
  pub rest : List Step
  pub is : way (merges t) x ≡ step ∷ rest
  pub up : step.up ≡ p
  pub edge : fedge_word t x < merges# t
  pub label : just_at t (fedge_word t x) ≡ step.just
  pub within : IsNode p
  pub longer : length (way (merges t) x) ≡ suc (length (way (merges t) p))

pub sides_within : (m : Merge) (x y : ℕ) → IsNode m.a × IsNode m.b → BothSides m x y → IsNode x × IsNode y
sides_within m x y h (inl (p, q)) = omega arith
sides_within m x y h (inr (p, q)) = omega arith

module _ (t : List ℕ) (z : EngineSound t) where
  side_within : (i x y : ℕ) → i < merges# t → BothSides (merge_at t i) x y → IsNode y
  unfolding merge_at
  side_within i x y h b = (sides_within (merge_at t i) x y (z.entries i h).nodes b).1

  rises_by : (x p : ℕ) (s : Step) (w : List Step) → p ≡ fparent_word t x → way (merges t) x ≡ s ∷ w → FirstEdge t x (s ∷ w) → Rises t x p
  rises_by x p s w e q (a, b, c, d) =
      let u : s.up ≡ p = sym (e ∙ a) in
      record {
        step = s;
        rest = w;
        is = q;
        up = u;
        edge = b;
        label = c;
        within = subst IsNode u (side_within (fedge_word t x) x s.up b d);
        longer = longer (way (merges t)) (sound_forest t z) x s w q ∙ ap (λ (y : ℕ). suc (length (way (merges t) y))) u;
      }

  -- a root is its own parent, and every other node rises
  pub first_edge : (x p : ℕ) → IsNode x → p ≡ fparent_word t x → ((way (merges t) x ≡ []) × (p ≡ x)) ⊎ Rises t x p
  first_edge x p h e = go (way (merges t) x) refl
    where
      go : (w : List Step) → way (merges t) x ≡ w → ((way (merges t) x ≡ []) × (p ≡ x)) ⊎ Rises t x p
      go [] q = inl (q, e ∙ subst (FirstEdge t x) q (z.forest x h))
      go (s ∷ w) q = inr (rises_by x p s w e q (subst (FirstEdge t x) q (z.forest x h)))

  no_root : (x p : ℕ) → IsNode x → p ≡ fparent_word t x → (p ≡ x → ⊥) → Rises t x p
  no_root x p h e n = go (first_edge x p h e)
    where
      go : ((way (merges t) x ≡ []) × (p ≡ x)) ⊎ Rises t x p → Rises t x p
      go (inl (q, r)) = absurd (n r)
      go (inr r) = r

  pub at_a_root : (x p : ℕ) → IsNode x → p ≡ fparent_word t x → p ≡ x → way (merges t) x ≡ []
  at_a_root x p h e q = go (first_edge x p h e)
    where
      go : ((way (merges t) x ≡ []) × (p ≡ x)) ⊎ Rises t x p → way (merges t) x ≡ []
      go (inl (r, s)) = r
      go (inr r) = let l = r.longer in let k = ap (λ (y : ℕ). length (way (merges t) y)) q in absurd (omega arith)

  pub up_node : (x p : ℕ) → IsNode x → p ≡ fparent_word t x → IsNode p
  up_node x p h e = go (first_edge x p h e)
    where
      go : ((way (merges t) x ≡ []) × (p ≡ x)) ⊎ Rises t x p → IsNode p
      go (inl (r, s)) = omega arith
      go (inr r) = r.within

  -- the steps of a way go over nodes
  pub way_within : (x : ℕ) (s : Step) → In s (way (merges t) x) → IsNode s.node × IsNode s.up
  way_within x s i = let (m, j, (q, b)) = way_over (merges t) x s i in sides_within m s.node s.up (merges_within t z m j) b

  pub on_within : (w : List Step) (x : ℕ) → IsNode x → way (merges t) x ≡ w → (n : ℕ) → On n x w → IsNode n
  on_within [] x h p n (inl e) = omega arith
  on_within [] x h p n (inr i) = absurd i
  on_within (s ∷ w) x h p n (inl e) = omega arith
  on_within (s ∷ w) x h p n (inr i) =
      let f : FirstEdge t x (s ∷ w) = subst (FirstEdge t x) p (z.forest x h) in
      on_within w s.up (side_within (fedge_word t x) x s.up f.1 f.3) (sound_forest t z x s w p).1 n i

  way_short : (x : ℕ) → IsNode x → length (way (merges t) x) < max_terms
  unfolding nodes
  way_short x h =
      let w = way (merges t) x in
      let l = apart_length (nodes x w) (range 0 max_terms) (way_apart (merges t) (sound_joins t z) x)
      (λ n i. in_range 0 max_terms n (omega arith) (on_within w x h refl n i)) in
      omega (arith, length_range 0 max_terms, length_ups w)
    where
      length_ups : (w : List Step) → length (map (λ (s : Step). s.up) w) ≡ length w
      length_ups [] = refl
      length_ups (s ∷ w) = ap suc (length_ups w)

-- ---- up to the root of a tree

-- d edges lie between node and n, a node of its way, and p is the parent of n
pub record Rise (t : List ℕ) (node n d p : ℕ) : Type 0 where
  pub sound : EngineSound t
  pub within : IsNode n
  pub up_within : IsNode p
  pub at : p ≡ fparent_word t n
  pub sum : d + length (way (merges t) n) ≡ length (way (merges t) node)
  pub short : length (way (merges t) node) < max_terms

pub rise_first : {t : List ℕ} {node p : ℕ} → EngineSound t → IsNode node → p ≡ fparent_word t node → Rise t node node 0 p
rise_first {t} {node} {p} z h e = record {
  sound = z;
  within = h;
  up_within = up_node t z node p h e;
  at = e;
  sum = omega arith;
  short = way_short t z node h;
}

rise_up : {t : List ℕ} {node n d p : ℕ} → Rise t node n d p → (p ≡ n → ⊥) → Rises t n p
rise_up {t} {node} {n} {d} {p} c h = no_root t c.sound n p c.within c.at h

pub rise_next : {t : List ℕ} {node n d p q : ℕ} → Rise t node n d p → (p ≡ n → ⊥) → q ≡ fparent_word t p → Rise t node p (d + 1) q
rise_next {t} {node} {n} {d} {p} {q} c h e =
    let r = rise_up c h in
    let l = r.longer in
    let s = c.sum in
    record {
      sound = c.sound;
      within = r.within;
      up_within = up_node t c.sound p q r.within e;
      at = e;
      sum = omega arith;
      short = c.short;
    }

pub rise_less : {t : List ℕ} {node n d p : ℕ} → Rise t node n d p → (p ≡ n → ⊥) → length (way (merges t) p) < length (way (merges t) n)
rise_less c h = let l = (rise_up c h).longer in omega arith

pub rise_depth : {t : List ℕ} {node n d p : ℕ} → Rise t node n d p → p ≡ n → d ≡ length (way (merges t) node)
rise_depth {t} {node} {n} {d} {p} c e = let l = ap length (at_a_root t c.sound n p c.within c.at e) in let s = c.sum in omega
    arith

-- ---- two walks that meet

-- x and y stand at depths dx and dy, and their nearest common node is that of a and b
pub record Nearing (t : List ℕ) (a b x y dx dy : ℕ) : Type 0 where
  pub sound : EngineSound t
  pub x_within : IsNode x
  pub y_within : IsNode y
  pub x_depth : dx ≡ length (way (merges t) x)
  pub y_depth : dy ≡ length (way (merges t) y)
  pub meet : Meet (way (merges t)) x y (common a (way (merges t) a) b (way (merges t) b))

pub near_first : {t : List ℕ} {a b dx dy : ℕ} → TwoNodes t a b → are_equal (merges t) a b ≡ true → dx ≡ length (way (merges t) a) →
    dy ≡ length (way (merges t) b) → Nearing t a b a b dx dy
near_first {t} {a} {b} s e p q =
    let z = s.sound in
    record {
      sound = z;
      x_within = s.first;
      y_within = s.second;
      x_depth = p;
      y_depth = q;
      meet = way_meets (merges t) (sound_joins t z) (sound_forest t z) a b
          (equal_same (merges t) a b (true_T (are_equal (merges t) a b) e));
    }

meet_turned : {W : ℕ → List Step} {x y n : ℕ} → Meet W x y n → Meet W y x n
meet_turned m = record { on_x = m.on_y; on_y = m.on_x; lowest = λ v i j. m.lowest v j i }

module _ (t : List ℕ) (z : EngineSound t) where
  -- the one that is at least as deep is not the common node, unless both are
  deeper_below : (x y n : ℕ) → Meet (way (merges t)) x y n → length (way (merges t) y) ≤ length (way (merges t) x) → (x ≡ y → ⊥) → x ≡ n → ⊥
  deeper_below x y n m l d e = go (lower (way (merges t)) (sound_forest t z) (way (merges t) y) n y refl m.on_y)
    where
      go : (n ≡ y) ⊎ (length (way (merges t) n) < length (way (merges t) y)) → ⊥
      go (inl q) = d (e ∙ q)
      go (inr q) = let k = ap (λ (v : ℕ). length (way (merges t) v)) e in omega arith

  -- so it rises, and the common node stays
  deeper_rises : (x y n p : ℕ) → IsNode x → p ≡ fparent_word t x → Meet (way (merges t)) x y n →
      length (way (merges t) y) ≤ length (way (merges t) x) → (x ≡ y → ⊥) → Rises t x p × Meet (way (merges t)) p y n
  deeper_rises x y n p h e m l d = go (first_edge t z x p h e)
    where
      below : x ≡ n → ⊥
      below = deeper_below x y n m l d

      go : ((way (merges t) x ≡ []) × (p ≡ x)) ⊎ Rises t x p → Rises t x p × Meet (way (merges t)) p y n
      go (inl (q, r)) = absurd (below (sym (at_root (way (merges t)) (sound_forest t z) n x q m.on_x)))
      go (inr r) = (
        r,
        subst (λ (v : ℕ). Meet (way (merges t)) v y n) r.up
            (meet_up (way (merges t)) (sound_forest t z) x y n r.step r.rest r.is below m),
      )

module _ {t : List ℕ} {a b x y dx dy : ℕ} (c : Nearing t a b x y dx dy) (d : x ≡ y → ⊥) where
  n : ℕ
  n = common a (way (merges t) a) b (way (merges t) b)

  depths : (dx ≡ length (way (merges t) x)) × (dy ≡ length (way (merges t) y))
  depths = (c.x_depth, c.y_depth)

  x_rises : (p : ℕ) → dy ≤ dx → p ≡ fparent_word t x → Rises t x p × Meet (way (merges t)) p y n
  unfolding n
  x_rises p l e = let u = depths in deeper_rises t c.sound x y n p c.x_within e c.meet (omega arith) d

  pub near_x : (p : ℕ) → dy ≤ dx → p ≡ fparent_word t x → Nearing t a b p y (dx - 1) dy
  unfolding n
  near_x p l e =
      let (r, m) = x_rises p l e in
      let u = depths in
      let v = r.longer in
      record { sound = c.sound; x_within = r.within; y_within = c.y_within; x_depth = omega arith; y_depth = c.y_depth; meet = m }

  pub near_y : (p : ℕ) → dx < dy → p ≡ fparent_word t y → Nearing t a b x p dx (dy - 1)
  unfolding n
  near_y p l e =
      let u = depths in
      let (r, m) = deeper_rises t c.sound y x n p c.y_within e (meet_turned c.meet) (omega arith) (λ q. d (sym q)) in
      let v = r.longer in
      record {
        sound = c.sound;
        x_within = c.x_within;
        y_within = r.within;
        x_depth = c.x_depth;
        y_depth = omega arith;
        meet =
            meet_turned m;
      }

  pub x_deep : dy ≤ dx → 1 ≤ dx
  x_deep l = let r = (x_rises (fparent_word t x) l refl).0 in let u = c.x_depth in let v = r.longer in omega arith

  pub near_less : dy ≤ dx → dx - 1 + dy < dx + dy
  near_less l = let h = x_deep l in omega arith

pub near_done : {t : List ℕ} {a b x y dx dy : ℕ} → Nearing t a b x y dx dy → x ≡ y → x ≡ common a (way (merges t) a) b (way (merges t) b)
near_done {t} {a} {b} {x} c e = sym (go (lower (way (merges t)) (sound_forest t c.sound) (way (merges t) x) n x refl c.meet.on_x))
  where
    n : ℕ
    n = common a (way (merges t) a) b (way (merges t) b)

    go : (n ≡ x) ⊎ (length (way (merges t) n) < length (way (merges t) x)) → n ≡ x
    go (inl q) = q
    go (inr l) = let k = c.meet.lowest x (inl refl) (subst (λ (v : ℕ). Above (way (merges t)) x v) e (inl refl)) in absurd (omega arith)
