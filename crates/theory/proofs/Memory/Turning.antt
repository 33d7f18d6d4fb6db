-- A way turned: what the loop of `reroot_forest` keeps, and what it gives.
use Rattle.shinri_core.proofs.Kit.{ℕ, ◌≤◌, ◌<◌, ◌≡◌, refl, sym, subst, ap, ◌∙◌, ◌⊎◌, inl, inr, false, List, [], ◌∷◌, ◌++◌, append_assoc, append_cancel_right, arith, ℕ_discrete, ne_eqb, eqb, length}
use Rattle.shinri_core.specs.Lists.{In, Apart}
use Rattle.shinri_core.specs.Memory.Words.{put, Kept}
use Rattle.shinri_core.proofs.Memory.Stores.{kept_none, kept_more, kept_put}
use Rattle.theory.specs.EqEngine.{Merge, Step, before, way}
use Rattle.theory.specs.Memory.Replay.{IsNode, ups, On}
use Rattle.theory.specs.Memory.Table.{engine_size, FPARENT, FEDGE, engine_room, fparent_word, fedge_word, merges}
use Rattle.theory.specs.Memory.Steps.{SameNode, Turned, Rerooted, Cut, Turnable, Turns}
use Rattle.theory.proofs.Members.{in_left, in_either}
use Rattle.theory.proofs.Forest.{Forest, Above, at_root, at_step, split, apart}
use Rattle.theory.proofs.Memory.EngineStores.{stores}
use Rattle.theory.proofs.Memory.Walks.{sound_forest, Rises, first_edge, at_a_root, up_node, way_within}

-- ---- the nodes that steps reach

pub in_ups : (s : Step) (w : List Step) → In s w → In s.up (ups w)
in_ups s [] i = absurd i
in_ups s (r ∷ w) (inl e) = inl (ap (λ (q : Step). q.up) e)
in_ups s (r ∷ w) (inr i) = inr (in_ups s w i)

pub ups_in : (x : ℕ) (w : List Step) → In x (ups w) → (s : Step) × In s w × (x ≡ s.up)
ups_in x [] i = absurd i
ups_in x (r ∷ w) (inl e) = (r, inl refl, e)
ups_in x (r ∷ w) (inr i) = let (s, j, e) = ups_in x w i in (s, inr j, e)

pub ups_left : (z : ℕ) (u v : List Step) → In z (ups u) → In z (ups (u ++ v))
ups_left z [] v i = absurd i
ups_left z (r ∷ u) v (inl e) = inl e
ups_left z (r ∷ u) v (inr i) = inr (ups_left z u v i)

pub ups_right : (z : ℕ) (u v : List Step) → In z (ups v) → In z (ups (u ++ v))
ups_right z [] v i = i
ups_right z (r ∷ u) v i = inr (ups_right z u v i)

-- in a list without repetition no element stands in both parts
ups_two : (z : ℕ) (u v : List Step) → Apart (ups (u ++ v)) → In z (ups u) → In z (ups v) → ⊥
ups_two z [] v a i j = i
ups_two z (r ∷ u) v (h, a) (inl e) j = h (subst (λ (k : ℕ). In k (ups (u ++ v))) e (ups_right z u v j))
ups_two z (r ∷ u) v (h, a) (inr i) j = ups_two z u v a i j

-- ---- the loop

-- a node of a cut table has a node for its parent
cut_node : {s t : List ℕ} {node top x p : ℕ} → Cut s t node top → IsNode x → p ≡ fparent_word t x → IsNode p
cut_node {s} {t} {node} {top} {x} {p} f h e = go (ℕ_discrete x top)
  where
    go : Dec (x ≡ top) → IsNode p
    go (yes q) = subst IsNode (sym (e ∙ ap (fparent_word t) q ∙ f.root ∙ sym q)) h
    go (no d) = up_node s f.upward.sound x p h (e ∙ f.others x h d)

-- of the way of s, whose tree is cut in t₀, the steps up to prev are turned in t
pub record Done (s t₀ t : List ℕ) (node top prev : ℕ) : Type 0 where
  pub steps : List Step
  pub whole : way (merges s) node ≡ steps ++ way (merges s) prev
  pub reached : On prev node steps
  pub above : On top prev (way (merges s) prev)
  pub turned : (x : Step) → In x steps → Turned s t x
  pub others : (x : ℕ) → IsNode x → (In x (ups steps) → ⊥) → SameNode t₀ t x

-- the steps up to prev are turned, whatever table was cut; prev's words were cur and edge
pub record Turning (t₀ t : List ℕ) (node prev edge cur : ℕ) : Type 0 where
  pub some : Turnable t₀ node
  pub kept : Kept engine_room (FPARENT ∷ FEDGE ∷ []) t₀ t
  pub long : engine_size ≤ length t
  pub is_node : IsNode node
  pub within : IsNode prev
  pub up_within : IsNode cur
  pub edge_fits : edge < 4294967296
  pub next : cur ≡ fparent_word t₀ prev
  pub label : edge ≡ fedge_word t₀ prev
  pub each : (s : List ℕ) (top : ℕ) → Cut s t₀ node top → Done s t₀ t node top prev

pub turn_long : {t : List ℕ} {node : ℕ} → Turnable t node → (engine_size ≤ length t) × IsNode node
turn_long c =
    let u = c.cut.upward in
    let l = u.sound.long in
    let k = c.cut.kept.long in
    (omega arith, u.is_node)

pub turn_first : {t : List ℕ} {node edge cur : ℕ} → Turnable t node → edge ≡ fedge_word t node → edge < 4294967296 →
    cur ≡ fparent_word t node → Turning t t node node edge cur
turn_first {t} {node} c e b g =
    let h = turn_long c in
    record {
      some = c;
      kept = kept_none engine_room (FPARENT ∷ FEDGE ∷ []) t;
      long = h.0;
      is_node = h.1;
      within = h.1;
      up_within = cut_node c.cut h.1 g;
      edge_fits = b;
      next = g;
      label = e;
      each = λ s top f. record {
        steps = [];
        whole = refl;
        reached = inl refl;
        above = f.upward.above;
        turned = λ x i. absurd i;
        others = λ x l n. record { parent = refl; edge = refl };
      };
    }

module _ {t₀ t : List ℕ} {node prev edge cur : ℕ} (c : Turning t₀ t node prev edge cur) where
  module _ (s : List ℕ) (top : ℕ) (f : Cut s t₀ node top) where
    W : ℕ → List Step
    W = way (merges s)

    F : Forest W
    unfolding W
    F = sound_forest s f.upward.sound

    done : Done s t₀ t node top prev
    done = c.each s top f

    -- below top, the parent is that of s
    uncut : (prev ≡ top → ⊥) → cur ≡ fparent_word s prev
    uncut n = c.next ∙ f.others prev c.within n

    -- prev is not its own parent, so its way goes on
    onward : (cur ≡ prev → ⊥) → Rises s prev cur × On top cur (way (merges s) cur)
    unfolding W F
    onward n = go (first_edge s f.upward.sound prev cur c.within (uncut off))
      where
        off : prev ≡ top → ⊥
        off e = n (c.next ∙ ap (fparent_word t₀) e ∙ f.root ∙ sym e)

        up : (r : Rises s prev cur) → (top ≡ prev) ⊎ Above W top r.step.up → Rises s prev cur × On top cur (way (merges s) cur)
        up r (inl e) = absurd (off (sym e))
        up r (inr i) = (r, subst (λ (k : ℕ). On top k (way (merges s) k)) r.up i)

        go : ((way (merges s) prev ≡ []) × (cur ≡ prev)) ⊎ Rises s prev cur → Rises s prev cur × On top cur (way (merges s) cur)
        go (inl (q, e)) = absurd (n e)
        go (inr r) = up r (at_step W F top prev r.step r.rest r.is done.above)

    -- a node that is its own parent is the one where the tree is cut
    at_top : cur ≡ prev → prev ≡ top
    unfolding W F
    at_top e = go (ℕ_discrete prev top)
      where
        go : Dec (prev ≡ top) → prev ≡ top
        go (yes q) = q
        go (no n) = sym (at_root W F top prev (at_a_root s f.upward.sound prev cur c.within (uncut n) e) done.above)

    -- what was reached is a node
    done_within : (r : Step) → In r done.steps → IsNode r.up
    unfolding W F
    done_within r i =
        (way_within s f.upward.sound node r
        (subst (λ (w : List Step). In r w) (sym done.whole) (in_left r done.steps (way (merges s) prev) i))).1

    -- what stands above prev has not been reached
    fresh : (x : ℕ) → In x (ups (way (merges s) prev)) → In x (ups done.steps) → ⊥
    unfolding W F
    fresh x i j =
        ups_two x done.steps (way (merges s) prev)
        (subst (λ (w : List Step). Apart (ups w)) done.whole (apart W F (W node) node refl).1) j i

    -- so the words of the next node are as they were
    ahead : (g : Rises s prev cur) → SameNode t₀ t cur
    ahead g =
        done.others cur c.up_within
        (fresh cur (subst (λ (x : List Step). In cur (ups x)) (sym g.is) (inl (sym g.up))))

  pub turn_less : (cur ≡ prev → ⊥) → length (way (merges t₀) cur) < length (way (merges t₀) prev)
  turn_less n =
      let f = c.some.cut in
      let l = (onward c.some.sound c.some.top f n).0.longer in
      subst (λ (ms : List Merge). length (way ms cur) < length (way ms prev)) (sym f.log) (omega arith)

  module _ {u v : List ℕ} (n : cur ≡ prev → ⊥) (e : u ≡ put t FPARENT cur prev) (e₂ : v ≡ put u FEDGE cur edge) where
    -- the words of other nodes stay
    same_word : (x : ℕ) → IsNode x → (x ≡ cur → ⊥) → SameNode t v x
    same_word x h k = let w = c.up_within in let l = c.long in let q : eqb x cur ≡ false = ne_eqb x cur k in search (e₂, e, q, stores)

    written : (fparent_word v cur ≡ prev) × (fedge_word v cur ≡ edge)
    written = let w = c.up_within in let l = c.long in search (e₂, e, stores)

    -- one more step is done
    done_more : (s : List ℕ) (top : ℕ) → Cut s t₀ node top → Done s t₀ v node top cur
    unfolding W F done
    done_more s top f = go (onward s top f n)
      where
        more : (g : Rises s prev cur) (r : Step) → In r (done s top f).steps ⊎ In r (g.step ∷ []) → Turned s v r
        more g r (inl i) =
            let above : In r.up (ups (way (merges s) prev)) → ⊥ = λ j. fresh s top f r.up j (in_ups r (done s top f).steps i) in
            let k : r.up ≡ cur → ⊥ =
            λ q. above (subst (λ (x : List Step). In r.up (ups x)) (sym g.is) (inl (q ∙ sym g.up))) in
            let same = same_word r.up (done_within s top f r i) k in
            let was = (done s top f).turned r i in
            record { parent = same.parent ∙ was.parent; edge = same.edge ∙ was.edge }
        more g r (inr (inl i)) =
            let a : r.up ≡ cur = ap (λ (x : Step). x.up) i ∙ g.up in
            let b : r.node ≡ prev = ap (λ (x : Step). x.node) i ∙ (F s top f prev g.step g.rest g.is).0 in
            record {
              parent = ap (fparent_word v) a ∙ written.0 ∙ sym b;
              edge =
                  ap (fedge_word v) a
                  ∙ written.1
                  ∙ c.label
                  ∙ f.kept.rest FEDGE prev tt c.within
                  ∙ ap (fedge_word s) (sym b);
            }
        more g r (inr (inr i)) = absurd i

        go : Rises s prev cur × On top cur (way (merges s) cur) → Done s t₀ v node top cur
        go (g, i) = record {
          steps = (done s top f).steps ++ (g.step ∷ []);
          whole =
              (done s top f).whole
              ∙ ap (λ (x : List Step). (done s top f).steps ++ x) (g.is ∙ ap (λ (x : List Step). g.step ∷ x)
              (sym (F s top f prev g.step g.rest g.is).1))
              ∙ sym (append_assoc (done s top f).steps (g.step ∷ []) (way (merges s) g.step.up))
              ∙ ap (λ (x : ℕ). ((done s top f).steps ++ (g.step ∷ [])) ++ way (merges s) x) g.up;
          reached = inr (ups_right cur (done s top f).steps (g.step ∷ []) (inl (sym g.up)));
          above = i;
          turned = λ r j. more g r (in_either r (done s top f).steps (g.step ∷ []) j);
          others = λ x m h.
              let k = same_word x m (λ r. h (ups_right x (done s top f).steps (g.step ∷ []) (inl (r ∙ sym g.up)))) in
              let was = (done s top f).others x m (λ j. h (ups_left x (done s top f).steps (g.step ∷ []) j)) in
              record { parent = k.parent ∙ was.parent; edge = k.edge ∙ was.edge };
        }

    pub turn_next : {next next_edge : ℕ} → next ≡ fparent_word t cur → next_edge ≡ fedge_word t cur → next_edge < 4294967296 →
        Turning t₀ v node cur next_edge next
    turn_next p q b =
        let f = c.some.cut in
        let o = ahead c.some.sound c.some.top f (onward c.some.sound c.some.top f n).0 in
        let w = c.up_within in
        let l = c.long in
        let ws = FPARENT ∷ FEDGE ∷ [] in
        record {
          some = c.some;
          kept = rw (e₂, e) (kept_put engine_room ws t₀ (put t FPARENT cur prev) FEDGE cur edge tt w
              (kept_put engine_room ws t₀ t FPARENT cur prev tt w c.kept));
          long = search (e₂, e, stores);
          is_node = c.is_node;
          within = w;
          up_within = cut_node f w (p ∙ o.parent);
          edge_fits = b;
          next = p ∙ o.parent;
          label = q ∙ o.edge;
          each = done_more;
        }

  module _ {u : List ℕ} (e : u ≡ put t FPARENT node node) where
    same_other : (x : ℕ) → IsNode x → (x ≡ node → ⊥) → SameNode t u x
    same_other x b k = let h = c.is_node in let l = c.long in let q : eqb x node ≡ false = ne_eqb x node k in search (e, q, stores)

    module _ (s : List ℕ) (top : ℕ) (f : Cut s t₀ node top) (end : prev ≡ top) where
      -- all steps up to top are turned
      all_done : (done s top f).steps ≡ before top (way (merges s) node)
      unfolding W F done
      all_done =
          append_cancel_right (done s top f).steps (before top (way (merges s) node)) (way (merges s) top)
          (sym ((done s top f).whole ∙ ap (λ (x : ℕ). (done s top f).steps ++ way (merges s) x) end)
          ∙ split (W s top f) (F s top f) top node f.upward.above)

      -- a way does not come back to its first node
      not_first : (x : Step) → In x (done s top f).steps → x.up ≡ node → ⊥
      unfolding W F done
      not_first x i r =
          (apart (W s top f) (F s top f) (way (merges s) node) node refl).0 (subst (λ (k : ℕ). In k (ups (way (merges s) node))) r
          (subst (λ (w : List Step). In x.up (ups w)) (sym (done s top f).whole)
          (ups_left x.up (done s top f).steps (way (merges s) prev) (in_ups x (done s top f).steps i))))

      all_kept : Kept engine_room (FPARENT ∷ FEDGE ∷ []) s u
      all_kept =
          let ws = FPARENT ∷ FEDGE ∷ [] in
          let cut = kept_more engine_room (FPARENT ∷ []) ws s t₀ tt f.kept in
          let new : Kept engine_room ws t₀ u = rw e (kept_put engine_room ws t₀ t FPARENT node node tt c.is_node c.kept) in
          record { long = new.long ∙ cut.long; rest = λ b x a h. new.rest b x a h ∙ cut.rest b x a h }

      rerooted : Rerooted s u node (before top (way (merges s) node))
      rerooted = record {
        kept = all_kept;
        root = let h = c.is_node in let l = c.long in search (e, stores);
        turned = λ x i.
            let j = subst (λ (w : List Step). In x w) (sym all_done) i in
            let k = same_other x.up (done_within s top f x j) (not_first x j) in
            let o = (done s top f).turned x j in
            record { parent = k.parent ∙ o.parent; edge = k.edge ∙ o.edge };
        others = λ x b n.
            let m : On x node (done s top f).steps → ⊥ = subst (λ (w : List Step). On x node w → ⊥) (sym all_done) n in
            let off : x ≡ top → ⊥ =
            λ q. m (subst (λ (y : ℕ). On y node (done s top f).steps) (end ∙ sym q) (done s top f).reached) in
            let k = same_other x b (λ r. m (inl r)) in
            let o = (done s top f).others x b (λ i. m (inr i)) in
            record {
              parent = k.parent ∙ o.parent ∙ f.others x b off;
              edge = k.edge ∙ o.edge ∙ f.kept.rest FEDGE x tt b;
            };
      }

    pub turn_done : cur ≡ prev → Turns t₀ u node prev
    turn_done q = record {
      is_node = c.within;
      last = λ s top f. at_top s top f q;
      turned = λ s top f. rerooted s top f (at_top s top f q);
    }
