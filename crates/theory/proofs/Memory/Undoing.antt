-- Merges taken back: the class of the newest is its own again, and the way from the old root is turned again; back to a level, one after
-- the other.
use Rattle.shinri_core.proofs.Kit.{ℕ, zero, suc, ◌+◌, ◌-◌, ◌≤◌, ◌<◌, ◌≡◌, refl, sym, subst, ap, ap₂, ◌∙◌, inl, inr, Bool, true, false, cond, false≢true, List, [], ◌∷◌, ◌++◌, arith, ℕ_discrete, dec_le, eq-eqb, ne_eqb, ltb-true, ltb-false, le-ltb, le-leb, lt-leb, eqb, ltb, length}
use Rattle.shinri_core.specs.Limits.{max_terms, max_pairs}
use Rattle.shinri_core.specs.Lists.{In}
use Rattle.shinri_core.specs.Memory.Words.{put}
use Rattle.shinri_core.proofs.Memory.Stores.{kept_none, kept_put}
use Rattle.theory.specs.EqEngine.{Merge, classes, find, pop_merges, Step, before, turned, way}
use Rattle.theory.specs.Memory.Replay.{IsNode, child_of, root_of, parent, end, BothSides, ups, On}
use Rattle.theory.specs.Memory.Table.{engine_size, COUNTS, MERGES, LEVEL, PARENT, SIZE, FPARENT, engine_room, merges#, level_word, parent_word, size_word, fparent_word, fedge_word, a_word, label_word, child_word, froot_word, level_of, merge_at, merges_below, merges, FirstEdge, EngineSound, Pops}
use Rattle.theory.specs.Memory.Steps.{SameLog, SameNode, Rerooted, Cut, Turnable, Turns, Separable, separated, Undoes, newest_above, Drops}
use Rattle.theory.proofs.Members.{in_right}
use Rattle.theory.proofs.Classes.{Same, unequal, turned_sides, roots_apart}
use Rattle.theory.proofs.Forest.{Joins, Forest, Above, way_over, above?, split, apart, back, new_step, end_on, end_above, step_above, way_forest, step_same, before_skip, before_stop, turned_in, in_turned, turned_above, other_stays, other_root, from_old_root}
use Rattle.theory.proofs.Sizes.{size_other, size_root, Within, child_within, root_within}
use Rattle.theory.proofs.UnionFind.{child_parent, parent_child, parent_kept}
use Rattle.theory.proofs.Memory.EngineStores.{stores}
use Rattle.theory.proofs.Memory.Log.{below_same, merges_within, sound_joins, newest_first, pairs_fewer}
use Rattle.theory.proofs.Memory.Walks.{sides_within}
use Rattle.theory.proofs.Memory.Turning.{in_ups, ups_in, ups_left, ups_right}
use Rattle.theory.proofs.Memory.PairIndex.{SameIndex, index_kept}
use Rattle.theory.proofs.Memory.SoundTables.{edge_words, Shortened, shorter_sound, shorter_merges, level_put}

-- ---- the table with its newest merge

module _ (t : List ℕ) (i : ℕ) (z : EngineSound t) (N : merges# t ≡ suc i) where
  abbrev m : Merge
  m = merge_at t i

  abbrev ms : List Merge
  ms = merges_below t i

  split_log : merges t ≡ m ∷ ms
  split_log = newest_first t i N

  in_log : i < merges# t
  in_log = omega arith

  joins : Joins (m ∷ ms)
  joins = subst Joins split_log (sound_joins t z)

  F : Forest (way ms)
  F = way_forest ms joins.1

  side_a : a_word t i ≡ m.a
  unfolding merge_at
  side_a = refl

  old_root : froot_word t i ≡ end m.a (way ms m.a)
  unfolding merge_at
  old_root = (z.entries i in_log).froot

  child_noted : child_word t i ≡ child_of ms m
  child_noted = (z.entries i in_log).child

  nodes : IsNode m.a × IsNode m.b
  unfolding merge_at
  nodes = (z.entries i in_log).nodes

  -- an edge between terms that were equal before is of an older merge
  older : (e x y : ℕ) → e < merges# t → BothSides (merge_at t e) x y → Same ms x y → e < i
  older e x y h b s = go (ℕ_discrete e i)
    where
      clash : BothSides (merge_at t i) x y → ⊥
      clash (inl (p, q)) = unequal ms m.a m.b joins.0 (ap (find ms) (sym p) ∙ s ∙ ap (find ms) q)
      clash (inr (p, q)) = unequal ms m.a m.b joins.0 (ap (find ms) (sym q) ∙ sym s ∙ ap (find ms) p)

      go : Dec (e ≡ i) → e < i
      go (yes q) = absurd (clash (subst (λ (k : ℕ). BothSides (merge_at t k) x y) q b))
      go (no d) = omega arith

  older_within : Within max_terms ms
  older_within k j = merges_within t z k (subst (λ (l : List Merge). In k l) (sym split_log) (inr j))

  step_node : (x : ℕ) (s : Step) (w : List Step) → way ms x ≡ s ∷ w → IsNode s.up
  step_node x s w p =
      let (k, j, (q, b)) = way_over ms x s (subst (λ (l : List Step). In s l) (sym p) (inl refl)) in
      (sides_within k s.node s.up (older_within k j) b).1

  -- ---- the way that is turned

  root_way : way (merges t) (end m.a (way ms m.a)) ≡ turned (way ms m.a) ++ (new_step m ∷ way ms m.b)
  root_way = ap (λ (l : List Merge). way l (end m.a (way ms m.a))) split_log ∙ from_old_root m ms joins F

  -- steps none of which begins at n, before one that does
  before_all : (n : ℕ) (u : List Step) (s : Step) (r : List Step) → ((q : Step) → In q u → q.node ≡ n → ⊥) → s.node ≡ n →
      before n (u ++ (s ∷ r)) ≡ u
  before_all n [] s r f e = before_stop n s r e
  before_all n (q ∷ u) s r f e =
      before_skip n q (u ++ (s ∷ r)) (f q (inl refl)) ∙ ap (λ (w : List Step). q ∷ w) (before_all n u s r (λ p j. f p (inr j)) e)

  not_first : (q : Step) → In q (turned (way ms m.a)) → q.node ≡ m.a → ⊥
  not_first q j e =
      let (s, k, g) = turned_in (way ms m.a) q j in
      (apart (way ms) F (way ms m.a) m.a refl).0
      (subst (λ (n : ℕ). In n (ups (way ms m.a))) (sym (ap (λ (x : Step). x.node) g) ∙ e) (in_ups s (way ms m.a) k))

  turned_way : before (a_word t i) (way (merges t) (froot_word t i)) ≡ turned (way ms m.a)
  turned_way =
      ap₂ (λ (a r : ℕ). before a (way (merges t) r)) side_a old_root
      ∙ ap (before m.a) root_way
      ∙ before_all m.a (turned (way ms m.a)) (new_step m) (way ms m.b) not_first refl

  -- the first side stands above the old root
  above_root : (w : List Step) → way ms m.a ≡ w → (r : List Step) → On m.a (end m.a w) (turned w ++ r)
  unfolding turned
  above_root [] p r = inl refl
  above_root (s ∷ w) p r =
      inr (ups_left m.a (turned w ++ (back s ∷ [])) r (ups_right m.a (turned w) (back s ∷ []) (inl (sym (F m.a s w p).0))))

  top_above : On (a_word t i) (froot_word t i) (way (merges t) (froot_word t i))
  top_above =
      let r = end m.a (way ms m.a) in
      subst (λ (k : ℕ). On (a_word t i) k (way (merges t) k)) (sym old_root)
      (subst (λ (a : ℕ). On a r (way (merges t) r)) (sym side_a)
      (subst (On m.a r) (sym root_way) (above_root (way ms m.a) refl (new_step m ∷ way ms m.b))))

  root_node : IsNode (froot_word t i)
  root_node = subst IsNode (sym old_root) (go (way ms m.a) m.a refl nodes.0)
    where
      go : (w : List Step) (x : ℕ) → way ms x ≡ w → IsNode x → IsNode (end x w)
      go [] x p h = h
      go (s ∷ w) x p h = go w s.up (F x s w p).1 (step_node x s w p)

  -- ---- classes

  child_node : IsNode (child_word t i)
  child_node = subst IsNode (sym child_noted) (child_within max_terms m ms older_within nodes)

  root_of_node : IsNode (root_of ms m)
  root_of_node = root_within max_terms m ms older_within nodes

  -- what the word above the root that went under says
  root_is : parent_word t (child_word t i) ≡ root_of ms m
  root_is =
      z.parents (child_word t i) child_node ∙ ap (λ (l : List Merge). parent l (child_word t i)) split_log
      ∙ parent_child m ms (child_word t i) child_noted

  size_was : (x : ℕ) → IsNode x → size_word t x ≡ (classes (m ∷ ms)).size x
  size_was x h = z.sizes x h ∙ ap (λ (l : List Merge). (classes l).size x) split_log

  size_over : size_word t (root_of ms m) ≡ (classes ms).size (child_of ms m) + (classes ms).size (root_of ms m)
  size_over = size_was (root_of ms m) root_of_node ∙ size_root m ms (root_of ms m) refl

  size_kept : (x : ℕ) → IsNode x → (x ≡ root_of ms m → ⊥) → size_word t x ≡ (classes ms).size x
  size_kept x h d = size_was x h ∙ size_other m ms x d

  size_child : size_word t (child_word t i) ≡ (classes ms).size (child_of ms m)
  size_child =
      size_kept (child_word t i) child_node (λ q. roots_apart m ms joins.0 (sym child_noted ∙ q))
      ∙ ap (λ (k : ℕ). (classes ms).size k) child_noted

  -- ---- the table after it

  module _ {t₁ u : List ℕ} (c : Rerooted t t₁ (froot_word t i) (before (a_word t i) (way (merges t) (froot_word t i))))
      (e : u ≡ put (separated t₁ (child_word t i) (parent_word t₁ (child_word t i))) COUNTS MERGES i) where
    long₁ : engine_size ≤ length t₁
    long₁ = let l = c.kept.long in let k = z.long in omega arith

    root_then : parent_word t₁ (child_word t i) ≡ root_of ms m
    root_then = c.kept.rest PARENT (child_word t i) tt child_node ∙ root_is

    -- what was stored
    record Stored : Type 0 where
      long : engine_size ≤ length u
      count : merges# u ≡ i
      level : level_word u ≡ level_word t
      log : SameLog t u i
      parents : (x : ℕ) → IsNode x → parent_word u x ≡ cond (eqb x (child_word t i)) (child_word t i) (parent_word t x)
      sizes : (x : ℕ) → IsNode x →
          size_word u x ≡ cond (eqb x (root_of ms m)) (size_word t (root_of ms m) - size_word t (child_word t i)) (size_word t x)
      nodes_then : (x : ℕ) → IsNode x → SameNode t₁ u x
      same_index : SameIndex t u

    stored : Stored
    unfolding separated
    stored =
        let l = long₁ in
        let k = child_node in
        let n = root_of_node in
        let r = root_then in
        let f = z.fewer in
        let kept = c.kept.rest in
        let e' = subst (λ (y : ℕ). u ≡ put (put (put t₁ SIZE y (size_word t₁ y - size_word t₁ (child_word t i))) PARENT (child_word t i)
        (child_word t i)) COUNTS MERGES i) r e in
        record {
          long = search (e', stores);
          count = search (e', stores);
          level = search (e', kept, stores);
          log = record {
            entries = λ j h. let w : j < max_terms = omega arith in search (e', kept, stores);
            pairs = λ j h p g. let w : p < max_pairs = let b = (z.entries j (omega arith)).fit.1 in omega arith in search
                (e', kept, stores);
          };
          parents = λ x h. search (e', kept, stores);
          sizes = λ x h. search (e', kept, stores);
          nodes_then = λ x h. search (e', stores);
          same_index = record {
            count = search (e', kept, stores);
            left = λ p h. search (e', kept, stores);
            right = λ p h. search (e', kept, stores);
            heads = λ x h. search (e', kept, stores);
          };
        }

    reroot : Rerooted t t₁ (end m.a (way ms m.a)) (turned (way ms m.a))
    reroot = subst (λ (r : ℕ). Rerooted t t₁ r (turned (way ms m.a))) old_root (subst (Rerooted t t₁ (froot_word t i)) turned_way c)

    parents_then : (x : ℕ) → IsNode x → Dec (x ≡ child_of ms m) → parent_word u x ≡ parent ms x
    parents_then x h (yes q) =
        let d = eq-eqb x (child_word t i) (q ∙ sym child_noted) in
        stored.parents x h ∙ rw d (child_noted ∙ sym (child_parent m ms joins.1) ∙ ap (parent ms) (sym q))
    parents_then x h (no n) =
        let d = ne_eqb x (child_word t i) (λ q. n (q ∙ child_noted)) in
        stored.parents x h ∙ rw d (z.parents x h ∙ ap (λ (l : List Merge). parent l x) split_log ∙ parent_kept m ms x n)

    sizes_then : (x : ℕ) → IsNode x → Dec (x ≡ root_of ms m) → size_word u x ≡ (classes ms).size x
    sizes_then x h (yes q) =
        let d = eq-eqb x (root_of ms m) q in
        let a = size_over in
        let b = size_child in
        let f : (classes ms).size x ≡ (classes ms).size (root_of ms m) = ap (λ (k : ℕ). (classes ms).size k) q in
        stored.sizes x h ∙ rw d (omega arith)
    sizes_then x h (no n) = let d = ne_eqb x (root_of ms m) n in stored.sizes x h ∙ rw d (size_kept x h n)

    -- the edges above the first side are turned back
    edge_back : (x : ℕ) → IsNode x → Above (way ms) x m.a → (w : List Step) → way ms x ≡ w → FirstEdge u x w
    edge_back x h j [] p =
        let r : end m.a (way ms m.a) ≡ x = end_above (way ms) F x m.a j ∙ ap (end x) p in
        (stored.nodes_then x h).parent ∙ subst (λ (k : ℕ). fparent_word t₁ k ≡ k) r reroot.root
    edge_back x h j (s ∷ w) p =
        let q : s.node ≡ x = (F x s w p).0 in
        let first : In s (way ms x) = subst (λ (l : List Step). In s l) (sym p) (inl refl) in
        let on : In s (way ms m.a) =
        subst (λ (l : List Step). In s l) (sym (split (way ms) F x m.a j)) (in_right s (before x (way ms m.a)) (way ms x) first) in
        let o = reroot.turned (back s) (in_turned (way ms m.a) s on) in
        let up : way (merges t) s.up ≡ back s ∷ way (m ∷ ms) x =
        ap (λ (l : List Merge). way l s.up) split_log ∙ turned_above m ms joins F x s w j p in
        let (a, b, g, k) = subst (FirstEdge t s.up) up (z.forest s.up (step_node x s w p)) in
        let edge = merge_at t (fedge_word t s.up) in
        let sides : BothSides edge x s.up = turned_sides edge s.up x (subst (λ (v : ℕ). BothSides edge s.up v) q k) in
        let l = older (fedge_word t s.up) x s.up b sides (step_same ms F x s w p) in
        edge_words s w stored.log l (let n = stored.count in omega arith)
        ((stored.nodes_then x h).parent ∙ ap (fparent_word t₁) (sym q) ∙ o.parent)
        ((stored.nodes_then x h).edge ∙ ap (fedge_word t₁) (sym q) ∙ o.edge)
        g sides

    -- a node of the turned way stands above the first side
    turned_on : (x : ℕ) → On x (end m.a (way ms m.a)) (turned (way ms m.a)) → Above (way ms) x m.a
    turned_on x (inl q) = subst (λ (k : ℕ). Above (way ms) k m.a) (sym q) (end_on (way ms m.a) m.a)
    turned_on x (inr j) =
        let (q, k, r) = ups_in x (turned (way ms m.a)) j in
        let (s, l, g) = turned_in (way ms m.a) q k in
        subst (λ (v : ℕ). Above (way ms) v m.a) (sym (r ∙ ap (λ (y : Step). y.up) g))
        (step_above (way ms) F (way ms m.a) m.a refl s l)

    -- all others stay
    edge_other : (x : ℕ) → IsNode x → (Above (way ms) x m.a → ⊥) → (w : List Step) → way ms x ≡ w → FirstEdge u x w
    edge_other x h n [] p =
        let o = reroot.others x h (λ j. n (turned_on x j)) in
        (stored.nodes_then x h).parent ∙ o.parent
        ∙ subst (FirstEdge t x) (ap (λ (l : List Merge). way l x) split_log ∙ other_root m ms joins F x n p) (z.forest x h)
    edge_other x h n (s ∷ w) p =
        let o = reroot.others x h (λ j. n (turned_on x j)) in
        let (a, b, g, k) = subst (FirstEdge t x) (ap (λ (l : List Merge). way l x) split_log ∙ other_stays m ms joins F x s w n p)
        (z.forest x h) in
        let l = older (fedge_word t x) x s.up b k (step_same ms F x s w p) in
        edge_words s w stored.log l (let q = stored.count in omega arith)
        ((stored.nodes_then x h).parent ∙ o.parent ∙ a) ((stored.nodes_then x h).edge ∙ o.edge) g k

    edge_now : (x : ℕ) → IsNode x → Dec (Above (way ms) x m.a) → FirstEdge u x (way ms x)
    edge_now x h (yes j) = edge_back x h j (way ms x) refl
    edge_now x h (no n) = edge_other x h n (way ms x) refl

    shortened : Shortened t u i
    unfolding merges
    shortened =
        let v = stored.level in
        record {
          long = stored.long;
          fewer = omega arith;
          count = stored.count;
          log = stored.log;
          levels_fit = let f = z.levels_fit in omega arith;
          levels = λ j h. let f = z.levels j (omega arith) in omega arith;
          parents = λ x h. parents_then x h (ℕ_discrete x (child_of ms m));
          sizes = λ x h. sizes_then x h (ℕ_discrete x (root_of ms m));
          forest = λ x h. edge_now x h (above? (way ms) F x m.a);
          indexed = index_kept z.indexed stored.same_index;
          covers =
              let k = stored.same_index.count in
              let f = z.covers in
              let l = pairs_fewer t i (merges# t) (omega arith) in
              omega arith;
        }

    undone : Undoes t u
    undone = record {
      sound = shorter_sound z shortened;
      one_less = ap suc stored.count ∙ sym N;
      log = shorter_merges z shortened ∙ ap (merges_below t) (sym stored.count);
      same_level = stored.level;
    }

-- ---- with the words as they were read

module _ {t : List ℕ} {n a r child : ℕ} (z : EngineSound t) (h : 0 < merges# t) (en : n ≡ merges# t) (ea : a ≡ a_word t (n - 1))
    (el : child ≡ child_word t (n - 1)) (er : r ≡ froot_word t (n - 1)) where
  newest : merges# t ≡ suc (n - 1)
  newest = omega arith

  pub side_node : IsNode a
  side_node = subst IsNode (sym (ea ∙ side_a t (n - 1) z newest)) (nodes t (n - 1) z newest).0

  module _ {t₀ : List ℕ} (e₀ : t₀ ≡ put t FPARENT a a) where
    -- this store leaves the log
    same_log : SameLog t t₀ (merges# t)
    same_log =
        let f = z.fewer in
        let h = side_node in
        record {
          entries = λ j l. let w : j < max_terms = omega arith in search (e₀, stores);
          pairs = λ j l p g. let w : p < max_pairs = let b = (z.entries j l).fit.1 in omega arith in search (e₀, stores);
        }

    cut_log : merges t₀ ≡ merges t
    unfolding merges
    cut_log =
        let h = side_node in
        let count : merges# t₀ ≡ merges# t = search (e₀, stores) in
        ap (merges_below t₀) count ∙ below_same t t₀ (merges# t) same_log

    -- the edge of the newest merge is cut
    edge_cut : Cut t t₀ r a
    edge_cut =
        let h = side_node in
        let l = z.long in
        record {
          upward = record {
            sound = z;
            is_node = subst IsNode (sym er) (root_node t (n - 1) z newest);
            above =
                subst (λ (x : ℕ). On x r (way (merges t) r)) (sym ea)
                (subst (λ (k : ℕ). On (a_word t (n - 1)) k (way (merges t) k)) (sym er) (top_above t (n - 1) z newest));
          };
          kept = rw e₀ (kept_put engine_room (FPARENT ∷ []) t t FPARENT a a tt h (kept_none engine_room (FPARENT ∷ []) t));
          log = cut_log;
          root = search (e₀, stores);
          others = λ x g d. let q : eqb x a ≡ false = ne_eqb x a d in search (e₀, q, stores);
        }

    pub edge_turnable : Turnable t₀ r
    edge_turnable = record { sound = t; top = a; cut = edge_cut }

  module _ {t₀ t₁ : List ℕ} {top : ℕ} (e₀ : t₀ ≡ put t FPARENT a a) (d : Turns t₀ t₁ r top) where
    rerooted : Rerooted t t₁ r (before a (way (merges t) r))
    rerooted = d.turned t a (edge_cut e₀)

    turned_back : Rerooted t t₁ (froot_word t (n - 1)) (before (a_word t (n - 1)) (way (merges t) (froot_word t (n - 1))))
    turned_back =
        subst (λ (k : ℕ). Rerooted t t₁ k (before (a_word t (n - 1)) (way (merges t) k))) er
        (subst (λ (k : ℕ). Rerooted t t₁ r (before k (way (merges t) r))) ea rerooted)

    pub separate_asks : Separable t₁ child
    separate_asks =
        let i = n - 1 in
        let k = child_node t i z newest in
        let above = root_of_node t i z newest in
        let kept = rerooted.kept.rest in
        let p : parent_word t₁ child ≡ root_of (merges_below t i) (merge_at t i) =
        ap (parent_word t₁) el ∙ kept PARENT (child_word t i) tt k ∙ root_is t i z newest in
        let s : size_word t₁ child ≡ (classes (merges_below t i)).size (child_of (merges_below t i) (merge_at t i)) =
        ap (size_word t₁) el ∙ kept SIZE (child_word t i) tt k ∙ size_child t i z newest in
        let b = ap (size_word t₁) p ∙ kept SIZE (root_of (merges_below t i) (merge_at t i)) tt above ∙ size_over t i z newest in
        record {
          long = let l = z.long in let m = rerooted.kept.long in omega arith;
          is_node = subst IsNode (sym el) k;
          above = subst IsNode (sym p) above;
          smaller = omega arith;
        }

    pub undone_at : {t₂ u : List ℕ} → t₂ ≡ separated t₁ child (parent_word t₁ child) → u ≡ put t₂ COUNTS MERGES (n - 1) → Undoes t u
    undone_at {t₂} {u} g e =
        undone t (n - 1) z newest turned_back
        (subst (λ (k : ℕ). u ≡ put (separated t₁ k (parent_word t₁ k)) COUNTS MERGES (n - 1)) el
        (e ∙ ap (λ (y : List ℕ). put y COUNTS MERGES (n - 1)) g))

-- ---- back to a level

pub newest_none : (t : List ℕ) (k : ℕ) {n : ℕ} → n ≡ merges# t → n ≡ 0 → false ≡ newest_above k (merges t)
unfolding merges merges_below newest_above
newest_none t k e f = sym (ap (λ (i : ℕ). newest_above k (merges_below t i)) (sym e ∙ f))

pub newest_some : (t : List ℕ) (k n : ℕ) {r : ℕ} → n ≡ merges# t → (n ≡ 0 → ⊥) → r ≡ label_word t (n - 1) →
    ltb k (level_of r) ≡ newest_above k (merges t)
unfolding merge_at newest_above
newest_some t k n e h f = ap (λ (w : ℕ). ltb k (level_of w)) f ∙ sym (ap (newest_above k) (newest_first t (n - 1) (omega arith)))

pop_newest : (k : ℕ) (m : Merge) (ms : List Merge) → newest_above k (m ∷ ms) ≡ true → pop_merges k (m ∷ ms) ≡ pop_merges k ms
unfolding newest_above pop_merges
pop_newest k m ms e = let l = ltb-true k m.level e in ap (λ (b : Bool). cond b (m ∷ ms) (pop_merges k ms)) (lt-leb m.level k l)

-- nothing more is dropped
pop_rests : (k : ℕ) (ms : List Merge) → newest_above k ms ≡ false → pop_merges k ms ≡ ms
unfolding newest_above pop_merges
pop_rests k [] e = refl
pop_rests k (m ∷ ms) e = let l = ltb-false k m.level e in ap (λ (b : Bool). cond b (m ∷ ms) (pop_merges k ms)) (le-leb m.level k l)

-- what is still to be dropped gives the same merges
pub record Popping (t₀ t : List ℕ) (k : ℕ) : Type 0 where
  pub sound : EngineSound t
  pub same_length : length t ≡ length t₀
  pub level : level_word t ≡ level_word t₀
  pub rest : pop_merges k (merges t) ≡ pop_merges k (merges t₀)

pub popping_first : {t : List ℕ} (k : ℕ) → EngineSound t → Popping t t k
popping_first k z = record { sound = z; same_length = refl; level = refl; rest = refl }

-- a merge above k is there
pub some_above : (t : List ℕ) (k : ℕ) {r : Bool} → r ≡ newest_above k (merges t) → r ≡ true → 0 < merges# t
unfolding merges merges_below newest_above
some_above t k q e = go (merges# t) (sym q ∙ e)
  where
    go : (n : ℕ) → newest_above k (merges_below t n) ≡ true → 0 < n
    go zero f = absurd (false≢true f)
    go (suc n) f = omega arith

pub popping_next : {t₀ t u : List ℕ} {k : ℕ} {r : Bool} → Popping t₀ t k → r ≡ newest_above k (merges t) → r ≡ true →
    length u ≡ length t → Undoes t u → Popping t₀ u k
popping_next {t₀} {t} {u} {k} c q e l d =
    let f = newest_first t (merges# u) (sym d.one_less) in
    record {
      sound = d.sound;
      same_length = l ∙ c.same_length;
      level = d.same_level ∙ c.level;
      rest =
          ap (pop_merges k) d.log
          ∙ sym (pop_newest k (merge_at t (merges# u)) (merges_below t (merges# u)) (ap (newest_above k) (sym f) ∙ sym q ∙ e))
          ∙ ap (pop_merges k) (sym f)
          ∙ c.rest;
    }

pub popping_less : {t u : List ℕ} → Undoes t u → merges# u < merges# t
popping_less d = let l = d.one_less in omega arith

pub popping_done : {t₀ t : List ℕ} {k : ℕ} {r : Bool} → Popping t₀ t k → r ≡ newest_above k (merges t) → r ≡ false → Drops t₀ t k
popping_done {t₀} {t} {k} c q e = record {
  engine = record { sound = c.sound; log = sym (pop_rests k (merges t) (sym q ∙ e)) ∙ c.rest; at_level = c.level };
  below = sym q ∙ e;
}

-- ---- the level

-- levels rise up to that of the newest merge
level_newest : (t : List ℕ) (n : ℕ) → EngineSound t → n < merges# t → (i : ℕ) → i ≤ n →
    level_of (label_word t i) ≤ level_of (label_word t n)
level_newest t zero z h i l = let q = ap (λ (j : ℕ). level_of (label_word t j)) (eq_zero l) in omega arith
  where
    eq_zero : {i : ℕ} → i ≤ 0 → i ≡ 0
    eq_zero g = omega arith
level_newest t (suc n) z h i l = go (dec_le i n) (level_newest t n z (omega arith) i)
  where
    go : Dec (i ≤ n) → (i ≤ n → level_of (label_word t i) ≤ level_of (label_word t n)) →
        level_of (label_word t i) ≤ level_of (label_word t (suc n))
    go (yes g) f = let a = f g in let b = z.levels_rise n h in omega arith
    go (no g) f = let e : i ≡ suc n = omega arith in let q = ap (λ (j : ℕ). level_of (label_word t j)) e in omega arith

-- with no merge above k in front, none is above k
all_below : (t : List ℕ) (k : ℕ) → EngineSound t → newest_above k (merges t) ≡ false → (i : ℕ) → i < merges# t →
    level_of (label_word t i) ≤ k
unfolding merges merges_below merge_at newest_above
all_below t k z e i h = go (merges# t) refl e
  where
    go : (n : ℕ) → merges# t ≡ n → newest_above k (merges_below t n) ≡ false → level_of (label_word t i) ≤ k
    go zero q f = absurd (omega arith)
    go (suc n) q f =
        let a = ltb-false k (level_of (label_word t n)) f in
        let b = level_newest t n z (omega arith) i (omega arith) in
        omega arith

-- no merge is of a higher level than the present one
none_above : (t : List ℕ) (k : ℕ) → EngineSound t → level_word t ≤ k → newest_above k (merges t) ≡ false
unfolding merges merges_below merge_at newest_above
none_above t k z l = go (merges# t) refl
  where
    go : (n : ℕ) → merges# t ≡ n → newest_above k (merges_below t n) ≡ false
    go zero q = refl
    go (suc n) q = let a = z.levels n (omega arith) in le-ltb k (level_of (label_word t n)) (omega arith)

pub popped_none : {t : List ℕ} {k n : ℕ} → EngineSound t → n ≡ level_word t → n ≤ k → Pops t t k
popped_none {t} {k} {n} z e l = record {
  engine = record {
    sound = z;
    log = sym (pop_rests k (merges t) (none_above t k z (omega arith)));
    at_level = sym (ap (λ (b : Bool). cond b (level_word t) k) (le-leb (level_word t) k (omega arith)));
  };
  unchanged = λ h. refl;
}

pub popped_some : {t u v : List ℕ} {k n : ℕ} → EngineSound t → n ≡ level_word t → k < n → Drops t u k → v ≡ put u COUNTS LEVEL k →
    Pops t v k
popped_some {t} {u} {v} {k} z e l d f =
    let s = d.engine.sound in
    let h = z.levels_fit in
    let g = level_put s f (omega arith) (all_below u k s d.below) in
    record {
      engine = record {
        sound = g.sound;
        log = g.log ∙ d.engine.log;
        at_level = g.at_level ∙ sym (ap (λ (b : Bool). cond b (level_word t) k) (lt-leb (level_word t) k (omega arith)));
      };
      unchanged = λ b. absurd (omega arith);
    }
