-- One merge: what its steps write, the new edge of the forest, the class that goes under and the entry of the log, makes a sound table
-- with that merge in front.
use Rattle.shinri_core.proofs.Kit.{ℕ, suc, ◌+◌, ◌≤◌, ◌<◌, ◌≡◌, refl, sym, subst, ap, ap₂, ◌∙◌, inl, Bool, false, cond, List, [], ◌∷◌, arith, ℕ_discrete, add-one, ne_eqb, le-leb, lt-leb, eqb, lit<, length}
use Rattle.shinri_core.specs.Limits.{max_terms, max_pairs, max_levels}
use Rattle.shinri_core.specs.Lists.{In}
use Rattle.shinri_core.specs.Memory.Words.{put}
use Rattle.shinri_core.proofs.Memory.Stores.{kept_none, kept_more, kept_put}
use Rattle.theory.specs.declared.eq_engine.EdgeLabel as EdgeLabel
use Rattle.theory.specs.declared.eq_engine.LabelWords as LabelWords
use Rattle.theory.specs.EqEngine.{Merge, child, root, classes, find, are_equal, pairs_in_force, Step, before, way}
use Rattle.theory.specs.Memory.Replay.{IsNode, child_of, root_of, parent, end, BothSides, ups}
use Rattle.theory.specs.Memory.Table.{engine_size, COUNTS, MERGES, LEVEL, PARENT, SIZE, FPARENT, FEDGE, FROOT, LEFT, RIGHT, HEAD, INDEXED, engine_room, merges#, level_word, parent_word, size_word, fparent_word, fedge_word, a_word, b_word, label_word, value_word, child_word, froot_word, after_word, left_word, right_word, label_code, level_of, kind_of, theory_of, label, begins, just_at, merge_at, pairs_start, merges, FirstEdge, EngineSound, Engine, TwoNodes}
use Rattle.theory.specs.Memory.Steps.{SameEntry, SameLog, SameNode, Rerooted, Cut, Turnable, Turns, Spliced, TwoClasses, united, Entry, logged, Joinable, Joins, just_of, label_after, HoldsLabel}
use Rattle.theory.proofs.Members.{in_right}
use Rattle.theory.proofs.Classes.{turned_sides, size_more}
use Rattle.theory.proofs.Forest.{Forest, Above, above?, Below, below, before_end, apart, end_on, end_root, split, back, first_side, turned_above, other_stays, other_root}
use Rattle.theory.proofs.Sizes.{find_within, size_bound, child_within, root_within}
use Rattle.theory.proofs.Memory.EngineStores.{stores}
use Rattle.theory.proofs.Memory.Log.{level_is, kind_is, theory_is, label_same, label_length, pairs_more, merges_length, merges_within, sound_joins}
use Rattle.theory.proofs.Memory.Walks.{sound_forest, way_within, on_within}
use Rattle.theory.proofs.Memory.Turning.{in_ups}
use Rattle.theory.proofs.Memory.PairIndex.{SameIndex, index_kept}
use Rattle.theory.proofs.Memory.SoundTables.{edge_words, Grown, grown_merges, grown_sound}

-- ---- the forest

-- the tree of a ends at its root: nothing has to be cut
root_cut : {t : List ℕ} {a b : ℕ} → TwoNodes t a b → Cut t t a (end a (way (merges t) a))
root_cut {t} {a} s =
    let z = s.sound in
    let w = way (merges t) a in
    let h = on_within t z w a s.first refl (end a w) (end_on w a) in
    record {
      upward = record { sound = z; is_node = s.first; above = end_on w a };
      kept = kept_none engine_room (FPARENT ∷ []) t;
      log = refl;
      root = subst (FirstEdge t (end a w)) (end_root (way (merges t)) (sound_forest t z) w a refl) (z.forest (end a w) h);
      others = λ x h n. refl;
    }

pub root_turnable : {t : List ℕ} {a b : ℕ} → TwoNodes t a b → Turnable t a
root_turnable {t} {a} s = record { sound = t; top = end a (way (merges t) a); cut = root_cut s }

module _ {t t₁ t₂ t₃ t₄ : List ℕ} {a b i r : ℕ} (s : TwoNodes t a b) (k : i < max_terms) (d : Turns t t₁ a r)
    (e₂ : t₂ ≡ put t₁ FPARENT a b) (e₃ : t₃ ≡ put t₂ FEDGE a i) (e₄ : t₄ ≡ put t₃ FROOT i r) where
  old_root_is : r ≡ end a (way (merges t) a)
  old_root_is = d.last t (end a (way (merges t) a)) (root_cut s)

  rerooted : Rerooted t t₁ a (way (merges t) a)
  rerooted =
      subst (Rerooted t t₁ a) (before_end (way (merges t)) (sound_forest t s.sound) a)
      (d.turned t (end a (way (merges t) a)) (root_cut s))

  long₁ : engine_size ≤ length t₁
  long₁ = let l = rerooted.kept.long in let m = s.sound.long in omega arith

  same_other : (x : ℕ) → IsNode x → (x ≡ a → ⊥) → SameNode t₁ t₄ x
  same_other x h d = let l = long₁ in let f = s.first in let q : eqb x a ≡ false = ne_eqb x a d in search (e₄, e₃, e₂, q, stores)

  -- a way does not come back to its first node
  not_first : (x : Step) → In x (way (merges t) a) → x.up ≡ a → ⊥
  not_first x j q =
      (apart (way (merges t)) (sound_forest t s.sound) (way (merges t) a) a refl).0
      (subst (λ (n : ℕ). In n (ups (way (merges t) a))) q (in_ups x (way (merges t) a) j))

  pub spliced : Spliced t t₄ a b i
  spliced =
      let l = long₁ in
      let f = s.first in
      let ws = FPARENT ∷ FEDGE ∷ FROOT ∷ [] in
      record {
        kept = rw (e₄, e₃, e₂)
            (kept_put engine_room ws t (put (put t₁ FPARENT a b) FEDGE a i) FROOT i r tt k
            (kept_put engine_room ws t (put t₁ FPARENT a b) FEDGE a i tt f
            (kept_put engine_room ws t t₁ FPARENT a b tt f (kept_more engine_room (FPARENT ∷ FEDGE ∷ []) ws t t₁ tt rerooted.kept))));
        old_root = let q : froot_word t₄ i ≡ r = search (e₄, e₃, e₂, stores) in q ∙ old_root_is;
        older = λ j h.
            let w : j < max_terms = omega arith in
            let q : eqb j i ≡ false = ne_eqb j i (omega arith) in
            search (e₄, e₃, e₂, q, rerooted.kept.rest, stores);
        edge = search (e₄, e₃, e₂, stores);
        turned = λ x j.
            let o = rerooted.turned x j in
            let m = same_other x.up (way_within t s.sound a x j).1 (not_first x j) in
            record { parent = m.parent ∙ o.parent; edge = m.edge ∙ o.edge };
        others = λ x g n.
            let o = rerooted.others x g n in
            let m = same_other x g (λ q. n (inl q)) in
            record { parent = m.parent ∙ o.parent; edge = m.edge ∙ o.edge };
      }

-- ---- the two roots by the test of their sizes

pub united_second : (t : List ℕ) (ra rb i : ℕ) {u : List ℕ} {x y : ℕ} → x ≡ size_word t rb → y ≡ size_word t ra → x ≤ y →
    u ≡ united t rb ra i → u ≡ united t (child (size_word t) ra rb) (root (size_word t) ra rb) i
unfolding child root
united_second t ra rb i {u} p q h c =
    subst (λ (v : Bool). u ≡ united t (cond v rb ra) (cond v ra rb) i) (sym (le-leb (size_word t rb) (size_word t ra) (omega arith))) c

pub united_first : (t : List ℕ) (ra rb i : ℕ) {u : List ℕ} {x y : ℕ} → x ≡ size_word t rb → y ≡ size_word t ra → y < x →
    u ≡ united t ra rb i → u ≡ united t (child (size_word t) ra rb) (root (size_word t) ra rb) i
unfolding child root
united_first t ra rb i {u} p q h c =
    subst (λ (v : Bool). u ≡ united t (cond v rb ra) (cond v ra rb) i) (sym (lt-leb (size_word t rb) (size_word t ra) (omega arith))) c

-- ---- the forest with the new edge

-- the words of the forest after a splice, in a table where the new merge stands in the log
module _ {t s u : List ℕ} {m : Merge} (z : EngineSound t) (two : are_equal (merges t) m.a m.b ≡ false)
    (c : Spliced t s m.a m.b (merges# t)) (log : SameLog t u (merges# t)) (count : merges# u ≡ suc (merges# t))
    (new : merge_at u (merges# t) ≡ m) (f : (x : ℕ) → IsNode x → SameNode s u x) where
  W : ℕ → List Step
  W = way (merges t)

  F : Forest W
  unfolding W
  F = sound_forest t z

  new_just : just_at u (merges# t) ≡ m.just
  unfolding merge_at
  new_just = ap (λ (x : Merge). x.just) new

  -- the first side gets the new edge
  edge_first : (x : ℕ) → IsNode x → m.a ≡ x → FirstEdge u x (way (m ∷ merges t) x)
  unfolding W F
  edge_first x h e =
      subst (λ (y : ℕ). FirstEdge u y (way (m ∷ merges t) y)) e
      (subst (FirstEdge u m.a) (sym (first_side m (merges t) (two, sound_joins t z) F)) (
        (f m.a l).parent ∙ c.edge.0,
        subst (λ (k : ℕ). k < merges# u) (sym q) (omega arith),
        ap (just_at u) q ∙ new_just,
        subst (λ (k : ℕ). BothSides (merge_at u k) m.a m.b) (sym q)
            (subst (λ (k : Merge). BothSides k m.a m.b) (sym new) (inl (refl, refl))),
      ))
    where
      l : IsNode m.a
      l = subst IsNode (sym e) h

      q : fedge_word u m.a ≡ merges# t
      q = (f m.a l).edge ∙ c.edge.1

  -- the edges above the first side are turned
  edge_turned : (x : ℕ) → IsNode x → Below W F x m.a → FirstEdge u x (way (m ∷ merges t) x)
  unfolding W F
  edge_turned x h (v, s', w, i, p, e) =
      let first : In s' (W v) = subst (λ (y : List Step). In s' y) (sym p) (inl refl) in
      let o = c.turned s' (subst (λ (y : List Step). In s' y) (sym (split W F v m.a i))
      (in_right s' (before v (W m.a)) (W v) first)) in
      let q : s'.node ≡ v = (F v s' w p).0 in
      let (a, b, j, d) = subst (FirstEdge t v) p (z.forest v (subst IsNode q (way_within t z v s' first).0)) in
      let k = merge_at t (fedge_word t v) in
      subst (FirstEdge u x) (sym (ap (way (m ∷ merges t)) (sym e) ∙ turned_above m (merges t) (two, sound_joins t z) F v s' w i p))
      (edge_words (back s') (way (m ∷ merges t) v) log b (omega arith)
      ((f x h).parent ∙ ap (fparent_word s) (sym e) ∙ o.parent)
      ((f x h).edge ∙ ap (fedge_word s) (sym e) ∙ o.edge ∙ ap (fedge_word t) q)
      j
      (subst (λ (n : ℕ). BothSides k x n) (sym q) (subst (λ (n : ℕ). BothSides k n v) e (turned_sides k v s'.up d))))

  -- all others stay
  edge_other : (x : ℕ) → IsNode x → (Above W x m.a → ⊥) → (w : List Step) → W x ≡ w → FirstEdge u x (way (m ∷ merges t) x)
  unfolding W F
  edge_other x h n [] p =
      subst (FirstEdge u x) (sym (other_root m (merges t) (two, sound_joins t z) F x n p))
      ((f x h).parent ∙ (c.others x h n).parent ∙ subst (FirstEdge t x) p (z.forest x h))
  edge_other x h n (s' ∷ w) p =
      let (a, b, j, d) = subst (FirstEdge t x) p (z.forest x h) in
      let o = c.others x h n in
      subst (FirstEdge u x) (sym (other_stays m (merges t) (two, sound_joins t z) F x s' w n p))
      (edge_words s' (way (m ∷ merges t) s'.up) log b (omega arith) ((f x h).parent ∙ o.parent ∙ a) ((f x h).edge ∙ o.edge) j d)

  spliced_forest : (x : ℕ) → IsNode x → FirstEdge u x (way (m ∷ merges t) x)
  unfolding W F
  spliced_forest x h = go (above? W F x m.a) (ℕ_discrete m.a x)
    where
      go : Dec (Above W x m.a) → Dec (m.a ≡ x) → FirstEdge u x (way (m ∷ merges t) x)
      go (no n) d = edge_other x h n (W x) refl
      go (yes i) (yes e) = edge_first x h e
      go (yes i) (no n) = edge_turned x h (below W F x m.a i n)

-- ---- all steps together

-- what stands in u after the stores of entry n, by which the root `under` goes under the root `over`
record Written (s u : List ℕ) (n under over a b w v e : ℕ) : Type 0 where
  long : engine_size ≤ length u
  count : merges# u ≡ n + 1
  level : level_word u ≡ level_word s
  parents : (x : ℕ) → IsNode x → parent_word u x ≡ cond (eqb x under) over (parent_word s x)
  sizes : (x : ℕ) → IsNode x → size_word u x ≡ cond (eqb x over) (size_word s under + size_word s over) (size_word s x)
  nodes : (x : ℕ) → IsNode x → SameNode s u x
  side_a : a_word u n ≡ a
  side_b : b_word u n ≡ b
  label_now : label_word u n ≡ w
  value_now : value_word u n ≡ v
  child_now : child_word u n ≡ under
  froot_now : froot_word u n ≡ froot_word s n
  after_now : after_word u n ≡ e
  older : (j : ℕ) → j < n → SameEntry s u j
  pairs : (j : ℕ) → j < max_pairs → (left_word u j ≡ left_word s j) × (right_word u j ≡ right_word s j)
  same_index : SameIndex s u

written : {s u : List ℕ} {n under over a b w v e : ℕ} → engine_size ≤ length s → n < max_terms → IsNode under → IsNode over →
    u ≡ put (logged (united s under over n) n a b w v e) COUNTS MERGES (n + 1) → Written s u n under over a b w v e
unfolding united logged
written {n = n} l k p q f = record {
  long = search (f, stores);
  count = search (f, stores);
  level = search (f, stores);
  parents = λ x h. search (f, stores);
  sizes = λ x h. search (f, stores);
  nodes = λ x h. search (f, stores);
  side_a = search (f, stores);
  side_b = search (f, stores);
  label_now = search (f, stores);
  value_now = search (f, stores);
  child_now = search (f, stores);
  froot_now = search (f, stores);
  after_now = search (f, stores);
  older = λ j h. let g : j < max_terms = omega arith in let d : eqb j n ≡ false = ne_eqb j n (omega arith) in search (f, d, stores);
  pairs = λ j h. search (f, stores);
  same_index = record {
    count = search (f, stores);
    left = λ j h. search (f, stores);
    right = λ j h. search (f, stores);
    heads = λ x h. search (f, stores);
  };
}

module _ {t t₁ : List ℕ} {a b kind h v e ra rb : ℕ} (J : Joinable t a b kind h v e) (fa : ra ≡ find (merges t) a)
    (fb : rb ≡ find (merges t) b) (c : Spliced t t₁ a b (merges# t)) where
  m : Merge
  m = record { a = a; b = b; just = label t kind h v e; level = level_word t }

  sizes_then : (x : ℕ) → IsNode x → size_word t₁ x ≡ (classes (merges t)).size x
  sizes_then x l = c.kept.rest SIZE x tt l ∙ J.sound.sizes x l

  root_a : IsNode ra
  root_a = subst IsNode (sym fa) (find_within max_terms (merges t) (merges_within t J.sound) a J.nodes.0)

  root_b : IsNode rb
  root_b = subst IsNode (sym fb) (find_within max_terms (merges t) (merges_within t J.sound) b J.nodes.1)

  child_is : child (size_word t₁) ra rb ≡ child_of (merges t) m
  unfolding child child_of find m
  child_is = rw (sizes_then ra root_a, sizes_then rb root_b, fa, fb)

  root_is : root (size_word t₁) ra rb ≡ root_of (merges t) m
  unfolding root root_of find m
  root_is = rw (sizes_then ra root_a, sizes_then rb root_b, fa, fb)

  child_node : IsNode (child_of (merges t) m)
  unfolding m
  child_node = child_within max_terms m (merges t) (merges_within t J.sound) J.nodes

  root_node : IsNode (root_of (merges t) m)
  unfolding m
  root_node = root_within max_terms m (merges t) (merges_within t J.sound) J.nodes

  module _ {u : List ℕ} (w : Written t₁ u (merges# t) (child_of (merges t) m) (root_of (merges t) m) a b
      (label_code (level_word t) kind h) v e) where
    same_log : SameLog t u (merges# t)
    same_log = record {
      entries = λ j g.
          let f = J.sound.fewer in
          let k : j < max_terms = omega arith in
          let n = w.older j g in
          let o = c.older j g in
          search (n.a, n.b, n.label, n.value, n.child, n.froot, n.after, o, c.kept.rest, tt);
      pairs = λ i g j k.
          let l : j < max_pairs = let f = (J.sound.entries i g).fit.1 in omega arith in
          let n = w.pairs j l in
          search (n.0, n.1, c.kept.rest, tt);
    }

    code : kind_of (label_word u (merges# t)) ≡ kind
    code = ap kind_of w.label_now ∙ kind_is (level_word t) kind h J.known J.theory

    just_now : just_at u (merges# t) ≡ label t kind h v e
    unfolding just_at
    just_now =
        ap₂ (λ (k g : ℕ). label u k g (value_word u (merges# t)) (after_word u (merges# t))) code
        (ap theory_of w.label_now ∙ theory_is (level_word t) kind h J.known J.theory)
        ∙ ap₂ (label u kind h) w.value_now w.after_now
        ∙ label_same t u kind h v e (λ j l.
        let k : j < max_pairs = let f = J.fit in omega arith in
        let n = w.pairs j k in
        search (n.0, n.1, c.kept.rest, tt))

    start_now : pairs_start u (merges# t) ≡ begins kind v e
    unfolding pairs_start
    start_now =
        ap (λ (k : ℕ). begins k (value_word u (merges# t)) (after_word u (merges# t))) code ∙ ap₂ (begins kind) w.value_now
        w.after_now

    merge_now : merge_at u (merges# t) ≡ m
    unfolding merge_at m
    merge_now =
        let j = just_now in
        let l : level_of (label_word u (merges# t)) ≡ level_word t = ap level_of w.label_now ∙ level_is (level_word t) kind h
        J.known J.theory in
        λ n. record { a = w.side_a n; b = w.side_b n; just = j n; level = l n }

    parents_now : (x : ℕ) → IsNode x → parent_word u x ≡ parent (m ∷ merges t) x
    unfolding parent
    parents_now x l = w.parents x l ∙ ap (cond (eqb x (child_of (merges t) m)) (root_of (merges t) m))
        (c.kept.rest PARENT x tt l ∙ J.sound.parents x l)

    sizes_now : (x : ℕ) → IsNode x → size_word u x ≡ (classes (m ∷ merges t)).size x
    sizes_now x l =
        w.sizes x l
        ∙ ap₂ (cond (eqb x (root_of (merges t) m)))
        (ap₂ ◌+◌ (sizes_then (child_of (merges t) m) child_node) (sizes_then (root_of (merges t) m) root_node))
        (sizes_then x l)
        ∙ sym (size_more m (merges t) x)

    index_then : SameIndex t u
    index_then =
        let r = c.kept.rest in
        let s = w.same_index in
        record {
          count = s.count ∙ r INDEXED 0 tt (lit< tt);
          left = λ j l. s.left j l ∙ r LEFT j tt l;
          right = λ j l. s.right j l ∙ r RIGHT j tt l;
          heads = λ x l. s.heads x l ∙ r HEAD x tt l;
        }

    -- the pairs of the label end where those in force do then
    pairs_then : pairs_in_force (m ∷ merges t) ≡ e
    unfolding m
    pairs_then =
        let s = J.start in
        let l = label_length t kind h v e J.ordered in
        let p = pairs_more m (merges t) in
        omega arith

    grown : Grown t u m
    unfolding m
    grown = record {
      long = w.long;
      count = w.count ∙ add-one (merges# t);
      level = w.level ∙ c.kept.rest COUNTS LEVEL tt (lit< tt);
      log = same_log;
      new = merge_now;
      now = refl;
      nodes = J.nodes;
      two = J.two;
      pairs = J.pairs;
      child = w.child_now;
      froot = w.froot_now ∙ c.old_root;
      start = start_now ∙ J.start;
      fit = let s = start_now in let r = w.after_now in let o = J.ordered in let f = J.fit in (omega arith, omega arith);
      parents = parents_now;
      sizes = sizes_now;
      forest = spliced_forest J.sound J.two c same_log (w.count ∙ add-one (merges# t)) merge_now w.nodes;
      indexed = index_kept J.sound.indexed index_then;
      covers = let k = index_then.count in let f = J.indexed in let p = pairs_then in omega arith;
    }

-- the label of the words is the new merge's, at the present level
joined_by : {t t₁ t₂ t₃ u : List ℕ} {a b kind h v e ra rb i l : ℕ} → Joinable t a b kind h v e → i ≡ merges# t → l ≡ level_word t →
    ra ≡ find (merges t) a → rb ≡ find (merges t) b → Spliced t t₁ a b i → t₂ ≡ united t₁ (child (size_word t₁) ra rb)
    (root (size_word t₁) ra rb) i → t₃ ≡ logged t₂ i a b (label_code l kind h) v e → u ≡ put t₃ COUNTS MERGES (i + 1) → Engine u
    (record { a = a; b = b; just = label t kind h v e; level = level_word t } ∷ merges t) (level_word t)
unfolding m
joined_by {t} {t₁} {t₂} {t₃} {u} {a} {b} {kind} {h} {v} {e} {ra} {rb} {i} {l} J p q fa fb s e₂ e₃ e₄ =
    let c = subst (Spliced t t₁ a b) p s in
    let z = J.sound in
    let long : engine_size ≤ length t₁ = let k = c.kept.long in let n = z.long in omega arith in
    let n = child_is J fa fb c in
    let o = root_is J fa fb c in
    let stored = e₄ ∙ ap (λ (y : List ℕ). put y COUNTS MERGES (i + 1))
    (e₃ ∙ ap (λ (y : List ℕ). logged y i a b (label_code l kind h) v e) e₂) in
    let w : Written t₁ u (merges# t) (child_of (merges t) (m J fa fb c)) (root_of (merges t) (m J fa fb c)) a b
    (label_code (level_word t) kind h) v e =
    written long z.fewer (child_node J fa fb c) (root_node J fa fb c) (rw (← n, ← o, ← p, ← q) stored) in
    let g = grown J fa fb c w in
    record { sound = grown_sound z g; log = grown_merges z g; at_level = g.level }

-- the words of a label that may join two classes fit
pub entry_fits : {t : List ℕ} {a b i l n : ℕ} {g : EdgeLabel.EdgeLabel} {w : LabelWords.LabelWords} → Joins t a b g → HoldsLabel g l n w →
    n ≡ pairs_in_force (merges t) → i ≡ merges# t → l ≤ max_levels → Entry i a b w
entry_fits {g = g} J H m p h =
    let z = J.sound in
    let f = z.fewer in
    let k = J.known in
    let y = J.theory in
    let c = H.code in
    let v = H.value in
    let j = J.value in
    let o = H.after ∙ ap (label_after g) m in
    let e = J.fit in
    record {
      entry = omega arith;
      first = J.nodes.0;
      second = J.nodes.1;
      code = omega arith;
      value = omega arith;
      after = omega arith;
    }

-- and the words are those of a label
pub joined : {t t₁ t₂ t₃ u : List ℕ} {a b ra rb i l n : ℕ} {g : EdgeLabel.EdgeLabel} {w : LabelWords.LabelWords} → Joins t a b g →
    HoldsLabel g l n w → n ≡ pairs_in_force (merges t) → i ≡ merges# t → l ≡ level_word t → ra ≡ find (merges t) a →
    rb ≡ find (merges t) b → Spliced t t₁ a b i → t₂ ≡ united t₁ (child (size_word t₁) ra rb) (root (size_word t₁) ra rb) i →
    t₃ ≡ logged t₂ i a b w.code w.value w.after → u ≡ put t₃ COUNTS MERGES (i + 1) →
    Engine u (record { a = a; b = b; just = just_of t g; level = level_word t } ∷ merges t) (level_word t)
joined {t₂ = t₂} {t₃} {a = a} {b} {i = i} {l} {g = g} {w} J H m p q fa fb s e₂ e₃ e₄ =
    let o = H.after ∙ ap (label_after g) m in
    joined_by J p q fa fb s e₂ (rw (H.code, H.value, o) at e₃) e₄

-- two classes have fewer terms than a word holds
pub classes_fit : {t t₁ : List ℕ} {a b i ra rb : ℕ} → EngineSound t → i ≡ merges# t → Spliced t t₁ a b i → IsNode ra → IsNode rb →
    TwoClasses t₁ ra rb i
classes_fit {t} {t₁} {a} {b} {i} {ra} {rb} z k c h g =
    let p : size_word t₁ ra ≡ (classes (merges t)).size ra = c.kept.rest SIZE ra tt h ∙ z.sizes ra h in
    let q : size_word t₁ rb ≡ (classes (merges t)).size rb = c.kept.rest SIZE rb tt g ∙ z.sizes rb g in
    let f = z.fewer in
    let l = merges_length t in
    let n = c.kept.long in
    let o = z.long in
    record {
      long = omega arith;
      first = h;
      second = g;
      entry = omega arith;
      fit = omega (arith, size_bound (merges t) (sound_joins t z) ra, size_bound (merges t) (sound_joins t z) rb);
    }
