-- When another table is sound: one that keeps the first merges of a sound one, with the classes and the forest of these; one with another
-- level; one with one more merge.
use Rattle.shinri_core.proofs.Kit.{ℕ, suc, ◌+◌, ◌≤◌, ◌<◌, ◌≡◌, refl, sym, subst, ap, ap₂, ◌∙◌, inl, inr, false, List, [], ◌∷◌, arith, dec_le, add-one, length}
use Rattle.shinri_core.specs.Limits.{max_terms, max_pairs, max_levels}
use Rattle.shinri_core.specs.Lists.{In}
use Rattle.shinri_core.specs.Memory.Words.{put}
use Rattle.theory.specs.EqEngine.{Merge, classes, are_equal, pairs_of, pairs_in_force, Step, way}
use Rattle.theory.specs.Memory.Replay.{IsNode, child_of, parent, end, BothSides, Justified, EqualPairs}
use Rattle.theory.specs.Memory.Table.{engine_size, COUNTS, LEVEL, merges#, level_word, parent_word, size_word, fparent_word, fedge_word, a_word, b_word, label_word, child_word, froot_word, after_word, level_of, just_at, merge_at, pairs_start, merges_below, merges, FirstEdge, EntrySound, indexed#, PairsSound, EngineSound, Engine}
use Rattle.theory.specs.Memory.Steps.{SameEntry, SamePairs, SameLog, SameNode}
use Rattle.theory.proofs.Classes.{Suffix, in_suffix}
use Rattle.theory.proofs.Explain.{justified_joins, justified_suffix}
use Rattle.theory.proofs.Sizes.{Within, merges_fewer}
use Rattle.theory.proofs.Memory.EngineStores.{stores}
use Rattle.theory.proofs.Memory.PairIndex.{SameIndex, index_kept}
use Rattle.theory.proofs.Memory.Log.{just_same, merge_same, start_same, log_shorter, below_same, below_suffix, merges_length, merges_within}

-- ---- first edges

-- the first edge of a node, by its words and an entry of the log that was there
pub edge_words : {t u : List ℕ} {n x e : ℕ} (s : Step) (w : List Step) → SameLog t u n → e < n → e < merges# u →
    fparent_word u x ≡ s.up → fedge_word u x ≡ e → just_at t e ≡ s.just → BothSides (merge_at t e) x s.up → FirstEdge u x (s ∷ w)
edge_words {t} {u} {n} {x} {e} s w g h l p q j b =
    let je = just_same t u e (g.entries e h) (g.pairs e h) in
    let me = merge_same t u e (g.entries e h) (g.pairs e h) in (
      p,
      omega arith,
      ap (just_at u) q ∙ je ∙ j,
      subst (λ (k : ℕ). BothSides (merge_at u k) x s.up) (sym q) (subst (λ (m : Merge). BothSides m x s.up) (sym me) b),
    )

-- a first edge stays where its words and the log do
pub edge_kept : {t u : List ℕ} {x : ℕ} (w : List Step) → SameLog t u (merges# t) → merges# t ≤ merges# u → SameNode t u x →
    FirstEdge t x w → FirstEdge u x w
edge_kept [] g c k e = k.parent ∙ e
edge_kept (s ∷ w) g c k (f, l, j, b) = edge_words s w g l (omega arith) (k.parent ∙ f) k.edge j b

-- ---- the first merges

-- an entry stays sound where it and those before it stay
entry_same : {t u : List ℕ} {i : ℕ} → SameLog t u i → SameEntry t u i → SamePairs t u (after_word t i) → EntrySound t i → EntrySound u i
entry_same {t} {u} {i} log s p z =
    let older = sym (below_same t u i log) in
    let a = s.a in
    let b = s.b in
    let start = start_same t u i s in
    let after = s.after in
    let nodes = z.nodes in
    let fit = z.fit in
    record {
      nodes = (omega arith, omega arith);
      child = s.child ∙ z.child ∙ ap₂ child_of older (sym (merge_same t u i s p));
      froot = s.froot ∙ z.froot ∙ ap₂ (λ (ms : List Merge) (x : ℕ). end x (way ms x)) older (sym a);
      start = start ∙ z.start ∙ ap pairs_in_force older;
      fit = (omega arith, omega arith);
    }

-- what the first n merges of t ask of u
pub record Shortened (t u : List ℕ) (n : ℕ) : Type 0 where
  pub long : engine_size ≤ length u
  pub fewer : n ≤ merges# t
  pub count : merges# u ≡ n
  pub log : SameLog t u n
  pub levels_fit : level_word u ≤ max_levels
  pub levels : (i : ℕ) → i < n → level_of (label_word t i) ≤ level_word u
  pub parents : (x : ℕ) → IsNode x → parent_word u x ≡ parent (merges_below t n) x
  pub sizes : (x : ℕ) → IsNode x → size_word u x ≡ (classes (merges_below t n)).size x
  pub forest : (x : ℕ) → IsNode x → FirstEdge u x (way (merges_below t n) x)
  pub indexed : PairsSound u (indexed# u)
  pub covers : pairs_in_force (merges_below t n) ≤ indexed# u

module _ {t u : List ℕ} {n : ℕ} (z : EngineSound t) (s : Shortened t u n) where
  pub shorter_merges : merges u ≡ merges_below t n
  unfolding merges
  shorter_merges = ap (merges_below u) s.count ∙ below_same t u n s.log

  there : (i : ℕ) → i < merges# u → i < n
  there i h = subst (λ (k : ℕ). i < k) s.count h

  inside : (i : ℕ) → i < n → i < merges# t
  inside i h = let f = s.fewer in omega arith

  suffix : Suffix (merges_below t n) (merges t)
  unfolding merges
  suffix = below_suffix t n (merges# t) s.fewer

  level_same : (i : ℕ) → i < n → level_of (label_word u i) ≡ level_of (label_word t i)
  level_same i h = ap level_of (s.log.entries i h).label

  pub shorter_sound : EngineSound u
  shorter_sound = record {
    long = s.long;
    fewer = let f = s.fewer in let c = s.count in let g = z.fewer in omega arith;
    justified = subst Justified (sym shorter_merges) (justified_suffix (merges_below t n) (merges t) suffix z.justified);
    pair_nodes = λ m i p j.
        z.pair_nodes m (in_suffix (merges_below t n) (merges t) m suffix (subst (λ (ms : List Merge). In m ms) shorter_merges i)) p j;
    entries = λ i h. let k = there i h in entry_same (log_shorter t u n i (omega arith) s.log) (s.log.entries i k)
        (s.log.pairs i k) (z.entries i (inside i k));
    levels_fit = s.levels_fit;
    levels = λ i h. let k = there i h in let e = level_same i k in let f = s.levels i k in omega arith;
    levels_rise = λ i h.
        let k = there (suc i) h in
        let e = level_same i (omega arith) in
        let g = level_same (suc i) k in
        let f = z.levels_rise i (inside (suc i) k) in
        omega arith;
    parents = λ x h. s.parents x h ∙ sym (ap (λ (ms : List Merge). parent ms x) shorter_merges);
    sizes = λ x h. s.sizes x h ∙ sym (ap (λ (ms : List Merge). (classes ms).size x) shorter_merges);
    forest = λ x h. subst (FirstEdge u x) (sym (ap (λ (ms : List Merge). way ms x) shorter_merges)) (s.forest x h);
    indexed = s.indexed;
    covers = let e = ap pairs_in_force shorter_merges in let f = s.covers in omega arith;
  }

-- ---- the level alone

-- another level, not below that of any merge
module _ {t u : List ℕ} {v : ℕ} (z : EngineSound t) (e : u ≡ put t COUNTS LEVEL v) (f : v ≤ max_levels)
    (g : (i : ℕ) → i < merges# t → level_of (label_word t i) ≤ v) where
  level_now : level_word u ≡ v
  level_now = let l = z.long in search (e, stores)

  same_log : SameLog t u (merges# t)
  same_log = record {
    entries = λ i h. let w : i < max_terms = let k = z.fewer in omega arith in search (e, stores);
    pairs = λ i h j k. let w : j < max_pairs = let l = (z.entries i h).fit.1 in omega arith in search (e, stores);
  }

  same_index : SameIndex t u
  same_index =
      let l = z.long in
      record {
        count = search (e, stores);
        left = λ j h. search (e, stores);
        right = λ j h. search (e, stores);
        heads = λ x h. search (e, stores);
      }

  levelled : Shortened t u (merges# t)
  unfolding merges
  levelled =
      let l = z.long in
      let c : merges# u ≡ merges# t = search (e, stores) in
      let q = level_now in
      record {
        long = search (e, stores);
        fewer = omega arith;
        count = c;
        log = same_log;
        levels_fit = omega arith;
        levels = λ i h. let k = g i h in omega arith;
        parents = λ x h. let k : parent_word u x ≡ parent_word t x = search (e, stores) in k ∙ z.parents x h;
        sizes = λ x h. let k : size_word u x ≡ size_word t x = search (e, stores) in k ∙ z.sizes x h;
        forest = λ x h. edge_kept (way (merges t) x) same_log (omega arith) (search (e, stores)) (z.forest x h);
        indexed = index_kept z.indexed same_index;
        covers = let k = same_index.count in let f = z.covers in omega arith;
      }

  pub level_put : Engine u (merges t) v
  unfolding merges
  level_put = record { sound = shorter_sound z levelled; log = shorter_merges z levelled; at_level = level_now }

pub pushed : {t u : List ℕ} {n : ℕ} → EngineSound t → level_word t < max_levels → n ≡ level_word t → u ≡ put t COUNTS LEVEL (n + 1) →
    Engine u (merges t) (suc (level_word t))
pushed {t} {u} {n} z h e f =
    let g = level_put z f (omega arith) (λ i l. let k = z.levels i l in omega arith) in
    record { sound = g.sound; log = g.log; at_level = g.at_level ∙ add-one n ∙ ap suc e }

-- ---- one more merge

-- below one more: older, or the new one
cases : (P : ℕ → Type 0) (n : ℕ) → ((i : ℕ) → i < n → P i) → P n → (i : ℕ) → i < suc n → P i
cases P n f p i h = go (dec_le n i)
  where
    go : Dec (n ≤ i) → P i
    go (yes l) = let e : n ≡ i = omega arith in subst P e p
    go (no l) = f i (omega arith)

-- what t with one more merge m asks of u
pub record Grown (t u : List ℕ) (m : Merge) : Type 0 where
  pub long : engine_size ≤ length u
  pub count : merges# u ≡ suc (merges# t)
  pub level : level_word u ≡ level_word t
  pub log : SameLog t u (merges# t)
  pub new : merge_at u (merges# t) ≡ m
  pub now : m.level ≡ level_word t
  pub nodes : IsNode m.a × IsNode m.b
  pub two : are_equal (merges t) m.a m.b ≡ false
  pub pairs : EqualPairs (merges t) (pairs_of m.just)
  pub child : child_word u (merges# t) ≡ child_of (merges t) m
  pub froot : froot_word u (merges# t) ≡ end m.a (way (merges t) m.a)
  pub start : pairs_start u (merges# t) ≡ pairs_in_force (merges t)
  pub fit : (pairs_start u (merges# t) ≤ after_word u (merges# t)) × (after_word u (merges# t) ≤ max_pairs)
  pub parents : (x : ℕ) → IsNode x → parent_word u x ≡ parent (m ∷ merges t) x
  pub sizes : (x : ℕ) → IsNode x → size_word u x ≡ (classes (m ∷ merges t)).size x
  pub forest : (x : ℕ) → IsNode x → FirstEdge u x (way (m ∷ merges t) x)
  pub indexed : PairsSound u (indexed# u)
  pub covers : pairs_in_force (m ∷ merges t) ≤ indexed# u

module _ {t u : List ℕ} {m : Merge} (z : EngineSound t) (g : Grown t u m) where
  -- all merges but the new one
  rest : merges_below u (merges# t) ≡ merges t
  unfolding merges
  rest = below_same t u (merges# t) g.log

  pub grown_merges : merges u ≡ m ∷ merges t
  unfolding merges merges_below
  grown_merges = ap (merges_below u) g.count ∙ ap₂ (λ (x : Merge) (xs : List Merge). x ∷ xs) g.new rest

  new_level : level_of (label_word u (merges# t)) ≡ level_word t
  unfolding merge_at
  new_level = ap (λ (x : Merge). x.level) g.new ∙ g.now

  side_a : a_word u (merges# t) ≡ m.a
  unfolding merge_at
  side_a = ap (λ (x : Merge). x.a) g.new

  side_b : b_word u (merges# t) ≡ m.b
  unfolding merge_at
  side_b = ap (λ (x : Merge). x.b) g.new

  justified_now : Justified (m ∷ merges t)
  justified_now = (g.two, (λ p i. (g.pairs p i).0), z.justified)

  within_now : Within max_terms (m ∷ merges t)
  within_now k (inl e) = subst (λ (x : Merge). IsNode x.a × IsNode x.b) (sym e) g.nodes
  within_now k (inr i) = merges_within t z k i

  pair_nodes_now : (k : Merge) → In k (m ∷ merges t) → (p : ℕ × ℕ) → In p (pairs_of k.just) → IsNode p.0 × IsNode p.1
  pair_nodes_now k (inl e) p j = let q = g.pairs p (subst (λ (x : Merge). In p (pairs_of x.just)) e j) in (q.1, q.2)
  pair_nodes_now k (inr i) p j = z.pair_nodes k i p j

  -- a fact of every merge, from those before and the new one
  every_merge : (P : ℕ → Type 0) → ((i : ℕ) → i < merges# t → P i) → P (merges# t) → (i : ℕ) → i < merges# u → P i
  every_merge P f p i h = cases P (merges# t) f p i (subst (λ (k : ℕ). i < k) g.count h)

  level_kept : (i : ℕ) → i < merges# t → level_of (label_word u i) ≡ level_of (label_word t i)
  level_kept i h = ap level_of (g.log.entries i h).label

  rises : (i j : ℕ) → j < merges# u → suc i ≡ j → level_of (label_word u i) ≤ level_of (label_word u j)
  rises i = every_merge (λ k. suc i ≡ k → level_of (label_word u i) ≤ level_of (label_word u k))
      (λ k l p.
      let a = level_kept i (omega arith) in
      let b = level_kept k l in
      let f = z.levels_rise i (omega arith) in
      let d = ap (λ (x : ℕ). level_of (label_word t x)) p in
      omega arith)
      (λ p. let a = level_kept i (omega arith) in let b = new_level in let f = z.levels i (omega arith) in omega arith)

  pub grown_sound : EngineSound u
  grown_sound =
      record {
        long = g.long;
        fewer =
            let c = g.count in
            let l = merges_length t in
            let f = merges_fewer max_terms (m ∷ merges t) (omega arith) (justified_joins (m ∷ merges t) justified_now) within_now in
            omega arith;
        justified = subst Justified (sym grown_merges) justified_now;
        pair_nodes = λ k i p j. pair_nodes_now k (subst (λ (ms : List Merge). In k ms) grown_merges i) p j;
        entries = every_merge (EntrySound u)
            (λ i h. entry_same (log_shorter t u (merges# t) i (omega arith) g.log) (g.log.entries i h) (g.log.pairs i h)
            (z.entries i h))
            (record {
              nodes = let f = g.nodes in let a = side_a in let b = side_b in (omega arith, omega arith);
              child = g.child ∙ ap₂ child_of (sym rest) (sym g.new);
              froot = g.froot ∙ ap₂ (λ (ms : List Merge) (a : ℕ). end a (way ms a)) (sym rest) (sym side_a);
              start = g.start ∙ ap pairs_in_force (sym rest);
              fit = g.fit;
            });
        levels_fit = let l = g.level in let f = z.levels_fit in omega arith;
        levels = every_merge (λ i. level_of (label_word u i) ≤ level_word u)
            (λ i h. let e = level_kept i h in let f = z.levels i h in let l = g.level in omega arith)
            (let e = new_level in let l = g.level in omega arith);
        levels_rise = λ i h. rises i (suc i) h refl;
        parents = λ x h. g.parents x h ∙ sym (ap (λ (ms : List Merge). parent ms x) grown_merges);
        sizes = λ x h. g.sizes x h ∙ sym (ap (λ (ms : List Merge). (classes ms).size x) grown_merges);
        forest = λ x h. subst (FirstEdge u x) (sym (ap (λ (ms : List Merge). way ms x) grown_merges)) (g.forest x h);
        indexed = g.indexed;
        covers = let e = ap pairs_in_force grown_merges in let f = g.covers in omega arith;
      }
