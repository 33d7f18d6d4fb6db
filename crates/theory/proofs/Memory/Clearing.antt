-- A cleared table: each node alone, no merge, level 0.
use Rattle.shinri_core.proofs.Kit.{ℕ, ◌+◌, ◌≤◌, ◌<◌, ◌≡◌, refl, sym, subst, ap, ◌∙◌, false, List, [], arith, below_more, ne_eqb, eqb, length}
use Rattle.shinri_core.specs.Limits.{max_terms}
use Rattle.shinri_core.specs.Lists.{In, total}
use Rattle.shinri_core.specs.Memory.Words.{put}
use Rattle.theory.specs.EqEngine.{Merge, singletons, classes, pairs_in_force, way}
use Rattle.theory.specs.Memory.Replay.{IsNode, parent, Justified}
use Rattle.theory.specs.Memory.Table.{engine_size, COUNTS, MERGES, LEVEL, PARENT, SIZE, FPARENT, merges#, level_word, parent_word, size_word, fparent_word, merges_below, merges, FirstEdge, Engine}
use Rattle.theory.specs.Memory.Steps.{NoPairs}
use Rattle.theory.proofs.Memory.EngineStores.{stores}
use Rattle.theory.proofs.Memory.PairIndex.{empty_sound}

pub record Alone (t : List ℕ) (x : ℕ) : Type 0 where
  pub parent : parent_word t x ≡ x
  pub size : size_word t x ≡ 1
  pub fparent : fparent_word t x ≡ x

-- the counts are cleared and the first n nodes are alone
pub record Clearing (t₀ t : List ℕ) (n : ℕ) : Type 0 where
  pub same_length : length t ≡ length t₀
  pub long : engine_size ≤ length t
  pub count : merges# t ≡ 0
  pub level : level_word t ≡ 0
  pub pairs : NoPairs t
  pub alone : (x : ℕ) → x < n → Alone t x

pub clear_first : (t : List ℕ) {t₁ t₂ : List ℕ} → NoPairs t → t₁ ≡ put t COUNTS MERGES 0 → t₂ ≡ put t₁ COUNTS LEVEL 0 →
    Clearing t₂ t₂ 0
clear_first t z e₁ e₂ =
    let l = z.long in
    record {
      same_length = refl;
      long = search (e₂, e₁, stores);
      count = search (e₂, e₁, stores);
      level = search (e₂, e₁, stores);
      pairs = record {
        long = search (e₂, e₁, stores);
        none = search (e₂, e₁, z.none, stores);
        heads = λ x h. search (e₂, e₁, z.heads, stores);
      };
      alone = λ x h. absurd (omega arith);
    }

pub clear_next : {t₀ t u : List ℕ} {n : ℕ} → Clearing t₀ t n → IsNode n → u ≡ put (put (put t PARENT n n) SIZE n 1) FPARENT n n →
    Clearing t₀ u (n + 1)
clear_next {t₀} {t} {u} {n} c h e =
    let l = c.long in
    let k = c.same_length in
    record {
      same_length = search (e, stores);
      long = search (e, stores);
      count = search (e, c.count, stores);
      level = search (e, c.level, stores);
      pairs = record {
        long = search (e, stores);
        none = search (e, c.pairs.none, stores);
        heads = λ x g. search (e, c.pairs.heads, stores);
      };
      alone = below_more (Alone u) n old (search (e, stores));
    }
  where
    old : (x : ℕ) → x < n → Alone u x
    old x g =
        let l = c.long in
        let a = c.alone x g in
        let w : IsNode x = omega arith in
        let d : eqb x n ≡ false = ne_eqb x n (omega arith) in
        search (e, d, stores)

no_merges : (t : List ℕ) → merges# t ≡ 0 → merges t ≡ []
unfolding merges merges_below
no_merges t e = ap (merges_below t) e

pairs_empty : pairs_in_force [] ≡ 0
unfolding pairs_in_force total
pairs_empty = refl

pub clear_done : {t₀ t : List ℕ} {n : ℕ} → Clearing t₀ t n → max_terms ≤ n → Engine t [] 0
unfolding parent classes singletons way
clear_done {t₀} {t} c h =
    let m = no_merges t c.count in
    let z = c.count in
    let v = c.level in
    record {
      sound = record {
        long = c.long;
        fewer = omega arith;
        justified = subst Justified (sym m) tt;
        entries = λ i g. absurd (omega arith);
        pair_nodes = λ k i p j. absurd (subst (λ (ms : List Merge). In k ms) m i);
        levels_fit = omega arith;
        levels = λ i g. absurd (omega arith);
        levels_rise = λ i g. absurd (omega arith);
        parents = λ x g. (c.alone x (omega arith)).parent ∙ sym (ap (λ (ms : List Merge). parent ms x) m);
        sizes = λ x g. (c.alone x (omega arith)).size ∙ sym (ap (λ (ms : List Merge). (classes ms).size x) m);
        forest = λ x g. subst (FirstEdge t x) (sym (ap (λ (ms : List Merge). way ms x) m)) (c.alone x (omega arith)).fparent;
        indexed = empty_sound c.pairs;
        covers = let k = ap pairs_in_force m in let o = pairs_empty in omega arith;
      };
      log = m;
      at_level = c.level;
    }
