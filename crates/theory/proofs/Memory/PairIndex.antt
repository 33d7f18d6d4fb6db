-- The index of argument pairs: pairs of the same nodes in either order, looking for one, one more, the newest taken back.
use Rattle.shinri_core.proofs.Kit.{ℕ, suc, ◌+◌, ◌-◌, ◌*◌, ◌/◌, ◌%◌, ◌≤◌, ◌<◌, ◌≡◌, refl, sym, subst, ap, ap₂, ◌∙◌, ◌⊎◌, inl, inr, Bool, true, false, ◌&&◌, ◌||◌, true≢false, false≢true, List, arith, ℕ_discrete, le_antisymm, below_more, add-one, eq-eqb, eqb-true, eqb, lit<, length, replicate}
use Rattle.std.proofs.Common.{Some, None}
use Rattle.shinri_core.specs.Limits.{max_terms, max_pairs}
use Rattle.shinri_core.specs.Memory.Words.{at, put, put_all, Kept}
use Rattle.shinri_core.specs.Memory.Table.{newest, Indexed}
use Rattle.shinri_core.proofs.Memory.Stores.{kept_none, kept_put, other_place, length_put}
use Rattle.shinri_core.proofs.Memory.Index.{newest_found, indexed_more, indexed_less, indexed_same, Asking, ask_first, ask_next, ask_less}
use Rattle.theory.specs.EqEngine.{same_pair}
use Rattle.theory.specs.Memory.Table.{engine_size, LEFT, RIGHT, HEAD, INDEXED, engine_room, left_word, right_word, first_word, link_word, indexed#, pair_at, is_pair, pair_buckets, pair_bucket, pair_bucket_of, FirstsSound, PairsSound, EngineSound}
use Rattle.theory.specs.Memory.Steps.{pair_regions, SamePairs, NoPairs, PairAsked, FindsPair, FirstOf, PairLinkable, pair_linked, Addable, PairAdded, LastPair, Cuttable, PairsAddable, PairsCut, PairRoom, Copied}
use Rattle.theory.proofs.Memory.Filling.{filled}
use Rattle.theory.proofs.Memory.EngineStores as Engine
use Rattle.theory.proofs.Memory.EngineStores.{stores}

-- ---- pairs of the same nodes

-- two nodes are two others, in one of the orders
abbrev Alike : ℕ → ℕ → ℕ → ℕ → Type 0
Alike x y a b = ((x ≡ a) × (y ≡ b)) ⊎ ((x ≡ b) × (y ≡ a))

both_are : (x y a b : ℕ) → (eqb x a && eqb y b) ≡ true → (x ≡ a) × (y ≡ b)
both_are x y a b e = go (eqb x a) (eqb y b) refl refl e
  where
    go : (p q : Bool) → eqb x a ≡ p → eqb y b ≡ q → (p && q) ≡ true → (x ≡ a) × (y ≡ b)
    go true true p q i = (eqb-true x a p, eqb-true y b q)
    go true false p q i = absurd (false≢true i)
    go false c p q i = absurd (false≢true i)

are_both : (x y a b : ℕ) → x ≡ a → y ≡ b → (eqb x a && eqb y b) ≡ true
are_both x y a b p q = ap₂ ◌&&◌ (eq-eqb x a p) (eq-eqb y b q)

alike : (x y a b : ℕ) → same_pair x y (a, b) ≡ true → Alike x y a b
unfolding same_pair
alike x y a b e = go (eqb x a && eqb y b) refl e
  where
    go : (p : Bool) → (eqb x a && eqb y b) ≡ p → (p || (eqb x b && eqb y a)) ≡ true → Alike x y a b
    go true q i = inl (both_are x y a b q)
    go false q i = inr (both_are x y b a i)

alike_same : (x y a b : ℕ) → Alike x y a b → same_pair x y (a, b) ≡ true
unfolding same_pair
alike_same x y a b (inl (p, q)) = ap (λ (c : Bool). c || (eqb x b && eqb y a)) (are_both x y a b p q)
alike_same x y a b (inr (p, q)) = go (eqb x a && eqb y b) (are_both x y b a p q)
  where
    go : (c : Bool) {d : Bool} → d ≡ true → (c || d) ≡ true
    go true e = refl
    go false e = e

-- the same as a third pair, from either side
same_turned : (x y a b : ℕ) → same_pair x y (a, b) ≡ true → same_pair a b (x, y) ≡ true
same_turned x y a b e = alike_same a b x y (go (alike x y a b e))
  where
    go : Alike x y a b → Alike a b x y
    go (inl (p, q)) = inl (sym p, sym q)
    go (inr (p, q)) = inr (sym q, sym p)

same_through : (x y a b v w : ℕ) → same_pair x y (a, b) ≡ true → same_pair a b (v, w) ≡ true → same_pair x y (v, w) ≡ true
same_through x y a b v w e f = alike_same x y v w (go (alike x y a b e) (alike a b v w f))
  where
    go : Alike x y a b → Alike a b v w → Alike x y v w
    go (inl (p, q)) (inl (r, s)) = inl (p ∙ r, q ∙ s)
    go (inl (p, q)) (inr (r, s)) = inr (p ∙ r, q ∙ s)
    go (inr (p, q)) (inl (r, s)) = inr (p ∙ s, q ∙ r)
    go (inr (p, q)) (inr (r, s)) = inl (p ∙ s, q ∙ r)

same_bucket : (x y a b : ℕ) → same_pair x y (a, b) ≡ true → pair_bucket x y ≡ pair_bucket a b
same_bucket x y a b e = go (alike x y a b e)
  where
    go : Alike x y a b → pair_bucket x y ≡ pair_bucket a b
    go (inl (p, q)) = ap₂ pair_bucket p q
    go (inr (p, q)) = ap₂ pair_bucket p q ∙ ap (λ (s : ℕ). s % pair_buckets) (let c : b + a ≡ a + b = omega arith in c)

-- ---- looking for a pair

-- the pairs of bucket h from pair k on are not the one looked for
pub record Seeking (t : List ℕ) (x y h k : ℕ) : Type 0 where
  pub asks : PairAsked t x y
  pub hash : h ≡ pair_bucket x y
  pub asked : Asking (pair_bucket_of t) (λ j. is_pair t j (x, y)) h (indexed# t) k

module _ {t : List ℕ} (x y : ℕ) {h : ℕ} (z : PairAsked t x y) (e : h ≡ pair_bucket x y) where
  only : (j : ℕ) → j < indexed# t → is_pair t j (x, y) ≡ true → pair_bucket_of t j ≡ h
  only j l q = same_bucket (left_word t j) (right_word t j) x y q ∙ sym e

  pub seek_first : {k : ℕ} → k ≡ at t HEAD h → Seeking t x y h k
  seek_first q =
      let l : h < pair_buckets = omega arith in
      record { asks = z; hash = e; asked = ask_first z.indexed.index only l q }

module _ {t : List ℕ} {x y h k : ℕ} (w : Seeking t x y h k) where
  -- the word v of pair k - 1 has the link
  module _ {v : ℕ} {b : Bool} (d : k ≡ 0 → ⊥) (f : b ≡ is_pair t (k - 1) (x, y)) (n : b ≡ false) (e : v ≡ at t RIGHT (k - 1)) where
    q : v / max_terms ≡ link_word t (k - 1)
    q = ap (λ (w : ℕ). w / max_terms) e

    pub seek_next : Seeking t x y h (v / max_terms)
    seek_next =
        record {
          asks = w.asks;
          hash = w.hash;
          asked = ask_next w.asks.indexed.index (only x y w.asks w.hash) w.asked d q (sym f ∙ n);
        }

    pub seek_less : v / max_terms < k
    seek_less = ask_less w.asks.indexed.index (only x y w.asks w.hash) w.asked d q

  pub seek_found : {b : Bool} → (k ≡ 0 → ⊥) → b ≡ is_pair t (k - 1) (x, y) → b ≡ true → FindsPair t x y (Some (k - 1))
  seek_found d f q = let a = w.asked.within in (omega arith, sym f ∙ q)

  pub seek_missing : k ≡ 0 → FindsPair t x y None
  seek_missing q j l = w.asked.rest j (omega arith) l

-- ---- the first pair of the same nodes

module _ {t : List ℕ} {x y : ℕ} (z : PairAsked t x y) where
  pub first_none : {n : ℕ} → n ≡ indexed# t → FindsPair t x y None → FirstOf t x y n
  first_none e w =
      record {
        lower = omega arith;
        same = λ l. absurd (omega arith);
        one = λ j l p. absurd (true≢false (sym p ∙ w j l));
      }

  pub first_found : {k v : ℕ} → FindsPair t x y (Some k) → v ≡ at t LEFT k → FirstOf t x y (v / max_terms)
  first_found {k} {v} (l, here) r =
      let q = ap (λ (w : ℕ). w / max_terms) r in
      let s = z.indexed.firsts in
      let o = s.lower k l in
      record {
        lower = omega arith;
        same = λ g.
            rw q (same_through (left_word t (first_word t k)) (right_word t (first_word t k)) (left_word t k) (right_word t k) x y
            (s.same k l) here);
        one = λ j g p. s.one j k g l (same_through (left_word t j) (right_word t j) x y (left_word t k) (right_word t k) p
            (same_turned (left_word t k) (right_word t k) x y here)) ∙ sym q;
      }

-- two indexed pairs, one of the nodes a and b
module _ {t : List ℕ} (a b : ℕ) (z : EngineSound t) (j k : ℕ) (l : j < indexed# t) (m : k < indexed# t) where
  -- the other one has the same nodes if its first pair is the same
  pub first_alike : first_word t j ≡ first_word t k → is_pair t k (a, b) ≡ true → is_pair t j (a, b) ≡ true
  first_alike q o =
      let s = z.indexed.firsts in
      let f = first_word t k in
      let to_first = same_turned (left_word t (first_word t j)) (right_word t (first_word t j)) (left_word t j) (right_word t j)
      (s.same j l) in
      let as_first : is_pair t j (pair_at t f) ≡ true = subst (λ (i : ℕ). is_pair t j (pair_at t i) ≡ true) q to_first in
      same_through (left_word t j) (right_word t j) (left_word t k) (right_word t k) a b
      (same_through (left_word t j) (right_word t j) (left_word t f) (right_word t f) (left_word t k) (right_word t k) as_first (s.same k m)) o

  -- and the same first pair if its nodes are the same
  pub alike_first : is_pair t j (a, b) ≡ true → is_pair t k (a, b) ≡ true → first_word t j ≡ first_word t k
  alike_first o i =
      z.indexed.firsts.one j k l m (same_through (left_word t j) (right_word t j) a b (left_word t k) (right_word t k) o
      (same_turned (left_word t k) (right_word t k) a b i))

-- ---- words that agree

-- two tables agree on the words of pairs j and k
module _ (t u : List ℕ) (j k : ℕ) (l : (left_word u j ≡ left_word t j) × (right_word u j ≡ right_word t j))
    (m : (left_word u k ≡ left_word t k) × (right_word u k ≡ right_word t k)) where
  is_same : is_pair u j (pair_at u k) ≡ is_pair t j (pair_at t k)
  is_same =
      ap₂ (λ (x y : ℕ). same_pair x y (pair_at u k)) l.0 l.1
      ∙ ap₂ (λ (x y : ℕ). same_pair (left_word t j) (right_word t j) (x, y)) m.0 m.1

-- the index of n pairs stays where its words do
pub record SameIndex (t u : List ℕ) : Type 0 where
  pub count : indexed# u ≡ indexed# t
  pub left : (j : ℕ) → j < max_pairs → at u LEFT j ≡ at t LEFT j
  pub right : (j : ℕ) → j < max_pairs → at u RIGHT j ≡ at t RIGHT j
  pub heads : (h : ℕ) → h < pair_buckets → at u HEAD h ≡ at t HEAD h

-- n pairs stay indexed where their words and the heads of such an index do
record SameWords (t u : List ℕ) (n : ℕ) : Type 0 where
  left : (j : ℕ) → j < n → at u LEFT j ≡ at t LEFT j
  right : (j : ℕ) → j < n → at u RIGHT j ≡ at t RIGHT j

module _ {t u : List ℕ} {n : ℕ} (z : FirstsSound t n) (s : SameWords t u n) where
  words : (j : ℕ) → j < n → (left_word u j ≡ left_word t j) × (right_word u j ≡ right_word t j)
  words j l = (ap (λ (w : ℕ). w % max_terms) (s.left j l), ap (λ (w : ℕ). w % max_terms) (s.right j l))

  firsts : (j : ℕ) → j < n → first_word u j ≡ first_word t j
  firsts j l = ap (λ (w : ℕ). w / max_terms) (s.left j l)

  buckets_same : (j : ℕ) → j < n → pair_bucket_of u j ≡ pair_bucket_of t j
  buckets_same j l = ap₂ pair_bucket (words j l).0 (words j l).1

  links_same : (j : ℕ) → j < n → link_word u j ≡ link_word t j
  links_same j l = ap (λ (w : ℕ). w / max_terms) (s.right j l)

  firsts_are : (j : ℕ) → j < n → is_pair u (first_word u j) (pair_at u j) ≡ true
  firsts_are j l =
      let o = z.lower j l in
      ap (λ (k : ℕ). is_pair u k (pair_at u j)) (firsts j l)
      ∙ is_same t u (first_word t j) j (words (first_word t j) (omega arith)) (words j l) ∙ z.same j l

  one_first : (j k : ℕ) → j < n → k < n → is_pair u j (pair_at u k) ≡ true → first_word u j ≡ first_word u k
  one_first j k l m e =
      firsts j l ∙ z.one j k l m (sym (is_same t u j k (words j l) (words k m)) ∙ e) ∙ sym (firsts k m)

  firsts_kept : FirstsSound u n
  firsts_kept = record {
    lower = λ j l. let e = firsts j l in let o = z.lower j l in omega arith;
    same = firsts_are;
    one = one_first;
  }

pub index_kept : {t u : List ℕ} → PairsSound t (indexed# t) → SameIndex t u → PairsSound u (indexed# u)
index_kept {t} {u} z s =
    let f = z.fit in
    let w : SameWords t u (indexed# t) = record { left = λ j l. s.left j (omega arith); right = λ j l. s.right j (omega arith) } in
    let k = z.firsts in
    subst (PairsSound u) (sym s.count) (record {
      fit = z.fit;
      index = indexed_same z.index (buckets_same k w) s.heads (links_same k w);
      firsts = firsts_kept k w;
    })

-- ---- one more pair

ruleset writes = (tt, lit<, Engine.other, Engine.same, Engine.long, length_put, other_place)

-- what its stores leave
record PairWritten (t u : List ℕ) (n x y f : ℕ) : Type 0 where
  count : indexed# u ≡ suc n
  left_is : at u LEFT n ≡ max_terms * f + x
  right_is : at u RIGHT n ≡ max_terms * at t HEAD (pair_bucket x y) + y
  lefts : (j : ℕ) → j < max_pairs → (j ≡ n → ⊥) → at u LEFT j ≡ at t LEFT j
  rights : (j : ℕ) → j < max_pairs → (j ≡ n → ⊥) → at u RIGHT j ≡ at t RIGHT j
  head_is : at u HEAD (pair_bucket x y) ≡ suc n
  heads : (h : ℕ) → h < pair_buckets → (h ≡ pair_bucket x y → ⊥) → at u HEAD h ≡ at t HEAD h

pair_written : {t u : List ℕ} {n x y f : ℕ} → engine_size ≤ length t → n < max_pairs → u ≡ pair_linked t n x y f →
    PairWritten t u n x y f
unfolding pair_linked
pair_written {n = n} {x} {y} l r e =
    let b : pair_bucket x y < pair_buckets = omega arith in
    record {
      count = search (e, add-one, writes) depth 9;
      left_is = search (e, writes) depth 9;
      right_is = search (e, writes) depth 9;
      lefts = λ j g d. search (e, writes) depth 9;
      rights = λ j g d. search (e, writes) depth 9;
      head_is = search (e, add-one, writes) depth 9;
      heads = λ h g d. search (e, writes) depth 9;
    }

pair_frame : (t : List ℕ) {u : List ℕ} (n x y f : ℕ) → n < max_pairs → u ≡ pair_linked t n x y f → Kept engine_room pair_regions t u
unfolding pair_linked
pair_frame t {u} n x y f r e =
    let b : pair_bucket x y < pair_buckets = omega arith in
    let t₁ = put t LEFT n (max_terms * f + x) in
    let t₂ = put t₁ RIGHT n (max_terms * at t HEAD (pair_bucket x y) + y) in
    let t₃ = put t₂ HEAD (pair_bucket x y) (n + 1) in
    rw e
    (kept_put engine_room pair_regions t t₃ INDEXED 0 (n + 1) tt (lit< tt)
    (kept_put engine_room pair_regions t t₂ HEAD (pair_bucket x y) (n + 1) tt b
    (kept_put engine_room pair_regions t t₁ RIGHT n (max_terms * at t HEAD (pair_bucket x y) + y) tt r
    (kept_put engine_room pair_regions t t LEFT n (max_terms * f + x) tt r (kept_none engine_room pair_regions t)))))

module _ {t u : List ℕ} {x y f : ℕ} (a : Addable t x y) (o : FirstOf t x y f) (w : PairWritten t u (indexed# t) x y f) where
  z : FirstsSound t (indexed# t)
  z = a.asked.indexed.firsts

  old_words : SameWords t u (indexed# t)
  old_words =
      let r = a.room in
      record { left = λ j l. w.lefts j (omega arith) (omega arith); right = λ j l. w.rights j (omega arith) (omega arith) }

  old : (j : ℕ) → j < indexed# t → (left_word u j ≡ left_word t j) × (right_word u j ≡ right_word t j)
  old = words z old_words

  new : (left_word u (indexed# t) ≡ x) × (right_word u (indexed# t) ≡ y)
  new =
      let l = w.left_is in
      let r = w.right_is in
      let p = a.asked.first in
      let q = a.asked.second in
      (omega arith, omega arith)

  new_first : first_word u (indexed# t) ≡ f
  new_first = let l = w.left_is in let p = a.asked.first in omega arith

  new_link : link_word u (indexed# t) ≡ at t HEAD (pair_bucket x y)
  new_link = let r = w.right_is in let q = a.asked.second in omega arith

  new_bucket : pair_bucket_of u (indexed# t) ≡ pair_bucket x y
  new_bucket = ap₂ pair_bucket new.0 new.1

  new_index : Indexed (pair_bucket_of u) (at u HEAD) (link_word u) pair_buckets (suc (indexed# t))
  new_index =
      let b : pair_bucket x y < pair_buckets = omega arith in
      indexed_more a.asked.indexed.index (buckets_same z old_words) (rw new_bucket b)
      (ap (at u HEAD) new_bucket ∙ w.head_is) (λ h l d. w.heads h l (λ q. d (q ∙ sym new_bucket)))
      (new_link ∙ ap (at t HEAD) (sym new_bucket)) (links_same z old_words)

  -- an older pair against the new one
  against : (j : ℕ) → j < indexed# t → is_pair u j (pair_at u (indexed# t)) ≡ is_pair t j (x, y)
  against j l =
      ap₂ (λ (v w : ℕ). same_pair v w (pair_at u (indexed# t))) (old j l).0 (old j l).1
      ∙ ap₂ (λ (v w : ℕ). same_pair (left_word t j) (right_word t j) (v, w)) new.0 new.1

  -- the new pair's first pair has its nodes
  first_is : Dec (f ≡ indexed# t) → is_pair u (first_word u (indexed# t)) (pair_at u (indexed# t)) ≡ true
  first_is (yes e) =
      ap (λ (k : ℕ). is_pair u k (pair_at u (indexed# t))) (new_first ∙ e)
      ∙ alike_same (left_word u (indexed# t)) (right_word u (indexed# t)) (left_word u (indexed# t)) (right_word u (indexed# t))
      (inl (refl, refl))
  first_is (no d) =
      let l = o.lower in
      let g : f < indexed# t = omega arith in
      ap (λ (k : ℕ). is_pair u k (pair_at u (indexed# t))) new_first ∙ against f g ∙ o.same g

  new_one : (j : ℕ) → j < indexed# t → is_pair u j (pair_at u (indexed# t)) ≡ true → first_word u j ≡ first_word u (indexed# t)
  new_one j l e = firsts z old_words j l ∙ o.one j l (sym (against j l) ∙ e) ∙ sym new_first

  one_now : (j k : ℕ) → j < suc (indexed# t) → k < suc (indexed# t) → Dec (j ≡ indexed# t) → Dec (k ≡ indexed# t) →
      is_pair u j (pair_at u k) ≡ true → first_word u j ≡ first_word u k
  one_now j k l m (yes p) (yes q) e = ap (first_word u) (p ∙ sym q)
  one_now j k l m (no p) (no q) e =
      one_first z old_words j k (omega arith) (omega arith) e
  one_now j k l m (no p) (yes q) e =
      new_one j (omega arith) (subst (λ (i : ℕ). is_pair u j (pair_at u i) ≡ true) q e) ∙ ap (first_word u) (sym q)
  one_now j k l m (yes p) (no q) e =
      ap (first_word u) p
      ∙ sym (new_one k (omega arith) (same_turned (left_word u (indexed# t)) (right_word u (indexed# t)) (left_word u k) (right_word u k)
      (subst (λ (i : ℕ). is_pair u i (pair_at u k) ≡ true) p e)))

  lower_now : (j : ℕ) → j < suc (indexed# t) → Dec (j ≡ indexed# t) → first_word u j ≤ j
  lower_now j l (yes p) = let e = ap (first_word u) p ∙ new_first in let g = o.lower in omega arith
  lower_now j l (no d) =
      let e = firsts z old_words j (omega arith) in
      let g = z.lower j (omega arith) in
      omega arith

  same_now : (j : ℕ) → j < suc (indexed# t) → Dec (j ≡ indexed# t) → is_pair u (first_word u j) (pair_at u j) ≡ true
  same_now j l (yes p) =
      subst (λ (i : ℕ). is_pair u (first_word u i) (pair_at u i) ≡ true) (sym p) (first_is (ℕ_discrete f (indexed# t)))
  same_now j l (no d) = firsts_are z old_words j (omega arith)

  indexed_now : PairsSound u (suc (indexed# t))
  indexed_now = record {
    fit = let r = a.room in omega arith;
    index = new_index;
    firsts = record {
      lower = λ j l. lower_now j l (ℕ_discrete j (indexed# t));
      same = λ j l. same_now j l (ℕ_discrete j (indexed# t));
      one = λ j k l m. one_now j k l m (ℕ_discrete j (indexed# t)) (ℕ_discrete k (indexed# t));
    };
  }

pub pair_added : {t u : List ℕ} {x y f n : ℕ} → Addable t x y → FirstOf t x y f → n ≡ indexed# t → u ≡ pair_linked t n x y f →
    PairAdded t u x y
pair_added {t} {u} {x} {y} {f} {n} a o q e =
    let r = a.room in
    let g = e ∙ ap (λ (k : ℕ). pair_linked t k x y f) q in
    let w = pair_written a.asked.long a.room g in
    record {
      kept = pair_frame t (indexed# t) x y f a.room g;
      older = old a o w;
      new = new a o w;
      indexed = subst (PairsSound u) (sym w.count) (indexed_now a o w);
      count = w.count;
    }

-- its words fit
pub pair_linkable : {t : List ℕ} {x y f n : ℕ} → Addable t x y → FirstOf t x y f → n ≡ indexed# t → PairLinkable t n x y f
pair_linkable {t} {x} {y} {f} {n} a o q =
    let r = a.room in
    let b : pair_bucket x y < pair_buckets = omega arith in
    let e = a.asked.indexed.index.heads (pair_bucket x y) b in
    let v = (newest_found (pair_bucket_of t) (pair_bucket x y) (indexed# t)).within in
    record {
      long = a.asked.long;
      place = omega arith;
      first = a.asked.first;
      second = a.asked.second;
      lower = let l = o.lower in omega arith;
      heads = omega arith;
    }

-- ---- the newest pair taken back

-- what its stores leave
record PairDropped (t u : List ℕ) (j h : ℕ) : Type 0 where
  count : indexed# u ≡ j
  left : (k : ℕ) → k < max_pairs → at u LEFT k ≡ at t LEFT k
  right : (k : ℕ) → k < max_pairs → at u RIGHT k ≡ at t RIGHT k
  head_is : at u HEAD h ≡ link_word t j
  heads : (x : ℕ) → x < pair_buckets → (x ≡ h → ⊥) → at u HEAD x ≡ at t HEAD x

pair_dropped : {t t₁ u : List ℕ} {j h o : ℕ} → engine_size ≤ length t → h < pair_buckets → o ≡ link_word t j → t₁ ≡ put t HEAD h o →
    u ≡ put t₁ INDEXED 0 j → PairDropped t u j h
pair_dropped l b q e₁ e₂ =
    record {
      count = search (e₂, e₁, writes);
      left = λ k g. search (e₂, e₁, writes);
      right = λ k g. search (e₂, e₁, writes);
      head_is = search (e₂, e₁, q, writes);
      heads = λ x g d. search (e₂, e₁, writes);
    }

pub last_in : {t : List ℕ} {j : ℕ} → LastPair t j → j < max_pairs
last_in p = let f = p.indexed.fit in let l = p.last in omega arith

module _ {t t₁ u : List ℕ} {j h o : ℕ} (p : LastPair t j) (e : h ≡ pair_bucket_of t j) (q : o ≡ link_word t j) (e₁ : t₁ ≡ put t HEAD h o)
    (e₂ : u ≡ put t₁ INDEXED 0 j) where
  last : PairsSound t (suc j)
  last = subst (PairsSound t) p.last p.indexed

  in_buckets : h < pair_buckets
  in_buckets = omega arith

  left_over : PairDropped t u j h
  left_over = pair_dropped p.long in_buckets q e₁ e₂

  left_words : SameWords t u j
  left_words =
      let f = last.fit in
      record { left = λ k l. left_over.left k (omega arith); right = λ k l. left_over.right k (omega arith) }

  left_firsts : FirstsSound t j
  left_firsts =
      let k = last.firsts in
      record {
        lower = λ i l. k.lower i (omega arith);
        same = λ i l. k.same i (omega arith);
        one = λ i m l g. k.one i m (omega arith) (omega arith);
      }

  left_index : Indexed (pair_bucket_of t) (at u HEAD) (link_word t) pair_buckets j
  left_index =
      indexed_less last.index (rw (← e) in_buckets) (rw (← e) left_over.head_is)
      (λ x l d. left_over.heads x l (λ r. d (r ∙ e)))

  left_sound : PairsSound u j
  left_sound =
      let f = last.fit in
      record {
        fit = omega arith;
        index = indexed_same left_index (buckets_same left_firsts left_words) (λ x l. refl) (links_same left_firsts left_words);
        firsts = firsts_kept left_firsts left_words;
      }

  pub dropped : PairsCut t u j
  dropped =
      record {
        kept =
            rw (e₂, e₁)
            (kept_put engine_room pair_regions t (put t HEAD h o) INDEXED 0 j tt (lit< tt)
            (kept_put engine_room pair_regions t t HEAD h o tt in_buckets (kept_none engine_room pair_regions t)));
        older = λ k l. (ap (λ (w : ℕ). w % max_terms) (left_over.left k l), ap (λ (w : ℕ). w % max_terms) (left_over.right k l));
        indexed = subst (PairsSound u) (sym left_over.count) left_sound;
        count = left_over.count;
      }

-- ---- the index cut back to n pairs

kept_on : {t u v : List ℕ} → Kept engine_room pair_regions t u → Kept engine_room pair_regions u v → Kept engine_room pair_regions t v
kept_on k m = record { long = m.long ∙ k.long; rest = λ b x c l. m.rest b x c l ∙ k.rest b x c l }

pub record Cutting (t₀ t : List ℕ) (n j : ℕ) : Type 0 where
  pub long : engine_size ≤ length t
  pub enough : n ≤ j
  pub cut : PairsCut t₀ t j

same_all : (t : List ℕ) (p : ℕ) → SamePairs t t p
same_all t p j l = (refl, refl)

pub cutting_first : {t : List ℕ} {n j : ℕ} → Cuttable t n → j ≡ indexed# t → Cutting t t n j
cutting_first {t} c e =
    let f = c.enough in
    record {
      long = c.long;
      enough = omega arith;
      cut = record { kept = kept_none engine_room pair_regions t; older = same_all t max_pairs; indexed = c.indexed; count = sym e };
    }

pub cutting_last : {t₀ t : List ℕ} {n j i : ℕ} → Cutting t₀ t n j → n < j → i ≡ j - 1 → LastPair t i
cutting_last c l e = let q = c.cut.count in record { long = c.long; indexed = c.cut.indexed; last = omega arith }

pub cutting_next : {t₀ t u : List ℕ} {n j i : ℕ} → Cutting t₀ t n j → n < j → i ≡ j - 1 → PairsCut t u i → Cutting t₀ u n i
cutting_next {t₀} {t} {u} c l e d =
    let k = d.kept.long in
    let m = c.long in
    record {
      long = omega arith;
      enough = omega arith;
      cut = record {
        kept = kept_on c.cut.kept d.kept;
        older = λ x g. let a = c.cut.older x g in let b = d.older x g in (b.0 ∙ a.0, b.1 ∙ a.1);
        indexed = d.indexed;
        count = d.count;
      };
    }

pub cutting_done : {t₀ t : List ℕ} {n j : ℕ} → Cutting t₀ t n j → j ≤ n → PairsCut t₀ t n
cutting_done {t₀} {t} c l = let f = c.enough in let e = le_antisymm l f in subst (PairsCut t₀ t) e c.cut

-- ---- pair after pair added behind those of the index

pub record Adding (t₀ t xs ys : List ℕ) (i : ℕ) : Type 0 where
  pub within : i ≤ length xs
  pub asks : PairsAddable t₀ xs ys
  pub long : engine_size ≤ length t
  pub kept : Kept engine_room pair_regions t₀ t
  pub older : SamePairs t₀ t (indexed# t₀)
  pub new : (j : ℕ) → j < i → (left_word t (indexed# t₀ + j) ≡ at xs 0 j) × (right_word t (indexed# t₀ + j) ≡ at ys 0 j)
  pub indexed : PairsSound t (indexed# t)
  pub count : indexed# t ≡ indexed# t₀ + i

pub adding_first : {t xs ys : List ℕ} → PairsAddable t xs ys → Adding t t xs ys 0
adding_first {t} a = record {
  within = omega arith;
  asks = a;
  long = a.long;
  kept = kept_none engine_room pair_regions t;
  older = same_all t (indexed# t);
  new = λ j h. absurd (omega arith);
  indexed = a.indexed;
  count = omega arith;
}

pub addable : {t₀ t xs ys : List ℕ} {i x y : ℕ} → Adding t₀ t xs ys i → i < length xs → x ≡ at xs 0 i → y ≡ at ys 0 i → Addable t x y
addable {i = i} a l p q =
    let n = a.asks.nodes i l in
    let f = a.asks.fit in
    let c = a.count in
    record {
      asked = record { long = a.long; indexed = a.indexed; first = omega arith; second = omega arith };
      room = omega arith;
    }

pub adding_next : {t₀ t u xs ys : List ℕ} {i x y : ℕ} → Adding t₀ t xs ys i → i < length xs → x ≡ at xs 0 i → y ≡ at ys 0 i →
    PairAdded t u x y → Adding t₀ u xs ys (i + 1)
adding_next {t₀} {t} {u} {xs} {ys} {i} a l p q d =
    let k = d.kept.long in
    let m = a.long in
    let c = a.count in
    let e = d.count in
    record {
      within = omega arith;
      asks = a.asks;
      long = omega arith;
      kept = kept_on a.kept d.kept;
      older = λ x g. let v = a.older x g in let w = d.older x (omega arith) in (w.0 ∙ v.0, w.1 ∙ v.1);
      new =
          below_more (λ j. (left_word u (indexed# t₀ + j) ≡ at xs 0 j) × (right_word u (indexed# t₀ + j) ≡ at ys 0 j)) i
          (λ j g. let v = a.new j g in let w = d.older (indexed# t₀ + j) (omega arith) in (w.0 ∙ v.0, w.1 ∙ v.1))
          (ap (left_word u) (sym c) ∙ d.new.0 ∙ p, ap (right_word u) (sym c) ∙ d.new.1 ∙ q);
      indexed = d.indexed;
      count = omega arith;
    }

pub adding_done : {t₀ t xs ys : List ℕ} {i : ℕ} → Adding t₀ t xs ys i → length xs ≤ i → Copied t₀ t (indexed# t₀) xs ys
adding_done a h =
    let w = a.within in
    let c = a.count in
    record {
      kept = a.kept;
      older = a.older;
      new = λ j k. a.new j (omega arith);
      indexed = a.indexed;
      count = omega arith;
    }

-- ---- the index cut back, then the pairs added

module _ {t : List ℕ} {start : ℕ} {xs ys : List ℕ} (r : PairRoom t start xs ys) where
  pub cuttable : Cuttable t start
  cuttable = record { long = r.long; indexed = r.indexed; enough = r.covers }

  module _ {t₁ : List ℕ} (c : PairsCut t t₁ start) where
    pub pairs_addable : PairsAddable t₁ xs ys
    pairs_addable =
        let k = c.kept.long in
        let m = r.long in
        let n = c.count in
        let f = r.fit in
        record {
          long = omega arith;
          same_count = r.same_count;
          indexed = c.indexed;
          fit = omega arith;
          nodes = r.nodes;
        }

    pub copied : {u : List ℕ} → Copied t₁ u (indexed# t₁) xs ys → Copied t u start xs ys
    copied {u} d =
        let f = r.fit in
        let n = c.count in
        let v = subst (λ (i : ℕ). Copied t₁ u i xs ys) n d in
        record {
          kept = kept_on c.kept v.kept;
          older = λ j g. let a = c.older j (omega arith) in let b = v.older j g in (b.0 ∙ a.0, b.1 ∙ a.1);
          new = v.new;
          indexed = v.indexed;
          count = v.count;
        }

-- ---- an empty index

-- the heads are cleared, then the count is set
pub no_pairs : (t t₁ u : List ℕ) → engine_size ≤ length t → t₁ ≡ put_all t HEAD 0 (replicate pair_buckets 0) → u ≡ put t₁ INDEXED 0 0 →
    NoPairs u
no_pairs t t₁ u k q e =
    let z = filled HEAD pair_buckets (omega arith) q in
    let l : engine_size ≤ length t₁ = let s = z.long in omega arith in
    record { long = search (e, writes); none = search (e, writes); heads = λ h g. search (e, writes, z.own) }

pub empty_sound : {t : List ℕ} → NoPairs t → PairsSound t (indexed# t)
unfolding newest
empty_sound {t} z =
    subst (PairsSound t) (sym z.none) (record {
      fit = omega arith;
      index = record { heads = z.heads; links = λ i l. absurd (omega arith) };
      firsts = record {
        lower = λ j l. absurd (omega arith);
        same = λ j l. absurd (omega arith);
        one = λ j k l. absurd (omega arith);
      };
    })
