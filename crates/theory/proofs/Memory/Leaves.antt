-- The answer table: asking for a leaf, appending one, and what that does to the list of leaves.
use Rattle.shinri_core.proofs.Kit.{ℕ, zero, suc, ◌+◌, ◌-◌, ◌≤◌, ◌<◌, ◌≡◌, refl, sym, subst, ap, ap₂, ◌∙◌, ◌⊎◌, inl, inr, Bool, true, false, cond, ◌&&◌, true≢false, false≢true, List, [], ◌∷◌, ◌++◌, ℕ_discrete, add-one, arith, ne_eqb, eqb-true, T, eqb, eqb_suc_suc, leb, lit<, length, get_or, replicate}
use Rattle.shinri_core.specs.Limits.{max_terms, max_theories}
use Rattle.shinri_core.specs.Lists.{range}
use Rattle.shinri_core.specs.Memory.Words.{at, put, put_all, apart, counted}
use Rattle.shinri_core.specs.Memory.Table.{newest, Indexed}
use Rattle.shinri_core.proofs.Lists.{In}
use Rattle.shinri_core.proofs.Memory.Counted.{counted_length, counted_at, counted_grown}
use Rattle.shinri_core.proofs.Memory.Searching.{any_found, any_missing}
use Rattle.shinri_core.proofs.Memory.Index.{indexed_more, Asking, ask_first, ask_next, ask_less}
use Rattle.shinri_core.proofs.Memory.Stores as Stores
use Rattle.theory.specs.Types.{EqLeaf, AssertedLeaf, InterfaceLeaf, same_leaf}
use Rattle.theory.specs.EqEngine.{Merge}
use Rattle.theory.specs.declared.types.EqLeaf as Given
use Rattle.theory.specs.declared.types.LeafWords as LeafWords
use Rattle.theory.specs.Memory.Answer.{COUNTS, LEAVES, LEAF_KIND, LEAF_VALUE, BUCKET, LINK, answer_room, answer_size, leaves#, buckets, bucket, bucket_of, leaf_of, leaf_at, leaves, leaf_meaning, has_leaf, LeavesSound, HasRoom, Pushed, HoldsLeaf, Linkable, linked, Cites, Cited, AnswerSound, Cleared}
use Rattle.theory.proofs.Members.{Apart, apart_last, in_either}
use Rattle.theory.proofs.Memory.Filling.{filled}
use Rattle.theory.proofs.Explain.{in_seen, few_leaves}

-- ---- stores

other : (t : List ℕ) (b c x y v : ℕ) → T (apart answer_room b c) → x < answer_room b → y < answer_room c → at (put t c y v) b x ≡ at t b x
other = Stores.other_region answer_room

same : (t : List ℕ) (b x v : ℕ) → T (leb (b + answer_room b) answer_size) → answer_size ≤ length t → x < answer_room b →
    at (put t b x v) b x ≡ v
same = Stores.same_place answer_room answer_size

long : (t : List ℕ) (b x v : ℕ) → answer_size ≤ length t → answer_size ≤ length (put t b x v)
long = Stores.put_long answer_room answer_size

ruleset stores = (tt, lit<, other, same, long, Stores.other_place)

-- ---- an empty table

-- the buckets are cleared, then the count is set
pub cleared : (o o₁ u : List ℕ) → answer_size ≤ length o → o₁ ≡ put_all o BUCKET 0 (replicate buckets 0) →
    u ≡ put o₁ COUNTS LEAVES 0 → Cleared u
unfolding leaves counted range newest
cleared o o₁ u k q e =
    let z = filled BUCKET buckets (omega arith) q in
    let l : answer_size ≤ length o₁ = let s = z.long in omega arith in
    let c : leaves# u ≡ 0 = search (e, stores) in
    let n : leaves u ≡ [] = ap (counted (leaf_at u)) c in
    let heads : (h : ℕ) → h < buckets → at u BUCKET h ≡ 0 = search (e, stores, z.own) in
    let index : Indexed (bucket_of u) (at u BUCKET) (at u LINK) buckets 0 =
    record { heads = heads; links = λ i h. absurd (omega arith) } in
    record {
      sound = λ ms. record {
        words = record {
          long = search (e, stores);
          fit = omega arith;
          theories = λ i h. absurd (omega arith);
          index = rw c index;
        };
        apart = subst Apart (sym n) tt;
        other = AssertedLeaf 0;
        cited = λ k i. absurd (subst (λ (ls : List EqLeaf). In k ls) n i);
      };
      empty = n;
    }

-- ---- asking

pub leaves_length : (o : List ℕ) → length (leaves o) ≡ leaves# o
unfolding leaves
leaves_length o = counted_length (leaf_at o) (leaves# o)

pub leaf_fits : (o : List ℕ) (i : ℕ) → LeavesSound o → i < length (leaves o) → (i < max_terms) × (at o LEAF_KIND i ≤ max_theories)
leaf_fits o i z h = let n = leaves_length o in let f = z.fit in (omega arith, z.theories i (omega arith))

-- the leaf at a place, by the words k and v that were read there
module _ (o : List ℕ) (i k v : ℕ) (h : i < length (leaves o)) (e : k ≡ at o LEAF_KIND i) (q : v ≡ at o LEAF_VALUE i) where
  words_are : leaf_of k v ≡ get_or (leaves o) i (AssertedLeaf 0)
  unfolding leaves
  words_are =
      let n = leaves_length o in
      ap₂ leaf_of e q ∙ sym (counted_at (leaf_at o) (leaves# o) i (AssertedLeaf 0) (omega arith))

  pub leaf_asserted : k ≡ 0 → AssertedLeaf v ≡ get_or (leaves o) i (AssertedLeaf 0)
  unfolding leaf_of
  leaf_asserted d = ap (λ (m : ℕ). leaf_of m v) (sym d) ∙ words_are

  pub leaf_interface : (k ≡ 0 → ⊥) → InterfaceLeaf (k - 1) v ≡ get_or (leaves o) i (AssertedLeaf 0)
  unfolding leaf_of
  leaf_interface d = let p : suc (k - 1) ≡ k = omega arith in ap (λ (m : ℕ). leaf_of m v) p ∙ words_are

-- is the leaf at i the one looked for?
abbrev pub Is : List ℕ → ℕ → ℕ → ℕ → Bool
Is o kind value i = same_leaf (leaf_of kind value) (leaf_at o i)

-- words are compared as leaves are
words_same : (j v m w : ℕ) → (eqb j m && eqb v w) ≡ same_leaf (leaf_of j v) (leaf_of m w)
unfolding leaf_of same_leaf
words_same zero v zero w = refl
words_same zero v (suc m) w = ap (λ (b : Bool). b && eqb v w) (ne_eqb 0 (suc m) (λ e. omega arith))
words_same (suc j) v zero w = ap (λ (b : Bool). b && eqb v w) (ne_eqb (suc j) 0 (λ e. omega arith))
words_same (suc j) v (suc m) w = ap (λ (b : Bool). b && eqb v w) (eqb_suc_suc j m)

-- the leaf at i, by the words k and w that were read there
pub compared : (o : List ℕ) (kind value i : ℕ) {k w : ℕ} {b : Bool} → (k ≡ at o LEAF_KIND i) × (w ≡ at o LEAF_VALUE i) →
    b ≡ (eqb kind k && eqb value w) → b ≡ Is o kind value i
compared o j v i (p, q) e =
    e ∙ ap₂ (λ (x y : ℕ). eqb j x && eqb v y) p q ∙ words_same j v (at o LEAF_KIND i) (at o LEAF_VALUE i)

-- the same leaf has the same words
same_words : (j v m w : ℕ) → same_leaf (leaf_of j v) (leaf_of m w) ≡ true → (m ≡ j) × (w ≡ v)
unfolding leaf_of same_leaf
same_words zero v zero w e = (refl, sym (eqb-true v w e))
same_words zero v (suc m) w e = absurd (false≢true e)
same_words (suc j) v zero w e = absurd (false≢true e)
same_words (suc j) v (suc m) w e = go (eqb j m) (eqb v w) refl refl e
  where
    go : (a b : Bool) → eqb j m ≡ a → eqb v w ≡ b → (a && b) ≡ true → (suc m ≡ suc j) × (w ≡ v)
    go true true p q i = (ap suc (sym (eqb-true j m p)), sym (eqb-true v w q))
    go true false p q i = absurd (false≢true i)
    go false b p q i = absurd (false≢true i)

-- the leaves of bucket h from leaf k on are not the one looked for
pub record Looking (o : List ℕ) (kind value h k : ℕ) : Type 0 where
  pub sound : LeavesSound o
  pub hash : h ≡ bucket kind value
  pub asked : Asking (bucket_of o) (Is o kind value) h (leaves# o) k

module _ {o : List ℕ} (kind value : ℕ) {h : ℕ} (z : LeavesSound o) (e : h ≡ bucket kind value) where
  only : (i : ℕ) → i < leaves# o → Is o kind value i ≡ true → bucket_of o i ≡ h
  only i l q = let (k, v) = same_words kind value (at o LEAF_KIND i) (at o LEAF_VALUE i) q in ap₂ bucket k v ∙ sym e

  pub look_first : {k : ℕ} → h < buckets → k ≡ at o BUCKET h → Looking o kind value h k
  look_first l q = record { sound = z; hash = e; asked = ask_first z.index only l q }

module _ {o : List ℕ} {kind value h k : ℕ} (w : Looking o kind value h k) where
  module _ {r : ℕ} {b : Bool} (d : k ≡ 0 → ⊥) (f : b ≡ Is o kind value (k - 1)) (n : b ≡ false) (q : r ≡ at o LINK (k - 1)) where
    pub look_next : Looking o kind value h r
    look_next =
        record {
          sound = w.sound;
          hash = w.hash;
          asked = ask_next w.sound.index (only kind value w.sound w.hash) w.asked d q (sym f ∙ n);
        }

    pub look_less : r < k
    look_less = ask_less w.sound.index (only kind value w.sound w.hash) w.asked d q

  pub look_found : {b : Bool} → (k ≡ 0 → ⊥) → b ≡ Is o kind value (k - 1) → b ≡ true → true ≡ has_leaf (leaf_of kind value) (leaves o)
  unfolding leaves
  look_found d f q =
      let a = w.asked.within in
      sym (any_found (same_leaf (leaf_of kind value)) (leaf_at o) (leaves# o) (k - 1) (omega arith) (sym f ∙ q))

  pub look_missing : k ≡ 0 → false ≡ has_leaf (leaf_of kind value) (leaves o)
  unfolding leaves
  look_missing q =
      sym (any_missing (same_leaf (leaf_of kind value)) (leaf_at o) (leaves# o) (λ j a g. w.asked.rest j (omega arith) g))

-- ---- appending

-- the words of a leaf that is to be pushed
pub record Pushable (o : List ℕ) (kind value : ℕ) : Type 0 where
  pub sound : LeavesSound o
  pub kind_fits : kind ≤ max_theories
  pub value_fits : value < 4294967296
  pub room : HasRoom o (leaf_of kind value)

module _ (o : List ℕ) (kind value : ℕ) (b : Bool) (z : Pushable o kind value) (e : b ≡ has_leaf (leaf_of kind value) (leaves o)) where
  pub pushed_old : b ≡ true → Pushed o o (leaf_of kind value)
  pushed_old q =
      record { sound = z.sound; listed = sym (ap (λ (x : Bool). cond x (leaves o) (leaves o ++ (leaf_of kind value ∷ []))) (sym e ∙ q)) }

  -- a leaf that does not stand there yet has room
  pub push_fits : (n : ℕ) → b ≡ false → n ≡ leaves# o → n < max_terms
  push_fits n q m = go z.room
    where
      go : HasRoom o (leaf_of kind value) → n < max_terms
      go (inl p) = absurd (true≢false (sym p ∙ sym e ∙ q))
      go (inr l) = omega (arith, leaves_length o)

-- what the stores did
record Appended (o u : List ℕ) (n kind value h : ℕ) : Type 0 where
  long : answer_size ≤ length u
  count : leaves# u ≡ suc n
  kinds : (i : ℕ) → i < max_terms → (i ≡ n → ⊥) → at u LEAF_KIND i ≡ at o LEAF_KIND i
  values : (i : ℕ) → i < max_terms → (i ≡ n → ⊥) → at u LEAF_VALUE i ≡ at o LEAF_VALUE i
  kind_is : at u LEAF_KIND n ≡ kind
  value_is : at u LEAF_VALUE n ≡ value
  link_is : at u LINK n ≡ at o BUCKET h
  links : (i : ℕ) → i < max_terms → (i ≡ n → ⊥) → at u LINK i ≡ at o LINK i
  head_is : at u BUCKET h ≡ suc n
  heads : (x : ℕ) → x < buckets → (x ≡ h → ⊥) → at u BUCKET x ≡ at o BUCKET x

appended : (o o₁ o₂ o₃ u : List ℕ) (n kind value h : ℕ) → answer_size ≤ length o → n < max_terms → h < buckets →
    o₁ ≡ linked o n h → o₂ ≡ put o₁ LEAF_KIND n kind → o₃ ≡ put o₂ LEAF_VALUE n value → u ≡ put o₃ COUNTS LEAVES (n + 1) →
    Appended o u n kind value h
unfolding linked
appended o o₁ o₂ o₃ u n kind value h l m b p₁ p₂ p₃ p₄ = search (p₄, p₃, p₂, p₁, add-one, stores) depth 9

module _ {o u : List ℕ} {n kind value h : ℕ} (z : LeavesSound o) (m : n ≡ leaves# o) (r : n < max_terms) (e : h ≡ bucket kind value)
    (b : h < buckets) (w : Appended o u n kind value h) where
  older_bucket : (i : ℕ) → i < leaves# o → bucket_of u i ≡ bucket_of o i
  older_bucket i l =
      let f = z.fit in
      ap₂ bucket (w.kinds i (omega arith) (omega arith)) (w.values i (omega arith) (omega arith))

  new_bucket : bucket_of u (leaves# o) ≡ h
  new_bucket = ap (bucket_of u) (sym m) ∙ ap₂ bucket w.kind_is w.value_is ∙ sym e

  new_index : Indexed (bucket_of u) (at u BUCKET) (at u LINK) buckets (suc (leaves# o))
  new_index =
      let f = z.fit in
      indexed_more z.index older_bucket (rw new_bucket b) (ap (at u BUCKET) new_bucket ∙ w.head_is ∙ ap suc m)
      (λ x l d. w.heads x l (λ q. d (q ∙ sym new_bucket)))
      (ap (at u LINK) (sym m) ∙ w.link_is ∙ ap (at o BUCKET) (sym new_bucket))
      (λ i l. w.links i (omega arith) (omega arith))

  new_kind : kind ≤ max_theories → (i : ℕ) → i < leaves# u → Dec (i ≡ n) → at u LEAF_KIND i ≤ max_theories
  new_kind y i g (yes k) = let x = ap (at u LEAF_KIND) k ∙ w.kind_is in omega arith
  new_kind y i g (no d) =
      let c = w.count in
      let f = z.fit in
      omega (arith, w.kinds i (omega arith) d, z.theories i (omega arith))

  new_sound : kind ≤ max_theories → LeavesSound u
  new_sound y =
      let c = w.count in
      record {
        long = w.long;
        fit = omega arith;
        theories = λ i g. new_kind y i g (ℕ_discrete i n);
        index = subst (Indexed (bucket_of u) (at u BUCKET) (at u LINK) buckets) (ap suc (sym m) ∙ sym c) new_index;
      }

-- what is asked to make it leaf n
pub linkable : {o : List ℕ} {n : ℕ} {w : LeafWords.LeafWords} {b : Bool} → Pushable o w.kind w.value →
    b ≡ has_leaf (leaf_of w.kind w.value) (leaves o) → b ≡ false → n ≡ leaves# o → Linkable o n w
linkable {o} {n} {w} {b} z e q m =
    record {
      long = z.sound.long;
      place = push_fits o w.kind w.value b z e n q m;
      fits = record { kind_fits = z.kind_fits; value_fits = z.value_fits };
    }

pub pushed_new : {o o₁ o₂ o₃ u : List ℕ} {kind value n : ℕ} {b : Bool} → Pushable o kind value →
    b ≡ has_leaf (leaf_of kind value) (leaves o) → b ≡ false → n ≡ leaves# o → o₁ ≡ linked o n (bucket kind value) →
    o₂ ≡ put o₁ LEAF_KIND n kind → o₃ ≡ put o₂ LEAF_VALUE n value → u ≡ put o₃ COUNTS LEAVES (n + 1) → Pushed o u (leaf_of kind value)
unfolding leaves
pushed_new {o} {o₁} {o₂} {o₃} {u} {kind} {value} {n} {b} z e q m p₁ p₂ p₃ p₄ =
    let r = push_fits o kind value b z e n q m in
    let l : bucket kind value < buckets = omega arith in
    let w = appended o o₁ o₂ o₃ u n kind value (bucket kind value) z.sound.long r l p₁ p₂ p₃ p₄ in
    record {
      sound = new_sound z.sound m r refl l w z.kind_fits;
      listed =
          counted_grown (leaf_at o) (leaf_at u) n (leaves# u) (leaf_of kind value) w.count
          (λ j a. ap₂ leaf_of (w.kinds j (omega arith) (omega arith)) (w.values j (omega arith) (omega arith)))
          (ap₂ leaf_of w.kind_is w.value_is)
          ∙ ap (λ (k : ℕ). counted (leaf_at o) k ++ (leaf_of kind value ∷ [])) m
          ∙ sym (ap (λ (x : Bool). cond x (leaves o) (leaves o ++ (leaf_of kind value ∷ []))) (sym e ∙ q));
    }

-- the words of a given leaf
pub pushable : {o : List ℕ} {l : Given.EqLeaf} {w : LeafWords.LeafWords} → LeavesSound o × HasRoom o (leaf_meaning l) → HoldsLeaf l w →
    Pushable o w.kind w.value
pushable z h = record {
  sound = z.0;
  kind_fits = h.fits.kind_fits;
  value_fits = h.fits.value_fits;
  room = subst (HasRoom _) h.is z.1;
}

-- ---- there is room, and the table stays sound

pub push_room : (ms : List Merge) (o : List ℕ) (l : EqLeaf) → AnswerSound ms o → length ms < max_terms → Cites ms l → HasRoom o l
push_room ms o l z h c = go (has_leaf l (leaves o)) refl
  where
    more : (k : EqLeaf) → In k (l ∷ leaves o) → (k ≡ z.other) ⊎ Cites ms k
    more k (inl e) = inr (subst (Cites ms) (sym e) c)
    more k (inr i) = z.cited k i

    go : (b : Bool) → has_leaf l (leaves o) ≡ b → HasRoom o l
    go true e = inl e
    go false e =
        let g = few_leaves ms z.other (l ∷ leaves o) (λ i. subst T e (in_seen l (leaves o) i), z.apart) more in
        inr (omega arith)

-- a leaf pushed that labels a merge, or is the other one
pub push_sound : (ms : List Merge) (o u : List ℕ) (l other : EqLeaf) → Apart (leaves o) → Cited ms other (leaves o) →
    (l ≡ other) ⊎ Cites ms l → Pushed o u l → AnswerSound ms u
push_sound ms o u l other a f c p = go (has_leaf l (leaves o)) refl p.listed
  where
    made : (ls : List EqLeaf) → leaves u ≡ ls → Apart ls → Cited ms other ls → AnswerSound ms u
    made ls q b g =
        record { words = p.sound; apart = subst Apart (sym q) b; other = other; cited = subst (Cited ms other) (sym q) g }

    more : (k : EqLeaf) → In k (leaves o) ⊎ In k (l ∷ []) → (k ≡ other) ⊎ Cites ms k
    more k (inl i) = f k i
    more k (inr (inl q)) = subst (λ (j : EqLeaf). (j ≡ other) ⊎ Cites ms j) (sym q) c
    more k (inr (inr i)) = absurd i

    go : (b : Bool) → has_leaf l (leaves o) ≡ b → leaves u ≡ cond b (leaves o) (leaves o ++ (l ∷ [])) → AnswerSound ms u
    go true q e = made (leaves o) e a f
    go false q e =
        made (leaves o ++ (l ∷ [])) e (apart_last (leaves o) l a (λ i. subst T q (in_seen l (leaves o) i)))
        (λ k i. more k (in_either k (leaves o) (l ∷ []) i))

-- the first leaf pushed may be any: there is room, and an explanation may follow
pub first_asks : {o : List ℕ} (l : EqLeaf) → Cleared o → LeavesSound o × HasRoom o l
first_asks l c = ((c.sound []).words, inr (let e = ap length c.empty in omega arith))

pub first_sound : {o u : List ℕ} {l : EqLeaf} (ms : List Merge) → Cleared o → Pushed o u l → AnswerSound ms u
first_sound {o} {u} {l} ms c p =
    push_sound ms o u l l (c.sound ms).apart (subst (Cited ms l) (sym c.empty) (λ k i. absurd i)) (inl refl) p
