-- The index: the newest term of a bucket, an index over any entries, and the loop that computes a bucket.
use Rattle.shinri_core.proofs.Kit.{ℕ, zero, suc, ◌+◌, ◌-◌, ◌*◌, ◌%◌, ◌≤◌, ◌<◌, ◌≡◌, refl, sym, subst, ap, ap₂, ◌∙◌, Bool, true, false, cond, List, dec_le, ℕ_discrete, add-one, arith, eq-eqb, ne_eqb, eqb, length, get_or, drop, drop_of_length-le, drop-cons}
use Rattle.shinri_core.specs.Memory.Table.{BUCKET, LINK, buckets, bucket, bucket_of, newest, Indexed, IndexSound}
use Rattle.shinri_core.specs.Memory.Words.{at}
use Rattle.shinri_core.proofs.Lists.{not_true_false}
use Rattle.shinri_core.proofs.Memory.Searching.{NoneFrom, none_yet}

module _ (hash : ℕ → ℕ) (h : ℕ) where
  -- one more: it, or what was the newest
  pub newest_is : (n : ℕ) → hash n ≡ h → newest hash h (suc n) ≡ suc n
  unfolding newest
  newest_is n e = ap (λ (b : Bool). cond b (suc n) (newest hash h n)) (eq-eqb (hash n) h e)

  pub newest_not : (n : ℕ) → (hash n ≡ h → ⊥) → newest hash h (suc n) ≡ newest hash h n
  unfolding newest
  newest_not n d = ap (λ (b : Bool). cond b (suc n) (newest hash h n)) (ne_eqb (hash n) h d)

  -- what is known of the newest of n: it is one of them and in the bucket, and none after it is
  pub record Newest (n k : ℕ) : Type 0 where
    pub within : k ≤ n
    pub here : newest hash h k ≡ k
    pub after : (j : ℕ) → k ≤ j → j < n → hash j ≡ h → ⊥

  pub newest_found : (n : ℕ) → Newest n (newest hash h n)
  unfolding newest
  newest_found zero = record { within = omega arith; here = refl; after = λ j l g. absurd (omega arith) }
  newest_found (suc n) = go (ℕ_discrete (hash n) h) (newest_found n)
    where
      go : Dec (hash n ≡ h) → Newest n (newest hash h n) → Newest (suc n) (newest hash h (suc n))
      go (yes e) r = rw (newest_is n e) (record { within = omega arith; here = newest_is n e; after = λ j l g. absurd (omega arith) })
      go (no d) r =
          rw (newest_not n d) (record { within = omega arith; here = r.here; after = λ j l g. last j l g (ℕ_discrete j n) })
        where
          last : (j : ℕ) → newest hash h n ≤ j → j < suc n → Dec (j ≡ n) → hash j ≡ h → ⊥
          last j l g (yes q) e = d (ap hash (sym q) ∙ e)
          last j l g (no q) e = r.after j l (omega arith) e

  -- a term that the newest points to is in the bucket
  pub newest_in : (k : ℕ) → newest hash h (suc k) ≡ suc k → hash k ≡ h
  newest_in k e = go (ℕ_discrete (hash k) h)
    where
      go : Dec (hash k ≡ h) → hash k ≡ h
      go (yes q) = q
      go (no d) = let w = (newest_found k).within in let r = newest_not k d in absurd (omega arith)

  pub newest_same : (other : ℕ → ℕ) (n : ℕ) → ((i : ℕ) → i < n → other i ≡ hash i) → newest other h n ≡ newest hash h n
  unfolding newest
  newest_same other zero w = refl
  newest_same other (suc n) w =
      ap₂ (λ (x y : ℕ). cond (eqb x h) (suc n) y) (w n (omega arith)) (newest_same other n (λ i l. w i (omega arith)))

-- ---- an index over any entries

-- one more entry, the newest of its bucket
pub indexed_more : {hash head link hash' head' link' : ℕ → ℕ} {size n : ℕ} → Indexed hash head link size n →
    ((i : ℕ) → i < n → hash' i ≡ hash i) → hash' n < size →
    head' (hash' n) ≡ suc n → ((h : ℕ) → h < size → (h ≡ hash' n → ⊥) → head' h ≡ head h) →
    link' n ≡ head (hash' n) → ((i : ℕ) → i < n → link' i ≡ link i) → Indexed hash' head' link' size (suc n)
indexed_more {hash} {head} {link} {hash'} {head'} {link'} {size} {n} z same small at_head heads at_link links =
    record { heads = λ h l. head_is h l (ℕ_discrete h (hash' n)); links = λ i l. link_is i l (ℕ_discrete i n) }
  where
    older : (h i : ℕ) → i ≤ n → newest hash' h i ≡ newest hash h i
    older h i l = newest_same hash h hash' i (λ j g. same j (omega arith))

    head_is : (h : ℕ) → h < size → Dec (h ≡ hash' n) → head' h ≡ newest hash' h (suc n)
    head_is h l (yes q) = ap head' q ∙ at_head ∙ sym (newest_is hash' h n (sym q))
    head_is h l (no d) =
        heads h l d ∙ z.heads h l ∙ sym (older h n (omega arith)) ∙ sym (newest_not hash' h n (λ q. d (sym q)))

    link_is : (i : ℕ) → i < suc n → Dec (i ≡ n) → link' i ≡ newest hash' (hash' i) i
    link_is i l (yes q) = rw q (at_link ∙ z.heads (hash' n) small ∙ sym (older (hash' n) n (omega arith)))
    link_is i l (no d) =
        links i (omega arith) ∙ z.links i (omega arith) ∙ ap (λ (h : ℕ). newest hash h i) (sym (same i (omega arith)))
        ∙ sym (older (hash' i) i (omega arith))

-- the newest entry is taken back
pub indexed_less : {hash head link head' : ℕ → ℕ} {size n : ℕ} → Indexed hash head link size (suc n) → hash n < size →
    head' (hash n) ≡ link n → ((h : ℕ) → h < size → (h ≡ hash n → ⊥) → head' h ≡ head h) → Indexed hash head' link size n
indexed_less {hash} {head} {link} {head'} {size} {n} z small at_head heads =
    record { heads = λ h l. head_is h l (ℕ_discrete h (hash n)); links = λ i l. z.links i (omega arith) }
  where
    head_is : (h : ℕ) → h < size → Dec (h ≡ hash n) → head' h ≡ newest hash h n
    head_is h l (yes q) = rw q (at_head ∙ z.links n (omega arith))
    head_is h l (no d) = heads h l d ∙ z.heads h l ∙ newest_not hash h n (λ q. d (sym q))

-- words that agree
pub indexed_same : {hash head link hash' head' link' : ℕ → ℕ} {size n : ℕ} → Indexed hash head link size n →
    ((i : ℕ) → i < n → hash' i ≡ hash i) → ((h : ℕ) → h < size → head' h ≡ head h) → ((i : ℕ) → i < n → link' i ≡ link i) →
    Indexed hash' head' link' size n
indexed_same {hash} {hash' = hash'} {n = n} z same heads links = record {
  heads = λ h l. heads h l ∙ z.heads h l ∙ sym (newest_same hash h hash' n same);
  links = λ i l.
      links i l ∙ z.links i l ∙ ap (λ (h : ℕ). newest hash h i) (sym (same i l))
      ∙ sym (newest_same hash (hash' i) hash' i (λ j g. same j (omega arith)));
}

-- the entries of a bucket are asked, the newest first: none from k on passes, and entry k - 1 stands in bucket h, if k is not 0
pub record Asking (hash : ℕ → ℕ) (p : ℕ → Bool) (h n k : ℕ) : Type 0 where
  pub within : k ≤ n
  pub here : newest hash h k ≡ k
  pub rest : NoneFrom p k n

-- all that pass stand in bucket h
module _ {hash head link : ℕ → ℕ} {size n : ℕ} {p : ℕ → Bool} {h : ℕ} (z : Indexed hash head link size n)
    (only : (i : ℕ) → i < n → p i ≡ true → hash i ≡ h) where
  ask_on : (m k : ℕ) → m ≤ n → k ≡ newest hash h m → NoneFrom p m n → Asking hash p h n k
  ask_on m k l q w =
      let f = newest_found hash h m in
      let v = f.within in
      record { within = omega arith; here = rw q f.here; rest = λ j a g. each j a g (dec_le m j) }
    where
      each : (j : ℕ) → k ≤ j → j < n → Dec (m ≤ j) → p j ≡ false
      each j a g (yes o) = w j o g
      each j a g (no o) =
          not_true_false (p j) (λ e. (newest_found hash h m).after j (omega arith) (omega arith) (only j g e))

  pub ask_first : {k : ℕ} → h < size → k ≡ head h → Asking hash p h n k
  ask_first {k} l q = ask_on n k (omega arith) (q ∙ z.heads h l) (none_yet p n)

  module _ {k r : ℕ} (w : Asking hash p h n k) (d : k ≡ 0 → ⊥) (q : r ≡ link (k - 1)) where
    older_is : r ≡ newest hash h (k - 1)
    older_is =
        let within = w.within in
        let s : k ≡ suc (k - 1) = omega arith in
        let i = newest_in hash h (k - 1) (subst (λ (x : ℕ). newest hash h x ≡ x) s w.here) in
        q ∙ z.links (k - 1) (omega arith) ∙ ap (λ (x : ℕ). newest hash x (k - 1)) i

    pub ask_less : r < k
    ask_less = let e = older_is in let v = (newest_found hash h (k - 1)).within in omega arith

    pub ask_next : p (k - 1) ≡ false → Asking hash p h n r
    ask_next f =
        let within = w.within in
        ask_on (k - 1) r (omega arith) older_is (λ j l g. each j l g (dec_le k j))
      where
        each : (j : ℕ) → k - 1 ≤ j → j < n → Dec (k ≤ j) → p j ≡ false
        each j l g (yes m) = w.rest j m g
        each j l g (no m) = let e : j ≡ k - 1 = omega arith in rw e f

-- the index of terms is one
pub found : {t : List ℕ} {n : ℕ} → IndexSound t n → Indexed (bucket_of t) (at t BUCKET) (at t LINK) buckets n
found z = record { heads = z.heads; links = z.links }

-- ---- a loop that computes a bucket: h is that of the arguments below i

pub record Hashing (code : ℕ) (args : List ℕ) (h i : ℕ) : Type 0 where
  pub within : i ≤ length args
  pub small : h < buckets
  pub rest : bucket h (drop i args) ≡ bucket code args

pub hash_next : (code : ℕ) (args : List ℕ) (h i : ℕ) → Hashing code args h i → i < length args →
    Hashing code args ((31 * h + get_or args i 0) % buckets) (i + 1)
unfolding bucket
hash_next code args h i w l =
    let r = w.rest in
    record { within = omega arith; small = omega arith; rest = rw (add-one i) (rw (drop-cons args i 0 l) at r) }

pub hash_done : (code : ℕ) (args : List ℕ) (h i : ℕ) → Hashing code args h i → length args ≤ i → h ≡ bucket code args
unfolding bucket
hash_done code args h i w l = sym (ap (bucket h) (drop_of_length-le args l)) ∙ w.rest
