-- The three records in one list: the keys of testers by sign and atom, those of unequal terms by variable, the words of entries, and what
-- is gathered from the list when it stays, grows by an entry or is cut.
use Rattle.shinri_core.proofs.Kit.{ℕ, zero, suc, ◌+◌, ◌-◌, ◌*◌, ◌/◌, ◌%◌, ◌≤◌, ◌<◌, ◌≡◌, refl, sym, ap, ap₂, ◌∙◌, Bool, true, false, cond, not, ◌&&◌, List, [], ◌∷◌, ◌++◌, map, Option, none, some, dec_lt, arith, eqb, ne_eqb, eqb-false, ltb, ltb-true, le-ltb, add-zero}
use borrow.Author.Tests.{lt-ltb}
use Rattle.shinri_core.specs.Limits.{max_terms}
use Rattle.shinri_core.specs.Ids as Ids
use Rattle.shinri_core.specs.Lists.{any, keep, gather, cons_option, range}
use Rattle.shinri_core.specs.Memory.Words.{at, counted}
use Rattle.shinri_core.proofs.Lists.{range_in, T_and, T_true, true_T}
use Rattle.solver.specs.State.{AssertedAtom}
use Rattle.solver.specs.Records.{recorded, has_literal}
use Rattle.solver.specs.Memory.Table.{ENTRY, max_records, UNEQUAL, records#, tester_key, unequal_key, of_sign, of_unequal, key_atom, entry_word, entry_key, entry_rest, asserted, entry_of, record_of, max_lits}
use Rattle.solver.proofs.Basics.{eqb_same, gather_same}

-- ---- keys

pub key_own : (b : Bool) (x : ℕ) → x < max_terms → of_sign b (tester_key b x) ≡ true
unfolding of_sign tester_key
key_own true x h = lt-ltb x max_terms h
key_own false x h = rw (le-ltb (x + max_terms) max_terms (omega arith), lt-ltb (x + max_terms) UNEQUAL (omega arith))

pub key_other : (b : Bool) (x : ℕ) → x < max_terms → of_sign (not b) (tester_key b x) ≡ false
unfolding of_sign tester_key
key_other true x h = rw (lt-ltb x max_terms h)
key_other false x h = le-ltb (x + max_terms) max_terms (omega arith)

-- the key of a tester is none of unequal terms
pub key_tester : (b : Bool) (x : ℕ) → x < max_terms → ltb (tester_key b x) UNEQUAL ≡ true
unfolding tester_key
key_tester true x h = lt-ltb x UNEQUAL (omega arith)
key_tester false x h = lt-ltb (x + max_terms) UNEQUAL (omega arith)

pub key_unequal : (b : Bool) (x : ℕ) → x < max_terms → of_unequal (tester_key b x) ≡ false
unfolding of_unequal
key_unequal b x h = ap not (key_tester b x h)

pub key_atom_is : (b : Bool) (x : ℕ) → x < max_terms → key_atom (tester_key b x) ≡ x
unfolding key_atom tester_key
key_atom_is true x h = rw (lt-ltb x max_terms h)
key_atom_is false x h = rw (le-ltb (x + max_terms) max_terms (omega arith)) (omega arith)

pub key_fits : (b : Bool) (x : ℕ) → x < max_terms → tester_key b x < max_records
unfolding tester_key
key_fits true x h = omega arith
key_fits false x h = omega arith

-- a key of a sign is one of a tester
pub sign_tester : (b : Bool) (k : ℕ) → of_sign b k ≡ true → ltb k UNEQUAL ≡ true
unfolding of_sign
sign_tester true k e = let l = ltb-true k max_terms e in lt-ltb k UNEQUAL (omega arith)
sign_tester false k e = T_true (ltb k UNEQUAL) (T_and (not (ltb k max_terms)) (ltb k UNEQUAL) (true_T _ e)).1

-- the key of a literal is one of unequal terms, and of no tester
pub unequal_own : (l : ℕ) → of_unequal (unequal_key l) ≡ true
unfolding of_unequal unequal_key
unequal_own l = ap not (le-ltb (UNEQUAL + Ids.var l) UNEQUAL (omega arith))

pub unequal_other : (b : Bool) (l : ℕ) → of_sign b (unequal_key l) ≡ false
unfolding of_sign unequal_key
unequal_other true l = le-ltb (UNEQUAL + Ids.var l) max_terms (omega arith)
unequal_other false l =
    rw (le-ltb (UNEQUAL + Ids.var l) max_terms (omega arith), le-ltb (UNEQUAL + Ids.var l) UNEQUAL (omega arith))

-- ---- words

pub word_key : (k r : ℕ) → r < max_lits → entry_word k r / max_lits ≡ k
unfolding entry_word
word_key k r h = omega arith

pub word_rest : (k r : ℕ) → r < max_lits → entry_word k r % max_lits ≡ r
unfolding entry_word
word_rest k r h = omega arith

-- ---- what is gathered

module _ {A : Type 0} where
  pub gather_range : (f g : ℕ → Option A) (a n : ℕ) → ((i : ℕ) → a ≤ i → i < a + n → f i ≡ g i) →
      gather f (range a n) ≡ gather g (range a n)
  gather_range f g a n h = gather_same f g (range a n) (λ i j. let (l, u) = range_in a n i j in h i l u)

  cons_after : (o : Option A) (xs ys : List A) → cons_option o (xs ++ ys) ≡ cons_option o xs ++ ys
  unfolding cons_option
  cons_after none xs ys = refl
  cons_after (some x) xs ys = refl

  pub gather_more : (f : ℕ → Option A) (a n : ℕ) → gather f (range a (suc n)) ≡ gather f (range a n) ++ cons_option (f (a + n)) []
  unfolding gather range
  gather_more f a zero = ap (λ (i : ℕ). cons_option (f i) []) (sym (add-zero a))
  gather_more f a (suc n) =
      ap (cons_option (f a)) (gather_more f (suc a) n)
      ∙ cons_after (f a) (gather f (range (suc a) n)) (cons_option (f (suc a + n)) [])
      ∙ ap (λ (i : ℕ). cons_option (f a) (gather f (range (suc a) n)) ++ cons_option (f i) []) shift
    where
      shift : suc a + n ≡ a + suc n
      shift = omega arith

  -- an entry, where there is one, passes a test or fails it
  abbrev pub Tests : (A → Bool) → Bool → Option A → Type 0
  Tests p b none = Unit {0}
  Tests p b (some x) = p x ≡ b

  keep_cons : (p : A → Bool) (o : Option A) (xs : List A) → Tests p true o → keep p (cons_option o xs) ≡ cons_option o (keep p xs)
  unfolding keep cons_option
  keep_cons p none xs t = refl
  keep_cons p (some x) xs t = rw t

  drop_cons : (p : A → Bool) (o : Option A) (xs : List A) → Tests p false o → keep p (cons_option o xs) ≡ keep p xs
  unfolding keep cons_option
  drop_cons p none xs t = refl
  drop_cons p (some x) xs t = rw t

  -- the entries among the first k of n numbers pass, and no other
  pub keep_gathered : (p : A → Bool) (f : ℕ → Option A) (a n k : ℕ) → k ≤ n → ((i : ℕ) → a ≤ i → i < a + k → Tests p true (f i)) →
      ((i : ℕ) → a + k ≤ i → i < a + n → Tests p false (f i)) → keep p (gather f (range a n)) ≡ gather f (range a k)
  unfolding gather range keep
  keep_gathered p f a zero zero l y n = refl
  keep_gathered p f a zero (suc k) l y n = absurd (omega arith)
  keep_gathered p f a (suc m) zero l y n =
      drop_cons p (f a) (gather f (range (suc a) m)) (n a (omega arith) (omega arith))
      ∙ keep_gathered p f (suc a) m zero (omega arith) (λ i g h. absurd (omega arith)) (λ i g h. n i (omega arith) (omega arith))
  keep_gathered p f a (suc m) (suc k) l y n =
      keep_cons p (f a) (gather f (range (suc a) m)) (y a (omega arith) (omega arith))
      ∙ ap (cons_option (f a))
      (keep_gathered p f (suc a) m k (omega arith) (λ i g h. y i (omega arith) (omega arith))
      (λ i g h. n i (omega arith) (omega arith)))

  any_option : (A → Bool) → Option A → Bool
  any_option p none = false
  any_option p (some x) = p x

  any_gathered : (p : A → Bool) (f : ℕ → Option A) (q : ℕ → Bool) (g : ℕ → ℕ) (xs : List ℕ) →
      ((i : ℕ) → any_option p (f i) ≡ q (g i)) → any p (gather f xs) ≡ any q (map g xs)
  unfolding any gather cons_option any_option
  any_gathered p f q g [] h = refl
  any_gathered p f q g (x ∷ xs) h = go (f x) (h x) (any_gathered p f q g xs h)
    where
      go : (o : Option A) → any_option p o ≡ q (g x) → any p (gather f xs) ≡ any q (map g xs) →
          any p (cons_option o (gather f xs)) ≡ cond (q (g x)) true (any q (map g xs))
      go none e r = rw (sym e) r
      go (some y) e r = rw (sym e, r)

-- ---- the records of a table

-- an entry whose word and level are as before
pub entry_same : (p : ℕ → Bool) (s u : List ℕ) (lv lw : ℕ → ℕ) (i : ℕ) → at u ENTRY i ≡ at s ENTRY i → lw i ≡ lv i →
    entry_of p u lw i ≡ entry_of p s lv i
unfolding entry_of
entry_same p s u lv lw i k v j =
    cond (p (k j / max_lits)) (some (asserted (k j / max_lits) (k j % max_lits) (v j))) none

-- an entry of a key, if the test lets it through
pub entry_is : (p : ℕ → Bool) (u : List ℕ) (lv : ℕ → ℕ) (i k r : ℕ) → r < max_lits → at u ENTRY i ≡ entry_word k r →
    entry_of p u lv i ≡ cond (p k) (some (asserted k r (lv i))) none
unfolding entry_of
entry_is p u lv i k r h q =
    ap₂ (λ (x y : ℕ). cond (p x) (some (asserted x y (lv i))) none) (ap (λ (w : ℕ). w / max_lits) q ∙ word_key k r h)
    (ap (λ (w : ℕ). w % max_lits) q ∙ word_rest k r h)

pub record_same : (p : ℕ → Bool) (s u : List ℕ) (lv lw : ℕ → ℕ) (n : ℕ) → records# s ≡ n → records# u ≡ n →
    ((i : ℕ) → i < n → at u ENTRY i ≡ at s ENTRY i) → ((i : ℕ) → i < n → lw i ≡ lv i) → record_of p u lw ≡ record_of p s lv
unfolding record_of
record_same p s u lv lw n e q k v =
    ap (λ (m : ℕ). gather (entry_of p u lw) (range 0 m)) q
    ∙ gather_range (entry_of p u lw) (entry_of p s lv) 0 n
    (λ i g h. entry_same p s u lv lw i (k i (omega arith)) (v i (omega arith)))
    ∙ ap (λ (m : ℕ). gather (entry_of p s lv) (range 0 m)) (sym e)

-- an atom has an entry in a record of testers if its key is in the list
pub recorded_by_key : (b : Bool) (s : List ℕ) (lv : ℕ → ℕ) (x : ℕ) → x < max_terms →
    recorded (record_of (of_sign b) s lv) x ≡ any (eqb (tester_key b x)) (counted (entry_key s) (records# s))
unfolding recorded record_of counted entry_of asserted of_sign key_atom tester_key any_option
recorded_by_key b s lv x h =
    any_gathered test (entry_of (of_sign b) s lv) (eqb (tester_key b x)) (entry_key s) (range 0 (records# s))
    (λ i. each b (entry_key s i) (entry_rest s i) (lv i))
  where
    test : AssertedAtom → Bool
    test a = eqb a.atom x

    each : (d : Bool) (k r v : ℕ) → any_option test (cond (of_sign d k) (some (asserted k r v)) none) ≡ eqb (tester_key d x) k
    each true k r v = go (dec_lt k max_terms)
      where
        go : Dec (k < max_terms) → any_option test (cond (ltb k max_terms) (some (asserted k r v)) none) ≡ eqb x k
        go (yes g) =
            rw (lt-ltb k max_terms g, lt-ltb k UNEQUAL (omega arith)) (eqb_same k x x k (λ e. sym e) (λ e. sym e))
        go (no g) = rw (le-ltb k max_terms (omega arith)) (sym (ne_eqb x k (omega arith)))
    each false k r v = go (dec_lt k max_terms) (dec_lt k UNEQUAL)
      where
        go : Dec (k < max_terms) → Dec (k < UNEQUAL) →
            any_option test (cond (not (ltb k max_terms) && ltb k UNEQUAL) (some (asserted k r v)) none) ≡ eqb (x + max_terms) k
        go (yes g) e = rw (lt-ltb k max_terms g) (sym (ne_eqb (x + max_terms) k (omega arith)))
        go (no g) (yes e) =
            rw (le-ltb k max_terms (omega arith), lt-ltb k UNEQUAL e)
            (eqb_same (k - max_terms) x (x + max_terms) k (λ q. omega arith) (λ q. omega arith))
        go (no g) (no e) =
            rw (le-ltb k max_terms (omega arith), le-ltb k UNEQUAL (omega arith)) (sym (ne_eqb (x + max_terms) k (omega arith)))

-- a negative literal has an entry in the record of unequal terms if its key is in the list
pub listed_by_key : (s : List ℕ) (lv : ℕ → ℕ) (l : ℕ) → Ids.is_positive l ≡ false →
    has_literal (record_of of_unequal s lv) l ≡ any (eqb (unequal_key l)) (counted (entry_key s) (records# s))
unfolding has_literal record_of counted entry_of asserted of_unequal unequal_key any_option
listed_by_key s lv l h =
    any_gathered test (entry_of of_unequal s lv) (eqb (unequal_key l)) (entry_key s) (range 0 (records# s))
    (λ i. each (entry_key s i) (entry_rest s i) (lv i))
  where
    test : AssertedAtom → Bool
    test a = eqb a.lit l

    odd : (l % 2 ≡ 0 → ⊥)
    odd = eqb-false (l % 2) 0 h

    each : (k r v : ℕ) → any_option test (cond (not (ltb k UNEQUAL)) (some (asserted k r v)) none) ≡ eqb (UNEQUAL + Ids.var l) k
    each k r v = go (dec_lt k UNEQUAL)
      where
        go : Dec (k < UNEQUAL) →
            any_option test (cond (not (ltb k UNEQUAL)) (some (asserted k r v)) none) ≡ eqb (UNEQUAL + Ids.var l) k
        go (yes g) = rw (lt-ltb k UNEQUAL g) (sym (ne_eqb (UNEQUAL + Ids.var l) k (omega arith)))
        go (no g) =
            let o = odd in
            rw (le-ltb k UNEQUAL (omega arith))
            (eqb_same (2 * (k - UNEQUAL) + 1) l (UNEQUAL + Ids.var l) k (λ q. omega arith) (λ q. omega arith))
