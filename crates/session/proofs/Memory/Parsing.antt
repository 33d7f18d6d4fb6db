-- Decimal numbers: digits read one by one, and the numbers of a value part by part.
use Rattle.shinri_core.proofs.Kit.{ℕ, suc, ◌+◌, ◌-◌, ◌*◌, ◌≤◌, ◌<◌, ◌≡◌, refl, sym, ap, ap₂, ◌∙◌, Bool, true, false, cond, ◌&&◌, false≢true, List, [], ◌∷◌, ◌++◌, append_assoc, append-nil, ◌⊎◌, inl, inr, Option, none, some, add-one, arith, dec_le, le-leb, lt-leb, leb, length, get_or, take, drop, set, length-set, length-append, length-take-le, drop-cons, drop_of_length-le}
use Rattle.std.specs.Char.{IsAsciiDigit, IsNotAsciiDigit}
use Rattle.shinri_core.specs.Lists.{every}
use Rattle.shinri_core.proofs.Lists.{and_no}
use lib.Seq.{take-suc-set}
use Rattle.session.specs.Text.{comma, parts, is_digit, value, well_written, number}
use Rattle.session.specs.Line.{Key, add_number, numbers, at_most_17}
use Rattle.session.specs.Memory.Lines.{FirstByte}
use Rattle.session.specs.Memory.Commands.{max_numbers}
use Rattle.session.specs.Memory.Numbers.{value_from, digits_from, Unread, ReadTo}
use Rattle.session.proofs.Memory.Splitting.{some_part, first_part, part_from, last_from}

-- ---- digits

pub digit_range : (d : ℕ) → is_digit d ≡ true → (48 ≤ d) × (d ≤ 57)
unfolding is_digit
digit_range d e = go (dec_le 48 d) (dec_le d 57)
  where
    go : Dec (48 ≤ d) → Dec (d ≤ 57) → (48 ≤ d) × (d ≤ 57)
    go (yes l) (yes h) = (l, h)
    go (yes l) (no h) = absurd (false≢true (sym (ap₂ ◌&&◌ (le-leb 48 d l) (lt-leb d 57 (omega arith))) ∙ e))
    go (no l) h = absurd (false≢true (sym (ap (λ (b : Bool). b && leb d 57) (lt-leb 48 d (omega arith))) ∙ e))

pub ascii_digit : (d : ℕ) → IsAsciiDigit d → is_digit d ≡ true
unfolding is_digit
ascii_digit d (l, h) = rw (le-leb 48 d l, le-leb d 57 h)

pub other_ascii : (d : ℕ) → IsNotAsciiDigit d → is_digit d ≡ false
unfolding is_digit
other_ascii d (inl h) = rw (lt-leb 48 d h)
other_ascii d (inr h) = rw (lt-leb d 57 h) (and_no (leb 48 d))

digits_good : (n d : ℕ) (ds : List ℕ) → is_digit d ≡ true → digits_from n (d ∷ ds) ≡ digits_from (n * 10 + (d - 48)) ds
unfolding digits_from value_from every
digits_good n d ds e = rw e

digits_bad : (n d : ℕ) (ds : List ℕ) → is_digit d ≡ false → digits_from n (d ∷ ds) ≡ none
unfolding digits_from every
digits_bad n d ds e = rw e

value_grows : (n : ℕ) (ds : List ℕ) → n ≤ value_from n ds
unfolding value_from
value_grows n [] = omega arith
value_grows n (d ∷ ds) = let h = value_grows (n * 10 + (d - 48)) ds in omega arith

digits_large : (n : ℕ) (ds : List ℕ) → 4294967295 < n → digits_from n ds ≡ none
unfolding digits_from
digits_large n ds h = rw (lt-leb (value_from n ds) 4294967295 (let g = value_grows n ds in omega arith)) (none_both (every is_digit ds))
  where
    none_both : (b : Bool) → cond (b && false) (some (value_from n ds)) none ≡ none
    none_both true = refl
    none_both false = refl

digits_none : (n : ℕ) → n ≤ 4294967295 → digits_from n [] ≡ some n
unfolding digits_from value_from every
digits_none n h = rw (le-leb n 4294967295 h)

-- the digits below i make n
pub record Digits (ds : List ℕ) (n i : ℕ) : Type 0 where
  pub within : i ≤ length ds
  pub small : n ≤ 4294967295
  pub rest : digits_from n (drop i ds) ≡ digits_from 0 ds

pub digits_first : (ds : List ℕ) → Digits ds 0 0
digits_first ds = record { within = omega arith; small = omega arith; rest = refl }

module _ {ds : List ℕ} {n i : ℕ} (w : Digits ds n i) (h : i < length ds) where
  -- the next digit, and the number with it
  abbrev d : ℕ
  d = get_or ds i 0

  abbrev m : ℕ
  m = n * 10 + (d - 48)

  this_first : digits_from n (d ∷ drop (suc i) ds) ≡ digits_from 0 ds
  this_first = ap (digits_from n) (sym (drop-cons ds i 0 h)) ∙ w.rest

  pub digits_next : is_digit d ≡ true → (v : ℕ) → v ≡ m → v ≤ 4294967295 → Digits ds v (i + 1)
  digits_next e v q l = record {
    within = omega arith;
    small = l;
    rest = rw q (ap (λ (j : ℕ). digits_from m (drop j ds)) (add-one i) ∙ sym (digits_good n d (drop (suc i) ds) e) ∙ this_first);
  }

  pub digits_other : is_digit d ≡ false → none ≡ digits_from 0 ds
  digits_other e = sym (digits_bad n d (drop (suc i) ds) e) ∙ this_first

  pub digits_over : is_digit d ≡ true → 4294967295 < m → none ≡ digits_from 0 ds
  digits_over e l = sym (digits_large m (drop (suc i) ds) l) ∙ sym (digits_good n d (drop (suc i) ds) e) ∙ this_first

pub digits_all : {ds : List ℕ} {n i : ℕ} → Digits ds n i → length ds ≤ i → some n ≡ digits_from 0 ds
digits_all {ds} {n} {i} w h = sym (digits_none n w.small) ∙ ap (digits_from n) (sym (drop_of_length-le ds h)) ∙ w.rest

-- ---- one number

pub number_empty : (ds : List ℕ) → length ds ≡ 0 → number ds ≡ none
unfolding number well_written
number_empty [] h = refl
number_empty (d ∷ ds) h = absurd (omega arith)

pub number_led : (ds : List ℕ) → 1 < length ds → get_or ds 0 0 ≡ 48 → number ds ≡ none
unfolding number well_written
number_led [] h e = refl
number_led (d ∷ []) h e = absurd (omega arith)
number_led (d ∷ x ∷ ds) h e = rw (lt-leb 49 d (omega arith))

plain_digit : (d : ℕ) → (d ≡ 48 → ⊥) → (leb 49 d && leb d 57) ≡ is_digit d
unfolding is_digit
plain_digit d e = go (dec_le 49 d)
  where
    go : Dec (49 ≤ d) → (leb 49 d && leb d 57) ≡ (leb 48 d && leb d 57)
    go (yes l) = rw (le-leb 49 d l, le-leb 48 d (omega arith))
    go (no l) = rw (lt-leb 49 d (omega arith), lt-leb 48 d (omega arith))

-- a digit alone may be zero
plain_digits : (ds : List ℕ) → (1 < length ds → get_or ds 0 0 ≡ 48 → ⊥) → (length ds ≡ 0 → ⊥) → well_written ds ≡ every is_digit ds
unfolding well_written every
plain_digits [] e h = absurd (h refl)
plain_digits (d ∷ []) e h = go (is_digit d)
  where
    go : (b : Bool) → b ≡ cond b true false
    go true = refl
    go false = refl
plain_digits (d ∷ x ∷ ds) e h =
    ap (λ (b : Bool). b && every is_digit (x ∷ ds)) (plain_digit d (e (omega arith))) ∙ go (is_digit d) (every is_digit (x ∷ ds))
  where
    go : (b r : Bool) → (b && r) ≡ cond b r false
    go true r = refl
    go false r = refl

pub number_plain : (ds : List ℕ) → (1 < length ds → get_or ds 0 0 ≡ 48 → ⊥) → (length ds ≡ 0 → ⊥) → number ds ≡ digits_from 0 ds
unfolding number value digits_from value_from
number_plain ds e h = rw (plain_digits ds e h)

-- ---- the numbers of a value

-- numbers with others behind them, if these read
unfoldable pub with_behind : List ℕ → Option (List ℕ) → Option (List ℕ)
with_behind xs none = none
with_behind xs (some ys) = some (xs ++ ys)

nothing_before : (o : Option (List ℕ)) → o ≡ with_behind [] o
unfolding with_behind
nothing_before none = refl
nothing_before (some ys) = refl

one_before : (xs : List ℕ) (x : ℕ) (o : Option (List ℕ)) → with_behind xs (add_number (some x) o) ≡ with_behind (xs ++ (x ∷ [])) o
unfolding with_behind add_number
one_before xs x none = refl
one_before xs x (some ys) = ap some (sym (append_assoc xs (x ∷ []) ys))

-- none, or one number and more
abbrev NoneOrSome : Option (List ℕ) → Type 0
NoneOrSome o = (o ≡ none) ⊎ ((y : ℕ) × (ys : List ℕ) × (o ≡ some (y ∷ ys)))

some_number : (p : List ℕ) (ps : List (List ℕ)) → NoneOrSome (numbers (p ∷ ps))
unfolding numbers add_number
some_number p ps = go (number p) (numbers ps)
  where
    go : (a : Option ℕ) (o : Option (List ℕ)) → NoneOrSome (add_number a o)
    go none o = inl refl
    go (some y) none = inl refl
    go (some y) (some ys) = inr (y, ys, refl)

-- the parts before a place are the first n numbers
pub record Taken (v start ns : List ℕ) (from n : ℕ) : Type 0 where
  pub within : from ≤ length v
  pub most : n ≤ max_numbers
  pub same : length ns ≡ length start
  pub rest : numbers (parts comma v) ≡ with_behind (take n ns) (numbers (parts comma (drop from v)))

pub taken_first : (v ns : List ℕ) → Taken v ns ns 0 0
taken_first v ns = record { within = omega arith; most = omega arith; same = refl; rest = nothing_before (numbers (parts comma v)) }

pub taken_over : {v start ns : List ℕ} {from n : ℕ} → Taken v start ns from n → max_numbers ≤ length start → max_numbers ≤ n → Unread v
unfolding with_behind at_most_17
taken_over {v} {start} {ns} {from} {n} w l h k =
    let (p, ps, e) = some_part comma (drop from v) in
    ap (at_most_17 k) (w.rest ∙ ap (λ (q : List (List ℕ)). with_behind (take n ns) (numbers q)) e)
    ∙ go k (numbers (p ∷ ps)) (some_number p ps)
  where
    go : (k : Key) (o : Option (List ℕ)) → NoneOrSome o → at_most_17 k (with_behind (take n ns) o) ≡ none
    go k o (inl e) = rw e
    go k o (inr (y, ys, e)) =
        let s = w.same in
        let m = length-append (take n ns) (y ∷ ys) in
        let g = length-take-le n ns (let q = w.most in omega arith) in
        rw (e, lt-leb (length (take n ns ++ (y ∷ ys))) 17 (omega arith))

module _ {v start ns : List ℕ} {from n end : ℕ} (w : Taken v start ns from n) (f : FirstByte comma v from end) where
  -- what was made of the first part of the rest
  part_read : (o : Option ℕ) (ps : List (List ℕ)) → o ≡ number (take (end - from) (drop from v)) →
      parts comma (drop from v) ≡ take (end - from) (drop from v) ∷ ps →
      numbers (parts comma v) ≡ with_behind (take n ns) (add_number o (numbers ps))
  unfolding numbers
  part_read o ps e q =
      w.rest ∙ ap (λ (qs : List (List ℕ)). with_behind (take n ns) (numbers qs)) q
      ∙ ap (λ (x : Option ℕ). with_behind (take n ns) (add_number x (numbers ps))) (sym e)

  pub taken_bad : none ≡ number (take (end - from) (drop from v)) → Unread v
  unfolding with_behind at_most_17 add_number
  taken_bad e k = let (ps, q) = first_part comma v from end f in ap (at_most_17 k) (part_read none ps e q)

  module _ (l : max_numbers ≤ length start) (h : n < 17) {x : ℕ} (e : some x ≡ number (take (end - from) (drop from v))) where
    one_more : take n ns ++ (x ∷ []) ≡ take (n + 1) (set ns n x)
    one_more = let s = w.same in sym (ap (λ (k : ℕ). take k (set ns n x)) (add-one n) ∙ take-suc-set ns n x (omega arith))

    with_one : (ps : List (List ℕ)) → parts comma (drop from v) ≡ take (end - from) (drop from v) ∷ ps →
        numbers (parts comma v) ≡ with_behind (take (n + 1) (set ns n x)) (numbers ps)
    with_one ps q =
        part_read (some x) ps e q ∙ one_before (take n ns) x (numbers ps) ∙ ap (λ (xs : List ℕ). with_behind xs (numbers ps)) one_more

    pub taken_last : end ≡ length v → ReadTo v (n + 1) (set ns n x)
    unfolding with_behind numbers
    taken_last g = record {
      any = omega arith;
      most = omega arith;
      is = with_one [] (last_from comma v from end f g) ∙ ap some (append-nil (take (n + 1) (set ns n x)));
    }

    pub taken_next : end < length v → Taken v start (set ns n x) (end + 1) (n + 1)
    taken_next g =
        let b = f.within in
        record {
          within = omega arith;
          most = omega arith;
          same = length-set ns n x ∙ w.same;
          rest = with_one (parts comma (drop (end + 1) v)) (part_from comma v from end f (omega arith)
              ∙ ap (λ (k : ℕ). take (end - from) (drop from v) ∷ parts comma (drop k v)) (sym (add-one end)));
        }
