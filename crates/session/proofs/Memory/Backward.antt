-- A decimal number written from its last digit to its first: what stands are the digits behind a place, and those of the rest end there.
use Rattle.shinri_core.proofs.Kit.{ℕ, suc, ◌+◌, ◌-◌, ◌≤◌, ◌<◌, ◌/◌, ◌%◌, ◌≡◌, refl, sym, ap, ◌∙◌, Bool, true, false, List, [], ◌∷◌, ◌++◌, append_assoc, append-nil, arith, ltb, ltb-true, ltb-false, length, length-append, set, sets, length-sets}
use lib.Seq.{set_comm}
use Rattle.session.specs.Text.{decimal}
use Rattle.session.specs.Memory.Answers.{Room, Written}
use Rattle.session.proofs.Memory.Digits.{decimal_digit, decimal_digits}

-- a byte before some others may be stored first
set_before : (b : List ℕ) (i j d : ℕ) (xs : List ℕ) → i < j → set (sets b j xs) i d ≡ sets (set b i d) j xs
set_before b i j d [] h = refl
set_before b i j d (x ∷ xs) h =
    set_before (set b j x) i (suc j) d xs (omega arith) ∙ ap (λ (c : List ℕ). sets c (suc j) xs) (set_comm b j i x d (λ e. omega arith))

-- What is left of the digits is those of the rest, or nothing.
pub record Backward (b₀ : List ℕ) (start n : ℕ) (b : List ℕ) (rest p : ℕ) : Type 0 where
  pub left : List ℕ
  pub tail : List ℕ
  pub whole : decimal n ≡ left ++ tail
  pub of_rest : 0 < length left → left ≡ decimal rest
  pub place : p ≡ start + length left
  pub bytes : b ≡ sets b₀ p tail
  pub room : Room b₀ start (decimal n)

pub back_first : {b : List ℕ} {start n k : ℕ} → Room b start (decimal n) → k ≡ length (decimal n) → Backward b start n b n (start + k)
back_first {b} {start} {n} h e = record {
  left = decimal n;
  tail = [];
  whole = sym (append-nil (decimal n));
  of_rest = λ l. refl;
  place = omega arith;
  bytes = refl;
  room = h;
}

module _ {b₀ : List ℕ} {start n : ℕ} {b : List ℕ} {rest p : ℕ} (w : Backward b₀ start n b rest p) where
  back_length : length b ≡ length b₀
  back_length = ap length w.bytes ∙ length-sets b₀ p w.tail

  pub back_within : p ≤ length b
  back_within =
      let all = ap length w.whole ∙ length-append w.left w.tail in
      let place = w.place in
      let room = w.room in
      let kept = back_length in
      omega arith

  -- the last of what is left goes to the place before
  back_byte : (d : ℕ) (left : List ℕ) → w.left ≡ left ++ (d ∷ []) → (0 < length left → left ≡ decimal (rest / 10)) →
      Backward b₀ start n (set b (p - 1) d) (rest / 10) (p - 1)
  back_byte d left e r =
      let more = ap length e ∙ length-append left (d ∷ []) in
      let place = w.place in
      let next : suc (p - 1) ≡ p = omega arith in
      record {
        left = left;
        tail = d ∷ w.tail;
        whole = w.whole ∙ rw (e, append_assoc);
        of_rest = r;
        place = omega arith;
        bytes = ap (λ (c : List ℕ). set c (p - 1) d) w.bytes ∙ set_before b₀ (p - 1) p d w.tail (omega arith)
            ∙ ap (λ (k : ℕ). sets (set b₀ (p - 1) d) k w.tail) (sym next);
        room = w.room;
      }

  pub back_next : start < p → Backward b₀ start n (set b (p - 1) (48 + rest % 10)) (rest / 10) (p - 1)
  back_next h = go (ltb rest 10) refl
    where
      left_rest : w.left ≡ decimal rest
      left_rest = w.of_rest (let place = w.place in omega arith)

      go : (t : Bool) → ltb rest 10 ≡ t → Backward b₀ start n (set b (p - 1) (48 + rest % 10)) (rest / 10) (p - 1)
      go true e =
          let small = ltb-true rest 10 e in
          let same : rest % 10 ≡ rest = omega arith in
          back_byte (48 + rest % 10) [] (left_rest ∙ decimal_digit rest small ∙ ap (λ (d : ℕ). (48 + d) ∷ []) (sym same)) (λ l. absurd (omega arith))
      go false e = back_byte (48 + rest % 10) (decimal (rest / 10)) (left_rest ∙ decimal_digits rest (ltb-false rest 10 e)) (λ l. refl)

  pub back_done : {r : ℕ} → p ≤ start → r ≡ start + length (decimal n) → Written b₀ start (decimal n) b r
  back_done {r} h e =
      let place = w.place in
      let room = w.room in
      let here : p ≡ start = omega arith in
      let text = w.whole ∙ ap (λ (ds : List ℕ). ds ++ w.tail) (nothing w.left (omega arith)) in
      record { bytes = w.bytes ∙ rw (here, text); ends = e; within = omega arith }
    where
      nothing : (xs : List ℕ) → length xs ≡ 0 → xs ≡ []
      nothing [] l = refl
      nothing (x ∷ xs) l = absurd (omega arith)
