-- The first of a byte in a text: what lines, parts and key=value are before and behind it.
use Rattle.shinri_core.proofs.Kit.{ℕ, zero, suc, ◌+◌, ◌-◌, ◌≤◌, ◌<◌, ◌≡◌, refl, sym, ap, ap₂, ◌∙◌, subst, subst⁻¹, Bool, true, false, cond, List, [], ◌∷◌, Option, none, some, add-one, arith, dec_lt, eq-eqb, eqb, length, get_or, take, drop, length-drop, drop_of_length-le, get_or-take, get_or-drop, length-take-le, take_all}
use Rattle.std.specs.Prelude.{None, Some, unwrap_or}
use Rattle.std.specs.declared.option.Option as GivenOption
use lib.Seq.{drop-drop, take-nil, drop-nil}
use Rattle.shinri_core.proofs.Memory.Searching.{Searched}
use Rattle.shinri_core.specs.Lists.{first, same_list}
use Rattle.shinri_core.proofs.Lists.{same_list_not}
use Rattle.session.specs.Text.{LF, equals, bytes, cons_first, parts, lines}
use Rattle.session.specs.Line.{Key, SortKey, CtorKey, FunKey, CloseKey, TermKey, EqKey, VarKey, EquateKey, CongKey, IfaceKey, AssertKey, DifferKey, PushKey, PopKey, CheckKey, key_text, keys, after_byte, key_and_value, known, read_parts, read_line}
use Rattle.session.specs.Memory.Lines.{FirstByte, FindsByte, LineEnd, KeyRoom}

-- ---- the search

module _ {b : ℕ} {s : List ℕ} {start i : ℕ} (w : Searched (λ k. eqb (get_or s k 0) b) start i (length s)) where
  pub found_here : i < length s → get_or s i 0 ≡ b → FirstByte b s start i
  found_here l e = record { after = w.after; within = w.within; inside = w.none; ends = λ _. e }

  pub found_none : length s ≤ i → FirstByte b s start (length s)
  found_none l =
      let a = w.after in
      let h = w.within in
      record { after = omega arith; within = omega arith; inside = λ k g m. w.none k g (omega arith); ends = λ m. absurd (omega arith) }

-- the place of the byte, or the end
module _ {b : ℕ} {s : List ℕ} {start : ℕ} {r : GivenOption.Option ℕ} (f : FindsByte b s start r) {n : ℕ} (e : n ≡ unwrap_or r (length s)) where
  pub found_end : FirstByte b s start n
  found_end = subst⁻¹ (λ (k : ℕ). FirstByte b s start k) e f.ends

-- ---- in a text's rest

module _ (b : ℕ) where
  -- a place of a text is a place of its rest
  in_rest : (s : List ℕ) (start r : ℕ) → FirstByte b s start r → FirstByte b (drop start s) 0 (r - start)
  in_rest s start r f =
      let e = length-drop start s in
      let a = f.after in
      let w = f.within in
      record {
        after = omega arith;
        within = omega arith;
        inside = λ i l h. ap (λ (x : ℕ). eqb x b) (get_or-drop start s i 0) ∙ f.inside (start + i) (omega arith) (omega arith);
        ends = λ h. get_or-drop start s (r - start) 0 ∙ ap (λ (i : ℕ). get_or s i 0) (omega arith) ∙ f.ends (omega arith);
      }

  -- the first byte is not it
  behind_first : (x : ℕ) (s : List ℕ) (k : ℕ) → FirstByte b (x ∷ s) 0 (suc k) → FirstByte b s 0 k
  behind_first x s k f =
      let w = f.within in
      record {
        after = omega arith;
        within = omega arith;
        inside = λ i l h. f.inside (suc i) (omega arith) (omega arith);
        ends = λ h. f.ends (omega arith);
      }

  other_first : (x : ℕ) (s : List ℕ) (k : ℕ) → FirstByte b (x ∷ s) 0 (suc k) → eqb x b ≡ false
  other_first x s k f = f.inside 0 (omega arith) (omega arith)

  is_first : (x : ℕ) (s : List ℕ) → FirstByte b (x ∷ s) 0 0 → eqb x b ≡ true
  is_first x s f = eq-eqb x b (f.ends (omega arith))

-- the rest behind a place of the rest
behind : (s : List ℕ) (start r : ℕ) → start ≤ r → drop (suc (r - start)) (drop start s) ≡ drop (suc r) s
behind s start r h =
    let e : start + suc (r - start) ≡ suc r = omega arith in
    drop-drop (suc (r - start)) start s ∙ ap (λ (n : ℕ). drop n s) e

-- ---- lines

lines_whole : (s : List ℕ) (k : ℕ) → FirstByte LF s 0 k → 0 < length s → lines s ≡ take k s ∷ lines (drop (suc k) s)
unfolding lines cons_first
lines_whole [] k f h = absurd (omega arith)
lines_whole (x ∷ s) zero f h = rw (is_first LF x s f)
lines_whole (x ∷ []) (suc k) f h =
    rw (other_first LF x [] k f) (ap₂ (λ (a b : List ℕ). (x ∷ a) ∷ lines b) (sym (take-nil k)) (sym (drop-nil (suc k))))
lines_whole (x ∷ y ∷ s) (suc k) f h =
    rw (other_first LF x (y ∷ s) k f, lines_whole (y ∷ s) k (behind_first LF x (y ∷ s) k f) (omega arith))

pub lines_from : (s : List ℕ) (start r : ℕ) → start < length s → LineEnd s start r →
    lines (drop start s) ≡ take (r - start) (drop start s) ∷ lines (drop (suc r) s)
lines_from s start r h f =
    lines_whole (drop start s) (r - start) (in_rest LF s start r f) (omega (arith, length-drop start s))
    ∙ ap (λ (l : List ℕ). take (r - start) (drop start s) ∷ lines l) (behind s start r f.after)

pub lines_end : (s : List ℕ) (n : ℕ) → length s ≤ n → lines (drop n s) ≡ []
unfolding lines
lines_end s n h = rw (drop_of_length-le s h)

-- ---- parts

module _ (sep : ℕ) where
  part_whole : (s : List ℕ) (k : ℕ) → FirstByte sep s 0 k → k < length s → parts sep s ≡ take k s ∷ parts sep (drop (suc k) s)
  unfolding parts cons_first
  part_whole [] k f h = absurd (omega arith)
  part_whole (x ∷ s) zero f h = rw (is_first sep x s f)
  part_whole (x ∷ s) (suc k) f h = rw (other_first sep x s k f, part_whole s k (behind_first sep x s k f) (omega arith))

  last_whole : (s : List ℕ) → FirstByte sep s 0 (length s) → parts sep s ≡ s ∷ []
  unfolding parts cons_first
  last_whole [] f = refl
  last_whole (x ∷ s) f = rw (other_first sep x s (length s) f, last_whole s (behind_first sep x s (length s) f))

  pub part_from : (s : List ℕ) (start r : ℕ) → FirstByte sep s start r → r < length s →
      parts sep (drop start s) ≡ take (r - start) (drop start s) ∷ parts sep (drop (suc r) s)
  part_from s start r f h =
      let a = f.after in
      part_whole (drop start s) (r - start) (in_rest sep s start r f) (omega (arith, length-drop start s))
      ∙ ap (λ (l : List ℕ). take (r - start) (drop start s) ∷ parts sep l) (behind s start r a)

  pub last_from : (s : List ℕ) (start r : ℕ) → FirstByte sep s start r → r ≡ length s →
      parts sep (drop start s) ≡ take (r - start) (drop start s) ∷ []
  last_from s start r f h =
      let a = f.after in
      let e : length (drop start s) ≡ r - start = length-drop start s ∙ ap (λ (n : ℕ). n - start) (sym h) in
      last_whole (drop start s) (subst (λ (n : ℕ). FirstByte sep (drop start s) 0 n) (sym e) (in_rest sep s start r f))
      ∙ ap (λ (l : List ℕ). l ∷ []) (sym (take_all (r - start) (drop start s) (omega arith)))

  -- there is a part
  pub some_part : (s : List ℕ) → (p : List ℕ) × (ps : List (List ℕ)) × (parts sep s ≡ p ∷ ps)
  unfolding parts cons_first
  some_part [] = ([], [], refl)
  some_part (x ∷ s) = go (eqb x sep) (some_part s)
    where
      go : (b : Bool) → (p : List ℕ) × (ps : List (List ℕ)) × (parts sep s ≡ p ∷ ps)
          → (p : List ℕ) × (ps : List (List ℕ)) × (cond b ([] ∷ parts sep s) (cons_first x (parts sep s)) ≡ p ∷ ps)
      go true w = ([], parts sep s, refl)
      go false (p, ps, e) = (x ∷ p, ps, ap (cons_first x) e)

  pub first_part : (s : List ℕ) (start r : ℕ) → FirstByte sep s start r →
      (ps : List (List ℕ)) × (parts sep (drop start s) ≡ take (r - start) (drop start s) ∷ ps)
  first_part s start r f = go (dec_lt r (length s))
    where
      go : Dec (r < length s) → (ps : List (List ℕ)) × (parts sep (drop start s) ≡ take (r - start) (drop start s) ∷ ps)
      go (yes h) = (parts sep (drop (suc r) s), part_from s start r f h)
      go (no h) = ([], last_from s start r f (let w = f.within in omega arith))

-- ---- key=value

parted_whole : (s : List ℕ) (k : ℕ) → FirstByte equals s 0 k → k < length s → key_and_value s ≡ some (take k s, drop (suc k) s)
unfolding key_and_value after_byte
parted_whole [] k f h = absurd (omega arith)
parted_whole (x ∷ s) zero f h = rw (is_first equals x s f)
parted_whole (x ∷ s) (suc k) f h = rw (other_first equals x s k f, parted_whole s k (behind_first equals x s k f) (omega arith))

-- the value is all that is left behind it
pub key_parted : (s : List ℕ) (k : ℕ) → FirstByte equals s 0 k → (k ≡ length s → ⊥) →
    key_and_value s ≡ some (take k s, take (length s - (k + 1)) (drop (k + 1) s))
key_parted s k f h =
    let w = f.within in
    let e = take_all (length s - (k + 1)) (drop (k + 1) s) (omega (arith, length-drop (k + 1) s)) in
    parted_whole s k f (omega arith) ∙ ap (λ (n : ℕ). some (take k s, drop n s)) (sym (add-one k))
    ∙ ap (λ (v : List ℕ). some (take k s, v)) (sym e)

pub no_key : (s : List ℕ) (k : ℕ) → FirstByte equals s 0 k → k ≡ length s → key_and_value s ≡ none
unfolding key_and_value after_byte
no_key [] k f h = refl
no_key (x ∷ s) zero f h = absurd (omega arith)
no_key (x ∷ s) (suc k) f h = rw (other_first equals x s k f, no_key s k (behind_first equals x s k f) (omega arith))

-- ---- the first bytes of a line

-- a key, if there is one, has n bytes or more
unfoldable LongKey : ℕ → Option (List ℕ × List ℕ) → Type 0
LongKey n none = Unit {0}
LongKey n (some (k, v)) = n ≤ length k

longer : (n x : ℕ) (o : Option (List ℕ × List ℕ)) → LongKey n o → LongKey (suc n) (after_byte x o)
unfolding LongKey after_byte
longer n x none l = tt
longer n x (some (k, v)) l = omega arith

any_key : (o : Option (List ℕ × List ℕ)) → LongKey 0 o
unfolding LongKey
any_key none = tt
any_key (some (k, v)) = omega arith

key_behind : (n : ℕ) (s : List ℕ) → n ≤ length s → ((i : ℕ) → i < n → eqb (get_or s i 0) equals ≡ false) → LongKey n (key_and_value s)
unfolding key_and_value
key_behind zero s l h = any_key (key_and_value s)
key_behind (suc n) [] l h = absurd (omega arith)
key_behind (suc n) (x ∷ s) l h =
    rw (h 0 (omega arith)) (longer n x (key_and_value s) (key_behind n s (omega arith) (λ i m. h (suc i) (omega arith))))

-- no key has more than six bytes
key_short : (k : Key) → length (key_text k) ≤ 6
unfolding key_text bytes
key_short SortKey = omega arith
key_short CtorKey = omega arith
key_short FunKey = omega arith
key_short CloseKey = omega arith
key_short TermKey = omega arith
key_short EqKey = omega arith
key_short VarKey = omega arith
key_short EquateKey = omega arith
key_short CongKey = omega arith
key_short IfaceKey = omega arith
key_short AssertKey = omega arith
key_short DifferKey = omega arith
key_short PushKey = omega arith
key_short PopKey = omega arith
key_short CheckKey = omega arith

other_key : (text : List ℕ) → 7 ≤ length text → (k : Key) → same_list text (key_text k) ≡ false
other_key text l k = same_list_not text (key_text k) (λ e. let m = ap length e in omega (arith, key_short k))

unknown_key : (text : List ℕ) → 7 ≤ length text → (ks : List Key) → first (λ k. same_list text (key_text k)) ks ≡ none
unfolding first
unknown_key text l [] = refl
unknown_key text l (k ∷ ks) = rw (other_key text l k, unknown_key text l ks)

long_unread : (o : Option (List ℕ × List ℕ)) → LongKey 7 o → read_parts o ≡ none
unfolding LongKey read_parts known
long_unread none l = refl
long_unread (some (k, v)) l = rw (unknown_key k l keys)

module _ {s : List ℕ} {r : ℕ} (z : KeyRoom s r) where
  none_before : {k : ℕ} → FirstByte equals (take r s) 0 k → (i : ℕ) → i < k → eqb (get_or s i 0) equals ≡ false
  none_before f i l =
      let e = length-take-le r s z.within in
      let w = f.within in
      ap (λ (x : ℕ). eqb x equals) (sym (get_or-take r s i 0 (omega arith))) ∙ f.inside i (omega arith) l

  -- an equals sign there is the line's first
  module _ {k : ℕ} (f : FindsByte equals (take r s) 0 (Some k)) where
    pub head_before : k < length s
    head_before = let e = length-take-le r s z.within in let w = f.within in let h = z.within in omega arith

    pub head_parted : key_and_value s ≡ some (take k s, take (length s - (k + 1)) (drop (k + 1) s))
    head_parted =
        let e = length-take-le r s z.within in
        let w = f.within in
        let h = z.within in
        key_parted s k
        (record {
          after = omega arith;
          within = omega arith;
          inside = λ i l m. none_before f.ends i m;
          ends = λ l. sym (get_or-take r s k 0 (omega arith)) ∙ f.ends.ends w;
        })
        (omega arith)

  -- without one the line does not read
  pub head_unread : FindsByte equals (take r s) 0 None → read_line s ≡ none
  unfolding read_line read_parts
  head_unread f = go (dec_lt r (length s))
    where
      none_in : (i : ℕ) → i < r → eqb (get_or s i 0) equals ≡ false
      none_in i l = let e = length-take-le r s z.within in none_before f.ends i (omega arith)

      go : Dec (r < length s) → read_line s ≡ none
      go (yes h) =
          let seven = z.enough h in
          long_unread (key_and_value s) (key_behind 7 s (omega arith) (λ i l. none_in i (omega arith)))
      go (no h) =
          let w = z.within in
          let all : FirstByte equals s 0 (length s) =
          record {
            after = omega arith;
            within = omega arith;
            inside = λ i l m. none_in i (omega arith);
            ends = λ l. absurd (omega arith);
          } in
          rw (no_key s (length s) all (omega arith))
