-- Texts written one behind the other are one text, and so are those of a list.
use Rattle.shinri_core.proofs.Kit.{ℕ, zero, suc, ◌+◌, ◌-◌, ◌≤◌, ◌<◌, ◌≡◌, refl, sym, subst, subst⁻¹, ap, ◌∙◌, List, [], ◌∷◌, ◌++◌, append_assoc, add-zero, arith, length, get_or, take, drop, set, length-append, sets, length-sets, length-take-le, take_all}
use lib.Seq.{take-suc, take-nil}
use borrow.Rule.Slice.PartMut.{put_mid, Post-is}
use Rattle.std.proofs.lemmas.List.Edits.{sets-eq}
use Rattle.session.specs.Text.{comma, joined}
use Rattle.session.specs.Memory.Answers.{Written, Room, parting}

-- ---- one text behind another

sets_more : (b : List ℕ) (i : ℕ) (xs ys : List ℕ) → sets (sets b i xs) (i + length xs) ys ≡ sets b i (xs ++ ys)
sets_more b i [] ys = ap (λ (k : ℕ). sets b k ys) (add-zero i)
sets_more b i (x ∷ xs) ys =
    let e : i + suc (length xs) ≡ suc i + length xs = omega arith in
    ap (λ (k : ℕ). sets (sets (set b i x) (suc i) xs) k ys) e ∙ sets_more (set b i x) (suc i) xs ys

pub written_nothing : (b : List ℕ) (start : ℕ) → start ≤ length b → Written b start [] b start
written_nothing b start h = record { bytes = refl; ends = omega arith; within = h }

-- a text in the place of as many bytes
pub text_put : (b : List ℕ) (start : ℕ) (text : List ℕ) → Room b start text →
    Written b start text (put_mid start (start + length text - start) b text) (start + length text)
text_put b start text h = record {
  bytes = ap (λ (l : List ℕ). take start b ++ (text ++ l)) (Post-is start (start + length text) b (omega arith))
      ∙ sym (append_assoc (take start b) text (drop (start + length text) b)) ∙ sym (sets-eq text b start h);
  ends = refl;
  within = h;
}

module _ {b : List ℕ} {start : ℕ} {xs b' : List ℕ} {r : ℕ} (w : Written b start xs b' r) where
  pub written_length : length b' ≡ length b
  written_length = ap length w.bytes ∙ length-sets b start xs

  pub written_as : {ys : List ℕ} → ys ≡ xs → Written b start ys b' r
  written_as e = subst⁻¹ (λ (text : List ℕ). Written b start text b' r) e w

  pub written_more : {ys b'' : List ℕ} {r' : ℕ} → Written b' r ys b'' r' → Written b start (xs ++ ys) b'' r'
  written_more {ys} {r' = r'} v =
      let e = w.ends in
      let n = length-append xs ys in
      record {
        bytes = v.bytes ∙ rw (w.bytes, e) (sets_more b start xs ys);
        ends = v.ends ∙ omega arith;
        within = subst (λ (k : ℕ). r' ≤ k) written_length v.within;
      }

-- ---- a list

pub parting_first : (i : ℕ) → i ≡ 0 → parting i ≡ []
unfolding parting
parting_first i e = rw e

pub parting_later : (i : ℕ) → (i ≡ 0 → ⊥) → parting i ≡ comma ∷ []
unfolding parting
parting_later zero n = absurd (n refl)
parting_later (suc i) n = refl

pub joined_last : (ts : List (List ℕ)) (t : List ℕ) → joined comma (ts ++ (t ∷ [])) ≡ joined comma ts ++ parting (length ts) ++ t
unfolding joined parting
joined_last [] t = refl
joined_last (x ∷ []) t = sym (append_assoc x (comma ∷ []) t)
joined_last (x ∷ y ∷ ys) t =
    rw (joined_last (y ∷ ys) t) (simp append_assoc)

joined_part : (ts : List (List ℕ)) (i : ℕ) → length (joined comma (take i ts)) ≤ length (joined comma ts)
unfolding joined
joined_part ts zero = omega arith
joined_part [] (suc i) = omega arith
joined_part (x ∷ []) (suc i) = rw (take-nil i) (omega arith)
joined_part (x ∷ y ∷ ys) (suc zero) = rw length-append (omega arith)
joined_part (x ∷ y ∷ ys) (suc (suc i)) = let h = joined_part (y ∷ ys) (suc i) in simp length-append (omega arith)

pub joined_more : (ts : List (List ℕ)) (i : ℕ) → i < length ts →
    joined comma (take (suc i) ts) ≡ joined comma (take i ts) ++ parting i ++ get_or ts i []
joined_more ts i h =
    let n : length (take i ts) ≡ i = length-take-le i ts (omega arith) in
    rw (take-suc ts i [] h, joined_last, n)

-- the first i of a list of texts are written, and there is room for all
pub record Listing (ts : List (List ℕ)) (b₀ : List ℕ) (start : ℕ) (b : List ℕ) (r i : ℕ) : Type 0 where
  pub room : Room b₀ start (joined comma ts)
  pub within : i ≤ length ts
  pub done : Written b₀ start (joined comma (take i ts)) b r

module _ {ts : List (List ℕ)} {b₀ : List ℕ} {start : ℕ} where
  pub list_first : Room b₀ start (joined comma ts) → Listing ts b₀ start b₀ start 0
  unfolding joined
  list_first h = record { room = h; within = omega arith; done = written_nothing b₀ start (omega arith) }

  module _ {b : List ℕ} {r i : ℕ} (l : Listing ts b₀ start b r i) where
    -- the next text has room behind what parts it from those before
    fits : i < length ts → r + length (parting i) + length (get_or ts i []) ≤ length b
    fits h =
        let all = joined_part ts (suc i) in
        let more = ap length (joined_more ts i h) in
        let two = length-append (joined comma (take i ts) ++ parting i) (get_or ts i []) in
        let one = length-append (joined comma (take i ts)) (parting i) in
        let kept = written_length l.done in
        let ends = l.done.ends in
        let room = l.room in
        omega arith

    pub parting_fits : i < length ts → Room b r (parting i)
    parting_fits h = let f = fits h in omega arith

    module _ {b' : List ℕ} {r' : ℕ} (w : Written b r (parting i) b' r') {text : List ℕ} (h : i < length ts) (e : text ≡ get_or ts i []) where
      pub text_fits : Room b' r' text
      text_fits =
          let f = fits h in
          let same = ap length e in
          let kept = written_length w in
          let ends = w.ends in
          omega arith

      pub list_next : {b'' : List ℕ} {r'' : ℕ} → Written b' r' text b'' r'' → Listing ts b₀ start b'' r'' (i + 1)
      list_next v =
          let n : i + 1 ≡ suc i = omega arith in
          record {
            room = l.room;
            within = omega arith;
            done = written_as (written_more (written_more l.done w) v) (rw (n, joined_more ts i h, e));
          }

    pub list_done : length ts ≤ i → Written b₀ start (joined comma ts) b r
    list_done h = written_as l.done (rw (take_all i ts h))
