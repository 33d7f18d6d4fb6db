-- Laws of the numbers that stand for operations and roles, and of sorts packed four to a word.
use Rattle.shinri_core.proofs.Kit.{ℕ, zero, suc, ◌+◌, ◌-◌, ◌*◌, ◌/◌, ◌%◌, ◌≤◌, ◌<◌, ◌≡◌, refl, sym, ap, ◌∙◌, subst, List, [], ◌∷◌, add-one, arith, length, get_or}
use Rattle.shinri_core.specs.Term.{Constructor, Tester, Selector, Function, Eq, Uninterpreted}
use Rattle.shinri_core.specs.Limits.{max_sorts, max_params}
use Rattle.shinri_core.specs.Memory.Table.{digit, packed, packed_words, op_of, role_of, member_role, context, AllBelow}
use Rattle.shinri_core.specs.Context.{symbol, sort_of, result_of}
use Rattle.shinri_core.specs.declared.ids.SymbolId.{SymbolId}
use Rattle.shinri_core.specs.Memory.Codes.{op_code, op_meaning, OpBelow, RoleBelow, OpAt}
use Rattle.shinri_core.specs.declared.term.Op as Op
use Rattle.shinri_core.specs.declared.term.DtRole as DtRole

pub op_of_zero : (w : ℕ) → w ≡ 0 → Eq ≡ op_of w
unfolding op_of
op_of_zero w e = rw e

pub op_of_pred : (w : ℕ) → (w ≡ 0 → ⊥) → Uninterpreted (w - 1) ≡ op_of w
unfolding op_of
op_of_pred zero n = absurd (n refl)
op_of_pred (suc w) n = let e : suc w - 1 ≡ w = omega arith in ap Uninterpreted e

-- the word of an operation, read back
pub code_means : (o : Op.Op) → op_of (op_code o) ≡ op_meaning o
unfolding op_of op_code op_meaning
code_means Op.TheVariants.Eq = refl
code_means (Op.TheVariants.Uninterpreted s) = refl

pub role_of_zero : (s w : ℕ) → w ≡ 0 → Function ≡ role_of s w
unfolding role_of
role_of_zero s w e = rw e

-- symbol s is member d of constructor c
pub role_of_member : (s w c d : ℕ) → w ≡ c + 1 → s ≡ c + d → role_of s w ≡ member_role c d
unfolding role_of
role_of_member s w c d e q = let p : s - c ≡ d = omega arith in ap (role_of s) (e ∙ add-one c) ∙ ap (member_role c) p

pub ctor_role : (c : ℕ) → role_of c (c + 1) ≡ Constructor
unfolding member_role
ctor_role c = role_of_member c (c + 1) c 0 refl (omega arith)

pub tester_role : (c : ℕ) → role_of (c + 1) (c + 1) ≡ Tester c
unfolding member_role
tester_role c = role_of_member (c + 1) (c + 1) c 1 refl refl

pub selector_role : (c i : ℕ) → role_of (c + 2 + i) (c + 1) ≡ Selector c i
unfolding member_role
selector_role c i = role_of_member (c + 2 + i) (c + 1) c (suc (suc i)) refl (omega arith)

-- a declared symbol stays below a larger bound
pub op_below : (m n : ℕ) (r : Op.Op) → m ≤ n → OpBelow m r → OpBelow n r
unfolding OpBelow
op_below m n Op.TheVariants.Eq h b = tt
op_below m n (Op.TheVariants.Uninterpreted s) h b = omega arith

pub role_below : (m n : ℕ) (r : DtRole.DtRole) → m ≤ n → RoleBelow m r → RoleBelow n r
unfolding RoleBelow
role_below m n DtRole.TheVariants.Constructor h b = tt
role_below m n (DtRole.TheVariants.Tester c) h b = omega arith
role_below m n (DtRole.TheVariants.Selector c i) h b = omega arith
role_below m n DtRole.TheVariants.Function h b = tt

-- ---- an operation that a match has found

pub symbol_below : {t : List ℕ} {x : ℕ} {r : Op.Op} {f : SymbolId} → OpAt t x r → r ≡ Op.TheVariants.Uninterpreted f →
    f.0 < length (context t).symbols
unfolding OpBelow
symbol_below {t} o e = subst (OpBelow (length (context t).symbols)) e o.declared

pub eq_sort : {t : List ℕ} {x : ℕ} {r : Op.Op} → OpAt t x r → r ≡ Op.TheVariants.Eq → 0 ≡ sort_of (context t) x
unfolding sort_of result_of op_meaning
eq_sort {t} o e = ap (result_of (context t)) (sym (ap op_meaning e) ∙ o.is)

pub symbol_sort : {t : List ℕ} {x : ℕ} {r : Op.Op} {f : SymbolId} {q : ℕ} → OpAt t x r → r ≡ Op.TheVariants.Uninterpreted f →
    q ≡ (symbol (context t) f.0).result → q ≡ sort_of (context t) x
unfolding sort_of result_of op_meaning
symbol_sort {t} o e p = p ∙ ap (result_of (context t)) (sym (ap op_meaning e) ∙ o.is)

-- ---- four sorts in a word

-- what the digits of a word count by
abbrev pub digit_places : List ℕ
digit_places = 1 ∷ 64 ∷ 4096 ∷ 262144 ∷ []

pub place_counts : (d : ℕ) → d < 4 → 0 < get_or digit_places d 0
place_counts zero h = omega arith
place_counts (suc zero) h = omega arith
place_counts (suc (suc zero)) h = omega arith
place_counts (suc (suc (suc zero))) h = omega arith
place_counts (suc (suc (suc (suc d)))) h = absurd (omega arith)

pub digit_there : (w d : ℕ) → d < 4 → w / get_or digit_places d 0 % 64 ≡ digit w d
unfolding digit
digit_there w zero h = omega arith
digit_there w (suc zero) h = refl
digit_there w (suc (suc zero)) h = refl
digit_there w (suc (suc (suc zero))) h = refl
digit_there w (suc (suc (suc (suc d)))) h = absurd (omega arith)

-- a number below 64 there
place_at_most : (d x : ℕ) → x < 64 → get_or digit_places d 0 * x ≤ 16515072
place_at_most zero x h = omega arith
place_at_most (suc zero) x h = omega arith
place_at_most (suc (suc zero)) x h = omega arith
place_at_most (suc (suc (suc zero))) x h = omega arith
place_at_most (suc (suc (suc (suc d)))) x h = omega arith

-- the word of the first d of four numbers
unfoldable pub packed_first : List ℕ → ℕ → ℕ → ℕ
packed_first xs q zero = 0
packed_first xs q (suc d) = packed_first xs q d + get_or digit_places d 0 * get_or xs (4 * q + d) 0

-- a loop has packed the first d of them
pub record Packing (xs : List ℕ) (q d word : ℕ) : Type 0 where
  pub is : word ≡ packed_first xs q d
  pub small : word ≤ d * 16515072

pub pack_none : (xs : List ℕ) (q : ℕ) → Packing xs q 0 0
unfolding packed_first
pack_none xs q = record { is = refl; small = omega arith }

pub pack_fits : {xs : List ℕ} {q d word x : ℕ} → Packing xs q d word → d < 4 → x < 64 →
    (get_or digit_places d 0 * x ≤ 16515072) × (word + get_or digit_places d 0 * x ≤ (d + 1) * 16515072)
pack_fits {d = d} {x = x} w h l = let s = w.small in let p = place_at_most d x l in (p, omega arith)

pub pack_more : {xs : List ℕ} {q d word x : ℕ} → Packing xs q d word → d < 4 → x < 64 → x ≡ get_or xs (4 * q + d) 0 →
    Packing xs q (d + 1) (word + get_or digit_places d 0 * x)
unfolding packed_first
pack_more {xs} {q} {d} {word} {x} w h l e = record {
  is = rw (add-one d, ← w.is, ← e);
  small = (pack_fits w h l).1;
}

pub pack_all : {xs : List ℕ} {q d word : ℕ} → Packing xs q d word → d ≡ 4 → word ≡ packed xs q
unfolding packed packed_first
pack_all {xs} {q} w e =
    let z : 4 * q + 0 ≡ 4 * q = omega arith in
    w.is ∙ rw (e, z) (omega arith)

-- past its end a list gives 0
pub each_below : (xs : List ℕ) (n : ℕ) → 0 < n → AllBelow n xs → (i : ℕ) → get_or xs i 0 < n
each_below [] n p a i = p
each_below (x ∷ xs) n p a zero = a 0 (omega arith)
each_below (x ∷ xs) n p a (suc i) = each_below xs n p (λ j l. a (suc j) (omega arith)) i

module _ (xs : List ℕ) (a : AllBelow max_sorts xs) where
  digit_of : (q d : ℕ) → d < 4 → digit (packed xs q) d ≡ get_or xs (4 * q + d) 0
  unfolding digit packed
  digit_of q d h =
      let e = each_below xs max_sorts (omega arith) a in go d h (e (4 * q)) (e (4 * q + 1)) (e (4 * q + 2)) (e (4 * q + 3))
    where
      go : (d : ℕ) → d < 4 → get_or xs (4 * q) 0 < 64 → get_or xs (4 * q + 1) 0 < 64 → get_or xs (4 * q + 2) 0 < 64 →
          get_or xs (4 * q + 3) 0 < 64 → digit (packed xs q) d ≡ get_or xs (4 * q + d) 0
      go zero h p₀ p₁ p₂ p₃ = let z : 4 * q + 0 ≡ 4 * q = omega arith in rw z (omega arith)
      go (suc zero) h p₀ p₁ p₂ p₃ = omega arith
      go (suc (suc zero)) h p₀ p₁ p₂ p₃ = omega arith
      go (suc (suc (suc zero))) h p₀ p₁ p₂ p₃ = omega arith
      go (suc (suc (suc (suc d)))) h p₀ p₁ p₂ p₃ = absurd (omega arith)

  word_of : (q : ℕ) → q < 4 → get_or (packed_words xs) q 0 ≡ packed xs q
  unfolding packed_words
  word_of zero h = refl
  word_of (suc zero) h = refl
  word_of (suc (suc zero)) h = refl
  word_of (suc (suc (suc zero))) h = refl
  word_of (suc (suc (suc (suc q)))) h = absurd (omega arith)

  -- number i of a list, out of the words that hold it
  pub digit_packed : (i : ℕ) → i < max_params → digit (get_or (packed_words xs) (i / 4) 0) (i % 4) ≡ get_or xs i 0
  digit_packed i h =
      let e : 4 * (i / 4) + i % 4 ≡ i = omega arith in
      ap (λ (w : ℕ). digit w (i % 4)) (word_of (i / 4) (omega arith))
      ∙ digit_of (i / 4) (i % 4) (omega arith)
      ∙ ap (λ (j : ℕ). get_or xs j 0) e
