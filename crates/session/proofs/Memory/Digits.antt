-- Decimal numbers: the last digit stands behind the others, and how many there are.
use Rattle.shinri_core.proofs.Kit.{ℕ, zero, suc, ◌+◌, ◌≤◌, ◌<◌, ◌*◌, ◌/◌, ◌%◌, ◌≡◌, refl, ap, ◌∙◌, Bool, true, false, cond, List, [], ◌∷◌, ◌++◌, append_assoc, arith, le-ltb, ltb, ltb-true, ltb-false, length, length-append}
use Rattle.std.specs.Prelude.{◌^◌, Option, None, Some, IfNone, IfSome, unwrap_or}
use Rattle.std.proofs.Math.Nat.{pow-succ'}
use borrow.Author.Tests.{lt-ltb}
use Rattle.session.specs.Text.{digits_before, decimal}

-- what follows stands behind the digits
digits_behind : (k n : ℕ) (rest : List ℕ) → digits_before k n rest ≡ digits_before k n [] ++ rest
unfolding digits_before
digits_behind zero n rest = refl
digits_behind (suc k) n rest = go (ltb n 10) (digits_behind k (n / 10) (d ∷ rest)) (digits_behind k (n / 10) (d ∷ []))
  where
    d : ℕ
    d = 48 + n % 10

    before : List ℕ → List ℕ
    before = digits_before k (n / 10)

    go : (b : Bool) → before (d ∷ rest) ≡ before [] ++ (d ∷ rest) → before (d ∷ []) ≡ before [] ++ (d ∷ []) →
        cond b ((48 + n) ∷ rest) (before (d ∷ rest)) ≡ cond b ((48 + n) ∷ []) (before (d ∷ [])) ++ rest
    go true e f = refl
    go false e f = e ∙ rw (f, append_assoc)

-- a bound above the number is as good as another
digits_bound : (j k n : ℕ) → n < j → n < k → digits_before j n [] ≡ digits_before k n []
unfolding digits_before
digits_bound zero k n h g = absurd (omega arith)
digits_bound (suc j) zero n h g = absurd (omega arith)
digits_bound (suc j) (suc k) n h g = go (ltb n 10) refl (λ l m. digits_bound j k (n / 10) l m)
  where
    d : ℕ
    d = 48 + n % 10

    go : (b : Bool) → ltb n 10 ≡ b → (n / 10 < j → n / 10 < k → digits_before j (n / 10) [] ≡ digits_before k (n / 10) []) →
        cond b ((48 + n) ∷ []) (digits_before j (n / 10) (d ∷ [])) ≡ cond b ((48 + n) ∷ []) (digits_before k (n / 10) (d ∷ []))
    go true e f = refl
    go false e f =
        let l = ltb-false n 10 e in
        rw (digits_behind j (n / 10) (d ∷ []), digits_behind k (n / 10) (d ∷ []), f (omega arith) (omega arith))

pub decimal_digit : (n : ℕ) → n < 10 → decimal n ≡ (48 + n) ∷ []
unfolding decimal digits_before
decimal_digit n h = rw (lt-ltb n 10 h)

pub decimal_digits : (n : ℕ) → 10 ≤ n → decimal n ≡ decimal (n / 10) ++ ((48 + n % 10) ∷ [])
unfolding decimal digits_before
decimal_digits n h =
    let same = digits_bound n (suc (n / 10)) (n / 10) (omega arith) (omega arith) in
    rw (le-ltb n 10 h) (digits_behind n (n / 10) ((48 + n % 10) ∷ []) ∙ ap (λ (ds : List ℕ). ds ++ ((48 + n % 10) ∷ [])) same)

pub digits_length : (n : ℕ) → 10 ≤ n → length (decimal n) ≡ length (decimal (n / 10)) + 1
digits_length n h = ap length (decimal_digits n h) ∙ length-append (decimal (n / 10)) ((48 + n % 10) ∷ [])

pub decimal_some : (n : ℕ) → 1 ≤ length (decimal n)
decimal_some n = go (ltb n 10) refl
  where
    go : (b : Bool) → ltb n 10 ≡ b → 1 ≤ length (decimal n)
    go true e = omega (arith, ap length (decimal_digit n (ltb-true n 10 e)))
    go false e = omega (arith, digits_length n (ltb-false n 10 e))

decimal_short : (k n : ℕ) → n < 10 * 10 ^ k → length (decimal n) ≤ suc k
decimal_short zero n h = rw (decimal_digit n h) (omega arith)
decimal_short (suc k) n h = go (ltb n 10) refl (decimal_short k (n / 10) (let p = pow-succ' 10 k in omega arith))
  where
    go : (b : Bool) → ltb n 10 ≡ b → length (decimal (n / 10)) ≤ suc k → length (decimal n) ≤ suc (suc k)
    go true e few = rw (decimal_digit n (ltb-true n 10 e)) (omega arith)
    go false e few = rw (digits_length n (ltb-false n 10 e)) (omega arith)

decimal_long : (k n : ℕ) → 10 ^ k ≤ n → suc k ≤ length (decimal n)
decimal_long zero n h = decimal_some n
decimal_long (suc k) n h =
    let p = pow-succ' 10 k in
    let one = pow_some k in
    let more = decimal_long k (n / 10) (omega arith) in
    rw (digits_length n (omega arith)) (omega arith)
  where
    pow_some : (j : ℕ) → 1 ≤ 10 ^ j
    pow_some zero = omega arith
    pow_some (suc j) = let q = pow-succ' 10 j in let l = pow_some j in omega arith

-- one more than the logarithm; 0 has one digit
pub digits_counted : (n : ℕ) (r : Option ℕ) → IfNone r (n ≡ 0) → IfSome r (λ k. 10 ^ k ≤ n) → IfSome r (λ k. n < 10 * 10 ^ k) →
    unwrap_or r 0 + 1 ≡ length (decimal n)
digits_counted n None z l h = let one = ap length (decimal_digit n (omega arith)) in omega arith
digits_counted n (Some k) z l h = let few = decimal_short k n h in let many = decimal_long k n l in omega arith

pub ten_counted : (r : Option ℕ) → IfSome r (λ k. k < 10) → unwrap_or r 0 + 1 ≤ 10
ten_counted None h = omega arith
ten_counted (Some k) h = omega arith
