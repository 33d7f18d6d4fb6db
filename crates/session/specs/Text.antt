-- Bytes, numbers in decimal, and lists parted by a byte.
use Rattle.std.specs.Prelude.{ℕ, zero, suc, ◌+◌, ◌-◌, ◌*◌, ◌/◌, ◌%◌, Bool, false, cond, ◌&&◌, eqb, leb, ltb}
use Prim.Native.String as S
use Prim.Native.Char as C
use mathlib.Core.List.{List, [], ◌∷◌, ◌++◌, foldl}
use Rattle.std.proofs.Math.Option.{Option, none, some}
use Rattle.shinri_core.specs.Lists.{every}

-- a text as bytes
unfoldable pub bytes : S.String → List ℕ
bytes S.[] = []
bytes (S.◌∷◌ c s) = C.code c ∷ bytes s

abbrev pub LF : ℕ
LF = 10

abbrev pub comma : ℕ
comma = 44

abbrev pub equals : ℕ
equals = 61

-- ---- parting

unfoldable pub cons_first : ℕ → List (List ℕ) → List (List ℕ)
cons_first b [] = (b ∷ []) ∷ []
cons_first b (l ∷ ls) = (b ∷ l) ∷ ls

-- the parts that a byte parts; a text without it is one part
unfoldable pub parts : ℕ → List ℕ → List (List ℕ)
parts sep [] = [] ∷ []
parts sep (b ∷ bs) = let r = parts sep bs in cond (eqb b sep) ([] ∷ r) (cons_first b r)

-- Lines end in LF; the last may lack it.
unfoldable pub lines : List ℕ → List (List ℕ)
lines [] = []
lines (b ∷ bs) = let r = lines bs in cond (eqb b LF) ([] ∷ r) (cons_first b r)

unfoldable pub joined : ℕ → List (List ℕ) → List ℕ
joined sep [] = []
joined sep (x ∷ []) = x
joined sep (x ∷ y ∷ ys) = x ++ (sep ∷ joined sep (y ∷ ys))

-- ---- decimal

-- the digits of n before the text that follows. The first number bounds how many: n has at most n + 1 digits.
unfoldable pub digits_before : ℕ → ℕ → List ℕ → List ℕ
digits_before zero n rest = rest
digits_before (suc k) n rest =
    let more = digits_before k (n / 10) ((48 + n % 10) ∷ rest) in
    cond (ltb n 10) ((48 + n) ∷ rest) more

unfoldable pub decimal : ℕ → List ℕ
decimal n = digits_before (suc n) n []

unfoldable pub is_digit : ℕ → Bool
is_digit b = leb 48 b && leb b 57

unfoldable pub value : List ℕ → ℕ
value ds = foldl (λ n d. n * 10 + (d - 48)) 0 ds

-- without leading zeros
unfoldable pub well_written : List ℕ → Bool
well_written [] = false
well_written (d ∷ []) = is_digit d
well_written (d ∷ e ∷ es) = leb 49 d && leb d 57 && every is_digit (e ∷ es)

-- 01: decimal numbers up to 4,294,967,295 without leading zeros
unfoldable pub number : List ℕ → Option ℕ
number ds = cond (well_written ds && leb (value ds) 4294967295) (some (value ds)) none

unfoldable pub text_definitions : Unit {0}
unfolding bytes cons_first parts lines joined digits_before decimal is_digit value well_written number
text_definitions = tt
