-- Variables and literals (Lit of ids.rs), in plain arithmetic. 01: literal L is 2 × V, plus 1 if negative.
use Rattle.std.specs.Prelude.{ℕ, ◌+◌, ◌-◌, ◌*◌, ◌/◌, ◌%◌, Bool, cond, eqb}

-- Lit::new
abbrev pub lit : ℕ → Bool → ℕ
lit v positive = cond positive (2 * v) (2 * v + 1)

-- Lit::var
abbrev pub var : ℕ → ℕ
var l = l / 2

-- Lit::is_positive
abbrev pub is_positive : ℕ → Bool
is_positive l = eqb (l % 2) 0

-- Lit::negate
abbrev pub negate : ℕ → ℕ
negate l = cond (is_positive l) (l + 1) (l - 1)
