-- Where a byte stands in a text, where a line of the script ends, and where its key does.
use Rattle.std.specs.Prelude.{ℕ, ◌≤◌, ◌<◌, ◌≡◌, false, List, eqb, length, get_or, Option, IfSome, unwrap_or}
use Rattle.session.specs.Text.{LF}

-- the first byte b from a place on stands at r, or there is none and r is the end
pub record FirstByte (b : ℕ) (s : List ℕ) (start r : ℕ) : Type 0 where
  pub after : start ≤ r
  pub within : r ≤ length s
  pub inside : (i : ℕ) → start ≤ i → i < r → eqb (get_or s i 0) b ≡ false
  pub ends : r < length s → get_or s r 0 ≡ b

-- it stands at r, or there is none
pub record FindsByte (b : ℕ) (s : List ℕ) (start : ℕ) (r : Option ℕ) : Type 0 where
  pub ends : FirstByte b s start (unwrap_or r (length s))
  pub within : IfSome r (λ i. i < length s)

-- the line that begins at a place ends at r: there is an LF or the end of the script, and none before it
abbrev pub LineEnd : List ℕ → ℕ → ℕ → Type 0
LineEnd script start r = FirstByte LF script start r

-- the first r bytes of a line: all of it, or so many that a key with its equals sign is within them
pub record KeyRoom (line : List ℕ) (r : ℕ) : Type 0 where
  pub within : r ≤ length line
  pub enough : r < length line → 7 ≤ r
