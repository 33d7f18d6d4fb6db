-- What reading decimal numbers promises.
use Rattle.std.specs.Prelude.{ℕ, ◌+◌, ◌-◌, ◌*◌, ◌≤◌, ◌≡◌, cond, ◌&&◌, leb, None, Some, MatchOption, take}
use mathlib.Core.List.{List, foldl}
use Rattle.std.proofs.Math.Option.{Option, none, some}
use Rattle.shinri_core.specs.Lists.{every}
use Rattle.session.specs.Text.{comma, parts, is_digit}
use Rattle.session.specs.Line.{Key, numbers, at_most_17}
use Rattle.session.specs.Memory.Commands.{max_numbers}
use Rattle.std.specs.declared.option.Option as Given

unfoldable pub number_meaning : Given.Option ℕ → Option ℕ
number_meaning (Some n) = some n
number_meaning None = none

-- the value of a number with digits behind it
unfoldable pub value_from : ℕ → List ℕ → ℕ
value_from n ds = foldl (λ m d. m * 10 + (d - 48)) n ds

-- the number that digits behind n write, whether or not zeros lead
unfoldable pub digits_from : ℕ → List ℕ → Option ℕ
digits_from n ds = cond (every is_digit ds && leb (value_from n ds) 4294967295) (some (value_from n ds)) none

-- one of the numbers of a value does not read, or there are more than 17
abbrev pub Unread : List ℕ → Type 0
Unread v = (k : Key) → at_most_17 k (numbers (parts comma v)) ≡ none

-- the numbers of a value stand at the start of a table: n of them, at most 17
pub record ReadTo (v : List ℕ) (n : ℕ) (ns : List ℕ) : Type 0 where
  pub any : 1 ≤ n
  pub most : n ≤ max_numbers
  pub is : numbers (parts comma v) ≡ some (take n ns)

-- the numbers of a value were read to the start of ns, so many, or none if they do not read
abbrev pub ReadsNumbers : List ℕ → Given.Option ℕ → List ℕ → Type 0
ReadsNumbers v r ns = MatchOption r (Unread v) (λ n. ReadTo v n ns)
