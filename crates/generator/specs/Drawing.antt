-- What the generator gives: a number of a sequence for each seed, and a checksum.
use Rattle.std.specs.Prelude.{ℕ, ◌+◌, ◌*◌, ◌/◌, ◌%◌, bit_xor}

-- a number of 31 bits from a seed and a place in its sequence
abbrev start : ℕ → ℕ → ℕ
start seed k = (seed * 48271 + k * 16807) % 2147483647

-- that number with its high bits mixed into the low ones
abbrev stirred : ℕ → ℕ
stirred x = bit_xor x (x / 4096) % 2147483648 * 69621 % 2147483647

-- the k-th number up to n that a seed gives; of n its last 16 bits count
abbrev pub drawn : ℕ → ℕ → ℕ → ℕ
drawn seed k n = stirred (start seed k) % (n % 65536 + 1)

-- the checksum with one more answer
abbrev pub mixed : ℕ → ℕ → ℕ
mixed sum answer = (sum * 48271 + answer) % 4294967291
