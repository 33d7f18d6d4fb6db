-- The digits before the next make n, and what all make is what the others make behind n.
use Rattle.session.proofs.Memory.Parsing.{Digits}
use Rattle.session.proofs.numbers.read_digits.Given as goal

abbrev pub invariant-loop-d : goal.invariant-loop-d
invariant-loop-d l = Digits l.ds l.n l.d-index
