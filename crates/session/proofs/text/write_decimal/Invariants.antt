-- The digits from the place on stand; those of the rest end there.
use Rattle.session.proofs.Memory.Backward.{Backward}
use Rattle.session.proofs.text.write_decimal.Given as goal

abbrev pub invariant-loop-place : goal.invariant-loop-place
invariant-loop-place l = Backward l.initial.buf l.at l.n l.buf l.rest l.place
