-- The first i elements are written.
use Rattle.session.proofs.Memory.Printing.{Listing}
use Rattle.session.proofs.answer.write_list.Given as goal

abbrev pub invariant-loop-i : goal.invariant-loop-i
invariant-loop-i g l = Listing (g.T.Element.texts l.o) l.initial.buf l.at l.buf l.end l.i
