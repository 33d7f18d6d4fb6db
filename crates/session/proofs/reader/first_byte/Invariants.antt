-- The byte is at no place from the start up to i.
use Rattle.shinri_core.proofs.Kit.{length, get_or, eqb}
use Rattle.shinri_core.proofs.Memory.Searching.{Searched}
use Rattle.session.proofs.reader.first_byte.Given as goal

abbrev pub invariant-loop-i : goal.invariant-loop-i
invariant-loop-i l = Searched (λ k. eqb (get_or l.s k 0) l.b) l.from l.i (length l.s)
