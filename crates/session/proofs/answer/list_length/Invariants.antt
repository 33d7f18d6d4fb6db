-- The first i elements are counted.
use Rattle.shinri_core.proofs.Kit.{◌+◌}
use Rattle.session.proofs.Memory.Lengths.{Counting}
use Rattle.session.proofs.answer.list_length.Given as goal

abbrev pub invariant-loop-i : goal.invariant-loop-i
invariant-loop-i g l = Counting (g.T.Element.texts l.o) (1 + g.T.Element.longest) l.sum l.i
