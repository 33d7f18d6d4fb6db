-- The first d of the four are in the word.
use Rattle.shinri_core.proofs.Memory.Codes.{Packing}
use Rattle.shinri_core.proofs.context.pack.Given as goal

abbrev pub invariant-loop-d : goal.invariant-loop-d
invariant-loop-d l = Packing l.sorts l.q l.d l.word
