-- The words below i are copied, and copying the others gives the whole copy.
use Rattle.shinri_core.proofs.Lists.{Copying}
use Rattle.shinri_core.proofs.context.copy_words.Given as goal

abbrev pub invariant-loop-i : goal.invariant-loop-i
invariant-loop-i l = Copying l.initial.t l.from l.words l.t l.i
