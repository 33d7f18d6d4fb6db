-- The fields below i are ready.
use Rattle.shinri_core.proofs.Memory.Searching.{Searched}
use Rattle.shinri_core.proofs.Memory.Constructors.{UnreadyField}
use Rattle.shinri_core.proofs.context.has_ready_fields.Given as goal

abbrev pub invariant-loop-i : goal.invariant-loop-i
invariant-loop-i l = Searched (UnreadyField l.t l.found l.c.0) 0 l.i l.i-end
