-- The symbols below s were tried.
use Rattle.shinri_core.proofs.Memory.Rounds.{Rounding}
use Rattle.shinri_core.proofs.context.mark_round.Given as goal

abbrev pub invariant-loop-s : goal.invariant-loop-s
invariant-loop-s l = Rounding l.t l.initial.found l.s l.added l.found
