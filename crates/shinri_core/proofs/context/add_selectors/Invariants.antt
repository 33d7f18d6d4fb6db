-- The selectors below i stand at the end of the symbols.
use Rattle.shinri_core.proofs.Memory.Declarations.{Selecting}
use Rattle.shinri_core.proofs.context.add_selectors.Given as goal

abbrev pub invariant-loop-i : goal.invariant-loop-i
invariant-loop-i l = Selecting l.initial.t l.c.0 l.fn.dt.0 l.fields l.t l.i
