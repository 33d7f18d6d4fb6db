-- The symbols below s are no constructors of the datatype.
use Rattle.shinri_core.specs.Context.{builds}
use Rattle.shinri_core.specs.Memory.Table.{context}
use Rattle.shinri_core.proofs.Memory.Searching.{Searched}
use Rattle.shinri_core.proofs.context.next_constructor.Given as goal

abbrev pub invariant-loop-s : goal.invariant-loop-s
invariant-loop-s l = Searched (builds (context l.t) l.dt.0) l.from l.s l.s-end
