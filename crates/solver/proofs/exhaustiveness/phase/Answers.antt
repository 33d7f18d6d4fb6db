-- By the number of fields.
use Rattle.solver.specs.Memory.Answer.{phase_meaning}
use Rattle.solver.proofs.Memory.Splitting.{phase_none, phase_some}
use Rattle.solver.proofs.exhaustiveness.phase.Goals as goal

pub returns-then-arity-eq0 : goal.returns-then-arity-eq0
unfolding phase_meaning
returns-then-arity-eq0 c = phase_none _ _ _ c.arity.ensures.0 c.if-arity-eq0.true

pub returns-else-arity-eq0 : goal.returns-else-arity-eq0
unfolding phase_meaning
returns-else-arity-eq0 c = phase_some _ _ _ c.arity.ensures.0 c.if-arity-eq0.false
