-- The lowest application of the class, by its operation.
use Rattle.shinri_core.proofs.Kit.{refl}
use Rattle.solver.proofs.Memory.Working.{no_ctor, lowest_within, no_equation, the_ctor}
use Rattle.solver.proofs.work.ctor_of_class.Goals as goal

pub returns-in_err-app : goal.returns-in_err-app
returns-in_err-app c = rw c.from_residual.ensures (no_ctor _ _ _ _ 0 c.in_err-app.ensures refl)

pub op-requires : goal.op-requires
op-requires c = (c.requires.core, lowest_within _ _ _ _ _ c.in_ok-app.ensures refl)

pub returns-in-Eq : goal.returns-in-Eq
returns-in-Eq c = absurd (no_equation _ _ _ _ _ c.in_ok-app.ensures refl c.op.ensures c.in-Eq.is)

pub returns-in-Uninterpreted : goal.returns-in-Uninterpreted
returns-in-Uninterpreted c = the_ctor _ _ _ _ _ c.in_ok-app.ensures refl c.op.ensures c.in-Uninterpreted.is refl
