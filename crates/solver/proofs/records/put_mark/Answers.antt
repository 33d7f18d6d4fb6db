-- By whether it is a constructor application.
use Rattle.solver.proofs.Memory.Announcing.{marked_app, marked_other}
use Rattle.solver.proofs.records.put_mark.Goals as goal

pub returns-then-kind : goal.returns-then-kind
returns-then-kind c = search marked_app

pub returns-else-kind : goal.returns-else-kind
returns-else-kind c = search marked_other
