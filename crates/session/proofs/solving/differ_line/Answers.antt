-- The questions in order.
use Rattle.shinri_core.proofs.Kit.{ap, not}
use Rattle.session.proofs.Memory.Solving.{differ_named, differ_may, differ_early, differ_missing, differ_other, differ_done}
use Rattle.session.proofs.solving.differ_line.Goals as goal

pub returns-then-not-closed : goal.returns-then-not-closed
returns-then-not-closed c = search differ_early

pub returns-then-not-var_exists : goal.returns-then-not-var_exists
returns-then-not-var_exists c = search differ_missing

pub disequality-requires : goal.disequality-requires
disequality-requires c = search differ_named

pub returns-then-not-disequality : goal.returns-then-not-disequality
returns-then-not-disequality c = search differ_other

pub differ-requires : goal.differ-requires
differ-requires c =
    differ_may _ _ _ _ c.requires c.var_exists.ensures (ap not c.if-not-var_exists.false) _ c.disequality.ensures (ap not c.if-not-disequality.false)

pub returns : goal.returns
returns c =
    differ_done (ap not c.if-not-closed.false) c.var_exists.ensures (ap not c.if-not-var_exists.false) c.disequality.ensures
    (ap not c.if-not-disequality.false) c.differ.ensures
