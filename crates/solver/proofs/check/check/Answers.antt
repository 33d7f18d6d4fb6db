-- One that is not full; one that fits; one that does not, whose terms are given back.
use Rattle.shinri_core.proofs.Kit.{ap, not, ◌∙◌}
use Rattle.solver.proofs.Memory.Checking.{check_idle, check_fits, check_left, check_cut}
use Rattle.solver.proofs.check.check.Goals as goal

pub returns-then-not-full : goal.returns-then-not-full
returns-then-not-full c = search check_idle

pub truncate-requires : goal.truncate-requires
truncate-requires c =
    check_left c.check_fully-r.ensures c.term_count-n.ensures.0 (c.is_err.ensures.negation ∙ ap not c.if-is_err.true)

pub returns-then-is_err : goal.returns-then-is_err
returns-then-is_err c =
    check_cut c.check_fully-r.ensures c.term_count-n.ensures.0 (c.is_err.ensures.negation ∙ ap not c.if-is_err.true)
    (ap not c.if-not-full.false) c.requires.0 c.truncate.ensures.0 c.truncate.ensures.1

pub returns-else-is_err : goal.returns-else-is_err
returns-else-is_err c =
    check_fits c.check_fully-r.ensures (ap not c.if-not-full.false) (c.is_err.ensures.negation ∙ ap not c.if-is_err.false)
