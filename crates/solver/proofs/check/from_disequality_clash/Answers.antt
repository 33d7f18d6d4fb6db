-- The next rule is tried if the first passes.
use Rattle.solver.specs.Rules.{disequality_clash}
use Rattle.solver.specs.Memory.Checks.{from_injectivity}
use Rattle.solver.proofs.Memory.Unfitting.{from_injectivity_onward}
use Rattle.solver.proofs.Memory.Checking.{then_on, then_stop}
use Rattle.solver.proofs.Memory.Disequalities.{check_unequal, unequal_tried}
use Rattle.solver.proofs.Memory.Trying.{is_sat, is_answer}
use Rattle.solver.proofs.check.from_disequality_clash.Goals as goal

pub disequality_clash-r-requires : goal.disequality_clash-r-requires
disequality_clash-r-requires c =
    let z = c.requires in
    check_unequal z.check z.long

pub returns-then-ne : goal.returns-then-ne
returns-then-ne c =
    let z = c.requires in
    then_stop disequality_clash from_injectivity (is_answer _ c.ne.ensures c.if-ne.true) from_injectivity_onward
    (unequal_tried z.check c.disequality_clash-r.ensures)

pub returns : goal.returns
returns c =
    let z = c.requires in
    then_on disequality_clash from_injectivity (is_sat _ c.ne.ensures c.if-ne.false)
    (unequal_tried z.check c.disequality_clash-r.ensures) c.from_injectivity.ensures
