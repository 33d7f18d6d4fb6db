-- The next rule is tried if the first passes.
use Rattle.solver.specs.Rules.{negative_clash}
use Rattle.solver.specs.Memory.Checks.{from_disequality_clash}
use Rattle.solver.proofs.Memory.Unfitting.{from_disequality_clash_onward}
use Rattle.solver.proofs.Memory.Checking.{then_on, then_stop}
use Rattle.solver.proofs.Memory.Trying.{is_sat, is_answer}
use Rattle.solver.proofs.check.from_negative_clash.Goals as goal

pub returns-then-ne : goal.returns-then-ne
returns-then-ne c =
    then_stop negative_clash from_disequality_clash (is_answer _ c.ne.ensures c.if-ne.true) from_disequality_clash_onward c.negative_clash-r.ensures

pub returns : goal.returns
returns c =
    then_on negative_clash from_disequality_clash (is_sat _ c.ne.ensures c.if-ne.false)
    c.negative_clash-r.ensures c.from_disequality_clash.ensures
