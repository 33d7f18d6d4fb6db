-- By the sign.
use Rattle.shinri_core.proofs.Kit.{true, false}
use Rattle.solver.proofs.Memory.Asserting.{positive_asked, by_sign}
use Rattle.solver.proofs.asserting.asserted_conflict.Goals as goal

pub tester_conflict-requires : goal.tester_conflict-requires
tester_conflict-requires c = search positive_asked

pub returns-then-positive : goal.returns-then-positive
returns-then-positive c = by_sign true c.if-positive.true c.tester_conflict.ensures

pub returns : goal.returns
returns c = by_sign false c.if-positive.false c.negative_conflict.ensures
