-- The questions in order.
use Rattle.shinri_core.proofs.Kit.{ap, not}
use Rattle.session.proofs.Memory.Solving.{assert_early, assert_missing, assert_may, assert_done}
use Rattle.session.proofs.solving.assert_line.Goals as goal

pub returns-then-not-closed : goal.returns-then-not-closed
returns-then-not-closed c = search assert_early

pub returns-then-not-var_exists : goal.returns-then-not-var_exists
returns-then-not-var_exists c = search assert_missing

pub assert-requires : goal.assert-requires
assert-requires c = assert_may _ _ _ _ _ _ c.requires.0 c.requires.1 c.var_exists.ensures (ap not c.if-not-var_exists.false)

pub returns : goal.returns
returns c = search assert_done
