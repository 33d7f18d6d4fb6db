-- The next rule is tried if the first passes.
use Rattle.shinri_core.proofs.Kit.{arith}
use Rattle.solver.specs.Rules.{constructor_clash}
use Rattle.solver.specs.Memory.Checks.{from_tester_clash}
use Rattle.solver.specs.Check.{before_ring}
use Rattle.solver.proofs.Memory.Unfitting.{from_tester_clash_onward}
use Rattle.solver.proofs.Memory.Checking.{lone_passed, then_on, then_stop}
use Rattle.solver.proofs.Memory.Trying.{is_sat, is_answer}
use Rattle.solver.proofs.check.before_ring.Goals as goal

pub returns-then-ne : goal.returns-then-ne
unfolding before_ring
returns-then-ne c =
    then_stop constructor_clash from_tester_clash (is_answer _ c.ne.ensures c.if-ne.true) from_tester_clash_onward c.constructor_clash-r.ensures

pub from_tester_clash-requires : goal.from_tester_clash-requires
from_tester_clash-requires c =
    let same = c.constructor_clash-r.auto.out in
    let long = c.requires.long in (
      record { check = c.constructor_clash-r.ensures.sound; chain = c.requires.chain; long = omega arith },
      lone_passed (is_sat _ c.ne.ensures c.if-ne.false) c.constructor_clash-r.ensures,
    )

pub returns : goal.returns
unfolding before_ring
returns c =
    then_on constructor_clash from_tester_clash (is_sat _ c.ne.ensures c.if-ne.false)
    c.constructor_clash-r.ensures c.from_tester_clash.ensures
