-- The next rule is tried if the first passes.
use Rattle.shinri_core.proofs.Kit.{arith}
use Rattle.solver.specs.Rules.{tester_clash}
use Rattle.solver.specs.Memory.Checks.{from_negative_clash}
use Rattle.solver.proofs.Memory.Unfitting.{from_negative_clash_onward}
use Rattle.solver.proofs.Memory.Checking.{then_on, then_stop}
use Rattle.solver.proofs.Memory.Trying.{is_sat, is_answer}
use Rattle.solver.proofs.check.from_tester_clash.Goals as goal

pub returns-then-ne : goal.returns-then-ne
returns-then-ne c =
    then_stop tester_clash from_negative_clash (is_answer _ c.ne.ensures c.if-ne.true) from_negative_clash_onward c.tester_clash-r.ensures

pub from_negative_clash-requires : goal.from_negative_clash-requires
from_negative_clash-requires c =
    let same = c.tester_clash-r.auto.out in
    let long = c.requires.0.long in
    (record { check = c.tester_clash-r.ensures.sound; chain = c.requires.0.chain; long = omega arith }, c.requires.1)

pub returns : goal.returns
returns c =
    then_on tester_clash from_negative_clash (is_sat _ c.ne.ensures c.if-ne.false)
    c.tester_clash-r.ensures c.from_negative_clash.ensures
