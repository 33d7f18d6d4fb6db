use Rattle.solver.proofs.Memory.Splitting.{test_first, testable, test_next, test_lacks, test_done}
use Rattle.solver.proofs.Memory.NoRooms.{no_room}
use Rattle.solver.proofs.exhaustiveness.make_testers.Goals as goal

pub loop-f-init : goal.loop-f-init
loop-f-init c = test_first c.requires c.clear_split.ensures

pub make_tester-requires : goal.make_tester-requires
make_tester-requires c = testable c.requires c.loop-f.invariant c.sort_of-sort.ensures.0 c.in-Some.ensures

pub returns-in_err-make_tester : goal.returns-in_err-make_tester
returns-in_err-make_tester c =
    rw (no_room c.from_residual.result c.from_residual.ensures.0)
    (test_lacks c.requires c.loop-f.invariant c.sort_of-sort.ensures.0 c.in-Some.ensures c.in_err-make_tester.ensures)

pub loop-f-preserved : goal.loop-f-preserved
loop-f-preserved c =
    test_next c.requires c.loop-f.invariant c.sort_of-sort.ensures.0 c.in-Some.ensures
    c.in_ok-make_tester.ensures c.make_tester.auto.t c.make_tester.auto.out

pub returns : goal.returns
returns c = test_done c.requires c.loop-f.invariant c.sort_of-sort.ensures.0 c.in_default.ensures
