-- The comparison by the marks that the table lends, then the record.
use Rattle.shinri_core.proofs.Kit.{arith}
use Rattle.solver.proofs.Memory.Asserting.{assert_asked, recordable, asserted}
use Rattle.solver.proofs.asserting.assert_tester.Goals as goal

pub slice_bounds-asserted_conflict-end : goal.slice_bounds-asserted_conflict-end
slice_bounds-asserted_conflict-end c = omega (arith, c.requires.sound.solver.long)

pub asserted_conflict-r-requires : goal.asserted_conflict-r-requires
asserted_conflict-r-requires c = search assert_asked

pub record_tester-requires : goal.record_tester-requires
record_tester-requires c = search recordable

pub returns : goal.returns
returns c = search asserted
