-- By the sign: a positive tester stands in the lasting record first.
use Rattle.solver.proofs.Memory.Recording.{lasting_recordable, positive_key, positive_entered, negative_key, negative_entered}
use Rattle.solver.proofs.levels.record_tester.Goals as goal

pub enter-requires : goal.enter-requires
enter-requires c = positive_key (search lasting_recordable)

pub enter-requires-else-positive : goal.enter-requires-else-positive
enter-requires-else-positive c = search negative_key

pub returns-then-positive : goal.returns-then-positive
returns-then-positive c = search positive_entered

pub returns-else-positive : goal.returns-else-positive
returns-else-positive c = search negative_entered
