-- By the key of the entry.
use Rattle.shinri_core.proofs.Kit.{refl}
use Rattle.solver.proofs.Memory.Disequalities.{pair_passed, pair_small, pair_asks, pair_asked}
use Rattle.solver.proofs.disequalities.pair_conflict.Goals as goal

pub returns-then-key-lt-UNEQUAL : goal.returns-then-key-lt-UNEQUAL
returns-then-key-lt-UNEQUAL c = search pair_passed

pub overflow_cast-l : goal.overflow_cast-l
overflow_cast-l c = record { fits = pair_small c.requires c.get_at-word.ensures.0 refl c.if-key-lt-UNEQUAL.false }

pub sides_conflict-requires : goal.sides_conflict-requires
sides_conflict-requires c = pair_asks c.requires c.get_at-word.ensures.0 refl c.if-key-lt-UNEQUAL.false refl

pub returns : goal.returns
returns c = search pair_asked
