-- The table stays sound and as long as it was.
use Rattle.std.proofs.Common.{length, ◌≡◌}
use Rattle.shinri_core.specs.Memory.Table.{ContextSound}
use Rattle.core_main.proofs.main.Given as goal

abbrev pub invariant-loop-i : goal.invariant-loop-i
invariant-loop-i l = ContextSound l.t × (length l.t ≡ 16384)
