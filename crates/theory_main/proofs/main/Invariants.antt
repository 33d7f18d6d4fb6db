-- The tables stay sound and as long as they were.
use Rattle.std.proofs.Common.{length, ◌≡◌}
use Rattle.theory.specs.Memory.Registry.{RegistrySound}
use Rattle.theory.specs.Memory.Table.{EngineSound}
use Rattle.theory_main.proofs.main.Given as goal

abbrev pub invariant-loop-i : goal.invariant-loop-i
invariant-loop-i l =
    EngineSound l.t × (length l.t ≡ 16384) × (length l.out ≡ 3324) × RegistrySound l.atoms × (length l.atoms ≡ 3073)
