-- Each digit leaves a number of five digits.
use Rattle.std.proofs.Common.{◌≤◌}
use Rattle.session_main.specs.declared.list.TheConstants.{MAX_BYTES}
use Rattle.session_main.proofs.list.number.Given as goal

abbrev pub invariant-loop-b : goal.invariant-loop-b
invariant-loop-b l = l.n ≤ MAX_BYTES
