-- A script counts at most as many lines and bytes as a head can say.
use Rattle.std.proofs.Common.{◌≡◌, ◌*◌, ◌≤◌}
use Rattle.session_main.specs.declared.list.TheConstants.{MAX_BYTES}
use Rattle.session_main.proofs.try_list.Given as goal

abbrev pub invariant-loop-place : goal.invariant-loop-place
invariant-loop-place g l =
    (l.tally.scripts ≡ l.place) × (l.tally.lines ≤ MAX_BYTES * l.place) × (l.tally.bytes ≤ MAX_BYTES * l.place)
