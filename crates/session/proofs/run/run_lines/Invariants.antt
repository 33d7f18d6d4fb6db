-- The definition goes on from the present session with the lines from `at` on, behind the bytes written so far.
use Rattle.shinri_core.proofs.Kit.{◌-◌, ◌≡◌, length}
use Rattle.session.specs.Memory.Sessions.{beside}
use Rattle.session.proofs.Memory.Running.{Running}
use Rattle.session.proofs.run.run_lines.Given as goal

abbrev pub invariant-loop-at : goal.invariant-loop-at
invariant-loop-at l = Running l.script l.initial.output l.c l.e l.s (beside l.e l.kept.counts l.kept.closed) l.at l.answered l.written l.output
    × (length l.c ≡ length l.initial.c)
    × (length l.e ≡ length l.initial.e)
    × (length l.s ≡ length l.initial.s)

abbrev pub decreases-loop-at : goal.decreases-loop-at
decreases-loop-at l = length l.script - l.at
