-- By the word of the phase.
use Rattle.shinri_core.proofs.Kit.{arith}
use Rattle.solver.proofs.Memory.Splits.{phase_within, no_phase, positive_phase}
use Rattle.solver.proofs.answer.split_phase.Goals as goal

pub get_at-requires : goal.get_at-requires
get_at-requires c =
    let z = c.requires in
    let l = z.0.long in
    let h = phase_within z.0 _ z.1 in
    omega arith

pub returns-then-get_at-eq0 : goal.returns-then-get_at-eq0
returns-then-get_at-eq0 c =
    let z = c.requires in
    no_phase z.0 _ _ z.1 c.get_at.ensures.0 (omega arith)

pub returns : goal.returns
returns c =
    let z = c.requires in
    positive_phase z.0 _ _ z.1 c.get_at.ensures.0 (omega arith)
