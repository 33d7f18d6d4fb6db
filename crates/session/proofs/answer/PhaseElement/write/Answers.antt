-- By the phase.
use Rattle.shinri_core.proofs.Kit.{ap, arith, length}
use Rattle.solver.specs.declared.answer.Phase.{Phase}
use Rattle.solver.specs.Memory.Answer.{phase_meaning}
use Rattle.session.specs.Text.{bytes}
use Rattle.session.specs.Answer.{phase_text}
use Rattle.session.proofs.Memory.Printing.{written_as}
use Rattle.session.proofs.answer.PhaseElement.write.Goals as goal

pub write_byte-requires : goal.write_byte-requires
unfolding phase_meaning phase_text bytes
write_byte-requires c = omega (arith, ap (λ (p : Phase). length (phase_text (phase_meaning p))) c.in-Positive.is)

pub write_byte-requires-in-NoPhase : goal.write_byte-requires-in-NoPhase
unfolding phase_meaning phase_text bytes
write_byte-requires-in-NoPhase c = omega (arith, ap (λ (p : Phase). length (phase_text (phase_meaning p))) c.in-NoPhase.is)

pub returns-in-Positive : goal.returns-in-Positive
unfolding phase_meaning phase_text bytes
returns-in-Positive c =
    let told = c.in-Positive.is in
    written_as c.write_byte.ensures (ap (λ (p : Phase). phase_text (phase_meaning p)) told)

pub returns-in-NoPhase : goal.returns-in-NoPhase
unfolding phase_meaning phase_text bytes
returns-in-NoPhase c =
    let told = c.in-NoPhase.is in
    written_as c.write_byte-in-NoPhase.ensures (ap (λ (p : Phase). phase_text (phase_meaning p)) told)
