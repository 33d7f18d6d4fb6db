-- The atom and the phase each stand behind the last.
use denote.Enum.Declared.{tag_of}
use Rattle.shinri_core.proofs.Kit.{◌<◌, ◌≡◌, refl, arith}
use Rattle.solver.specs.declared.answer.Phase.{Phase}
use Rattle.solver.specs.declared.answer.Phase.TheVariants.{NoPhase, Positive}
use Rattle.solver.specs.contracts.answer.Phase.{the_type}
use Rattle.solver.specs.Memory.Answer.{phase_of, phase_meaning}
use Rattle.solver.proofs.Memory.Splits.{phase_room, tester_pushed}
use Rattle.solver.proofs.answer.push_tester.Goals as goal

-- the word of a phase
phase_word : (p : Phase) → phase_of (tag_of the_type p) ≡ phase_meaning p
unfolding phase_of phase_meaning
phase_word NoPhase = refl
phase_word Positive = refl

phase_small : (p : Phase) → tag_of the_type p < 4294967296
phase_small NoPhase = omega arith
phase_small Positive = omega arith

pub put_at-requires-3 : goal.put_at-requires-3
put_at-requires-3 c =
    let room =
    phase_room _ _ c.requires c.get_at-n.ensures.0 c.put_at.ensures c.put_at-2.ensures
    c.get_at-m.ensures.0 in
    (omega arith, phase_small c.args.p)

pub put_at-requires-4 : goal.put_at-requires-4
put_at-requires-4 c =
    let room =
    phase_room _ _ c.requires c.get_at-n.ensures.0 c.put_at.ensures c.put_at-2.ensures
    c.get_at-m.ensures.0 in
    let kept = c.put_at-3.auto.t in
    (omega arith, omega arith)

pub returns : goal.returns
returns c =
    tester_pushed _ _ c.requires (phase_word c.args.p) c.get_at-n.ensures.0
    c.put_at.ensures c.put_at-2.ensures c.get_at-m.ensures.0 c.put_at-3.ensures
    c.put_at-4.ensures
