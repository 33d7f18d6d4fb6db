-- The first of the pairs of these nodes is marked, if it has a mark.
use Rattle.shinri_core.proofs.Kit.{refl}
use Rattle.theory.specs.Memory.Explaining.{marked}
use Rattle.theory.proofs.Memory.Marks.{mark_behind, mark_one}
use Rattle.theory.proofs.eq_engine.mark_pairs.Goals as goal

pub returns-then-first-marks : goal.returns-then-first-marks
unfolding marked
returns-then-first-marks c =
    mark_one _ _ c.requires.0 c.in-Some.ensures 1 c.if-first-marks.true c.get_at-first.ensures.0 refl

pub returns-else-first-marks : goal.returns-else-first-marks
returns-else-first-marks c =
    let p = c.requires in
    mark_behind _ _ p.0 c.in-Some.ensures p.3 c.get_at-first.ensures.0 c.if-first-marks.false
