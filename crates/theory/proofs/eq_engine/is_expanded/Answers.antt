-- The first pair is read, then its mark.
use Rattle.shinri_core.proofs.Kit.{arith}
use Rattle.theory.proofs.Memory.Marks.{mark_in, mark_read}
use Rattle.theory.proofs.eq_engine.is_expanded.Goals as goal

pub get_at-first-requires : goal.get_at-first-requires
get_at-first-requires c = let p = c.requires in omega (arith, (mark_in p.0 p.1).0, p.0.long)

pub bounds-marks-first : goal.bounds-marks-first
bounds-marks-first c =
    let p = c.requires in
    omega (arith, (mark_in p.0 p.1).1, p.2, c.get_at-first.ensures.0)

pub returns : goal.returns
returns c = search mark_read
