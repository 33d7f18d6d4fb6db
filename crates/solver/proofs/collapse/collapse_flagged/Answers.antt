-- Where the flag is set the rule passes; else it is tried, and the flag is set if it passes.
use Rattle.shinri_core.proofs.Kit.{arith, refl}
use Rattle.solver.proofs.Memory.Once.{flag_set, node, done_passes, done_now, done_answer}
use Rattle.solver.proofs.Memory.Trying.{err_not_sat, no_sat}
use Rattle.solver.proofs.Memory.NoRooms.{no_room}
use Rattle.solver.proofs.collapse.collapse_flagged.Goals as goal

pub get_at-requires : goal.get_at-requires
get_at-requires c = omega (arith, node c.requires, c.requires.flags.long)

pub returns-then-get_at-ne0 : goal.returns-then-get_at-ne0
returns-then-get_at-ne0 c = done_passes c.requires (flag_set _ c.get_at.ensures.0 c.if-get_at-ne0.true)

pub collapse_class-requires : goal.collapse_class-requires
collapse_class-requires c = c.requires.on

pub put_at-requires : goal.put_at-requires
put_at-requires c = (omega (arith, node c.requires, c.requires.flags.long), omega arith)

pub returns-in_err-r : goal.returns-in_err-r
returns-in_err-r c =
    rw (no_room c.from_residual.result c.from_residual.ensures.0) (done_answer c.requires c.in_err-r.ensures (err_not_sat refl))

pub returns-then-eq : goal.returns-then-eq
returns-then-eq c = done_now c.requires c.in_ok-r.ensures c.put_at.ensures

pub returns-else-eq : goal.returns-else-eq
returns-else-eq c = done_answer c.requires c.in_ok-r.ensures (no_sat _ c.eq.ensures c.if-eq.false)
