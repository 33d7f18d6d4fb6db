-- By whether there is a guard.
use Rattle.shinri_core.proofs.Kit.{ap, arith, length}
use Rattle.session.proofs.Memory.Printing.{written_nothing, written_as}
use Rattle.session.proofs.Memory.Lengths.{one_guard, no_guard}
use Rattle.session.proofs.answer.write_guards.Goals as goal

pub write_decimal-requires : goal.write_decimal-requires
write_decimal-requires c =
    let one = ap length (one_guard _ c.split_guard.ensures c.in-Some.is) in
    omega arith

pub returns-in-Some : goal.returns-in-Some
returns-in-Some c = written_as c.write_decimal.ensures (one_guard _ c.split_guard.ensures c.in-Some.is)

pub returns-in-None : goal.returns-in-None
returns-in-None c = written_as (written_nothing _ _ (omega arith)) (no_guard _ c.split_guard.ensures c.in-None.is)
