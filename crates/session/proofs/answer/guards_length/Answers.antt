-- By whether there is a guard.
use Rattle.shinri_core.proofs.Kit.{ap, arith, length}
use Rattle.session.proofs.Memory.Lengths.{one_guard, no_guard}
use Rattle.session.proofs.answer.guards_length.Goals as goal

pub returns-in-Some : goal.returns-in-Some
returns-in-Some c =
    let one = ap length (one_guard _ c.split_guard.ensures c.in-Some.is) in
    (omega arith, omega arith)

pub returns-in-None : goal.returns-in-None
returns-in-None c =
    let none_there = ap length (no_guard _ c.split_guard.ensures c.in-None.is) in
    (omega arith, omega arith)
