-- The questions in order.
use Rattle.shinri_core.proofs.Kit.{ap, not}
use Rattle.std.proofs.lemmas.Result.{err_from_is_err_and}
use Rattle.session.proofs.Memory.Declaring.{sorts_named, fun_late, fun_missing, fun_declared, declared_done, declared_full}
use Rattle.session.proofs.declaring.fun_line.Goals as goal

pub returns-then-closed : goal.returns-then-closed
returns-then-closed c = search fun_late

pub returns-then-not-sorts_exist : goal.returns-then-not-sorts_exist
returns-then-not-sorts_exist c = search fun_missing

pub declare_fun-requires : goal.declare_fun-requires
declare_fun-requires c = search sorts_named

pub returns-in_err-declare_fun : goal.returns-in_err-declare_fun
returns-in_err-declare_fun c =
    let (y, is, no_room) = err_from_is_err_and c.from_residual.result c.from_residual.ensures.1 in
    rw (is, no_room) (fun_declared c.if-closed.false c.sorts_exist.ensures (ap not c.if-not-sorts_exist.false) c.declare_fun.ensures (declared_full c.in_err-declare_fun.was))

pub returns : goal.returns
returns c = fun_declared c.if-closed.false c.sorts_exist.ensures (ap not c.if-not-sorts_exist.false) c.declare_fun.ensures (declared_done c.in_ok-declare_fun.was)
