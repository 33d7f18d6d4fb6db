-- Straight.
use Rattle.std.proofs.lemmas.Result.{err_from_is_err_and}
use Rattle.session.proofs.Memory.Declaring.{sort_late, sort_declared, declared_done, declared_full}
use Rattle.session.proofs.declaring.sort_line.Goals as goal

pub returns-then-closed : goal.returns-then-closed
returns-then-closed c = search sort_late

pub returns-in_err-declare_sort : goal.returns-in_err-declare_sort
returns-in_err-declare_sort c =
    let (y, is, no_room) = err_from_is_err_and c.from_residual.result c.from_residual.ensures.1 in
    rw (is, no_room) (sort_declared c.if-closed.false c.declare_sort.ensures (declared_full c.in_err-declare_sort.was))

pub returns : goal.returns
returns c = sort_declared c.if-closed.false c.declare_sort.ensures (declared_done c.in_ok-declare_sort.was)
