-- The questions in order.
use Rattle.shinri_core.proofs.Kit.{ap, not, rules}
use Rattle.std.proofs.lemmas.Result.{err_from_is_err_and}
use Rattle.session.proofs.Memory.Declaring.{sort_named, sorts_named, ctor_late, ctor_missing, ctor_disagrees, ctor_declared, declared_done, declared_full}
use Rattle.session.proofs.declaring.ctor_line.Goals as goal

pub returns-then-closed : goal.returns-then-closed
returns-then-closed c = search ctor_late

pub returns-then-not-sorts_exist : goal.returns-then-not-sorts_exist
returns-then-not-sorts_exist c = search ctor_missing

pub is_datatype_sort-requires : goal.is_datatype_sort-requires
is_datatype_sort-requires c = (search rules, search sort_named)

pub returns-then-not-is_datatype_sort : goal.returns-then-not-is_datatype_sort
returns-then-not-is_datatype_sort c = search ctor_disagrees

pub dt_add_constructor-requires : goal.dt_add_constructor-requires
dt_add_constructor-requires c = search sorts_named

pub returns-in_err-dt_add_constructor : goal.returns-in_err-dt_add_constructor
returns-in_err-dt_add_constructor c =
    let (y, is, no_room) = err_from_is_err_and c.from_residual.result c.from_residual.ensures.1 in
    rw (is, no_room) (ctor_declared c.if-closed.false c.sorts_exist.ensures (ap not c.if-not-sorts_exist.false) c.is_datatype_sort.ensures (ap not c.if-not-is_datatype_sort.false) c.dt_add_constructor.ensures (declared_full c.in_err-dt_add_constructor.was))

pub returns : goal.returns
returns c = ctor_declared c.if-closed.false c.sorts_exist.ensures (ap not c.if-not-sorts_exist.false) c.is_datatype_sort.ensures (ap not c.if-not-is_datatype_sort.false) c.dt_add_constructor.ensures (declared_done c.in_ok-dt_add_constructor.was)
