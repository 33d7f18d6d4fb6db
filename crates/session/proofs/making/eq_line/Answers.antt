-- The questions in order.
use Rattle.shinri_core.proofs.Kit.{ap, not}
use Rattle.std.proofs.lemmas.Result.{err_from_is_err_and}
use Rattle.session.proofs.Memory.Making.{two_named, two_may, eq_early, eq_missing, eq_disagrees, eq_made, numbered_at, numbered_full}
use Rattle.session.proofs.making.eq_line.Goals as goal

pub returns-then-not-closed : goal.returns-then-not-closed
returns-then-not-closed c = search eq_early

pub returns-then-not-two_exist : goal.returns-then-not-two_exist
returns-then-not-two_exist c = search eq_missing

pub may_equate-requires : goal.may_equate-requires
may_equate-requires c = search two_named

pub returns-then-not-may_equate : goal.returns-then-not-may_equate
returns-then-not-may_equate c = search eq_disagrees

pub mk_eq-requires : goal.mk_eq-requires
mk_eq-requires c = search two_may

pub returns-in_err-mk_eq : goal.returns-in_err-mk_eq
returns-in_err-mk_eq c =
    let (y, is, no_room) = err_from_is_err_and c.from_residual.result c.from_residual.ensures.1 in
    rw (is, no_room) (eq_made (ap not c.if-not-closed.false) c.two_exist.ensures (ap not c.if-not-two_exist.false) c.may_equate.ensures (ap not c.if-not-may_equate.false) c.mk_eq.ensures (numbered_full c.in_err-mk_eq.was))

pub returns : goal.returns
returns c = eq_made (ap not c.if-not-closed.false) c.two_exist.ensures (ap not c.if-not-two_exist.false) c.may_equate.ensures (ap not c.if-not-may_equate.false) c.mk_eq.ensures (numbered_at c.in_ok-mk_eq.was)
