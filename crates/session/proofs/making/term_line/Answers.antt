-- The questions in order.
use Rattle.shinri_core.proofs.Kit.{ap, not}
use Rattle.std.proofs.lemmas.Result.{err_from_is_err_and}
use Rattle.session.proofs.Memory.Making.{app_named, app_may, term_early, term_missing, term_disagrees, term_made, numbered_at, numbered_full}
use Rattle.session.proofs.making.term_line.Goals as goal

pub returns-then-not-closed : goal.returns-then-not-closed
returns-then-not-closed c = search term_early

pub returns-then-not-app_exists : goal.returns-then-not-app_exists
returns-then-not-app_exists c = search term_missing

pub sorts_agree-requires : goal.sorts_agree-requires
sorts_agree-requires c = search app_named

pub returns-then-not-sorts_agree : goal.returns-then-not-sorts_agree
returns-then-not-sorts_agree c = search term_disagrees

pub mk_app-requires : goal.mk_app-requires
mk_app-requires c = search app_may

pub returns-in_err-mk_app : goal.returns-in_err-mk_app
returns-in_err-mk_app c =
    let (y, is, no_room) = err_from_is_err_and c.from_residual.result c.from_residual.ensures.1 in
    rw (is, no_room) (term_made (ap not c.if-not-closed.false) c.app_exists.ensures (ap not c.if-not-app_exists.false) c.sorts_agree.ensures (ap not c.if-not-sorts_agree.false) c.mk_app.ensures (numbered_full c.in_err-mk_app.was))

pub returns : goal.returns
returns c = term_made (ap not c.if-not-closed.false) c.app_exists.ensures (ap not c.if-not-app_exists.false) c.sorts_agree.ensures (ap not c.if-not-sorts_agree.false) c.mk_app.ensures (numbered_at c.in_ok-mk_app.was)
