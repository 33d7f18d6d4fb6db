-- The questions in order.
use Rattle.shinri_core.proofs.Kit.{ap, not}
use Rattle.session.proofs.Memory.Solving.{var_early, var_missing, var_disagrees, var_again, var_registered, var_term, var_may, var_collecting}
use Rattle.session.proofs.solving.var_line.Goals as goal

pub returns-then-not-closed : goal.returns-then-not-closed
returns-then-not-closed c = search var_early

pub returns-then-not-var_named : goal.returns-then-not-var_named
returns-then-not-var_named c = search var_missing

pub sort_of-requires : goal.sort_of-requires
sort_of-requires c = (c.requires.1.core, var_term _ _ c.args.v.0 _ _ c.requires c.var_named.ensures (ap not c.if-not-var_named.false))

pub returns-then-sort_of-ne0 : goal.returns-then-sort_of-ne0
returns-then-sort_of-ne0 c = search var_disagrees

pub returns-then-is_registered : goal.returns-then-is_registered
returns-then-is_registered c = search var_again

pub register-requires : goal.register-requires
register-requires c =
    var_may _ _ _ _ _ c.requires c.var_named.ensures (ap not c.if-not-var_named.false) _ c.is_registered.ensures
    c.if-is_registered.false

pub new_var-requires : goal.new_var-requires
new_var-requires c =
    let x = var_term _ _ c.args.v.0 _ _ c.requires c.var_named.ensures (ap not c.if-not-var_named.false) in
    (var_collecting _ _ c.args.v.0 _ _ c.requires c.var_named.ensures (ap not c.if-not-var_named.false) _ c.register.ensures, x)

pub returns : goal.returns
returns c =
    var_registered (ap not c.if-not-closed.false) c.var_named.ensures (ap not c.if-not-var_named.false) c.sort_of.ensures.0
    c.if-sort_of-ne0.false c.is_registered.ensures c.if-is_registered.false c.register.ensures c.new_var.ensures
