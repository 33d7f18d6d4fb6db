-- As many, and each the same.
use Rattle.shinri_core.proofs.Kit.{rules}
use Rattle.std.proofs.Common.{tests}
use Rattle.std.proofs.lemmas.Iterator.{YieldsList-from_slice, YieldsList-from_zip, same_from_all}
use Rattle.shinri_core.proofs.Lists.{slices_same, lengths_differ}
use Rattle.shinri_core.proofs.context.same_args.Goals as goal

pub returns-then-args-own : goal.returns-then-args-own
returns-then-args-own c =
    let each = YieldsList-from_zip (YieldsList-from_slice c.args.args.now cc) (YieldsList-from_slice c.args.own.now cc) in
    slices_same _ _ _
    (same_from_all c.all.new.self _ _ _ _ c.all.ensures.ran each c.if-args-own.true (λ x q k. search (rules, tests)) (λ x q k. search (rules, tests)))

pub returns-else-args-own : goal.returns-else-args-own
returns-else-args-own c = lengths_differ _ _ c.if-args-own.false
