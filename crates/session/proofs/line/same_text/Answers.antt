-- As many bytes, and each the same.
use Rattle.shinri_core.proofs.Kit.{rules}
use Rattle.std.proofs.Common.{tests}
use Rattle.std.proofs.lemmas.Iterator.{YieldsList-from_slice, YieldsList-from_zip, same_from_all}
use Rattle.shinri_core.proofs.Lists.{slices_same, lengths_differ}
use Rattle.session.proofs.line.same_text.Goals as goal

pub returns-then-k-text : goal.returns-then-k-text
returns-then-k-text c =
    let each = YieldsList-from_zip (YieldsList-from_slice c.args.k.now cc) (YieldsList-from_slice c.args.text.now cc) in
    slices_same _ _ _
    (same_from_all c.all.new.self _ _ _ _ c.all.ensures.ran each c.if-k-text.true (λ x q k. search (rules, tests)) (λ x q k. search (rules, tests)))

pub returns-else-k-text : goal.returns-else-k-text
returns-else-k-text c = lengths_differ _ _ c.if-k-text.false
