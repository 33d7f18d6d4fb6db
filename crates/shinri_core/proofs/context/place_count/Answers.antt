-- The pool ends where the next arguments would begin.
use Rattle.shinri_core.proofs.Kit.{◌∙◌, ap, sym, arith}
use Rattle.shinri_core.specs.Memory.Words.{at}
use Rattle.shinri_core.specs.Memory.Table.{OFFSET}
use Rattle.shinri_core.proofs.Memory.Terms.{places_are}
use Rattle.shinri_core.proofs.context.place_count.Goals as goal

pub returns : goal.returns
returns c =
    let z = c.requires in
    let p = places_are _ z in
    let e = c.get_at.ensures.0 ∙ ap (at _ OFFSET) c.get_at-n.ensures.0 in
    (e ∙ sym p, omega arith)
