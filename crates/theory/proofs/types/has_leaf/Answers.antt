use Rattle.shinri_core.proofs.Kit.{◌-◌}
use Rattle.theory.proofs.Memory.Leaves.{look_first, look_next, look_less, look_found, look_missing, compared}
use Rattle.theory.proofs.types.has_leaf.Goals as goal

pub loop-k-init : goal.loop-k-init
loop-k-init c = search look_first

pub returns-then-eq : goal.returns-then-eq
returns-then-eq c =
    let b = compared c.args.out.now c.args.w.kind c.args.w.value (c.loop-k.k - 1) c.words_at.ensures c.eq.ensures in
    search look_found

pub loop-k-smaller : goal.loop-k-smaller
loop-k-smaller c =
    let b = compared c.args.out.now c.args.w.kind c.args.w.value (c.loop-k.k - 1) c.words_at.ensures c.eq.ensures in
    search look_less

pub loop-k-preserved : goal.loop-k-preserved
loop-k-preserved c =
    let b = compared c.args.out.now c.args.w.kind c.args.w.value (c.loop-k.k - 1) c.words_at.ensures c.eq.ensures in
    search look_next

pub returns : goal.returns
returns c = search look_missing
