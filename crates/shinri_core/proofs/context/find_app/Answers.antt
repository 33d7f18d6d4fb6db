use Rattle.shinri_core.proofs.Kit.{rules, ◌∙◌}
use Rattle.shinri_core.proofs.Memory.Terms.{fits_meant, walk_first, walk_next, walk_less, walk_found, walk_missing}
use Rattle.shinri_core.proofs.context.find_app.Goals as goal

pub loop-k-init : goal.loop-k-init
loop-k-init c = walk_first _ _ c.requires.0 c.hash_app.ensures.0 c.hash_app.ensures.1 c.get_at-k.ensures.0

pub is_app-requires : goal.is_app-requires
is_app-requires c = (c.loop-k.invariant.sound, search rules)

pub returns-then-is_app : goal.returns-then-is_app
returns-then-is_app c =
    walk_found c.loop-k.invariant c.loop-k-test.true (c.is_app.ensures ∙ fits_meant _ _ _ _) c.if-is_app.true

pub loop-k-smaller : goal.loop-k-smaller
loop-k-smaller c = search walk_less

pub loop-k-preserved : goal.loop-k-preserved
loop-k-preserved c =
    walk_next c.loop-k.invariant c.loop-k-test.true c.get_at-k-in-loop-k.ensures.0
    (c.is_app.ensures ∙ fits_meant _ _ _ _) c.if-is_app.false

pub returns : goal.returns
returns c = walk_missing c.loop-k.invariant c.loop-k-test.false
