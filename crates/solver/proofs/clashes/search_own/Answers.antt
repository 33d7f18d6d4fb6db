use Rattle.shinri_core.proofs.Kit.{refl, arith}
use Rattle.shinri_core.proofs.Memory.Searching.{search_first}
use Rattle.solver.proofs.Memory.Owning.{own_asked, own_found, own_passed, own_missing}
use Rattle.solver.proofs.clashes.search_own.Goals as goal

pub loop-i-init : goal.loop-i-init
loop-i-init c = search_first _ 0 _ (omega arith)

pub is_own-requires : goal.is_own-requires
is_own-requires c = search own_asked

pub returns-then-is_own : goal.returns-then-is_own
returns-then-is_own c =
    own_found _ c.requires c.find-root.ensures.0 refl refl c.term_count-i-end.ensures.0 c.loop-i.invariant
    (omega arith) c.is_own.ensures c.if-is_own.true

pub loop-i-preserved : goal.loop-i-preserved
loop-i-preserved c =
    own_passed _ c.requires c.find-root.ensures.0 c.loop-i.invariant (omega arith) c.is_own.ensures
    c.if-is_own.false

pub returns : goal.returns
returns c = search own_missing
