use Rattle.shinri_core.proofs.Kit.{arith}
use Rattle.solver.proofs.Memory.ConstructorClash.{scan_first, scan_asked, scan_next, scan_explains, scan_found, scan_missing}
use Rattle.solver.proofs.constructor_clash.constructor_clash.Goals as goal

pub loop-p-init : goal.loop-p-init
loop-p-init c = search scan_first

pub clash_at-requires : goal.clash_at-requires
clash_at-requires c = scan_asked c.loop-p.invariant (omega arith)

pub explain-requires : goal.explain-requires
explain-requires c = scan_explains c.loop-p.invariant c.in-Some.ensures c.clear_leaves.ensures

pub returns-in-Some : goal.returns-in-Some
returns-in-Some c = scan_found c.loop-p.invariant c.in-Some.ensures c.clear_leaves.ensures c.explain.ensures

pub loop-p-preserved : goal.loop-p-preserved
loop-p-preserved c = scan_next c.loop-p.invariant (omega arith) c.in_default.ensures

pub returns : goal.returns
returns c = scan_missing c.loop-p.invariant (omega arith)
