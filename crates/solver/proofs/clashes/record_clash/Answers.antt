use Rattle.shinri_core.proofs.Kit.{rules, arith}
use Rattle.solver.proofs.Memory.Clashing.{clashing_first, clashing_next, clashing_found, clashing_asks, clashing_done}
use Rattle.solver.proofs.Memory.Trying.{plain_sat, plain_answer}
use Rattle.solver.proofs.clashes.record_clash.Goals as goal

pub loop-i-init : goal.loop-i-init
loop-i-init c = (search clashing_first, search rules)

pub entry_conflict-r-requires : goal.entry_conflict-r-requires
entry_conflict-r-requires c = clashing_asks c.loop-i.invariant.0 (omega arith)

pub returns-then-ne : goal.returns-then-ne
returns-then-ne c = clashing_found c.loop-i.invariant.0 (omega arith) c.entry_conflict-r.ensures (plain_answer _ c.ne.ensures c.if-ne.true)

pub loop-i-preserved : goal.loop-i-preserved
loop-i-preserved c =
    let inv = c.loop-i.invariant in
    let same = c.entry_conflict-r.auto.out in
    let long = inv.0.asked.long in (
      clashing_next inv.0 (omega arith) c.entry_conflict-r.ensures (plain_sat _ c.ne.ensures c.if-ne.false) (omega arith),
      omega arith,
    )

pub returns : goal.returns
returns c = search clashing_done
