use Rattle.shinri_core.proofs.Kit.{rules, arith}
use Rattle.solver.proofs.Memory.Disequalities.{pairing_first, pairing_asks, pairing_next, pairing_found, pairing_done}
use Rattle.solver.proofs.Memory.Trying.{plain_sat, plain_answer}
use Rattle.solver.proofs.disequalities.disequality_clash.Goals as goal

pub loop-i-init : goal.loop-i-init
loop-i-init c = (search pairing_first, search rules)

pub pair_conflict-r-requires : goal.pair_conflict-r-requires
pair_conflict-r-requires c = pairing_asks c.loop-i.invariant.0 (omega arith)

pub returns-then-ne : goal.returns-then-ne
returns-then-ne c = pairing_found c.loop-i.invariant.0 (omega arith) c.pair_conflict-r.ensures (plain_answer _ c.ne.ensures c.if-ne.true)

pub loop-i-preserved : goal.loop-i-preserved
loop-i-preserved c =
    let inv = c.loop-i.invariant in
    let same = c.pair_conflict-r.auto.out in
    let long = inv.0.asked.long in (
      pairing_next inv.0 (omega arith) c.pair_conflict-r.ensures (plain_sat _ c.ne.ensures c.if-ne.false) (omega arith),
      omega arith,
    )

pub returns : goal.returns
returns c = search pairing_done
