use Rattle.shinri_core.proofs.Kit.{ne_eqb}
use Rattle.shinri_core.proofs.Memory.Searching.{search_first, search_next}
use Rattle.session.proofs.Memory.Splitting.{found_here, found_none}
use Rattle.session.proofs.reader.first_byte.Goals as goal

pub loop-i-init : goal.loop-i-init
loop-i-init c = search_first _ _ _ c.requires

pub returns-then-s-i : goal.returns-then-s-i
returns-then-s-i c =
    record { ends = found_here c.loop-i.invariant c.loop-i-test.true c.if-s-i.true; within = c.loop-i-test.true }

pub loop-i-preserved : goal.loop-i-preserved
loop-i-preserved c = search_next c.loop-i.invariant c.loop-i-test.true (ne_eqb _ _ c.if-s-i.false)

pub returns : goal.returns
returns c = record { ends = found_none c.loop-i.invariant c.loop-i-test.false; within = tt }
