-- By the flag of the atom.
use Rattle.shinri_core.proofs.Kit.{arith}
use Rattle.solver.proofs.Memory.Minting.{passed_over, handed_out}
use Rattle.solver.proofs.make.hand_out.Goals as goal

pub returns-then-get_at-ne0 : goal.returns-then-get_at-ne0
returns-then-get_at-ne0 c =
    let pre = c.requires in
    passed_over _ _ _ pre.1 c.get_at.ensures.0 (omega arith)

pub returns : goal.returns
returns c =
    let pre = c.requires in
    handed_out _ pre.0 pre.1 c.put_at.ensures c.get_at.ensures.0 (omega arith) c.write_lemma.ensures
