-- By the kind of the leaf.
use Rattle.shinri_core.proofs.Kit.{ap, arith, length}
use Rattle.theory.specs.declared.types.EqLeaf.{EqLeaf}
use Rattle.theory.specs.Memory.Answer.{leaf_meaning}
use Rattle.session.specs.Answer.{leaf_text}
use Rattle.session.proofs.Memory.Lengths.{asserted_length, interface_length}
use Rattle.session.proofs.answer.EqLeafElement.len.Goals as goal

pub returns-in-Asserted : goal.returns-in-Asserted
unfolding leaf_meaning
returns-in-Asserted c =
    let same = ap (λ (l : EqLeaf). length (leaf_text (leaf_meaning l))) c.in-Asserted.is in
    (omega (arith, same, asserted_length c.in-Asserted.p.0), omega arith, omega arith)

pub returns-in-Interface : goal.returns-in-Interface
unfolding leaf_meaning
returns-in-Interface c =
    let same = ap (λ (l : EqLeaf). length (leaf_text (leaf_meaning l))) c.in-Interface.is in
    (omega (arith, same, interface_length c.in-Interface.j.theory c.in-Interface.j.tag), omega arith, omega arith)
