-- By the kind of the leaf.
use Rattle.shinri_core.proofs.Kit.{ap, arith, length}
use Rattle.theory.specs.declared.types.EqLeaf.{EqLeaf}
use Rattle.theory.specs.Memory.Answer.{leaf_meaning}
use Rattle.session.specs.Text.{bytes}
use Rattle.session.specs.Answer.{leaf_text}
use Rattle.session.proofs.Memory.Lengths.{asserted_length}
use Rattle.session.proofs.Memory.Printing.{written_as, written_more}
use Rattle.session.proofs.answer.EqLeafElement.write.Goals as goal

pub write_byte-literal-requires : goal.write_byte-literal-requires
unfolding leaf_meaning
write_byte-literal-requires c =
    omega (arith, ap (λ (l : EqLeaf). length (leaf_text (leaf_meaning l))) c.in-Asserted.is, asserted_length c.in-Asserted.p.0)

pub write_decimal-requires : goal.write_decimal-requires
unfolding leaf_meaning
write_decimal-requires c =
    omega (arith, ap (λ (l : EqLeaf). length (leaf_text (leaf_meaning l))) c.in-Asserted.is, asserted_length c.in-Asserted.p.0)

pub write_interface-requires : goal.write_interface-requires
unfolding leaf_meaning
write_interface-requires c = omega (arith, ap (λ (l : EqLeaf). length (leaf_text (leaf_meaning l))) c.in-Interface.is)

pub returns-in-Asserted : goal.returns-in-Asserted
unfolding leaf_meaning leaf_text bytes
returns-in-Asserted c =
    written_as (written_more c.write_byte-literal.ensures c.write_decimal.ensures)
    (ap (λ (l : EqLeaf). leaf_text (leaf_meaning l)) c.in-Asserted.is)

pub returns-in-Interface : goal.returns-in-Interface
unfolding leaf_meaning
returns-in-Interface c = written_as c.write_interface.ensures (ap (λ (l : EqLeaf). leaf_text (leaf_meaning l)) c.in-Interface.is)
