-- `==` is the definition's test.
use Rattle.shinri_core.specs.Memory.Codes.{declared_node}
use Rattle.session.specs.Text.{bytes}
use Rattle.session.specs.Line.{letter_sort}
use Rattle.session.proofs.Memory.Keys.{eq_is}
use Rattle.session.proofs.line.letter_sort.Goals as goal

pub returns-then-eq : goal.returns-then-eq
unfolding declared_node letter_sort bytes
returns-then-eq c ns = record { is = rw (eq_is _ _ c.eq.ensures c.as_slice.ensures c.if-eq.true); fits = tt }

pub returns-then-eq-2 : goal.returns-then-eq-2
unfolding declared_node letter_sort bytes
returns-then-eq-2 c ns =
    record {
      is = rw (eq_is _ _ c.eq.ensures c.as_slice.ensures c.if-eq.false, eq_is _ _ c.eq-2.ensures c.as_slice-2.ensures c.if-eq-2.true);
      fits = tt;
    }

pub returns : goal.returns
unfolding declared_node letter_sort bytes
returns c ns =
    record {
      is = rw (eq_is _ _ c.eq.ensures c.as_slice.ensures c.if-eq.false, eq_is _ _ c.eq-2.ensures c.as_slice-2.ensures c.if-eq-2.false);
      fits = tt;
    }
