-- Each case is its record.
use Rattle.shinri_core.proofs.Kit.{refl, arith}
use Rattle.theory.specs.Memory.Steps.{label_kind, label_theory, label_value, label_after}
use Rattle.theory.proofs.eq_engine.label_words.Goals as goal

pub returns-in-Asserted : goal.returns-in-Asserted
unfolding label_kind label_theory label_value label_after
returns-in-Asserted c = rw c.in-Asserted.is (record { code = omega arith; value = refl; after = refl })

pub returns-in-Congruence : goal.returns-in-Congruence
unfolding label_kind label_theory label_value label_after
returns-in-Congruence c = rw c.in-Congruence.is (record { code = omega arith; value = refl; after = refl })

pub returns-in-Interface : goal.returns-in-Interface
unfolding label_kind label_theory label_value label_after
returns-in-Interface c = rw c.in-Interface.is (record { code = omega arith; value = refl; after = refl })
