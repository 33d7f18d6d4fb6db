-- Each case is its record.
use Rattle.shinri_core.proofs.Kit.{ap, sym, refl, rules}
use Rattle.theory.specs.Memory.Table.{label, begins, just_meaning}
use Rattle.theory.specs.Memory.Steps.{label_kind, label_theory, label_value, label_after}
use Rattle.theory.proofs.eq_engine.EdgeLabelFromEqJust.from.Goals as goal

pub returns-in-Asserted : goal.returns-in-Asserted
unfolding label begins just_meaning label_kind label_theory label_value label_after
returns-in-Asserted c = record {
  known = search rules;
  theory = search rules;
  value = search rules;
  no_pairs = λ n. (refl, refl);
  is = λ t n. sym (ap just_meaning c.in-Asserted.is);
}

pub returns-in-Interface : goal.returns-in-Interface
unfolding label begins just_meaning label_kind label_theory label_value label_after
returns-in-Interface c = record {
  known = search rules;
  theory = search rules;
  value = search rules;
  no_pairs = λ n. (refl, refl);
  is = λ t n. sym (ap just_meaning c.in-Interface.is);
}
