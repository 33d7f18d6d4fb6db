-- Straight.
use Rattle.shinri_core.proofs.Kit.{◌∙◌}
use Rattle.session.proofs.Memory.Running.{zeroed_all}
use Rattle.session.proofs.run.run_started.Goals as goal

pub returns : goal.returns
returns c =
    record {
      result = c.run_lines-r.ensures;
      zeroed =
          zeroed_all _ _ _ (c.run_lines-r.auto.c ∙ c.clear_all.auto.c) (c.run_lines-r.auto.e ∙ c.clear_all.auto.e) (c.run_lines-r.auto.s ∙ c.clear_all.auto.s) c.zero_all.ensures;
    }
