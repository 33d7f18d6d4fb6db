-- Straight.
use Rattle.session.proofs.Memory.Running.{filled_zero}
use Rattle.session.proofs.run.zero_all.Goals as goal

pub returns : goal.returns
returns c = record {
  core = filled_zero c.args.c.now (c.fill.ensures.after (λ y e. e));
  theory = filled_zero c.args.e.now (c.fill-2.ensures.after (λ y e. e));
  solver = filled_zero c.args.s.now (c.fill-3.ensures.after (λ y e. e));
}
