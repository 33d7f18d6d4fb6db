-- Straight.
use Rattle.session.proofs.Memory.Running.{filled_zero}
use Rattle.session.proofs.Memory.Keeping.{closes}
use Rattle.session.proofs.kept.close.Goals as goal

pub returns : goal.returns
returns c = closes c.zero_all.ensures (filled_zero c.args.kept.now (c.fill.ensures.after (λ y e. e)))
