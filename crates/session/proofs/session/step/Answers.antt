-- The line is read, and what was read is answered.
use Rattle.session.proofs.Memory.Performing.{performable, steps}
use Rattle.session.proofs.session.step.Goals as goal

pub perform-requires : goal.perform-requires
perform-requires c = performable c.args.line.now c.requires c.read_line-k.ensures

pub returns : goal.returns
returns c = steps c.requires c.read_line-k.ensures c.perform.ensures
