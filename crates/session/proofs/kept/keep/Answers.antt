-- Whether a `close` was accepted, then the counts.
use Rattle.session.proofs.Memory.Keeping.{keeps}
use Rattle.session.proofs.kept.keep.Goals as goal

pub returns : goal.returns
returns c = keeps c.args.kept.now c.args.closed c.requires c.copy_from_slice.ensures.after c.copy_from_slice.ensures.len
