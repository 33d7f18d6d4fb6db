-- One table behind the other.
use Rattle.kept.proofs.Memory.Keeping.{saves}
use Rattle.kept.proofs.kept.save.Goals as goal

pub returns : goal.returns
returns c =
    saves c.args.kept.now c.copy.new.to c.copy-2.new.to c.copy-3.new.to
    c.requires.1 c.requires.0 c.copy.ensures c.copy-2.ensures c.copy-3.ensures
