-- One table behind the other.
use Rattle.kept.proofs.kept.restore.Goals as goal

pub returns : goal.returns
returns c =
    record {
      core = c.copy.ensures;
      theory = c.copy-2.ensures;
      solver = c.copy-3.ensures;
    }
