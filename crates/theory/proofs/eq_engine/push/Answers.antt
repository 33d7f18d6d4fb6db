-- Only the level changes.
use Rattle.theory.proofs.Memory.SoundTables.{pushed}
use Rattle.theory.proofs.eq_engine.push.Goals as goal

pub returns : goal.returns
returns c = search pushed
