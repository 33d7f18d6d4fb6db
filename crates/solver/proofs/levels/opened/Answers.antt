-- One level more, by a store in a copy of the counts.
use Rattle.shinri_core.proofs.Kit.{refl, rules}
use Rattle.solver.proofs.Memory.Levels.{opens}
use Rattle.solver.proofs.levels.opened.Goals as goal

pub returns : goal.returns
returns c =
    let pre = c.requires in
    opens pre.1 (search rules) c.get_at-n.ensures.0 refl refl pre.2
