use Rattle.shinri_core.proofs.Kit.{rules}
use Rattle.solver.proofs.Memory.Splitting.{passed_by}
use Rattle.solver.proofs.exhaustiveness.has_undetermined_class.Goals as goal

pub returns : goal.returns
returns c = passed_by c.requires c.lowest_asking.result (c.lowest_asking.ensures.found _ (λ x b h q. search rules))
