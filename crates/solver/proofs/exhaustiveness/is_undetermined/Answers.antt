-- By the mark, then by the application of the class.
use Rattle.shinri_core.proofs.Kit.{rules}
use Rattle.solver.proofs.Memory.Blocks.{in_check}
use Rattle.solver.proofs.Memory.Splitting.{asked_open, kind_asked, kind_passed}
use Rattle.solver.proofs.exhaustiveness.is_undetermined.Goals as goal

pub ctor_of_class-requires : goal.ctor_of_class-requires
ctor_of_class-requires c = in_check (search rules)

pub returns-else-is_watched : goal.returns-else-is_watched
returns-else-is_watched c =
    let z = c.requires in
    kind_passed _ _ _ z.1 z.0.signed z.0.work _ z.0.is_node c.is_watched.ensures c.if-is_watched.false

pub returns-then-is_watched : goal.returns-then-is_watched
returns-then-is_watched c =
    let z = c.requires in
    asked_open _ _ _ z.1 z.0.signed z.0.work _ z.0.is_node _ _ (kind_asked _ c.is_watched.ensures c.if-is_watched.true)
    c.ctor_of_class.ensures c.is_none.ensures
