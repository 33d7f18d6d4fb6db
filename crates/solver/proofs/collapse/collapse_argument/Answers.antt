-- By the lowest application of the class.
use Rattle.solver.proofs.Compared.{same_id}
use Rattle.solver.proofs.Memory.Blocks.{check_asked}
use Rattle.solver.proofs.Memory.Once.{not_once, lowest_is}
use Rattle.solver.proofs.collapse.collapse_argument.Goals as goal

pub ctor_of_class-requires : goal.ctor_of_class-requires
ctor_of_class-requires c = let on = c.requires.0 in check_asked on.under.check on.within

pub collapse_once-requires : goal.collapse_once-requires
collapse_once-requires c =
    lowest_is c.requires.0 c.requires.1 c.ctor_of_class.ensures c.in-Some.is (same_id c.eq.ensures c.if-eq.true)

pub returns-in_default : goal.returns-in_default
returns-in_default c = not_once c.requires.0.under.check c.requires.1 c.collapse_class.ensures
