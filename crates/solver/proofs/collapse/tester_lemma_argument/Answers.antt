-- By the lowest application of the class.
use Rattle.solver.proofs.Memory.Blocks.{check_asked}
use Rattle.solver.proofs.Memory.TestsOnce.{not_tested, lowest_tested}
use Rattle.solver.proofs.collapse.tester_lemma_argument.Goals as goal

pub ctor_of_class-requires : goal.ctor_of_class-requires
ctor_of_class-requires c = let on = c.requires.0 in check_asked on.under.check on.within

pub tester_lemma_once-requires : goal.tester_lemma_once-requires
tester_lemma_once-requires c = lowest_tested c.requires.0 c.requires.1 c.ctor_of_class.ensures c.in-Some.is

pub returns-in_default : goal.returns-in_default
returns-in_default c = not_tested c.requires.0.under.check c.requires.1 c.tester_lemma_class.ensures
