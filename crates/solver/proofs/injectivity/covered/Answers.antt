-- By the constructor of the class, which is that of its lowest application.
use Rattle.solver.proofs.Memory.Injecting.{cover_own, cover_by}
use Rattle.solver.proofs.injectivity.covered.Goals as goal

pub symbol_of-requires : goal.symbol_of-requires
symbol_of-requires c = (c.requires.ready.making.core, cover_own c.requires)

pub returns-then-x-p : goal.returns-then-x-p
returns-then-x-p c = λ t. cover_by c.requires c.ctor_of_class.ensures c.in-Some.is c.if-x-p.true c.symbol_of.ensures t
