-- The atoms of the lasting record below x were passed.
use Rattle.solver.proofs.Memory.Instantiating.{Instantiating}
use Rattle.solver.proofs.instantiation.instantiate_constructor.Given as goal

abbrev pub invariant-loop-x : goal.invariant-loop-x
invariant-loop-x l = Instantiating l.initial.t l.e l.initial.s l.initial.w l.initial.out l.x-end l.t l.s l.w l.out l.x
