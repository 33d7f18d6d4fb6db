-- No application below p clashes with one behind it.
use Rattle.solver.proofs.Memory.ConstructorClash.{Scanning}
use Rattle.solver.proofs.constructor_clash.constructor_clash.Given as goal

abbrev pub invariant-loop-p : goal.invariant-loop-p
invariant-loop-p l = Scanning l.t l.e l.s l.w l.initial.out l.out l.p-end l.p
