-- The parts before a place are the first n numbers, and those of the rest come behind them.
use Rattle.session.proofs.Memory.Parsing.{Taken}
use Rattle.session.proofs.numbers.read_numbers.Given as goal

abbrev pub invariant-loop-n : goal.invariant-loop-n
invariant-loop-n l = Taken l.v l.initial.numbers l.numbers l.from l.n
