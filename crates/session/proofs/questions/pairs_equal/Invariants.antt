-- The pairs that are left decide.
use Rattle.session.proofs.Memory.Questions.{PairsLeft}
use Rattle.session.proofs.questions.pairs_equal.Given as goal

abbrev pub invariant-loop-x : goal.invariant-loop-x
invariant-loop-x l = PairsLeft l.e l.xs l.ys l.x-iterator.a.rest.now l.x-iterator.b.rest.now
