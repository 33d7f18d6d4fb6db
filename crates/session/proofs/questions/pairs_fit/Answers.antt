-- By whether the two are equal now.
use Rattle.theory.proofs.Memory.Log.{in_force_few}
use Rattle.session.proofs.Memory.Questions.{fit_joined, fit_apart}
use Rattle.session.proofs.questions.pairs_fit.Goals as goal

pub returns-then-are_equal : goal.returns-then-are_equal
returns-then-are_equal c =
    fit_joined _ _ _ _ _ _ _ (in_force_few c.args.e.now c.requires.sound) c.are_equal.ensures c.if-are_equal.true

pub returns-else-are_equal : goal.returns-else-are_equal
returns-else-are_equal c =
    let counted = c.pairs_in_force.ensures in
    fit_apart _ _ _ _ _ _ _ _ c.requires.same_count counted.0 counted.1 c.are_equal.ensures c.if-are_equal.false
