-- The arguments of two applications of one operation are as many.
use Rattle.session.proofs.Memory.Questions.{arguments_are}
use Rattle.session.proofs.questions.congruent.Goals as goal

pub pairs_equal-requires : goal.pairs_equal-requires
pairs_equal-requires c =
    arguments_are c.requires c.same_op.ensures c.if-same_op.true c.children.ensures
    c.children-then-same_op.ensures
