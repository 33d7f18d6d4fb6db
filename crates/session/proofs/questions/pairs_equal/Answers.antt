use Rattle.shinri_core.proofs.Kit.{ap, not}
use Rattle.std.proofs.lemmas.Slice.Zip.{either_empty_from_Zip}
use Rattle.session.proofs.Memory.Questions.{pairs_first, pairs_next, pairs_done, pairs_not, turn_nodes}
use Rattle.session.proofs.questions.pairs_equal.Goals as goal

pub loop-x-init : goal.loop-x-init
loop-x-init c = pairs_first c.requires (cc) (cc)

pub are_equal-requires : goal.are_equal-requires
are_equal-requires c = turn_nodes c.loop-x.invariant c.in-Some.ensures.steps.0 c.in-Some.ensures.steps.1

pub loop-x-preserved : goal.loop-x-preserved
loop-x-preserved c =
    pairs_next c.loop-x.invariant c.in-Some.ensures.steps.0 c.in-Some.ensures.steps.1 c.are_equal.ensures (ap not c.if-not-are_equal.false)

pub returns-then-not-are_equal : goal.returns-then-not-are_equal
returns-then-not-are_equal c =
    pairs_not c.loop-x.invariant c.in-Some.ensures.steps.0 c.in-Some.ensures.steps.1 c.are_equal.ensures (ap not c.if-not-are_equal.true)

pub returns : goal.returns
returns c = pairs_done c.loop-x.invariant (either_empty_from_Zip _ c.next.new.self _ c.in-None.is c.next.ensures.steps)
