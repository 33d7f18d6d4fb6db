use Rattle.shinri_core.proofs.Kit.{sym, eqb-true, eqb-false, not-false, rules}
use borrow.Author.Tests.{not-true}
use Rattle.session.proofs.Memory.Questions.{sorts_next, sorts_done, sorts_count, sorts_differ, arg_named, param_named}
use Rattle.session.proofs.questions.sorts_agree.Goals as goal

pub returns-then-arity-args : goal.returns-then-arity-args
returns-then-arity-args c = search sorts_count

pub sort_of-requires : goal.sort_of-requires
sort_of-requires c = (search rules, search arg_named)

pub param-requires : goal.param-requires
param-requires c = search param_named

pub returns-then-ne : goal.returns-then-ne
returns-then-ne c =
    sorts_differ _ _ _ _ _ _ c.loop-i-test.true c.sort_of.ensures.0 c.param.ensures.0 (eqb-false _ _ (not-true _ (sym c.if-ne.ensures)))

pub loop-i-preserved : goal.loop-i-preserved
loop-i-preserved c =
    sorts_next c.loop-i.invariant c.loop-i-test.true c.sort_of.ensures.0
    c.param.ensures.0 (eqb-true _ _ (not-false _ (sym c.if-ne.ensures)))

pub returns : goal.returns
returns c = search sorts_done
