-- By what was found: no constructor application, one that agrees with the tester, one that does not.
use Rattle.theory.proofs.Memory.Leaves.{first_asks}
use Rattle.solver.proofs.Memory.Clashing.{none_found, tester_agrees, may_explain, tester_disagrees}
use Rattle.solver.proofs.clashes.disagrees.Goals as goal

pub returns-in_default : goal.returns-in_default
returns-in_default c = none_found _ c.in_default.is

pub returns-then-eq-positive : goal.returns-then-eq-positive
returns-then-eq-positive c = tester_agrees _ _ _ c.in-Some.is c.eq.ensures c.if-eq-positive.true

pub push_leaf-requires : goal.push_leaf-requires
push_leaf-requires c = first_asks _ c.clear_leaves.ensures

pub explain-requires : goal.explain-requires
explain-requires c = may_explain c.in-Some.is c.requires c.clear_leaves.ensures c.push_leaf.ensures

pub returns : goal.returns
returns c =
    tester_disagrees _ _ _ c.in-Some.is c.eq.ensures c.if-eq-positive.false c.clear_leaves.ensures
    c.push_leaf.ensures c.explain.ensures
