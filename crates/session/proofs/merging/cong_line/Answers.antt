-- The questions in order.
use Rattle.shinri_core.proofs.Kit.{ap, not}
use Rattle.session.proofs.Memory.Merging.{two_applications, two_terms, cong_early, cong_missing, cong_differs, cong_full, cong_merged, cong_nodes, cong_may}
use Rattle.session.proofs.merging.cong_line.Goals as goal

pub returns-then-not-closed : goal.returns-then-not-closed
returns-then-not-closed c = search cong_early

pub returns-then-not-two_exist : goal.returns-then-not-two_exist
returns-then-not-two_exist c = search cong_missing

pub congruent-requires : goal.congruent-requires
congruent-requires c = search two_applications

pub returns-then-not-congruent : goal.returns-then-not-congruent
returns-then-not-congruent c = search cong_differs

pub children-xs-requires : goal.children-xs-requires
children-xs-requires c = (c.requires.core, (two_terms _ _ _ _ _ c.requires c.two_exist.ensures (ap not c.if-not-two_exist.false)).first)

pub children-ys-requires : goal.children-ys-requires
children-ys-requires c = (c.requires.core, (two_terms _ _ _ _ _ c.requires c.two_exist.ensures (ap not c.if-not-two_exist.false)).second)

pub pairs_fit-requires : goal.pairs_fit-requires
pairs_fit-requires c =
    cong_nodes _ _ _ _ _ _ _ _ c.requires c.two_exist.ensures (ap not c.if-not-two_exist.false) c.congruent.ensures
    (ap not c.if-not-congruent.false) c.children-xs.ensures c.children-ys.ensures

pub returns-then-not-pairs_fit : goal.returns-then-not-pairs_fit
returns-then-not-pairs_fit c =
    cong_full _ _ _ _ _ _ _ (ap not c.if-not-closed.false) c.two_exist.ensures (ap not c.if-not-two_exist.false)
    c.congruent.ensures _ _ _ (ap not c.if-not-congruent.false) c.children-xs.ensures c.children-ys.ensures
    c.pairs_fit.ensures (ap not c.if-not-pairs_fit.true)

pub merge_congruence-requires : goal.merge_congruence-requires
merge_congruence-requires c =
    cong_may _ _ _ _ _ _ _ _ c.requires c.two_exist.ensures (ap not c.if-not-two_exist.false) c.congruent.ensures
    (ap not c.if-not-congruent.false) c.children-xs.ensures c.children-ys.ensures _ c.pairs_fit.ensures (ap not c.if-not-pairs_fit.false)

pub returns : goal.returns
returns c =
    cong_merged _ _ _ _ _ _ _ (ap not c.if-not-closed.false) c.two_exist.ensures (ap not c.if-not-two_exist.false)
    c.congruent.ensures _ _ _ (ap not c.if-not-congruent.false) c.children-xs.ensures c.children-ys.ensures
    c.pairs_fit.ensures c.merge_congruence.ensures
