use Rattle.shinri_core.proofs.Kit.{◌∙◌, arith}
use Rattle.theory.proofs.Memory.Explaining.{on_with, goes_one, met, goes_two, walk_first, walk_rises, walk_edge, walk_older, walk_next, walk_done, pair_first, pair_older, pair_next, pair_done, pair_few, pair_nodes, pair_new, pair_known, edge_literal, edge_interface, edge_congruence}
use Rattle.theory.proofs.eq_engine.+expand_edge_expand_pair_expand_pairs_expand_way_explain_rec.Goals as goal

pub expand_edge-label_at-requires : goal.expand_edge-label_at-requires
expand_edge-label_at-requires t c = let p = c.requires in let f = p.0.engine.fewer in (p.0.engine.long, omega arith)

pub expand_edge-push_leaf-requires : goal.expand_edge-push_leaf-requires
expand_edge-push_leaf-requires t c =
    let p = c.requires in
    (p.0.answer.words, (edge_literal p.0 p.1 c.in-Asserted.p c.in-Asserted.ensures).room)

pub expand_edge-expand_pairs-requires : goal.expand_edge-expand_pairs-requires
expand_edge-expand_pairs-requires t c =
    let p = c.requires in
    let w = edge_congruence p.0 p.1 c.in-Congruence.from c.in-Congruence.to c.in-Congruence.ensures in
    (omega (arith, w.as_old), (p.0, w.ready))

pub expand_edge-push_leaf-requires-in-Interface : goal.expand_edge-push_leaf-requires-in-Interface
expand_edge-push_leaf-requires-in-Interface t c =
    let p = c.requires in
    (p.0.answer.words, (edge_interface p.0 p.1 c.in-Interface.j c.in-Interface.ensures).room)

pub expand_edge-returns-in-Asserted : goal.expand_edge-returns-in-Asserted
expand_edge-returns-in-Asserted t c =
    let p = c.requires in
    (edge_literal p.0 p.1 c.in-Asserted.p c.in-Asserted.ensures).goes c.push_leaf.ensures

pub expand_edge-returns-in-Congruence : goal.expand_edge-returns-in-Congruence
expand_edge-returns-in-Congruence t c =
    let p = c.requires in
    (edge_congruence p.0 p.1 c.in-Congruence.from c.in-Congruence.to c.in-Congruence.ensures).goes c.expand_pairs.ensures

pub expand_edge-returns-in-Interface : goal.expand_edge-returns-in-Interface
expand_edge-returns-in-Interface t c =
    let p = c.requires in
    (edge_interface p.0 p.1 c.in-Interface.j c.in-Interface.ensures).goes c.push_leaf-in-Interface.ensures

pub expand_pair-pair_at-p-requires : goal.expand_pair-pair_at-p-requires
expand_pair-pair_at-p-requires t c = let p = c.requires in (p.0.engine.long, pair_few p.0.engine p.1)

pub expand_pair-explain_rec-requires : goal.expand_pair-explain_rec-requires
expand_pair-explain_rec-requires t c =
    let p = c.requires in
    let w = pair_nodes p.1 c.pair_at-p.ensures.left c.pair_at-p.ensures.right in
    (omega (arith, w.as_old), (p.0, w.nodes))

pub expand_pair-returns-then-not-is_expanded : goal.expand_pair-returns-then-not-is_expanded
expand_pair-returns-then-not-is_expanded t c =
    let p = c.requires in
    let w = pair_nodes p.1 c.pair_at-p.ensures.left c.pair_at-p.ensures.right in
    pair_new p.1 c.is_expanded.ensures w c.if-not-is_expanded.true c.explain_rec.ensures

pub expand_pair-returns-else-not-is_expanded : goal.expand_pair-returns-else-not-is_expanded
expand_pair-returns-else-not-is_expanded t c =
    let p = c.requires in
    pair_known p.1 c.is_expanded.ensures p.0 c.if-not-is_expanded.false

pub expand_pairs-loop-k-init : goal.expand_pairs-loop-k-init
expand_pairs-loop-k-init t c = let p = c.requires in pair_first p.0 p.1.ordered

pub expand_pairs-expand_pair-requires : goal.expand_pairs-expand_pair-requires
expand_pairs-expand_pair-requires t c =
    let p = c.requires in
    let i = c.loop-k.invariant in
    let h = c.loop-k-test.true in
    (omega (arith, pair_older i h), (on_with p.0 i.goes.answer i.marks_long, p.1.each _ i.after h))

pub expand_pairs-loop-k-preserved : goal.expand_pairs-loop-k-preserved
expand_pairs-loop-k-preserved t c =
    pair_next c.loop-k.invariant c.loop-k-test.true c.expand_pair.ensures c.expand_pair.auto.marks c.expand_pair.auto.out

pub expand_pairs-returns : goal.expand_pairs-returns
expand_pairs-returns t c = pair_done c.loop-k.invariant c.loop-k-test.false

pub expand_way-loop-n-init : goal.expand_way-loop-n-init
expand_way-loop-n-init t c = let p = c.requires in walk_first p.0 p.1

pub expand_way-expand_edge-requires : goal.expand_way-expand_edge-requires
expand_way-expand_edge-requires t c =
    let p = c.requires in
    let i = c.loop-n.invariant in
    let h = c.loop-n-test.true in
    let e = c.get_at.ensures.0 in
    let z = p.0.engine in
    (omega (arith, walk_older z i h e), (on_with p.0 i.goes.answer i.marks_long, walk_edge z i h e))

pub expand_way-loop-n-smaller : goal.expand_way-loop-n-smaller
expand_way-loop-n-smaller t c =
    let z = c.requires.0.engine in
    omega (arith, (walk_rises z c.loop-n.invariant c.loop-n-test.true c.get_at-n.ensures.0).longer)

pub expand_way-loop-n-preserved : goal.expand_way-loop-n-preserved
expand_way-loop-n-preserved t c =
    let z = c.requires.0.engine in
    walk_next z c.loop-n.invariant c.loop-n-test.true c.get_at.ensures.0 c.get_at-n.ensures.0
    c.expand_edge.ensures c.expand_edge.auto.marks c.expand_edge.auto.out

pub expand_way-returns : goal.expand_way-returns
expand_way-returns t c = walk_done c.requires.0.engine c.loop-n.invariant c.loop-n-test.false

pub explain_rec-returns-then-a-b : goal.explain_rec-returns-then-a-b
explain_rec-returns-then-a-b t c = goes_one c.requires.0 c.if-a-b.true

pub explain_rec-expand_way-requires : goal.explain_rec-expand_way-requires
explain_rec-expand_way-requires t c =
    let p = c.requires in
    let w = met p.0.engine p.1 c.forest_nca-n.ensures in
    let k = c.mark_pairs.auto.marks in
    (omega (arith, w.left_older, w.right_older), (on_with p.0 p.0.answer k, search (w.left_up, w.right_up)))

pub explain_rec-expand_way-requires-2 : goal.explain_rec-expand_way-requires-2
explain_rec-expand_way-requires-2 t c =
    let p = c.requires in
    let w = met p.0.engine p.1 c.forest_nca-n.ensures in
    let k = c.expand_way.auto.marks ∙ c.mark_pairs.auto.marks in
    let up = on_with p.0 c.expand_way.ensures.answer k in
    (omega (arith, w.left_older, w.right_older), (up, search (w.left_up, w.right_up)))

pub explain_rec-returns : goal.explain_rec-returns
explain_rec-returns t c =
    let p = c.requires in
    goes_two p.0.engine p.1 c.if-a-b.false c.mark_pairs.ensures c.forest_nca-n.ensures
    c.expand_way.ensures c.expand_way-2.ensures
