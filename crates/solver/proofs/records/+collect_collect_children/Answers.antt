use Rattle.shinri_core.proofs.Kit.{arith, ◌∙◌}
use Rattle.solver.proofs.Memory.Collecting.{gather_first, gather_next, gather_done, child, collect_known, collect_done}
use Rattle.solver.proofs.records.+collect_collect_children.Goals as goal

pub collect-collect_children-requires : goal.collect-collect_children-requires
collect-collect_children-requires t c = (omega arith, c.requires)

pub collect-returns-then-get_at-eq0 : goal.collect-returns-then-get_at-eq0
collect-returns-then-get_at-eq0 t c =
    collect_done c.requires.0 c.requires.1 c.collect_children.ensures (c.mark_word-kind.ensures.0 ∙ c.term_kind.ensures)
    c.put_mark.ensures c.put_at.ensures

pub collect-returns-else-get_at-eq0 : goal.collect-returns-else-get_at-eq0
collect-returns-else-get_at-eq0 t c = collect_known c.requires.0 c.get_at.ensures.0 c.if-get_at-eq0.false

pub collect_children-loop-arg-init : goal.collect_children-loop-arg-init
collect_children-loop-arg-init t c = gather_first c.requires.0

pub collect_children-collect-requires : goal.collect_children-collect-requires
collect_children-collect-requires t c =
    let (l, z, w) = child c.loop-arg.invariant c.requires.1 c.children-args.ensures (omega arith) in
    (omega (arith, l), (z, w))

pub collect_children-loop-arg-preserved : goal.collect_children-loop-arg-preserved
collect_children-loop-arg-preserved t c =
    gather_next c.loop-arg.invariant c.requires.1 c.children-args.ensures
    (omega arith) c.collect.ensures

pub collect_children-shape_of-s : goal.collect_children-shape_of-s
collect_children-shape_of-s t c = c.loop-arg.invariant.spreads.kept.long

pub collect_children-returns : goal.collect_children-returns
collect_children-returns t c = gather_done c.loop-arg.invariant c.children-args.ensures (omega arith)
