-- The words of the newest merge say which edge to cut, which way to turn back and which class to take out.
use Rattle.shinri_core.proofs.Kit.{rules}
use Rattle.theory.proofs.Memory.Undoing.{side_node, edge_turnable, separate_asks, undone_at}
use Rattle.theory.proofs.eq_engine.undo.Goals as goal

pub put_at-requires : goal.put_at-requires
put_at-requires c =
    let pre = c.requires in
    let node = side_node pre.0 pre.1 c.get_at-i.ensures.0 c.get_at-a.ensures.0 c.get_at-child.ensures.0
    c.get_at-r.ensures.0 in
    search rules

pub reroot_forest-requires : goal.reroot_forest-requires
reroot_forest-requires c =
    let pre = c.requires in
    edge_turnable pre.0 pre.1 c.get_at-i.ensures.0 c.get_at-a.ensures.0 c.get_at-child.ensures.0
    c.get_at-r.ensures.0 c.put_at.ensures

pub separate-requires : goal.separate-requires
separate-requires c =
    let pre = c.requires in
    separate_asks pre.0 pre.1 c.get_at-i.ensures.0 c.get_at-a.ensures.0 c.get_at-child.ensures.0
    c.get_at-r.ensures.0 c.put_at.ensures c.reroot_forest.ensures

pub returns : goal.returns
returns c =
    let pre = c.requires in
    undone_at pre.0 pre.1 c.get_at-i.ensures.0 c.get_at-a.ensures.0 c.get_at-child.ensures.0
    c.get_at-r.ensures.0 c.put_at.ensures c.reroot_forest.ensures c.separate.ensures
    c.put_at-2.ensures
