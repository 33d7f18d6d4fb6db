-- The questions in order.
use Rattle.shinri_core.proofs.Kit.{refl, ap, not}
use Rattle.session.proofs.Memory.Merging.{two_terms, two_nodes, iface_early, iface_missing, iface_disagrees, iface_merged}
use Rattle.session.proofs.merging.iface_line.Goals as goal

pub returns-then-not-closed : goal.returns-then-not-closed
returns-then-not-closed c = search iface_early

pub returns-then-not-two_exist : goal.returns-then-not-two_exist
returns-then-not-two_exist c = search iface_missing

pub one_sort-requires : goal.one_sort-requires
one_sort-requires c = search two_terms

pub returns-then-not-one_sort : goal.returns-then-not-one_sort
returns-then-not-one_sort c = search iface_disagrees

pub merge-requires : goal.merge-requires
merge-requires c = search two_nodes

pub returns : goal.returns
returns c =
    iface_merged (ap not c.if-not-closed.false) c.two_exist.ensures (ap not c.if-not-two_exist.false)
    c.one_sort.ensures _ refl refl (ap not c.if-not-one_sort.false) c.merge.ensures
