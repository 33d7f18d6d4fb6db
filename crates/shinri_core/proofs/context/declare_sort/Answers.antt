-- By the kind that is declared.
use Rattle.shinri_core.specs.Memory.Table.{node_of}
use Rattle.shinri_core.specs.Memory.Codes.{declared_node}
use Rattle.shinri_core.proofs.Memory.Declarations.{no_more_sorts, sort_declared}
use Rattle.shinri_core.proofs.context.declare_sort.Goals as goal
use Rattle.shinri_core.proofs.context.declare_sort.Goals.{then-datatype, else-datatype}

pub returns-then-n-eq-MAX_SORTS : goal.returns-then-n-eq-MAX_SORTS
returns-then-n-eq-MAX_SORTS c = search no_more_sorts

pub returns : goal.returns
unfolding node_of declared_node
returns c =
    sort_declared _ c.requires c.get_at-n.ensures.0 c.if-n-eq-MAX_SORTS.false
    (elim c.if-datatype.branch [
      | then-datatype w ↦ rw (w.node-is, w.if-datatype.true)
      | else-datatype w ↦ rw (w.node-is, w.if-datatype.false)
    ])
    c.put_at.ensures c.put_at-2.ensures
