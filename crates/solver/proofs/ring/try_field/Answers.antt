-- A field of another sort is passed over; else by what it leads to.
use Rattle.solver.proofs.Memory.RingSteps.{tries_entered, tries_other}
use Rattle.solver.proofs.ring.try_field.Goals as goal

pub returns-then-is_datatype_sort : goal.returns-then-is_datatype_sort
returns-then-is_datatype_sort c =
    tries_entered _ c.args.e.now c.args.w.now c.args.r.now c.args.n _ c.sort_of.ensures.0 c.is_datatype_sort.ensures
    c.if-is_datatype_sort.true c.enter.new.r c.enter.result c.enter.ensures

pub returns-else-is_datatype_sort : goal.returns-else-is_datatype_sort
returns-else-is_datatype_sort c = tries_other c.sort_of.ensures.0 c.is_datatype_sort.ensures c.if-is_datatype_sort.false
