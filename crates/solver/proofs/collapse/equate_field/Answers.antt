-- The two roots tell whether the sides are equal; if not, the equation is made and handed out.
use Rattle.shinri_core.proofs.Kit.{rules, refl}
use Rattle.solver.proofs.Memory.Collapsing.{field_equal, field_none, field_some, field_node}
use Rattle.solver.proofs.Memory.NoRooms.{no_room}
use Rattle.solver.proofs.collapse.equate_field.Goals as goal

pub returns-then-root_of : goal.returns-then-root_of
returns-then-root_of c = field_equal c.requires c.root_of.ensures.0 c.root_of-2.ensures.0 c.if-root_of.true

pub hand_out-requires : goal.hand_out-requires
hand_out-requires c =
    let pre = c.requires in
    (pre.check.state.solver, field_node pre c.in_ok-x.ensures refl, search rules)

pub returns-in_err-x : goal.returns-in_err-x
returns-in_err-x c =
    rw (no_room c.from_residual.result c.from_residual.ensures.0)
    (field_none c.requires c.root_of.ensures.0 c.root_of-2.ensures.0 c.if-root_of.false c.in_err-x.ensures refl)

pub returns : goal.returns
returns c =
    field_some c.requires c.root_of.ensures.0 c.root_of-2.ensures.0 c.if-root_of.false
    c.in_ok-x.ensures refl c.hand_out.ensures
