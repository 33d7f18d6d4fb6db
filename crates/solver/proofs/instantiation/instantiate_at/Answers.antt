-- By what the term is, and whether its argument's class has an application.
use Rattle.shinri_core.proofs.Kit.{sym, ◌∙◌}
use Rattle.solver.proofs.Memory.Instantiating.{at_equation, symbol_declared, at_other, has_arg, class_asked, instantiable, at_determined, at_open}
use Rattle.solver.proofs.instantiation.instantiate_at.Goals as goal

pub returns-in_default : goal.returns-in_default
returns-in_default c = at_equation c.requires.check _ c.op.ensures c.in_default.is

pub dt_role-requires : goal.dt_role-requires
dt_role-requires c =
    let z = c.requires in
    (z.check.state.core, symbol_declared z.check _ c.op.ensures c.in-Uninterpreted.is)

pub returns-in_default-dt_role : goal.returns-in_default-dt_role
returns-in_default-dt_role c =
    at_other c.requires.check _ c.op.ensures c.in-Uninterpreted.is c.dt_role.ensures c.in_default-dt_role.not-Tester

pub bounds-children-0 : goal.bounds-children-0
bounds-children-0 c =
    let z = c.requires in
    has_arg z.check _ c.op.ensures c.in-Uninterpreted.is c.dt_role.ensures c.in-Tester.is z.within
    c.children.ensures

pub ctor_of_class-requires : goal.ctor_of_class-requires
ctor_of_class-requires c =
    let z = c.requires in
    class_asked z.check _ c.op.ensures c.in-Uninterpreted.is c.dt_role.ensures c.in-Tester.is z.within
    c.children.ensures

pub returns-then-is_some : goal.returns-then-is_some
returns-then-is_some c =
    let z = c.requires in
    at_determined z.check _ c.op.ensures c.in-Uninterpreted.is c.dt_role.ensures c.in-Tester.is z.within
    c.children.ensures _ c.ctor_of_class.ensures (sym c.is_some.ensures ∙ c.if-is_some.true)

pub instantiate-requires : goal.instantiate-requires
instantiate-requires c =
    let z = c.requires in
    instantiable z.check _ c.op.ensures c.in-Uninterpreted.is c.dt_role.ensures c.in-Tester.is z.within
    c.children.ensures z.long

pub returns : goal.returns
returns c =
    let z = c.requires in
    at_open z.check _ c.op.ensures c.in-Uninterpreted.is c.dt_role.ensures c.in-Tester.is z.within
    c.children.ensures _ c.ctor_of_class.ensures (sym c.is_some.ensures ∙ c.if-is_some.false) c.instantiate.ensures
