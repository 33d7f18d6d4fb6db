-- A term of its kind is an application of a tester.
use Rattle.shinri_core.proofs.Kit.{rules}
use Rattle.shinri_core.proofs.Memory.Codes.{symbol_below}
use Rattle.solver.proofs.Memory.Clashing.{term_within, tester_no_equation, tester_no_other, tester_is}
use Rattle.solver.proofs.clashes.tester_ctor.Goals as goal

pub op-requires : goal.op-requires
op-requires c = (search rules, search term_within)

pub dt_role-requires : goal.dt_role-requires
dt_role-requires c = (search rules, search symbol_below)

pub returns-in-Eq : goal.returns-in-Eq
returns-in-Eq c = absurd (search tester_no_equation)

pub returns-in-Tester : goal.returns-in-Tester
returns-in-Tester c = search tester_is

pub returns-in_default : goal.returns-in_default
returns-in_default c =
    absurd (tester_no_other c.requires c.op.ensures c.in-Uninterpreted.is c.dt_role.ensures c.in_default.not-Tester)
