-- By the operation of the term and the role of its symbol.
use Rattle.shinri_core.proofs.Kit.{arith, ap, subst⁻¹, ◌<◌, ℕ, List, length, get_or}
use Rattle.shinri_core.proofs.Memory.Codes.{symbol_below}
use Rattle.solver.specs.Rules.{collapse_at}
use Rattle.solver.proofs.Memory.Collapsing.{sel_equation, sel_none, sel_argument, selector_on, selector_tried, tried_none}
use Rattle.solver.proofs.collapse.collapse_selector.Goals as goal

pub op-requires : goal.op-requires
op-requires c = (c.requires.0.check.state.core, c.requires.2)

pub dt_role-requires : goal.dt_role-requires
dt_role-requires c = (c.requires.0.check.state.core, symbol_below c.op.ensures c.in-Uninterpreted.is)

pub children-requires : goal.children-requires
children-requires c = (c.requires.0.check.state.core, c.requires.2)

pub bounds-children-0 : goal.bounds-children-0
bounds-children-0 c =
    let argument =
    sel_argument c.requires.0 c.op.ensures c.in-Uninterpreted.is c.dt_role.ensures c.in-Selector.is
    in
    subst⁻¹ (λ (xs : List ℕ). 0 < length xs) c.children.ensures
    (subst⁻¹ (λ (xs : List ℕ). 0 < length xs) argument.1 (omega arith))

pub collapse_argument-requires : goal.collapse_argument-requires
collapse_argument-requires c =
    let on =
    selector_on c.requires.0 c.op.ensures c.in-Uninterpreted.is c.dt_role.ensures c.in-Selector.is
    (ap (λ (xs : List ℕ). get_or xs 0 0) c.children.ensures)
    in
    (on, c.requires.1)

pub returns-in-Eq : goal.returns-in-Eq
returns-in-Eq c =
    let under = c.requires.0 in
    record {
      tried = tried_none collapse_at under.check (sel_equation under c.op.ensures c.in-Eq.is);
      flags = λ q. c.requires.1;
    }

pub returns-in-Selector : goal.returns-in-Selector
returns-in-Selector c =
    let once = c.collapse_argument.ensures in
    record {
      tried =
          selector_tried c.requires.0 c.op.ensures c.in-Uninterpreted.is c.dt_role.ensures c.in-Selector.is
          (ap (λ (xs : List ℕ). get_or xs 0 0) c.children.ensures) once.tried;
      flags = once.flags;
    }

pub returns-in_default : goal.returns-in_default
returns-in_default c =
    let under = c.requires.0 in
    record {
      tried =
          tried_none collapse_at under.check
          (sel_none under c.op.ensures c.in-Uninterpreted.is c.dt_role.ensures c.in_default.not-Selector);
      flags = λ q. c.requires.1;
    }
