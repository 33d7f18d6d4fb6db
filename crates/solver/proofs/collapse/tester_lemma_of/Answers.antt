-- By the operation of the term and the role of its symbol.
use Rattle.shinri_core.proofs.Kit.{arith, ap, subst⁻¹, ◌<◌, ℕ, List, length, get_or}
use Rattle.shinri_core.proofs.Memory.Codes.{symbol_below}
use Rattle.solver.specs.Rules.{tester_lemma_at}
use Rattle.solver.proofs.Memory.Collapsing.{tried_none}
use Rattle.solver.proofs.Memory.TesterLemmas.{tester_equation, tester_none, tester_argument, tester_on, tester_tried}
use Rattle.solver.proofs.collapse.tester_lemma_of.Goals as goal

pub op-requires : goal.op-requires
op-requires c = (c.requires.0.check.state.core, c.requires.2)

pub dt_role-requires : goal.dt_role-requires
dt_role-requires c = (c.requires.0.check.state.core, symbol_below c.op.ensures c.in-Uninterpreted.is)

pub children-requires : goal.children-requires
children-requires c = (c.requires.0.check.state.core, c.requires.2)

pub bounds-children-0 : goal.bounds-children-0
bounds-children-0 c =
    let argument =
    tester_argument c.requires.0 c.op.ensures c.in-Uninterpreted.is c.dt_role.ensures c.in-Tester.is
    in
    subst⁻¹ (λ (xs : List ℕ). 0 < length xs) c.children.ensures
    (subst⁻¹ (λ (xs : List ℕ). 0 < length xs) argument.1 (omega arith))

pub tester_lemma_argument-requires : goal.tester_lemma_argument-requires
tester_lemma_argument-requires c =
    let on =
    tester_on c.requires.0 c.op.ensures c.in-Uninterpreted.is c.dt_role.ensures c.in-Tester.is
    (ap (λ (xs : List ℕ). get_or xs 0 0) c.children.ensures)
    in
    (on, c.requires.1)

pub returns-in-Eq : goal.returns-in-Eq
returns-in-Eq c =
    let under = c.requires.0 in
    record {
      tried = tried_none tester_lemma_at under.check (tester_equation under c.op.ensures c.in-Eq.is);
      flags = λ q. c.requires.1;
    }

pub returns-in-Tester : goal.returns-in-Tester
returns-in-Tester c =
    let once = c.tester_lemma_argument.ensures in
    record {
      tried =
          tester_tried c.requires.0 c.op.ensures c.in-Uninterpreted.is c.dt_role.ensures c.in-Tester.is
          (ap (λ (xs : List ℕ). get_or xs 0 0) c.children.ensures) once.tried;
      flags = once.flags;
    }

pub returns-in_default : goal.returns-in_default
returns-in_default c =
    let under = c.requires.0 in
    record {
      tried =
          tried_none tester_lemma_at under.check
          (tester_none under c.op.ensures c.in-Uninterpreted.is c.dt_role.ensures c.in_default.not-Tester);
      flags = λ q. c.requires.1;
    }
