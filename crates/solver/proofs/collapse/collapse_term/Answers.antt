-- The mark tells a selector application from other terms.
use Rattle.shinri_core.proofs.Kit.{◌<◌, arith}
use Rattle.solver.proofs.Memory.Collapsing.{sel_other, sel_marked}
use Rattle.solver.proofs.collapse.collapse_term.Goals as goal
use Rattle.solver.proofs.collapse.collapse_term.Goals.{else-kind-via-then-kind+else-kind-2, else-kind-via-else-kind}

pub get_at-kind-requires : goal.get_at-kind-requires
get_at-kind-requires c =
    let check = c.requires.0.check in
    omega (arith, check.state.core.term_count, check.state.core.terms_fit, check.work.long)

pub returns-then-kind-2 : goal.returns-then-kind-2
returns-then-kind-2 c =
    let pre = c.requires in
    record {
      tried = sel_other pre.0 pre.2 c.get_at-kind.ensures.0 c.if-kind.true c.if-kind-2.true;
      flags = λ q. pre.1;
    }

pub overflow_cast-x : goal.overflow_cast-x
overflow_cast-x c =
    let pre = c.requires in
    let z = pre.0.check.state.core in
    record { fits = omega (arith, z.term_count, z.terms_fit, pre.2) }

pub collapse_selector-requires : goal.collapse_selector-requires
collapse_selector-requires c = c.requires

pub returns : goal.returns
returns c =
    let pre = c.requires in
    let once = c.collapse_selector.ensures in
    let marked : 0 < c.get_at-kind.result = elim c.else-kind.branch [
      | else-kind-via-then-kind+else-kind-2 w ↦ omega (arith, w.if-kind-2.false)
      | else-kind-via-else-kind w ↦ omega (arith, w.if-kind.false)
    ] in
    record {
      tried = sel_marked pre.0 pre.2 c.get_at-kind.ensures.0 marked once.tried;
      flags = once.flags;
    }
