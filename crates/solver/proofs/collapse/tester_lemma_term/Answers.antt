-- The mark tells a tester application from other terms.
use Rattle.shinri_core.proofs.Kit.{arith}
use Rattle.solver.proofs.Memory.TesterLemmas.{tester_other, tester_marked}
use Rattle.solver.proofs.collapse.tester_lemma_term.Goals as goal

pub get_at-requires : goal.get_at-requires
get_at-requires c =
    let check = c.requires.0.check in
    omega (arith, check.state.core.term_count, check.state.core.terms_fit, check.work.long)

pub returns-then-get_at : goal.returns-then-get_at
returns-then-get_at c =
    let pre = c.requires in
    record {
      tried = tester_other pre.0 pre.2 c.get_at.ensures.0 c.if-get_at.true;
      flags = λ q. pre.1;
    }

pub overflow_cast-x : goal.overflow_cast-x
overflow_cast-x c =
    let pre = c.requires in
    let z = pre.0.check.state.core in
    record { fits = omega (arith, z.term_count, z.terms_fit, pre.2) }

pub tester_lemma_of-requires : goal.tester_lemma_of-requires
tester_lemma_of-requires c = c.requires

pub returns : goal.returns
returns c =
    let pre = c.requires in
    let q = c.if-get_at.false in
    let once = c.tester_lemma_of.ensures in
    record {
      tried = tester_marked pre.0 pre.2 c.get_at.ensures.0 (omega arith) once.tried;
      flags = once.flags;
    }
