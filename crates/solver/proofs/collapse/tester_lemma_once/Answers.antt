-- Where the flag names the tester the rule passes; else it is tried, and the flag is set if it passes.
use Rattle.shinri_core.proofs.Kit.{arith, refl}
use Rattle.solver.proofs.Memory.TestsOnce.{tester_small, tests_pass, tests_now, tests_answer}
use Rattle.solver.proofs.Memory.Trying.{err_not_sat, no_sat}
use Rattle.solver.proofs.Memory.NoRooms.{no_room}
use Rattle.solver.proofs.collapse.tester_lemma_once.Goals as goal

pub get_at-requires : goal.get_at-requires
get_at-requires c = omega (arith, c.requires.is_node, c.requires.flags.long)

pub returns-then-get_at-word : goal.returns-then-get_at-word
returns-then-get_at-word c =
    let e = c.get_at.ensures.0 in
    let q = c.if-get_at-word.true in
    tests_pass c.requires (omega arith)

pub tester_lemma_class-requires : goal.tester_lemma_class-requires
tester_lemma_class-requires c = c.requires.on

pub put_at-requires : goal.put_at-requires
put_at-requires c =
    let small = tester_small c.requires.on in
    (omega (arith, c.requires.is_node, c.requires.flags.long), omega arith)

pub returns-in_err-r : goal.returns-in_err-r
returns-in_err-r c =
    rw (no_room c.from_residual.result c.from_residual.ensures.0) (tests_answer c.requires c.in_err-r.ensures (err_not_sat refl))

pub returns-then-eq : goal.returns-then-eq
returns-then-eq c = tests_now c.requires c.in_ok-r.ensures (omega arith) c.put_at.ensures

pub returns-else-eq : goal.returns-else-eq
returns-else-eq c = tests_answer c.requires c.in_ok-r.ensures (no_sat _ c.eq.ensures c.if-eq.false)
