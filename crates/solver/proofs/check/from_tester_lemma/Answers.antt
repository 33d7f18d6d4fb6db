-- The next rule is tried if the first passes.
use Rattle.shinri_core.proofs.Kit.{refl}
use Rattle.solver.specs.Rules.{tester_lemma}
use Rattle.solver.specs.Memory.Checks.{from_instantiation}
use Rattle.solver.proofs.Memory.Unfitting.{from_instantiation_onward}
use Rattle.solver.proofs.Memory.Checking.{then_on, then_stop}
use Rattle.solver.proofs.Memory.Trying.{err_not_sat, is_sat, is_answer}
use Rattle.solver.proofs.Memory.NoRooms.{no_room}
use Rattle.solver.proofs.check.from_tester_lemma.Goals as goal

pub returns-in_err-r : goal.returns-in_err-r
returns-in_err-r c =
    rw (no_room c.from_residual.result c.from_residual.ensures.0)
    (then_stop tester_lemma from_instantiation (err_not_sat refl) from_instantiation_onward c.in_err-r.ensures)

pub returns-then-ne : goal.returns-then-ne
returns-then-ne c =
    then_stop tester_lemma from_instantiation (is_answer _ c.ne.ensures c.if-ne.true) from_instantiation_onward c.in_ok-r.ensures

pub returns : goal.returns
returns c =
    then_on tester_lemma from_instantiation (is_sat _ c.ne.ensures c.if-ne.false)
    c.in_ok-r.ensures c.from_instantiation.ensures
