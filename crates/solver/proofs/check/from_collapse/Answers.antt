-- The next rule is tried if the first passes.
use Rattle.shinri_core.proofs.Kit.{rules, refl}
use Rattle.solver.specs.Rules.{collapse_lemma}
use Rattle.solver.specs.Memory.Checks.{from_tester_lemma}
use Rattle.solver.proofs.Memory.Unfitting.{from_tester_lemma_onward}
use Rattle.solver.proofs.Memory.Checking.{then_on, then_stop, chained}
use Rattle.solver.proofs.Memory.Trying.{err_not_sat, is_sat, is_answer}
use Rattle.solver.proofs.Memory.NoRooms.{no_room}
use Rattle.solver.proofs.check.from_collapse.Goals as goal

pub returns-in_err-r : goal.returns-in_err-r
returns-in_err-r c =
    rw (no_room c.from_residual.result c.from_residual.ensures.0)
    (then_stop collapse_lemma from_tester_lemma (err_not_sat refl) from_tester_lemma_onward c.in_err-r.ensures)

pub returns-then-ne : goal.returns-then-ne
returns-then-ne c =
    then_stop collapse_lemma from_tester_lemma (is_answer _ c.ne.ensures c.if-ne.true) from_tester_lemma_onward c.in_ok-r.ensures

pub from_tester_lemma-requires : goal.from_tester_lemma-requires
from_tester_lemma-requires c =
    record {
      check = c.in_ok-r.ensures.sound;
      chain = chained c.requires.check c.requires.chain c.in_ok-r.ensures;
      long = search rules;
    }

pub returns : goal.returns
returns c =
    then_on collapse_lemma from_tester_lemma (is_sat _ c.ne.ensures c.if-ne.false)
    c.in_ok-r.ensures c.from_tester_lemma.ensures
