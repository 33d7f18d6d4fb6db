-- A phase is a byte.
use Rattle.shinri_core.proofs.Kit.{sym, arith}
use Rattle.solver.specs.Memory.Answer.{phase_meaning}
use Rattle.session.proofs.Memory.Lengths.{phase_length}
use Rattle.session.proofs.answer.PhaseElement.len.Goals as goal

pub returns : goal.returns
returns c = (sym (phase_length (phase_meaning c.args.self)), omega arith, omega arith)
