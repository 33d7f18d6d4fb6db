-- By the guard.
use Rattle.solver.specs.Memory.Answer.{guarded}
use Rattle.solver.proofs.answer.write_guard.Goals as goal

pub returns-in-Some : goal.returns-in-Some
unfolding guarded
returns-in-Some c = rw (c.in-Some.is, c.put_at-in-Some.ensures, c.put_at.ensures)

pub returns-in-None : goal.returns-in-None
unfolding guarded
returns-in-None c = rw (c.in-None.is, c.put_at-in-None.ensures)
