-- By the flag.
use Rattle.solver.proofs.Memory.Instantiating.{not_lasting, lasting}
use Rattle.solver.proofs.instantiation.instantiate_lasting.Goals as goal

pub returns-then-get_at-eq0 : goal.returns-then-get_at-eq0
returns-then-get_at-eq0 c = not_lasting c.requires c.get_at.ensures.0 c.if-get_at-eq0.true

pub returns : goal.returns
returns c =
    lasting c.requires c.get_at.ensures.0
    c.if-get_at-eq0.false c.instantiate_at.ensures
