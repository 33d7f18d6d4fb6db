-- The atom of a registered variable is a term.
use Rattle.shinri_core.proofs.Kit.{rules}
use Rattle.session.proofs.Memory.Questions.{named_atom}
use Rattle.session.proofs.questions.equation.Goals as goal

pub is_equation-requires : goal.is_equation-requires
is_equation-requires c = (search rules, search named_atom)
