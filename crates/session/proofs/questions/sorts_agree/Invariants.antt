-- The arguments up to i have the sorts of the parameters.
use Rattle.shinri_core.specs.Context.{symbol}
use Rattle.shinri_core.specs.Memory.Table.{context}
use Rattle.session.proofs.Memory.Questions.{SortsTo}
use Rattle.session.proofs.questions.sorts_agree.Given as goal

abbrev pub invariant-loop-i : goal.invariant-loop-i
invariant-loop-i l = SortsTo (context l.c) (symbol (context l.c) l.f.0).params l.args l.i
