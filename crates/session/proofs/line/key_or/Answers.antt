-- Straight.
use Rattle.shinri_core.proofs.Kit.{sym, ◌∙◌}
use Rattle.session.proofs.line.key_or.Goals as goal

pub returns-then-same_text : goal.returns-then-same_text
returns-then-same_text c = rw (sym c.same_text.ensures ∙ c.if-same_text.true)

pub returns-else-same_text : goal.returns-else-same_text
returns-else-same_text c = rw (sym c.same_text.ensures ∙ c.if-same_text.false)
