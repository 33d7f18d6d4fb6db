-- A fourth table that is too short leaves all as it is; else session's `open` sees the same lengths.
use Rattle.kept.proofs.Memory.Keeping.{refused, opens_here}
use Rattle.kept.proofs.kept.open.Goals as goal

pub returns-then-kept-lt-KEPT_WORDS : goal.returns-then-kept-lt-KEPT_WORDS
returns-then-kept-lt-KEPT_WORDS c = refused _ c.if-kept-lt-KEPT_WORDS.true

pub returns : goal.returns
returns c = opens_here c.if-kept-lt-KEPT_WORDS.false c.open.ensures
