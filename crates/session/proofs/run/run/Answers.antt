-- By question 1, then by question 2.
use Rattle.shinri_core.proofs.Kit.{inl, inr, rules}
use Rattle.session.proofs.Memory.Running.{run_short, run_long, run_started}
use Rattle.session.proofs.run.run.Goals as goal
use Rattle.session.proofs.run.run.Goals.{then-core-lt-TABLE_WORDS-via-then-core-lt-TABLE_WORDS, then-core-lt-TABLE_WORDS-via-else-core-lt-TABLE_WORDS+then-theory-lt-TABLE_WORDS, then-core-lt-TABLE_WORDS-via-else-core-lt-TABLE_WORDS+else-theory-lt-TABLE_WORDS+then-solver-lt-TABLE_WORDS}

pub returns-then-core-lt-TABLE_WORDS : goal.returns-then-core-lt-TABLE_WORDS
returns-then-core-lt-TABLE_WORDS c =
    run_short _ _ _ _ _
    (elim c.then-core-lt-TABLE_WORDS.branch [
      | then-core-lt-TABLE_WORDS-via-then-core-lt-TABLE_WORDS w ↦ inl w.if-core-lt-TABLE_WORDS.true
      | then-core-lt-TABLE_WORDS-via-else-core-lt-TABLE_WORDS+then-theory-lt-TABLE_WORDS w ↦
          inr (inl w.if-theory-lt-TABLE_WORDS.true)
      | then-core-lt-TABLE_WORDS-via-else-core-lt-TABLE_WORDS+else-theory-lt-TABLE_WORDS+then-solver-lt-TABLE_WORDS w ↦
          inr (inr w.if-solver-lt-TABLE_WORDS.true)
    ])

pub returns-then-script-gt-MAX_SCRIPT : goal.returns-then-script-gt-MAX_SCRIPT
returns-then-script-gt-MAX_SCRIPT c = run_long _ _ _ _ _ (search rules) c.if-script-gt-MAX_SCRIPT.true

pub returns : goal.returns
returns c = run_started _ _ _ _ _ (search rules) c.run_started.ensures
