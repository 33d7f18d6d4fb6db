-- What `run` promises: its result, the output and the work tables are those of the definition (Run), for every script, every length of
-- lent memory, and whatever that memory holds at entry.
use Rattle.std.specs.Prelude.{ℕ, ◌≡◌, List, length}
use Rattle.session.specs.Run as Run
use Rattle.session.specs.Run.{Sizes, run, result_number, output_after, table_after}
use Rattle.session.specs.declared.run.Ending as Given
use Rattle.session.specs.declared.run.Ran.{Ran}

-- The code's endings in the definition. `Ending::number` gives `result_number` of it: the number of the question that was answered no,
-- and 0 for a run to the end.
unfoldable pub ending_meaning : Given.Ending → Run.Ending
ending_meaning Given.TheVariants.Complete = Run.Complete
ending_meaning Given.TheVariants.ShortTable = Run.ShortTable
ending_meaning Given.TheVariants.LongScript = Run.LongScript
ending_meaning Given.TheVariants.Full = Run.Full

-- how much memory is lent
abbrev pub lent : List ℕ → List ℕ → List ℕ → List ℕ → Sizes
lent core theory solver output =
    record { core = length core; theory = length theory; solver = length solver; output = length output }

-- The code's result r and the output are those of d; the output was o at entry and is o' at exit.
pub record Gives (d : Run.Ran) (r : Ran) (o o' : List ℕ) : Type 0 where
  pub ending : ending_meaning r.ending ≡ d.ending
  -- With each result go the counts of lines answered and bytes written.
  pub answered : r.answered ≡ d.answered
  pub written : r.written ≡ length d.written
  -- The answer lines; output past the last answer is untouched.
  pub output : o' ≡ output_after o d

-- c, e, s are the work tables of core, theory and solver at entry, o is the output; those with ' are what they hold at exit.
pub record Runs (script c e s o : List ℕ) (r : Ran) (c' e' s' o' : List ℕ) : Type 0 where
  pub result : Gives (run (lent c e s o) script) r o o'
  -- After a started run the work tables are all zero, however long they are; a no to 1 or 2 touches nothing.
  pub core : c' ≡ table_after (run (lent c e s o) script).ending c
  pub theory : e' ≡ table_after (run (lent c e s o) script).ending e
  pub solver : s' ≡ table_after (run (lent c e s o) script).ending s

-- The same by numbers: 01's number n for the result, a lines answered, w bytes written.
pub record Reports (script c e s o : List ℕ) (n a w : ℕ) (c' e' s' o' : List ℕ) : Type 0 where
  pub ran : Ran
  pub runs : Runs script c e s o ran c' e' s' o'
  pub number : n ≡ result_number (ending_meaning ran.ending)
  pub answered : a ≡ ran.answered
  pub written : w ≡ ran.written
