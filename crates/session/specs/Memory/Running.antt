-- What the functions of the run promise one another.
use Rattle.std.specs.Prelude.{ℕ, ◌+◌, ◌≤◌, ◌<◌, ◌≡◌, List, [], length, Option, None, Some}
use Rattle.shinri_core.specs.Limits.{table_words, max_script}
use Rattle.shinri_core.specs.Context.{empty_context}
use Rattle.shinri_core.specs.Memory.Table.{context, ContextSound}
use Rattle.theory.specs.Memory.Table.{Engine}
use Rattle.solver.specs.Memory.Recording.{SolverCleared}
use Rattle.session.specs.Text.{lines}
use Rattle.session.specs.Session.{Performed, empty_session, step}
use Rattle.session.specs.Run.{answer_line, run_lines, zeros}
use Rattle.session.specs.Promise.{Gives}
use Rattle.session.specs.Memory.Sessions.{Beside, session, Reached, SessionSound}
use Rattle.session.specs.Memory.Answers.{Written, longest_answer}
use Rattle.session.specs.declared.run.Ran.{Ran}

-- ---- an empty session

-- question 1 was answered yes
pub record TablesLong (c e s : List ℕ) : Type 0 where
  pub core : table_words ≤ length c
  pub theory : table_words ≤ length e
  pub solver : table_words ≤ length s

-- the tables of an empty session
pub record EmptyTables (c e s : List ℕ) : Type 0 where
  pub core : ContextSound c
  pub no_terms : context c ≡ empty_context
  pub engine : Engine e [] 0
  pub solver : SolverCleared s

-- ---- an answer line

-- A text was put at a place of the output; or it does not fit there, and the output is as it was.
abbrev pub Puts : Option ℕ → List ℕ → ℕ → List ℕ → List ℕ → Type 0
Puts (Some r) o start text o' = Written o start text o' r
Puts None o start text o' = (o' ≡ o) × (length o < start + length text)

-- ---- the lines

-- a session that lines lead to, in tables that fit together: the next line may be answered
pub record Answerable (c e s : List ℕ) (m : Beside) : Type 0 where
  pub sound : SessionSound c e s m
  pub reached : Reached (session c e s m)

-- It was: the tables and m show the session after the definition's step p, and its answer line was put at a place of the output.
pub record AnsweredBy (p : Performed) (d : Option ℕ) (c e s : List ℕ) (m : Beside) (o : List ℕ) (start : ℕ) (o' : List ℕ) : Type 0
  where
    pub answerable : Answerable c e s m
    pub after : p.session ≡ session c e s m
    pub line : Puts d o start (answer_line p) o'
    pub short : length (answer_line p) ≤ longest_answer

abbrev pub AnswersLine :
    List ℕ → List ℕ → List ℕ → List ℕ → Beside → Option ℕ → List ℕ → List ℕ → List ℕ → Beside → List ℕ → ℕ → List ℕ → Type 0
AnswersLine line c e s m d c' e' s' m' o start o' = AnsweredBy (step (session c e s m) line) d c' e' s' m' o start o'

-- the lines of a script may be answered, from the first on
pub record MayRun (script c e s : List ℕ) : Type 0 where
  pub short : length script ≤ max_script
  pub tables : EmptyTables c e s

-- they were, until one's answer line did not fit the output left
abbrev pub RunsLines : List ℕ → List ℕ → Ran → List ℕ → Type 0
RunsLines script o r o' = Gives (run_lines (length o) empty_session (lines script)) r o o'

-- ---- the run

-- questions 1 and 2 were answered yes
pub record MayStart (script c e s : List ℕ) : Type 0 where
  pub short : length script ≤ max_script
  pub tables : TablesLong c e s

-- every word of the three tables is 0 at exit
pub record Zeroed (c e s c' e' s' : List ℕ) : Type 0 where
  pub core : c' ≡ zeros c
  pub theory : e' ≡ zeros e
  pub solver : s' ≡ zeros s

pub record RunsStarted (script c e s o : List ℕ) (r : Ran) (c' e' s' o' : List ℕ) : Type 0 where
  pub result : RunsLines script o r o'
  pub zeroed : Zeroed c e s c' e' s'
