-- The session that the three tables mean, when they fit together, and what answering a line promises.
use Rattle.std.specs.Prelude.{ℕ, ◌≤◌, ◌≡◌, Bool, true, false, List, [], ◌∷◌, length, Result, Ok, Err}
use Rattle.shinri_core.specs.Ids as Ids
use Rattle.shinri_core.specs.Term.{Eq, same_op}
use Rattle.shinri_core.specs.Context.{term, children}
use Rattle.shinri_core.specs.Formed.{Formed}
use Rattle.shinri_core.specs.declared.ids.TermId.{TermId}
use Rattle.shinri_core.specs.declared.limits.NoRoom.{NoRoom}
use Rattle.shinri_core.specs.Memory.Table.{context, ContextSound}
use Rattle.theory.specs.Types.{Asserted}
use Rattle.theory.specs.Atom.{is_registered, atom}
use Rattle.theory.specs.Memory.Answer.{answer_size}
use Rattle.theory.specs.Memory.Registry.{atoms}
use Rattle.theory.specs.Memory.Table.{level, EngineSound, Merges}
use Rattle.solver.specs.declared.answer.TCheck as TCheck
use Rattle.solver.specs.declared.levels.TesterMarks.{TesterMarks}
use Rattle.solver.specs.Memory.Answer.{RuleAnswer}
use Rattle.solver.specs.Memory.Table.{registry, state, StateSound}
use Rattle.solver.specs.Memory.Levels.{entry_level, MarksSound, RecordsSound}
use Rattle.solver.specs.Memory.Recording.{SolverCleared}
use Rattle.session.specs.Line.{Command, Close, Check}
use Rattle.session.specs.Session as Session
use Rattle.session.specs.Session.{asked, first_no, questions, empty_session, answer_read, step}
use Rattle.session.specs.Memory.Answers.{LineAnswer, answer_meaning, Printable}
use Rattle.session.specs.Memory.Commands.{max_numbers, command_meaning, ListFits}
use Rattle.session.specs.declared.line.Command as GivenCommand
use Rattle.session.specs.declared.answer.Refusal as GivenRefusal
use Rattle.session.specs.declared.answer.Answer as Given

-- What a session keeps beside the three tables: the mark counts of the records, and whether a `close` was accepted.
pub record Beside : Type 0 where
  pub marks : TesterMarks
  pub closed : Bool

-- as the code has it: the engine's table says how many levels are open, n has their counts
abbrev pub level_marks : List ℕ → List ℕ → TesterMarks
level_marks e n = record { levels = level e; counts = n }

abbrev pub beside : List ℕ → List ℕ → Bool → Beside
beside e n closed = record { marks = level_marks e n; closed = closed }

-- the session that the tables of core, of the engine and of the solver mean, with what the session keeps beside them
unfoldable pub session : List ℕ → List ℕ → List ℕ → Beside → Session.Session
session c e s m = record { state = state c e s (entry_level m.marks); closed = m.closed }

-- the session after some lines, each working on the session that the line before left
unfoldable pub after : Session.Session → List (List ℕ) → Session.Session
after s [] = s
after s (l ∷ ls) = after (step s l).session ls

-- some lines lead to a session
abbrev pub Reached : Session.Session → Type 0
Reached s = (ls : List (List ℕ)) × (after empty_session ls ≡ s)

-- ---- when the tables fit together

-- nothing but declarations was accepted
pub record Unclosed (c s : List ℕ) : Type 0 where
  pub no_terms : (context c).terms ≡ []
  pub solver : SolverCleared s

-- The tables and what the session keeps fit together.
pub record SessionSound (c e s : List ℕ) (m : Beside) : Type 0 where
  pub state : StateSound c e s
  pub marks : MarksSound s m.marks
  pub levels : m.marks.levels ≡ level e
  pub unclosed : m.closed ≡ false → Unclosed c s

-- ---- answering a line

-- a line that reads was answered: the questions 4 to 11 and 13, and what an accepted line does
pub record Answers (k : Command) (c e s : List ℕ) (m : Beside) (a : LineAnswer) (c' e' s' : List ℕ) (m' : Beside) (o : List ℕ) :
    Type 0 where
  pub sound : SessionSound c' e' s' m'
  pub printable : Printable a o
  pub performed :
      asked (session c e s m) k (first_no (questions (session c e s m) k))
      ≡ record { answer = answer_meaning a o; session = session c' e' s' m' }

-- a line that asks of what the session keeps only whether a `close` was accepted, and changes nothing of it
abbrev pub AnswersWith : Bool → Command → List ℕ → List ℕ → List ℕ → LineAnswer → List ℕ → List ℕ → List ℕ → List ℕ → Type 0
AnswersWith closed k c e s a c' e' s' o = (m : Beside) → SessionSound c e s m → m.closed ≡ closed → Answers k c e s m a c' e' s' m o

-- and works on core's table alone; on core's and the engine's; on core's and the solver's
abbrev pub AnswersCore : Bool → Command → List ℕ → LineAnswer → List ℕ → Type 0
AnswersCore closed k c a c' = (e s o : List ℕ) → AnswersWith closed k c e s a c' e s o

abbrev pub AnswersEngine : Bool → Command → List ℕ → List ℕ → LineAnswer → List ℕ → Type 0
AnswersEngine closed k c e a e' = (s o : List ℕ) → AnswersWith closed k c e s a c e' s o

abbrev pub AnswersSolver : Bool → Command → List ℕ → List ℕ → LineAnswer → List ℕ → Type 0
AnswersSolver closed k c s a s' = (e o : List ℕ) → AnswersWith closed k c e s a c e s' o

-- on all three, and changes the engine's alone
abbrev pub AnswersEquate : Bool → Command → List ℕ → List ℕ → List ℕ → LineAnswer → List ℕ → Type 0
AnswersEquate closed k c e s a e' = (o : List ℕ) → AnswersWith closed k c e s a c e' s o

-- `close`; `push` and `pop`, which change the counts
abbrev pub AnswersClose : List ℕ → Bool → LineAnswer → Bool → Type 0
AnswersClose c closed a closed' =
    (e s n o : List ℕ) → SessionSound c e s (beside e n closed) → Answers Close c e s (beside e n closed) a c e s (beside e n closed') o

abbrev pub AnswersLevels : Command → List ℕ → List ℕ → List ℕ → Bool → LineAnswer → List ℕ → List ℕ → List ℕ → Type 0
AnswersLevels k e s n closed a e' s' n' =
    (c o : List ℕ) → SessionSound c e s (beside e n closed) → Answers k c e s (beside e n closed) a c e' s' (beside e' n' closed) o

-- a check; that it keeps the records is known of sessions that lines lead to
abbrev pub AnswersCheck : Bool → Bool → List ℕ → List ℕ → List ℕ → LineAnswer → List ℕ → List ℕ → List ℕ → Type 0
AnswersCheck closed full c e s a c' s' o =
    (m : Beside) → SessionSound c e s m → Reached (session c e s m) → m.closed ≡ closed → Answers (Check full) c e s m a c' e s' m o

-- the tables of core and of the solver fit together with some table of the engine
abbrev pub FitsWith : List ℕ → List ℕ → Type 0
FitsWith c s = (e : List ℕ) × StateSound c e s

-- what lines that merge ask of the tables of core and of the engine
pub record Merging (c e : List ℕ) : Type 0 where
  pub core : ContextSound c
  pub formed : Formed (context c)
  pub engine : EngineSound e

-- a positive literal's atom is an equation
pub record Equating (c e s : List ℕ) (l : ℕ) : Type 0 where
  pub state : StateSound c e s
  pub registered : is_registered (atoms (registry s)) (Ids.var l) ≡ true
  pub equation : same_op (term (context c) (atom (atoms (registry s)) (Ids.var l))).op Eq ≡ true

-- its sides are merged under it
pub record MergesSides (c e s : List ℕ) (l : ℕ) (e' : List ℕ) : Type 0 where
  pub left : ℕ
  pub right : ℕ
  pub sides : children (context c) (atom (atoms (registry s)) (Ids.var l)) ≡ left ∷ right ∷ []
  pub merged : Merges e e' left right (Asserted l)

-- what lines that open and close levels ask of the tables of the engine and of the solver
pub record LevelsSound (e s n : List ℕ) : Type 0 where
  pub engine : EngineSound e
  pub records : RecordsSound s
  pub marks : MarksSound s (level_marks e n)

-- ---- any line

-- a command may be answered
pub record Performable (c e s : List ℕ) (m : Beside) (k : GivenCommand.Command) (ns o : List ℕ) : Type 0 where
  pub sound : SessionSound c e s m
  pub reached : Reached (session c e s m)
  pub fits : ListFits k (length ns)
  pub long : answer_size ≤ length o

-- it was: a is the answer, m' what the session keeps after it
pub record Performs (k : GivenCommand.Command) (ns c e s : List ℕ) (m : Beside) (a : LineAnswer) (c' e' s' : List ℕ) (m' : Beside)
    (o : List ℕ) : Type 0 where
  pub sound : SessionSound c' e' s' m'
  pub printable : Printable a o
  pub performed :
      answer_read (session c e s m) (command_meaning k ns)
      ≡ record { answer = answer_meaning a o; session = session c' e' s' m' }

-- a line may be answered
pub record Steppable (c e s : List ℕ) (m : Beside) (ns o : List ℕ) : Type 0 where
  pub sound : SessionSound c e s m
  pub reached : Reached (session c e s m)
  pub numbers : max_numbers ≤ length ns
  pub long : answer_size ≤ length o

-- it was, by the definition's step
pub record Steps (line c e s : List ℕ) (m : Beside) (a : LineAnswer) (c' e' s' : List ℕ) (m' : Beside) (o : List ℕ) : Type 0 where
  pub sound : SessionSound c' e' s' m'
  pub reached : Reached (session c' e' s' m')
  pub printable : Printable a o
  pub stepped : step (session c e s m) line ≡ record { answer = answer_meaning a o; session = session c' e' s' m' }

-- ---- answers of the layers below as answers of a line

unfoldable pub declared_answer : Result (Unit {0}) NoRoom → LineAnswer
declared_answer (Ok u) = Ok Given.TheVariants.Ok
declared_answer (Err n) = Err GivenRefusal.TheVariants.NoRoom

unfoldable pub numbered_answer : Result TermId NoRoom → LineAnswer
numbered_answer (Ok x) = Ok (Given.TheVariants.TermIs x)
numbered_answer (Err n) = Err GivenRefusal.TheVariants.NoRoom

-- an `assert` without conflict is done
unfoldable pub asserted_answer : TCheck.TCheck → LineAnswer
asserted_answer TCheck.TheVariants.Sat = Ok Given.TheVariants.Ok
asserted_answer TCheck.TheVariants.Conflict = Ok Given.TheVariants.Conflict
asserted_answer TCheck.TheVariants.Split = Ok Given.TheVariants.Split
asserted_answer TCheck.TheVariants.Unknown = Ok Given.TheVariants.Unknown

unfoldable pub checked_answer : RuleAnswer → LineAnswer
checked_answer (Ok TCheck.TheVariants.Sat) = Ok Given.TheVariants.Sat
checked_answer (Ok TCheck.TheVariants.Conflict) = Ok Given.TheVariants.Conflict
checked_answer (Ok TCheck.TheVariants.Split) = Ok Given.TheVariants.Split
checked_answer (Ok TCheck.TheVariants.Unknown) = Ok Given.TheVariants.Unknown
checked_answer (Err n) = Err GivenRefusal.TheVariants.NoRoom
