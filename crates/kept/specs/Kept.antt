-- A session kept open, whose room for a call is lent too: a call opens it on lent tables, a call answers one line, a call closes it. What
-- each call promises beside session's own, and the theorem that the lines of a script, sent by one call each, are answered as by `run`, so
-- that the claim holds of a session kept open.
use Rattle.std.specs.Prelude.{ℕ, ◌≤◌, ◌≡◌, ◌⊎◌, ◌≢◌, true, false, cond, List, [], ◌∷◌, ◌++◌, length, take, drop, Result, Ok, Err}
use Rattle.shinri_core.specs.Limits.{max_script}
use Rattle.session.specs.Text.{lines}
use Rattle.session.specs.Session.{empty_session}
use Rattle.session.specs.Promise.{Reports}
use Rattle.session.specs.Memory.Answers.{longest_answer}
use Rattle.session.specs.Memory.Kept.{Open, Tables, SameLengths, SameBehind, held}
use Rattle.session.specs.Kept.{Done, ShortTable, Full, Replied, reply_number, unanswered, answer_held, reply_meaning, bytes_written, Closes, Call, Sent, Stopped, GoesOn, KeptClaim}
use Rattle.session.specs.declared.kept.LineError as Given
use Rattle.kept.specs.Memory.Kept.{kept_words, SameSession, suffice, KeptSound}

-- ---- the definition of a call

-- 1. Are the tables long enough?
unfoldable pub answer_in : Tables → ℕ → List ℕ → Replied
answer_in t room line = cond (suffice t) (answer_held room (held t) line) (unanswered ShortTable (held t))

-- ---- what the calls promise

-- An empty session is open on tables that are long enough, whatever they held; others are untouched.
pub record Opens (t : Tables) (r : Result (Unit {0}) Given.LineError) (t' : Tables) : Type 0 where
  pub told : r ≡ cond (suffice t) (Ok tt) (Err Given.TheVariants.ShortTable)
  pub opened : suffice t ≡ true → held t' ≡ Open empty_session
  pub untouched : suffice t ≡ false → t' ≡ t
  pub sound : KeptSound t'
  pub lengths : SameLengths t t'
  pub behind : SameBehind t t'

-- A line was answered as d says; the output was o and is o'.
pub record Answered (d : Replied) (t : Tables) (o : List ℕ) (r : Result ℕ Given.LineError) (t' : Tables) (o' : List ℕ) : Type 0 where
  pub reply : reply_meaning r ≡ d.reply
  pub written : bytes_written r ≡ length d.written
  -- output past the answer line is untouched
  pub output : o' ≡ d.written ++ drop (length d.written) o
  pub fits : length d.written ≤ length o
  pub held : held t' ≡ d.held
  -- unless it was answered, the work tables are as they were, and so is what the fourth table keeps
  pub unperformed : (d.reply ≡ Done) ⊎ SameSession t t'
  -- tables that are too short, or on which no session is open, are as they were
  pub untouched : (d.reply ≡ Done) ⊎ (d.reply ≡ Full) ⊎ (t' ≡ t)
  -- the output is never too short where the longest answer line fits it
  pub room : longest_answer ≤ length o → d.reply ≢ Full
  pub sound : KeptSound t'
  pub lengths : SameLengths t t'
  pub behind : SameBehind t t'

abbrev pub AnswersHeld : List ℕ → Tables → List ℕ → Result ℕ Given.LineError → Tables → List ℕ → Type 0
AnswersHeld line t o r t' o' = Answered (answer_in t (length o) line) t o r t' o'

-- The same by numbers: n for the reply, w bytes written.
pub record Replies (line : List ℕ) (t : Tables) (o : List ℕ) (n w : ℕ) (t' : Tables) (o' : List ℕ) : Type 0 where
  pub replied : Result ℕ Given.LineError
  pub answers : AnswersHeld line t o replied t' o'
  pub number : n ≡ reply_number (reply_meaning replied)
  pub written : w ≡ bytes_written replied

pub record OpensBy (t : Tables) (n : ℕ) (t' : Tables) : Type 0 where
  pub opened : Result (Unit {0}) Given.LineError
  pub opens : Opens t opened t'
  pub number : n ≡ reply_number (reply_meaning opened)

-- ---- calls one after another

-- One line a call, each on the tables that the call before left and into the output that is left, until no line is left or one is not
-- answered. The output is o at first and o' at the end.
abbrev pub Calls : List (List ℕ) → Tables → List ℕ → Sent → Tables → List ℕ → Type 0
Calls [] t o z t' o' = (z ≡ record { number = 0; answered = 0; written = 0 }) × (t' ≡ t) × (o' ≡ o)
Calls (l ∷ ls) t o z t' o' =
    (r : Call) × Replies l t o r.number r.written r.tables r.output
    × (Stopped r z t' o'
    ⊎ ((rest : Sent) × (o₂ : List ℕ) × GoesOn r rest o₂ z o' × Calls ls r.tables (drop r.written r.output) rest t' o₂))

-- a session opened on the tables, sent the lines one after another, and closed
pub record Sends (ls : List (List ℕ)) (t : Tables) (o : List ℕ) (z : Sent) (t' : Tables) (o' : List ℕ) : Type 0 where
  pub opened : Tables
  pub opens : OpensBy t 0 opened
  pub left : Tables
  pub calls : Calls ls opened o z left o'
  pub closes : Closes left t'

-- or not opened, as the tables are too short
pub record Refuses (t : Tables) (o : List ℕ) (z : Sent) (t' : Tables) (o' : List ℕ) : Type 0 where
  pub refuses : OpensBy t 1 t'
  pub sent : z ≡ record { number = 1; answered = 0; written = 0 }
  pub output : o' ≡ o

-- ---- the theorems; proved in proofs/KeptRuns.antt

-- The lines of a script, sent one after another, are answered as by one call of `robinlocker_run`: the same result, counts and bytes, and
-- the same work tables at the end. The script is one that `run` takes up (question 2), and the fourth table, of which `run` knows nothing,
-- is long enough.
abbrev pub KeptRuns : Type 0
KeptRuns =
    (script : List ℕ) (t t' : Tables) (o o' : List ℕ) (z : Sent) → length script ≤ max_script → kept_words ≤ length t.kept →
    Sends (lines script) t o z t' o' ⊎ Refuses t o z t' o' →
    Reports script t.core t.theory t.solver o z.number z.answered z.written t'.core t'.theory t'.solver o'

-- Calls in a row, each with a line and an output of its own, on the tables that the call before left: ls are the lines that were answered,
-- bytes their answer lines one after another. A line that was not answered may be sent again, or another one.
abbrev pub Row : List (List ℕ × List ℕ) → Tables → List (List ℕ) → List ℕ → Tables → Type 0
Row [] t ls bytes t' = (ls ≡ []) × (bytes ≡ []) × (t' ≡ t)
Row ((l, o) ∷ calls) t ls bytes t' =
    (r : Call) × Replies l t o r.number r.written r.tables r.output
    × (((r.number ≡ 0) × ((ls₁ : List (List ℕ)) × (bytes₁ : List ℕ) × Row calls r.tables ls₁ bytes₁ t'
    × (ls ≡ l ∷ ls₁) × (bytes ≡ take r.written r.output ++ bytes₁)))
    ⊎ ((r.number ≢ 0) × Row calls r.tables ls bytes t'))

-- The claim over whole scripts holds of a session kept open, however many lines it is sent and whatever outputs are lent.
abbrev pub KeptHolds : Type 1
KeptHolds =
    (calls : List (List ℕ × List ℕ)) (t opened t' : Tables) (ls : List (List ℕ)) (bytes : List ℕ) → OpensBy t 0 opened →
    Row calls opened ls bytes t' → KeptClaim ls bytes
