-- A session kept open: a call opens it on lent tables, a call answers one line, a call closes it. What each call promises, and the theorem
-- that the lines of a script, sent by one call each, are answered as by `run`, so that the claim holds of a session kept open.
use Rattle.std.specs.Prelude.{ℕ, suc, ◌+◌, ◌≤◌, ◌≡◌, ◌⊎◌, ◌≢◌, true, false, cond, List, [], ◌∷◌, ◌++◌, leb, length, take, drop, Result, Ok, Err}
use Rattle.shinri_core.specs.Limits.{max_script}
use Rattle.session.specs.Text.{lines}
use Rattle.session.specs.Session.{empty_session, step}
use Rattle.session.specs.Run.{answer_line, zeros}
use Rattle.session.specs.Promise.{Reports}
use Rattle.session.specs.Claim.{Claim}
use Rattle.session.specs.RunClaim.{answers, answer_lines}
use Rattle.session.specs.Memory.Answers.{longest_answer}
use Rattle.session.specs.Memory.Kept.{kept_words, Held, Closed, Open, Tables, SameLengths, SameBehind, suffice, held, KeptSound}
use Rattle.session.specs.declared.kept.LineError as Given

-- ---- the definition of a call

-- how a call ends
pub data Reply : Type 0 where
  Done ShortTable Full NotOpen : Reply

-- 01's numbers of the questions; that no session is open has a number of its own
unfoldable pub reply_number : Reply → ℕ
reply_number Done = 0
reply_number ShortTable = 1
reply_number Full = 12
reply_number NotOpen = 100

-- what a call does: how it ends, the bytes that it writes, and what the tables hold after it
pub record Replied : Type 0 where
  pub reply : Reply
  pub written : List ℕ
  pub held : Held

unfoldable pub unanswered : Reply → Held → Replied
unanswered r h = record { reply = r; written = []; held = h }

-- 12. Does the answer line with its LF fit the output? If not, the line is not performed.
unfoldable pub answer_held : ℕ → Held → List ℕ → Replied
answer_held room Closed line = unanswered NotOpen Closed
answer_held room (Open s) line =
    let p = step s line in
    let text = answer_line p in
    let answered : Replied = record { reply = Done; written = text; held = Open p.session } in
    cond (leb (length text) room) answered (unanswered Full (Open s))

-- 1. Are the tables long enough?
unfoldable pub answer_in : Tables → ℕ → List ℕ → Replied
answer_in t room line = cond (suffice t) (answer_held room (held t) line) (unanswered ShortTable (held t))

-- ---- what the calls promise

-- why a call did nothing, in the definition
unfoldable pub error_meaning : Given.LineError → Reply
error_meaning Given.TheVariants.ShortTable = ShortTable
error_meaning Given.TheVariants.Full = Full
error_meaning Given.TheVariants.NotOpen = NotOpen

-- what the code says of a call, in the definition
unfoldable pub reply_meaning : {T : Type 0} → Result T Given.LineError → Reply
reply_meaning (Ok x) = Done
reply_meaning (Err e) = error_meaning e

-- how many bytes it says that it wrote
abbrev pub bytes_written : Result ℕ Given.LineError → ℕ
bytes_written (Ok n) = n
bytes_written (Err e) = 0

-- An empty session is open on tables that are long enough, whatever they held; others are untouched.
pub record Opens (t : Tables) (r : Result (Unit {0}) Given.LineError) (t' : Tables) : Type 0 where
  pub told : r ≡ cond (suffice t) (Ok tt) (Err Given.TheVariants.ShortTable)
  pub opened : suffice t ≡ true → held t' ≡ Open empty_session
  pub untouched : suffice t ≡ false → t' ≡ t
  pub sound : KeptSound t'
  pub lengths : SameLengths t t'
  pub behind : SameBehind t t'

-- A line was answered as d says; the output was o and is o'.
pub record Answered (d : Replied) (t : Tables) (o : List ℕ) (r : Result ℕ Given.LineError) (t' : Tables) (o' : List ℕ) : Type 0 where
  pub reply : reply_meaning r ≡ d.reply
  pub written : bytes_written r ≡ length d.written
  -- output past the answer line is untouched
  pub output : o' ≡ d.written ++ drop (length d.written) o
  pub fits : length d.written ≤ length o
  pub held : held t' ≡ d.held
  -- unless it was answered, the tables are as they were
  pub untouched : (d.reply ≡ Done) ⊎ (t' ≡ t)
  -- the output is never too short where the longest answer line fits it
  pub room : longest_answer ≤ length o → d.reply ≢ Full
  pub sound : KeptSound t'
  pub lengths : SameLengths t t'
  pub behind : SameBehind t t'

abbrev pub AnswersHeld : List ℕ → Tables → List ℕ → Result ℕ Given.LineError → Tables → List ℕ → Type 0
AnswersHeld line t o r t' o' = Answered (answer_in t (length o) line) t o r t' o'

-- All words of the tables are 0, so no session is open on them.
pub record Closes (t t' : Tables) : Type 0 where
  pub core : t'.core ≡ zeros t.core
  pub theory : t'.theory ≡ zeros t.theory
  pub solver : t'.solver ≡ zeros t.solver
  pub kept : t'.kept ≡ zeros t.kept
  pub closed : held t' ≡ Closed
  pub sound : KeptSound t'

-- The same by numbers: n for the reply, w bytes written.
pub record Replies (line : List ℕ) (t : Tables) (o : List ℕ) (n w : ℕ) (t' : Tables) (o' : List ℕ) : Type 0 where
  pub replied : Result ℕ Given.LineError
  pub answers : AnswersHeld line t o replied t' o'
  pub number : n ≡ reply_number (reply_meaning replied)
  pub written : w ≡ bytes_written replied

pub record OpensBy (t : Tables) (n : ℕ) (t' : Tables) : Type 0 where
  pub opened : Result (Unit {0}) Given.LineError
  pub opens : Opens t opened t'
  pub number : n ≡ reply_number (reply_meaning opened)

-- ---- calls one after another

-- what a call left: the number of its reply, the bytes that it wrote, the tables and the output
pub record Call : Type 0 where
  pub number : ℕ
  pub written : ℕ
  pub tables : Tables
  pub output : List ℕ

-- how a row of calls ended: the number of the last reply, the lines answered, the bytes written
pub record Sent : Type 0 where
  pub number : ℕ
  pub answered : ℕ
  pub written : ℕ

-- the row ends with a call that answered no line
pub record Stopped (r : Call) (z : Sent) (t' : Tables) (o' : List ℕ) : Type 0 where
  pub unanswered : r.number ≢ 0
  pub sent : z ≡ record { number = r.number; answered = 0; written = 0 }
  pub tables : t' ≡ r.tables
  pub output : o' ≡ r.output

-- it goes on behind a call that answered its line: the rest is sent into the output that is left, o₂ at the end
pub record GoesOn (r : Call) (rest : Sent) (o₂ : List ℕ) (z : Sent) (o' : List ℕ) : Type 0 where
  pub done : r.number ≡ 0
  pub sent : z ≡ record { number = rest.number; answered = suc rest.answered; written = r.written + rest.written }
  pub output : o' ≡ take r.written r.output ++ o₂

-- One line a call, each on the tables that the call before left and into the output that is left, until no line is left or one is not
-- answered. The output is o at first and o' at the end.
abbrev pub Calls : List (List ℕ) → Tables → List ℕ → Sent → Tables → List ℕ → Type 0
Calls [] t o z t' o' = (z ≡ record { number = 0; answered = 0; written = 0 }) × (t' ≡ t) × (o' ≡ o)
Calls (l ∷ ls) t o z t' o' =
    (r : Call) × Replies l t o r.number r.written r.tables r.output
    × (Stopped r z t' o'
    ⊎ ((rest : Sent) × (o₂ : List ℕ) × GoesOn r rest o₂ z o' × Calls ls r.tables (drop r.written r.output) rest t' o₂))

-- a session opened on the tables, sent the lines one after another, and closed
pub record Sends (ls : List (List ℕ)) (t : Tables) (o : List ℕ) (z : Sent) (t' : Tables) (o' : List ℕ) : Type 0 where
  pub opened : Tables
  pub opens : OpensBy t 0 opened
  pub left : Tables
  pub calls : Calls ls opened o z left o'
  pub closes : Closes left t'

-- or not opened, as the tables are too short
pub record Refuses (t : Tables) (o : List ℕ) (z : Sent) (t' : Tables) (o' : List ℕ) : Type 0 where
  pub refuses : OpensBy t 1 t'
  pub sent : z ≡ record { number = 1; answered = 0; written = 0 }
  pub output : o' ≡ o

-- ---- the theorem; proved in proofs/KeptRuns.antt

-- The lines of a script, sent one after another, are answered as by one call of `robinlocker_run`: the same result, counts and bytes, and
-- the same work tables at the end. The script is one that `run` takes up (question 2), and the fourth table, of which `run` knows nothing,
-- is long enough.
abbrev pub KeptRuns : Type 0
KeptRuns =
    (script : List ℕ) (t t' : Tables) (o o' : List ℕ) (z : Sent) → length script ≤ max_script → kept_words ≤ length t.kept →
    Sends (lines script) t o z t' o' ⊎ Refuses t o z t' o' →
    Reports script t.core t.theory t.solver o z.number z.answered z.written t'.core t'.theory t'.solver o'

-- Calls in a row, each with a line and an output of its own, on the tables that the call before left: ls are the lines that were answered,
-- bytes their answer lines one after another. A line that was not answered may be sent again, or another one.
abbrev pub Row : List (List ℕ × List ℕ) → Tables → List (List ℕ) → List ℕ → Tables → Type 0
Row [] t ls bytes t' = (ls ≡ []) × (bytes ≡ []) × (t' ≡ t)
Row ((l, o) ∷ calls) t ls bytes t' =
    (r : Call) × Replies l t o r.number r.written r.tables r.output
    × (((r.number ≡ 0) × ((ls₁ : List (List ℕ)) × (bytes₁ : List ℕ) × Row calls r.tables ls₁ bytes₁ t'
    × (ls ≡ l ∷ ls₁) × (bytes ≡ take r.written r.output ++ bytes₁)))
    ⊎ ((r.number ≢ 0) × Row calls r.tables ls bytes t'))

-- The claim over whole scripts holds of a session kept open, however many lines it is sent and whatever outputs are lent: the bytes written
-- are the definition's answers to the lines answered, each working on the session that the one before left, and the claim holds of these
-- lines and answers.
pub record KeptClaim (ls : List (List ℕ)) (bytes : List ℕ) : Type 1 where
  pub written : bytes ≡ answer_lines (answers empty_session ls)
  pub claim : Claim ls

abbrev pub KeptHolds : Type 1
KeptHolds =
    (calls : List (List ℕ × List ℕ)) (t opened t' : Tables) (ls : List (List ℕ)) (bytes : List ℕ) → OpensBy t 0 opened →
    Row calls opened ls bytes t' → KeptClaim ls bytes
