-- How lent tables hold a session between calls: the three work tables as in a run, and a fourth with a mark that a session is open and with
-- what a session keeps beside the work tables. And what the functions of a call promise one another.
use Rattle.std.specs.Prelude.{ℕ, ◌≤◌, ◌<◌, ◌≡◌, Bool, true, cond, not, ◌&&◌, List, eqb, leb, length, get_or, take, drop, Option, None, Some}
use Rattle.shinri_core.specs.Limits.{table_words, max_levels}
use Rattle.session.specs.Session.{Session, Performed, step}
use Rattle.session.specs.Run.{answer_line}
use Rattle.session.specs.Memory.Answers.{longest_answer}
use Rattle.session.specs.Memory.Sessions.{Beside, beside, session}
use Rattle.session.specs.Memory.Running.{Answerable, AnsweredBy}

-- the tables that are lent for a session kept open
pub record Tables : Type 0 where
  pub core : List ℕ
  pub theory : List ℕ
  pub solver : List ℕ
  pub kept : List ℕ

abbrev pub tables : List ℕ → List ℕ → List ℕ → List ℕ → Tables
tables c e s k = record { core = c; theory = e; solver = s; kept = k }

-- ---- the fourth table

-- whether a session is open; whether a `close` line was accepted; the mark counts of the records
abbrev pub MARK : ℕ
MARK = 0

abbrev pub CLOSED : ℕ
CLOSED = 1

abbrev pub COUNTS : ℕ
COUNTS = 2

abbrev pub kept_words : ℕ
kept_words = 66

-- the word of an open session
abbrev pub open_mark : ℕ
open_mark = 1380732747

unfoldable pub is_open : List ℕ → Bool
is_open k = eqb (get_or k MARK 0) open_mark

unfoldable pub close_accepted : List ℕ → Bool
close_accepted k = not (eqb (get_or k CLOSED 0) 0)

unfoldable pub mark_counts : List ℕ → List ℕ
mark_counts k = take max_levels (drop COUNTS k)

-- ---- what the tables hold

pub data Held : Type 0 where
  Closed : Held
  Open : Session → Held

-- 1. Are the work tables long enough, and the fourth?
unfoldable pub suffice : Tables → Bool
suffice t =
    leb table_words (length t.core) && leb table_words (length t.theory) && leb table_words (length t.solver)
    && leb kept_words (length t.kept)

-- the words that a session uses
abbrev pub part : List ℕ → List ℕ
part t = take table_words t

abbrev pub beside_in : Tables → Beside
beside_in t = beside (part t.theory) (mark_counts t.kept) (close_accepted t.kept)

unfoldable pub session_in : Tables → Session
session_in t = session (part t.core) (part t.theory) (part t.solver) (beside_in t)

unfoldable pub held : Tables → Held
held t = cond (is_open t.kept) (Open (session_in t)) Closed

-- Tables that are long enough and marked as open are those of a session that lines lead to: as a call left them.
abbrev pub KeptSound : Tables → Type 0
KeptSound t =
    suffice t ≡ true → is_open t.kept ≡ true → Answerable (part t.core) (part t.theory) (part t.solver) (beside_in t)

pub record SameLengths (t t' : Tables) : Type 0 where
  pub core : length t'.core ≡ length t.core
  pub theory : length t'.theory ≡ length t.theory
  pub solver : length t'.solver ≡ length t.solver
  pub kept : length t'.kept ≡ length t.kept

-- the words behind those that a session uses are as they were
pub record SameBehind (t t' : Tables) : Type 0 where
  pub core : drop table_words t'.core ≡ drop table_words t.core
  pub theory : drop table_words t'.theory ≡ drop table_words t.theory
  pub solver : drop table_words t'.solver ≡ drop table_words t.solver

-- ---- a line

-- work tables of just so many words
pub record Exact (c e s : List ℕ) : Type 0 where
  pub core : length c ≡ table_words
  pub theory : length e ≡ table_words
  pub solver : length s ≡ table_words

-- the answer line of the step p does not fit, and the work tables and the output are as they were
pub record Unfit (p : Performed) (c e s c' e' s' o o' : List ℕ) : Type 0 where
  pub core : c' ≡ c
  pub theory : e' ≡ e
  pub solver : s' ≡ s
  pub output : o' ≡ o
  pub long : length o < length (answer_line p)
  pub few : length o < longest_answer

-- a line was answered by the step p, or its answer line does not fit
pub record Tried (p : Performed) (d : Option ℕ) (c e s c' e' s' : List ℕ) (m' : Beside) (o o' : List ℕ) : Type 0 where
  pub answered : (n : ℕ) → d ≡ Some n → AnsweredBy p (Some n) c' e' s' m' o 0 o'
  pub unfit : d ≡ None → Unfit p c e s c' e' s' o o'

abbrev pub TriesLine :
    List ℕ → List ℕ → List ℕ → List ℕ → Beside → Option ℕ → List ℕ → List ℕ → List ℕ → Beside → List ℕ → List ℕ → Type 0
TriesLine line c e s m d c' e' s' m' o o' = Tried (step (session c e s m) line) d c e s c' e' s' m' o o'

-- an open session, in work tables of just so many words
pub record Holding (c e s k : List ℕ) : Type 0 where
  pub answerable : Answerable c e s (beside e (mark_counts k) (close_accepted k))
  pub exact : Exact c e s
  pub long : kept_words ≤ length k

-- counts n and b, whether a `close` was accepted, stand in the fourth table; its mark is as it was
pub record Keeps (k n : List ℕ) (b : Bool) (k' : List ℕ) : Type 0 where
  pub counts : mark_counts k' ≡ n
  pub closed : close_accepted k' ≡ b
  pub mark : is_open k' ≡ is_open k

-- the same of a line of it
pub record TriedOpen (p : Performed) (d : Option ℕ) (c e s k c' e' s' k' o o' : List ℕ) : Type 0 where
  pub answered : (n : ℕ) → d ≡ Some n →
      AnsweredBy p (Some n) c' e' s' (beside e' (mark_counts k') (close_accepted k')) o 0 o'
  pub mark : is_open k' ≡ is_open k
  pub unfit : d ≡ None → Unfit p c e s c' e' s' o o'
  pub untouched : d ≡ None → k' ≡ k

abbrev pub AnswersOpen : List ℕ → List ℕ → List ℕ → List ℕ → List ℕ → Option ℕ → List ℕ → List ℕ → List ℕ → List ℕ → List ℕ →
    List ℕ → Type 0
AnswersOpen line c e s k d c' e' s' k' o o' =
    TriedOpen (step (session c e s (beside e (mark_counts k) (close_accepted k))) line) d c e s k c' e' s' k' o o'
