-- How lent tables hold a session between calls: as session's own do, with room for a call behind what the fourth table keeps. And what the
-- functions of a call promise one another.
use Rattle.std.specs.Prelude.{ℕ, ◌+◌, ◌≤◌, ◌≡◌, Bool, true, ◌&&◌, List, leb, length, take, drop, Option, None, Some}
use Rattle.shinri_core.specs.Limits.{table_words}
use Rattle.theory.specs.Memory.Answer.{answer_size}
use Rattle.session.specs.Session.{Performed, step}
use Rattle.session.specs.Memory.Sessions.{Beside, beside, session}
use Rattle.session.specs.Memory.Running.{Answerable, AnsweredBy}
use Rattle.session.specs.Memory.Kept as Own
use Rattle.session.specs.Memory.Kept.{Tables, is_open, close_accepted, mark_counts, part, beside_in, Exact, Unfit}

-- ---- the fourth table

-- The words below `ANSWER` are session's fourth table: they keep something between calls. Behind them is room for a call: its answer table,
-- and copies of the three work tables.
abbrev pub ANSWER : ℕ
ANSWER = Own.kept_words

abbrev pub CORE : ℕ
CORE = ANSWER + answer_size

abbrev pub THEORY : ℕ
THEORY = CORE + table_words

abbrev pub SOLVER : ℕ
SOLVER = THEORY + table_words

abbrev pub kept_words : ℕ
kept_words = SOLVER + table_words

-- what the fourth table keeps between calls is as it was
abbrev pub SameKept : List ℕ → List ℕ → Type 0
SameKept k k' = take ANSWER k' ≡ take ANSWER k

-- ---- what the tables hold

-- 1. Are the work tables long enough, and the fourth?
unfoldable pub suffice : Tables → Bool
suffice t = leb kept_words (length t.kept) && Own.suffice t

-- Tables that are long enough and marked as open are those of a session that lines lead to: as a call left them.
abbrev pub KeptSound : Tables → Type 0
KeptSound t =
    suffice t ≡ true → is_open t.kept ≡ true → Answerable (part t.core) (part t.theory) (part t.solver) (beside_in t)

-- the tables hold the same session, word by word; only the room for a call may have changed
pub record SameSession (t t' : Tables) : Type 0 where
  pub core : t'.core ≡ t.core
  pub theory : t'.theory ≡ t.theory
  pub solver : t'.solver ≡ t.solver
  pub kept : SameKept t.kept t'.kept

-- ---- a line

-- of the fourth table only the answer table changed
pub record AnswerRoom (k k' : List ℕ) : Type 0 where
  pub kept : SameKept k k'
  pub copies : drop CORE k' ≡ drop CORE k

-- the copies of the work tables are these
pub record Saved (k c e s : List ℕ) : Type 0 where
  pub core : c ≡ take table_words (drop CORE k)
  pub theory : e ≡ take table_words (drop THEORY k)
  pub solver : s ≡ take table_words (drop SOLVER k)

pub record Saves (c e s k k' : List ℕ) : Type 0 where
  pub kept : SameKept k k'
  pub saved : Saved k' c e s

-- a line of the session in these tables may be tried
pub record Triable (c e s : List ℕ) (m : Beside) (k : List ℕ) : Type 0 where
  pub answerable : Answerable c e s m
  pub exact : Exact c e s
  pub long : kept_words ≤ length k

-- an open session, in work tables of just so many words
abbrev pub Holding : List ℕ → List ℕ → List ℕ → List ℕ → Type 0
Holding c e s k = Triable c e s (beside e (mark_counts k) (close_accepted k)) k

-- a line of an open session was answered by the step p, or its answer line does not fit
pub record TriedOpen (p : Performed) (d : Option ℕ) (c e s k c' e' s' k' o o' : List ℕ) : Type 0 where
  pub answered : (n : ℕ) → d ≡ Some n →
      AnsweredBy p (Some n) c' e' s' (beside e' (mark_counts k') (close_accepted k')) o 0 o'
  pub mark : is_open k' ≡ is_open k
  pub unfit : d ≡ None → Unfit p c e s c' e' s' o o'
  pub kept : d ≡ None → SameKept k k'

abbrev pub AnswersOpen : List ℕ → List ℕ → List ℕ → List ℕ → List ℕ → Option ℕ → List ℕ → List ℕ → List ℕ → List ℕ → List ℕ →
    List ℕ → Type 0
AnswersOpen line c e s k d c' e' s' k' o o' =
    TriedOpen (step (session c e s (beside e (mark_counts k) (close_accepted k))) line) d c e s k c' e' s' k' o o'
