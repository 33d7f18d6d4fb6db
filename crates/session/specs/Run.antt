-- The run: questions 1, 2 and 12, the counts, and what lent memory holds at the end.
use Rattle.std.specs.Prelude.{ℕ, suc, ◌-◌, Bool, cond, ◌&&◌, List, [], ◌∷◌, ◌++◌, map, leb, length, drop}
use Rattle.shinri_core.specs.Limits.{table_words, max_script}
use Rattle.session.specs.Text.{LF, lines}
use Rattle.session.specs.Answer.{answer_text}
use Rattle.session.specs.Session.{Session, empty_session, Performed, step}

-- how much memory is lent: words of the three work tables, bytes of output
pub record Sizes : Type 0 where
  pub core : ℕ
  pub theory : ℕ
  pub solver : ℕ
  pub output : ℕ

-- how a run ends
pub data Ending : Type 0 where
  Complete ShortTable LongScript Full : Ending

-- 01's result number: a run to the end returns 0, a no the number of its question
unfoldable pub result_number : Ending → ℕ
result_number Complete = 0
result_number ShortTable = 1
result_number LongScript = 2
result_number Full = 12

-- how a run ends, the count of lines answered, and the bytes written
pub record Ran : Type 0 where
  pub ending : Ending
  pub answered : ℕ
  pub written : List ℕ

-- a run that answers no line, or no further one
unfoldable pub answers_none : Ending → Ran
answers_none e = record { ending = e; answered = 0; written = [] }

unfoldable pub one_more : List ℕ → Ran → Ran
one_more text r = record { ending = r.ending; answered = suc r.answered; written = text ++ r.written }

unfoldable pub answer_line : Performed → List ℕ
answer_line p = answer_text p.answer ++ (LF ∷ [])

-- 12. Does the answer line with its LF fit the output left? If not, the run stops.
unfoldable pub run_lines : ℕ → Session → List (List ℕ) → Ran
run_lines room s [] = record { ending = Complete; answered = 0; written = [] }
run_lines room s (l ∷ ls) =
    let p = step s l in
    let text = answer_line p in
    let rest = one_more text (run_lines (room - length text) p.session ls) in
    cond (leb (length text) room) rest (answers_none Full)

-- 1. Are the three work tables 16,384 words of 32 bits each, or more?
unfoldable pub tables_suffice : Sizes → Bool
tables_suffice z = leb table_words z.core && leb table_words z.theory && leb table_words z.solver

-- 2. Is the script at most 65,536 bytes?
unfoldable pub run : Sizes → List ℕ → Ran
run z script =
    let started = run_lines z.output empty_session (lines script) in
    cond (tables_suffice z) (cond (leb (length script) max_script) started (answers_none LongScript)) (answers_none ShortTable)

-- ---- what lent memory holds afterwards

-- Output past the last answer is untouched.
unfoldable pub output_after : List ℕ → Ran → List ℕ
output_after old r = r.written ++ drop (length r.written) old

unfoldable pub zeros : List ℕ → List ℕ
zeros old = map (λ w. 0) old

-- After a started run the work tables are all zero; a no to 1 or 2 touches nothing.
unfoldable pub table_after : Ending → List ℕ → List ℕ
table_after Complete old = zeros old
table_after ShortTable old = old
table_after LongScript old = old
table_after Full old = zeros old

-- ---- the program

-- The program lends 65,536 bytes of output.
unfoldable pub program_sizes : Sizes
program_sizes = record { core = table_words; theory = table_words; solver = table_words; output = 65536 }

-- the bytes that the program prints for a script
unfoldable pub output : List ℕ → List ℕ
output script = (run program_sizes script).written

unfoldable pub run_definitions : Unit {0}
unfolding result_number answers_none one_more answer_line run_lines tables_suffice run output_after zeros table_after program_sizes output
run_definitions = tt
