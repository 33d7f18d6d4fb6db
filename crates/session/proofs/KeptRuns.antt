-- The lines of a script by one call each are the run's lines: each call does what one turn of the run does, on the tables and the output
-- that the calls before it left.
use Rattle.std.specs.Prelude.{Result, Ok, Err}
use Rattle.shinri_core.proofs.Kit.{ℕ, suc, ◌+◌, ◌-◌, ◌≤◌, ◌<◌, ◌≡◌, refl, sym, ap, ◌∙◌, ◌⊎◌, inl, inr, Bool, true, false, false≢true, cond, ◌&&◌, leb, List, [], ◌∷◌, ◌++◌, append_assoc, arith, le-leb, eqb, eqb-true, eqb-false, length, length-append, length-drop, take, drop}
use mathlib.Core.Logic.{◌≢◌}
use lib.Seq.{take_at, drop_at, drop-drop}
use borrow.Author.Tests.{leb-true, leb-false}
use Rattle.shinri_core.specs.Limits.{table_words, max_script}
use Rattle.session.specs.Text.{lines}
use Rattle.session.specs.Session as Session
use Rattle.session.specs.Session.{empty_session, step}
use Rattle.session.specs.Run as Run
use Rattle.session.specs.Run.{Ran, result_number, answers_none, one_more, answer_line, run_lines, output_after}
use Rattle.session.specs.Promise.{ending_meaning, Reports}
use Rattle.session.specs.RunClaim.{answers, answer_lines}
use Rattle.session.specs.Memory.Running.{TablesLong, Zeroed}
use Rattle.session.specs.Memory.Kept.{Tables, SameLengths, kept_words, Open, suffice, held, KeptSound}
use Rattle.session.specs.Kept as Kept
use Rattle.session.specs.Kept.{Replied, unanswered, answer_held, answer_in, reply_number, error_meaning, reply_meaning, OpensBy, Replies, Call, Sent, Stopped, GoesOn, Calls, Sends, Refuses, KeptRuns, Row, KeptHolds}
use Rattle.session.specs.declared.run.Ending as Given
use Rattle.session.specs.declared.kept.LineError.{LineError}
use Rattle.session.specs.declared.kept.LineError.TheVariants.{ShortTable}
use Rattle.session.proofs.Claim.{claim}
use Rattle.session.proofs.Memory.Running.{zeros_same, line_fits, line_full, run_short, run_started}
use Rattle.session.proofs.Memory.Keeping.{suffices, all_same}

-- ---- a row of calls

-- it ended as d
pub record AsRun (d : Ran) (t : Tables) (o : List ℕ) (z : Sent) (t' : Tables) (o' : List ℕ) : Type 0 where
  pub number : z.number ≡ result_number d.ending
  pub answered : z.answered ≡ d.answered
  pub written : z.written ≡ length d.written
  pub output : o' ≡ output_after o d
  pub lengths : SameLengths t t'

lengths_on : {t u v : Tables} → SameLengths t u → SameLengths u v → SameLengths t v
lengths_on a b = record {
  core = b.core ∙ a.core;
  theory = b.theory ∙ a.theory;
  solver = b.solver ∙ a.solver;
  kept = b.kept ∙ a.kept;
}

still_suffice : (t u : Tables) → SameLengths t u → suffice t ≡ true → suffice u ≡ true
unfolding suffice
still_suffice t u l h = rw (l.core, l.theory, l.solver, l.kept) h

-- no line is left
none_left : (s : Session.Session) (t t' : Tables) (o o' : List ℕ) (z : Sent) → Calls [] t o z t' o' →
    AsRun (run_lines (length o) s []) t o z t' o'
unfolding run_lines result_number output_after
none_left s t t' o o' z w =
    rw (w.0, w.1, w.2) (record { number = refl; answered = refl; written = refl; output = refl; lengths = all_same t })

-- ---- a call of the row

-- by what is held, and whether the answer line fits
module _ (s : Session.Session) (l : List ℕ) (t : Tables) (o : List ℕ) (h : suffice t ≡ true) (q : held t ≡ Open s) where
  abbrev text : List ℕ
  text = answer_line (step s l)

  call_is : (b : Bool) → leb (length text) (length o) ≡ b →
      answer_in t (length o) l
      ≡ cond b (record { reply = Kept.Done; written = text; held = Open (step s l).session }) (unanswered Kept.Full (Open s))
  unfolding answer_in answer_held
  call_is b e = rw (h, q, e)

  module _ {n w : ℕ} {t₁ : Tables} {o₁ : List ℕ} (r : Replies l t o n w t₁ o₁) where
    abbrev d : Replied
    d = answer_in t (length o) l

    number_is : n ≡ reply_number d.reply
    number_is = r.number ∙ ap reply_number r.answers.reply

    -- it fits
    module _ (e : leb (length text) (length o) ≡ true) where
      fits_number : n ≡ 0
      unfolding reply_number
      fits_number = number_is ∙ rw (call_is true e)

      fits_written : w ≡ length text
      fits_written = r.written ∙ r.answers.written ∙ rw (call_is true e)

      fits_output : o₁ ≡ text ++ drop (length text) o
      fits_output = r.answers.output ∙ rw (call_is true e)

      fits_held : held t₁ ≡ Open (step s l).session
      fits_held = r.answers.held ∙ rw (call_is true e)

    -- it does not
    module _ (e : leb (length text) (length o) ≡ false) where
      full_number : n ≡ 12
      unfolding reply_number unanswered
      full_number = number_is ∙ rw (call_is false e)

      full_held : held t₁ ≡ Open s
      unfolding unanswered
      full_held = r.answers.held ∙ rw (call_is false e)

      full_output : o₁ ≡ o
      unfolding unanswered
      full_output = r.answers.output ∙ rw (call_is false e)

-- the output behind the answer line, then all of it
output_more : (o text : List ℕ) (d : Ran) →
    output_after o (one_more text d) ≡ text ++ output_after (drop (length text) o) d
unfolding output_after one_more
output_more o text d = rw (length-append text d.written, append_assoc, drop-drop (length d.written) (length text) o)

-- ---- the row is the run's lines

module _ (s : Session.Session) (l : List ℕ) (ls : List (List ℕ)) (t t' : Tables) (o o' : List ℕ) (z : Sent) where
  abbrev answer : List ℕ
  answer = answer_line (step s l)

  -- the line is answered, and the rest was sent as the definition says
  turn_fits : {c : Call} {rest : Sent} {o₂ : List ℕ} → length answer ≤ length o → GoesOn c rest o₂ z o' → SameLengths t c.tables →
      c.written ≡ length answer → c.output ≡ answer ++ drop (length answer) o →
      AsRun (run_lines (length o - length answer) (step s l).session ls) c.tables (drop (length answer) o) rest t' o₂ →
      AsRun (run_lines (length o) s (l ∷ ls)) t o z t' o'
  unfolding one_more
  turn_fits {c} {rest} {o₂} h g same w out i =
      let on = run_lines (length o - length answer) (step s l).session ls in
      let front : take c.written c.output ≡ answer = rw (w, out) (take_at answer (drop (length answer) o) (length answer) refl) in
      let written : c.written + rest.written ≡ length (answer ++ on.written) =
      rw (w, i.written, length-append answer on.written) in
      rw (line_fits (length o) s l ls h, g.sent) (record {
        number = i.number;
        answered = ap suc i.answered;
        written = written;
        output = g.output ∙ (rw (front, i.output) (sym (output_more o answer on)));
        lengths = lengths_on same i.lengths;
      })

  -- its answer line does not fit
  turn_full : {c : Call} → length o < length answer → Stopped c z t' o' → t' ≡ c.tables → SameLengths t c.tables → c.number ≡ 12 →
      c.output ≡ o → AsRun (run_lines (length o) s (l ∷ ls)) t o z t' o'
  unfolding answers_none result_number output_after
  turn_full h x at_end same n out =
      rw (line_full (length o) s l ls h, x.sent, at_end) (record {
        number = n;
        answered = refl;
        written = refl;
        output = x.output ∙ out;
        lengths = same;
      })

  -- the rest of the row, if it goes on, is the run's rest
  module _ (c : Call) (h : suffice t ≡ true) (q : held t ≡ Open s) (r : Replies l t o c.number c.written c.tables c.output)
      (on : (rest : Sent) (o₂ : List ℕ) → suffice c.tables ≡ true → held c.tables ≡ Open (step s l).session →
      Calls ls c.tables (drop c.written c.output) rest t' o₂ →
      AsRun (run_lines (length (drop c.written c.output)) (step s l).session ls) c.tables (drop c.written c.output) rest t'
      o₂) where
    turn : (b : Bool) → leb (length answer) (length o) ≡ b →
        Stopped c z t' o'
        ⊎ ((rest : Sent) × (o₂ : List ℕ) × GoesOn c rest o₂ z o' × Calls ls c.tables (drop c.written c.output) rest t' o₂) →
        AsRun (run_lines (length o) s (l ∷ ls)) t o z t' o'
    turn true e (inl x) = absurd (x.unanswered (fits_number s l t o h q r e))
    turn true e (inr (rest, o₂, g, more)) =
        let w = fits_written s l t o h q r e in
        let out = fits_output s l t o h q r e in
        let same = r.answers.lengths in
        let left : drop c.written c.output ≡ drop (length answer) o =
        rw (w, out) (drop_at answer (drop (length answer) o) (length answer) refl) in
        let i = on rest o₂ (still_suffice t c.tables same h) (fits_held s l t o h q r e) more in
        turn_fits (leb-true (length answer) (length o) e) g same w out (rw (sym (length-drop (length answer) o), sym left) i)
    turn false e (inl x) =
        turn_full (leb-false (length answer) (length o) e) x x.tables r.answers.lengths (full_number s l t o h q r e)
        (full_output s l t o h q r e)
    turn false e (inr (rest, o₂, g, more)) =
        let full = full_number s l t o h q r e in
        let done = g.done in
        absurd (omega arith)

calls_run : (s : Session.Session) (ls : List (List ℕ)) (t t' : Tables) (o o' : List ℕ) (z : Sent) → suffice t ≡ true →
    held t ≡ Open s → Calls ls t o z t' o' → AsRun (run_lines (length o) s ls) t o z t' o'
calls_run s [] t t' o o' z h q w = none_left s t t' o o' z w
calls_run s (l ∷ ls) t t' o o' z h q (c, r, w) =
    turn s l ls t t' o o' z c h q r
    (λ rest o₂ h₁ q₁ more. calls_run (step s l).session ls c.tables t' (drop c.written c.output) o₂ rest h₁ q₁ more)
    (leb (length (answer_line (step s l))) (length o)) refl w

-- ---- calls with outputs of their own

-- one call of such a row, given what holds of the rest
module _ (calls : List (List ℕ × List ℕ)) (s : Session.Session) (l o : List ℕ) (t t' : Tables) (ls : List (List ℕ)) (bytes : List ℕ)
    (c : Call) (h : suffice t ≡ true) (q : held t ≡ Open s) (r : Replies l t o c.number c.written c.tables c.output)
    (on : (u : Session.Session) (ls₁ : List (List ℕ)) (bytes₁ : List ℕ) → suffice c.tables ≡ true → held c.tables ≡ Open u →
    Row calls c.tables ls₁ bytes₁ t' → bytes₁ ≡ answer_lines (answers u ls₁)) where
  abbrev line_text : List ℕ
  line_text = answer_line (step s l)

  still_long : suffice c.tables ≡ true
  still_long = still_suffice t c.tables r.answers.lengths h

  row_turn : (b : Bool) → leb (length line_text) (length o) ≡ b →
      ((c.number ≡ 0) × ((ls₁ : List (List ℕ)) × (bytes₁ : List ℕ) × Row calls c.tables ls₁ bytes₁ t'
      × (ls ≡ l ∷ ls₁) × (bytes ≡ take c.written c.output ++ bytes₁)))
      ⊎ ((c.number ≢ 0) × Row calls c.tables ls bytes t') →
      bytes ≡ answer_lines (answers s ls)
  unfolding answers answer_lines answer_line
  row_turn true e (inl (n, (ls₁, bytes₁, more, p, b))) =
      let w = fits_written s l t o h q r e in
      let out = fits_output s l t o h q r e in
      let front : take c.written c.output ≡ line_text =
      rw (w, out) (take_at line_text (drop (length line_text) o) (length line_text) refl) in
      b ∙ rw (front, p, on (step s l).session ls₁ bytes₁ still_long (fits_held s l t o h q r e) more)
  row_turn true e (inr (n, more)) = absurd (n (fits_number s l t o h q r e))
  row_turn false e (inl (n, (ls₁, bytes₁, more, p, b))) = let full = full_number s l t o h q r e in absurd (omega arith)
  row_turn false e (inr (n, more)) = on s ls bytes still_long (full_held s l t o h q r e) more

-- ---- opened and closed

module _ {t opened : Tables} (w : OpensBy t 0 opened) where
  long_tables : suffice t ≡ true
  unfolding reply_number reply_meaning error_meaning
  long_tables = go (suffice t) w.opens.told
    where
      go : (b : Bool) → w.opened ≡ cond b (Ok tt) (Err ShortTable) → b ≡ true
      go true e = refl
      go false e =
          let no = w.number ∙ ap (λ (r : Result (Unit {0}) LineError). reply_number (reply_meaning r)) e in
          absurd (omega arith)

  opened_long : suffice opened ≡ true
  opened_long = still_suffice t opened w.opens.lengths long_tables

  opened_empty : held opened ≡ Open empty_session
  opened_empty = w.opens.opened long_tables

module _ {ls : List (List ℕ)} {t t' : Tables} {o o' : List ℕ} {z : Sent} (w : Sends ls t o z t' o') where
  sent_run : AsRun (run_lines (length o) empty_session ls) w.opened o z w.left o'
  sent_run =
      calls_run empty_session ls w.opened w.left o o' z (opened_long w.opens) (opened_empty w.opens) w.calls

  left_zeroed : Zeroed t.core t.theory t.solver t'.core t'.theory t'.solver
  left_zeroed =
      let same = lengths_on w.opens.opens.lengths sent_run.lengths in
      record {
        core = w.closes.core ∙ zeros_same w.left.core t.core same.core;
        theory = w.closes.theory ∙ zeros_same w.left.theory t.theory same.theory;
        solver = w.closes.solver ∙ zeros_same w.left.solver t.solver same.solver;
      }

-- ---- the theorem

-- the code's ending
abbrev ending_of : Run.Ending → Given.Ending
ending_of Run.Complete = Given.TheVariants.Complete
ending_of Run.ShortTable = Given.TheVariants.ShortTable
ending_of Run.LongScript = Given.TheVariants.LongScript
ending_of Run.Full = Given.TheVariants.Full

ending_back : (e : Run.Ending) → ending_meaning (ending_of e) ≡ e
unfolding ending_meaning
ending_back Run.Complete = refl
ending_back Run.ShortTable = refl
ending_back Run.LongScript = refl
ending_back Run.Full = refl

sent_reports : (script : List ℕ) (t t' : Tables) (o o' : List ℕ) (z : Sent) → length script ≤ max_script →
    Sends (lines script) t o z t' o' →
    Reports script t.core t.theory t.solver o z.number z.answered z.written t'.core t'.theory t'.solver o'
sent_reports script t t' o o' z short w =
    let d = run_lines (length o) empty_session (lines script) in
    let as_run = sent_run w in
    let suffices = suffices (long_tables w.opens) in
    let tables : TablesLong t.core t.theory t.solver =
    record { core = suffices.core; theory = suffices.theory; solver = suffices.solver } in
    record {
      ran = record { ending = ending_of d.ending; answered = z.answered; written = z.written };
      runs =
          run_started script t.core t.theory t.solver o (record { short = short; tables = tables })
          (record {
            result =
                record {
                  ending = ending_back d.ending;
                  answered = as_run.answered;
                  written = as_run.written;
                  output = as_run.output;
                };
            zeroed = left_zeroed w;
          });
      number = as_run.number ∙ ap result_number (sym (ending_back d.ending));
      answered = refl;
      written = refl;
    }

-- ---- tables that are too short

-- one of three tests says no
one_short : (a b c : ℕ) (d : Bool) → d ≡ true → leb table_words a && leb table_words b && leb table_words c && d ≡ false →
    (a < table_words) ⊎ ((b < table_words) ⊎ (c < table_words))
one_short a b c d fourth = go (leb table_words a) (leb table_words b) (leb table_words c) refl refl refl
  where
    go : (x y u : Bool) → leb table_words a ≡ x → leb table_words b ≡ y → leb table_words c ≡ u → x && y && u && d ≡ false →
        (a < table_words) ⊎ ((b < table_words) ⊎ (c < table_words))
    go true true true p q r e = absurd (false≢true (sym e ∙ fourth))
    go true true false p q r e = inr (inr (leb-false table_words c r))
    go true false u p q r e = inr (inl (leb-false table_words b q))
    go false y u p q r e = inl (leb-false table_words a p)

tables_short : (t : Tables) → kept_words ≤ length t.kept → suffice t ≡ false →
    (length t.core < table_words) ⊎ ((length t.theory < table_words) ⊎ (length t.solver < table_words))
unfolding suffice
tables_short t k e =
    one_short (length t.core) (length t.theory) (length t.solver) (leb kept_words (length t.kept))
    (le-leb kept_words (length t.kept) k) e

short_tables : {t t' : Tables} (w : OpensBy t 1 t') → suffice t ≡ false
unfolding reply_number reply_meaning error_meaning
short_tables {t} w = go (suffice t) w.opens.told
  where
    go : (b : Bool) → w.opened ≡ cond b (Ok tt) (Err ShortTable) → b ≡ false
    go true e =
        let yes = w.number ∙ ap (λ (r : Result (Unit {0}) LineError). reply_number (reply_meaning r)) e in
        absurd (omega arith)
    go false e = refl

refused_reports : (script : List ℕ) (t t' : Tables) (o o' : List ℕ) (z : Sent) → kept_words ≤ length t.kept → Refuses t o z t' o' →
    Reports script t.core t.theory t.solver o z.number z.answered z.written t'.core t'.theory t'.solver o'
unfolding ending_meaning result_number
refused_reports script t t' o o' z k w =
    let short = short_tables w.refuses in
    let opens = w.refuses.opens in
    rw (w.sent, opens.untouched short, w.output) (record {
      ran = record { ending = Given.TheVariants.ShortTable; answered = 0; written = 0 };
      runs = run_short script t.core t.theory t.solver o (tables_short t k short);
      number = refl;
      answered = refl;
      written = refl;
    })

pub kept_runs : KeptRuns
kept_runs script t t' o o' z short k (inl w) = sent_reports script t t' o o' z short w
kept_runs script t t' o o' z short k (inr w) = refused_reports script t t' o o' z k w

-- ---- the claim

-- The answers of a row are the definition's, from the session that the tables hold.
row_answers : (calls : List (List ℕ × List ℕ)) (s : Session.Session) (t t' : Tables) (ls : List (List ℕ)) (bytes : List ℕ) →
    suffice t ≡ true → held t ≡ Open s → Row calls t ls bytes t' → bytes ≡ answer_lines (answers s ls)
unfolding answers answer_lines
row_answers [] s t t' ls bytes h q (p, b, same) = rw (p, b)
row_answers ((l, o) ∷ calls) s t t' ls bytes h q (c, r, w) =
    row_turn calls s l o t t' ls bytes c h q r
    (λ u ls₁ bytes₁ h₁ q₁ on. row_answers calls u c.tables t' ls₁ bytes₁ h₁ q₁ on) (leb (length (answer_line (step s l))) (length o)) refl w

pub kept_claim : KeptHolds
kept_claim calls t opened t' ls bytes w row = record {
  written = row_answers calls empty_session opened t' ls bytes (opened_long w) (opened_empty w) row;
  claim = claim ls;
}

-- ---- there are such rows

-- what is sent to a function that answers lines as promised, on tables as a call left them
abbrev Answering : Type 0
Answering =
    (l : List ℕ) (t : Tables) (o : List ℕ) → KeptSound t → (r : Call) × Replies l t o r.number r.written r.tables r.output

-- a first call and, if it answered its line, a row behind it
joined_calls : (l : List ℕ) (ls : List (List ℕ)) (t : Tables) (o : List ℕ) (r : Call) →
    Replies l t o r.number r.written r.tables r.output →
    ((z : Sent) × (t' : Tables) × (o₂ : List ℕ) × Calls ls r.tables (drop r.written r.output) z t' o₂) →
    (b : Bool) → eqb r.number 0 ≡ b → (z : Sent) × (t' : Tables) × (o' : List ℕ) × Calls (l ∷ ls) t o z t' o'
joined_calls l ls t o r p (rest, t', o₂, more) true e =
    let z : Sent = record { number = rest.number; answered = suc rest.answered; written = r.written + rest.written } in
    let on : GoesOn r rest o₂ z (take r.written r.output ++ o₂) =
    record { done = eqb-true r.number 0 e; sent = refl; output = refl } in
    (z, t', take r.written r.output ++ o₂, (r, p, inr (rest, o₂, on, more)))
joined_calls l ls t o r p more false e =
    let z : Sent = record { number = r.number; answered = 0; written = 0 } in
    let stop : Stopped r z r.tables r.output =
    record { unanswered = eqb-false r.number 0 e; sent = refl; tables = refl; output = refl } in
    (z, r.tables, r.output, (r, p, inl stop))

-- whatever the lines: so the hypotheses of the theorem can be met
pub calls_exist : Answering → (ls : List (List ℕ)) (t : Tables) (o : List ℕ) → KeptSound t →
    (z : Sent) × (t' : Tables) × (o' : List ℕ) × Calls ls t o z t' o'
calls_exist f [] t o k = (record { number = 0; answered = 0; written = 0 }, t, o, (refl, refl, refl))
calls_exist f (l ∷ ls) t o k =
    let x = f l t o k in
    joined_calls l ls t o x.0 x.1 (calls_exist f ls x.0.tables (drop x.0.written x.0.output) x.1.answers.sound)
    (eqb x.0.number 0) refl
