-- The run: words set to 0, an empty session, and the lines one by one: what the definition makes of all lines from the start is what it
-- makes of the rest from the present session on, with the lines answered and the bytes written so far in front.
use Rattle.std.specs.Prelude.{replicate, Option, None, Some}
use Rattle.shinri_core.proofs.Kit.{ℕ, suc, ◌+◌, ◌-◌, ◌≤◌, ◌<◌, ◌≡◌, refl, sym, ap, subst, subst⁻¹, ◌∙◌, ◌⊎◌, inl, inr, ⊎_elim, Bool, true, false, ◌&&◌, leb, List, [], ◌∷◌, ◌++◌, append_assoc, append-nil, zero-add, arith, le-leb, lt-leb, length, take, drop}
use lib.Seq.{sets-eq}
use Rattle.shinri_core.proofs.Lists.{and_no}
use Rattle.shinri_core.specs.Limits.{table_words, max_script}
use Rattle.shinri_core.specs.Context as Context
use Rattle.solver.proofs.Memory.Levels.{marks_none}
use Rattle.solver.proofs.Memory.Registering.{cleared_sound, cleared_state}
use Rattle.solver.specs.Memory.Levels.{entry_level}
use Rattle.session.specs.Text.{lines}
use Rattle.session.specs.Session as Session
use Rattle.session.specs.Session.{Performed, empty_session, step}
use Rattle.session.specs.Run.{Full, Ran, answers_none, one_more, answer_line, run_lines, tables_suffice, run, output_after, zeros, table_after}
use Rattle.session.specs.Promise.{ending_meaning, lent, Gives, Runs}
use Rattle.session.specs.Memory.Lines.{LineEnd}
use Rattle.session.specs.Memory.Answers.{LineAnswer, Written, line_text, longest_answer}
use Rattle.session.specs.Memory.Sessions.{Beside, level_marks, beside, session, after, Steps}
use Rattle.session.specs.Memory.Running.{TablesLong, EmptyTables, Puts, Answerable, AnsweredBy, RunsLines, MayStart, Zeroed, RunsStarted}
use Rattle.session.specs.declared.run.Ending as Given
use Rattle.session.specs.declared.run.Ran as GivenRan
use Rattle.session.proofs.RunClaim.{Stops, run_stops}
use Rattle.session.proofs.Memory.Splitting.{lines_from, lines_end}
use Rattle.session.proofs.Memory.Printing.{written_nothing, written_length, written_more}

-- ---- words set to 0

-- only the length counts
pub zeros_same : (t u : List ℕ) → length t ≡ length u → zeros t ≡ zeros u
unfolding zeros
zeros_same [] [] e = refl
zeros_same [] (x ∷ u) e = absurd (omega arith)
zeros_same (x ∷ t) [] e = absurd (omega arith)
zeros_same (x ∷ t) (y ∷ u) e = ap (λ (l : List ℕ). 0 ∷ l) (zeros_same t u (omega arith))

-- a table filled with 0
all_zero : (t : List ℕ) → replicate (length t) 0 ≡ zeros t
unfolding zeros
all_zero [] = refl
all_zero (x ∷ xs) = ap (λ (ws : List ℕ). 0 ∷ ws) (all_zero xs)

pub filled_zero : (t : List ℕ) {u : List ℕ} → u ≡ replicate (length t) 0 → u ≡ zeros t
filled_zero t e = e ∙ all_zero t

-- ---- an empty session

module _ {c e s : List ℕ} (n : List ℕ) (z : EmptyTables c e s) where
  pub empty_is : empty_session ≡ session c e s (beside e n false)
  unfolding session empty_session
  empty_is = rw (cleared_state z.core z.no_terms z.engine z.solver (entry_level (level_marks e n)))

  pub empty_answerable : Answerable c e s (beside e n false)
  unfolding after Context.empty_context
  empty_answerable = record {
    sound = record {
      state = cleared_sound z.core z.no_terms z.engine z.solver;
      marks = marks_none s (level_marks e n) z.engine.at_level;
      levels = refl;
      unclosed = λ _. record { no_terms = ap (λ (x : Context.Context). x.terms) z.no_terms; solver = z.solver };
    };
    reached = ([], empty_is);
  }

-- ---- a line

-- a text at the start of a table of bytes
pub written_front : {b xs b' : List ℕ} {r : ℕ} → Written b 0 xs b' r → b' ≡ xs ++ drop (length xs) b
written_front {b} {xs} w =
    let ends = w.ends in
    let within = w.within in
    w.bytes ∙ sets-eq xs b 0 (omega arith) ∙ rw (zero-add (length xs))

pub written_within : {b xs b' : List ℕ} {r : ℕ} → Written b 0 xs b' r → r ≤ length b'
written_within w = let kept = written_length w in let within = w.within in omega arith

-- what the step answers is put as the definition's answer line
pub answered_by : {line c e s ns : List ℕ} {b : Bool} {a : LineAnswer} {c' e' s' ns' : List ℕ} {b' : Bool}
    {t o o' : List ℕ} {start : ℕ} {d : Option ℕ} → Steps line c e s (beside e ns b) a c' e' s' (beside e' ns' b') t →
    Puts d o start (line_text a t) o' × (length (line_text a t) ≤ longest_answer) →
    AnsweredBy (step (session c e s (beside e ns b)) line) d c' e' s' (beside e' ns' b') o start o'
unfolding answer_line
answered_by {o = o} {o'} {start} {d} z w = record {
  answerable = record { sound = z.sound; reached = z.reached };
  after = ap (λ (p : Performed). p.session) z.stepped;
  line = subst⁻¹ (λ (p : Performed). Puts d o start (answer_line p) o') z.stepped w.0;
  short = subst⁻¹ (λ (p : Performed). length (answer_line p) ≤ longest_answer) z.stepped w.1;
}

pub puts_as : {d k : Option ℕ} (o : List ℕ) (start : ℕ) (text o' : List ℕ) → d ≡ k → Puts d o start text o' → Puts k o start text o'
puts_as o start text o' = subst (λ (x : Option ℕ). Puts x o start text o')

module _ (room : ℕ) (s : Session.Session) (l : List ℕ) (ls : List (List ℕ)) where
  pub line_fits : length (answer_line (step s l)) ≤ room →
      run_lines room s (l ∷ ls)
      ≡ one_more (answer_line (step s l)) (run_lines (room - length (answer_line (step s l))) (step s l).session ls)
  unfolding run_lines
  line_fits h = rw (le-leb (length (answer_line (step s l))) room h)

  pub line_full : room < length (answer_line (step s l)) → run_lines room s (l ∷ ls) ≡ answers_none Full
  unfolding run_lines
  line_full h = rw (lt-leb (length (answer_line (step s l))) room h)

-- ---- the lines so far

-- n answered lines and the bytes w in front
unfoldable pub in_front : ℕ → List ℕ → Ran → Ran
in_front n w d = record { ending = d.ending; answered = n + d.answered; written = w ++ d.written }

front_none : (d : Ran) → d ≡ in_front 0 [] d
unfolding in_front
front_none d = rw (zero-add d.answered)

front_more : (n : ℕ) (w text : List ℕ) (d : Ran) → in_front n w (one_more text d) ≡ in_front (n + 1) (w ++ text) d
unfolding in_front one_more
front_more n w text d =
    let e : n + suc d.answered ≡ n + 1 + d.answered = omega arith in
    rw (e, append_assoc)

-- So many lines are answered, their answer lines are these bytes at the start of the output, and the definition goes on from here.
pub record Running (script o₀ c e s : List ℕ) (m : Beside) (at answered written : ℕ) (o : List ℕ) : Type 0 where
  pub answerable : Answerable c e s m
  pub fewer : answered ≤ at
  pub bytes : List ℕ
  pub done : Written o₀ 0 bytes o written
  pub rest :
      run_lines (length o₀) empty_session (lines script)
      ≡ in_front answered bytes (run_lines (length o₀ - written) (session c e s m) (lines (drop at script)))

pub run_first : {script c e s : List ℕ} (n o : List ℕ) → EmptyTables c e s → Running script o c e s (beside e n false) 0 0 0 o
run_first n o z =
    let room : length o - 0 ≡ length o = omega arith in
    record {
      answerable = empty_answerable n z;
      fewer = omega arith;
      bytes = [];
      done = written_nothing o 0 (omega arith);
      rest = front_none _ ∙ rw (empty_is n z, room);
    }

-- the definition's result is what stands in front
gives : {d : Ran} {o₀ w o : List ℕ} {n k : ℕ} (g : Given.Ending) → Written o₀ 0 w o n →
    d ≡ in_front k w (answers_none (ending_meaning g)) → Gives d (record { ending = g; answered = k; written = n }) o₀ o
unfolding in_front answers_none output_after
gives {w = w} {k = k} g v e =
    let w_nil = append-nil w in
    let ends = v.ends in
    record {
      ending = rw e;
      answered = rw e (omega arith);
      written = rw (e, w_nil) (omega arith);
      output = rw (e, w_nil) (written_front v);
    }

module _ {script o₀ c e s : List ℕ} {m : Beside} {at n written : ℕ} {o : List ℕ} (z : Running script o₀ c e s m at n written o) where
  -- no line is left
  pub run_complete : length script ≤ at →
      RunsLines script o₀ (record { ending = Given.TheVariants.Complete; answered = n; written = written }) o
  unfolding run_lines answers_none ending_meaning
  run_complete h = gives Given.TheVariants.Complete z.done (z.rest ∙ rw (lines_end script at h))

  module _ {end : ℕ} (h : at < length script) (l : LineEnd script at end) where
    abbrev line : List ℕ
    line = take (end - at) (drop at script)

    module _ {d : Option ℕ} {c' e' s' ns : List ℕ} {b : Bool} {o' : List ℕ}
        (f : AnsweredBy (step (session c e s m) line) d c' e' s' (beside e' ns b) o written o') where
      -- the next line has no room
      pub run_full : d ≡ None →
          RunsLines script o₀ (record { ending = Given.TheVariants.Full; answered = n; written = written }) o'
      unfolding ending_meaning
      run_full g =
          let put = puts_as o written (answer_line (step (session c e s m) line)) o' g f.line in
          let same = put.0 in
          let long = put.1 in
          let kept = written_length z.done in
          let full = line_full (length o₀ - written) (session c e s m) line (lines (drop (suc end) script)) (omega arith) in
          rw same (gives Given.TheVariants.Full z.done (z.rest ∙ rw (lines_from script at end h l, full)))

      -- the next line is answered
      pub run_next : {k written' : ℕ} → k ≡ n + 1 → d ≡ Some written' →
          Running script o₀ c' e' s' (beside e' ns b) (end + 1) k written' o'
      run_next {k} {written'} counted g =
          let text' = answer_line (step (session c e s m) line) in
          let v : Written o written text' o' written' = puts_as o written text' o' g f.line in
          let kept = written_length z.done in
          let fewer = z.fewer in
          let after = l.after in
          let ends = v.ends in
          let within = v.within in
          let fits = line_fits (length o₀ - written) (session c e s m) line (lines (drop (suc end) script)) (omega arith) in
          let room : length o₀ - written - length text' ≡ length o₀ - written' = omega arith in
          let next : suc end ≡ end + 1 = omega arith in
          record {
            answerable = f.answerable;
            fewer = omega arith;
            bytes = z.bytes ++ text';
            done = written_more z.done v;
            rest = z.rest ∙ rw (lines_from script at end h l, fits, front_more, room, f.after, next, counted);
          }

-- ---- the run

-- the tables were as long when they were lent
pub zeroed_all : {c₁ e₁ s₁ c' e' s' : List ℕ} (c e s : List ℕ) → length c₁ ≡ length c → length e₁ ≡ length e → length s₁ ≡ length s →
    Zeroed c₁ e₁ s₁ c' e' s' → Zeroed c e s c' e' s'
zeroed_all {c₁} {e₁} {s₁} c e s p q r z = record {
  core = z.core ∙ zeros_same c₁ c p;
  theory = z.theory ∙ zeros_same e₁ e q;
  solver = z.solver ∙ zeros_same s₁ s r;
}

-- a started run leaves zeros, however it ends
started_zeros : (room : ℕ) (s : Session.Session) (ls : List (List ℕ)) (d : Ran) → Stops room s ls d → (t : List ℕ) →
    table_after d.ending t ≡ zeros t
unfolding table_after
started_zeros room s ls d w t = ⊎_elim (λ p. rw p.0) (λ p. rw p.0) w

module _ (script c e s o : List ℕ) where
  -- questions 1 and 2
  tables_short : (length c < table_words) ⊎ ((length e < table_words) ⊎ (length s < table_words)) → tables_suffice (lent c e s o) ≡ false
  unfolding tables_suffice
  tables_short (inl h) = rw (lt-leb table_words (length c) h)
  tables_short (inr (inl h)) = rw (lt-leb table_words (length e) h, and_no (leb table_words (length c)))
  tables_short (inr (inr h)) =
      rw (lt-leb table_words (length s) h, and_no (leb table_words (length c) && leb table_words (length e)))

  tables_long : TablesLong c e s → tables_suffice (lent c e s o) ≡ true
  unfolding tables_suffice
  tables_long l =
      rw (le-leb table_words (length c) l.core, le-leb table_words (length e) l.theory, le-leb table_words (length s) l.solver)

  -- a run that is not started touches nothing
  untouched : (k : Given.Ending) → run (lent c e s o) script ≡ answers_none (ending_meaning k) →
      ((t : List ℕ) → table_after (ending_meaning k) t ≡ t) → Runs script c e s o (record { ending = k; answered = 0; written = 0 }) c e s o
  unfolding answers_none
  untouched k d same = record {
    result = gives k (written_nothing o 0 (omega arith)) (d ∙ front_none (answers_none (ending_meaning k)));
    core = rw d (sym (same c));
    theory = rw d (sym (same e));
    solver = rw d (sym (same s));
  }

  pub run_short : (length c < table_words) ⊎ ((length e < table_words) ⊎ (length s < table_words)) →
      Runs script c e s o (record { ending = Given.TheVariants.ShortTable; answered = 0; written = 0 }) c e s o
  unfolding run ending_meaning table_after
  run_short h = untouched Given.TheVariants.ShortTable (rw (tables_short h)) (λ t. refl)

  pub run_long : TablesLong c e s → max_script < length script →
      Runs script c e s o (record { ending = Given.TheVariants.LongScript; answered = 0; written = 0 }) c e s o
  unfolding run ending_meaning table_after
  run_long l h =
      untouched Given.TheVariants.LongScript (rw (tables_long l, lt-leb (length script) max_script h)) (λ t. refl)

  pub run_started : {r : GivenRan.Ran} {c' e' s' o' : List ℕ} → MayStart script c e s → RunsStarted script c e s o r c' e' s' o' →
      Runs script c e s o r c' e' s' o'
  unfolding run
  run_started m z =
      let d : run (lent c e s o) script ≡ run_lines (length o) empty_session (lines script) =
      rw (tables_long m.tables, le-leb (length script) max_script m.short) in
      let ls = lines script in
      let stops = run_stops (length o) empty_session ls in
      let after = started_zeros (length o) empty_session ls (run_lines (length o) empty_session ls) stops in
      record {
        result = rw d z.result;
        core = rw d (z.zeroed.core ∙ sym (after c));
        theory = rw d (z.zeroed.theory ∙ sym (after e));
        solver = rw d (z.zeroed.solver ∙ sym (after s));
      }
