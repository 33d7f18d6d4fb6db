-- The lines that change what the session keeps beside the tables.
use Rattle.std.specs.Prelude.{Ok}
use Rattle.shinri_core.proofs.Kit.{ℕ, suc, ◌≤◌, ◌<◌, ◌≡◌, refl, sym, ap, ap₂, ◌∙◌, subst, subst⁻¹, Bool, true, false, not, true≢false, List, arith, lt-leb, ltb, ltb-true, ltb-false, not-false}
use borrow.Author.Tests.{not-true, lt-ltb, le-ltb}
use Rattle.shinri_core.specs.Limits.{max_levels}
use Rattle.shinri_core.specs.Context.{all_grounded}
use Rattle.shinri_core.specs.Memory.Table.{context}
use Rattle.theory.specs.EqEngine.{Merge, pop_merges}
use Rattle.theory.specs.Memory.Table.{merges, level, Engine, Pops}
use Rattle.solver.specs.State.{State, with_eq, with_level, with_level_record, with_negative_record, with_disequalities, with_dt}
use Rattle.solver.specs.Records.{pop_entries}
use Rattle.solver.specs.declared.levels.TesterMarks.{TesterMarks}
use Rattle.solver.specs.Memory.Table.{of_sign, of_unequal, record_of, dt_with, state_with, state}
use Rattle.solver.specs.Memory.Levels.{entry_level, MarksSound, Opened, Popped}
use Rattle.solver.proofs.Basics.{by_test}
use Rattle.session.specs.Line.{Command, Push, Pop}
use Rattle.session.specs.Answer as Answer
use Rattle.session.specs.Session.{before_close, after_close, inhabited, popped, pop_to, questions, perform, done}
use Rattle.session.specs.declared.answer.Refusal as GivenRefusal
use Rattle.session.specs.declared.answer.Answer as Given
use Rattle.session.specs.Memory.Answers.{LineAnswer, refusal_meaning, answer_meaning}
use Rattle.session.specs.Memory.Sessions.{Beside, beside, session, SessionSound, Answers, AnswersClose, AnswersLevels, LevelsSound}
use Rattle.session.proofs.Memory.Answering.{Refused, engine_changes, no_here, yes_here, yes_last, unfit_level, refuses, no_room, accepts}

-- what fits the tables, as the code has it
pub as_beside : {k : Command} {c e s : List ℕ} {m : Beside} {a : LineAnswer} {c' e' s' : List ℕ} {m' : Beside} {o : List ℕ} →
    Answers k c e s m a c' e' s' m' o → Answers k c e s m a c' e' s' (beside e' m'.marks.counts m'.closed) o
as_beside {k} {c} {e} {s} {m} {a} {c'} {e'} {s'} {m'} {o} A =
    subst (λ (l : ℕ). Answers k c e s m a c' e' s' (record {
      marks = record { levels = l; counts = m'.marks.counts };
      closed = m'.closed;
    }) o) A.sound.levels A

-- the counts that the code lends, with the level that it read
pub marks_read : {e s n : List ℕ} {l : ℕ} → l ≡ level e → LevelsSound e s n → MarksSound s (record { levels = l; counts = n })
marks_read {s = s} {n} q z = subst⁻¹ (λ (x : ℕ). MarksSound s (record { levels = x; counts = n })) q z.marks

-- ---- `close`

module _ {c : List ℕ} {closed : Bool} where
  pub close_late : closed ≡ true → AnswersClose c closed (Refused GivenRefusal.TheVariants.Misplaced) closed
  unfolding questions before_close session refusal_meaning
  close_late h e s n o z = refuses o z GivenRefusal.TheVariants.Misplaced (no_here _ _ (ap not h))

  pub close_empty : {b : Bool} → closed ≡ false → b ≡ all_grounded (context c) → not b ≡ true →
      AnswersClose c closed (Refused GivenRefusal.TheVariants.NotGrounded) closed
  unfolding questions before_close inhabited session state_with refusal_meaning
  close_empty {b} h g w e s n o z =
      refuses o z GivenRefusal.TheVariants.NotGrounded (yes_here _ _ (ap not h) ∙ no_here _ _ (sym g ∙ not-true b w))

  pub close_done : {b : Bool} → closed ≡ false → b ≡ all_grounded (context c) → not b ≡ false →
      AnswersClose c closed (Ok Given.TheVariants.Ok) true
  unfolding questions before_close inhabited session state_with perform answer_meaning
  close_done {b} h g w e s n o z =
      let z' : SessionSound c e s (beside e n true) =
      record { state = z.state; marks = z.marks; levels = z.levels; unclosed = λ f. absurd (true≢false f) }
      in
      accepts o z tt (yes_here _ _ (ap not h) ∙ yes_last _ (sym g ∙ not-false b w)) z' refl

-- ---- `push`

module _ {e s n : List ℕ} {closed : Bool} where
  pub push_early : not closed ≡ true → AnswersLevels Push e s n closed (Refused GivenRefusal.TheVariants.Misplaced) e s n
  unfolding questions after_close session refusal_meaning
  push_early h c o z = refuses o z GivenRefusal.TheVariants.Misplaced (no_here _ _ (not-true closed h))

  pub push_full : {l : ℕ} → not closed ≡ false → l ≡ level e → l ≡ max_levels →
      AnswersLevels Push e s n closed (Refused GivenRefusal.TheVariants.NoRoom) e s n
  unfolding questions after_close session state_with perform done with_level
  push_full h q f c o z =
      no_room o z (yes_last _ (not-false closed h))
      (unfit_level (with_level (session c e s (beside e n closed)).state (suc (level e))) (lt-leb (suc (level e)) max_levels (omega arith)))

  pub push_done : {e' : List ℕ} {l : ℕ} {m : TesterMarks} → not closed ≡ false → l ≡ level e → Engine e' (merges e) (suc (level e)) →
      Opened s (record { levels = l; counts = n }) m → AnswersLevels Push e s n closed (Ok Given.TheVariants.Ok) e' s m.counts
  unfolding questions after_close session state_with dt_with perform done with_level answer_meaning
  push_done {e'} {l} {m} h q E opened c o z =
      let later = not-false closed h in
      let O = subst (λ (x : ℕ). Opened s (record { levels = x; counts = n }) m) q opened in
      let z' : SessionSound c e' s (record { marks = m; closed = closed }) = record {
        state = engine_changes z.state E.sound;
        marks = O.marks;
        levels = O.one_more ∙ sym E.at_level;
        unclosed = λ f. absurd (true≢false (sym later ∙ f));
      } in
      as_beside (accepts o z tt (yes_last _ later) z'
      (rw (E.log, E.at_level, O.entries (of_sign true), O.entries (of_sign false), O.entries of_unequal)))

-- ---- `pop`

pub pop_early : {e s n : List ℕ} {closed : Bool} {to : ℕ} → not closed ≡ true →
    AnswersLevels (Pop to) e s n closed (Refused GivenRefusal.TheVariants.Misplaced) e s n
unfolding questions after_close session refusal_meaning
pop_early {closed = closed} h c o z = refuses o z GivenRefusal.TheVariants.Misplaced (no_here _ _ (not-true closed h))

module _ {e s e' s' : List ℕ} {m : Beside} {n : TesterMarks} {to : ℕ} (P : Pops e e' to) (Q : Popped s m.marks to s' n) (c : List ℕ)
    (z : SessionSound c e s m) where
  abbrev lv : ℕ → ℕ
  lv = entry_level m.marks

  abbrev popped_state : State
  popped_state = state c e' s' (entry_level n)

  pop_below : to < level e → popped_state ≡ pop_to (state c e s lv) to
  unfolding pop_to popped state_with dt_with with_eq with_level with_level_record with_negative_record with_disequalities with_dt
  pop_below l =
      let E = P.engine in
      let lower : level e' ≡ to = E.at_level ∙ rw (lt-leb (level e) to l) in
      let records : state c e s' (entry_level n)
      ≡ with_disequalities
      (with_negative_record (with_level_record (state c e s lv) (pop_entries to (record_of (of_sign true) s lv)))
      (pop_entries to (record_of (of_sign false) s lv)))
      (pop_entries to (record_of of_unequal s lv)) =
      Q.state c e in
      let merged : popped_state ≡ with_eq (with_level (state c e s' (entry_level n)) to) (pop_merges to (merges e)) =
      ap₂ (λ (k : ℕ) (ms : List Merge). with_eq (with_level (state c e s' (entry_level n)) k) ms) lower E.log
      in
      rw (lt-ltb to (level e) l) (merged ∙ ap (λ (st : State). with_eq (with_level st to) (pop_merges to (merges e))) records)

  pop_above : level e ≤ to → popped_state ≡ pop_to (state c e s lv) to
  unfolding pop_to state_with
  pop_above l =
      let (same_s, same_n) = Q.above (let k = z.levels in omega arith) in
      rw (le-ltb to (level e) l)
      (ap₂ (λ (x y : List ℕ). state c x y (entry_level n)) (P.unchanged l) same_s ∙ ap (λ (k : TesterMarks). state c e s
      (entry_level k)) same_n)

  pop_level : n.levels ≡ level e'
  pop_level =
      by_test (ltb to (level e))
      (λ b.
      let l = ltb-true to (level e) b in
      let k = z.levels in
      Q.below (omega arith) ∙ sym (P.engine.at_level ∙ rw (lt-leb (level e) to l)))
      (λ b.
      let l = ltb-false to (level e) b in
      let k = z.levels in
      ap (λ (w : TesterMarks). w.levels) (Q.above (omega arith)).1 ∙ z.levels ∙ sym (ap level (P.unchanged l)))

  pop_open : (o : List ℕ) → m.closed ≡ true →
      Answers (Pop to) c e s m (Ok Given.TheVariants.Ok) c e' s' (record { marks = n; closed = m.closed }) o
  unfolding questions after_close session perform done answer_meaning
  pop_open o later =
      let is : popped_state ≡ pop_to (state c e s lv) to =
      by_test (ltb to (level e)) (λ b. pop_below (ltb-true to (level e) b)) (λ b. pop_above (ltb-false to (level e) b))
      in
      let z' : SessionSound c e' s' (record { marks = n; closed = m.closed }) = record {
        state = engine_changes (Q.state_sound c e z.state) P.engine.sound;
        marks = Q.marks;
        levels = pop_level;
        unclosed = λ f. absurd (true≢false (sym later ∙ f));
      } in
      accepts o z tt (yes_last _ later) z' (λ j. record { answer = Answer.Ok; session = record { state = sym is j; closed = m.closed } })

pub pop_done : {e s n e' s' : List ℕ} {closed : Bool} {l : ℕ} {m : TesterMarks} {to : ℕ} → not closed ≡ false → l ≡ level e →
    Pops e e' to → Popped s (record { levels = l; counts = n }) to s' m →
    AnswersLevels (Pop to) e s n closed (Ok Given.TheVariants.Ok) e' s' m.counts
pop_done {s = s} {n} {s' = s'} {closed} {m = m} {to} h q P popped c o z =
    let Q = subst (λ (x : ℕ). Popped s (record { levels = x; counts = n }) to s' m) q popped in
    as_beside (pop_open P Q c z o (not-false closed h))
