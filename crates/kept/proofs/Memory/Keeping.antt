-- A session kept open whose room for a call is lent: the parts of the fourth table, tables that are long enough for session's calls too, the
-- room for a call, a line tried, and what a call promises.
use Rattle.std.specs.Prelude.{Option, None, Some, is_some, Result, Ok, Err}
use Rattle.std.specs.Option.{ok_or}
use Rattle.std.proofs.lemmas.Option.{none-some}
use Rattle.shinri_core.proofs.Kit.{ℕ, ◌+◌, ◌-◌, ◌≤◌, ◌<◌, ◌≡◌, refl, sym, ap, subst⁻¹, ◌∙◌, ◌⊎◌, inl, inr, Bool, true, false, false≢true, ◌&&◌, eqb, leb, List, ◌++◌, below_more, arith, le-leb, lt-leb, length, get_or, set, length-set, get_or-set_same, get_or-set_other, ext_get_or, take, drop, length-take-le, length-drop, get_or-take, take-take, not}
use lib.ListN.{take-append-drop}
use lib.Seq.{take_at, drop_at, drop-drop, take-add}
use borrow.Rule.Slice.PartMut.{put_mid, mid_len, take_put, drop_put, same_len_mid}
use borrow.Author.Tests.{leb-true}
use Rattle.shinri_core.proofs.Lists.{and_no}
use Rattle.shinri_core.specs.Limits.{table_words, max_levels}
use Rattle.session.specs.Session.{Performed, step}
use Rattle.session.specs.Run.{answer_line}
use Rattle.session.specs.Kept as Own
use Rattle.session.specs.Kept.{Reply, Done, ShortTable, Full, Replied, unanswered, reply_number, error_meaning, reply_meaning, bytes_written}
use Rattle.session.specs.Memory.Answers.{LineAnswer, line_text, longest_answer}
use Rattle.session.specs.Memory.Sessions.{Beside, beside, session, Steps}
use Rattle.session.specs.Memory.Running.{Puts, AnsweredBy}
use Rattle.session.specs.Memory.Kept as OwnTables
use Rattle.session.specs.Memory.Kept.{Tables, tables, SameLengths, SameBehind, MARK, CLOSED, COUNTS, is_open, close_accepted, mark_counts, session_in, held, Exact, Tried, Keeps}
use Rattle.session.specs.declared.kept.LineError as Given
use Rattle.session.proofs.Memory.Running.{answered_by, puts_as}
use Rattle.session.proofs.Memory.Keeping as OwnKeeping
use Rattle.session.proofs.Memory.Keeping.{suffices, all_same, same_behind, is_full, call_closed, call_full, done_call}
use Rattle.kept.specs.Kept.{answer_in, Opens, OpensBy, Answered, AnswersHeld, Replies}
use Rattle.kept.specs.Memory.Kept.{SameSession, ANSWER, CORE, THEORY, SOLVER, kept_words, suffice, KeptSound, SameKept, AnswerRoom, Saved, Saves, Triable, Holding, TriedOpen, AnswersOpen}

-- ---- words copied

-- the words below i are those of the other table, which is as long
pub record CopyingWhole (from to : List ℕ) (i : ℕ) : Type 0 where
  pub long : length from ≡ length to
  pub done : (j : ℕ) → j < i → get_or to j 0 ≡ get_or from j 0

pub whole_first : {from to : List ℕ} → length from ≡ length to → CopyingWhole from to 0
whole_first e = record { long = e; done = λ j h. absurd (omega arith) }

pub whole_next : {from to : List ℕ} {i : ℕ} → CopyingWhole from to i → i < length to → CopyingWhole from (set to i (get_or from i 0)) (i + 1)
whole_next {from} {to} {i} z h = record {
  long = z.long ∙ sym (length-set to i (get_or from i 0));
  done =
      below_more (λ (j : ℕ). get_or (set to i (get_or from i 0)) j 0 ≡ get_or from j 0) i
      (λ j l. get_or-set_other to i j (get_or from i 0) 0 (omega arith) ∙ z.done j l)
      (get_or-set_same to i (get_or from i 0) 0 h);
}

pub whole_done : {from to : List ℕ} {i : ℕ} → CopyingWhole from to i → length to ≤ i → to ≡ from
whole_done {from} {to} z h = ext_get_or 0 to from (sym z.long) (λ j l. z.done j (omega arith))

-- ---- parts of the fourth table

-- a part that came back as x
part_back : (a n : ℕ) (k x : List ℕ) → a ≤ length k → length x ≡ n → take n (drop a (put_mid a n k x)) ≡ x
part_back a n k x h e =
    let rest = drop n (drop a k) in
    ap (take n) (drop_at (take a k) (x ++ rest) a (length-take-le a k h)) ∙ take_at x rest n e

-- the words before it are as they were
same_front : (b a n : ℕ) (k x : List ℕ) → b ≤ a → a ≤ length k → take b (put_mid a n k x) ≡ take b k
same_front b a n k x l h = sym (take-take b a (put_mid a n k x) l) ∙ ap (take b) (take_put a n k x h) ∙ take-take b a k l

part_of_front : (a n : ℕ) (k : List ℕ) → a ≤ length k → take n (drop a k) ≡ drop a (take (a + n) k)
part_of_front a n k h =
    sym (drop_at (take a k) (take n (drop a k)) a (length-take-le a k h)) ∙ ap (drop a) (sym (take-add a n k))

-- and so is a part before it
part_before : (a n b m : ℕ) (k x : List ℕ) → a + n ≤ b → b ≤ length k → length (put_mid b m k x) ≡ length k →
    take n (drop a (put_mid b m k x)) ≡ take n (drop a k)
part_before a n b m k x l h e =
    part_of_front a n (put_mid b m k x) (omega arith) ∙ ap (drop a) (same_front (a + n) b m k x l h)
    ∙ sym (part_of_front a n k (omega arith))

-- a word of the front
front_word : (k k' : List ℕ) (n i : ℕ) → take n k' ≡ take n k → i < n → get_or k' i 0 ≡ get_or k i 0
front_word k k' n i e h = sym (get_or-take n k' i 0 h) ∙ ap (λ (u : List ℕ). get_or u i 0) e ∙ get_or-take n k i 0 h

-- what is kept between calls
module _ (k k' : List ℕ) (e : SameKept k k') where
  pub same_mark : is_open k' ≡ is_open k
  unfolding is_open
  same_mark = rw (front_word k k' ANSWER MARK e (omega arith))

  pub same_closed : close_accepted k' ≡ close_accepted k
  unfolding close_accepted
  same_closed = rw (front_word k k' ANSWER CLOSED e (omega arith))

  pub same_counts : kept_words ≤ length k → length k' ≡ length k → mark_counts k' ≡ mark_counts k
  unfolding mark_counts
  same_counts l q =
      part_of_front COUNTS max_levels k' (omega arith) ∙ ap (drop COUNTS) e ∙ sym (part_of_front COUNTS max_levels k (omega arith))

-- ---- tables that are long enough

both : (a b : Bool) → a && b ≡ true → (a ≡ true) × (b ≡ true)
both true b e = (refl, e)
both false b e = absurd (false≢true e)

pub kept_long : (t : Tables) → suffice t ≡ true → kept_words ≤ length t.kept
unfolding suffice
kept_long t e = leb-true kept_words (length t.kept) (both (leb kept_words (length t.kept)) (OwnTables.suffice t) e).0

-- they are for session's calls too
pub own_suffice : (t : Tables) → suffice t ≡ true → OwnTables.suffice t ≡ true
unfolding suffice
own_suffice t e = (both (leb kept_words (length t.kept)) (OwnTables.suffice t) e).1

pub as_own : (t : Tables) → kept_words ≤ length t.kept → suffice t ≡ OwnTables.suffice t
unfolding suffice
as_own t l = rw (le-leb kept_words (length t.kept) l)

pub all_long : (t : Tables) → kept_words ≤ length t.kept → OwnTables.suffice t ≡ true → suffice t ≡ true
all_long t l h = as_own t l ∙ h

pub short_kept : (t : Tables) → length t.kept < kept_words → suffice t ≡ false
unfolding suffice
short_kept t l = rw (lt-leb kept_words (length t.kept) l)

pub short_own : (t : Tables) → OwnTables.suffice t ≡ false → suffice t ≡ false
unfolding suffice
short_own t e = rw (e, and_no (leb kept_words (length t.kept)))

sound_here : (t : Tables) → OwnTables.KeptSound t → KeptSound t
sound_here t z = λ h o. z (own_suffice t h) o

-- ---- an opened session

pub opens_here : {t t' : Tables} {r : Result (Unit {0}) Given.LineError} → kept_words ≤ length t.kept → Own.Opens t r t' → Opens t r t'
opens_here {t} {t'} l z =
    let same = as_own t l in
    record {
      told = rw same z.told;
      opened = λ h. z.opened (sym same ∙ h);
      untouched = λ h. z.untouched (sym same ∙ h);
      sound = sound_here t' z.sound;
      lengths = z.lengths;
      behind = z.behind;
    }

pub refused : (t : Tables) → length t.kept < kept_words → Opens t (Err Given.TheVariants.ShortTable) t
refused t l =
    let short = short_kept t l in
    record {
      told = rw short;
      opened = λ h. absurd (false≢true (sym short ∙ h));
      untouched = λ h. refl;
      sound = λ h. absurd (false≢true (sym short ∙ h));
      lengths = all_same t;
      behind = same_behind t;
    }

-- ---- the room for a call

module _ (k x : List ℕ) (l : kept_words ≤ length k) (e : length x ≡ length (take (CORE - ANSWER) (drop ANSWER k))) where
  answer_length : length x ≡ CORE - ANSWER
  answer_length = e ∙ mid_len ANSWER CORE k (omega arith)

  pub answer_back : take (CORE - ANSWER) (drop ANSWER (put_mid ANSWER (CORE - ANSWER) k x)) ≡ x
  answer_back = part_back ANSWER (CORE - ANSWER) k x (omega arith) answer_length

  pub answer_room : AnswerRoom k (put_mid ANSWER (CORE - ANSWER) k x)
  answer_room = record {
    kept = take_put ANSWER (CORE - ANSWER) k x (omega arith);
    copies = drop_put ANSWER CORE k x (omega arith) (omega arith) answer_length;
  }

-- the step left its answer there, and it was put
pub answered_there : {line c e s ns : List ℕ} {b : Bool} {a : LineAnswer} {c' e' s' ns' : List ℕ} {b' : Bool}
    {x u o o' : List ℕ} {d : Option ℕ} → Steps line c e s (beside e ns b) a c' e' s' (beside e' ns' b') x → u ≡ x →
    Puts d o 0 (line_text a u) o' × (length (line_text a u) ≤ longest_answer) →
    AnsweredBy (step (session c e s (beside e ns b)) line) d c' e' s' (beside e' ns' b') o 0 o'
answered_there z q w = answered_by z (rw (sym q) w)

-- a work table is as long as the part for its copy
pub table_fits : (a : ℕ) (k c : List ℕ) → a + table_words ≤ length k → length c ≡ table_words →
    length c ≡ length (take table_words (drop a k))
table_fits a k c l e = e ∙ sym (length-take-le table_words (drop a k) (rw length-drop (omega arith)))

put_length : (a : ℕ) (k c : List ℕ) → a + table_words ≤ length k → length c ≡ table_words →
    length (put_mid a table_words k c) ≡ length k
put_length a k c l e = same_len_mid a table_words k c (table_fits a k c l e)

pub saves : {c e s : List ℕ} (k x y z : List ℕ) → kept_words ≤ length k → Exact c e s → x ≡ c → y ≡ e → z ≡ s →
    Saves c e s k (put_mid SOLVER table_words (put_mid THEORY table_words (put_mid CORE table_words k x) y) z)
saves k x y z l exact p q r =
    let long_x = ap length p ∙ exact.core in
    let long_y = ap length q ∙ exact.theory in
    let long_z = ap length r ∙ exact.solver in
    let k₁ = put_mid CORE table_words k x in
    let n₁ : length k₁ ≡ length k = put_length CORE k x (omega arith) long_x in
    let k₂ = put_mid THEORY table_words k₁ y in
    let n₂ : length k₂ ≡ length k₁ = put_length THEORY k₁ y (omega arith) long_y in
    let n₃ : length (put_mid SOLVER table_words k₂ z) ≡ length k₂ = put_length SOLVER k₂ z (omega arith) long_z in
    record {
      kept =
          same_front ANSWER SOLVER table_words k₂ z (omega arith) (omega arith)
          ∙ same_front ANSWER THEORY table_words k₁ y (omega arith) (omega arith)
          ∙ same_front ANSWER CORE table_words k x (omega arith) (omega arith);
      saved =
          record {
            core =
                sym
                (part_before CORE table_words SOLVER table_words k₂ z (omega arith) (omega arith) n₃
                ∙ part_before CORE table_words THEORY table_words k₁ y (omega arith) (omega arith) n₂
                ∙ part_back CORE table_words k x (omega arith) long_x ∙ p);
            theory =
                sym
                (part_before THEORY table_words SOLVER table_words k₂ z (omega arith) (omega arith) n₃
                ∙ part_back THEORY table_words k₁ y (omega arith) long_y ∙ q);
            solver = sym (part_back SOLVER table_words k₂ z (omega arith) long_z ∙ r);
          };
    }

-- the work tables are as they were
pub record Restored (c e s c' e' s' : List ℕ) : Type 0 where
  pub core : c' ≡ c
  pub theory : e' ≡ e
  pub solver : s' ≡ s

pub restored : {c e s c' e' s' k k₁ k₂ : List ℕ} → Saves c e s k k₁ → AnswerRoom k₁ k₂ → Saved k₂ c' e' s' → Restored c e s c' e' s'
restored {k₁ = k₁} {k₂} z w v =
    let behind : (n : ℕ) → drop (CORE + n) k₂ ≡ drop (CORE + n) k₁ =
    λ n. sym (drop-drop n CORE k₂) ∙ ap (drop n) w.copies ∙ drop-drop n CORE k₁ in
    record {
      core = v.core ∙ ap (take table_words) w.copies ∙ sym z.saved.core;
      theory = v.theory ∙ ap (take table_words) (behind table_words) ∙ sym z.saved.theory;
      solver = v.solver ∙ ap (take table_words) (behind (table_words + table_words)) ∙ sym z.saved.solver;
    }

-- ---- a line tried

none_is : {A : Type 0} (d : Option A) → is_some d ≡ false → d ≡ None
none_is None e = refl
none_is (Some x) e = absurd (false≢true (sym e))

module _ {p : Performed} {d : Option ℕ} {c e s c₁ e₁ s₁ : List ℕ} {m₁ : Beside} {o o₁ : List ℕ}
    (f : AnsweredBy p d c₁ e₁ s₁ m₁ o 0 o₁) where
  pub tried_full : {c' e' s' : List ℕ} {m : Beside} → is_some d ≡ false → Restored c e s c' e' s' → Tried p d c e s c' e' s' m o o₁
  tried_full h w =
      let put = puts_as o 0 (answer_line p) o₁ (none_is d h) f.line in
      let longer = put.1 in
      let short = f.short in
      record {
        answered = λ n q. absurd (none-some _ (sym (none_is d h) ∙ q));
        unfit = λ _. record {
          core = w.core;
          theory = w.theory;
          solver = w.solver;
          output = put.0;
          long = omega arith;
          few = omega arith;
        };
      }

  pub tried_done : is_some d ≡ true → Tried p d c e s c₁ e₁ s₁ m₁ o o₁
  tried_done h = record { answered = λ n q. rw (sym q) f; unfit = λ q. absurd (false≢true (sym (ap is_some q) ∙ h)) }

-- what the fourth table keeps is what the line works on
pub open_asks : {c e s k n : List ℕ} → n ≡ take max_levels (drop COUNTS k) → Holding c e s k →
    Triable c e s (beside e n (not (eqb (get_or k CLOSED 0) 0))) k
unfolding mark_counts close_accepted
open_asks q h = record { answerable = rw q h.answerable; exact = h.exact; long = h.long }

module _ {p p₁ : Performed} {d : Option ℕ} {c e s c₁ e₁ s₁ n₁ : List ℕ} {b₁ : Bool} {o o₁ : List ℕ} (k k₁ : List ℕ)
    (f : Tried p₁ d c e s c₁ e₁ s₁ (beside e₁ n₁ b₁) o o₁ × SameKept k k₁) (own : p₁ ≡ p) where
  pub open_full : d ≡ None → TriedOpen p None c e s k c₁ e₁ s₁ k₁ o o₁
  open_full g = record {
    answered = λ n q. absurd (none-some _ q);
    mark = same_mark k k₁ f.1;
    unfit = λ q. rw (sym own) (f.0.unfit g);
    kept = λ q. f.1;
  }

  pub open_done : {i : ℕ} {k₂ : List ℕ} → d ≡ Some i → Keeps k₁ n₁ b₁ k₂ → TriedOpen p (Some i) c e s k c₁ e₁ s₁ k₂ o o₁
  open_done g z = record {
    answered = λ n q. rw (sym own, z.counts, z.closed) (f.0.answered n (g ∙ q));
    mark = z.mark ∙ same_mark k k₁ f.1;
    unfit = λ q. absurd (none-some _ (sym q));
    kept = λ q. absurd (none-some _ (sym q));
  }

-- ---- a call

-- on tables that are long enough it is one of session's
pub own_answer : (t : Tables) (room : ℕ) (line : List ℕ) → suffice t ≡ true → answer_in t room line ≡ Own.answer_in t room line
unfolding answer_in Own.answer_in
own_answer t room line h = rw (h, own_suffice t h)

pub same_session : (t : Tables) → SameSession t t
same_session t = record { core = refl; theory = refl; solver = refl; kept = refl }

-- a line that is not answered, on tables that hold what they held
not_answered : {d : Replied} {t t' : Tables} (o : List ℕ) (g : Given.LineError) → d ≡ unanswered (error_meaning g) (held t) →
    held t' ≡ held t → SameSession t t' → (error_meaning g ≡ Full) ⊎ (t' ≡ t) →
    (longest_answer ≤ length o → is_full (error_meaning g) → ⊥) → KeptSound t' → SameLengths t t' → SameBehind t t' →
    Answered d t o (Err g) t' o
unfolding unanswered reply_meaning
not_answered o g e h same u other z n b = record {
  reply = rw e;
  written = rw e;
  output = rw e;
  fits = rw e (omega arith);
  held = rw e h;
  unperformed = inr same;
  untouched = inr (rw e u);
  room = λ l. rw e (λ q. other l (subst⁻¹ is_full q tt));
  sound = z;
  lengths = n;
  behind = b;
}

-- no session is open on the tables, or they are too short
pub too_short : (t : Tables) (o line : List ℕ) → suffice t ≡ false → KeptSound t →
    AnswersHeld line t o (Err Given.TheVariants.ShortTable) t o
unfolding answer_in error_meaning
too_short t o line h z =
    not_answered o Given.TheVariants.ShortTable (rw h) refl (same_session t) (inr refl) (λ l f. f) z (all_same t) (same_behind t)

pub not_open : (t : Tables) (o line : List ℕ) → suffice t ≡ true → is_open t.kept ≡ false → KeptSound t →
    AnswersHeld line t o (Err Given.TheVariants.NotOpen) t o
unfolding error_meaning
not_open t o line h n z =
    not_answered o Given.TheVariants.NotOpen
    (own_answer t (length o) line h ∙ call_closed t (length o) line (own_suffice t h) n)
    refl (same_session t) (inr refl) (λ l f. f) z (all_same t) (same_behind t)

-- the parts that a session uses hold it
pub holding : (t : Tables) → suffice t ≡ true → is_open t.kept ≡ true → KeptSound t →
    Holding (take table_words t.core) (take table_words t.theory) (take table_words t.solver) t.kept
holding t h o z =
    let own = OwnKeeping.holding t (own_suffice t h) o (λ _. z h) in
    record { answerable = own.answerable; exact = own.exact; long = kept_long t h }

-- the line was tried on these parts
module _ (t : Tables) (line : List ℕ) {d : Option ℕ} {c₁ e₁ s₁ k₁ o o₁ : List ℕ} (h : suffice t ≡ true)
    (opened : is_open t.kept ≡ true) (z : KeptSound t)
    (f : AnswersOpen line (take table_words t.core) (take table_words t.theory) (take table_words t.solver) t.kept d
    c₁ e₁ s₁ k₁ o o₁) where
  abbrev back_tables : Tables
  back_tables =
      tables (c₁ ++ drop table_words t.core) (e₁ ++ drop table_words t.theory) (s₁ ++ drop table_words t.solver) k₁

  full_call : d ≡ None → length k₁ ≡ length t.kept →
      AnswersHeld line t o (Err Given.TheVariants.Full) back_tables o₁
  unfolding session_in held error_meaning
  full_call g lk =
      let w = f.unfit g in
      let same = f.kept g in
      let after = tables t.core t.theory t.solver k₁ in
      let is_after : back_tables ≡ after =
      rw (
        w.core,
        w.theory,
        w.solver,
        take-append-drop table_words t.core,
        take-append-drop table_words t.theory,
        take-append-drop table_words t.solver,
      ) in
      let counts = same_counts t.kept k₁ same (kept_long t h) lk in
      let still_held : held after ≡ held t = rw (same_mark t.kept k₁ same, same_closed t.kept k₁ same, counts) in
      let few = w.few in
      rw (is_after, w.output)
      (not_answered o Given.TheVariants.Full
      (own_answer t (length o) line h ∙ call_full t (length o) line (own_suffice t h) opened w.long) still_held
      (record { core = refl; theory = refl; solver = refl; kept = same }) (inl refl) (λ l f. absurd (omega arith))
      (λ l p. rw (same_closed t.kept k₁ same, counts) (z h opened))
      (record { core = refl; theory = refl; solver = refl; kept = lk }) (record { core = refl; theory = refl; solver = refl }))

  -- an answered line is one of session's
  answered_call : {n : ℕ} → d ≡ Some n → length c₁ ≡ length (take table_words t.core) →
      length e₁ ≡ length (take table_words t.theory) → length s₁ ≡ length (take table_words t.solver) →
      length k₁ ≡ length t.kept →
      AnswersHeld line t o (Ok n) back_tables o₁
  unfolding reply_meaning
  answered_call g lc le ls lk =
      let own =
      done_call t line (own_suffice t h) opened (λ _. z h)
      (record { answered = f.answered; mark = f.mark; unfit = f.unfit; untouched = λ q. absurd (none-some _ (sym q ∙ g)) })
      g lc le ls lk in
      rw (own_answer t (length o) line h)
      (record {
        reply = own.reply;
        written = own.written;
        output = own.output;
        fits = own.fits;
        held = own.held;
        unperformed = inl (sym own.reply);
        untouched = inl (sym own.reply);
        room = own.room;
        sound = sound_here back_tables own.sound;
        lengths = own.lengths;
        behind = own.behind;
      })

  -- by whether the answer line fits
  module _ (lc : length c₁ ≡ length (take table_words t.core)) (le : length e₁ ≡ length (take table_words t.theory))
      (ls : length s₁ ≡ length (take table_words t.solver)) (lk : length k₁ ≡ length t.kept) where
    by_place : (x : Option ℕ) → d ≡ x → AnswersHeld line t o (ok_or x Given.TheVariants.Full) back_tables o₁
    by_place (Some n) g = answered_call g lc le ls lk
    by_place None g = full_call g lk

    pub line_called : {r : Result ℕ Given.LineError} → r ≡ ok_or d Given.TheVariants.Full →
        AnswersHeld line t o r back_tables o₁
    line_called q = rw q (by_place d refl)

-- ---- by numbers

module _ {t t' : Tables} {r : Result (Unit {0}) Given.LineError} (o : Opens t r t') where
  pub opened_by : r ≡ Ok tt → OpensBy t 0 t'
  unfolding reply_number reply_meaning
  opened_by e = record { opened = r; opens = o; number = rw e }

  pub refused_by : {n : ℕ} {e : Given.LineError} → r ≡ Err e → n ≡ reply_number (error_meaning e) → OpensBy t n t'
  unfolding reply_meaning
  refused_by e q = record { opened = r; opens = o; number = rw e q }

module _ {line : List ℕ} {t t' : Tables} {o o' : List ℕ} {r : Result ℕ Given.LineError} (a : AnswersHeld line t o r t' o') where
  pub answered_here : {n : ℕ} → r ≡ Ok n → Replies line t o 0 n t' o'
  unfolding reply_number reply_meaning
  answered_here e = record { replied = r; answers = a; number = rw e; written = rw e }

  pub unanswered_here : {n : ℕ} {e : Given.LineError} → r ≡ Err e → n ≡ reply_number (error_meaning e) → Replies line t o n 0 t' o'
  unfolding reply_meaning
  unanswered_here e q = record { replied = r; answers = a; number = rw e q; written = rw e }
