-- A session kept open: words copied, what the fourth table holds, an opened session, a line, and what a call promises.
use Rattle.std.specs.Prelude.{Option, None, Some, Result, Ok, Err}
use Rattle.std.specs.Option.{ok_or}
use Rattle.std.proofs.lemmas.Option.{none-some}
use Rattle.shinri_core.proofs.Kit.{ℕ, ◌≤◌, ◌<◌, ◌≡◌, refl, sym, ap, subst⁻¹, ◌∙◌, inl, inr, Bool, true, false, false≢true, ◌&&◌, eqb, leb, List, ◌++◌, arith, le-leb, lt-leb, eq-eqb, ne_eqb, length, get_or, take, drop, set, length-set, get_or-set_same, get_or-set_other, length-map, length-take-le, length-drop, get_or-take, not}
use lib.ListN.{get_or-map, take-append-drop}
use lib.Seq.{take_at, drop_at, length_front}
use mir.Val.{bool_byte}
use borrow.Rule.Slice.PartMut.{put_mid, take_put}
use borrow.Author.Tests.{leb-true}
use Rattle.shinri_core.specs.Limits.{table_words, max_levels}
use Rattle.session.specs.Session as Session
use Rattle.session.specs.Session.{Performed, step}
use Rattle.session.specs.Run.{answer_line, zeros}
use Rattle.session.specs.Kept.{Reply, Done, ShortTable, Full, NotOpen, Replied, unanswered, answer_held, answer_in, reply_number, error_meaning, reply_meaning, Opens, OpensBy, Answered, AnswersHeld, Replies, Closes}
use Rattle.session.specs.Memory.Answers.{longest_answer}
use Rattle.session.specs.Memory.Sessions.{Beside, beside, session}
use Rattle.session.specs.Memory.Running.{EmptyTables, Answerable, AnsweredBy, Zeroed}
use Rattle.session.specs.Memory.Kept.{Tables, tables, SameLengths, SameBehind, MARK, CLOSED, COUNTS, kept_words, open_mark, is_open, close_accepted, mark_counts, Closed, Open, suffice, part, beside_in, session_in, held, KeptSound, Exact, Tried, Holding, Keeps, TriedOpen, AnswersOpen}
use Rattle.session.specs.declared.kept.LineError as Given
use Rattle.session.proofs.Memory.Running.{empty_is, empty_answerable, written_front, puts_as}

-- ---- tables that are long enough

pub record Suffices (t : Tables) : Type 0 where
  pub core : table_words ≤ length t.core
  pub theory : table_words ≤ length t.theory
  pub solver : table_words ≤ length t.solver
  pub kept : kept_words ≤ length t.kept

-- all of four tests
all_four : (a b c d : Bool) → a && b && c && d ≡ true → (a ≡ true) × (b ≡ true) × (c ≡ true) × (d ≡ true)
all_four true true true true e = (refl, refl, refl, refl)
all_four true true true false e = absurd (false≢true e)
all_four true true false d e = absurd (false≢true e)
all_four true false c d e = absurd (false≢true e)
all_four false b c d e = absurd (false≢true e)

pub suffices : {t : Tables} → suffice t ≡ true → Suffices t
unfolding suffice
suffices {t} e =
    let a = leb table_words (length t.core) in
    let b = leb table_words (length t.theory) in
    let c = leb table_words (length t.solver) in
    let all = all_four a b c (leb kept_words (length t.kept)) e in
    record {
      core = leb-true table_words (length t.core) all.0;
      theory = leb-true table_words (length t.theory) all.1;
      solver = leb-true table_words (length t.solver) all.2;
      kept = leb-true kept_words (length t.kept) all.3;
    }

-- ---- closed

zero_word : (k : List ℕ) (i : ℕ) → get_or (zeros k) i 0 ≡ 0
unfolding zeros
zero_word k i = get_or-map (λ (w : ℕ). 0) k i 0

zeros_closed : (k : List ℕ) → is_open (zeros k) ≡ false
unfolding is_open
zeros_closed k = rw (zero_word k MARK)

closed_held : (t : Tables) → is_open t.kept ≡ false → held t ≡ Closed
unfolding held
closed_held t e = rw e

pub closes : {c e s k c' e' s' k' : List ℕ} → Zeroed c e s c' e' s' → k' ≡ zeros k → Closes (tables c e s k) (tables c' e' s' k')
closes {k = k} {c'} {e'} {s'} {k'} z q =
    let closed : is_open k' ≡ false = ap is_open q ∙ zeros_closed k in
    record {
      core = z.core;
      theory = z.theory;
      solver = z.solver;
      kept = q;
      closed = closed_held (tables c' e' s' k') closed;
      sound = λ l o. absurd (false≢true (sym closed ∙ o));
    }

-- ---- the parts of tables that a session uses

pub part_long : (t : List ℕ) → table_words ≤ length t → table_words ≡ length (take table_words t)
part_long t l = sym (length-take-le table_words t l)

pub part_least : (t : List ℕ) → table_words ≤ length t → table_words ≤ length (take table_words t)
part_least t l = let e = part_long t l in omega arith

-- a part that came back as y
part_front : {y : List ℕ} (t : List ℕ) → table_words ≤ length t → length y ≡ length (take table_words t) →
    part (y ++ drop table_words t) ≡ y
part_front {y} t l q = take_at y (drop table_words t) table_words (q ∙ length-take-le table_words t l)

module _ (t : Tables) {c e s : List ℕ} {b : Bool} (p : part t.core ≡ c) (q : part t.theory ≡ e) (r : part t.solver ≡ s)
    (f : close_accepted t.kept ≡ b) where
  session_parts : session_in t ≡ session c e s (beside e (mark_counts t.kept) b)
  unfolding session_in
  session_parts = rw (p, q, r, f)

  answerable_parts : Answerable c e s (beside e (mark_counts t.kept) b) →
      Answerable (part t.core) (part t.theory) (part t.solver) (beside_in t)
  answerable_parts a = rw (p, q, r, f) a

held_open : (t : Tables) {x : Session.Session} → is_open t.kept ≡ true → session_in t ≡ x → held t ≡ Open x
unfolding held
held_open t o e = rw (o, e)

-- ---- an opened session

zeros_length : (k : List ℕ) → length (zeros k) ≡ length k
unfolding zeros
zeros_length k = length-map k (λ (w : ℕ). 0)

marked : (k : List ℕ) → kept_words ≤ length k → is_open (set (zeros k) MARK open_mark) ≡ true
unfolding is_open
marked k l = let same = zeros_length k in rw (get_or-set_same (zeros k) MARK open_mark 0 (omega arith))

unclosed : (k : List ℕ) → close_accepted (set (zeros k) MARK open_mark) ≡ false
unfolding close_accepted
unclosed k = rw (get_or-set_other (zeros k) MARK CLOSED open_mark 0 (omega arith), zero_word k CLOSED)

pub all_same : (t : Tables) → SameLengths t t
all_same t = record { core = refl; theory = refl; solver = refl; kept = refl }

pub same_behind : (t : Tables) → SameBehind t t
same_behind t = record { core = refl; theory = refl; solver = refl }

pub refused : (t : Tables) → false ≡ suffice t → Opens t (Err Given.TheVariants.ShortTable) t
refused t h = record {
  told = rw (sym h);
  opened = λ q. absurd (false≢true (h ∙ q));
  untouched = λ q. refl;
  sound = λ l. absurd (false≢true (h ∙ l));
  lengths = all_same t;
  behind = same_behind t;
}

-- the work tables' parts came back as these
module _ (t : Tables) (c₁ e₁ s₁ : List ℕ) (h : suffice t ≡ true) (lc : length c₁ ≡ length (take table_words t.core))
    (le : length e₁ ≡ length (take table_words t.theory)) (ls : length s₁ ≡ length (take table_words t.solver)) where
  abbrev back : List ℕ → Tables
  back k =
      tables (c₁ ++ drop table_words t.core) (e₁ ++ drop table_words t.theory) (s₁ ++ drop table_words t.solver) k

  core_part : part (c₁ ++ drop table_words t.core) ≡ c₁
  core_part = part_front t.core (suffices h).core lc

  theory_part : part (e₁ ++ drop table_words t.theory) ≡ e₁
  theory_part = part_front t.theory (suffices h).theory le

  solver_part : part (s₁ ++ drop table_words t.solver) ≡ s₁
  solver_part = part_front t.solver (suffices h).solver ls

  back_lengths : (k : List ℕ) → length k ≡ length t.kept → SameLengths t (back k)
  back_lengths k l = record {
    core = length_front t.core c₁ table_words lc;
    theory = length_front t.theory e₁ table_words le;
    solver = length_front t.solver s₁ table_words ls;
    kept = l;
  }

  back_behind : (k : List ℕ) → SameBehind t (back k)
  back_behind k = record {
    core = drop_at c₁ (drop table_words t.core) table_words (lc ∙ length-take-le table_words t.core (suffices h).core);
    theory = drop_at e₁ (drop table_words t.theory) table_words (le ∙ length-take-le table_words t.theory (suffices h).theory);
    solver = drop_at s₁ (drop table_words t.solver) table_words (ls ∙ length-take-le table_words t.solver (suffices h).solver);
  }

  back_held : (k : List ℕ) {b : Bool} {x : Session.Session} → is_open k ≡ true → close_accepted k ≡ b →
      session c₁ e₁ s₁ (beside e₁ (mark_counts k) b) ≡ x → held (back k) ≡ Open x
  back_held k o f e = held_open (back k) o (session_parts (back k) core_part theory_part solver_part f ∙ e)

  back_sound : (k : List ℕ) {b : Bool} → close_accepted k ≡ b → Answerable c₁ e₁ s₁ (beside e₁ (mark_counts k) b) → KeptSound (back k)
  back_sound k f a = λ l o. answerable_parts (back k) core_part theory_part solver_part f a

-- an empty session
pub opens : (t : Tables) {c₁ e₁ s₁ k₁ : List ℕ} → suffice t ≡ true → EmptyTables c₁ e₁ s₁ → k₁ ≡ zeros t.kept →
    length c₁ ≡ length (take table_words t.core) → length e₁ ≡ length (take table_words t.theory) →
    length s₁ ≡ length (take table_words t.solver) →
    Opens t (Ok tt) (tables (c₁ ++ drop table_words t.core) (e₁ ++ drop table_words t.theory) (s₁ ++ drop table_words t.solver)
    (set k₁ MARK open_mark))
opens t {c₁} {e₁} {s₁} h z q lc le ls =
    let k = set (zeros t.kept) MARK open_mark in
    let no_close = unclosed t.kept in
    rw q record {
      told = rw h;
      opened = λ _. back_held t c₁ e₁ s₁ h lc le ls k (marked t.kept (suffices h).kept) no_close (sym (empty_is (mark_counts k) z));
      untouched = λ f. absurd (false≢true (sym f ∙ h));
      sound = back_sound t c₁ e₁ s₁ h lc le ls k no_close (empty_answerable (mark_counts k) z);
      lengths = back_lengths t c₁ e₁ s₁ h lc le ls k (length-set (zeros t.kept) MARK open_mark ∙ zeros_length t.kept);
      behind = back_behind t c₁ e₁ s₁ h lc le ls k;
    }

-- ---- what a session keeps beside the work tables

flag_bool : (b : Bool) → not (eqb (bool_byte b) 0) ≡ b
flag_bool true = refl
flag_bool false = refl

module _ (k x : List ℕ) (l : kept_words ≤ length k) where
  -- the first two words are those before
  front_word : (i : ℕ) → i < COUNTS → get_or (put_mid COUNTS max_levels k x) i 0 ≡ get_or k i 0
  front_word i h =
      sym (get_or-take COUNTS (put_mid COUNTS max_levels k x) i 0 h)
      ∙ ap (λ (u : List ℕ). get_or u i 0) (take_put COUNTS max_levels k x (omega arith)) ∙ get_or-take COUNTS k i 0 h

  counts_put : length x ≡ max_levels → mark_counts (put_mid COUNTS max_levels k x) ≡ x
  unfolding mark_counts
  counts_put n =
      let rest = drop max_levels (drop COUNTS k) in
      ap (take max_levels) (drop_at (take COUNTS k) (x ++ rest) COUNTS (length-take-le COUNTS k (omega arith)))
      ∙ take_at x rest max_levels n

-- as many as were there
counts_many : (k : List ℕ) → kept_words ≤ length k → length (take max_levels (drop COUNTS k)) ≡ max_levels
counts_many k l = length-take-le max_levels (drop COUNTS k) (rw length-drop (omega arith))

pub keeps : (k : List ℕ) (b : Bool) {n x : List ℕ} → kept_words ≤ length k → x ≡ n →
    length x ≡ length (take max_levels (drop COUNTS (set k CLOSED (bool_byte b)))) →
    Keeps k n b (put_mid COUNTS max_levels (set k CLOSED (bool_byte b)) x)
unfolding close_accepted is_open
keeps k b {n} {x} l q e =
    let k₁ = set k CLOSED (bool_byte b) in
    let same = length-set k CLOSED (bool_byte b) in
    let long : kept_words ≤ length k₁ = omega arith in
    record {
      counts = counts_put k₁ x long (e ∙ counts_many k₁ long) ∙ q;
      closed = rw (front_word k₁ x long CLOSED (omega arith), get_or-set_same k CLOSED (bool_byte b) 0 (omega arith)) (flag_bool b);
      mark = rw (front_word k₁ x long MARK (omega arith), get_or-set_other k CLOSED MARK (bool_byte b) 0 (omega arith));
    }

-- ---- a line of an open session

-- tables that hold the same
pub aside_asks : {c e s c₂ e₂ s₂ n : List ℕ} {b : Bool} → c₂ ≡ c → e₂ ≡ e → s₂ ≡ s → Answerable c e s (beside e n b) →
    Answerable c₂ e₂ s₂ (beside e₂ n b)
aside_asks p q r a = rw (p, q, r) a

-- on copies: the step that they were answered by is the tables' own
module _ {p p₂ : Performed} {d : Option ℕ} {c e s c₃ e₃ s₃ n₃ : List ℕ} {b₃ : Bool} {o o₃ : List ℕ}
    (f : AnsweredBy p₂ d c₃ e₃ s₃ (beside e₃ n₃ b₃) o 0 o₃) (own : p₂ ≡ p) where
  pub aside_full : {m : Beside} → d ≡ None → Tried p None c e s c e s m o o₃
  aside_full g =
      let put = puts_as o 0 (answer_line p₂) o₃ g f.line in
      let longer = put.1 in
      let short = f.short in
      let same = ap (λ (x : Performed). length (answer_line x)) own in
      record {
        answered = λ n q. absurd (none-some _ q);
        unfit = λ _. record { core = refl; theory = refl; solver = refl; output = put.0; long = omega arith; few = omega arith };
      }

  pub aside_done : {k : ℕ} {c₄ e₄ s₄ : List ℕ} → d ≡ Some k → c₄ ≡ c₃ → e₄ ≡ e₃ → s₄ ≡ s₃ →
      Tried p (Some k) c e s c₄ e₄ s₄ (beside e₄ n₃ b₃) o o₃
  aside_done g x y z = record {
    answered = λ n q. rw (x, y, z, sym q, sym g, sym own) f;
    unfit = λ q. absurd (none-some _ (sym q));
  }

-- an output that holds any answer line
pub tried_direct : {p : Performed} {d : Option ℕ} {c e s c₁ e₁ s₁ : List ℕ} {m : Beside} {o o₁ : List ℕ} →
    AnsweredBy p d c₁ e₁ s₁ m o 0 o₁ → longest_answer ≤ length o → Tried p d c e s c₁ e₁ s₁ m o o₁
tried_direct {p} {o = o} {o₁} a l = record {
  answered = λ n q. rw (sym q) a;
  unfit = λ q.
      let longer = (puts_as o 0 (answer_line p) o₁ q a.line).1 in
      let short = a.short in
      absurd (omega arith);
}

-- what the fourth table keeps is what the line works on
pub open_asks : {c e s k n : List ℕ} → n ≡ take max_levels (drop COUNTS k) → Holding c e s k →
    Answerable c e s (beside e n (not (eqb (get_or k CLOSED 0) 0))) × Exact c e s
unfolding mark_counts close_accepted
open_asks q h = (rw q h.answerable, h.exact)

module _ {p p₁ : Performed} {d : Option ℕ} {c e s k c₁ e₁ s₁ n₁ : List ℕ} {b₁ : Bool} {o o₁ : List ℕ}
    (f : Tried p₁ d c e s c₁ e₁ s₁ (beside e₁ n₁ b₁) o o₁) (own : p₁ ≡ p) where
  pub open_full : d ≡ None → TriedOpen p None c e s k c₁ e₁ s₁ k o o₁
  open_full g = record {
    answered = λ n q. absurd (none-some _ q);
    mark = refl;
    unfit = λ q. rw (sym own) (f.unfit g);
    untouched = λ q. refl;
  }

  pub open_done : {i : ℕ} {k₁ : List ℕ} → d ≡ Some i → Keeps k n₁ b₁ k₁ →
      TriedOpen p (Some i) c e s k c₁ e₁ s₁ k₁ o o₁
  open_done g z = record {
    answered = λ n q. rw (sym own, z.counts, z.closed) (f.answered n (g ∙ q));
    mark = z.mark;
    unfit = λ q. absurd (none-some _ (sym q));
    untouched = λ q. absurd (none-some _ (sym q));
  }

-- ---- a call

abbrev pub is_full : Reply → Type 0
is_full Done = ⊥
is_full ShortTable = ⊥
is_full Full = Unit {0}
is_full NotOpen = ⊥

-- a line that is not answered
pub not_answered : {d : Replied} (t : Tables) (o : List ℕ) (g : Given.LineError) → d ≡ unanswered (error_meaning g) (held t) →
    (longest_answer ≤ length o → is_full (error_meaning g) → ⊥) → KeptSound t →
    Answered d t o (Err g) t o
unfolding unanswered reply_meaning
not_answered t o g e other z = record {
  reply = rw e;
  written = rw e;
  output = rw e;
  fits = rw e (omega arith);
  held = rw e;
  untouched = inr refl;
  room = λ l. rw e (λ q. other l (subst⁻¹ is_full q tt));
  sound = z;
  lengths = all_same t;
  behind = same_behind t;
}

-- no session is open on the tables, or they are too short
pub not_open : {d : Replied} (t : Tables) (o : List ℕ) → d ≡ unanswered (error_meaning Given.TheVariants.NotOpen) (held t) → KeptSound t →
    Answered d t o (Err Given.TheVariants.NotOpen) t o
unfolding error_meaning
not_open t o e z = not_answered t o Given.TheVariants.NotOpen e (λ l f. f) z

pub too_short : {d : Replied} (t : Tables) (o : List ℕ) → d ≡ unanswered (error_meaning Given.TheVariants.ShortTable) (held t) →
    KeptSound t → Answered d t o (Err Given.TheVariants.ShortTable) t o
unfolding error_meaning
too_short t o e z = not_answered t o Given.TheVariants.ShortTable e (λ l f. f) z

module _ (t : Tables) (room : ℕ) (line : List ℕ) where
  pub call_short : false ≡ suffice t → answer_in t room line ≡ unanswered (error_meaning Given.TheVariants.ShortTable) (held t)
  unfolding answer_in error_meaning
  call_short h = rw (sym h)

  module _ (h : suffice t ≡ true) where
    pub call_closed : is_open t.kept ≡ false → answer_in t room line ≡ unanswered (error_meaning Given.TheVariants.NotOpen) (held t)
    unfolding answer_in answer_held held error_meaning
    call_closed o = rw (h, o)

    module _ (o : is_open t.kept ≡ true) where
      pub call_full : room < length (answer_line (step (session_in t) line)) →
          answer_in t room line ≡ unanswered (error_meaning Given.TheVariants.Full) (held t)
      unfolding answer_in answer_held held error_meaning
      call_full l = rw (h, o, lt-leb (length (answer_line (step (session_in t) line))) room l)

      call_done : length (answer_line (step (session_in t) line)) ≤ room →
          answer_in t room line
          ≡ record { reply = Done; written = answer_line (step (session_in t) line); held = Open (step (session_in t) line).session }
      unfolding answer_in answer_held held
      call_done l = rw (h, o, le-leb (length (answer_line (step (session_in t) line))) room l)

pub marked_open : (k : List ℕ) → get_or k MARK 0 ≡ open_mark → is_open k ≡ true
unfolding is_open
marked_open k e = eq-eqb (get_or k MARK 0) open_mark e

pub not_marked : (k : List ℕ) → (get_or k MARK 0 ≡ open_mark → ⊥) → is_open k ≡ false
unfolding is_open
not_marked k h = ne_eqb (get_or k MARK 0) open_mark h

-- the parts that a session uses hold it
pub holding : (t : Tables) → suffice t ≡ true → is_open t.kept ≡ true → KeptSound t →
    Holding (take table_words t.core) (take table_words t.theory) (take table_words t.solver) t.kept
holding t h o z =
    let long = suffices h in
    record {
      answerable = z h o;
      exact =
          record {
            core = length-take-le table_words t.core long.core;
            theory = length-take-le table_words t.theory long.theory;
            solver = length-take-le table_words t.solver long.solver;
          };
      long = long.kept;
    }

-- the line was tried on these parts
module _ (t : Tables) (line : List ℕ) {d : Option ℕ} {c₁ e₁ s₁ k₁ o o₁ : List ℕ} (h : suffice t ≡ true)
    (opened : is_open t.kept ≡ true) (z : KeptSound t)
    (f : AnswersOpen line (take table_words t.core) (take table_words t.theory) (take table_words t.solver) t.kept d
    c₁ e₁ s₁ k₁ o o₁) where
  abbrev back_tables : Tables
  back_tables =
      tables (c₁ ++ drop table_words t.core) (e₁ ++ drop table_words t.theory) (s₁ ++ drop table_words t.solver) k₁

  full_call : d ≡ None →
      Answered (answer_in t (length o) line) t o (Err Given.TheVariants.Full) back_tables o₁
  unfolding session_in
  full_call g =
      let w = f.unfit g in
      let same : back_tables ≡ t =
      rw (
        w.core,
        w.theory,
        w.solver,
        f.untouched g,
        take-append-drop table_words t.core,
        take-append-drop table_words t.theory,
        take-append-drop table_words t.solver,
      ) in
      let few = w.few in
      rw (same, w.output)
      (not_answered t o Given.TheVariants.Full (call_full t (length o) line h opened w.long) (λ l f. absurd (omega arith)) z)

  pub done_call : {n : ℕ} → d ≡ Some n → length c₁ ≡ length (take table_words t.core) →
      length e₁ ≡ length (take table_words t.theory) → length s₁ ≡ length (take table_words t.solver) →
      length k₁ ≡ length t.kept →
      Answered (answer_in t (length o) line) t o (Ok n) back_tables o₁
  unfolding session_in reply_meaning
  done_call {n} g lc le ls lk =
      let a = f.answered n g in
      let ends = a.line.ends in
      let within = a.line.within in
      let d_is = call_done t (length o) line h opened (omega arith) in
      record {
        reply = rw d_is;
        written = rw d_is (omega arith);
        output = rw d_is (written_front a.line);
        fits = rw d_is (omega arith);
        held = rw d_is (back_held t c₁ e₁ s₁ h lc le ls k₁ (f.mark ∙ opened) refl (sym a.after));
        untouched = inl (rw d_is);
        room = λ l. rw d_is (λ q. subst⁻¹ is_full q tt);
        sound = back_sound t c₁ e₁ s₁ h lc le ls k₁ refl a.answerable;
        lengths = back_lengths t c₁ e₁ s₁ h lc le ls k₁ lk;
        behind = back_behind t c₁ e₁ s₁ h lc le ls k₁;
      }

  -- by whether the answer line fits
  module _ (lc : length c₁ ≡ length (take table_words t.core)) (le : length e₁ ≡ length (take table_words t.theory))
      (ls : length s₁ ≡ length (take table_words t.solver)) (lk : length k₁ ≡ length t.kept) where
    by_place : (x : Option ℕ) → d ≡ x →
        Answered (answer_in t (length o) line) t o (ok_or x Given.TheVariants.Full) back_tables o₁
    by_place (Some n) g = done_call g lc le ls lk
    by_place None g = full_call g

    pub line_called : {r : Result ℕ Given.LineError} → r ≡ ok_or d Given.TheVariants.Full →
        Answered (answer_in t (length o) line) t o r back_tables o₁
    line_called q = rw q (by_place d refl)

-- ---- by numbers

module _ {t t' : Tables} {r : Result (Unit {0}) Given.LineError} (o : Opens t r t') where
  pub opened_by : r ≡ Ok tt → OpensBy t 0 t'
  unfolding reply_number reply_meaning
  opened_by e = record { opened = r; opens = o; number = rw e }

  pub refused_by : {n : ℕ} {e : Given.LineError} → r ≡ Err e → n ≡ reply_number (error_meaning e) → OpensBy t n t'
  unfolding reply_meaning
  refused_by e q = record { opened = r; opens = o; number = rw e q }

module _ {line : List ℕ} {t t' : Tables} {o o' : List ℕ} {r : Result ℕ Given.LineError} (a : AnswersHeld line t o r t' o') where
  pub answered_by : {n : ℕ} → r ≡ Ok n → Replies line t o 0 n t' o'
  unfolding reply_number reply_meaning
  answered_by e = record { replied = r; answers = a; number = rw e; written = rw e }

  pub unanswered_by : {n : ℕ} {e : Given.LineError} → r ≡ Err e → n ≡ reply_number (error_meaning e) → Replies line t o n 0 t' o'
  unfolding reply_meaning
  unanswered_by e q = record { replied = r; answers = a; number = rw e q; written = rw e }
