-- Session's theorems about calls one after another hold where the room for a call is lent: a call that is answered is one of session's, also
-- on tables that hold the same session with other words in that room; and a call that is not answered leaves what the tables hold.
use Rattle.std.specs.Prelude.{Result, Ok, Err}
use Rattle.shinri_core.proofs.Kit.{ℕ, suc, ◌+◌, ◌≤◌, ◌≡◌, refl, sym, ap, subst, ◌∙◌, ◌⊎◌, inl, inr, Bool, true, false, cond, List, [], ◌∷◌, ◌++◌, arith, eqb, eqb-true, eqb-false, length, take, drop}
use mathlib.Core.Logic.{◌≢◌}
use Rattle.shinri_core.specs.Limits.{table_words}
use Rattle.session.specs.Kept as Own
use Rattle.session.specs.Kept.{Reply, Done, ShortTable, Full, NotOpen, Replied, reply_number, error_meaning, reply_meaning, Closes, Call, Sent, Stopped, GoesOn}
use Rattle.session.specs.Memory.Kept as OwnTables
use Rattle.session.specs.Memory.Kept.{Tables, SameLengths, Held, Closed, Open, is_open, close_accepted, mark_counts, part, session_in, held}
use Rattle.session.specs.Memory.Sessions.{beside, session}
use Rattle.session.specs.declared.kept.LineError.{LineError}
use Rattle.session.specs.declared.kept.LineError.TheVariants as Given
use Rattle.session.proofs.KeptRuns as OwnRuns
use Rattle.session.proofs.Memory.Running.{zeros_same}
use Rattle.session.proofs.Memory.Keeping.{all_same}
use Rattle.kept.specs.Memory.Kept.{SameSession, kept_words, suffice, KeptSound}
use Rattle.kept.specs.Kept.{answer_in, OpensBy, Answered, Replies, Calls, Sends, KeptRuns, Row, KeptHolds}
use Rattle.kept.proofs.Memory.Keeping.{same_mark, same_closed, same_counts, kept_long, own_suffice, as_own, all_long, own_answer, same_session}

-- ---- tables that hold the same session

lengths_on : {t u v : Tables} → SameLengths t u → SameLengths u v → SameLengths t v
lengths_on a b = record {
  core = b.core ∙ a.core;
  theory = b.theory ∙ a.theory;
  solver = b.solver ∙ a.solver;
  kept = b.kept ∙ a.kept;
}

lengths_back : {t u : Tables} → SameLengths t u → SameLengths u t
lengths_back a = record { core = sym a.core; theory = sym a.theory; solver = sym a.solver; kept = sym a.kept }

still_suffice : (t u : Tables) → SameLengths t u → suffice t ≡ true → suffice u ≡ true
unfolding suffice OwnTables.suffice
still_suffice t u l h = rw (l.core, l.theory, l.solver, l.kept) h

pub record Same (t u : Tables) : Type 0 where
  pub long : suffice t ≡ true
  pub session : SameSession t u
  pub lengths : SameLengths t u

itself : (t : Tables) → suffice t ≡ true → Same t t
itself t h = record { long = h; session = same_session t; lengths = all_same t }

-- what tables hold, by what it comes from
hold : (c e s n : List ℕ) → Bool → Bool → Held
hold c e s n closed opened = cond opened (Open (session (part c) (part e) (part s) (beside (part e) n closed))) Closed

held_is : (t : Tables) → held t ≡ hold t.core t.theory t.solver (mark_counts t.kept) (close_accepted t.kept) (is_open t.kept)
unfolding held session_in hold
held_is t = refl

module _ (t u : Tables) (same : Same t u) where
  same_held : held u ≡ held t
  same_held =
      let x = same.session in
      let work :
      hold u.core u.theory u.solver (mark_counts u.kept) (close_accepted u.kept) (is_open u.kept)
      ≡ hold t.core t.theory t.solver (mark_counts t.kept) (close_accepted t.kept) (is_open t.kept) =
      rw (
        x.core,
        x.theory,
        x.solver,
        same_mark t.kept u.kept x.kept,
        same_closed t.kept u.kept x.kept,
        same_counts t.kept u.kept x.kept (kept_long t same.long) same.lengths.kept,
      ) in
      held_is u ∙ work ∙ sym (held_is t)

  long_too : suffice u ≡ true
  long_too = still_suffice t u same.lengths same.long

  same_answer : (room : ℕ) (line : List ℕ) → answer_in u room line ≡ Own.answer_in t room line
  unfolding Own.answer_in
  same_answer room line = own_answer u room line long_too ∙ rw (own_suffice u long_too, own_suffice t same.long, same_held)

-- ---- a call

is_done : (r : Reply) → reply_number r ≡ 0 → r ≡ Done
unfolding reply_number
is_done Done e = refl
is_done ShortTable e = absurd (omega (arith, e))
is_done Full e = absurd (omega (arith, e))
is_done NotOpen e = absurd (omega (arith, e))

module _ {l o : List ℕ} {n w : ℕ} {t u v : Tables} {o₁ : List ℕ} (same : Same t u) (r : Replies l u o n w v o₁) where
  abbrev d : Replied
  d = Own.answer_in t (length o) l

  as_answered : Answered d u o r.replied v o₁
  as_answered = subst (λ (x : Replied). Answered x u o r.replied v o₁) (same_answer t u same (length o) l) r.answers

  number_is : reply_number d.reply ≡ n
  number_is = ap reply_number (sym as_answered.reply) ∙ sym r.number

  on_lengths : SameLengths t v
  on_lengths = lengths_on same.lengths r.answers.lengths

  -- its line was answered
  own_done : n ≡ 0 → Own.Replies l t o n w v o₁
  own_done z =
      let a = as_answered in record {
        replied = r.replied;
        answers =
            record {
              reply = a.reply;
              written = a.written;
              output = a.output;
              fits = a.fits;
              held = a.held;
              untouched = inl (is_done d.reply (number_is ∙ z));
              room = a.room;
              sound = λ h o. a.sound (still_suffice t v on_lengths same.long) o;
              lengths = on_lengths;
              behind =
                  record {
                    core = a.behind.core ∙ ap (drop table_words) same.session.core;
                    theory = a.behind.theory ∙ ap (drop table_words) same.session.theory;
                    solver = a.behind.solver ∙ ap (drop table_words) same.session.solver;
                  };
            };
        number = r.number;
        written = r.written;
      }

  -- it was not
  same_on : n ≢ 0 → Same t v
  unfolding reply_number
  same_on z = record { long = same.long; session = go as_answered.unperformed; lengths = on_lengths }
    where
      go : (d.reply ≡ Done) ⊎ SameSession u v → SameSession t v
      go (inl e) = absurd (z (sym number_is ∙ ap reply_number e))
      go (inr x) =
          let y = same.session in
          record { core = x.core ∙ y.core; theory = x.theory ∙ y.theory; solver = x.solver ∙ y.solver; kept = x.kept ∙ y.kept }

-- a call that was not answered is one of session's that leaves the tables alone
own_refused : {l o : List ℕ} {n w : ℕ} {t v : Tables} {o₁ : List ℕ} → suffice t ≡ true → KeptSound t → Replies l t o n w v o₁ → n ≢ 0 →
    Own.Replies l t o n w t o₁
own_refused {t = t} {v} h k r z =
    let same = itself t h in
    let a = as_answered same r in record {
      replied = r.replied;
      answers =
          record {
            reply = a.reply;
            written = a.written;
            output = a.output;
            fits = a.fits;
            held = sym (same_held t v (same_on same r z)) ∙ a.held;
            untouched = inr refl;
            room = a.room;
            sound = λ _. k h;
            lengths = all_same t;
            behind = record { core = refl; theory = refl; solver = refl };
          };
      number = r.number;
      written = r.written;
    }

-- ---- calls one after another

own_calls : (ls : List (List ℕ)) (t t' : Tables) (o o' : List ℕ) (z : Sent) → suffice t ≡ true → KeptSound t → Calls ls t o z t' o' →
    (u : Tables) × SameLengths u t' × Own.Calls ls t o z u o'
own_calls [] t t' o o' z h k w = (t', all_same t', w)
own_calls (l ∷ ls) t t' o o' z h k (c, r, inl x) =
    let left : Call = record { number = c.number; written = c.written; tables = t; output = c.output } in
    let stop : Stopped left z t o' = record { unanswered = x.unanswered; sent = x.sent; tables = refl; output = x.output } in
    (t, rw x.tables r.answers.lengths, (left, own_refused h k r x.unanswered, inl stop))
own_calls (l ∷ ls) t t' o o' z h k (c, r, inr (rest, o₂, g, more)) =
    let on =
    own_calls ls c.tables t' (drop c.written c.output) o₂ rest (still_suffice t c.tables r.answers.lengths h) r.answers.sound more in
    (on.0, on.1, (c, own_done (itself t h) r g.done, inr (rest, o₂, g, on.2)))

-- calls with outputs of their own; those that were not answered are left out
own_row : (calls : List (List ℕ × List ℕ)) (t u u' : Tables) (ls : List (List ℕ)) (bytes : List ℕ) → Same t u →
    Row calls u ls bytes u' → (answered : List (List ℕ × List ℕ)) × (t' : Tables) × Own.Row answered t ls bytes t'
own_row [] t u u' ls bytes same (p, b, e) = ([], t, (p, b, refl))
own_row ((l, o) ∷ calls) t u u' ls bytes same (c, r, inl (n, (ls₁, bytes₁, more, p, b))) =
    let long = still_suffice t c.tables (on_lengths same r) same.long in
    let on = own_row calls c.tables c.tables u' ls₁ bytes₁ (itself c.tables long) more in
    ((l, o) ∷ on.0, on.1, (c, own_done same r n, inl (n, (ls₁, bytes₁, on.2, p, b))))
own_row ((l, o) ∷ calls) t u u' ls bytes same (c, r, inr (n, more)) =
    own_row calls t c.tables u' ls bytes (same_on same r n) more

-- ---- opened and closed

own_opens : {t t' : Tables} {n : ℕ} → kept_words ≤ length t.kept → OpensBy t n t' → Own.OpensBy t n t'
own_opens {t} {t'} l w =
    let same = as_own t l in
    let x = w.opens in record {
      opened = w.opened;
      opens =
          record {
            told = rw (sym same) x.told;
            opened = λ h. x.opened (same ∙ h);
            untouched = λ h. x.untouched (same ∙ h);
            sound = λ h. let lengths = x.lengths in let long = lengths.kept in x.sound (all_long t' (omega arith) h);
            lengths = x.lengths;
            behind = x.behind;
          };
      number = w.number;
    }

module _ {t opened : Tables} (w : OpensBy t 0 opened) where
  long_tables : suffice t ≡ true
  unfolding reply_number reply_meaning error_meaning
  long_tables = go (suffice t) w.opens.told
    where
      go : (b : Bool) → w.opened ≡ cond b (Ok tt) (Err Given.ShortTable) → b ≡ true
      go true e = refl
      go false e =
          let no = w.number ∙ ap (λ (r : Result (Unit {0}) LineError). reply_number (reply_meaning r)) e in
          absurd (omega arith)

  opened_long : suffice opened ≡ true
  opened_long = still_suffice t opened w.opens.lengths long_tables

own_closes : {t u v : Tables} → SameLengths u t → Closes t v → Closes u v
own_closes {t} {u} same x = record {
  core = x.core ∙ zeros_same t.core u.core same.core;
  theory = x.theory ∙ zeros_same t.theory u.theory same.theory;
  solver = x.solver ∙ zeros_same t.solver u.solver same.solver;
  kept = x.kept ∙ zeros_same t.kept u.kept same.kept;
  closed = x.closed;
  sound = x.sound;
}

own_sends : {ls : List (List ℕ)} {t t' : Tables} {o o' : List ℕ} {z : Sent} → kept_words ≤ length t.kept → Sends ls t o z t' o' →
    Own.Sends ls t o z t' o'
own_sends {ls} {o = o} {o'} {z} l w =
    let on = own_calls ls w.opened w.left o o' z (opened_long w.opens) w.opens.opens.sound w.calls in
    record {
      opened = w.opened;
      opens = own_opens l w.opens;
      left = on.0;
      calls = on.2;
      closes = own_closes on.1 w.closes;
    }

-- ---- the theorems

pub kept_runs : KeptRuns
kept_runs script t t' o o' z short k (inl w) = OwnRuns.kept_runs script t t' o o' z short (omega (arith, k)) (inl (own_sends k w))
kept_runs script t t' o o' z short k (inr w) =
    OwnRuns.kept_runs script t t' o o' z short (omega (arith, k))
    (inr (record { refuses = own_opens k w.refuses; sent = w.sent; output = w.output }))

pub kept_claim : KeptHolds
kept_claim calls t opened t' ls bytes w row =
    let own = own_row calls opened opened t' ls bytes (itself opened (opened_long w)) row in
    OwnRuns.kept_claim own.0 t opened own.1 ls bytes (own_opens (kept_long t (long_tables w)) w) own.2

-- ---- there are such rows

-- what is sent to a function that answers lines as promised, on tables as a call left them
abbrev Answering : Type 0
Answering =
    (l : List ℕ) (t : Tables) (o : List ℕ) → KeptSound t → (r : Call) × Replies l t o r.number r.written r.tables r.output

-- a first call and, if it answered its line, a row behind it
joined_calls : (l : List ℕ) (ls : List (List ℕ)) (t : Tables) (o : List ℕ) (r : Call) →
    Replies l t o r.number r.written r.tables r.output →
    ((z : Sent) × (t' : Tables) × (o₂ : List ℕ) × Calls ls r.tables (drop r.written r.output) z t' o₂) →
    (b : Bool) → eqb r.number 0 ≡ b → (z : Sent) × (t' : Tables) × (o' : List ℕ) × Calls (l ∷ ls) t o z t' o'
joined_calls l ls t o r p (rest, t', o₂, more) true e =
    let z : Sent = record { number = rest.number; answered = suc rest.answered; written = r.written + rest.written } in
    let on : GoesOn r rest o₂ z (take r.written r.output ++ o₂) =
    record { done = eqb-true r.number 0 e; sent = refl; output = refl } in
    (z, t', take r.written r.output ++ o₂, (r, p, inr (rest, o₂, on, more)))
joined_calls l ls t o r p more false e =
    let z : Sent = record { number = r.number; answered = 0; written = 0 } in
    let stop : Stopped r z r.tables r.output =
    record { unanswered = eqb-false r.number 0 e; sent = refl; tables = refl; output = refl } in
    (z, r.tables, r.output, (r, p, inl stop))

-- whatever the lines: so the hypotheses of the theorem can be met
pub calls_exist : Answering → (ls : List (List ℕ)) (t : Tables) (o : List ℕ) → KeptSound t →
    (z : Sent) × (t' : Tables) × (o' : List ℕ) × Calls ls t o z t' o'
calls_exist f [] t o k = (record { number = 0; answered = 0; written = 0 }, t, o, (refl, refl, refl))
calls_exist f (l ∷ ls) t o k =
    let x = f l t o k in
    joined_calls l ls t o x.0 x.1 (calls_exist f ls x.0.tables (drop x.0.written x.0.output) x.1.answers.sound)
    (eqb x.0.number 0) refl
