-- How a line is refused and how it is accepted, whatever its kind.
use Rattle.std.specs.Prelude.{Err}
use Rattle.shinri_core.proofs.Kit.{ℕ, ◌≡◌, refl, ap, ◌∙◌, Bool, true, false, ◌&&◌, List, [], ◌∷◌, none, some, arith, length, leb, le-leb, ◌⊎◌, inl, inr}
use Rattle.shinri_core.specs.Limits.{max_sorts, max_symbols, max_pairs, max_levels}
use Rattle.shinri_core.specs.Context.{declarations_fit, terms_fit}
use Rattle.shinri_core.specs.Memory.Table.{context, ContextSound}
use Rattle.theory.specs.EqEngine.{pairs_in_force}
use Rattle.theory.specs.Memory.Table.{merges, level, EngineSound}
use Rattle.theory.proofs.Memory.Log.{in_force_few}
use Rattle.solver.specs.State.{State}
use Rattle.solver.specs.Memory.Table.{state_with, StateSound}
use Rattle.solver.proofs.Memory.Checking.{fits_now}
use Rattle.session.specs.Line.{Command}
use Rattle.session.specs.Session.{Asked, Performed, first_no, questions, perform, fits, asked, if_fits, refused}
use Rattle.session.specs.declared.answer.Refusal as GivenRefusal
use Rattle.session.specs.Memory.Answers.{LineAnswer, refusal_meaning, answer_meaning, Printable}
use Rattle.session.specs.Memory.Sessions.{Beside, session, SessionSound, Answers}

abbrev pub Refused : GivenRefusal.Refusal → LineAnswer
Refused q = Err q

-- the engine's table is another
pub engine_changes : {c e e' s : List ℕ} → StateSound c e s → EngineSound e' → StateSound c e' s
engine_changes S E = record {
  core = S.core;
  formed = S.formed;
  signed = S.signed;
  engine = E;
  solver = S.solver;
  registered = S.registered;
  marks = S.marks;
  announced = S.announced;
  collected = S.collected;
  lasting = S.lasting;
  records = S.records;
}

-- ---- the first no

pub no_here : (q : Asked) (qs : List Asked) → q.yes ≡ false → first_no (q ∷ qs) ≡ some q.refusal
unfolding first_no
no_here q qs e = rw e

pub yes_here : (q : Asked) (qs : List Asked) → q.yes ≡ true → first_no (q ∷ qs) ≡ first_no qs
unfolding first_no
yes_here q qs e = rw e

pub yes_last : (q : Asked) → q.yes ≡ true → first_no (q ∷ []) ≡ none
unfolding first_no
yes_last q e = rw e

-- ---- 11

declarations_now : (c : List ℕ) → ContextSound c → declarations_fit (context c) ≡ true
unfolding declarations_fit
declarations_now c z =
    let a = z.sort_count in
    let b = z.symbol_count in
    let f = z.sorts_fit in
    let g = z.symbols_fit in
    rw (le-leb (length (context c).sorts) max_sorts (omega arith), le-leb (length (context c).symbols) max_symbols (omega arith))

-- what sound tables hold fits
pub sound_fits : (c e s : List ℕ) (m : Beside) → SessionSound c e s m → fits (session c e s m).state ≡ true
unfolding fits session state_with
sound_fits c e s m z =
    let l = z.state.engine.levels_fit in
    rw (
      declarations_now c z.state.core,
      fits_now c z.state.core,
      le-leb (pairs_in_force (merges e)) max_pairs (in_force_few e z.state.engine),
      le-leb (level e) max_levels l,
    )

-- one of four tests says no
one_of_four : (p q r t : Bool) → (p ≡ false) ⊎ ((q ≡ false) ⊎ ((r ≡ false) ⊎ (t ≡ false))) → (p && q && r && t) ≡ false
one_of_four false q r t h = refl
one_of_four true false r t h = refl
one_of_four true true false t h = refl
one_of_four true true true false h = refl
one_of_four true true true true (inl e) = e
one_of_four true true true true (inr (inl e)) = e
one_of_four true true true true (inr (inr (inl e))) = e
one_of_four true true true true (inr (inr (inr e))) = e

-- a state with declarations, terms, pairs or levels that do not fit
module _ (st : State) where
  abbrev Unfit : Type 0
  Unfit =
      (declarations_fit st.terms ≡ false)
      ⊎ ((terms_fit st.terms ≡ false) ⊎ ((leb (pairs_in_force st.eq) max_pairs ≡ false) ⊎ (leb st.level max_levels ≡ false)))

  unfit : Unfit → fits st ≡ false
  unfolding fits
  unfit h =
      one_of_four (declarations_fit st.terms) (terms_fit st.terms) (leb (pairs_in_force st.eq) max_pairs) (leb st.level
      max_levels) h

  pub unfit_declarations : declarations_fit st.terms ≡ false → fits st ≡ false
  unfit_declarations e = unfit (inl e)

  pub unfit_terms : terms_fit st.terms ≡ false → fits st ≡ false
  unfit_terms e = unfit (inr (inl e))

  pub unfit_pairs : leb (pairs_in_force st.eq) max_pairs ≡ false → fits st ≡ false
  unfit_pairs e = unfit (inr (inr (inl e)))

  pub unfit_level : leb st.level max_levels ≡ false → fits st ≡ false
  unfit_level e = unfit (inr (inr (inr e)))

-- ---- a line

module _ {k : Command} {c e s : List ℕ} {m : Beside} (o : List ℕ) (z : SessionSound c e s m) where
  -- a question says no
  pub refuses : (q : GivenRefusal.Refusal) → first_no (questions (session c e s m) k) ≡ some (refusal_meaning q) →
      Answers k c e s m (Err q) c e s m o
  unfolding answer_meaning asked refused
  refuses q h = record { sound = z; printable = tt; performed = ap (asked (session c e s m) k) h }

  -- all say yes, but the result does not fit
  pub no_room : first_no (questions (session c e s m) k) ≡ none → fits (perform (session c e s m) k).session.state ≡ false →
      Answers k c e s m (Err GivenRefusal.TheVariants.NoRoom) c e s m o
  unfolding answer_meaning refusal_meaning asked if_fits refused
  no_room h f = record { sound = z; printable = tt; performed = rw (h, f) }

  -- all say yes, and sound tables hold the result
  pub accepts : {a : LineAnswer} {c' e' s' : List ℕ} {m' : Beside} → Printable a o → first_no (questions (session c e s m) k) ≡ none →
      SessionSound c' e' s' m' → perform (session c e s m) k ≡ record { answer = answer_meaning a o; session = session c' e' s' m' } →
      Answers k c e s m a c' e' s' m' o
  unfolding asked if_fits
  accepts {a} {c'} {e'} {s'} {m'} p h z' d =
      let f = ap (λ (q : Performed). fits q.session.state) d ∙ sound_fits c' e' s' m' z' in
      record { sound = z'; printable = p; performed = ap (asked (session c e s m) k) h ∙ rw f d }
