-- What the functions promise that make terms in a check and hand out lemmas.
use Rattle.std.specs.Prelude.{ℕ, ◌<◌, ◌≡◌, false, List, map, length}
use Rattle.shinri_core.specs.Context.{symbol, sort_of, terms_fit}
use Rattle.shinri_core.specs.Formed.{Formed, Signed, Extends}
use Rattle.shinri_core.specs.Memory.Table.{context, AllBelow, ContextSound}
use Rattle.std.specs.Prelude.{Result, Ok, Err}
use Rattle.shinri_core.specs.declared.ids.TermId.{TermId}
use Rattle.shinri_core.specs.declared.limits.NoRoom.{NoRoom}
use Rattle.theory.specs.Memory.Table.{EngineSound}
use Rattle.solver.specs.State.{State, MadeIn}
use Rattle.solver.specs.Rules.{hand_out}
use Rattle.solver.specs.declared.answer.TCheck as TCheck
use Rattle.solver.specs.Memory.Work.{state_at, WorkSound, ChainSound, CheckSound}
use Rattle.solver.specs.Memory.Answer.{Outcome, Readable, listed, guard_meaning, Guard}

-- ---- making a term

-- the tables in which a check makes terms
pub record Making (c e w : List ℕ) : Type 0 where
  pub core : ContextSound c
  pub formed : Formed (context c)
  pub signed : Signed (context c)
  pub engine : EngineSound e
  pub work : WorkSound c e w

-- symbol f may be applied to these arguments
pub record Makeable (c e w : List ℕ) (f : ℕ) (args : List ℕ) : Type 0 where
  pub making : Making c e w
  pub declared : f < length (context c).symbols
  pub terms : AllBelow (length (context c).terms) args
  pub agree : map (sort_of (context c)) args ≡ (symbol (context c) f).params

-- two terms may be equated
pub record Equatable (c e w : List ℕ) (x y : ℕ) : Type 0 where
  pub making : Making c e w
  pub first : x < length (context c).terms
  pub second : y < length (context c).terms
  pub agree : sort_of (context c) x ≡ sort_of (context c) y

-- the answer to making a term
abbrev pub Made : Type 0
Made = Result TermId NoRoom

-- what was made in the definition, by the code's answer
abbrev pub MadeOutcome : Made → MadeIn → State → Type 0
MadeOutcome (Ok x) m s = m ≡ record { id = x.0; state = s }
MadeOutcome (Err n) m s = terms_fit m.state.terms ≡ false

-- the number of what was made is that of a term
abbrev pub MadeWithin : Made → ℕ → Type 0
MadeWithin (Ok x) n = x.0 < n
MadeWithin (Err e) n = Unit {0}

-- A term was made, by `make` of the definition; c' w' are the tables after. Where `Plain` holds, it is no constructor application that is
-- marked, so the chains stay.
pub record MakesTerm (make : State → MadeIn) (Plain : Type 0) (c e w : List ℕ) (r : Made) (c' w' : List ℕ) : Type 0 where
  pub sound : (s : List ℕ) → CheckSound c e s w → CheckSound c' e s w'
  pub making : Making c' e w'
  pub extends : Extends (context c) (context c')
  pub within : MadeWithin r (length (context c').terms)
  pub outcome : (s : List ℕ) (lv : ℕ → ℕ) → MadeOutcome r (make (state_at c e s w lv)) (state_at c' e s w' lv)
  pub chain : Plain → ChainSound c e w → ChainSound c' e w'

-- ---- handing out a lemma

-- the atom x was handed out with a guard, or passed over; s' is the solver's table after
pub record HandsOut (x : ℕ) (g : Guard) (s : List ℕ) (r : TCheck.TCheck) (s' o : List ℕ) : Type 0 where
  pub sound : (c e w : List ℕ) → CheckSound c e s w → CheckSound c e s' w
  pub outcome : (c e w : List ℕ) (lv : ℕ → ℕ) →
      Outcome (Ok r) (hand_out x (listed (guard_meaning g)) (state_at c e s w lv)) (state_at c e s' w lv) o
  pub readable : Readable (Ok r) o
  pub unchanged : (r ≡ TCheck.TheVariants.Split → ⊥) → s' ≡ s
