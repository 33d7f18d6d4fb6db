-- The answer of a check: its kind beside the answer table. Of a conflict the table has the leaves, of a split the atoms, guards and
-- phases.
use Rattle.std.specs.Prelude.{ℕ, zero, suc, ◌≤◌, ◌<◌, ◌≡◌, false, List, [], ◌∷◌, ◌++◌, length}
use Rattle.std.proofs.Math.Option.{Option, none, some}
use Rattle.shinri_core.specs.declared.ids.Lit.{Lit}
use Rattle.shinri_core.specs.declared.limits.NoRoom.{NoRoom}
use Rattle.shinri_core.specs.Limits.{max_symbols}
use Rattle.shinri_core.specs.Context.{terms_fit}
use Rattle.shinri_core.specs.Formed.{Extends}
use Rattle.shinri_core.specs.Memory.Words.{at, put, counted, room_in}
use Rattle.shinri_core.specs.Memory.Table.{context}
use Rattle.theory.specs.Memory.Answer.{answer_size, leaves, LeavesSound}
use Rattle.solver.specs.State.{State}
use Rattle.solver.specs.Rules as Rules
use Rattle.solver.specs.Rules.{Phase, Positive, NoPhase, Ruled, pass, answered}
use Rattle.solver.specs.declared.answer.TCheck as TCheck
use Rattle.solver.specs.declared.answer.Phase as GivenPhase
use Rattle.std.specs.Prelude.{Option as GivenOption, Some, None, Result, Ok, Err}
use Rattle.solver.specs.Memory.Work.{state_at, CheckSound}

-- ---- a split

-- how many atoms, whether there is a guard, how many phases, the guard's literal
abbrev pub COUNTS : ℕ
COUNTS = 0

abbrev pub ATOMS : ℕ
ATOMS = 0

abbrev pub GUARDED : ℕ
GUARDED = 1

abbrev pub PHASES : ℕ
PHASES = 2

abbrev pub GUARD : ℕ
GUARD = 3

-- the atoms; for each phase 1 or 0
abbrev pub ATOM : ℕ
ATOM = 64

abbrev pub PHASE : ℕ
PHASE = 576

abbrev pub split_layout : List (ℕ × ℕ)
split_layout = (COUNTS, 64) ∷ (ATOM, max_symbols) ∷ (PHASE, max_symbols) ∷ []

abbrev pub split_room : ℕ → ℕ
split_room = room_in split_layout

unfoldable pub phase_of : ℕ → Phase
phase_of zero = NoPhase
phase_of (suc n) = Positive

unfoldable pub guard_of : ℕ → ℕ → Option ℕ
guard_of zero l = none
guard_of (suc n) l = some l

unfoldable pub listed : Option ℕ → List ℕ
listed none = []
listed (some l) = l ∷ []

unfoldable pub split_atoms : List ℕ → List ℕ
split_atoms o = counted (at o ATOM) (at o COUNTS ATOMS)

unfoldable pub split_guard : List ℕ → Option ℕ
split_guard o = guard_of (at o COUNTS GUARDED) (at o COUNTS GUARD)

unfoldable pub split_phases : List ℕ → List Phase
split_phases o = counted (λ i. phase_of (at o PHASE i)) (at o COUNTS PHASES)

unfoldable pub split_of : List ℕ → Rules.TCheck
split_of o = Rules.Split (split_atoms o) (listed (split_guard o)) (split_phases o)

pub record SplitSound (o : List ℕ) : Type 0 where
  pub long : answer_size ≤ length o
  pub atoms_fit : at o COUNTS ATOMS ≤ max_symbols
  pub phases_fit : at o COUNTS PHASES ≤ max_symbols

-- ---- the code's answers in the definition

unfoldable pub phase_meaning : GivenPhase.Phase → Phase
phase_meaning GivenPhase.TheVariants.Positive = Positive
phase_meaning GivenPhase.TheVariants.NoPhase = NoPhase

-- the literal that guards a lemma, if any
abbrev pub Guard : Type 0
Guard = GivenOption Lit

unfoldable pub guard_meaning : Guard → Option ℕ
guard_meaning (Some l) = some l.0
guard_meaning None = none

-- ---- what the functions on a split ask and promise

-- the table with a guard, or without one
unfoldable pub guarded : List ℕ → Guard → List ℕ
guarded o (Some l) = put (put o COUNTS GUARDED 1) COUNTS GUARD l.0
guarded o None = put o COUNTS GUARDED 0

-- one atom under a guard stands there, without phases
pub record LemmaWritten (x : ℕ) (g : Guard) (u : List ℕ) : Type 0 where
  pub sound : SplitSound u
  pub is : split_of u ≡ Rules.Split (x ∷ []) (listed (guard_meaning g)) []

-- no atom, no guard and no phase stands there
pub record SplitCleared (u : List ℕ) : Type 0 where
  pub sound : SplitSound u
  pub atoms : split_atoms u ≡ []
  pub guard : split_guard u ≡ none
  pub phases : split_phases u ≡ []

-- there is room for one more atom with a phase
pub record TesterRoom (o : List ℕ) : Type 0 where
  pub sound : SplitSound o
  pub atoms : length (split_atoms o) < max_symbols
  pub phases : length (split_phases o) < max_symbols

-- they stand at the end
pub record TesterPushed (o : List ℕ) (x : ℕ) (p : Phase) (u : List ℕ) : Type 0 where
  pub sound : SplitSound u
  pub atoms : split_atoms u ≡ split_atoms o ++ (x ∷ [])
  pub guard : split_guard u ≡ split_guard o
  pub phases : split_phases u ≡ split_phases o ++ (p ∷ [])

-- the answer of what can run out of room; what cannot answers as `Ok` does
abbrev pub RuleAnswer : Type 0
RuleAnswer = Result TCheck.TCheck NoRoom

-- what an answer that is no refusal says, beside the answer table
unfoldable pub answer_meaning : RuleAnswer → List ℕ → Option Rules.TCheck
answer_meaning (Ok TCheck.TheVariants.Sat) o = some Rules.Sat
answer_meaning (Ok TCheck.TheVariants.Conflict) o = some (Rules.Conflict (leaves o))
answer_meaning (Ok TCheck.TheVariants.Split) o = some (split_of o)
answer_meaning (Ok TCheck.TheVariants.Unknown) o = some Rules.Unknown
answer_meaning (Err n) o = none

-- the answer table can be read
abbrev pub Readable : RuleAnswer → List ℕ → Type 0
Readable (Ok TCheck.TheVariants.Sat) o = Unit {0}
Readable (Ok TCheck.TheVariants.Conflict) o = LeavesSound o
Readable (Ok TCheck.TheVariants.Split) o = SplitSound o
Readable (Ok TCheck.TheVariants.Unknown) o = Unit {0}
Readable (Err n) o = Unit {0}

-- ---- a rule

-- what a rule of the definition gave, by the code's answer: `Sat` stands for a rule that does not apply
abbrev pub Outcome : RuleAnswer → Ruled → State → List ℕ → Type 0
Outcome (Ok TCheck.TheVariants.Sat) r s o = r ≡ pass s
Outcome (Ok TCheck.TheVariants.Conflict) r s o = r ≡ answered s (Rules.Conflict (leaves o))
Outcome (Ok TCheck.TheVariants.Split) r s o = r ≡ answered s (split_of o)
Outcome (Ok TCheck.TheVariants.Unknown) r s o = r ≡ answered s Rules.Unknown
Outcome (Err n) r s o = terms_fit r.state.terms ≡ false

-- A rule was tried on the tables before; c' s' w' are those after. Only a split changes the solver's table.
pub record Tried (rule : State → Ruled) (c e s w : List ℕ) (r : RuleAnswer) (c' s' w' o : List ℕ) : Type 0 where
  pub sound : CheckSound c' e s' w'
  pub extends : Extends (context c) (context c')
  pub outcome : (lv : ℕ → ℕ) → Outcome r (rule (state_at c e s w lv)) (state_at c' e s' w' lv) o
  pub unchanged : (r ≡ Ok TCheck.TheVariants.Split → ⊥) → s' ≡ s
  pub readable : Readable r o
