-- Exhaustiveness on the tables: which watched terms are without a marked constructor application, and what the functions of the rule
-- ask and promise.
use Rattle.std.specs.Prelude.{ℕ, ◌≤◌, ◌<◌, ◌≡◌, Bool, true, false, not, ◌&&◌, length, Ok, Err}
use mathlib.Core.List.{List, [], foldl, map}
use Rattle.std.proofs.Math.Option.{none, some}
use Rattle.shinri_core.specs.Limits.{max_terms}
use Rattle.shinri_core.specs.Lists.{first}
use Rattle.shinri_core.specs.Context.{builds, sort_of, is_datatype_sort, dt_constructors, terms_fit}
use Rattle.shinri_core.specs.Formed.{Formed, Signed, Extends}
use Rattle.shinri_core.specs.Memory.Words.{at}
use Rattle.shinri_core.specs.Memory.Table.{context, ContextSound}
use Rattle.theory.specs.Memory.Table.{merges}
use Rattle.theory.specs.Memory.Answer.{answer_size}
use Rattle.solver.specs.State.{State, with_terms, watched_dt_terms}
use Rattle.solver.specs.Records.{is_some}
use Rattle.solver.specs.Rules.{Phase, Testers, make_tester, phase, split_on, to_split, has_undetermined_class}
use Rattle.solver.specs.declared.answer.TCheck as TCheck
use Rattle.solver.specs.declared.exhaustiveness.Undetermined as Undetermined
use Rattle.shinri_core.specs.declared.ids.TermId.{TermId}
use Rattle.solver.specs.Memory.Table.{MARK, SPLIT, is_set, SolverSound, StateSound}
use Rattle.solver.specs.Memory.Recording.{NoneAnnounced}
use Rattle.solver.specs.Memory.Work.{W_MARK, state_at, apps_from, first_in_class, marks_only, CheckSound}
use Rattle.solver.specs.Memory.Answer.{split_atoms, split_guard, split_phases, SplitSound, TesterRoom, TesterPushed, Tried, RuleAnswer}
use Rattle.solver.specs.Memory.Injecting.{Stepped}

-- ---- watched terms

unfoldable pub is_watched : List ℕ → List ℕ → ℕ → Bool
is_watched c w x = is_set (at w W_MARK x) && is_datatype_sort (context c) (sort_of (context c) x)

-- Has the class of x no marked constructor application?
unfoldable pub is_open : List ℕ → List ℕ → List ℕ → ℕ → Bool
is_open c e w x = not (is_some (first_in_class (merges e) x (apps_from (context c) w 0)))

unfoldable pub is_undetermined : List ℕ → List ℕ → List ℕ → ℕ → Bool
is_undetermined c e w x = is_watched c w x && is_open c e w x

-- By a test of the terms' numbers: the lowest that asks and was not split on; or some ask, and each was; or none does.
abbrev pub Asking : (ℕ → Bool) → ℕ → List ℕ → Undetermined.Undetermined → Type 0
Asking p n s (Undetermined.TheVariants.Split x) =
    (x.0 < n) × (p x.0 ≡ true) × (at s SPLIT x.0 ≡ 0) × ((y : ℕ) → y < x.0 → p y ≡ true → at s SPLIT y ≡ 0 → ⊥)
Asking p n s Undetermined.TheVariants.Unknown =
    ((y : ℕ) × (y < n) × (p y ≡ true)) × ((y : ℕ) → y < n → p y ≡ true → at s SPLIT y ≡ 0 → ⊥)
Asking p n s Undetermined.TheVariants.Nothing = (y : ℕ) → y < n → p y ≡ false

-- so by each test that answers as was answered
pub record LowestAsking (answers : ℕ → Bool → Type 0) (c s : List ℕ) (r : Undetermined.Undetermined) : Type 0 where
  pub found : (p : ℕ → Bool) → ((x : ℕ) (b : Bool) → x < length (context c).terms → answers x b → b ≡ p x) →
      Asking p (length (context c).terms) s r

-- what the pass over the watched terms found, in the definition
abbrev pub Found : Undetermined.Undetermined → State → Type 0
Found (Undetermined.TheVariants.Split x) s = first (to_split s) (watched_dt_terms s) ≡ some x.0
Found Undetermined.TheVariants.Unknown s = (first (to_split s) (watched_dt_terms s) ≡ none) × (has_undetermined_class s ≡ true)
Found Undetermined.TheVariants.Nothing s = (first (to_split s) (watched_dt_terms s) ≡ none) × (has_undetermined_class s ≡ false)

pub record Passed (c e s w : List ℕ) (r : Undetermined.Undetermined) : Type 0 where
  pub is : (lv : ℕ → ℕ) → Found r (state_at c e s w lv)

-- the watched terms where no constructor application is marked: their classes have none
pub record Watches (c s : List ℕ) (r : Undetermined.Undetermined) : Type 0 where
  pub within : (x : TermId) → r ≡ Undetermined.TheVariants.Split x → x.0 < length (context c).terms
  pub passed : (e : List ℕ) → StateSound c e s → NoneAnnounced s → Passed c e s (marks_only s) r

-- ---- a split

-- the tester of constructor f may be made on x, and listed
pub record Testable (c : List ℕ) (x f : ℕ) (o : List ℕ) : Type 0 where
  pub core : ContextSound c
  pub formed : Formed (context c)
  pub signed : Signed (context c)
  pub within : x < length (context c).terms
  pub building : builds (context c) (sort_of (context c) x) f ≡ true
  pub room : TesterRoom o

-- the testers listed so far, in the definition, whatever the rest of the state
abbrev pub testers_at : State → List ℕ → List ℕ → Testers
testers_at s c o = record { atoms = split_atoms o; state = with_terms s (context c) }

-- what the definition made, by the code's answer
abbrev pub TestersOutcome : Stepped → Testers → Testers → Type 0
TestersOutcome (Ok u) made ts = made ≡ ts
TestersOutcome (Err n) made ts = terms_fit made.state.terms ≡ false

pub record MakesTester (c : List ℕ) (x f : ℕ) (o : List ℕ) (r : Stepped) (c' o' : List ℕ) : Type 0 where
  pub core : ContextSound c'
  pub formed : Formed (context c')
  pub extends : Extends (context c) (context c')
  pub outcome : (s : State) → TestersOutcome r (make_tester x (testers_at s c o) f) (testers_at s c' o')
  pub pushed : r ≡ Ok tt → (y : ℕ) × TesterPushed o y (phase (context c) f) o'

-- the testers on x may be made, and listed
pub record Splittable (c : List ℕ) (x : ℕ) (o : List ℕ) : Type 0 where
  pub core : ContextSound c
  pub formed : Formed (context c)
  pub signed : Signed (context c)
  pub within : x < length (context c).terms
  pub long : answer_size ≤ length o

-- the constructors of the sort of x
abbrev pub ctors_of : List ℕ → ℕ → List ℕ
ctors_of c x = dt_constructors (context c) (sort_of (context c) x)

-- a split with these phases and no guard
pub record Listed (o : List ℕ) (phases : List Phase) : Type 0 where
  pub sound : SplitSound o
  pub guard : split_guard o ≡ none
  pub phases_are : split_phases o ≡ phases

pub record MakesTesters (c : List ℕ) (x : ℕ) (r : Stepped) (c' o : List ℕ) : Type 0 where
  pub core : ContextSound c'
  pub formed : Formed (context c')
  pub extends : Extends (context c) (context c')
  pub outcome : (s : State) →
      TestersOutcome r (foldl (make_tester x) (record { atoms = []; state = with_terms s (context c) }) (ctors_of c x)) (testers_at s c' o)
  pub listed : r ≡ Ok tt → Listed o (map (phase (context c)) (ctors_of c x))

pub record SplitsOn (c s : List ℕ) (x : ℕ) (r : RuleAnswer) (c' s' o : List ℕ) : Type 0 where
  pub tried : (e w : List ℕ) → CheckSound c e s w → Tried (λ z. split_on z x) c e s w r c' s' w o
  pub marks : (y : ℕ) → y < max_terms → at s' MARK y ≡ at s MARK y
  pub answers : r ≡ Ok TCheck.TheVariants.Sat → ⊥

-- what a pass found may be answered
pub record FoundAsked (c s : List ℕ) (u : Undetermined.Undetermined) (o : List ℕ) : Type 0 where
  pub core : ContextSound c
  pub formed : Formed (context c)
  pub signed : Signed (context c)
  pub solver : SolverSound s
  pub within : (x : TermId) → u ≡ Undetermined.TheVariants.Split x → x.0 < length (context c).terms
  pub long : answer_size ≤ length o

-- it was: by a split, by unknown, or not at all
abbrev pub FoundAnswered : Undetermined.Undetermined → (c s : List ℕ) → RuleAnswer → (c' s' o : List ℕ) → Type 0
FoundAnswered (Undetermined.TheVariants.Split x) c s r c' s' o = SplitsOn c s x.0 r c' s' o
FoundAnswered Undetermined.TheVariants.Unknown c s r c' s' o = (r ≡ Ok TCheck.TheVariants.Unknown) × (c' ≡ c) × (s' ≡ s)
FoundAnswered Undetermined.TheVariants.Nothing c s r c' s' o = (r ≡ Ok TCheck.TheVariants.Sat) × (c' ≡ c) × (s' ≡ s)
