-- Guarded instantiation on the tables: what its functions ask and promise.
use Rattle.std.specs.Prelude.{ℕ, ◌≤◌, ◌<◌, ◌≡◌, cond, List, length}
use Rattle.shinri_core.specs.Limits.{max_terms}
use Rattle.shinri_core.specs.Term.{Constructor}
use Rattle.shinri_core.specs.Context.{symbol, sort_of, tester_app}
use Rattle.shinri_core.specs.Memory.Words.{at}
use Rattle.shinri_core.specs.Memory.Table.{context}
use Rattle.std.specs.Prelude.{Ok}
use Rattle.shinri_core.specs.declared.ids.TermId.{TermId}
use Rattle.theory.specs.Atom.{var_of_atom}
use Rattle.theory.specs.Memory.Registry.{atoms}
use Rattle.theory.specs.Memory.Answer.{answer_size}
use Rattle.solver.specs.State.{State, MadeIn, mint}
use Rattle.solver.specs.Rules.{Ruled, pass, mint_fields, equate_with, guard, instantiate_at}
use Rattle.solver.specs.declared.answer.TCheck as TCheck
use Rattle.solver.specs.Memory.Table.{LASTING, registry, is_set, SolverSound}
use Rattle.solver.specs.Memory.Work.{state_at, CheckSound}
use Rattle.solver.specs.Memory.Answer.{Outcome, Readable}
use Rattle.solver.specs.Memory.Making.{Making, Made, MakesTerm}

-- ---- the definition by its parts

-- constructor f over its selectors on a
abbrev pub mint_over : ℕ → ℕ → State → MadeIn
mint_over a f s = mint (mint_fields s a f).state f (mint_fields s a f).ids

-- the atom of term x and constructor f, guarded by the tester's atom
abbrev pub instantiation : ℕ → ℕ → ℕ → State → Ruled
instantiation x f a s = guard (var_of_atom s.atoms x) (equate_with a (mint_over a f s))

-- the tester application x, if it is one
abbrev pub instantiate_term : ℕ → State → Ruled
instantiate_term x s = instantiate_at (tester_app s.terms x) s

-- the same if x stands in the lasting record
abbrev pub instantiate_flagged : List ℕ → ℕ → State → Ruled
instantiate_flagged s x z = cond (is_set (at s LASTING x)) (instantiate_term x z) (pass z)

-- ---- what the functions ask and promise

-- constructor f may be made over its selectors on a
pub record Coverable (c e w : List ℕ) (a f : ℕ) : Type 0 where
  pub making : Making c e w
  pub ctor : (symbol (context c) f).role ≡ Constructor
  pub within : a < length (context c).terms
  pub agree : sort_of (context c) a ≡ (symbol (context c) f).result

-- it was made; it has the sort of a
pub record Covers (c e w : List ℕ) (a f : ℕ) (r : Made) (c' w' : List ℕ) : Type 0 where
  pub makes : MakesTerm (mint_over a f) ⊥ c e w r c' w'
  pub result : (y : TermId) → r ≡ Ok y → sort_of (context c') y.0 ≡ (symbol (context c') f).result

-- the lemma y may be handed out under the guard of atom x
pub record Guardable (s : List ℕ) (x y : ℕ) (o : List ℕ) : Type 0 where
  pub solver : SolverSound s
  pub atom : x < max_terms
  pub lemma : y < max_terms
  pub long : answer_size ≤ length o

-- it was handed out, or passed over
pub record Guards (s : List ℕ) (x y : ℕ) (r : TCheck.TCheck) (s' o : List ℕ) : Type 0 where
  pub sound : (c e w : List ℕ) → CheckSound c e s w → CheckSound c e s' w
  pub outcome : (c e w : List ℕ) (lv : ℕ → ℕ) →
      Outcome (Ok r) (guard (var_of_atom (atoms (registry s)) x) (record { id = y; state = state_at c e s w lv })) (state_at c e s' w lv) o
  pub readable : Readable (Ok r) o
  pub unchanged : (r ≡ TCheck.TheVariants.Split → ⊥) → s' ≡ s

-- term a may be instantiated by constructor f, guarded by atom x
pub record Instantiable (c e s w : List ℕ) (x f a : ℕ) (o : List ℕ) : Type 0 where
  pub check : CheckSound c e s w
  pub atom : x < max_terms
  pub ctor : (symbol (context c) f).role ≡ Constructor
  pub within : a < length (context c).terms
  pub agree : sort_of (context c) a ≡ (symbol (context c) f).result
  pub long : answer_size ≤ length o

-- a term of the tables of a check, and the answer table
pub record TermAsked (c e s w : List ℕ) (x : ℕ) (o : List ℕ) : Type 0 where
  pub check : CheckSound c e s w
  pub within : x < length (context c).terms
  pub long : answer_size ≤ length o
