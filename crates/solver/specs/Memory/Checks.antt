-- What a check promises.
use Rattle.std.specs.Prelude.{ℕ, ◌≤◌, ◌<◌, ◌≡◌, Bool, true, false, cond, List, length, Ok, is_ok}
use Rattle.std.proofs.Math.Option.{none, some}
use Rattle.shinri_core.specs.Limits.{max_terms, table_words}
use Rattle.shinri_core.specs.Context.{terms_fit}
use Rattle.shinri_core.specs.Formed.{Formed, Signed, Extends}
use Rattle.shinri_core.specs.Memory.Words.{at}
use Rattle.shinri_core.specs.Memory.Table.{context, ContextSound}
use Rattle.theory.specs.Memory.Answer.{answer_size}
use Rattle.solver.specs.State.{State}
use Rattle.solver.specs.Rules.{Ruled, pass, then, tester_clash, negative_clash, disequality_clash, instantiate_injectivity_selectors, collapse_lemma, tester_lemma, instantiate_constructor, exhaustiveness_split, unknown_fence}
use Rattle.solver.specs.Ring.{constructor_graph_find_cycle}
use Rattle.solver.specs.Check.{Checked, ring_answer, check, full_check}
use Rattle.solver.specs.declared.answer.TCheck as TCheck
use Rattle.solver.specs.Memory.Table.{MARK, state, SolverSound, StateSound}
use Rattle.solver.specs.Memory.Recording.{NoneAnnounced, NoneLasting}
use Rattle.solver.specs.Memory.Work.{Blank, work_size, marks_only, state_at, ChainSound, CheckSound}
use Rattle.solver.specs.Memory.Answer.{RuleAnswer, answer_meaning, Readable}
use Rattle.solver.specs.Memory.Making.{Making}
use Rattle.solver.specs.Memory.Disequalities.{NoneJoined}

-- ---- the rules

-- the rules before the ring, from each of them on

abbrev pub from_split : State → Ruled
from_split s = then (exhaustiveness_split s) unknown_fence

abbrev pub from_instantiation : State → Ruled
from_instantiation s = then (instantiate_constructor s) from_split

abbrev pub from_tester_lemma : State → Ruled
from_tester_lemma s = then (tester_lemma s) from_instantiation

abbrev pub from_collapse : State → Ruled
from_collapse s = then (collapse_lemma s) from_tester_lemma

abbrev pub from_injectivity : State → Ruled
from_injectivity s = then (pass (instantiate_injectivity_selectors s)) from_collapse

abbrev pub from_disequality_clash : State → Ruled
from_disequality_clash s = then (disequality_clash s) from_injectivity

abbrev pub from_negative_clash : State → Ruled
from_negative_clash s = then (negative_clash s) from_disequality_clash

abbrev pub from_tester_clash : State → Ruled
from_tester_clash s = then (tester_clash s) from_negative_clash

-- the tables of a check under way, and the answer table
pub record Underway (c e s w o : List ℕ) : Type 0 where
  pub check : CheckSound c e s w
  pub chain : ChainSound c e w
  pub long : answer_size ≤ length o

-- the ring rule, whatever the solver's table
pub record Ringable (c e w o : List ℕ) : Type 0 where
  pub making : Making c e w
  pub long : answer_size ≤ length o

pub record Rings (c e w : List ℕ) (r : TCheck.TCheck) (o : List ℕ) : Type 0 where
  pub outcome : (s : List ℕ) (lv : ℕ → ℕ) →
      answer_meaning (Ok r) o ≡ some (ring_answer (state_at c e s w lv) (constructor_graph_find_cycle (state_at c e s w lv)))
  pub readable : Readable (Ok r) o

-- a full check may begin
pub record Beginnable (c e s w o : List ℕ) : Type 0 where
  pub state : StateSound c e s
  pub blank : Blank w
  pub long : answer_size ≤ length o

-- what a check of the definition gave, by the code's answer: its answer and its state, or that it does not fit
pub record Answered (r : RuleAnswer) (k : Checked) (s : State) (o : List ℕ) : Type 0 where
  pub answer : is_ok r ≡ true → answer_meaning r o ≡ some k.answer
  pub state : is_ok r ≡ true → k.state ≡ s
  pub refused : is_ok r ≡ false → terms_fit k.state.terms ≡ false

-- A full check on the work table; with no room the solver's table is as it was, and the terms made are still there.
pub record ChecksFully (c e s : List ℕ) (r : RuleAnswer) (c' s' w' o : List ℕ) : Type 0 where
  pub sound : CheckSound c' e s' w'
  pub extends : Extends (context c) (context c')
  pub outcome : (lv : ℕ → ℕ) → Answered r (full_check (state c e s lv)) (state_at c' e s' w' lv) o
  pub unchanged : is_ok r ≡ false → s' ≡ s
  pub readable : Readable r o

-- the tables have room for marks
pub record MarksFit (s w : List ℕ) : Type 0 where
  pub table : table_words ≤ length s
  pub work : work_size ≤ length w

-- the marks of the work table are the solver's now; n terms are there
pub record KeepsMarks (n : ℕ) (s w s' : List ℕ) : Type 0 where
  pub sound : (c e : List ℕ) → CheckSound c e s w → n ≡ length (context c).terms → StateSound c e s'
  pub view : (c e : List ℕ) (lv : ℕ → ℕ) → CheckSound c e s w → n ≡ length (context c).terms → state c e s' lv ≡ state_at c e s w lv

-- a state where no constructor application is marked and no tester was asserted positively
pub record UnmarkedAsked (c e s o : List ℕ) : Type 0 where
  pub state : StateSound c e s
  pub apps : NoneAnnounced s
  pub lasting : NoneLasting c s
  pub long : answer_size ≤ length o

-- the watched terms may be split on
pub record WatchedAsked (c s o : List ℕ) : Type 0 where
  pub core : ContextSound c
  pub formed : Formed (context c)
  pub signed : Signed (context c)
  pub solver : SolverSound s
  pub long : answer_size ≤ length o

-- a full check where no constructor application is marked, no tester was asserted positively and no unequal terms are equal: no mark is
-- set
pub record ChecksWatched (c s : List ℕ) (r : RuleAnswer) (c' s' o : List ℕ) : Type 0 where
  pub fully : (e : List ℕ) → StateSound c e s → NoneAnnounced s → NoneLasting c s → NoneJoined c e s →
      ChecksFully c e s r c' s' (marks_only s) o
  pub marks : (x : ℕ) → x < max_terms → at s' MARK x ≡ at s MARK x

-- A check: its answer and its state are the definition's if they fit, else it is refused and nothing changes.
pub record Checks (full : Bool) (c e s : List ℕ) (r : RuleAnswer) (c' s' o : List ℕ) : Type 0 where
  pub sound : StateSound c' e s'
  pub answer : (lv : ℕ → ℕ) →
      answer_meaning r o
      ≡ cond (terms_fit (check full (state c e s lv)).state.terms) (some (check full (state c e s lv)).answer) none
  pub view : (lv : ℕ → ℕ) →
      state c' e s' lv ≡ cond (terms_fit (check full (state c e s lv)).state.terms) (check full (state c e s lv)).state (state c e s lv)
  pub readable : Readable r o

-- A full check; with no room the terms made are still there.
pub record ChecksKept (c e s : List ℕ) (r : RuleAnswer) (c' s' o : List ℕ) : Type 0 where
  pub fits : is_ok r ≡ true → Checks true c e s r c' s' o
  pub refused : is_ok r ≡ false → (w : List ℕ) × ChecksFully c e s r c' s' w o
