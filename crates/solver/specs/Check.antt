-- A check: the rules in order, the first that applies answers.
use Rattle.std.specs.Prelude.{Bool, true, false, List}
use Rattle.std.proofs.Math.Option.{Option, none, some}
use Rattle.solver.specs.State.{State}
use Rattle.solver.specs.Rules.{TCheck, Sat, Conflict, Ruled, pass, then, constructor_clash, tester_clash, negative_clash, disequality_clash, instantiate_injectivity_selectors, collapse_lemma, tester_lemma, instantiate_constructor, exhaustiveness_split, unknown_fence}
use Rattle.solver.specs.Ring.{Edge, constructor_graph_find_cycle, acyclicity_conflict}

-- the rules before the ring
unfoldable pub before_ring : State → Ruled
before_ring s =
    then (constructor_clash s) λ s.
    then (tester_clash s) λ s.
    then (negative_clash s) λ s.
    then (disequality_clash s) λ s.
    then (pass (instantiate_injectivity_selectors s)) λ s.
    then (collapse_lemma s) λ s.
    then (tester_lemma s) λ s.
    then (instantiate_constructor s) λ s.
    then (exhaustiveness_split s) λ s.
    unknown_fence s

unfoldable pub ring_answer : State → Option (List Edge) → TCheck
ring_answer s none = Sat
ring_answer s (some es) = Conflict (acyclicity_conflict s es)

pub record Checked : Type 0 where
  pub answer : TCheck
  pub state : State

unfoldable pub or_ring : Option TCheck → State → Checked
or_ring (some a) s = record { answer = a; state = s }
or_ring none s = record { answer = ring_answer s (constructor_graph_find_cycle s); state = s }

unfoldable pub full_check : State → Checked
full_check s = let r = before_ring s in or_ring r.answer r.state

-- Not full: `sat=1`, nothing done.
unfoldable pub check : Bool → State → Checked
check true s = full_check s
check false s = record { answer = Sat; state = s }

unfoldable pub check_definitions : Unit {0}
unfolding before_ring ring_answer or_ring full_check check
check_definitions = tt
