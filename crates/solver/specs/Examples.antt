-- Small examples of a full check, in one table, and that the definition gives each row: the order of the rules, who explains
-- what, and the phase of a nullary constructor.
use Rattle.std.specs.Prelude.{ℕ, Bool, true, false, ◌&&◌, T}
use mathlib.Core.List.{List, [], ◌∷◌, foldl}
use Rattle.std.proofs.Math.Option.{Option, none, some, map}
use Rattle.shinri_core.specs.Lists.{every, same_list, cons_option}
use Rattle.shinri_core.specs.Sort.{Datatype}
use Rattle.shinri_core.specs.Term.{Term, Uninterpreted}
use Rattle.shinri_core.specs.Context.{Context, empty_context, declare_sort, dt_add_constructor, declare_fun}
use Rattle.shinri_core.specs.Unfolding.{core_definitions}
use Rattle.theory.specs.Types.{EqLeaf, AssertedLeaf, Asserted}
use Rattle.theory.specs.EqEngine.{merge}
use Rattle.theory.specs.Examples.{same_leaves}
use Rattle.theory.specs.Unfolding.{theory_definitions}
use Rattle.solver.specs.State.{State, state_definitions}
use Rattle.solver.specs.Records.{records_definitions}
use Rattle.solver.specs.Rules.{Phase, Positive, NoPhase, TCheck, Sat, Conflict, Split, Unknown, rules_definitions}
use Rattle.solver.specs.Ring.{ring_definitions}
use Rattle.solver.specs.Check.{check, check_definitions}

-- everything that a check computes with
unfoldable pub definitions : Unit {0}
unfolding core_definitions theory_definitions state_definitions records_definitions rules_definitions ring_definitions check_definitions
definitions = tt

-- ---- answers compared

unfoldable pub same_phase : Phase → Phase → Bool
same_phase Positive Positive = true
same_phase Positive NoPhase = false
same_phase NoPhase Positive = false
same_phase NoPhase NoPhase = true

unfoldable pub same_phases : List Phase → List Phase → Bool
same_phases [] [] = true
same_phases [] (q ∷ qs) = false
same_phases (p ∷ ps) [] = false
same_phases (p ∷ ps) (q ∷ qs) = same_phase p q && same_phases ps qs

-- is the first answer the second, which a row expects?
unfoldable pub is_conflict : TCheck → List EqLeaf → Bool
is_conflict Sat ms = false
is_conflict (Conflict ls) ms = same_leaves ls ms
is_conflict (Split as' gs ps) ms = false
is_conflict Unknown ms = false

unfoldable pub is_split : TCheck → List ℕ → List ℕ → List Phase → Bool
is_split Sat bs hs qs = false
is_split (Conflict ls) bs hs qs = false
is_split (Split as' gs ps) bs hs qs = same_list as' bs && same_list gs hs && same_phases ps qs
is_split Unknown bs hs qs = false

unfoldable pub is_sat : TCheck → Bool
is_sat Sat = true
is_sat (Conflict ls) = false
is_sat (Split as' gs ps) = false
is_sat Unknown = false

unfoldable pub is_unknown : TCheck → Bool
is_unknown Sat = false
is_unknown (Conflict ls) = false
is_unknown (Split as' gs ps) = false
is_unknown Unknown = true

unfoldable pub same_check : TCheck → TCheck → Bool
same_check a Sat = is_sat a
same_check a (Conflict ms) = is_conflict a ms
same_check a (Split bs hs qs) = is_split a bs hs qs
same_check a Unknown = is_unknown a

-- ---- the table

-- numbers from zero: 0 zero, 1 its tester, 2 succ, 3 its tester, 4 pred, 5 and 6 constants
unfoldable pub signature : Context
signature =
    declare_fun (declare_fun (dt_add_constructor (dt_add_constructor (declare_sort empty_context Datatype) 1 []) 1 (1 ∷ [])) 1 []) 1 []

abbrev app : ℕ → List ℕ → Term
app f ts = record { op = Uninterpreted f; args = ts }

-- the terms; the marked ones; merged terms with their literals, in order; an asserted tester with its literal, registered as
-- variable 0, or none; terms split on; the answer of a full check
pub record Example : Type 0 where
  pub terms : List Term
  pub marks : List ℕ
  pub equal : List (ℕ × ℕ × ℕ)
  pub tester : Option (ℕ × ℕ)
  pub split : List ℕ
  pub answer : TCheck

unfoldable pub start : Example → State
start e = record {
  terms = record { sorts = signature.sorts; symbols = signature.symbols; terms = e.terms };
  eq = foldl (λ ms (l : ℕ × ℕ × ℕ). merge ms 0 l.0 l.1 (Asserted l.2)) [] e.equal;
  atoms = cons_option (map (λ (x : ℕ × ℕ). record { var = 0; atom = x.0 }) e.tester) [];
  level = 0;
  dt = record {
    marks = e.marks;
    level_record = cons_option (map (λ (x : ℕ × ℕ). record { atom = x.0; lit = x.1; level = 0 }) e.tester) [];
    negative_record = [];
    disequalities = [];
    lasting = cons_option (map (λ (x : ℕ × ℕ). x.0) e.tester) [];
    emitted = [];
    split_done = e.split;
  };
}

unfoldable pub holds : Example → Bool
holds e = same_check (check true (start e)).answer e.answer

pub examples : List Example
examples =
    -- constructor clash before tester clash
    record {
      terms = app 0 [] ∷ app 5 [] ∷ app 2 (1 ∷ []) ∷ app 3 (1 ∷ []) ∷ [];
      marks = 0 ∷ 1 ∷ 2 ∷ 3 ∷ [];
      equal = (0, 2, 0) ∷ (1, 2, 2) ∷ [];
      tester = some (3, 4);
      split = [];
      answer = Conflict (AssertedLeaf 0 ∷ []);
    }
    -- tester clash: the literal, then the term explained to the application
    ∷ record {
      terms = app 0 [] ∷ app 5 [] ∷ app 3 (1 ∷ []) ∷ [];
      marks = 0 ∷ 1 ∷ 2 ∷ [];
      equal = (1, 0, 2) ∷ [];
      tester = some (2, 4);
      split = [];
      answer = Conflict (AssertedLeaf 4 ∷ AssertedLeaf 2 ∷ []);
    }
    -- injectivity selectors before collapse
    ∷ record {
      terms = app 5 [] ∷ app 6 [] ∷ app 2 (0 ∷ []) ∷ app 2 (1 ∷ []) ∷ [];
      marks = 0 ∷ 1 ∷ 2 ∷ 3 ∷ [];
      equal = (2, 3, 0) ∷ [];
      tester = none;
      split = [];
      answer = Split (6 ∷ []) [] [];
    }
    -- collapse before tester lemma
    ∷ record {
      terms = app 5 [] ∷ app 2 (0 ∷ []) ∷ app 4 (1 ∷ []) ∷ app 3 (1 ∷ []) ∷ [];
      marks = 0 ∷ 1 ∷ 2 ∷ 3 ∷ [];
      equal = [];
      tester = none;
      split = [];
      answer = Split (4 ∷ []) [] [];
    }
    -- instantiation before exhaustiveness, guarded by the negative literal
    ∷ record {
      terms = app 5 [] ∷ app 1 (0 ∷ []) ∷ [];
      marks = 0 ∷ 1 ∷ [];
      equal = [];
      tester = some (1, 0);
      split = [];
      answer = Split (3 ∷ []) (1 ∷ []) [];
    }
    -- nullary phases 1
    ∷ record {
      terms = app 5 [] ∷ [];
      marks = 0 ∷ [];
      equal = [];
      tester = none;
      split = [];
      answer = Split (1 ∷ 2 ∷ []) [] (Positive ∷ NoPhase ∷ []);
    }
    -- unknown before the ring: the class of term 2 has no constructor and is split on already
    ∷ record {
      terms = app 5 [] ∷ app 2 (0 ∷ []) ∷ app 6 [] ∷ [];
      marks = 0 ∷ 1 ∷ 2 ∷ [];
      equal = (0, 1, 0) ∷ [];
      tester = none;
      split = 2 ∷ [];
      answer = Unknown;
    }
    -- a ring of two: the closing edge is explained first
    ∷ record {
      terms = app 5 [] ∷ app 6 [] ∷ app 2 (0 ∷ []) ∷ app 2 (1 ∷ []) ∷ [];
      marks = 0 ∷ 1 ∷ 2 ∷ 3 ∷ [];
      equal = (0, 3, 2) ∷ (1, 2, 4) ∷ [];
      tester = none;
      split = [];
      answer = Conflict (AssertedLeaf 2 ∷ AssertedLeaf 4 ∷ []);
    }
    ∷ []

pub shown : T (every holds examples)
unfolding definitions same_leaves same_phase same_phases is_conflict is_split is_sat is_unknown same_check signature start holds examples
shown = tt
