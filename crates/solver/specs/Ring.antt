-- The ring rule (children_of, constructor_graph_find_cycle, acyclicity_conflict). Each class stands by its lowest marked
-- constructor application; an edge leads to the class of each datatype field.
use Rattle.std.specs.Prelude.{ℕ, zero, suc, Bool, cond, eqb, length}
use mathlib.Core.List.{List, [], ◌∷◌, ◌++◌, foldl, reverse}
use Rattle.std.proofs.Math.Option.{Option, none, some}
use Rattle.shinri_core.specs.Lists.{keep, mem, any}
use Rattle.shinri_core.specs.Context.{Context, CtorApp, is_datatype_sort, sort_of}
use Rattle.theory.specs.Types.{EqLeaf}
use Rattle.theory.specs.EqEngine.{Merge, explain, firsts}
use Rattle.solver.specs.State.{State, ctor_of_class, watched_dt_terms}

-- an application on the walk's path, and the field of the one before it that led to it
pub record Frame : Type 0 where
  pub app : ℕ
  pub via : ℕ

-- one edge of a ring: a field, and the application of the class that it leads to
pub record Edge : Type 0 where
  pub field : ℕ
  pub app : ℕ

-- the walk's result: the edges of a ring, or the applications whose classes are finished
pub data Walk : Type 0 where
  Found : List Edge → Walk
  Finished : List ℕ → Walk

-- Fields are tried last to first.
unfoldable pub kids : Context → CtorApp → List ℕ
kids cx c = reverse (keep (λ f. is_datatype_sort cx (sort_of cx f)) c.fields)

-- the frames from the newest back to, and without, the application of the class that is met again; oldest first
unfoldable pub below_entry : ℕ → List Frame → List Edge → List Edge
below_entry entry [] es = es
below_entry entry (f ∷ fs) es =
    let r = below_entry entry fs (record { field = f.via; app = f.app } ∷ es) in
    cond (eqb f.app entry) es r

-- the closing edge first, then the others from the ring's entry down
unfoldable pub ring_edges : ℕ → ℕ → List Frame → List Edge
ring_edges field entry path = record { field = field; app = entry } ∷ below_entry entry path []

unfoldable pub on_path : ℕ → List Frame → Bool
on_path c path = any (λ (f : Frame). eqb f.app c) path

-- what becomes of a field: the class it leads to is on the path, finished, or to be walked
unfoldable pub enter : (List Frame → CtorApp → List ℕ → Walk) → List Frame → List ℕ → ℕ → Option CtorApp → Walk
enter walk path done field none = Finished done
enter walk path done field (some c) =
    let new = walk (record { app = c.app; via = field } ∷ path) c done in
    cond (on_path c.app path) (Found (ring_edges field c.app path))
    (cond (mem c.app done) (Finished done) new)

unfoldable pub after : (List ℕ → Walk) → Walk → Walk
after next (Found es) = Found es
after next (Finished done) = next done

unfoldable pub finish : ℕ → Walk → Walk
finish c (Found es) = Found es
finish c (Finished done) = Finished (c ∷ done)

-- all fields of the newest application, then it is finished. The first number bounds the depth: a path has each application once.
unfoldable pub walk_from : ℕ → State → List Frame → CtorApp → List ℕ → Walk
walk_from zero s path c done = Finished done
walk_from (suc k) s path c done =
    finish c.app
    (foldl (λ w f. after (λ d. enter (walk_from k s) path d f (ctor_of_class s f)) w) (Finished done) (kids s.terms c))

-- a walk from a watched term, past classes already finished
unfoldable pub walk_watched : State → ℕ → List ℕ → Walk
walk_watched s t done = enter (walk_from (suc (length s.terms.terms)) s) [] done t (ctor_of_class s t)

unfoldable pub ring_of : Walk → Option (List Edge)
ring_of (Found es) = some es
ring_of (Finished done) = none

-- depth first from the watched terms ascending
unfoldable pub constructor_graph_find_cycle : State → Option (List Edge)
constructor_graph_find_cycle s =
    ring_of (foldl (λ w t. after (walk_watched s t) w) (Finished []) (watched_dt_terms s))

unfoldable pub edge_leaves : List Merge → List Edge → List EqLeaf
edge_leaves ms [] = []
edge_leaves ms (e ∷ es) = explain ms e.field e.app ++ edge_leaves ms es

-- each edge explained from field to application
unfoldable pub acyclicity_conflict : State → List Edge → List EqLeaf
acyclicity_conflict s es = firsts (edge_leaves s.eq es)

unfoldable pub ring_definitions : Unit {0}
unfolding kids below_entry ring_edges on_path enter after finish walk_from walk_watched ring_of constructor_graph_find_cycle edge_leaves acyclicity_conflict
ring_definitions = tt
