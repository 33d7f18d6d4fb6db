-- The walk for a ring on a table of its own, a local array: a colour for each application, and the path with how many fields of each of
-- its applications are still to be tried. What the definition makes of a walk that has come so far is `resume`; each step leaves it as it
-- is.
use Rattle.std.specs.Prelude.{ℕ, zero, suc, ◌+◌, ◌-◌, ◌≤◌, ◌<◌, ◌≡◌, true, cond, eqb, length, get_or, Result, Ok, Err}
use mathlib.Core.List.{List, [], ◌∷◌, map, foldl}
use Rattle.std.proofs.Math.Option.{none, some}
use Rattle.shinri_core.specs.Limits.{max_terms}
use Rattle.shinri_core.specs.Lists.{Apart, keep, mem, range}
use Rattle.shinri_core.specs.Context.{Context, is_datatype_sort, sort_of, children}
use Rattle.shinri_core.specs.Memory.Words.{at, put, room_in}
use Rattle.shinri_core.specs.Memory.Table.{context, ContextSound}
use Rattle.theory.specs.EqEngine.{are_equal, firsts}
use Rattle.theory.specs.Memory.Table.{merges, EngineSound}
use Rattle.theory.specs.Memory.Answer.{leaves, LeavesSound}
use Rattle.theory.specs.Memory.Explaining.{EqualNodes}
use Rattle.solver.specs.State.{State, ctor_of_class}
use Rattle.solver.specs.Ring.{Frame, Edge, Walk, Found, Finished, ring_edges, below_entry, on_path, enter, after, finish, walk_from, walk_watched, constructor_graph_find_cycle, edge_leaves}
use Rattle.solver.specs.Memory.Table.{flagged_from}
use Rattle.solver.specs.Memory.Work.{W_MARK, state_at}
use Rattle.solver.specs.Memory.Making.{Making}
use Rattle.solver.specs.declared.ring.Cycle.{Cycle}

-- ---- the layout

-- for each application 0, or 1 while it is on the path, or 2 when its class is finished
abbrev pub COLOUR : ℕ
COLOUR = 0

-- for each place of the path its application, the field that led to it, and how many fields are still to be tried
abbrev pub PATH_APP : ℕ
PATH_APP = 1024

abbrev pub PATH_VIA : ℕ
PATH_VIA = 2048

abbrev pub PATH_LEFT : ℕ
PATH_LEFT = 3072

abbrev pub ring_layout : List (ℕ × ℕ)
ring_layout = (COLOUR, max_terms) ∷ (PATH_APP, max_terms) ∷ (PATH_VIA, max_terms) ∷ (PATH_LEFT, max_terms) ∷ []

abbrev pub ring_room : ℕ → ℕ
ring_room = room_in ring_layout

abbrev pub ring_size : ℕ
ring_size = 4096

-- ---- a walk that has come so far

-- an application on the path, the field that led to it, and the fields that are still to be tried
pub record Open : Type 0 where
  pub app : ℕ
  pub via : ℕ
  pub left : List ℕ

unfoldable pub frames : List Open → List Frame
frames [] = []
frames (o ∷ os) = record { app = o.app; via = o.via } ∷ frames os

-- the bound on the depth below a path
unfoldable pub depth : State → List Open → ℕ
depth s os = suc (length s.terms.terms) - length os

-- a field is entered from a path
unfoldable pub entering : State → List Open → List ℕ → ℕ → Walk
entering s os done f = enter (walk_from (depth s os) s) (frames os) done f (ctor_of_class s f)

-- and the fields behind it
unfoldable pub trying : State → List Open → Walk → List ℕ → Walk
trying s os w fs = foldl (λ v f. after (λ d. entering s os d f) v) w fs

-- what the walk will have found, newest application first
unfoldable pub resume : State → List Open → List ℕ → Walk
resume s [] done = Finished done
resume s (o ∷ os) done = after (resume s os) (finish o.app (trying s (o ∷ os) (Finished done) o.left))

-- ---- what a table means

-- of the first m fields those of a datatype sort, last to first
unfoldable pub untried : Context → List ℕ → ℕ → List ℕ
untried cx fs zero = []
untried cx fs (suc m) =
    let r = untried cx fs m in
    cond (is_datatype_sort cx (sort_of cx (get_or fs m 0))) (get_or fs m 0 ∷ r) r

-- the path with n applications, newest first
unfoldable pub opened : Context → List ℕ → ℕ → List Open
opened cx r zero = []
opened cx r (suc n) =
    record {
      app = at r PATH_APP n;
      via = at r PATH_VIA n;
      left = untried cx (children cx (at r PATH_APP n)) (at r PATH_LEFT n);
    }
    ∷ opened cx r n

-- the same without the fields
unfoldable pub path : List ℕ → ℕ → List Frame
path r zero = []
path r (suc n) = record { app = at r PATH_APP n; via = at r PATH_VIA n } ∷ path r n

unfoldable pub path_apps : List ℕ → ℕ → List ℕ
path_apps r zero = []
path_apps r (suc n) = at r PATH_APP n ∷ path_apps r n

-- the colour of an application
unfoldable pub colour : List Frame → List ℕ → ℕ → ℕ
colour fs done x = cond (on_path x fs) 1 (cond (mem x done) 2 0)

-- what the walk at a table will have found
abbrev pub outlook : (c e s w : List ℕ) → (ℕ → ℕ) → List ℕ → ℕ → List ℕ → Walk
outlook c e s w lv r n done = resume (state_at c e s w lv) (opened (context c) r n) done

-- ---- when a table is sound

-- a field leads to an application of its class
pub record Leads (c e : List ℕ) (field app : ℕ) : Type 0 where
  pub field_within : field < length (context c).terms
  pub app_within : app < length (context c).terms
  pub equal : are_equal (merges e) field app ≡ true

-- The path has n applications, each once, and the colours are those of the path and the finished list.
pub record Walking (c e r : List ℕ) (n : ℕ) (done : List ℕ) : Type 0 where
  pub long : ring_size ≤ length r
  pub leads : (i : ℕ) → i < n → Leads c e (at r PATH_VIA i) (at r PATH_APP i)
  pub left : (i : ℕ) → i < n → at r PATH_LEFT i ≤ length (children (context c) (at r PATH_APP i))
  pub once : Apart (path_apps r n)
  pub colours : (x : ℕ) → x < max_terms → at r COLOUR x ≡ colour (path r n) done x

-- the tables of a walk under way, whatever is finished
pub record WalkSound (c e w r : List ℕ) (n : ℕ) : Type 0 where
  pub making : Making c e w
  pub done : List ℕ
  pub walking : Walking c e r n done

-- From table r with n applications on the path to table r' with n': what the walk will have found is the same.
pub record Goes (c e w r : List ℕ) (n : ℕ) (done r' : List ℕ) (n' : ℕ) : Type 0 where
  pub done' : List ℕ
  pub walking : Walking c e r' n' done'
  pub same : (s : List ℕ) (lv : ℕ → ℕ) → outlook c e s w lv r n done ≡ outlook c e s w lv r' n' done'

-- and it is a ring: the field leads back to an application of the path
pub record Closes (c e w r : List ℕ) (n : ℕ) (done r' : List ℕ) (n' field app : ℕ) : Type 0 where
  pub done' : List ℕ
  pub walking : Walking c e r' n' done'
  pub leads : Leads c e field app
  pub found : (s : List ℕ) (lv : ℕ → ℕ) → outlook c e s w lv r n done ≡ Found (ring_edges field app (path r' n'))

-- ---- how much is left to do

-- f 0 + .. + f (n - 1)
unfoldable pub sum_below : (ℕ → ℕ) → ℕ → ℕ
sum_below f zero = 0
sum_below f (suc n) = f n + sum_below f n

-- for an application that was not met yet, its fields, coming to it and leaving it
unfoldable pub unmet : Context → List ℕ → ℕ → ℕ
unmet cx r x = cond (eqb (at r COLOUR x) 0) (suc (suc (length (children cx x)))) 0

-- and for each on the path, the fields still to be tried and leaving it
unfoldable pub load : Context → List ℕ → ℕ → ℕ
load cx r n = sum_below (unmet cx r) max_terms + sum_below (λ i. suc (at r PATH_LEFT i)) n

-- ---- stores

-- one more application on the path, the n-th
unfoldable pub pushed : List ℕ → ℕ → ℕ → ℕ → ℕ → List ℕ
pushed r n via app left = put (put (put (put r COLOUR app 1) PATH_APP n app) PATH_VIA n via) PATH_LEFT n left

-- there is room for it on the path
pub record PathRoom (c r : List ℕ) (n app : ℕ) : Type 0 where
  pub core : ContextSound c
  pub within : app < length (context c).terms
  pub room : n < max_terms
  pub long : ring_size ≤ length r

-- ---- a step of the walk

-- what the walk will have found if a field is entered from the path
abbrev pub entered : (c e s w : List ℕ) → (ℕ → ℕ) → List ℕ → ℕ → List ℕ → ℕ → Walk
entered c e s w lv r n done f =
    let S = state_at c e s w lv in
    let os = opened (context c) r n in
    after (resume S os) (entering S os done f)

-- the field leads to an application on the path
pub record Meets (c e w r : List ℕ) (n : ℕ) (done : List ℕ) (field app : ℕ) : Type 0 where
  pub on : on_path app (path r n) ≡ true
  pub leads : Leads c e field app
  pub found : (s : List ℕ) (lv : ℕ → ℕ) → entered c e s w lv r n done field ≡ Found (ring_edges field app (path r n))

-- it leads elsewhere: r' has n' applications on the path
pub record Enters (c e w r : List ℕ) (n : ℕ) (done : List ℕ) (field : ℕ) (r' : List ℕ) (n' : ℕ) : Type 0 where
  pub walking : Walking c e r' n' done
  pub same : (s : List ℕ) (lv : ℕ → ℕ) → entered c e s w lv r n done field ≡ outlook c e s w lv r' n' done

-- a field of any sort is tried: what the walk will have found is as if it had been the first of those left, if it is of a datatype sort
abbrev pub tried : (c e s w : List ℕ) → (ℕ → ℕ) → List ℕ → ℕ → List ℕ → ℕ → Walk
tried c e s w lv r n done f =
    cond (is_datatype_sort (context c) (sort_of (context c) f)) (entered c e s w lv r n done f) (outlook c e s w lv r n done)

-- so with a field of any sort
pub record Tries (c e w r : List ℕ) (n : ℕ) (done : List ℕ) (field app : ℕ) : Type 0 where
  pub leads : Leads c e field app
  pub found : (s : List ℕ) (lv : ℕ → ℕ) → tried c e s w lv r n done field ≡ Found (ring_edges field app (path r n))

pub record TriesTo (c e w r : List ℕ) (n : ℕ) (done : List ℕ) (field : ℕ) (r' : List ℕ) (n' : ℕ) : Type 0 where
  pub walking : Walking c e r' n' done
  pub same : (s : List ℕ) (lv : ℕ → ℕ) → tried c e s w lv r n done field ≡ outlook c e s w lv r' n' done

-- ---- what the functions promise, by their answers, whatever is finished

abbrev pub EnterOutcome : (c e w r : List ℕ) (n field : ℕ) → Result ℕ Cycle → List ℕ → Type 0
EnterOutcome c e w r n field (Ok m) r' =
    (load (context c) r' m ≤ load (context c) r n)
    × ((done : List ℕ) → Walking c e r n done → Enters c e w r n done field r' m)
EnterOutcome c e w r n field (Err k) r' =
    (k.field.0 ≡ field)
    × (k.len ≡ n)
    × (r' ≡ r)
    × ((done : List ℕ) → Walking c e r n done → Meets c e w r n done field k.app.0)

abbrev pub FieldOutcome : (c e w r : List ℕ) (n field : ℕ) → Result ℕ Cycle → List ℕ → Type 0
FieldOutcome c e w r n field (Ok m) r' =
    (load (context c) r' m ≤ load (context c) r n)
    × ((done : List ℕ) → Walking c e r n done → TriesTo c e w r n done field r' m)
FieldOutcome c e w r n field (Err k) r' =
    (k.field.0 ≡ field)
    × (k.len ≡ n)
    × (r' ≡ r)
    × ((done : List ℕ) → Walking c e r n done → Tries c e w r n done field k.app.0)

abbrev pub StepOutcome : (c e w r : List ℕ) (n : ℕ) → Result ℕ Cycle → List ℕ → Type 0
StepOutcome c e w r n (Ok m) r' =
    (load (context c) r' m < load (context c) r n)
    × ((done : List ℕ) → Walking c e r n done → Goes c e w r n done r' m)
StepOutcome c e w r n (Err k) r' =
    (done : List ℕ) → Walking c e r n done → Closes c e w r n done r' k.len k.field.0 k.app.0

abbrev pub WalkOutcome : (c e w r : List ℕ) (n : ℕ) → Result (Unit {0}) Cycle → List ℕ → Type 0
WalkOutcome c e w r n (Ok _) r' =
    (done : List ℕ) → Walking c e r n done → Goes c e w r n done r' 0
WalkOutcome c e w r n (Err k) r' =
    (done : List ℕ) → Walking c e r n done → Closes c e w r n done r' k.len k.field.0 k.app.0

-- ---- watched terms

-- a walk from a watched term, with nothing on the path, finds a ring
pub record WatchedRing (c e w done : List ℕ) (x : ℕ) (r' : List ℕ) (n field app : ℕ) : Type 0 where
  pub done' : List ℕ
  pub walking : Walking c e r' n done'
  pub leads : Leads c e field app
  pub found : (s : List ℕ) (lv : ℕ → ℕ) → walk_watched (state_at c e s w lv) x done ≡ Found (ring_edges field app (path r' n))

-- or none
pub record WatchedDone (c e w done : List ℕ) (x : ℕ) (r' : List ℕ) : Type 0 where
  pub done' : List ℕ
  pub walking : Walking c e r' 0 done'
  pub finished : (s : List ℕ) (lv : ℕ → ℕ) → walk_watched (state_at c e s w lv) x done ≡ Finished done'

abbrev pub WatchedOutcome : (c e w r : List ℕ) (x : ℕ) → Result (Unit {0}) Cycle → List ℕ → Type 0
WatchedOutcome c e w r x (Ok _) r' =
    (done : List ℕ) → Walking c e r 0 done → WatchedDone c e w done x r'
WatchedOutcome c e w r x (Err k) r' =
    (done : List ℕ) → Walking c e r 0 done → WatchedRing c e w done x r' k.len k.field.0 k.app.0

-- the watched terms from term i on
unfoldable pub watched_from : Context → List ℕ → ℕ → List ℕ
watched_from cx w i = keep (λ t. is_datatype_sort cx (sort_of cx t)) (flagged_from w W_MARK i)

-- the walks from some watched terms
unfoldable pub seeking : State → Walk → List ℕ → Walk
seeking s v ts = foldl (λ u t. after (walk_watched s t) u) v ts

-- what the walk from the watched terms from term i on will have found: a ring
pub record SeekRing (c e w done : List ℕ) (i : ℕ) (r' : List ℕ) (n field app : ℕ) : Type 0 where
  pub done' : List ℕ
  pub walking : Walking c e r' n done'
  pub leads : Leads c e field app
  pub found : (s : List ℕ) (lv : ℕ → ℕ) →
      seeking (state_at c e s w lv) (Finished done) (watched_from (context c) w i) ≡ Found (ring_edges field app (path r' n))

-- or what that from the next term on will have found
pub record SeekOn (c e w done : List ℕ) (i : ℕ) (r' : List ℕ) : Type 0 where
  pub done' : List ℕ
  pub walking : Walking c e r' 0 done'
  pub same : (s : List ℕ) (lv : ℕ → ℕ) →
      seeking (state_at c e s w lv) (Finished done) (watched_from (context c) w i)
      ≡ seeking (state_at c e s w lv) (Finished done') (watched_from (context c) w (suc i))

abbrev pub SeekOutcome : (c e w r : List ℕ) (i : ℕ) → Result (Unit {0}) Cycle → List ℕ → Type 0
SeekOutcome c e w r i (Ok _) r' =
    (done : List ℕ) → Walking c e r 0 done → SeekOn c e w done i r'
SeekOutcome c e w r i (Err k) r' =
    (done : List ℕ) → Walking c e r 0 done → SeekRing c e w done i r' k.len k.field.0 k.app.0

-- ---- the whole walk

-- the walk's table at first: nothing was met
pub record Unmet (r : List ℕ) : Type 0 where
  pub long : ring_size ≤ length r
  pub zero : (i : ℕ) → get_or r i 0 ≡ 0

-- a ring on the path: the field leads back to an application of it
pub record RingAt (e r : List ℕ) (k : Cycle) : Type 0 where
  pub engine : EngineSound e
  pub long : ring_size ≤ length r
  pub fits : k.len ≤ max_terms
  pub closing : EqualNodes e k.field.0 k.app.0
  pub path : (i : ℕ) → i < k.len → EqualNodes e (at r PATH_VIA i) (at r PATH_APP i)

-- its edges, the closing edge first
abbrev pub edges_of : List ℕ → Cycle → List Edge
edges_of r k = ring_edges k.field.0 k.app.0 (path r k.len)

abbrev pub CycleOutcome : (c e w : List ℕ) → Result (Unit {0}) Cycle → List ℕ → Type 0
CycleOutcome c e w (Ok _) r =
    (s : List ℕ) (lv : ℕ → ℕ) → constructor_graph_find_cycle (state_at c e s w lv) ≡ none
CycleOutcome c e w (Err k) r =
    RingAt e r k
    × ((s : List ℕ) (lv : ℕ → ℕ) → constructor_graph_find_cycle (state_at c e s w lv) ≡ some (edges_of r k))

-- ---- the conflict

-- the edge to place i of the path
unfoldable pub edge_at : List ℕ → ℕ → Edge
edge_at r i = record { field = at r PATH_VIA i; app = at r PATH_APP i }

-- those from place k to place n, and without it
unfoldable pub edges : List ℕ → ℕ → ℕ → List Edge
edges r k n = map (edge_at r) (range k (n - k))

-- the ring's entry stands right before place k
pub record RingBegins (r : List ℕ) (n app k : ℕ) : Type 0 where
  pub within : k ≤ n
  pub below : below_entry app (path r n) [] ≡ edges r k n

-- the leaves of a ring
pub record RingLeaves (e r : List ℕ) (k : Cycle) (o : List ℕ) : Type 0 where
  pub sound : LeavesSound o
  pub are : leaves o ≡ firsts (edge_leaves (merges e) (edges_of r k))
