-- What the rounds of question 10 find, said without rounds. Proved as `inhabits` in proofs/Inhabited.
use Rattle.std.specs.Prelude.{ℕ, ◌≡◌, ◌↔◌, Bool, [], T}
use Rattle.shinri_core.specs.Sort.{is_uninterpreted}
use Rattle.shinri_core.specs.Context.{Context, sort_node, is_datatype_sort, dt_constructors, grounded, round, inhabited_datatypes, inhabited, all_grounded}
use Rattle.shinri_core.specs.Reading.{Value, HasSort}

-- a set has each datatype that is grounded in it
abbrev pub Closed : Context → (ℕ → Bool) → Type 0
Closed cx found = (s : ℕ) → T (is_datatype_sort cx s) → T (grounded cx found s) → T (found s)

module _ {E : Type 0} where
  -- the sets of the other sorts are not empty
  abbrev pub NonEmpty : Context → (ℕ → E → Type 0) → Type 0
  NonEmpty cx domain = (s : ℕ) → T (is_uninterpreted (sort_node cx s)) → (e : E) × domain s e

  -- there is a value of sort s; of a datatype, a finite tree
  abbrev pub HasValue : Context → (ℕ → E → Type 0) → ℕ → Type 0
  HasValue cx domain s = (v : Value E) × HasSort cx domain v s

pub record Inhabits (cx : Context) : Type 1 where
  pub one_more_round : round cx (inhabited_datatypes cx) ≡ inhabited_datatypes cx
  -- the least set that has each datatype grounded in it
  pub closed : Closed cx (inhabited cx)
  pub least : (found : ℕ → Bool) → Closed cx found → (s : ℕ) → T (inhabited cx s) → T (found s)
  pub without_constructors : (s : ℕ) → dt_constructors cx s ≡ [] → T (inhabited cx s) → ⊥
  -- a datatype is inhabited exactly when there is a finite tree of it
  pub tree : {E : Type 0} (domain : ℕ → E → Type 0) → NonEmpty cx domain → (s : ℕ) → T (is_datatype_sort cx s) →
      T (inhabited cx s) ↔ HasValue cx domain s
  -- question 10 is answered yes exactly when there is one of each datatype
  pub question : {E : Type 0} (domain : ℕ → E → Type 0) → NonEmpty cx domain →
      T (all_grounded cx) ↔ ((s : ℕ) → T (is_datatype_sort cx s) → HasValue cx domain s)
