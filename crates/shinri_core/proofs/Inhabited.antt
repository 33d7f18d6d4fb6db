-- Question 10: the rounds find the least set that has each datatype grounded in it, and these are the datatypes of which there is a
-- finite tree.
use Rattle.shinri_core.proofs.Kit.{ℕ, zero, suc, ◌≤◌, ◌<◌, ◌≡◌, refl, ap, subst, subst⁻¹, ◌⊎◌, inl, inr, ◌↔◌, Bool, true, false, not, List, [], ◌∷◌, arith, T, length, get_or}
use Rattle.shinri_core.specs.Lists.{every, any, mem, range}
use Rattle.shinri_core.specs.Sort.{SortNode, BoolSort, Datatype, Uninterpreted, is_datatype, is_bool, is_uninterpreted}
use Rattle.shinri_core.specs.Term.{Term}
use Rattle.shinri_core.specs.Context.{Context, sort_node, symbol, is_datatype_sort, builds, dt_constructors, datatypes, ready, has_ready_fields, grounded, round, rounds, inhabited_datatypes, inhabited, all_grounded}
use Rattle.shinri_core.specs.Formed.{grown, Extends}
use Rattle.shinri_core.specs.Reading.{Value, Values, truth, element, tree, nil, cons, HasSort, HasSorts}
use Rattle.shinri_core.specs.Inhabited.{Closed, NonEmpty, HasValue, Inhabits}
use Rattle.shinri_core.proofs.Symbols.{node_apart, node_other, builds_in, in_builds}
use Rattle.shinri_core.proofs.Lists.{In, T-or, T-left, T-right, T-implied, true_T, every_in, in_every, any_in, in_any, in_keep, keep_in, keep_length, keep_more, in_range, length_range, mem_in, in_mem}

pub datatype_in_range : (ss : List SortNode) (s : ℕ) → T (is_datatype (get_or ss s BoolSort)) → s < length ss
unfolding is_datatype
datatype_in_range [] s t = absurd t
datatype_in_range (x ∷ xs) zero t = omega arith
datatype_in_range (x ∷ xs) (suc s) t = let h = datatype_in_range xs s t in omega arith

-- the members of a list, as a test
abbrev those : List ℕ → ℕ → Bool
those found s = mem s found

module _ (cx : Context) where
  in_datatypes : (s : ℕ) → T (is_datatype_sort cx s) → In s (datatypes cx)
  unfolding datatypes is_datatype_sort sort_node
  in_datatypes s d =
      let n = length cx.sorts in
      let l = datatype_in_range cx.sorts s d in
      in_keep (is_datatype_sort cx) (range 0 n) s (in_range 0 n s (omega arith) (omega arith)) d

  datatypes_few : length (datatypes cx) ≤ length cx.sorts
  unfolding datatypes
  datatypes_few =
      let l = keep_length (is_datatype_sort cx) (range 0 (length cx.sorts)) in
      let e = length_range 0 (length cx.sorts) in
      omega arith

  -- a datatype without constructors is grounded in no set
  none_grounded : (found : ℕ → Bool) (s : ℕ) → dt_constructors cx s ≡ [] → grounded cx found s ≡ false
  unfolding grounded any
  none_grounded found s e = rw e refl

  -- ---- a larger set grounds more

  -- each datatype of one set is in the other
  abbrev Includes : (ℕ → Bool) → (ℕ → Bool) → Type 0
  Includes found more = (s : ℕ) → T (found s) → T (more s)

  module _ (found more : ℕ → Bool) (h : Includes found more) where
    ready_more : (c : ℕ) → T (has_ready_fields cx found c) → T (has_ready_fields cx more c)
    unfolding has_ready_fields ready
    ready_more c t =
        let fields = (symbol cx c).params in
        in_every (ready cx more) fields
        (λ f i. field f (T-or (not (is_datatype_sort cx f)) (found f) (every_in (ready cx found) fields f t i)))
      where
        field : (f : ℕ) → T (not (is_datatype_sort cx f)) ⊎ T (found f) → T (ready cx more f)
        field f (inl o) = T-left (not (is_datatype_sort cx f)) (more f) o
        field f (inr m) = T-right (not (is_datatype_sort cx f)) (more f) (h f m)

    pub grounded_more : (s : ℕ) → T (grounded cx found s) → T (grounded cx more s)
    unfolding grounded
    grounded_more s t =
        let (c, i, r) = any_in (has_ready_fields cx found) (dt_constructors cx s) t in
        in_any (has_ready_fields cx more) (dt_constructors cx s) c i (ready_more c r)

  -- ---- rounds

  module _ (found : List ℕ) (s : ℕ) where
    round_in : T (mem s (round cx found)) → T (grounded cx (those found) s)
    unfolding round
    round_in t = (keep_in (grounded cx (those found)) (datatypes cx) s (mem_in s (round cx found) t)).1

    in_round : T (is_datatype_sort cx s) → T (grounded cx (those found) s) → T (mem s (round cx found))
    unfolding round
    in_round d g = in_mem s (round cx found) (in_keep (grounded cx (those found)) (datatypes cx) s (in_datatypes s d) g)

    round_datatype : T (mem s (round cx found)) → T (is_datatype_sort cx s)
    unfolding round datatypes
    round_datatype t =
        let i = (keep_in (grounded cx (those found)) (datatypes cx) s (mem_in s (round cx found) t)).0 in
        (keep_in (is_datatype_sort cx) (range 0 (length cx.sorts)) s i).1

  -- what a round found stays found
  rounds_grow : (k : ℕ) → Includes (those (rounds cx k)) (those (rounds cx (suc k)))
  unfolding rounds
  rounds_grow zero s t = absurd (mem_in s [] t)
  rounds_grow (suc k) s t =
      in_round (rounds cx (suc k)) s (round_datatype (rounds cx k) s t)
      (grounded_more (those (rounds cx k)) (those (rounds cx (suc k))) (rounds_grow k) s (round_in (rounds cx k) s t))

  -- the round after k others adds nothing, or more than n datatypes are found then
  abbrev StillOr : ℕ → ℕ → Type 0
  StillOr k n = (rounds cx (suc k) ≡ rounds cx k) ⊎ (n < length (rounds cx (suc k)))

  rounds_more : (k : ℕ) → StillOr (suc k) (length (rounds cx (suc k)))
  unfolding rounds round
  rounds_more k =
      keep_more (grounded cx (those (rounds cx k))) (grounded cx (those (rounds cx (suc k)))) (datatypes cx)
      (grounded_more (those (rounds cx k)) (those (rounds cx (suc k))) (rounds_grow k))

  -- each round that adds has one datatype more
  rounds_still : (k : ℕ) → StillOr k k
  unfolding rounds
  rounds_still zero = first (rounds cx 1)
    where
      first : (found : List ℕ) → (found ≡ []) ⊎ (0 < length found)
      first [] = inl refl
      first (x ∷ xs) = inr (omega arith)
  rounds_still (suc k) = next (rounds_still k)
    where
      larger : k < length (rounds cx (suc k)) → StillOr (suc k) (length (rounds cx (suc k))) → StillOr (suc k) (suc k)
      larger l (inl e) = inl e
      larger l (inr m) = inr (omega arith)

      next : StillOr k k → StillOr (suc k) (suc k)
      next (inl e) = inl (ap (round cx) e)
      next (inr l) = larger l (rounds_more k)

  one_more_round : round cx (inhabited_datatypes cx) ≡ inhabited_datatypes cx
  unfolding inhabited_datatypes rounds round
  one_more_round = still (rounds_still (length cx.sorts))
    where
      still : StillOr (length cx.sorts) (length cx.sorts) → rounds cx (suc (length cx.sorts)) ≡ rounds cx (length cx.sorts)
      still (inl e) = e
      still (inr l) =
          let m = keep_length (grounded cx (those (rounds cx (length cx.sorts)))) (datatypes cx) in
          let f = datatypes_few in
          absurd (omega arith)

  -- ---- the least set

  pub inhabited_closed : Closed cx (inhabited cx)
  inhabited_closed s d g = subst (λ (found : List ℕ). T (mem s found)) one_more_round (in_round (inhabited_datatypes cx) s d g)

  without_constructors : (s : ℕ) → dt_constructors cx s ≡ [] → T (inhabited cx s) → ⊥
  without_constructors s e t =
      subst T (none_grounded (inhabited cx) s e)
      (round_in (inhabited_datatypes cx) s (subst⁻¹ (λ (found : List ℕ). T (mem s found)) one_more_round t))

  rounds_least : (found : ℕ → Bool) → Closed cx found → (k : ℕ) → Includes (those (rounds cx k)) found
  unfolding rounds
  rounds_least found h zero s t = absurd (mem_in s [] t)
  rounds_least found h (suc k) s t =
      h s (round_datatype (rounds cx k) s t)
      (grounded_more (those (rounds cx k)) found (rounds_least found h k) s (round_in (rounds cx k) s t))

  pub inhabited_least : (found : ℕ → Bool) → Closed cx found → Includes (inhabited cx) found
  unfolding inhabited_datatypes
  inhabited_least found h s t = rounds_least found h (length cx.sorts) s t

  -- ---- finite trees

  module _ {E : Type 0} (domain : ℕ → E → Type 0) (inhabitant : NonEmpty cx domain) where
    plain_value : (s : ℕ) (n : SortNode) → sort_node cx s ≡ n → T (not (is_datatype_sort cx s)) → HasValue cx domain s
    unfolding is_datatype is_datatype_sort is_bool is_uninterpreted
    plain_value s BoolSort e t = (truth false, subst⁻¹ (λ (n : SortNode). T (is_bool n)) e tt)
    plain_value s Datatype e t = absurd (subst (λ (n : SortNode). T (not (is_datatype n))) e t)
    plain_value s Uninterpreted e t =
        let u = subst⁻¹ (λ (n : SortNode). T (is_uninterpreted n)) e tt in
        let (x, m) = inhabitant s u in
        (element x, (u, m))

    field_values : (ss : List ℕ) → ((s : ℕ) → In s ss → HasValue cx domain s) → (vs : Values E) × HasSorts cx domain vs ss
    field_values [] h = (nil, tt)
    field_values (s ∷ ss) h =
        let (v, i) = h s (inl refl) in
        let (vs, is) = field_values ss (λ t j. h t (inr j)) in
        (cons v vs, (i, is))

    -- where there are values of the datatypes found
    module _ (found : ℕ → Bool) (h : (s : ℕ) → T (found s) → HasValue cx domain s) (s : ℕ) where
      field_value : T (ready cx found s) → HasValue cx domain s
      unfolding ready
      field_value r = either (T-or (not (is_datatype_sort cx s)) (found s) r)
        where
          either : T (not (is_datatype_sort cx s)) ⊎ T (found s) → HasValue cx domain s
          either (inl o) = plain_value s (sort_node cx s) refl o
          either (inr m) = h s m

    -- there are values of those that are grounded in them: a constructor over values of its fields
    grounded_tree : (found : ℕ → Bool) → ((s : ℕ) → T (found s) → HasValue cx domain s) → (s : ℕ) → T (is_datatype_sort cx s) →
        T (grounded cx found s) → HasValue cx domain s
    unfolding grounded has_ready_fields is_datatype_sort
    grounded_tree found h s d g =
        let (c, i, r) = any_in (has_ready_fields cx found) (dt_constructors cx s) g in
        let fields = (symbol cx c).params in
        let (vs, hs) = field_values fields (λ f j. field_value found h f (every_in (ready cx found) fields f r j)) in
        (tree c vs, (d, in_builds cx s c i, hs))

    rounds_tree : (k s : ℕ) → T (mem s (rounds cx k)) → HasValue cx domain s
    unfolding rounds
    rounds_tree zero s t = absurd (mem_in s [] t)
    rounds_tree (suc k) s t =
        grounded_tree (those (rounds cx k)) (rounds_tree k) s (round_datatype (rounds cx k) s t) (round_in (rounds cx k) s t)

    -- Each field of a tree is of another sort or a tree itself, so its constructor grounds its datatype.
    mutual
      unfolding grounded has_ready_fields ready is_datatype_sort

      tree_found : (v : Value E) (s : ℕ) → T (is_datatype_sort cx s) → HasSort cx domain v s → T (inhabited cx s)
      tree_found (truth b) s d h = absurd (node_apart (sort_node cx s) h d)
      tree_found (element e) s d h = absurd (node_other (sort_node cx s) h.0 d)
      tree_found (tree c vs) s d h =
          let r = in_every (ready cx (inhabited cx)) (symbol cx c).params (λ f i. fields_found vs (symbol cx c).params h.2 f i) in
          inhabited_closed s d (in_any (has_ready_fields cx (inhabited cx)) (dt_constructors cx s) c (builds_in cx s c h.1) r)

      fields_found : (vs : Values E) (ss : List ℕ) → HasSorts cx domain vs ss → (s : ℕ) → In s ss → T (ready cx (inhabited cx) s)
      fields_found nil [] h s i = absurd i
      fields_found nil (t ∷ ts) h s i = absurd h
      fields_found (cons v vs) [] h s i = absurd h
      fields_found (cons v vs) (t ∷ ts) h s (inl e) =
          subst⁻¹ (λ (x : ℕ). T (ready cx (inhabited cx) x)) e
          (T-implied (is_datatype_sort cx t) (inhabited cx t) (λ d. tree_found v t d h.0))
      fields_found (cons v vs) (t ∷ ts) h s (inr i) = fields_found vs ts h.1 s i

    inhabited_tree : (s : ℕ) → T (is_datatype_sort cx s) → T (inhabited cx s) ↔ HasValue cx domain s
    unfolding inhabited_datatypes
    inhabited_tree s d = (λ t. rounds_tree (length cx.sorts) s t, λ v. tree_found v.0 s d v.1)

    -- ---- question 10

    -- each sort has a value where it is answered yes
    pub sorted_value : T (all_grounded cx) → (s : ℕ) → HasValue cx domain s
    unfolding all_grounded
    sorted_value g s = go (is_datatype_sort cx s) refl
      where
        go : (b : Bool) → is_datatype_sort cx s ≡ b → HasValue cx domain s
        go true e =
            let d = true_T (is_datatype_sort cx s) e in
            (inhabited_tree s d).0 (every_in (inhabited cx) (datatypes cx) s g (in_datatypes s d))
        go false e = plain_value s (sort_node cx s) refl (subst⁻¹ (λ (b : Bool). T (not b)) e tt)

    grounded_exactly : T (all_grounded cx) ↔ ((s : ℕ) → T (is_datatype_sort cx s) → HasValue cx domain s)
    unfolding all_grounded datatypes
    grounded_exactly = (
      λ g s d. sorted_value g s,
      λ h. in_every (inhabited cx) (datatypes cx)
          (λ s i. let d = (keep_in (is_datatype_sort cx) (range 0 (length cx.sorts)) s i).1 in (inhabited_tree s d).1 (h s d)),
    )

  pub inhabits : Inhabits cx
  inhabits = record {
    one_more_round = one_more_round;
    closed = inhabited_closed;
    least = inhabited_least;
    without_constructors = without_constructors;
    tree = inhabited_tree;
    question = grounded_exactly;
  }

-- ---- terms have no part in it

module _ (cx : Context) (new : List Term) where
  rounds_kept : (k : ℕ) → rounds (grown cx new) k ≡ rounds cx k
  unfolding rounds round datatypes grounded dt_constructors has_ready_fields ready builds is_datatype_sort sort_node symbol
  rounds_kept zero = refl
  rounds_kept (suc k) = ap (round cx) (rounds_kept k)

pub grounded_kept : (a b : Context) → Extends a b → T (all_grounded a) → T (all_grounded b)
unfolding all_grounded inhabited_datatypes datatypes is_datatype_sort sort_node
grounded_kept a b (new, e) g =
    subst⁻¹ (λ (cx : Context). T (all_grounded cx)) e
    (subst⁻¹ (λ (found : List ℕ). T (every (those found) (datatypes a))) (rounds_kept a new (length a.sorts)) g)
