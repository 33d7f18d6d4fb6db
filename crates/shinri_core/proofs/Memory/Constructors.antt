-- Constructors of a datatype, and question 10, by what the view has of symbols and sorts.
use Rattle.shinri_core.proofs.Kit.{ℕ, ◌+◌, ◌≤◌, ◌<◌, ◌≡◌, refl, sym, ap, ◌∙◌, Bool, true, false, not, ◌&&◌, ◌||◌, List, arith, eqb, length, get_or}
use Rattle.shinri_core.specs.Lists.{In, every, any, range}
use Rattle.shinri_core.specs.Context.{symbol, is_constructor, is_datatype_sort, builds, datatypes, ready, has_ready_fields}
use Rattle.shinri_core.specs.Memory.Words.{counted}
use Rattle.shinri_core.specs.Memory.Table.{context, NoneBuilds, LowestConstructor, marked, adds}
use Rattle.shinri_core.specs.Memory.Codes.{role_meaning, RoleAt}
use Rattle.shinri_core.specs.declared.term.DtRole as DtRole
use Rattle.shinri_core.proofs.Lists.{any_same}
use Rattle.shinri_core.proofs.Memory.Counted.{counted_range, counted_list}
use Rattle.shinri_core.proofs.Memory.Searching.{Searched, search_next, any_found, any_missing, every_by_any, any_kept}

-- ---- constructors

is_ctor : (r : DtRole.DtRole) → r ≡ DtRole.TheVariants.Constructor → is_constructor (role_meaning r) ≡ true
unfolding is_constructor role_meaning
is_ctor r e = rw e

not_ctor : (r : DtRole.DtRole) → (r ≡ DtRole.TheVariants.Constructor → ⊥) → is_constructor (role_meaning r) ≡ false
unfolding is_constructor role_meaning
not_ctor DtRole.TheVariants.Constructor n = absurd (n refl)
not_ctor (DtRole.TheVariants.Tester c) n = refl
not_ctor (DtRole.TheVariants.Selector c i) n = refl
not_ctor DtRole.TheVariants.Function n = refl

module _ {t : List ℕ} {s : ℕ} {r : DtRole.DtRole} {b : Bool} (dt : ℕ) (o : RoleAt t s r) where
  pub other_builds : (r ≡ DtRole.TheVariants.Constructor → ⊥) → b ≡ false → b ≡ builds (context t) dt s
  unfolding builds
  other_builds n e = rw (e, ← o.is, not_ctor r n)

  pub ctor_builds : {q : ℕ} → r ≡ DtRole.TheVariants.Constructor → q ≡ (symbol (context t) s).result → b ≡ eqb q dt →
      b ≡ builds (context t) dt s
  unfolding builds
  ctor_builds e p d = rw (← o.is, is_ctor r e, ← p) d

module _ (t : List ℕ) (dt : ℕ) {from s n : ℕ} (w : Searched (builds (context t) dt) from s n) (e : n ≡ length (context t).symbols) where
  pub seek_found : (b : Bool) → s < n → b ≡ builds (context t) dt s → b ≡ true → LowestConstructor t dt from s
  seek_found b h r q = record { after = w.after; within = omega arith; between = w.none; here = sym r ∙ q }

  pub seek_next : (b : Bool) → s < n → b ≡ builds (context t) dt s → b ≡ false → Searched (builds (context t) dt) from (s + 1) n
  seek_next b h r q = search_next w h (sym r ∙ q)

  pub seek_none : n ≤ s → NoneBuilds t dt from (length (context t).symbols)
  seek_none l k g h = w.none k g (omega arith)

-- ---- question 10: sorts

module _ (t : List ℕ) (m : List Bool) (s : ℕ) {d : Bool} (e : d ≡ is_datatype_sort (context t) s) where
  pub other_ready : not d ≡ true → not d ≡ ready (context t) (marked m) s
  unfolding ready
  other_ready q = rw (← e, q)

  pub datatype_ready : not d ≡ false → get_or m s false ≡ ready (context t) (marked m) s
  unfolding ready marked
  datatype_ready q = rw (← e, q)

-- a sort is not ready
abbrev pub Unready : List ℕ → List Bool → ℕ → Bool
Unready t m s = not (ready (context t) (marked m) s)

-- ---- question 10: fields

-- field i of symbol c is not ready
abbrev pub UnreadyField : List ℕ → List Bool → ℕ → ℕ → Bool
UnreadyField t m c i = Unready t m (get_or (symbol (context t) c).params i 0)

module _ (t : List ℕ) (m : List Bool) (c n : ℕ) (e : n ≡ length (symbol (context t) c).params) where
  abbrev fields : List ℕ
  fields = (symbol (context t) c).params

  fields_are : not (any (Unready t m) (counted (λ i. get_or fields i 0) n)) ≡ has_ready_fields (context t) (marked m) c
  unfolding has_ready_fields
  fields_are =
      ap (λ (xs : List ℕ). not (any (Unready t m) xs)) (counted_list (λ i. get_or fields i 0) n fields e (λ i l. refl))
      ∙ sym (every_by_any (ready (context t) (marked m)) fields)

  module _ (i p : ℕ) (r : Bool) (l : i < n) (q : p ≡ get_or (symbol (context t) c).params i 0)
      (w : r ≡ ready (context t) (marked m) p) where
    field_is : UnreadyField t m c i ≡ not r
    field_is = ap (λ (x : ℕ). Unready t m x) (sym q) ∙ ap not (sym w)

    pub field_ready : Searched (UnreadyField t m c) 0 i n → not r ≡ false → Searched (UnreadyField t m c) 0 (i + 1) n
    field_ready v o = search_next v l (field_is ∙ o)

    pub field_unready : not r ≡ true → false ≡ has_ready_fields (context t) (marked m) c
    field_unready o = sym (ap not (any_found (Unready t m) (λ j. get_or fields j 0) n i l (field_is ∙ o))) ∙ fields_are

  pub fields_ready : (i : ℕ) → n ≤ i → Searched (UnreadyField t m c) 0 i n → true ≡ has_ready_fields (context t) (marked m) c
  fields_ready i l w =
      sym (ap not (any_missing (Unready t m) (λ j. get_or fields j 0) n (λ k a b. w.none k a (omega arith)))) ∙ fields_are

-- ---- question 10: a datatype is found by its constructor

module _ {t : List ℕ} (m : List Bool) {c : ℕ} {r : DtRole.DtRole} {b : Bool} (o : RoleAt t c r) where
  pub other_adds : (r ≡ DtRole.TheVariants.Constructor → ⊥) → b ≡ false → b ≡ adds (context t) (marked m) c
  unfolding adds
  other_adds n e = rw (e, ← o.is, not_ctor r n)

  module _ {p : ℕ} {d : Bool} (e : r ≡ DtRole.TheVariants.Constructor) (f : p ≡ (symbol (context t) c).result)
      (g : d ≡ ready (context t) (marked m) p) where
    pub ready_adds : not d ≡ false → b ≡ false → b ≡ adds (context t) (marked m) c
    unfolding adds
    ready_adds q k = rw (← o.is, is_ctor r e, ← f, ← g, q) k

    pub fields_add : not d ≡ true → b ≡ has_ready_fields (context t) (marked m) c → b ≡ adds (context t) (marked m) c
    unfolding adds
    fields_add q k = rw (← o.is, is_ctor r e, ← f, ← g, q) k

-- ---- question 10: all datatypes

module _ (t : List ℕ) (m : List Bool) (n : ℕ) (e : n ≡ length (context t).sorts) where
  all_found_is : not (any (Unready t m) (counted (λ i. i) n)) ≡ every (marked m) (datatypes (context t))
  unfolding datatypes ready
  all_found_is =
      ap not
      (ap (any (Unready t m)) (counted_range n ∙ ap (range 0) e)
      ∙ any_same (Unready t m) (λ s. is_datatype_sort (context t) s && not (marked m s)) (range 0 (length (context t).sorts)) each
      ∙ sym (any_kept (is_datatype_sort (context t)) (λ s. not (marked m s)) (range 0 (length (context t).sorts))))
      ∙ sym (every_by_any (marked m) (datatypes (context t)))
    where
      turn : (a b : Bool) → not (not a || b) ≡ (a && not b)
      turn true b = refl
      turn false b = refl

      each : (s : ℕ) → In s (range 0 (length (context t).sorts)) → Unready t m s ≡ (is_datatype_sort (context t) s && not (marked m s))
      each s i = turn (is_datatype_sort (context t) s) (marked m s)

  pub one_unready : (s : ℕ) (r : Bool) → s < n → r ≡ ready (context t) (marked m) s → not r ≡ true →
      false ≡ every (marked m) (datatypes (context t))
  one_unready s r h w o = sym (ap not (any_found (Unready t m) (λ i. i) n s h (ap not (sym w) ∙ o))) ∙ all_found_is

  pub sort_ready : (s : ℕ) (r : Bool) → Searched (Unready t m) 0 s n → s < n → r ≡ ready (context t) (marked m) s → not r ≡ false →
      Searched (Unready t m) 0 (s + 1) n
  sort_ready s r v h w o = search_next v h (ap not (sym w) ∙ o)

  pub sorts_ready : (s : ℕ) → n ≤ s → Searched (Unready t m) 0 s n → true ≡ every (marked m) (datatypes (context t))
  sorts_ready s h w = sym (ap not (any_missing (Unready t m) (λ i. i) n (λ k a b. w.none k a (omega arith)))) ∙ all_found_is
