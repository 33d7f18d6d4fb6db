-- The marks of the argument pairs that an explanation has expanded.
use Rattle.shinri_core.proofs.Kit.{ℕ, ◌+◌, ◌/◌, ◌≤◌, ◌<◌, ◌≡◌, refl, sym, ap, ap₂, ◌∙◌, Bool, true, false, cond, not, ◌&&◌, ◌||◌, zero, suc, true≢false, List, arith, zero-add, ne_eqb, eqb, length, get_or, set, get_or-set_same}
use Rattle.std.proofs.Common.{Some}
use Rattle.shinri_core.specs.Limits.{max_terms, max_pairs}
use Rattle.shinri_core.specs.Memory.Words.{at, put}
use Rattle.shinri_core.proofs.Memory.Stores.{other_place}
use Rattle.theory.specs.EqEngine.{pairs_in_force, same_pair}
use Rattle.theory.specs.Memory.Table.{LEFT, first_word, indexed#, is_pair, merges, EngineSound}
use Rattle.theory.specs.declared.eq_engine.Pair as Pair
use Rattle.theory.specs.Memory.Steps.{FindsPair, IsPairAt}
use Rattle.theory.specs.Memory.Explaining.{MARKS, marked, mark_of, MarksPair}
use Rattle.theory.proofs.Memory.PairIndex.{first_alike, alike_first}

-- the nodes q of argument pair j are tested in one order (r), then in the other (s)
module _ (t : List ℕ) (j a b : ℕ) {q : Pair.Pair} {r : Bool} (h : IsPairAt t j q) (p : r ≡ (eqb q.left a && eqb q.right b)) where
  either : same_pair q.left q.right (a, b) ≡ is_pair t j (a, b)
  either = ap₂ (λ (u v : ℕ). same_pair u v (a, b)) h.left h.right

  pub tested_first : r ≡ true → r ≡ is_pair t j (a, b)
  unfolding same_pair
  tested_first e = e ∙ sym (ap (λ (u : Bool). u || (eqb q.left b && eqb q.right a)) (sym p ∙ e)) ∙ either

  pub tested_other : {s : Bool} → r ≡ false → s ≡ (eqb q.left b && eqb q.right a) → s ≡ is_pair t j (a, b)
  unfolding same_pair
  tested_other e f = f ∙ sym (ap (λ (u : Bool). u || (eqb q.left b && eqb q.right a)) (sym p ∙ e)) ∙ either

-- the region of the marks begins at 0, so a place of it is a place of the list
get_or_at : (ks : List ℕ) (i : ℕ) → get_or ks i 0 ≡ at ks MARKS i
unfolding at
get_or_at ks i = ap (λ (x : ℕ). get_or ks x 0) (sym (zero-add i))

set_put : (ks : List ℕ) (i v : ℕ) → set ks i v ≡ put ks MARKS i v
unfolding put
set_put ks i v = ap (λ (x : ℕ). set ks x v) (sym (zero-add i))

-- The pair of a and b is expanded: the first of the pairs of these nodes is marked, if there is one.
module _ {t : List ℕ} (a b : ℕ) (z : EngineSound t) where
  module _ {k : ℕ} (w : FindsPair t a b (Some k)) where
    found : k < indexed# t
    found = w.0

    -- another first pair, other nodes
    apart_firsts : (j : ℕ) → j < indexed# t → is_pair t j (a, b) ≡ false → (first_word t j ≡ first_word t k → ⊥)
    apart_firsts j l o q =
        true≢false (sym (first_alike a b z j k l found q w.1) ∙ o)

    -- the same nodes, one first pair
    one_first : (j : ℕ) → j < indexed# t → is_pair t j (a, b) ≡ true → first_word t j ≡ first_word t k
    one_first j l o = alike_first a b z j k l found o w.1

    -- with any number that is a mark
    mark_first : {f : ℕ} (v : ℕ) {ks ls : List ℕ} → f < length ks → f ≡ first_word t k → marked v ≡ true → ls ≡ put ks MARKS f v →
        MarksPair t a b ks ls
    unfolding at put
    mark_first {f} v {ks} {ls} m g s h =
        record { each = λ j l. let c = z.covers in go j (omega arith) (is_pair t j (a, b)) refl }
      where
        go : (j : ℕ) → j < indexed# t → (r : Bool) → is_pair t j (a, b) ≡ r → mark_of t ls j ≡ cond r true (mark_of t ks j)
        go j l true o =
            ap (λ (u : List ℕ). marked (at u MARKS (first_word t j))) h
            ∙ ap (λ (x : ℕ). marked (at (put ks MARKS f v) MARKS x)) (one_first j l o ∙ sym g)
            ∙ ap marked (get_or-set_same ks (MARKS + f) v 0 (omega arith))
            ∙ s
        go j l false o =
            ap (λ (u : List ℕ). marked (at u MARKS (first_word t j))) h
            ∙ ap marked (other_place ks MARKS f (first_word t j) v (λ q. apart_firsts j l o (q ∙ g)))

    pub mark_one : {u : ℕ} (v : ℕ) {ks : List ℕ} → u / max_terms < length ks → u ≡ at t LEFT k → marked v ≡ true →
        MarksPair t a b ks (set ks (u / max_terms) v)
    mark_one {u} v {ks} m r s = mark_first v m (ap (λ (x : ℕ). x / max_terms) r) s (set_put ks (u / max_terms) v)

    -- the first pair has no mark: it is not in force, so no pair of these nodes is
    pub mark_behind : {v : ℕ} {ks : List ℕ} → pairs_in_force (merges t) ≤ length ks → v ≡ at t LEFT k → length ks ≤ v / max_terms →
        MarksPair t a b ks ks
    mark_behind {v} {ks} m r h = record { each = λ j l. go j l (is_pair t j (a, b)) refl }
      where
        go : (j : ℕ) → j < pairs_in_force (merges t) → (q : Bool) → is_pair t j (a, b) ≡ q → mark_of t ks j ≡ cond q true (mark_of t ks j)
        go j l true o =
            let c = z.covers in
            let i : j < indexed# t = omega arith in
            let lower = z.indexed.firsts.lower j i in
            let first = one_first j i o in
            let e = ap (λ (w : ℕ). w / max_terms) r in
            absurd (omega arith)
        go j l false o = refl

-- ---- asking for a mark

-- the first pair of a pair in force has a mark
module _ {t : List ℕ} {j : ℕ} (z : EngineSound t) (l : j < pairs_in_force (merges t)) where
  pub mark_in : (j < max_pairs) × (first_word t j < pairs_in_force (merges t))
  mark_in =
      let c = z.covers in
      let o = z.indexed.firsts.lower j (omega arith) in
      let f = z.indexed.fit in
      (omega arith, omega arith)

-- by the word v that was read, and the mark at the place that it names
pub mark_read : (t ks : List ℕ) (j : ℕ) {v : ℕ} → v ≡ at t LEFT j → not (eqb (get_or ks (v / max_terms) 0) 0) ≡ mark_of t ks j
unfolding marked
mark_read t ks j {v} e =
    go (get_or ks (v / max_terms) 0) ∙ ap marked (get_or_at ks (v / max_terms) ∙ ap (λ (w : ℕ). at ks MARKS (w / max_terms)) e)
  where
    go : (n : ℕ) → not (eqb n 0) ≡ marked n
    go zero = refl
    go (suc n) = ap not (ne_eqb (suc n) 0 (λ e. absurd (omega arith)))
