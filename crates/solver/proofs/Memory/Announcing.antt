-- A mark set: it stands at its term, the other marks are as they were, and a constructor application is announced in its block.
use Rattle.shinri_core.proofs.Kit.{ℕ, ◌/◌, ◌≤◌, ◌<◌, ◌≡◌, refl, sym, ap, ◌∙◌, Bool, true, false, cond, List, arith, T, eqb, eq-eqb, ne_eqb, eqb-true, eqb-false, ℕ_discrete, length}
use Rattle.shinri_core.specs.Limits.{max_terms, table_words}
use Rattle.shinri_core.specs.Memory.Words.{at, put, one_of, Kept}
use Rattle.shinri_core.proofs.Memory.Stores.{other_place}
use Rattle.solver.specs.Memory.Table.{BLOCK, block_terms, MARK, solver_room, is_set, Announced}
use Rattle.solver.specs.Memory.Recording.{with_mark}
use Rattle.solver.proofs.Memory.TableStores.{other, same, region, long, kept_put}

-- the code's two ways
module _ (s : List ℕ) (x k : ℕ) where
  pub marked_app : {s₁ u : List ℕ} → s₁ ≡ put s MARK x k → k ≡ 1 → u ≡ put s₁ BLOCK (x / block_terms) 1 → u ≡ with_mark s x k
  unfolding with_mark
  marked_app e q f = rw (eq-eqb k 1 q) (f ∙ ap (λ (t : List ℕ). put t BLOCK (x / block_terms) 1) e)

  pub marked_other : {u : List ℕ} → u ≡ put s MARK x k → (k ≡ 1 → ⊥) → u ≡ with_mark s x k
  unfolding with_mark
  marked_other e d = rw (ne_eqb k 1 d) e

module _ (s : List ℕ) (x k : ℕ) (h : x < max_terms) where
  abbrev marked : List ℕ
  marked = put s MARK x k

  abbrev announced : List ℕ
  announced = put marked BLOCK (x / block_terms) 1

  -- the mark alone, or with its block
  either : (P : List ℕ → Type 0) → ((k ≡ 1 → ⊥) → P marked) → (k ≡ 1 → P announced) → P (with_mark s x k)
  unfolding with_mark
  either P p q = go (eqb k 1) refl
    where
      go : (b : Bool) → eqb k 1 ≡ b → P (cond b announced marked)
      go true e = q (eqb-true k 1 e)
      go false e = p (eqb-false k 1 e)

  mark_of_announced : (y : ℕ) → y < max_terms → at announced MARK y ≡ at marked MARK y
  mark_of_announced y g = other marked MARK BLOCK y (x / block_terms) 1 tt g (omega arith)

  module _ (l : table_words ≤ length s) where
    pub mark_long : table_words ≤ length (with_mark s x k)
    mark_long =
        either (λ (u : List ℕ). table_words ≤ length u) (λ d. long s MARK x k l)
        (λ e. long marked BLOCK (x / block_terms) 1 (long s MARK x k l))

    pub mark_same : at (with_mark s x k) MARK x ≡ k
    mark_same =
        either (λ (u : List ℕ). at u MARK x ≡ k) (λ d. same s MARK x k tt l h) (λ e. mark_of_announced x h ∙ same s MARK x k tt l h)

    pub mark_other : (y : ℕ) → y < max_terms → (y ≡ x → ⊥) → at (with_mark s x k) MARK y ≡ at s MARK y
    mark_other y g d =
        either (λ (u : List ℕ). at u MARK y ≡ at s MARK y) (λ e. other_place s MARK x y k d)
        (λ e. mark_of_announced y g ∙ other_place s MARK x y k d)

    -- the block of a constructor application is set, and no block is taken back
    block_same : k ≡ 1 → at (with_mark s x k) BLOCK (x / block_terms) ≡ 1
    block_same q =
        either (λ (u : List ℕ). at u BLOCK (x / block_terms) ≡ 1) (λ d. absurd (d q))
        (λ e. same marked BLOCK (x / block_terms) 1 tt (long s MARK x k l) (omega arith))

    block_stays : (b : ℕ) → b < 32 → is_set (at s BLOCK b) ≡ true → is_set (at (with_mark s x k) BLOCK b) ≡ true
    unfolding is_set
    block_stays b g q =
        either (λ (u : List ℕ). is_set (at u BLOCK b) ≡ true) (λ d. ap is_set as_before ∙ q)
        (λ e. ap is_set (region marked BLOCK (x / block_terms) b 1 tt (long s MARK x k l) (omega arith)) ∙ set (eqb b (x / block_terms)))
      where
        as_before : at marked BLOCK b ≡ at s BLOCK b
        as_before = other s BLOCK MARK b x k tt g h

        set : (t : Bool) → is_set (cond t 1 (at marked BLOCK b)) ≡ true
        set true = refl
        set false = ap is_set as_before ∙ q

    pub mark_announced : Announced s MARK BLOCK → Announced (with_mark s x k) MARK BLOCK
    unfolding is_set
    mark_announced z y g q = go (ℕ_discrete y x)
      where
        go : Dec (y ≡ x) → is_set (at (with_mark s x k) BLOCK (y / block_terms)) ≡ true
        go (yes e) =
            let here : k ≡ 1 = sym mark_same ∙ ap (at (with_mark s x k) MARK) (sym e) ∙ q in
            ap (λ (v : ℕ). is_set (at (with_mark s x k) BLOCK (v / block_terms))) e ∙ ap is_set (block_same here)
        go (no d) = block_stays (y / block_terms) (omega arith) (z y g (sym (mark_other y g d) ∙ q))

  pub mark_kept : (ws t : List ℕ) → T (one_of MARK ws) → T (one_of BLOCK ws) → Kept solver_room ws t s →
      Kept solver_room ws t (with_mark s x k)
  mark_kept ws t m b z =
      let once = kept_put ws t s MARK x k m h z in
      either (Kept solver_room ws t) (λ d. once) (λ e. kept_put ws t marked BLOCK (x / block_terms) 1 b (omega arith) once)
