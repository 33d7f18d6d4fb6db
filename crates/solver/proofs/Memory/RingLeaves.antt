-- The conflict of a ring: where on the path the ring begins, and the leaves of its edges, one after the other.
use Rattle.shinri_core.proofs.Kit.{ℕ, suc, ◌+◌, ◌-◌, ◌≤◌, ◌<◌, ◌≡◌, refl, sym, ap, ◌∙◌, Bool, true, false, cond, List, [], ◌∷◌, ◌++◌, append_assoc, append-nil, arith, eq-eqb, ne_eqb, eqb, length, replicate}
use Rattle.std.specs.Prelude.{Ok, Err}
use lib.ListN.{length-replicate}
use Rattle.shinri_core.proofs.Lists.{zeros}
use Rattle.shinri_core.specs.Lists.{any, range}
use Rattle.shinri_core.specs.Memory.Words.{at}
use Rattle.theory.specs.Types.{EqLeaf, same_leaf}
use Rattle.theory.specs.EqEngine.{Merge, explain, firsts_after, firsts}
use Rattle.theory.specs.Memory.Table.{merges}
use Rattle.theory.specs.Memory.Answer.{leaves, has_leaf, AnswerSound, Cleared}
use Rattle.theory.specs.Memory.Explaining.{Explainable, Explains}
use Rattle.solver.specs.Ring.{Edge, below_entry, ring_edges, edge_leaves, acyclicity_conflict}
use Rattle.solver.specs.Check.{ring_answer}
use Rattle.solver.specs.declared.answer.TCheck as TCheck
use Rattle.solver.specs.declared.ring.Cycle.{Cycle}
use Rattle.solver.specs.Memory.Table.{state_with}
use Rattle.solver.specs.Memory.Answer.{answer_meaning}
use Rattle.solver.specs.Memory.Checks.{Rings}
use Rattle.solver.specs.Memory.Walking.{PATH_APP, PATH_VIA, ring_size, path, Unmet, RingAt, CycleOutcome, edge_at, edges, RingBegins, RingLeaves}

-- ---- first occurrences

any_middle : (p : EqLeaf → Bool) (s t : List EqLeaf) (x : EqLeaf) → cond (p x) true (any p (s ++ t)) ≡ any p (s ++ (x ∷ t))
unfolding any
any_middle p [] t x = refl
any_middle p (y ∷ s) t x = go (p x) (p y) (any_middle p s t x)
  where
    go : (a b : Bool) → cond a true (any p (s ++ t)) ≡ any p (s ++ (x ∷ t)) →
        cond a true (cond b true (any p (s ++ t))) ≡ cond b true (any p (s ++ (x ∷ t)))
    go true true h = refl
    go true false h = h
    go false true h = refl
    go false false h = h

-- it matters which leaves were seen, not in what order
seen_same : (s t ls : List EqLeaf) → ((k : EqLeaf) → has_leaf k s ≡ has_leaf k t) → firsts_after s ls ≡ firsts_after t ls
unfolding firsts_after any
seen_same s t [] h = refl
seen_same s t (l ∷ ls) h =
    rw (h l, seen_same s t ls h, seen_same (l ∷ s) (l ∷ t) ls (λ k. ap (λ (b : Bool). cond (same_leaf k l) true b) (h k)))

-- those of two lists, one after the other
firsts_append : (seen as' bs : List EqLeaf) →
    firsts_after seen (as' ++ bs) ≡ firsts_after seen as' ++ firsts_after (seen ++ firsts_after seen as') bs
unfolding firsts_after
firsts_append seen [] bs = ap (λ (s : List EqLeaf). firsts_after s bs) (sym (append-nil seen))
firsts_append seen (l ∷ as') bs =
    go (any (same_leaf l) seen) (firsts_append seen as' bs)
    (firsts_append (l ∷ seen) as' bs ∙ ap (λ (ks : List EqLeaf). F ++ ks) (seen_same (l ∷ seen ++ F) (seen ++ (l ∷ F)) bs each))
  where
    F : List EqLeaf
    F = firsts_after (l ∷ seen) as'

    each : (k : EqLeaf) → has_leaf k (l ∷ seen ++ F) ≡ has_leaf k (seen ++ (l ∷ F))
    each k = unfold any in any_middle (same_leaf k) seen F l

    go : (b : Bool) → firsts_after seen (as' ++ bs) ≡ firsts_after seen as' ++ firsts_after (seen ++ firsts_after seen as') bs →
        firsts_after (l ∷ seen) (as' ++ bs) ≡ F ++ firsts_after (seen ++ (l ∷ F)) bs →
        cond b (firsts_after seen (as' ++ bs)) (l ∷ firsts_after (l ∷ seen) (as' ++ bs))
        ≡ cond b (firsts_after seen as') (l ∷ F) ++ firsts_after (seen ++ cond b (firsts_after seen as') (l ∷ F)) bs
    go true h g = h
    go false h g = ap (λ (ks : List EqLeaf). l ∷ ks) g

-- ---- where the ring begins

edges_none : (r : List ℕ) (k n : ℕ) → n ≤ k → edges r k n ≡ []
unfolding edges range
edges_none r k n h = let e : n - k ≡ 0 = omega arith in rw e

edges_step : (r : List ℕ) (k n : ℕ) → k < n → edges r k n ≡ edge_at r k ∷ edges r (suc k) n
unfolding edges range
edges_step r k n h = let e : n - k ≡ suc (n - suc k) = omega arith in rw e

-- the application of place k and those behind it are not the ring's entry
pub record Seeks (r : List ℕ) (n app k : ℕ) : Type 0 where
  pub within : k ≤ n
  pub below : below_entry app (path r n) [] ≡ below_entry app (path r k) (edges r k n)

pub seek_first : (r : List ℕ) (n app : ℕ) → Seeks r n app n
seek_first r n app =
    record { within = omega arith; below = ap (below_entry app (path r n)) (sym (edges_none r n n (omega arith))) }

module _ {r : List ℕ} {n app k : ℕ} (s : Seeks r n app k) where
  step : (k ≡ 0 → ⊥) → below_entry app (path r n) []
      ≡ cond (eqb (at r PATH_APP (k - 1)) app) (edges r k n) (below_entry app (path r (k - 1)) (edge_at r (k - 1) ∷ edges r k n))
  step d =
      let e : k ≡ suc (k - 1) = omega arith in
      s.below
      ∙ ap (λ (j : ℕ). below_entry app (path r j) (edges r k n)) e
      ∙ unfold below_entry path edge_at in refl

  pub seek_found : (w : ℕ) → (k ≡ 0 → ⊥) → w ≡ at r PATH_APP (k - 1) → w ≡ app → RingBegins r n app k
  seek_found w d g q = record { within = s.within; below = step d ∙ rw (eq-eqb (at r PATH_APP (k - 1)) app (sym g ∙ q)) }

  pub seek_next : (w : ℕ) → (k ≡ 0 → ⊥) → w ≡ at r PATH_APP (k - 1) → (w ≡ app → ⊥) → Seeks r n app (k - 1)
  seek_next w d g q =
      let l = s.within in
      let e : k ≡ suc (k - 1) = omega arith in
      record {
        within = omega arith;
        below =
            step d
            ∙ rw (ne_eqb (at r PATH_APP (k - 1)) app (λ z. q (g ∙ z)))
            (ap (below_entry app (path r (k - 1)))
            (ap (λ (j : ℕ). edge_at r (k - 1) ∷ edges r j n) e ∙ sym (edges_step r (k - 1) n (omega arith))));
      }

  pub seek_last : k ≡ 0 → RingBegins r n app 0
  seek_last z = record {
    within = omega arith;
    below = s.below ∙ ap (λ (j : ℕ). below_entry app (path r j) (edges r j n)) z ∙ unfold below_entry path in refl;
  }

-- ---- the leaves

-- the leaves of a table and those of the edges from place i on
unfoldable pub all_leaves : (e r : List ℕ) (n : ℕ) (o : List ℕ) (i : ℕ) → List EqLeaf
all_leaves e r n o i = leaves o ++ firsts_after (leaves o) (edge_leaves (merges e) (edges r i n))

-- the loop has come to place i
pub record Citing (e r : List ℕ) (n : ℕ) (o₀ : List ℕ) (start : ℕ) (o : List ℕ) (i : ℕ) : Type 0 where
  pub long : length o ≡ length o₀
  pub after : start ≤ i
  pub sound : AnswerSound (merges e) o
  pub all : all_leaves e r n o₀ start ≡ all_leaves e r n o i

-- an edge is explained
explained : (ms : List Merge) (us vs ks : List EqLeaf) (x y : ℕ) → vs ≡ us ++ firsts_after us (explain ms x y) →
    us ++ firsts_after us (explain ms x y ++ ks) ≡ vs ++ firsts_after vs ks
explained ms us vs ks x y e =
    let new = firsts_after us (explain ms x y) in
    rw (e, firsts_append us (explain ms x y) ks) (sym (append_assoc us new (firsts_after (us ++ new) ks)))

pub cite_first : {e r : List ℕ} {n : ℕ} {o : List ℕ} (start : ℕ) → AnswerSound (merges e) o → Citing e r n o start o start
cite_first start a = record { long = refl; after = omega arith; sound = a; all = refl }

pub cite_next : {e r : List ℕ} {n : ℕ} {o₀ : List ℕ} {start : ℕ} {o : List ℕ} {i : ℕ} {u : List ℕ} (x y : ℕ) →
    Citing e r n o₀ start o i → i < n → x ≡ at r PATH_VIA i → y ≡ at r PATH_APP i → Explains e x y o u → length u ≡ length o →
    Citing e r n o₀ start u (i + 1)
unfolding all_leaves
cite_next {e} {r} {n} {o₀} {start} {o} {i} {u} x y c h p q z l =
    let b = c.after in
    record { long = l ∙ c.long; after = omega arith; sound = z.sound; all = c.all ∙ ap from (edges_step r i n h) ∙ next (omega arith) }
  where
    from : List Edge → List EqLeaf
    from es = leaves o ++ firsts_after (leaves o) (edge_leaves (merges e) es)

    listed : leaves u ≡ leaves o ++ firsts_after (leaves o) (explain (merges e) (at r PATH_VIA i) (at r PATH_APP i))
    listed = rw (sym p, sym q) z.listed

    next : i + 1 ≡ suc i → from (edge_at r i ∷ edges r (suc i) n) ≡ all_leaves e r n u (i + 1)
    next k =
        unfold edge_leaves edge_at in
        rw k
        (explained (merges e) (leaves o) (leaves u) (edge_leaves (merges e) (edges r (suc i) n)) (at r PATH_VIA i)
        (at r PATH_APP i) listed)

-- the leaves of the whole ring
pub cite_ring : {e r : List ℕ} {p : Cycle} {start i : ℕ} {o₁ o₀ o : List ℕ} → RingBegins r p.len p.app.0 start → Cleared o₁ →
    Explains e p.field.0 p.app.0 o₁ o₀ → Citing e r p.len o₀ start o i → (i < p.len → ⊥) → RingLeaves e r p o
cite_ring {e} {r} {p} {start} {i} {o₁} {o₀} {o} b k x c d =
    record { sound = c.sound.words; are = sym (whole ∙ c.all ∙ last) }
  where
    field : ℕ
    field = p.field.0

    app : ℕ
    app = p.app.0

    n : ℕ
    n = p.len

    first : leaves o₀ ≡ [] ++ firsts_after [] (explain (merges e) field app)
    first = rw k.empty at x.listed

    whole : firsts (edge_leaves (merges e) (ring_edges field app (path r n))) ≡ all_leaves e r n o₀ start
    whole =
        unfold firsts ring_edges edge_leaves all_leaves in
        rw b.below (explained (merges e) [] (leaves o₀) (edge_leaves (merges e) (edges r start n)) field app first)

    last : all_leaves e r n o i ≡ leaves o
    last = unfold all_leaves edge_leaves firsts_after in rw (edges_none r i n (omega arith)) (append-nil (leaves o))

-- what explaining an edge of the path asks
pub edge_asks : {e r : List ℕ} {ring : Cycle} {o₀ : List ℕ} {start : ℕ} {o : List ℕ} {i : ℕ} (x y : ℕ) → RingAt e r ring →
    Citing e r ring.len o₀ start o i → i < ring.len → x ≡ at r PATH_VIA i → y ≡ at r PATH_APP i → Explainable e x y o
edge_asks {e} {r} {ring} {o₀} {start} {o} {i} x y a c h p q =
    let k = a.path i h in
    rw (p, q) (record { sound = a.engine; first = k.first; second = k.second; equal = k.equal; answer = c.sound })

-- ---- the rule

-- a new array
pub unmet_new : {r : List ℕ} (n : ℕ) → r ≡ replicate n 0 → ring_size ≤ n → Unmet r
unmet_new n e l = rw e (record { long = let h = length-replicate {A = ℕ} n 0 in omega arith; zero = zeros n })

pub rings_none : (c e w r o : List ℕ) → CycleOutcome c e w (Ok tt) r → Rings c e w TCheck.TheVariants.Sat o
unfolding answer_meaning ring_answer
rings_none c e w r o k = record { outcome = λ s lv. rw (k s lv); readable = tt }

pub rings_conflict : (c e w r : List ℕ) (p : Cycle) {o : List ℕ} → CycleOutcome c e w (Err p) r → RingLeaves e r p o →
    Rings c e w TCheck.TheVariants.Conflict o
unfolding answer_meaning ring_answer acyclicity_conflict state_with
rings_conflict c e w r p k l = record { outcome = λ s lv. rw (k.1 s lv, l.are); readable = l.sound }
