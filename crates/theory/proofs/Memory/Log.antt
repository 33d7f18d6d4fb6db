-- The log of merges: tables that agree on its first merges give the same list of merges; how many merges and argument pairs there are;
-- a label's word taken apart.
use Rattle.shinri_core.proofs.Kit.{ℕ, zero, suc, ◌+◌, ◌-◌, ◌≤◌, ◌<◌, ◌≡◌, refl, sym, subst, ap, ap₂, ◌∙◌, inl, inr, List, ◌∷◌, arith, dec_le, length}
use Rattle.shinri_core.specs.Limits.{max_terms, max_pairs}
use Rattle.shinri_core.specs.Lists.{In, total}
use Rattle.shinri_core.proofs.Lists.{length_map_range, map_range_cong}
use Rattle.theory.specs.Types.{Congruence}
use Rattle.theory.specs.EqEngine.{Merge, pairs_of, pairs_in_force}
use Rattle.theory.specs.Memory.Replay.{IsNode}
use Rattle.theory.specs.Memory.Table.{merges#, label_word, value_word, after_word, pair_at, kind_unit, label_code, level_of, kind_of, theory_of, label, begins, just_at, merge_at, pairs_start, merges_below, merges, EngineSound}
use Rattle.theory.specs.Memory.Steps.{SameEntry, SamePairs, SameLog}
use Rattle.theory.proofs.Classes.{Suffix}
use Rattle.theory.proofs.Forest.{Joins}
use Rattle.theory.proofs.Sizes.{Within}
use Rattle.theory.proofs.Explain.{justified_joins}

-- ---- a label's word

pub level_is : (l k h : ℕ) → k < 3 → h < kind_unit → level_of (label_code l k h) ≡ l
level_is l k h p q = omega arith

pub kind_is : (l k h : ℕ) → k < 3 → h < kind_unit → kind_of (label_code l k h) ≡ k
kind_is l k h p q = omega arith

pub theory_is : (l k h : ℕ) → k < 3 → h < kind_unit → theory_of (label_code l k h) ≡ h
theory_is l k h p q = omega arith

-- ---- tables that agree

pub label_same : (t u : List ℕ) (k h v e : ℕ) → SamePairs t u e → label u k h v e ≡ label t k h v e
unfolding label
label_same t u zero h v e p = refl
label_same t u (suc zero) h v e p =
    ap Congruence (map_range_cong (pair_at u) (pair_at t) v (e - v)
    (λ j l g. let q = p j (omega arith) in ap₂ (λ (x y : ℕ). (x, y)) q.0 q.1))
label_same t u (suc (suc k)) h v e p = refl

pub just_same : (t u : List ℕ) (i : ℕ) → SameEntry t u i → SamePairs t u (after_word t i) → just_at u i ≡ just_at t i
unfolding just_at
just_same t u i s p =
    ap (λ (w : ℕ). label u (kind_of w) (theory_of w) (value_word u i) (after_word u i)) s.label
    ∙ ap₂ (label u (kind_of (label_word t i)) (theory_of (label_word t i))) s.value s.after
    ∙ label_same t u (kind_of (label_word t i)) (theory_of (label_word t i)) (value_word t i) (after_word t i) p

pub merge_same : (t u : List ℕ) (i : ℕ) → SameEntry t u i → SamePairs t u (after_word t i) → merge_at u i ≡ merge_at t i
unfolding merge_at
merge_same t u i s p =
    let j = just_same t u i s p in
    let l = ap level_of s.label in
    λ n. record { a = s.a n; b = s.b n; just = j n; level = l n }

pub start_same : (t u : List ℕ) (i : ℕ) → SameEntry t u i → pairs_start u i ≡ pairs_start t i
unfolding pairs_start
start_same t u i s =
    ap (λ (w : ℕ). begins (kind_of w) (value_word u i) (after_word u i)) s.label ∙ ap₂ (begins (kind_of (label_word t i))) s.value
    s.after

pub log_shorter : (t u : List ℕ) (n m : ℕ) → m ≤ n → SameLog t u n → SameLog t u m
log_shorter t u n m l s = record { entries = λ i h. s.entries i (omega arith); pairs = λ i h. s.pairs i (omega arith) }

pub below_same : (t u : List ℕ) (n : ℕ) → SameLog t u n → merges_below u n ≡ merges_below t n
unfolding merges_below
below_same t u zero s = refl
below_same t u (suc n) s =
    ap₂ (λ (m : Merge) (ms : List Merge). m ∷ ms) (merge_same t u n (s.entries n (omega arith)) (s.pairs n (omega arith)))
    (below_same t u n (log_shorter t u (suc n) n (omega arith) s))

-- ---- merges

below_length : (t : List ℕ) (n : ℕ) → length (merges_below t n) ≡ n
unfolding merges_below
below_length t zero = refl
below_length t (suc n) = ap suc (below_length t n)

pub merges_length : (t : List ℕ) → length (merges t) ≡ merges# t
unfolding merges
merges_length t = below_length t (merges# t)

-- the first merges are those of some time before
pub below_suffix : (t : List ℕ) (m n : ℕ) → m ≤ n → Suffix (merges_below t m) (merges_below t n)
unfolding merges_below
below_suffix t zero zero h = refl
below_suffix t (suc m) zero h = absurd (omega arith)
below_suffix t m (suc n) h = step (dec_le m n) (below_suffix t m n)
  where
    step : Dec (m ≤ n) → (m ≤ n → Suffix (merges_below t m) (merges_below t n)) → Suffix (merges_below t m) (merges_below t (suc n))
    step (yes l) f = inr (f l)
    step (no l) f = let e : m ≡ suc n = omega arith in inl (ap (merges_below t) e)

in_below : (t : List ℕ) (n : ℕ) (m : Merge) → In m (merges_below t n) → (i : ℕ) × (i < n) × (m ≡ merge_at t i)
unfolding merges_below
in_below t zero m k = absurd k
in_below t (suc n) m (inl e) = (n, omega arith, e)
in_below t (suc n) m (inr k) = let (i, h, e) = in_below t n m k in (i, omega arith, e)

-- the sides of all merges are nodes
pub merges_within : (t : List ℕ) → EngineSound t → Within max_terms (merges t)
unfolding merges merge_at
merges_within t z m k =
    let (i, h, e) = in_below t (merges# t) m k in
    subst (λ (x : Merge). IsNode x.a × IsNode x.b) (sym e) (z.entries i h).nodes

-- each merge joined two classes
pub sound_joins : (t : List ℕ) → EngineSound t → Joins (merges t)
sound_joins t z = justified_joins (merges t) z.justified

-- the merges of a table with one at least
pub newest_first : (t : List ℕ) (i : ℕ) → merges# t ≡ suc i → merges t ≡ merge_at t i ∷ merges_below t i
unfolding merges merges_below
newest_first t i e = ap (merges_below t) e

-- ---- argument pairs in force

pub pairs_more : (m : Merge) (ms : List Merge) → pairs_in_force (m ∷ ms) ≡ length (pairs_of m.just) + pairs_in_force ms
unfolding pairs_in_force total
pairs_more m ms = refl

pub label_length : (t : List ℕ) (k h v e : ℕ) → begins k v e ≤ e → length (pairs_of (label t k h v e)) + begins k v e ≡ e
unfolding label begins pairs_of
label_length t zero h v e l = omega arith
label_length t (suc zero) h v e l = omega (arith, length_map_range {A = ℕ × ℕ} (pair_at t) v (e - v))
label_length t (suc (suc k)) h v e l = omega arith

after_is : (t : List ℕ) (i : ℕ) → EngineSound t → i < merges# t → after_word t i ≡ pairs_in_force (merges_below t (suc i))
unfolding merges_below merge_at just_at pairs_start
after_is t i z h =
    let s = (z.entries i h).start in
    let w = label_word t i in
    let e = label_length t (kind_of w) (theory_of w) (value_word t i) (after_word t i) (z.entries i h).fit.0 in
    let p = pairs_more (merge_at t i) (merges_below t i) in
    omega arith

-- the newest merge says how many there are
newest_pairs : (t : List ℕ) (i : ℕ) → EngineSound t → merges# t ≡ suc i → after_word t i ≡ pairs_in_force (merges t)
unfolding merges
newest_pairs t i z e = after_is t i z (omega arith) ∙ ap (λ (k : ℕ). pairs_in_force (merges_below t k)) (sym e)

pub pairs_newest : {t : List ℕ} {n r : ℕ} → EngineSound t → n ≡ merges# t → (n ≡ 0 → ⊥) → r ≡ after_word t (n - 1) →
    (r ≡ pairs_in_force (merges t)) × (r ≤ max_pairs)
pairs_newest {t} {n} z e h f =
    let p = newest_pairs t (n - 1) z (omega arith) in
    let b = (z.entries (n - 1) (omega arith)).fit in
    (f ∙ p, omega arith)

no_pairs : (t : List ℕ) → merges# t ≡ 0 → 0 ≡ pairs_in_force (merges t)
unfolding merges merges_below pairs_in_force total
no_pairs t e = sym (ap (λ (k : ℕ). pairs_in_force (merges_below t k)) e)

pub pairs_none : (t : List ℕ) {n : ℕ} → n ≡ merges# t → n ≡ 0 → (0 ≡ pairs_in_force (merges t)) × (0 ≤ max_pairs)
pairs_none t e f = (no_pairs t (sym e ∙ f), omega arith)

-- pairs in force of some time before are no more
pub pairs_fewer : (t : List ℕ) (i n : ℕ) → i ≤ n → pairs_in_force (merges_below t i) ≤ pairs_in_force (merges_below t n)
unfolding merges_below
pairs_fewer t i zero h = let e : i ≡ 0 = omega arith in let q = ap (λ (k : ℕ). pairs_in_force (merges_below t k)) e in omega arith
pairs_fewer t i (suc n) h = go (dec_le i n) (pairs_fewer t i n)
  where
    go : Dec (i ≤ n) → (i ≤ n → pairs_in_force (merges_below t i) ≤ pairs_in_force (merges_below t n)) →
        pairs_in_force (merges_below t i) ≤ pairs_in_force (merges_below t (suc n))
    go (yes l) f = let r = f l in omega (arith, pairs_more (merge_at t n) (merges_below t n))
    go (no l) f = let e : i ≡ suc n = omega arith in let q = ap (λ (k : ℕ). pairs_in_force (merges_below t k)) e in omega arith

-- the pairs of every merge stand below the pairs in force
pub after_within : (t : List ℕ) (i : ℕ) → EngineSound t → i < merges# t → after_word t i ≤ pairs_in_force (merges t)
unfolding merges
after_within t i z h = let e = after_is t i z h in let l = pairs_fewer t (suc i) (merges# t) h in omega arith

pub in_force_few : (t : List ℕ) → EngineSound t → pairs_in_force (merges t) ≤ max_pairs
in_force_few t z = go (merges# t) refl
  where
    go : (n : ℕ) → merges# t ≡ n → pairs_in_force (merges t) ≤ max_pairs
    go zero e = let h = no_pairs t e in omega arith
    go (suc i) e = let h = newest_pairs t i z e in let f = (z.entries i (omega arith)).fit in omega arith
