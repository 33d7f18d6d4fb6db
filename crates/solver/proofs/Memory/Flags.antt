-- Sets of terms as flags of a region: membership, one more member, and the members from a number on.
use Rattle.shinri_core.proofs.Kit.{ℕ, zero, suc, ◌+◌, ◌-◌, ◌≤◌, ◌<◌, ◌≡◌, refl, sym, ap, ◌∙◌, Bool, true, false, cond, List, [], ◌∷◌, foldl, inl, inr, eqb, eq-eqb, ne_eqb, le-ltb, ℕ_discrete, dec_lt, arith, true≢false}
use borrow.Author.Tests.{lt-ltb}
use Rattle.shinri_core.specs.Limits.{max_terms}
use Rattle.shinri_core.specs.Lists.{In, any, keep, range, mem, insert}
use Rattle.shinri_core.specs.Memory.Words.{at}
use Rattle.shinri_core.proofs.Lists.{range_in, in_range, keep_in, in_keep, T_true, true_T}
use Rattle.solver.specs.Memory.Table.{is_set, flagged_from}
use Rattle.solver.proofs.Basics.{mem_in, in_mem, by_test}

-- ---- members by a test

-- of n numbers from i on those that pass a test
abbrev pub members : (ℕ → Bool) → ℕ → ℕ → List ℕ
members p i n = keep p (range i n)

pub members_same : (p q : ℕ → Bool) (i n : ℕ) → ((x : ℕ) → i ≤ x → x < i + n → p x ≡ q x) → members p i n ≡ members q i n
unfolding keep range
members_same p q i zero h = refl
members_same p q i (suc n) h =
    rw (h i (omega arith) (omega arith), members_same p q (suc i) n (λ x l g. h x (omega arith) (omega arith)))

pub members_none : (p : ℕ → Bool) (i n : ℕ) → ((x : ℕ) → i ≤ x → x < i + n → p x ≡ false) → members p i n ≡ []
unfolding keep range
members_none p i zero h = refl
members_none p i (suc n) h =
    rw (h i (omega arith) (omega arith)) (members_none p (suc i) n (λ x l g. h x (omega arith) (omega arith)))

-- a test that x passes as well
abbrev pub also : ℕ → (ℕ → Bool) → ℕ → Bool
also x p y = cond (eqb y x) true (p y)

-- a number below all members comes first
insert_below : (x i n : ℕ) (p : ℕ → Bool) → x < i → insert x (members p i n) ≡ x ∷ members p i n
unfolding insert keep range
insert_below x i zero p h = refl
insert_below x i (suc n) p h = go (p i) (insert_below x (suc i) n p (omega arith))
  where
    go : (b : Bool) → insert x (members p (suc i) n) ≡ x ∷ members p (suc i) n →
        insert x (cond b (i ∷ members p (suc i) n) (members p (suc i) n)) ≡ x ∷ cond b (i ∷ members p (suc i) n) (members p (suc i) n)
    go true r = rw (lt-ltb x i h)
    go false r = r

pub insert_members : (x i n : ℕ) (p : ℕ → Bool) → i ≤ x → x < i + n → insert x (members p i n) ≡ members (also x p) i n
unfolding insert keep range
insert_members x i zero p l h = absurd (omega arith)
insert_members x i (suc n) p l h = go (ℕ_discrete x i) (λ d. insert_members x (suc i) n p (omega arith) (omega arith))
  where
    rest : x ≡ i → members (also x p) (suc i) n ≡ members p (suc i) n
    rest e = members_same (also x p) p (suc i) n (λ y k g. rw (ne_eqb y x (omega arith)))

    here : x ≡ i → (b : Bool) → insert x (cond b (i ∷ members p (suc i) n) (members p (suc i) n)) ≡ i ∷ members p (suc i) n
    here e true = rw (le-ltb x i (omega arith), eq-eqb x i e)
    here e false = insert_below x (suc i) n p (omega arith) ∙ ap (λ (y : ℕ). y ∷ members p (suc i) n) e

    there : i < x → (b : Bool) → insert x (members p (suc i) n) ≡ members (also x p) (suc i) n →
        insert x (cond b (i ∷ members p (suc i) n) (members p (suc i) n)) ≡ cond b (i ∷ members (also x p) (suc i) n) (members
        (also x p) (suc i) n)
    there k true r = rw (le-ltb x i (omega arith), ne_eqb x i (omega arith), r)
    there k false r = r

    go : Dec (x ≡ i) → ((x ≡ i → ⊥) → insert x (members p (suc i) n) ≡ members (also x p) (suc i) n) →
        insert x (members p i (suc n)) ≡ members (also x p) i (suc n)
    go (yes e) r = rw (eq-eqb i x (sym e), rest e) (here e (p i))
    go (no d) r = rw (ne_eqb i x (λ e. d (sym e))) (there (omega arith) (p i) (r d))

pub mem_members : (x i n : ℕ) (p : ℕ → Bool) → i ≤ x → x < i + n → mem x (members p i n) ≡ p x
mem_members x i n p l h = by_test (p x) yes_in no_in
  where
    yes_in : p x ≡ true → mem x (members p i n) ≡ p x
    yes_in e = T_true (mem x (members p i n)) (in_mem x (members p i n) (in_keep p (range i n) x (in_range i n x l h) (true_T
        (p x) e))) ∙ sym e

    no_in : p x ≡ false → mem x (members p i n) ≡ p x
    no_in e = by_test (mem x (members p i n))
        (λ m. absurd (true≢false (sym (T_true (p x) (keep_in p (range i n) x (mem_in x (members p i n) (true_T (mem x
        (members p i n)) m))).1) ∙ e)))
        (λ m. m ∙ sym e)

-- several more members
pub insert_all : (xs : List ℕ) (n : ℕ) (p : ℕ → Bool) → ((x : ℕ) → In x xs → x < n) →
    foldl (λ ms u. insert u ms) (members p 0 n) xs ≡ members (λ y. cond (mem y xs) true (p y)) 0 n
unfolding mem any
insert_all [] n p h = refl
insert_all (x ∷ xs) n p h =
    let l = h x (inl refl) in
    rw (insert_members x 0 n p (omega arith) (omega arith))
    (insert_all xs n (also x p) (λ y i. h y (inr i)) ∙ members_same _ _ 0 n (λ y l g. turn y (mem y xs) (eqb y x)))
  where
    turn : (y : ℕ) (a b : Bool) → cond a true (cond b true (p y)) ≡ cond (cond b true a) true (p y)
    turn y true true = refl
    turn y true false = refl
    turn y false true = refl
    turn y false false = refl

-- ---- flags

-- does x have a flag in a region?
abbrev pub has : List ℕ → ℕ → ℕ → Bool
has t b x = is_set (at t b x)

pub unset_by : (k : ℕ) → k ≡ 0 → is_set k ≡ false
unfolding is_set
unset_by k z = ap is_set z

pub flagged_mem : (t : List ℕ) (b x : ℕ) → x < max_terms → mem x (flagged_from t b 0) ≡ has t b x
unfolding flagged_from
flagged_mem t b x h = mem_members x 0 max_terms (has t b) (omega arith) (omega arith)

pub flagged_in : (t : List ℕ) (b i x : ℕ) → i ≤ max_terms → In x (flagged_from t b i) → (i ≤ x) × (x < max_terms) × (has t b x ≡ true)
unfolding flagged_from
flagged_in t b i x m k =
    let (j, e) = keep_in (has t b) (range i (max_terms - i)) x k in
    let l = range_in i (max_terms - i) x j in
    (omega arith, omega arith, T_true (has t b x) e)

pub in_flagged : (t : List ℕ) (b i x : ℕ) → i ≤ x → x < max_terms → has t b x ≡ true → In x (flagged_from t b i)
unfolding flagged_from
in_flagged t b i x l h e = in_keep (has t b) (range i (max_terms - i)) x (in_range i (max_terms - i) x l (omega arith)) (true_T
    (has t b x) e)

-- the same flags from i on
pub flagged_same : (t u : List ℕ) (b c i : ℕ) → ((x : ℕ) → i ≤ x → x < max_terms → has u c x ≡ has t b x) →
    flagged_from u c i ≡ flagged_from t b i
unfolding flagged_from
flagged_same t u b c i h = go (dec_lt i max_terms)
  where
    go : Dec (i < max_terms) → members (has u c) i (max_terms - i) ≡ members (has t b) i (max_terms - i)
    go (yes l) = members_same (has u c) (has t b) i (max_terms - i) (λ x k g. h x k (omega arith))
    go (no l) = members_same (has u c) (has t b) i (max_terms - i) (λ x k g. absurd (omega arith))

-- one more flag
pub flagged_insert : (t u : List ℕ) (b x : ℕ) → x < max_terms → ((y : ℕ) → y < max_terms → has u b y ≡ also x (has t b) y) →
    flagged_from u b 0 ≡ insert x (flagged_from t b 0)
unfolding flagged_from
flagged_insert t u b x l h =
    members_same (has u b) (also x (has t b)) 0 max_terms (λ y k g. h y (omega arith))
    ∙ sym (insert_members x 0 max_terms (has t b) (omega arith) (omega arith))

-- those from i on are i, if it has a flag, and those behind it
pub flagged_step : (t : List ℕ) (b i : ℕ) → i < max_terms →
    flagged_from t b i ≡ cond (has t b i) (i ∷ flagged_from t b (suc i)) (flagged_from t b (suc i))
unfolding flagged_from keep range
flagged_step t b i h =
    let e : max_terms - i ≡ suc (max_terms - suc i) = omega arith in
    rw e

-- behind the last flag there is none
pub flagged_none : (t : List ℕ) (b i : ℕ) → ((x : ℕ) → i ≤ x → x < max_terms → has t b x ≡ false) → flagged_from t b i ≡ []
unfolding flagged_from
flagged_none t b i h = go (dec_lt i max_terms)
  where
    go : Dec (i < max_terms) → members (has t b) i (max_terms - i) ≡ []
    go (yes l) = members_none (has t b) i (max_terms - i) (λ x k g. h x k (omega arith))
    go (no l) = members_none (has t b) i (max_terms - i) (λ x k g. absurd (omega arith))
