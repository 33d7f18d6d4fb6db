-- The loop over the list of entries: what the rest of them gives for a record is what all of them give.
use Rattle.shinri_core.proofs.Kit.{ℕ, suc, ◌+◌, ◌-◌, ◌≤◌, ◌<◌, ◌≡◌, refl, sym, ap, ◌∙◌, Bool, List, none, some, Option, add-one, arith}
use Rattle.shinri_core.specs.Lists.{gather, cons_option, range}
use Rattle.theory.specs.Types.{EqLeaf}
use Rattle.solver.specs.State.{State, AssertedAtom}
use Rattle.solver.specs.Rules.{Conflict, Ruled, pass, answered, go_on, then, try_each, conflict_of}
use Rattle.solver.specs.Memory.Table.{records#, entry_of, record_of}
use Rattle.solver.specs.Memory.Testing.{found_at}

-- what an entry gives by what the definition finds of it
abbrev pub giving : (AssertedAtom → State → Option (List EqLeaf)) → AssertedAtom → State → Ruled
giving f a S = conflict_of S (f a S)

-- By the test p, which lets the entries of a record through, and by what is found of them, the rule is that of the entries from i on.
pub record Asking (f : AssertedAtom → State → Option (List EqLeaf)) (p : ℕ → Bool) (s : List ℕ) (view : (ℕ → ℕ) → State)
    (rule : State → Ruled) (n i : ℕ) : Type 0 where
  pub count : n ≡ records# s
  pub within : i ≤ n
  pub rest : (lv : ℕ → ℕ) → rule (view lv) ≡ try_each (giving f) (gather (entry_of p s lv) (range i (n - i))) (view lv)

module _ {f : AssertedAtom → State → Option (List EqLeaf)} {p : ℕ → Bool} {s : List ℕ} {view : (ℕ → ℕ) → State} {rule : State → Ruled}
    {n : ℕ} where
  pub asking_first : n ≡ records# s → ((lv : ℕ → ℕ) → rule (view lv) ≡ try_each (giving f) (record_of p s lv) (view lv)) →
      Asking f p s view rule n 0
  unfolding record_of
  asking_first e h = record {
    count = e;
    within = omega arith;
    rest = λ lv.
        let m : records# s ≡ n - 0 = omega arith in
        h lv ∙ ap (λ (k : ℕ). try_each (giving f) (gather (entry_of p s lv) (range 0 k)) (view lv)) m;
  }

  module _ {i : ℕ} (z : Asking f p s view rule n i) (h : i < n) where
    later : (ℕ → ℕ) → State → Ruled
    later lv S = try_each (giving f) (gather (entry_of p s lv) (range (suc i) (n - suc i))) S

    rest_is : (lv : ℕ → ℕ) → rule (view lv) ≡ then (conflict_of (view lv) (found_at f (entry_of p s lv i) (view lv))) (later lv)
    unfolding try_each range gather later
    rest_is lv =
        let k : n - i ≡ suc (n - suc i) = omega arith in
        z.rest lv
        ∙ ap (λ (m : ℕ). try_each (giving f) (gather (entry_of p s lv) (range i m)) (view lv)) k
        ∙ go (entry_of p s lv i)
      where
        go : (m : Option AssertedAtom) →
            try_each (giving f) (cons_option m (gather (entry_of p s lv) (range (suc i) (n - suc i)))) (view lv)
            ≡ then (conflict_of (view lv) (found_at f m (view lv))) (later lv)
        go none = unfold cons_option found_at conflict_of then pass go_on in refl
        go (some a) = unfold cons_option found_at in refl

    -- nothing is found of entry i
    pub asking_next : ((lv : ℕ → ℕ) → found_at f (entry_of p s lv i) (view lv) ≡ none) → Asking f p s view rule n (i + 1)
    unfolding then conflict_of pass go_on later
    asking_next e = record {
      count = z.count;
      within = omega arith;
      rest = λ lv.
          rest_is lv
          ∙ ap (λ (m : Option (List EqLeaf)). then (conflict_of (view lv) m) (later lv)) (e lv)
          ∙ ap (λ (k : ℕ). try_each (giving f) (gather (entry_of p s lv) (range k (n - k))) (view lv)) (sym (add-one i));
    }

    -- a conflict is
    pub asking_found : (ls : List EqLeaf) (lv : ℕ → ℕ) → found_at f (entry_of p s lv i) (view lv) ≡ some ls →
        rule (view lv) ≡ answered (view lv) (Conflict ls)
    unfolding then conflict_of answered go_on
    asking_found ls lv e = rest_is lv ∙ ap (λ (m : Option (List EqLeaf)). then (conflict_of (view lv) m) (later lv)) e

  pub asking_done : {i : ℕ} → Asking f p s view rule n i → n ≤ i → (lv : ℕ → ℕ) → rule (view lv) ≡ pass (view lv)
  unfolding try_each range gather
  asking_done {i} z h lv =
      let k : n - i ≡ 0 = omega arith in
      z.rest lv ∙ ap (λ (m : ℕ). try_each (giving f) (gather (entry_of p s lv) (range i m)) (view lv)) k
