-- One pass up over the terms that ask, by whatever test: the lowest that was not split on, or whether any asks.
use Rattle.shinri_core.proofs.Kit.{ℕ, ◌+◌, ◌<◌, ◌≡◌, sym, ◌∙◌, Bool, true, false, true≢false, false≢true, arith, below_more, List, length}
use Rattle.shinri_core.specs.Memory.Words.{at}
use Rattle.shinri_core.specs.Memory.Table.{context}
use Rattle.solver.specs.declared.exhaustiveness.Undetermined as Undetermined
use Rattle.solver.specs.Memory.Table.{SPLIT}
use Rattle.solver.specs.Memory.Splitting.{Asking, LowestAsking}

-- those below x that ask were split on; one was met, or none
pub record AskedBelow (p : ℕ → Bool) (s : List ℕ) (x : ℕ) (unknown : Bool) : Type 0 where
  pub done : (y : ℕ) → y < x → p y ≡ true → at s SPLIT y ≡ 0 → ⊥
  pub met : unknown ≡ true → (y : ℕ) × (y < x) × (p y ≡ true)
  pub unmet : unknown ≡ false → (y : ℕ) → y < x → p y ≡ false

-- so by each test that answers as was answered
pub record AskedSoFar (answers : ℕ → Bool → Type 0) (c s : List ℕ) (x : ℕ) (unknown : Bool) : Type 0 where
  pub below : (p : ℕ → Bool) → ((y : ℕ) (b : Bool) → y < length (context c).terms → answers y b → b ≡ p y) → AskedBelow p s x unknown

pub asked_first : (answers : ℕ → Bool → Type 0) (c s : List ℕ) → AskedSoFar answers c s 0 false
asked_first answers c s = record {
  below = λ p h. record {
    done = λ y l. absurd (omega arith);
    met = λ q. absurd (false≢true q);
    unmet = λ q y l. absurd (omega arith);
  };
}

module _ {answers : ℕ → Bool → Type 0} {c s : List ℕ} {x : ℕ} {unknown b : Bool} (P : AskedSoFar answers c s x unknown)
    (h : x < length (context c).terms) (a : answers x b) where
  -- x does not ask
  pub asked_not : {u : Bool} → b ≡ false → u ≡ unknown → AskedSoFar answers c s (x + 1) u
  asked_not {u} q e = record {
    below = λ p g.
        let P' = P.below p g in
        let no : p x ≡ false = sym (g x b h a) ∙ q in
        record {
          done = λ y l t. below_more (λ (j : ℕ). p j ≡ true → at s SPLIT j ≡ 0 → ⊥) x P'.done (λ i. absurd (true≢false (sym i ∙ no))) y l t;
          met = λ k. let (y, l, t) = P'.met (sym e ∙ k) in (y, omega arith, t);
          unmet = λ k. below_more (λ (j : ℕ). p j ≡ false) x (P'.unmet (sym e ∙ k)) no;
        };
  }

  -- x was split on
  pub asked_done : {u : Bool} (k : ℕ) → b ≡ true → k ≡ at s SPLIT x → (k ≡ 0 → ⊥) → u ≡ true → AskedSoFar answers c s (x + 1) u
  asked_done {u} k q i z e = record {
    below = λ p g.
        let P' = P.below p g in
        record {
          done = λ y l t. below_more (λ (j : ℕ). p j ≡ true → at s SPLIT j ≡ 0 → ⊥) x P'.done (λ _ o. z (i ∙ o)) y l t;
          met = λ _. (x, omega arith, sym (g x b h a) ∙ q);
          unmet = λ o. absurd (true≢false (sym e ∙ o));
        };
  }

  -- x was not
  pub asked_split : (k : ℕ) → b ≡ true → k ≡ at s SPLIT x → k ≡ 0 →
      LowestAsking answers c s (Undetermined.TheVariants.Split (record { 0 = x }))
  asked_split k q i z = record { found = λ p g. (h, sym (g x b h a) ∙ q, sym i ∙ z, (P.below p g).done) }

module _ {answers : ℕ → Bool → Type 0} {c s : List ℕ} {x : ℕ} {unknown : Bool} (P : AskedSoFar answers c s x unknown)
    (all : x ≡ length (context c).terms) where
  pub asked_unknown : unknown ≡ true → LowestAsking answers c s Undetermined.TheVariants.Unknown
  asked_unknown q = record {
    found = λ p g.
        let P' = P.below p g in
        let (y, l, t) = P'.met q in
        ((y, omega arith, t), λ z k. P'.done z (omega arith));
  }

  pub asked_nothing : unknown ≡ false → LowestAsking answers c s Undetermined.TheVariants.Nothing
  asked_nothing q = record { found = λ p g y l. (P.below p g).unmet q y (omega arith) }

-- two tests that agree
pub asking_same : (p q : ℕ → Bool) (n : ℕ) (s : List ℕ) (r : Undetermined.Undetermined) → ((x : ℕ) → x < n → p x ≡ q x) →
    Asking p n s r → Asking q n s r
asking_same p q n s (Undetermined.TheVariants.Split x) e (l, a, z, d) =
    (l, sym (e x.0 l) ∙ a, z, λ y h b. d y h (e y (omega arith) ∙ b))
asking_same p q n s Undetermined.TheVariants.Unknown e ((y, l, a), d) = ((y, l, sym (e y l) ∙ a), λ z h b. d z h (e z h ∙ b))
asking_same p q n s Undetermined.TheVariants.Nothing e f = λ y h. sym (e y h) ∙ f y h
