-- Numbers of terms and symbols that the code compared.
use Rattle.shinri_core.proofs.Kit.{ℕ, ◌≡◌, sym, ap, ◌∙◌, Bool, true, false, not, not-false, true≢false, false≢true, eqb, eqb-true, eq-eqb}

module _ {a b : ℕ} {r : Bool} where
  pub same_id : r ≡ eqb a b → r ≡ true → a ≡ b
  same_id e q = eqb-true a b (sym e ∙ q)

  pub other_id : r ≡ eqb a b → r ≡ false → a ≡ b → ⊥
  other_id e q d = true≢false (sym (eq-eqb a b d) ∙ sym e ∙ q)

  pub same_unless : r ≡ not (eqb a b) → r ≡ false → a ≡ b
  same_unless e q = eqb-true a b (not-false (eqb a b) (sym e ∙ q))

  pub other_unless : r ≡ not (eqb a b) → r ≡ true → a ≡ b → ⊥
  other_unless e q d = false≢true (ap not (sym (eq-eqb a b d)) ∙ sym e ∙ q)
