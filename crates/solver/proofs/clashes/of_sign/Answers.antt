-- By the sign.
use Rattle.shinri_core.proofs.Kit.{ℕ, Bool, ◌≤◌, ◌<◌, ◌≡◌, sym, ap, ◌∙◌, true, false, not, ◌&&◌, ltb, le-ltb, leb, lt-leb}
use borrow.Author.Tests.{lt-ltb}
use Rattle.shinri_core.specs.Limits.{max_terms}
use Rattle.solver.specs.Memory.Table.{UNEQUAL, of_sign}
use Rattle.solver.proofs.clashes.of_sign.Goals as goal

by_true : {b : Bool} (k : ℕ) → b ≡ true → ltb k max_terms ≡ of_sign b k
unfolding of_sign
by_true k q = sym (ap (λ (v : Bool). of_sign v k) q)

module _ {b : Bool} (k : ℕ) (q : b ≡ false) where
  by_false : (not (ltb k max_terms) && ltb k UNEQUAL) ≡ of_sign b k
  unfolding of_sign
  by_false = sym (ap (λ (v : Bool). of_sign v k) q)

  above : max_terms ≤ k → ltb k UNEQUAL ≡ of_sign b k
  above h = sym (ap (λ (v : Bool). not v && ltb k UNEQUAL) (le-ltb k max_terms h)) ∙ by_false

  below : k < max_terms → leb max_terms k ≡ of_sign b k
  below h = lt-leb max_terms k h ∙ sym (ap (λ (v : Bool). not v && ltb k UNEQUAL) (lt-ltb k max_terms h)) ∙ by_false

pub returns-then-positive : goal.returns-then-positive
returns-then-positive c = by_true _ c.if-positive.true

pub returns-then-key-ge-MAX_TERMS : goal.returns-then-key-ge-MAX_TERMS
returns-then-key-ge-MAX_TERMS c = above _ c.if-positive.false c.if-key-ge-MAX_TERMS.true

pub returns-else-key-ge-MAX_TERMS : goal.returns-else-key-ge-MAX_TERMS
returns-else-key-ge-MAX_TERMS c = below _ c.if-positive.false c.if-key-ge-MAX_TERMS.false
