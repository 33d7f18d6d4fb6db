-- By the test.
use Rattle.shinri_core.proofs.Kit.{ℕ, ◌≤◌, ◌<◌, ◌≡◌, ◌-◌, le-ltb, arith}
use borrow.Author.Tests.{lt-ltb}
use Rattle.shinri_core.specs.Limits.{max_terms}
use Rattle.solver.specs.Memory.Table.{key_atom}
use Rattle.solver.proofs.clashes.key_atom.Goals as goal

positive : (k : ℕ) → k < max_terms → k ≡ key_atom k
unfolding key_atom
positive k h = rw (lt-ltb k max_terms h)

negative : (k : ℕ) → max_terms ≤ k → k - max_terms ≡ key_atom k
unfolding key_atom
negative k h = rw (le-ltb k max_terms h)

pub returns-then-key-lt-MAX_TERMS : goal.returns-then-key-lt-MAX_TERMS
returns-then-key-lt-MAX_TERMS c = positive _ c.if-key-lt-MAX_TERMS.true

pub returns : goal.returns
returns c = let h = c.if-key-lt-MAX_TERMS.false in negative _ (omega arith)
