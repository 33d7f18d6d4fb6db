-- Lines in force, by the kind of the newest line.
use Prim.Native.Nat.{ℕ, ◌≤◌}
use mathlib.Core.Path.{◌≡◌, refl, subst, ap}
use mathlib.Core.Logic.{◌⊎◌, inl, inr}
use mathlib.Core.List.{◌∷◌}
use Rattle.session.specs.Line.{Command, DeclareSort, DeclareCtor, DeclareFun, Close, MkTerm, MkEq, Register, Equate, Cong, Iface, Assert, Differ, Push, Pop, Check}
use Rattle.session.specs.History.{History, level, InForce, Accepted}

-- 0 a line that says nothing of terms being equal, true or named; 5 one that asserts a literal; the others one each
unfoldable pub kind : Command → ℕ
kind (DeclareSort n) = 0
kind (DeclareCtor dt fs) = 0
kind (DeclareFun r as') = 0
kind Close = 0
kind (MkTerm f ts) = 0
kind (MkEq t u) = 0
kind (Register x t) = 1
kind (Equate l) = 2
kind (Cong t u) = 3
kind (Iface t u h g) = 4
kind (Assert l) = 5
kind (Differ l) = 5
kind Push = 0
kind (Pop k) = 6
kind (Check e) = 0

-- two lines of different kinds
abbrev pub Apart : Command → Command → Type 0
Apart c d = kind c ≡ kind d → ⊥

-- what was in force stays in force under a line that is no pop
pub force_on : (d : Command) (h : History) (v : ℕ) (c : Command) → (kind d ≡ 6 → ⊥) → InForce h v c → InForce (d ∷ h) v c
unfolding kind
force_on d h v c n i = inr (λ k e. absurd (n (ap kind e)), i)

pub force_pop : (k : ℕ) (h : History) (v : ℕ) (c : Command) → v ≤ k → InForce h v c → InForce (Pop k ∷ h) v c
force_pop k h v c l i = inr (λ j e. subst (λ (n : ℕ). v ≤ n) (pop_is j e) l, i)
  where
    pop_is : (j : ℕ) → Pop k ≡ Pop j → k ≡ j
    pop_is j e = cc

-- what is in force was before, or is the newest line
pub force_back : (d : Command) (h : History) (v : ℕ) (c : Command) → InForce (d ∷ h) v c → ((d ≡ c) × (v ≡ level h)) ⊎ InForce h v c
force_back d h v c (inl p) = inl p
force_back d h v c (inr (f, i)) = inr i

pub force_other : (d : Command) (h : History) (v : ℕ) (c : Command) → Apart d c → InForce (d ∷ h) v c → InForce h v c
force_other d h v c n (inl (e, q)) = absurd (n (ap kind e))
force_other d h v c n (inr (f, i)) = i

pub pop_back : (k : ℕ) (h : History) (v : ℕ) (c : Command) → Apart (Pop k) c → InForce (Pop k ∷ h) v c → (v ≤ k) × InForce h v c
pop_back k h v c n (inl (e, q)) = absurd (n (ap kind e))
pop_back k h v c n (inr (f, i)) = (f k refl, i)

pub accepted_other : (d : Command) (h : History) (c : Command) → Apart d c → Accepted (d ∷ h) c → Accepted h c
accepted_other d h c n (inl e) = absurd (n (ap kind e))
accepted_other d h c n (inr i) = i
