-- A text cut before a mark.
use Rattle.std.specs.Prelude.{◌≡◌, ℕ, ◌<◌, ◌⊎◌, List, ◌++◌, length, take, drop}

-- the mark stands at a place of the text
abbrev pub StandsAt : List ℕ → List ℕ → ℕ → Type 0
StandsAt mark text i = (rest : List ℕ) × (drop i text ≡ mark ++ rest)

-- front is what stands before the first mark, or the whole text where there is none
pub record IsBefore (mark text front : List ℕ) : Type 0 where
  pub begins : front ≡ take (length front) text
  pub none_earlier : (i : ℕ) → i < length front → ¬ (StandsAt mark text i)
  pub ends : (front ≡ text) ⊎ StandsAt mark text (length front)
