-- A lent table by its regions. A region is named by the word where it begins; how many words it has, its room, is said once, in the
-- table's layout. So the places of a table are numbers of a region, and no address stands anywhere but here.
use Rattle.std.specs.Prelude.{ℕ, ◌+◌, ◌<◌, ◌≡◌, Bool, true, false, cond, ◌||◌, ◌&&◌, List, [], ◌∷◌, map, T, eqb, leb, length, get_or, set}
use Rattle.std.proofs.lemmas.List.Edits.{sets}
use Rattle.shinri_core.specs.Lists.{range}

-- word i of a region
unfoldable pub at : List ℕ → ℕ → ℕ → ℕ
at t base i = get_or t (base + i) 0

-- the table with v there
unfoldable pub put : List ℕ → ℕ → ℕ → ℕ → List ℕ
put t base i v = set t (base + i) v

-- the table with these numbers from there on
unfoldable pub put_all : List ℕ → ℕ → ℕ → List ℕ → List ℕ
put_all t base i vs = sets t (base + i) vs

-- ---- regions

-- the room of the region that begins at a place, by a layout: a list of (place, room)
abbrev pub room_in : List (ℕ × ℕ) → ℕ → ℕ
room_in [] b = 0
room_in (r ∷ rs) b = cond (eqb b r.0) r.1 (room_in rs b)

-- two regions share no word
abbrev pub apart : (ℕ → ℕ) → ℕ → ℕ → Bool
apart room b c = leb (b + room b) c || leb (c + room c) b

-- a region shares no word with some others
abbrev pub clear_of : (ℕ → ℕ) → ℕ → List ℕ → Bool
clear_of room b [] = true
clear_of room b (c ∷ cs) = apart room b c && clear_of room b cs

-- a region is one of some
abbrev pub one_of : ℕ → List ℕ → Bool
one_of c [] = false
one_of c (w ∷ ws) = cond (eqb c w) true (one_of c ws)

-- each of some regions is one of others
abbrev pub among : List ℕ → List ℕ → Bool
among [] vs = true
among (w ∷ ws) vs = one_of w vs && among ws vs

-- u is t but for words of some regions
pub record Kept (room : ℕ → ℕ) (written t u : List ℕ) : Type 0 where
  pub long : length u ≡ length t
  pub rest : (b x : ℕ) → T (clear_of room b written) → x < room b → at u b x ≡ at t b x

-- ---- counted lists

module _ {A : Type 0} where
  -- n entries, the first of number 0
  unfoldable pub counted : (ℕ → A) → ℕ → List A
  counted f n = map f (range 0 n)

-- n words of a region from word i on
unfoldable pub stretch : List ℕ → ℕ → ℕ → ℕ → List ℕ
stretch t base i n = counted (λ j. at t base (i + j)) n
