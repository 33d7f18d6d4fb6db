-- Counted lists: a list of n entries, entry i given by a function of i. Looking up, cutting, one more, and lists of entries that agree.
use Rattle.shinri_core.proofs.Kit.{ℕ, suc, ◌+◌, ◌≤◌, ◌<◌, ◌≡◌, refl, sym, ap, ap₂, ◌∙◌, inl, inr, List, [], ◌∷◌, ◌++◌, map, map-id, zero-add, arith, length, get_or, take, drop, length-drop, ext_get_or, get_or-take, get_or-drop, length-take-le}
use Rattle.shinri_core.specs.Lists.{range}
use Rattle.shinri_core.specs.Memory.Words.{at, counted, stretch}
use Rattle.shinri_core.proofs.Lists.{In, range_in, length_map_range, getD_map_range, map_range_cong, map_range_suc, take_map_range}

module _ {A : Type 0} where
  pub counted_length : (f : ℕ → A) (n : ℕ) → length (counted f n) ≡ n
  unfolding counted
  counted_length f n = length_map_range f 0 n

  pub counted_at : (f : ℕ → A) (n i : ℕ) (d : A) → i < n → get_or (counted f n) i d ≡ f i
  unfolding counted
  counted_at f n i d h = getD_map_range f 0 n i d h ∙ ap f (zero-add i)

  pub counted_same : (f g : ℕ → A) (n : ℕ) → ((i : ℕ) → i < n → f i ≡ g i) → counted f n ≡ counted g n
  unfolding counted
  counted_same f g n h = map_range_cong f g 0 n (λ i l k. h i (omega arith))

  pub counted_more : (f : ℕ → A) (n : ℕ) → counted f (suc n) ≡ counted f n ++ (f n ∷ [])
  unfolding counted
  counted_more f n = map_range_suc f 0 n ∙ ap (λ (k : ℕ). map f (range 0 n) ++ (f k ∷ [])) (zero-add n)

  pub counted_cut : (f : ℕ → A) (n m : ℕ) → m ≤ n → take m (counted f n) ≡ counted f m
  unfolding counted
  counted_cut f n m h = take_map_range f 0 n m h

  -- the entries that were there, and one more
  pub counted_grown : (f g : ℕ → A) (n m : ℕ) (x : A) → m ≡ suc n → ((i : ℕ) → i < n → g i ≡ f i) → g n ≡ x →
      counted g m ≡ counted f n ++ (x ∷ [])
  counted_grown f g n m x e old new =
      ap (counted g) e ∙ counted_more g n ∙ ap₂ (λ (xs : List A) (y : A). xs ++ (y ∷ [])) (counted_same g f n old) new

pub counted_range : (n : ℕ) → counted (λ i. i) n ≡ range 0 n
unfolding counted
counted_range n = map-id (range 0 n)

-- the entries of a list
pub counted_list : (f : ℕ → ℕ) (n : ℕ) (vs : List ℕ) → n ≡ length vs → ((j : ℕ) → j < length vs → f j ≡ get_or vs j 0) → counted f n ≡ vs
counted_list f n vs e h =
    let l = counted_length f n in
    ext_get_or 0 (counted f n) vs (l ∙ e) (λ j g. counted_at f n j 0 (omega arith) ∙ h j (omega arith))

module _ {A : Type 0} where
  in_mapped : (f : ℕ → A) (y : A) (xs : List ℕ) → In y (map f xs) → (i : ℕ) × In i xs × (f i ≡ y)
  in_mapped f y [] k = absurd k
  in_mapped f y (x ∷ xs) (inl e) = (x, inl refl, sym e)
  in_mapped f y (x ∷ xs) (inr k) = let (i, j, e) = in_mapped f y xs k in (i, inr j, e)

  -- what stands in a counted list is one of its entries
  pub counted_in : (f : ℕ → A) (n : ℕ) (y : A) → In y (counted f n) → (i : ℕ) × (i < n) × (f i ≡ y)
  unfolding counted
  counted_in f n y k =
      let (i, j, e) = in_mapped f y (range 0 n) k in
      let h = range_in 0 n i j in
      (i, omega arith, e)

pub stretch_length : (t : List ℕ) (b i n : ℕ) → length (stretch t b i n) ≡ n
unfolding stretch
stretch_length t b i n = counted_length (λ j. at t b (i + j)) n

pub stretch_at : (t : List ℕ) (b i n j : ℕ) → j < n → get_or (stretch t b i n) j 0 ≡ at t b (i + j)
unfolding stretch
stretch_at t b i n j h = counted_at (λ k. at t b (i + k)) n j 0 h

pub stretch_same : (t u : List ℕ) (b i n : ℕ) → ((j : ℕ) → i ≤ j → j < i + n → at u b j ≡ at t b j) → stretch u b i n ≡ stretch t b i n
unfolding stretch
stretch_same t u b i n h = counted_same (λ j. at u b (i + j)) (λ j. at t b (i + j)) n (λ j l. h (i + j) (omega arith) (omega arith))

-- a part of a table is a stretch of a region
pub part_is_stretch : (t : List ℕ) (b i n : ℕ) → b + i + n ≤ length t → take n (drop (b + i) t) ≡ stretch t b i n
unfolding at
part_is_stretch t b i n h = ext_get_or 0 (take n (drop (b + i) t)) (stretch t b i n) (e ∙ sym (stretch_length t b i n)) each
  where
    e : length (take n (drop (b + i) t)) ≡ n
    e = length-take-le n (drop (b + i) t) (rw length-drop (omega arith))

    each : (j : ℕ) → j < length (take n (drop (b + i) t)) → get_or (take n (drop (b + i) t)) j 0 ≡ get_or (stretch t b i n) j 0
    each j l =
        let q = e in
        let m : j < n = omega arith in
        let p : b + i + j ≡ b + (i + j) = omega arith in
        get_or-take n (drop (b + i) t) j 0 m ∙ get_or-drop (b + i) t j 0 ∙ ap (λ (k : ℕ). get_or t k 0) p ∙ sym (stretch_at t b i n j m)
