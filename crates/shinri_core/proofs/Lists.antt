-- Laws of the list functions that the definitions share.
use Rattle.shinri_core.proofs.Kit.{ℕ, zero, suc, ◌+◌, ◌≤◌, ◌<◌, ◌≡◌, refl, sym, subst, subst⁻¹, ap, ap₂, ◌∙◌, ◌⊎◌, inl, inr, Bool, true, false, cond, not, ◌&&◌, ◌||◌, false≢true, List, [], ◌∷◌, ◌++◌, map, le_antisymm, add-zero, add-suc, suc-add, dec_le, arith, T, eqb, eqb→eq, eqb_refl, eq-eqb, ne_eqb, length, get_or, take, drop, replicate, set, length-set, drop_of_length-le, sets, get_or-set_same, get_or-set_other, drop-cons}
pub use Rattle.shinri_core.specs.Lists.{In}
use Rattle.std.specs.Bool.{Decides}
use Rattle.std.proofs.lemmas.Bool.Decides.{same_from_decides}
use Rattle.shinri_core.specs.Lists.{keep, every, any, range, same_list, mem}

-- ---- tests

pub and_no : (a : Bool) → (a && false) ≡ false
and_no true = refl
and_no false = refl

pub T_and : (a b : Bool) → T (a && b) → T a × T b
T_and true b t = (tt, t)
T_and false b t = absurd t

pub T-both : (a b : Bool) → T a → T b → T (a && b)
T-both true b s t = t
T-both false b s t = absurd s

pub T_true : (b : Bool) → T b → b ≡ true
T_true true t = refl
T_true false t = absurd t

pub true_T : (b : Bool) → b ≡ true → T b
true_T true e = tt
true_T false e = absurd (false≢true e)

-- two tests that say the same
pub T-same : (a b : Bool) → (T a → T b) → (T b → T a) → a ≡ b
T-same true b f g = sym (T_true b (f tt))
T-same false true f g = absurd (g tt)
T-same false false f g = refl

pub not_true_false : (b : Bool) → (b ≡ true → ⊥) → b ≡ false
not_true_false true n = absurd (n refl)
not_true_false false n = refl

pub T-or : (a b : Bool) → T (a || b) → T a ⊎ T b
T-or true b t = inl tt
T-or false b t = inr t

pub T-left : (a b : Bool) → T a → T (a || b)
T-left true b t = tt
T-left false b t = absurd t

pub T-right : (a b : Bool) → T b → T (a || b)
T-right true b t = tt
T-right false b t = t

pub T-implied : (a b : Bool) → (T a → T b) → T (not a || b)
T-implied true b f = f tt
T-implied false b f = tt

pub cond_both : (b : Bool) → cond b true true ≡ true
cond_both true = refl
cond_both false = refl

cond_and : (b r : Bool) → T (cond b r false) → T b × T r
cond_and true r t = (tt, t)
cond_and false r t = absurd t

module _ {A : Type 0} where
  pub every_in : (p : A → Bool) (xs : List A) (x : A) → T (every p xs) → In x xs → T (p x)
  unfolding every
  every_in p [] x t i = absurd i
  every_in p (y ∷ ys) x t (inl e) = subst (λ (z : A). T (p z)) (sym e) (cond_and (p y) (every p ys) t).0
  every_in p (y ∷ ys) x t (inr i) = every_in p ys x (cond_and (p y) (every p ys) t).1 i

  -- every element passes if each one does
  pub in_every : (p : A → Bool) (xs : List A) → ((x : A) → In x xs → T (p x)) → T (every p xs)
  unfolding every
  in_every p [] h = tt
  in_every p (x ∷ xs) h = let d = T_true (p x) (h x (inl refl)) in rw d (in_every p xs (λ y i. h y (inr i)))

  pub any_same : (p q : A → Bool) (xs : List A) → ((x : A) → In x xs → p x ≡ q x) → any p xs ≡ any q xs
  unfolding any
  any_same p q [] h = refl
  any_same p q (x ∷ xs) h = rw (h x (inl refl), any_same p q xs (λ y i. h y (inr i)))

  pub every_same : (p q : A → Bool) (xs : List A) → ((x : A) → In x xs → p x ≡ q x) → every p xs ≡ every q xs
  unfolding every
  every_same p q [] h = refl
  every_same p q (x ∷ xs) h = rw (h x (inl refl), every_same p q xs (λ y i. h y (inr i)))

  any_here : (p : A → Bool) (y : A) (ys : List A) (b : Bool) → p y ≡ b → T (cond b true (any p ys)) →
      (T (any p ys) → (x : A) × In x ys × T (p x)) → (x : A) × In x (y ∷ ys) × T (p x)
  any_here p y ys true e t go = (y, inl refl, subst (λ (b : Bool). T b) (sym e) tt)
  any_here p y ys false e t go = let (x, i, q) = go t in (x, inr i, q)

  -- some element passes a test that any passes
  pub any_in : (p : A → Bool) (xs : List A) → T (any p xs) → (x : A) × In x xs × T (p x)
  unfolding any
  any_in p [] t = absurd t
  any_in p (y ∷ ys) t = any_here p y ys (p y) refl t (any_in p ys)

  -- any passes where an element does
  pub in_any : (p : A → Bool) (xs : List A) (x : A) → In x xs → T (p x) → T (any p xs)
  unfolding any
  in_any p [] x i t = absurd i
  in_any p (y ∷ ys) x (inl e) t = let d = T_true (p y) (rw (sym e) t) in rw d tt
  in_any p (y ∷ ys) x (inr i) t = let d = T_true (any p ys) (in_any p ys x i t) in rw (d, cond_both) tt

  keep_add : (b : Bool) (y : A) (r : List A) (x : A) → In x r → In x (cond b (y ∷ r) r)
  keep_add true y r x i = inr i
  keep_add false y r x i = i

  keep_first : (y : A) (r : List A) (b : Bool) → T b → In y (cond b (y ∷ r) r)
  keep_first y r true t = inl refl
  keep_first y r false t = absurd t

  -- what passes the test is kept
  pub in_keep : (p : A → Bool) (xs : List A) (x : A) → In x xs → T (p x) → In x (keep p xs)
  unfolding keep
  in_keep p [] x i t = absurd i
  in_keep p (y ∷ ys) x (inl e) t =
      subst (λ (z : A). In z (cond (p y) (y ∷ keep p ys) (keep p ys))) (sym e)
      (keep_first y (keep p ys) (p y) (subst (λ (z : A). T (p z)) e t))
  in_keep p (y ∷ ys) x (inr i) t = keep_add (p y) y (keep p ys) x (in_keep p ys x i t)

  kept_here : (p : A → Bool) (y : A) (ys : List A) (b : Bool) (x : A) → p y ≡ b → In x (cond b (y ∷ keep p ys) (keep p ys)) →
      (In x (keep p ys) → In x ys × T (p x)) → In x (y ∷ ys) × T (p x)
  kept_here p y ys true x e (inl q) go = (inl q, subst (λ (z : A). T (p z)) (sym q) (subst (λ (b : Bool). T b) (sym e) tt))
  kept_here p y ys true x e (inr i) go = let (j, t) = go i in (inr j, t)
  kept_here p y ys false x e i go = let (j, t) = go i in (inr j, t)

  -- what is kept stood there and passes the test
  pub keep_in : (p : A → Bool) (xs : List A) (x : A) → In x (keep p xs) → In x xs × T (p x)
  unfolding keep
  keep_in p [] x i = absurd i
  keep_in p (y ∷ ys) x i = kept_here p y ys (p y) x refl i (keep_in p ys x)

  pub keep_length : (p : A → Bool) (xs : List A) → length (keep p xs) ≤ length xs
  unfolding keep
  keep_length p [] = omega arith
  keep_length p (x ∷ xs) = go (p x) (keep_length p xs)
    where
      go : (b : Bool) → length (keep p xs) ≤ length xs → length (cond b (x ∷ keep p xs) (keep p xs)) ≤ suc (length xs)
      go true h = omega arith
      go false h = omega arith

  -- a weaker test keeps the same elements or more of them
  pub keep_more : (p q : A → Bool) (xs : List A) → ((x : A) → T (p x) → T (q x)) →
      (keep q xs ≡ keep p xs) ⊎ (length (keep p xs) < length (keep q xs))
  unfolding keep
  keep_more p q [] h = inl refl
  keep_more p q (x ∷ xs) h = go (p x) (q x) (h x) (keep_more p q xs h)
    where
      go : (a b : Bool) → (T a → T b) → (keep q xs ≡ keep p xs) ⊎ (length (keep p xs) < length (keep q xs)) →
          (cond b (x ∷ keep q xs) (keep q xs) ≡ cond a (x ∷ keep p xs) (keep p xs))
          ⊎ (length (cond a (x ∷ keep p xs) (keep p xs)) < length (cond b (x ∷ keep q xs) (keep q xs)))
      go true true f (inl e) = inl (ap {B = List A} (λ ys. x ∷ ys) e)
      go true true f (inr l) = inr (omega arith)
      go true false f r = absurd (f tt)
      go false true f (inl e) = let l = ap length e in inr (omega arith)
      go false true f (inr l) = inr (omega arith)
      go false false f r = r

-- ---- sets of numbers

pub mem_in : (x : ℕ) (ys : List ℕ) → T (mem x ys) → In x ys
unfolding mem
mem_in x ys t = let (y, i, e) = any_in (eqb x) ys t in subst⁻¹ (λ (z : ℕ). In z ys) (eqb→eq x y e) i

pub in_mem : (x : ℕ) (ys : List ℕ) → In x ys → T (mem x ys)
unfolding mem
in_mem x ys i = in_any (eqb x) ys x i (eqb_refl x)

range_step : (k n x : ℕ) → Dec (x ≤ k) → k ≤ x → (suc k ≤ x → In x (range (suc k) n)) → In x (k ∷ range (suc k) n)
range_step k n x (yes l) h go = inl (le_antisymm l h)
range_step k n x (no l) h go = inr (go (omega arith))

pub in_range : (k n x : ℕ) → k ≤ x → x < k + n → In x (range k n)
unfolding range
in_range k zero x h l = absurd (omega arith)
in_range k (suc n) x h l = range_step k n x (dec_le x k) h (λ g. in_range (suc k) n x g (omega arith))

pub length_range : (k n : ℕ) → length (range k n) ≡ n
unfolding range
length_range k zero = refl
length_range k (suc n) = ap suc (length_range (suc k) n)

pub range_in : (k n x : ℕ) → In x (range k n) → (k ≤ x) × (x < k + n)
unfolding range
range_in k zero x i = absurd i
range_in k (suc n) x (inl e) = (omega arith, omega arith)
range_in k (suc n) x (inr i) = let r = range_in (suc k) n x i in (omega arith, omega arith)

-- ---- a function over a range

module _ {A : Type 0} where
  pub length_map_range : (f : ℕ → A) (k n : ℕ) → length (map f (range k n)) ≡ n
  unfolding range
  length_map_range f k zero = refl
  length_map_range f k (suc n) = ap suc (length_map_range f (suc k) n)

  pub getD_map_range : (f : ℕ → A) (k n i : ℕ) (d : A) → i < n → get_or (map f (range k n)) i d ≡ f (k + i)
  unfolding range
  getD_map_range f k zero i d h = absurd (omega arith)
  getD_map_range f k (suc n) zero d h = rw add-zero
  getD_map_range f k (suc n) (suc i) d h = rw (getD_map_range f (suc k) n i d (omega arith), add-suc, suc-add)

  -- two functions that agree on a range
  pub map_range_cong : (f g : ℕ → A) (k n : ℕ) → ((i : ℕ) → k ≤ i → i < k + n → f i ≡ g i) → map f (range k n) ≡ map g (range k n)
  unfolding range
  map_range_cong f g k zero h = refl
  map_range_cong f g k (suc n) h =
      rw (h k (omega arith) (omega arith), map_range_cong f g (suc k) n (λ i l u. h i (omega arith) (omega arith)))

  -- one more at the end
  pub map_range_suc : (f : ℕ → A) (k n : ℕ) → map f (range k (suc n)) ≡ map f (range k n) ++ (f (k + n) ∷ [])
  unfolding range
  map_range_suc f k zero = rw add-zero
  map_range_suc f k (suc n) = rw (map_range_suc f (suc k) n, suc-add, add-suc)

  -- the first of them
  pub take_map_range : (f : ℕ → A) (k n m : ℕ) → m ≤ n → take m (map f (range k n)) ≡ map f (range k m)
  unfolding range
  take_map_range f k n zero h = refl
  take_map_range f k zero (suc m) h = absurd (omega arith)
  take_map_range f k (suc n) (suc m) h = ap {B = List A} (λ xs. f k ∷ xs) (take_map_range f (suc k) n m (omega arith))

  -- ---- a run of stores

  pub getD_sets_out : (l : List A) (i : ℕ) (vs : List A) (k : ℕ) (d : A) → (k < i) ⊎ (i + length vs ≤ k) →
      get_or (sets l i vs) k d ≡ get_or l k d
  getD_sets_out l i [] k d h = refl
  getD_sets_out l i (v ∷ vs) k d (inl h) =
      getD_sets_out (set l i v) (suc i) vs k d (inl (omega arith)) ∙ get_or-set_other l i k v d (omega arith)
  getD_sets_out l i (v ∷ vs) k d (inr h) =
      getD_sets_out (set l i v) (suc i) vs k d (inr (omega arith)) ∙ get_or-set_other l i k v d (omega arith)

  pub getD_sets_in : (l : List A) (i : ℕ) (vs : List A) (k : ℕ) (d : A) → k < length vs → i + length vs ≤ length l →
      get_or (sets l i vs) (i + k) d ≡ get_or vs k d
  getD_sets_in l i [] k d h m = absurd (omega arith)
  getD_sets_in l i (v ∷ vs) zero d h m =
      getD_sets_out (set l i v) (suc i) vs (i + 0) d (inl (omega arith))
      ∙ ap (λ (j : ℕ). get_or (set l i v) j d) (add-zero i)
      ∙ get_or-set_same l i v d (omega arith)
  getD_sets_in l i (v ∷ vs) (suc k) d h m =
      ap (λ (j : ℕ). get_or (sets (set l i v) (suc i) vs) j d) (add-suc i k ∙ sym (suc-add i k))
      ∙ getD_sets_in (set l i v) (suc i) vs k d (omega arith) (rw length-set (omega arith))

-- ---- a list of zeros

pub zeros : (n i : ℕ) → get_or {A = ℕ} (replicate n 0) i 0 ≡ 0
zeros zero i = refl
zeros (suc n) zero = refl
zeros (suc n) (suc i) = zeros n i

-- ---- lists compared

pub same_list_eq : (xs ys : List ℕ) → T (same_list xs ys) → xs ≡ ys
unfolding same_list
same_list_eq [] [] t = refl
same_list_eq [] (y ∷ ys) t = absurd t
same_list_eq (x ∷ xs) [] t = absurd t
same_list_eq (x ∷ xs) (y ∷ ys) t =
    let (e, r) = cond_and (eqb x y) (same_list xs ys) t in ap₂ (λ (z : ℕ) (zs : List ℕ). z ∷ zs) (eqb→eq x y e) (same_list_eq xs ys r)

pub same_list_same : (xs : List ℕ) → same_list xs xs ≡ true
unfolding same_list
same_list_same [] = refl
same_list_same (x ∷ xs) = rw (eq-eqb x x refl, same_list_same xs)

pub same_list_not : (xs ys : List ℕ) → (xs ≡ ys → ⊥) → same_list xs ys ≡ false
same_list_not xs ys n = not_true_false (same_list xs ys) (λ e. n (same_list_eq xs ys (true_T (same_list xs ys) e)))

-- what a comparison of two slices says, by their lengths and their elements
pub slices_same : (xs ys : List ℕ) (r : Bool) → Decides r (xs ≡ ys) → r ≡ same_list xs ys
slices_same xs ys r d = same_from_decides r (same_list xs ys) d both
  where
    both : Decides (same_list xs ys) (xs ≡ ys)
    both = (λ q. same_list_eq xs ys (true_T (same_list xs ys) q), λ q. rw (sym q) (same_list_same xs))

pub lengths_differ : (xs ys : List ℕ) → (length xs ≡ length ys → ⊥) → eqb (length xs) (length ys) ≡ same_list xs ys
lengths_differ xs ys n = ne_eqb (length xs) (length ys) n ∙ sym (same_list_not xs ys (λ e. n (ap length e)))

-- ---- a loop that copies vs into t₀ from a place on

-- i elements are copied, and copying the others into the table as it is now gives the whole copy
pub record Copying (t₀ : List ℕ) (at : ℕ) (vs t : List ℕ) (i : ℕ) : Type 0 where
  pub within : i ≤ length vs
  pub long : length t ≡ length t₀
  pub rest : sets t (at + i) (drop i vs) ≡ sets t₀ at vs

pub copy_first : (t : List ℕ) (at : ℕ) (vs : List ℕ) → Copying t at vs t 0
copy_first t at vs = record { within = omega arith; long = refl; rest = ap (λ (k : ℕ). sets t k vs) (add-zero at) }

pub copy_next : {t₀ : List ℕ} {at : ℕ} {vs t : List ℕ} {i : ℕ} → Copying t₀ at vs t i → i < length vs →
    Copying t₀ at vs (set t (at + i) (get_or vs i 0)) (i + 1)
copy_next {at = at} {vs} {t} {i} c h =
    let e : at + (i + 1) ≡ suc (at + i) = omega arith in
    let d : i + 1 ≡ suc i = omega arith in
    let r = c.rest in
    record { within = omega arith; long = length-set t (at + i) (get_or vs i 0) ∙ c.long; rest = rw (e, d) (rw (drop-cons vs i 0 h) at r) }

pub copy_done : {t₀ : List ℕ} {at : ℕ} {vs t : List ℕ} {i : ℕ} → Copying t₀ at vs t i → length vs ≤ i → t ≡ sets t₀ at vs
copy_done {at = at} {vs} {t} {i} c h = sym (ap (λ (ws : List ℕ). sets t (at + i) ws) (drop_of_length-le vs h)) ∙ c.rest
