-- What a key asks of its numbers, and the numbers at the start of a table.
use Rattle.shinri_core.proofs.Kit.{ℕ, zero, suc, ◌-◌, ◌≤◌, ◌≡◌, refl, sym, ap, ◌∙◌, subst⁻¹, Bool, true, false, cond, ◌&&◌, List, [], ◌∷◌, Option, none, some, arith, le-leb, eqb, length, get_or, take, length-take-le}
use lib.Pointwise.{pointwise}
use Rattle.std.specs.Prelude.{Some, None}
use Rattle.std.specs.declared.option.Option as GivenOption
use Rattle.shinri_core.specs.Lists.{first, same_list}
use Rattle.session.specs.Text.{comma, parts}
use Rattle.session.specs.Line.{Key, Command, IfaceKey, key_text, just_one, just_two, just_four, by_key, numbers, at_most_17, by_value}
use Rattle.session.specs.Memory.Numbers.{ReadTo}
use Rattle.session.specs.Memory.Commands.{one_key, pair_key, key_meaning, others, ReadsKey}
use Rattle.session.specs.declared.line.Key as GivenKey
use Rattle.session.specs.declared.line.ListKey as GivenList
use Rattle.session.specs.declared.line.OneKey as GivenOne
use Rattle.session.specs.declared.line.PairKey as GivenPair

-- `==` on texts is the definition's test
pub eq_same : (a b : List ℕ) → pointwise eqb a b ≡ same_list a b
unfolding same_list
eq_same [] [] = refl
eq_same [] (y ∷ ys) = refl
eq_same (x ∷ xs) [] = refl
eq_same (x ∷ xs) (y ∷ ys) = rw (eq_same xs ys) (go (eqb x y) (same_list xs ys))
  where
    go : (b r : Bool) → (b && r) ≡ cond b r false
    go true r = refl
    go false r = refl

pub eq_is : (a b : List ℕ) {text : List ℕ} {r s : Bool} → r ≡ pointwise eqb a b → b ≡ text → r ≡ s → same_list a text ≡ s
eq_is a b e t f = ap (same_list a) (sym t) ∙ sym (eq_same a b) ∙ sym e ∙ f

-- ---- the first of some keys that has this text

pub record Tried (text : List ℕ) (ks : List Key) (r : GivenOption.Option GivenKey.Key) : Type 0 where
  pub is : ReadsKey (first (λ x. same_list text (key_text x)) ks) r

pub none_tried : (text : List ℕ) → Tried text [] None
unfolding first
none_tried text = record { is = refl }

pub one_tried : {text : List ℕ} {ks : List Key} {other r : GivenOption.Option GivenKey.Key} (k : Key) (g : GivenKey.Key) →
    r ≡ cond (same_list text (key_text k)) (Some g) other → key_meaning g ≡ k → Tried text ks other → Tried text (k ∷ ks) r
unfolding first
one_tried {text} {ks} {other} k g e m h =
    record { is = subst⁻¹ (ReadsKey (first (λ x. same_list text (key_text x)) (k ∷ ks))) e (go (same_list text (key_text k))) }
  where
    go : (b : Bool) → ReadsKey (cond b (some k) (first (λ x. same_list text (key_text x)) ks)) (cond b (Some g) other)
    go true = ap some (sym m)
    go false = h.is

-- ---- another count of numbers

not_one : (f : ℕ → Option Command) (xs : List ℕ) → (length xs ≡ 1 → ⊥) → just_one f xs ≡ none
unfolding just_one
not_one f [] h = refl
not_one f (x ∷ []) h = absurd (h refl)
not_one f (x ∷ y ∷ xs) h = refl

not_two : (f : ℕ → ℕ → Command) (xs : List ℕ) → (length xs ≡ 2 → ⊥) → just_two f xs ≡ none
unfolding just_two
not_two f [] h = refl
not_two f (x ∷ []) h = refl
not_two f (x ∷ y ∷ []) h = absurd (h refl)
not_two f (x ∷ y ∷ z ∷ xs) h = refl

not_four : (f : ℕ → ℕ → ℕ → ℕ → Option Command) (xs : List ℕ) → (length xs ≡ 4 → ⊥) → just_four f xs ≡ none
unfolding just_four
not_four f [] h = refl
not_four f (x ∷ []) h = refl
not_four f (x ∷ y ∷ []) h = refl
not_four f (x ∷ y ∷ z ∷ []) h = refl
not_four f (x ∷ y ∷ z ∷ w ∷ []) h = absurd (h refl)
not_four f (x ∷ y ∷ z ∷ w ∷ v ∷ xs) h = refl

by_not_one : (k : GivenOne.OneKey) (xs : List ℕ) → (length xs ≡ 1 → ⊥) → by_key (one_key k) xs ≡ none
unfolding by_key
by_not_one GivenOne.TheVariants.Close xs h = not_one _ xs h
by_not_one GivenOne.TheVariants.Equate xs h = not_one _ xs h
by_not_one GivenOne.TheVariants.Assert xs h = not_one _ xs h
by_not_one GivenOne.TheVariants.Differ xs h = not_one _ xs h
by_not_one GivenOne.TheVariants.Push xs h = not_one _ xs h
by_not_one GivenOne.TheVariants.Pop xs h = not_one _ xs h
by_not_one GivenOne.TheVariants.Check xs h = not_one _ xs h

by_not_two : (k : GivenPair.PairKey) (xs : List ℕ) → (length xs ≡ 2 → ⊥) → by_key (pair_key k) xs ≡ none
unfolding by_key
by_not_two GivenPair.TheVariants.Eq xs h = not_two _ xs h
by_not_two GivenPair.TheVariants.Var xs h = not_two _ xs h
by_not_two GivenPair.TheVariants.Cong xs h = not_two _ xs h

-- ---- the first n words of a table

module _ (ns : List ℕ) (n : ℕ) (h : n ≤ length ns) where
  pub other_one : (k : GivenOne.OneKey) → (n ≡ 1 → ⊥) → none ≡ by_key (one_key k) (take n ns)
  other_one k f = sym (by_not_one k (take n ns) (λ e. f (sym (length-take-le n ns h) ∙ e)))

  pub other_two : (k : GivenPair.PairKey) → (n ≡ 2 → ⊥) → none ≡ by_key (pair_key k) (take n ns)
  other_two k f = sym (by_not_two k (take n ns) (λ e. f (sym (length-take-le n ns h) ∙ e)))

  pub other_four : (n ≡ 4 → ⊥) → none ≡ by_key IfaceKey (take n ns)
  unfolding by_key
  other_four f = sym (not_four _ (take n ns) (λ e. f (sym (length-take-le n ns h) ∙ e)))

pub take_some : (ns : List ℕ) (n : ℕ) → n ≤ length ns → 1 ≤ n → take n ns ≡ get_or ns 0 0 ∷ others (n - 1) ns
take_some ns zero h l = absurd (omega arith)
take_some [] (suc n) h l = absurd (omega arith)
take_some (x ∷ ns) (suc n) h l = let e : suc n - 1 ≡ n = omega arith in rw e

pub take_one : (ns : List ℕ) (n : ℕ) → n ≤ length ns → n ≡ 1 → take n ns ≡ get_or ns 0 0 ∷ []
take_one [] n h e = absurd (omega arith)
take_one (x ∷ ns) n h e = rw e

pub take_two : (ns : List ℕ) (n : ℕ) → n ≤ length ns → n ≡ 2 → take n ns ≡ get_or ns 0 0 ∷ get_or ns 1 0 ∷ []
take_two [] n h e = absurd (omega arith)
take_two (x ∷ []) n h e = absurd (omega arith)
take_two (x ∷ y ∷ ns) n h e = rw e

pub take_four : (ns : List ℕ) (n : ℕ) → n ≤ length ns → n ≡ 4 → take n ns ≡ get_or ns 0 0 ∷ get_or ns 1 0 ∷ get_or ns 2 0 ∷ get_or ns 3 0 ∷ []
take_four [] n h e = absurd (omega arith)
take_four (x ∷ []) n h e = absurd (omega arith)
take_four (x ∷ y ∷ []) n h e = absurd (omega arith)
take_four (x ∷ y ∷ z ∷ []) n h e = absurd (omega arith)
take_four (x ∷ y ∷ z ∷ w ∷ ns) n h e = rw e

-- ---- the value

-- only the key of a sort takes a letter
pub takes_numbers : (k : GivenKey.Key) (v : List ℕ) → (k ≡ GivenKey.TheVariants.Sort → ⊥) →
    by_value (key_meaning k) v ≡ at_most_17 (key_meaning k) (numbers (parts comma v))
unfolding by_value
takes_numbers GivenKey.TheVariants.Sort v h = absurd (h refl)
takes_numbers (GivenKey.TheVariants.List GivenList.TheVariants.Ctor) v h = refl
takes_numbers (GivenKey.TheVariants.List GivenList.TheVariants.Fun) v h = refl
takes_numbers (GivenKey.TheVariants.List GivenList.TheVariants.Term) v h = refl
takes_numbers (GivenKey.TheVariants.One GivenOne.TheVariants.Close) v h = refl
takes_numbers (GivenKey.TheVariants.One GivenOne.TheVariants.Equate) v h = refl
takes_numbers (GivenKey.TheVariants.One GivenOne.TheVariants.Assert) v h = refl
takes_numbers (GivenKey.TheVariants.One GivenOne.TheVariants.Differ) v h = refl
takes_numbers (GivenKey.TheVariants.One GivenOne.TheVariants.Push) v h = refl
takes_numbers (GivenKey.TheVariants.One GivenOne.TheVariants.Pop) v h = refl
takes_numbers (GivenKey.TheVariants.One GivenOne.TheVariants.Check) v h = refl
takes_numbers (GivenKey.TheVariants.Pair GivenPair.TheVariants.Eq) v h = refl
takes_numbers (GivenKey.TheVariants.Pair GivenPair.TheVariants.Var) v h = refl
takes_numbers (GivenKey.TheVariants.Pair GivenPair.TheVariants.Cong) v h = refl
takes_numbers GivenKey.TheVariants.Iface v h = refl

-- 1 to 17 numbers at the start of a table
pub numbers_read : (k : Key) (v ns : List ℕ) {n : ℕ} → ReadTo v n ns → n ≤ length ns →
    at_most_17 k (numbers (parts comma v)) ≡ by_key k (take n ns)
unfolding at_most_17
numbers_read k v ns {n} w h =
    let m = w.most in
    let l = length-take-le n ns h in
    ap (at_most_17 k) w.is ∙ rw (le-leb (length (take n ns)) 17 (omega arith))
