-- A datatype is no other sort. How many symbols a constructor takes: itself, its tester, and a selector for each field. Which symbols
-- are a datatype's constructors.
use Rattle.shinri_core.proofs.Kit.{ℕ, zero, suc, ◌<◌, ◌≡◌, refl, ap, List, [], ◌∷◌, arith, T, eqb, length, get_or}
use Rattle.shinri_core.specs.Lists.{range}
use Rattle.shinri_core.specs.Sort.{SortNode, BoolSort, Datatype, Uninterpreted, is_datatype, is_bool, is_uninterpreted}
use Rattle.shinri_core.specs.Term.{Symbol}
use Rattle.shinri_core.specs.Context.{Context, selectors_from, constructor_symbols, no_symbol, symbol, is_constructor, builds, dt_constructors}
use Rattle.shinri_core.proofs.Lists.{In, T_and, in_keep, keep_in, in_range, range_in}

pub node_apart : (n : SortNode) → T (is_bool n) → T (is_datatype n) → ⊥
unfolding is_bool is_datatype
node_apart BoolSort a b = b
node_apart Datatype a b = a
node_apart Uninterpreted a b = b

pub node_other : (n : SortNode) → T (is_uninterpreted n) → T (is_datatype n) → ⊥
unfolding is_uninterpreted is_datatype
node_other BoolSort a b = b
node_other Datatype a b = a
node_other Uninterpreted a b = b

pub symbol_count : (c dt i : ℕ) (fields : List ℕ) → length (selectors_from c dt i fields) ≡ length fields
unfolding selectors_from
symbol_count c dt i [] = refl
symbol_count c dt i (f ∷ fs) = ap suc (symbol_count c dt (suc i) fs)

pub constructor_count : (c dt : ℕ) (fields : List ℕ) → length (constructor_symbols c dt fields) ≡ suc (suc (length fields))
unfolding constructor_symbols
constructor_count c dt fields = ap (λ (n : ℕ). suc (suc n)) (symbol_count c dt 0 fields)

constructor_in_range : (fs : List Symbol) (c : ℕ) → T (is_constructor (get_or fs c no_symbol).role) → c < length fs
unfolding is_constructor no_symbol
constructor_in_range [] c t = absurd t
constructor_in_range (f ∷ fs) zero t = omega arith
constructor_in_range (f ∷ fs) (suc c) t = let h = constructor_in_range fs c t in omega arith

module _ (cx : Context) (dt c : ℕ) where
  pub builds_in : T (builds cx dt c) → In c (dt_constructors cx dt)
  unfolding dt_constructors builds symbol
  builds_in t =
      let n = length cx.symbols in
      let l = constructor_in_range cx.symbols c (T_and (is_constructor (symbol cx c).role) (eqb (symbol cx c).result dt) t).0 in
      in_keep (builds cx dt) (range 0 n) c (in_range 0 n c (omega arith) (omega arith)) t

  pub in_builds : In c (dt_constructors cx dt) → T (builds cx dt c)
  unfolding dt_constructors
  in_builds i = (keep_in (builds cx dt) (range 0 (length cx.symbols)) c i).1

  pub in_symbols : In c (dt_constructors cx dt) → c < length cx.symbols
  unfolding dt_constructors
  in_symbols i =
      let r = range_in 0 (length cx.symbols) c (keep_in (builds cx dt) (range 0 (length cx.symbols)) c i).0 in omega arith
