-- Labels of forest edges and the leaves that they rest on (types.rs).
use Rattle.std.specs.Prelude.{ℕ, Bool, false, ◌&&◌, List, eqb}

-- EqJust: a literal of `equate`, the argument pairs of `cong` in order, or the theory and tag of `iface`
pub data EqJust : Type 0 where
  Asserted : (lit : ℕ) → EqJust
  Congruence : (pairs : List (ℕ × ℕ)) → EqJust
  Interface : (theory tag : ℕ) → EqJust

-- EqLeaf: what an answer cites
pub data EqLeaf : Type 0 where
  AssertedLeaf : (lit : ℕ) → EqLeaf
  InterfaceLeaf : (theory tag : ℕ) → EqLeaf

unfoldable pub same_leaf : EqLeaf → EqLeaf → Bool
same_leaf (AssertedLeaf l) (AssertedLeaf m) = eqb l m
same_leaf (AssertedLeaf l) (InterfaceLeaf h g) = false
same_leaf (InterfaceLeaf h g) (AssertedLeaf m) = false
same_leaf (InterfaceLeaf h g) (InterfaceLeaf i k) = eqb h i && eqb g k
