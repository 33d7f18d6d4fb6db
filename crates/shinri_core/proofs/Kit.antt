-- The names of the libraries that proofs use.
pub use Prim.Native.Nat.{◌-◌, ◌≤◌, ℕ, suc, zero, ◌+◌, ◌<◌, ◌*◌, ◌/◌, ◌%◌}
pub use mathlib.Core.Path.{◌≡◌, refl, sym, ap, ◌∙◌, subst, ap₂, subst⁻¹}
pub use mathlib.Core.Logic.{⊎_elim, ◌⊎◌, inl, inr, ⊎_map, ◌↔◌}
pub use mathlib.Core.Bool.{Bool, true, false, cond, ◌&&◌, false≢true, not, ◌||◌, true≢false, or-false, or-true}
pub use mathlib.Core.List.{List, [], ◌∷◌, ◌++◌, map, map-append, map-id, append_assoc, append-nil, foldl, append_cancel_right, nil≢cons, tail-eq_of_cons-eq, head-eq_of_cons-eq, cons≢nil, foldl-append}
pub use mathlib.Core.Option.{none, some, get_or as option_get_or, Option}
pub use native.Mathlib.Omega.{arith}
pub use native.Mathlib.Decide.{dec_le, ℕ_discrete, dec_lt}
pub use native.Mathlib.Nat.{le_antisymm, add-zero, add-suc, suc-add, zero-add, add_assoc, mod-lt}
pub use native.Mathlib.Numerals.{add-one}
pub use borrow.Author.Rules.{rules}
pub use borrow.Author.Tests.{eq-eqb, ne_eqb, eqb-true, not-false, le-leb, lt-leb, eqb-false, ltb-true, ltb-false, le-ltb}
pub use borrow.Author.Count.{below_more}
pub use lib.Dec.{T, eqb, eqb→eq, leb, leb→le, eqb-suc-suc as eqb_suc_suc, lit<, eqb_refl, ltb}
pub use lib.ListN.{length, get_or, take, drop, set, length-set, drop_of_length-le, length-append, length-drop, get_or-eq_default as list_get_or_eq_default, length-map, replicate}
pub use lib.Seq.{sets, get_or-set_same, get_or-set_other, drop-cons, length-sets, ext_get_or, get_or-take, get_or-drop, length-take-le, take_all, take-take}
