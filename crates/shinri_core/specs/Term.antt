-- Symbols with their roles, and terms (term.rs, and DtRole of context.rs).
use Rattle.std.specs.Prelude.{ℕ, Bool, true, false, ◌&&◌, List, eqb}
use Rattle.shinri_core.specs.Lists.{same_list}

-- DtRole; a function has none
pub data Role : Type 0 where
  Constructor : Role
  Tester : (ctor : ℕ) → Role
  Selector : (ctor index : ℕ) → Role
  Function : Role

pub record Symbol : Type 0 where
  pub role : Role
  pub params : List ℕ
  pub result : ℕ

-- the operation of a term: equality, or a symbol
pub data Op : Type 0 where
  Eq : Op
  Uninterpreted : (symbol : ℕ) → Op

pub record Term : Type 0 where
  pub op : Op
  pub args : List ℕ

unfoldable pub same_op : Op → Op → Bool
same_op Eq Eq = true
same_op Eq (Uninterpreted s) = false
same_op (Uninterpreted r) Eq = false
same_op (Uninterpreted r) (Uninterpreted s) = eqb r s

unfoldable pub same_term : Op → List ℕ → Term → Bool
same_term op args t = same_op op t.op && same_list args t.args
