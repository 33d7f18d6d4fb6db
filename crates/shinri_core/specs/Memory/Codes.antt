-- What the code's enums mean in the definition.
use Rattle.std.specs.Prelude.{ℕ, suc, ◌+◌, ◌<◌, Bool, true, false, cond, length, ◌≡◌, List, Option, Some, None, Result, Ok, Err}
use Rattle.shinri_core.specs.Term as Term
use Rattle.shinri_core.specs.Context as Context
use Rattle.shinri_core.specs.Context.{Context, symbol, term, mk_app, terms_fit, declarations_fit}
use Rattle.shinri_core.specs.Sort.{SortNode, Datatype, Uninterpreted}
use Rattle.shinri_core.specs.Memory.Table.{context, ContextSound}
use Rattle.shinri_core.specs.declared.term.Op as Op
use Rattle.shinri_core.specs.declared.ids.TermId as TermId
use Rattle.shinri_core.specs.declared.ids.SymbolId as SymbolId
use Rattle.shinri_core.specs.declared.limits.NoRoom as NoRoom
use Rattle.shinri_core.specs.declared.term.DtRole as DtRole

unfoldable pub op_meaning : Op.Op → Term.Op
op_meaning Op.TheVariants.Eq = Term.Eq
op_meaning (Op.TheVariants.Uninterpreted s) = Term.Uninterpreted s.0

-- the word that the table holds for an operation
unfoldable pub op_code : Op.Op → ℕ
op_code Op.TheVariants.Eq = 0
op_code (Op.TheVariants.Uninterpreted s) = suc s.0

-- and for the constructor that a symbol belongs to
abbrev pub owner_code : Option SymbolId.SymbolId → ℕ
owner_code None = 0
owner_code (Some c) = c.0 + 1

unfoldable pub role_meaning : DtRole.DtRole → Term.Role
role_meaning DtRole.TheVariants.Constructor = Term.Constructor
role_meaning (DtRole.TheVariants.Tester c) = Term.Tester c.0
role_meaning (DtRole.TheVariants.Selector c i) = Term.Selector c.0 i
role_meaning DtRole.TheVariants.Function = Term.Function

-- the symbol that an operation or a role names is below n
unfoldable pub OpBelow : ℕ → Op.Op → Type 0
OpBelow n Op.TheVariants.Eq = Unit {0}
OpBelow n (Op.TheVariants.Uninterpreted s) = s.0 < n

unfoldable pub RoleBelow : ℕ → DtRole.DtRole → Type 0
RoleBelow n DtRole.TheVariants.Constructor = Unit {0}
RoleBelow n (DtRole.TheVariants.Tester c) = c.0 < n
RoleBelow n (DtRole.TheVariants.Selector c i) = c.0 < n
RoleBelow n DtRole.TheVariants.Function = Unit {0}

-- the operation of term x: what it is, and that it is declared
pub record OpAt (t : List ℕ) (x : ℕ) (r : Op.Op) : Type 0 where
  pub is : op_meaning r ≡ (term (context t) x).op
  pub declared : OpBelow (length (context t).symbols) r

-- the role of symbol s: what it is, and that the constructor it belongs to is declared
pub record RoleAt (t : List ℕ) (s : ℕ) (r : DtRole.DtRole) : Type 0 where
  pub is : role_meaning r ≡ (symbol (context t) s).role
  pub declared : RoleBelow (length (context t).symbols) r

-- ---- making a term

-- the answer to making a term: its number, or no room
unfoldable pub made_answer : Context.Made → Result TermId.TermId NoRoom.NoRoom
made_answer m = cond (terms_fit m.context) (Ok (record { 0 = m.id })) (Err (record {}))

-- no room changes nothing
unfoldable pub made_context : Context → Context.Made → Context
made_context cx m = cond (terms_fit m.context) m.context cx

-- t is the table before, u the table after
pub record MkApp (t : List ℕ) (o : Term.Op) (args : List ℕ) (r : Result TermId.TermId NoRoom.NoRoom) (u : List ℕ) : Type 0 where
  pub sound : ContextSound u
  pub answer : r ≡ made_answer (mk_app (context t) o args)
  pub view : context u ≡ made_context (context t) (mk_app (context t) o args)
  pub unchanged : terms_fit (mk_app (context t) o args).context ≡ false → u ≡ t

-- ---- declaring

unfoldable pub declared_node : Bool → SortNode
declared_node true = Datatype
declared_node false = Uninterpreted

-- t is the table before, cx the context with the declaration, u the table after; no room changes nothing
pub record Declares (t : List ℕ) (cx : Context) (r : Result (Unit {0}) NoRoom.NoRoom) (u : List ℕ) : Type 0 where
  pub sound : ContextSound u
  pub answer : r ≡ cond (declarations_fit cx) (Ok tt) (Err (record {}))
  pub view : context u ≡ cond (declarations_fit cx) cx (context t)
  pub unchanged : declarations_fit cx ≡ false → u ≡ t
