-- What the code's commands mean, beside the table of numbers, and what reading a line promises.
use Rattle.std.specs.Prelude.{ℕ, ◌≤◌, ◌<◌, ◌≡◌, List, length, take, drop, None, Some}
use Rattle.std.proofs.Math.Option.{Option, none, some}
use Rattle.shinri_core.specs.Memory.Codes.{declared_node}
use Rattle.session.specs.Line.{Key, SortKey, CtorKey, FunKey, CloseKey, TermKey, EqKey, VarKey, EquateKey, CongKey, IfaceKey, AssertKey, DifferKey, PushKey, PopKey, CheckKey}
use Rattle.session.specs.Line.{Command, DeclareSort, DeclareCtor, DeclareFun, Close, MkTerm, MkEq, Register, Equate, Cong, Iface, Assert, Differ, Push, Pop, Check, read_line}
use Rattle.std.specs.declared.option.Option as GivenOption
use Rattle.session.specs.declared.line.Command as Given
use Rattle.session.specs.declared.line.ListKey as GivenList
use Rattle.session.specs.declared.line.OneKey as GivenOne
use Rattle.session.specs.declared.line.PairKey as GivenPair
use Rattle.session.specs.declared.line.Key as GivenKey

-- the numbers of a line: at most 17
abbrev pub max_numbers : ℕ
max_numbers = 17

-- n numbers behind the first
abbrev pub others : ℕ → List ℕ → List ℕ
others n ns = take n (drop 1 ns)

abbrev pub command_meaning : Given.Command → List ℕ → Option Command
command_meaning Given.TheVariants.Unreadable ns = none
command_meaning (Given.TheVariants.DeclareSort d) ns = some (DeclareSort (declared_node d))
command_meaning (Given.TheVariants.DeclareCtor dt n) ns = some (DeclareCtor dt.0 (others n ns))
command_meaning (Given.TheVariants.DeclareFun r n) ns = some (DeclareFun r.0 (others n ns))
command_meaning Given.TheVariants.Close ns = some Close
command_meaning (Given.TheVariants.MkTerm f n) ns = some (MkTerm f.0 (others n ns))
command_meaning (Given.TheVariants.MkEq t u) ns = some (MkEq t.0 u.0)
command_meaning (Given.TheVariants.Register v t) ns = some (Register v.0 t.0)
command_meaning (Given.TheVariants.Equate l) ns = some (Equate l.0)
command_meaning (Given.TheVariants.Cong t u) ns = some (Cong t.0 u.0)
command_meaning (Given.TheVariants.Iface t u j) ns = some (Iface t.0 u.0 j.theory j.tag)
command_meaning (Given.TheVariants.Assert l) ns = some (Assert l.0)
command_meaning (Given.TheVariants.Differ l) ns = some (Differ l.0)
command_meaning Given.TheVariants.Push ns = some Push
command_meaning (Given.TheVariants.Pop k) ns = some (Pop k)
command_meaning (Given.TheVariants.Check full) ns = some (Check full)

-- n numbers stand in a table of this length behind its first, which are no more than a line may have
abbrev pub OthersFit : ℕ → ℕ → Type 0
OthersFit n k = (n < max_numbers) × (n < k)

-- the list that a command names stands in a table of numbers of this length
abbrev pub ListFits : Given.Command → ℕ → Type 0
ListFits Given.TheVariants.Unreadable k = Unit {0}
ListFits (Given.TheVariants.DeclareSort d) k = Unit {0}
ListFits (Given.TheVariants.DeclareCtor dt n) k = OthersFit n k
ListFits (Given.TheVariants.DeclareFun r n) k = OthersFit n k
ListFits Given.TheVariants.Close k = Unit {0}
ListFits (Given.TheVariants.MkTerm f n) k = OthersFit n k
ListFits (Given.TheVariants.MkEq t u) k = Unit {0}
ListFits (Given.TheVariants.Register v t) k = Unit {0}
ListFits (Given.TheVariants.Equate l) k = Unit {0}
ListFits (Given.TheVariants.Cong t u) k = Unit {0}
ListFits (Given.TheVariants.Iface t u j) k = Unit {0}
ListFits (Given.TheVariants.Assert l) k = Unit {0}
ListFits (Given.TheVariants.Differ l) k = Unit {0}
ListFits Given.TheVariants.Push k = Unit {0}
ListFits (Given.TheVariants.Pop p) k = Unit {0}
ListFits (Given.TheVariants.Check full) k = Unit {0}

-- what o says is what was read, beside ns
pub record ReadsAs (o : Option Command) (k : Given.Command) (ns : List ℕ) : Type 0 where
  pub is : command_meaning k ns ≡ o
  pub fits : ListFits k (length ns)

-- the same beside any numbers: no list is named
abbrev pub ReadsAlone : Option Command → Given.Command → Type 0
ReadsAlone o k = (ns : List ℕ) → ReadsAs o k ns

-- a line was read; its numbers stand in ns
abbrev pub ReadsLine : List ℕ → Given.Command → List ℕ → Type 0
ReadsLine line k ns = ReadsAs (read_line line) k ns

-- n numbers, one or more, stand at the start of a table
pub record NumbersStand (n : ℕ) (ns : List ℕ) : Type 0 where
  pub any : 1 ≤ n
  pub most : n ≤ max_numbers
  pub within : n ≤ length ns

-- ---- keys

abbrev pub list_key : GivenList.ListKey → Key
list_key GivenList.TheVariants.Ctor = CtorKey
list_key GivenList.TheVariants.Fun = FunKey
list_key GivenList.TheVariants.Term = TermKey

abbrev pub one_key : GivenOne.OneKey → Key
one_key GivenOne.TheVariants.Close = CloseKey
one_key GivenOne.TheVariants.Equate = EquateKey
one_key GivenOne.TheVariants.Assert = AssertKey
one_key GivenOne.TheVariants.Differ = DifferKey
one_key GivenOne.TheVariants.Push = PushKey
one_key GivenOne.TheVariants.Pop = PopKey
one_key GivenOne.TheVariants.Check = CheckKey

abbrev pub pair_key : GivenPair.PairKey → Key
pair_key GivenPair.TheVariants.Eq = EqKey
pair_key GivenPair.TheVariants.Var = VarKey
pair_key GivenPair.TheVariants.Cong = CongKey

abbrev pub key_meaning : GivenKey.Key → Key
key_meaning GivenKey.TheVariants.Sort = SortKey
key_meaning (GivenKey.TheVariants.List k) = list_key k
key_meaning (GivenKey.TheVariants.One k) = one_key k
key_meaning (GivenKey.TheVariants.Pair k) = pair_key k
key_meaning GivenKey.TheVariants.Iface = IfaceKey

-- the key o, or none, was read
abbrev pub ReadsKey : Option Key → GivenOption.Option GivenKey.Key → Type 0
ReadsKey o None = o ≡ none
ReadsKey o (Some k) = o ≡ some (key_meaning k)
