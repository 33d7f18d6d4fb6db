-- Reading a line: question 3 whole. A line is key=value, the value decimal numbers parted by commas, at most 17; only `sort`
-- takes a letter.
use Rattle.std.specs.Prelude.{ℕ, Bool, true, false, cond, List, [], ◌∷◌, eqb, leb, length}
use Rattle.std.proofs.Math.Option.{Option, none, some}
use Rattle.shinri_core.specs.Lists.{first, same_list}
use Rattle.shinri_core.specs.Sort.{SortNode, Datatype, Uninterpreted}
use Rattle.session.specs.Text.{bytes, comma, equals, parts, number}

-- the fifteen kinds of line
pub data Key : Type 0 where
  SortKey CtorKey FunKey CloseKey TermKey EqKey VarKey EquateKey CongKey IfaceKey AssertKey DifferKey PushKey PopKey CheckKey : Key

unfoldable pub key_text : Key → List ℕ
key_text SortKey = bytes "sort"
key_text CtorKey = bytes "ctor"
key_text FunKey = bytes "fun"
key_text CloseKey = bytes "close"
key_text TermKey = bytes "term"
key_text EqKey = bytes "eq"
key_text VarKey = bytes "var"
key_text EquateKey = bytes "equate"
key_text CongKey = bytes "cong"
key_text IfaceKey = bytes "iface"
key_text AssertKey = bytes "assert"
key_text DifferKey = bytes "differ"
key_text PushKey = bytes "push"
key_text PopKey = bytes "pop"
key_text CheckKey = bytes "check"

unfoldable pub keys : List Key
keys =
    SortKey ∷ CtorKey ∷ FunKey ∷ CloseKey ∷ TermKey ∷ EqKey ∷ VarKey ∷ EquateKey ∷ CongKey ∷ IfaceKey ∷ AssertKey ∷ DifferKey
    ∷ PushKey ∷ PopKey ∷ CheckKey ∷ []

-- a line that reads
pub data Command : Type 0 where
  DeclareSort : SortNode → Command
  DeclareCtor : (dt : ℕ) → (fields : List ℕ) → Command
  DeclareFun : (result : ℕ) → (args : List ℕ) → Command
  Close : Command
  MkTerm : (symbol : ℕ) → (args : List ℕ) → Command
  MkEq : (t u : ℕ) → Command
  Register : (var t : ℕ) → Command
  Equate : (lit : ℕ) → Command
  Cong : (t u : ℕ) → Command
  Iface : (t u theory tag : ℕ) → Command
  Assert : (lit : ℕ) → Command
  Differ : (lit : ℕ) → Command
  Push : Command
  Pop : (level : ℕ) → Command
  Check : (full : Bool) → Command

-- ---- the right count of numbers

unfoldable pub some_or_more : (ℕ → List ℕ → Command) → List ℕ → Option Command
some_or_more f [] = none
some_or_more f (x ∷ xs) = some (f x xs)

unfoldable pub just_one : (ℕ → Option Command) → List ℕ → Option Command
just_one f [] = none
just_one f (x ∷ []) = f x
just_one f (x ∷ y ∷ ys) = none

unfoldable pub just_two : (ℕ → ℕ → Command) → List ℕ → Option Command
just_two f [] = none
just_two f (x ∷ []) = none
just_two f (x ∷ y ∷ []) = some (f x y)
just_two f (x ∷ y ∷ z ∷ zs) = none

unfoldable pub just_four : (ℕ → ℕ → ℕ → ℕ → Option Command) → List ℕ → Option Command
just_four f [] = none
just_four f (x ∷ []) = none
just_four f (x ∷ y ∷ []) = none
just_four f (x ∷ y ∷ z ∷ []) = none
just_four f (x ∷ y ∷ z ∷ w ∷ []) = f x y z w
just_four f (x ∷ y ∷ z ∷ w ∷ v ∷ vs) = none

-- 1 after a key written only with 1
unfoldable pub only_one : Command → ℕ → Option Command
only_one c n = cond (eqb n 1) (some c) none

-- 0 or 1 after `check`: 1 full, 0 not
unfoldable pub effort : ℕ → Option Command
effort n = cond (eqb n 1) (some (Check true)) (cond (eqb n 0) (some (Check false)) none)

-- H at most 65,535
unfoldable pub iface : ℕ → ℕ → ℕ → ℕ → Option Command
iface t u h g = cond (leb h 65535) (some (Iface t u h g)) none

unfoldable pub by_key : Key → List ℕ → Option Command
by_key SortKey ns = none
by_key CtorKey ns = some_or_more DeclareCtor ns
by_key FunKey ns = some_or_more DeclareFun ns
by_key CloseKey ns = just_one (only_one Close) ns
by_key TermKey ns = some_or_more MkTerm ns
by_key EqKey ns = just_two MkEq ns
by_key VarKey ns = just_two Register ns
by_key EquateKey ns = just_one (λ l. some (Equate l)) ns
by_key CongKey ns = just_two Cong ns
by_key IfaceKey ns = just_four iface ns
by_key AssertKey ns = just_one (λ l. some (Assert l)) ns
by_key DifferKey ns = just_one (λ l. some (Differ l)) ns
by_key PushKey ns = just_one (only_one Push) ns
by_key PopKey ns = just_one (λ k. some (Pop k)) ns
by_key CheckKey ns = just_one effort ns

-- ---- the value

unfoldable pub letter_sort : List ℕ → Option Command
letter_sort v =
    cond (same_list v (bytes "d")) (some (DeclareSort Datatype))
    (cond (same_list v (bytes "u")) (some (DeclareSort Uninterpreted)) none)

unfoldable pub add_number : Option ℕ → Option (List ℕ) → Option (List ℕ)
add_number none ns = none
add_number (some n) none = none
add_number (some n) (some ns) = some (n ∷ ns)

unfoldable pub numbers : List (List ℕ) → Option (List ℕ)
numbers [] = some []
numbers (p ∷ ps) = add_number (number p) (numbers ps)

unfoldable pub at_most_17 : Key → Option (List ℕ) → Option Command
at_most_17 k none = none
at_most_17 k (some ns) = cond (leb (length ns) 17) (by_key k ns) none

unfoldable pub by_value : Key → List ℕ → Option Command
by_value SortKey v = letter_sort v
by_value CtorKey v = at_most_17 CtorKey (numbers (parts comma v))
by_value FunKey v = at_most_17 FunKey (numbers (parts comma v))
by_value CloseKey v = at_most_17 CloseKey (numbers (parts comma v))
by_value TermKey v = at_most_17 TermKey (numbers (parts comma v))
by_value EqKey v = at_most_17 EqKey (numbers (parts comma v))
by_value VarKey v = at_most_17 VarKey (numbers (parts comma v))
by_value EquateKey v = at_most_17 EquateKey (numbers (parts comma v))
by_value CongKey v = at_most_17 CongKey (numbers (parts comma v))
by_value IfaceKey v = at_most_17 IfaceKey (numbers (parts comma v))
by_value AssertKey v = at_most_17 AssertKey (numbers (parts comma v))
by_value DifferKey v = at_most_17 DifferKey (numbers (parts comma v))
by_value PushKey v = at_most_17 PushKey (numbers (parts comma v))
by_value PopKey v = at_most_17 PopKey (numbers (parts comma v))
by_value CheckKey v = at_most_17 CheckKey (numbers (parts comma v))

-- ---- key=value

-- what stands before the first equals sign, and after it
unfoldable pub after_byte : ℕ → Option (List ℕ × List ℕ) → Option (List ℕ × List ℕ)
after_byte b none = none
after_byte b (some (k, v)) = some (b ∷ k, v)

unfoldable pub key_and_value : List ℕ → Option (List ℕ × List ℕ)
key_and_value [] = none
key_and_value (b ∷ bs) = let r = after_byte b (key_and_value bs) in cond (eqb b equals) (some ([], bs)) r

unfoldable pub known : Option Key → List ℕ → Option Command
known none v = none
known (some k) v = by_value k v

unfoldable pub read_parts : Option (List ℕ × List ℕ) → Option Command
read_parts none = none
read_parts (some (k, v)) = known (first (λ x. same_list k (key_text x)) keys) v

-- Question 3: does it read?
unfoldable pub read_line : List ℕ → Option Command
read_line l = read_parts (key_and_value l)

unfoldable pub line_definitions : Unit {0}
unfolding key_text keys some_or_more just_one just_two just_four only_one effort iface by_key letter_sort add_number numbers at_most_17 by_value after_byte key_and_value known read_parts read_line
line_definitions = tt
