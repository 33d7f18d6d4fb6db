-- The lent table of this layer: where each part stands, what a table means, and when it is sound.
use Rattle.std.specs.Prelude.{ℕ, zero, suc, ◌+◌, ◌-◌, ◌*◌, ◌/◌, ◌%◌, ◌≤◌, ◌<◌, ◌≡◌, List, [], ◌∷◌, Bool, true, false, cond, not, ◌&&◌, T, eqb, length, get_or, Option, MatchOption}
use Rattle.std.proofs.Math.Option.{none, some}
use Rattle.shinri_core.specs.declared.ids.SymbolId as SymbolId
use Rattle.shinri_core.specs.declared.ids.TermId as TermId
use Rattle.shinri_core.specs.Limits.{max_sorts, max_symbols, max_terms, max_places, max_params, table_words}
use Rattle.shinri_core.specs.Lists.{keep, place_from, range}
use Rattle.shinri_core.specs.Sort.{SortNode, BoolSort, Datatype, Uninterpreted}
use Rattle.shinri_core.specs.Term as Term
use Rattle.shinri_core.specs.Term.{Role, Constructor, Tester, Selector, Function, Symbol, Op, Eq, Term, same_term}
use Rattle.shinri_core.specs.Context.{Context, with_symbols, intern, is_constructor, builds, symbol, ready, has_ready_fields, inhabited}
use Rattle.shinri_core.specs.Inhabited.{Closed}
use Rattle.shinri_core.specs.Memory.Words.{at, room_in, counted, stretch}

-- ---- the layout

-- how many sorts, symbols and terms there are
abbrev pub COUNTS : ℕ
COUNTS = 0

abbrev pub SORTS : ℕ
SORTS = 0

abbrev pub SYMBOLS : ℕ
SYMBOLS = 1

abbrev pub TERMS : ℕ
TERMS = 2

-- for each sort its kind
abbrev pub SORT : ℕ
SORT = 64

-- for each symbol one more than the constructor that it belongs to, or 0; its result sort; how many parameters it has; and in
-- four words its parameter sorts, four to a word
abbrev pub OWNER : ℕ
OWNER = 128

abbrev pub RESULT : ℕ
RESULT = 640

abbrev pub ARITY : ℕ
ARITY = 1152

abbrev pub PARAMS : ℕ
PARAMS = 8192

-- for each term one more than its symbol, or 0 for an equation; where its arguments begin in the pool, which is where those of the
-- term before it end; the pool of arguments
abbrev pub OP : ℕ
OP = 1664

abbrev pub OFFSET : ℕ
OFFSET = 2688

abbrev pub POOL : ℕ
POOL = 3840

-- the index: for each bucket one more than the newest term in it, or 0; and for each term the same of the terms before it in its bucket
abbrev pub BUCKET : ℕ
BUCKET = 10240

abbrev pub LINK : ℕ
LINK = 11264

-- The words from 12,288 on are free; at least 2,048 are to stay so.
abbrev pub layout : List (ℕ × ℕ)
layout =
    (COUNTS, 64)
    ∷ (SORT, max_sorts)
    ∷ (OWNER, max_symbols)
    ∷ (RESULT, max_symbols)
    ∷ (ARITY, max_symbols)
    ∷ (OP, max_terms)
    ∷ (OFFSET, 1025)
    ∷ (POOL, max_places)
    ∷ (PARAMS, 2048)
    ∷ (BUCKET, 1024)
    ∷ (LINK, max_terms)
    ∷ []

abbrev pub core_room : ℕ → ℕ
core_room = room_in layout

abbrev pub sorts# : List ℕ → ℕ
sorts# t = at t COUNTS SORTS

abbrev pub symbols# : List ℕ → ℕ
symbols# t = at t COUNTS SYMBOLS

abbrev pub terms# : List ℕ → ℕ
terms# t = at t COUNTS TERMS

-- ---- four sorts in a word

-- a sort is below it; its square and its cube
abbrev pub radix : ℕ
radix = 64

abbrev pub radix_squared : ℕ
radix_squared = 4096

abbrev pub radix_cubed : ℕ
radix_cubed = 262144

-- digit d of a word
unfoldable pub digit : ℕ → ℕ → ℕ
digit w zero = w % radix
digit w (suc zero) = w / radix % radix
digit w (suc (suc zero)) = w / radix_squared % radix
digit w (suc (suc (suc d))) = w / radix_cubed % radix

-- the word of four numbers of a list, from number 4 q on
unfoldable pub packed : List ℕ → ℕ → ℕ
packed xs q =
    get_or xs (4 * q) 0
    + radix * get_or xs (4 * q + 1) 0
    + radix_squared * get_or xs (4 * q + 2) 0
    + radix_cubed * get_or xs (4 * q + 3) 0

-- the words of sixteen
unfoldable pub packed_words : List ℕ → List ℕ
packed_words xs = packed xs 0 ∷ packed xs 1 ∷ packed xs 2 ∷ packed xs 3 ∷ []

-- ---- what a table means

unfoldable pub node_of : ℕ → SortNode
node_of zero = BoolSort
node_of (suc zero) = Datatype
node_of (suc (suc n)) = Uninterpreted

-- A tester stands right after its constructor, then the selectors.
unfoldable pub member_role : ℕ → ℕ → Role
member_role c zero = Constructor
member_role c (suc zero) = Tester c
member_role c (suc (suc i)) = Selector c i

unfoldable pub role_of : ℕ → ℕ → Role
role_of s zero = Function
role_of s (suc c) = member_role c (s - c)

unfoldable pub op_of : ℕ → Op
op_of zero = Eq
op_of (suc s) = Term.Uninterpreted s

unfoldable pub sort_at : List ℕ → ℕ → SortNode
sort_at t s = node_of (at t SORT s)

-- parameter i of symbol s
unfoldable pub param_at : List ℕ → ℕ → ℕ → ℕ
param_at t s i = digit (at t PARAMS (4 * s + i / 4)) (i % 4)

unfoldable pub symbol_at : List ℕ → ℕ → Symbol
symbol_at t s = record {
  role = role_of s (at t OWNER s);
  params = counted (param_at t s) (at t ARITY s);
  result = at t RESULT s;
}

unfoldable pub args_at : List ℕ → ℕ → List ℕ
args_at t i = stretch t POOL (at t OFFSET i) (at t OFFSET (i + 1) - at t OFFSET i)

unfoldable pub term_at : List ℕ → ℕ → Term
term_at t i = record { op = op_of (at t OP i); args = args_at t i }

unfoldable pub context : List ℕ → Context
context t = record {
  sorts = counted (sort_at t) (sorts# t);
  symbols = counted (symbol_at t) (symbols# t);
  terms = counted (term_at t) (terms# t);
}

-- ---- the index

-- how many buckets there are
abbrev pub buckets : ℕ
buckets = 1021

-- the bucket of a code over arguments
unfoldable pub bucket : ℕ → List ℕ → ℕ
bucket h [] = h
bucket h (x ∷ xs) = bucket ((31 * h + x) % buckets) xs

unfoldable pub bucket_of : List ℕ → ℕ → ℕ
bucket_of t i = bucket (at t OP i) (args_at t i)

-- one more than the newest of n entries in bucket h, or 0
unfoldable pub newest : (ℕ → ℕ) → ℕ → ℕ → ℕ
newest hash h zero = 0
newest hash h (suc n) = let r = newest hash h n in cond (eqb (hash n) h) (suc n) r

-- An index of n entries in so many buckets: for each bucket one more than the newest entry in it, or 0; for each entry the same of the
-- entries before it in its bucket.
pub record Indexed (hash head link : ℕ → ℕ) (size n : ℕ) : Type 0 where
  pub heads : (h : ℕ) → h < size → head h ≡ newest hash h n
  pub links : (i : ℕ) → i < n → link i ≡ newest hash (hash i) i

-- every number of a list is below n
abbrev pub AllBelow : ℕ → List ℕ → Type 0
AllBelow n xs = (j : ℕ) → j < length xs → get_or xs j 0 < n

-- ---- when a table is sound

-- a symbol belongs to a constructor that stands before it, or to none; its result sort and its parameter sorts are declared
pub record SymbolSound (t : List ℕ) (s : ℕ) : Type 0 where
  pub owner : at t OWNER s ≤ s + 1
  pub result : at t RESULT s < sorts# t
  pub arity : at t ARITY s ≤ max_params
  pub param : (j : ℕ) → j < at t ARITY s → param_at t s j < sorts# t

-- a term's operation is declared, and its arguments have lower numbers
pub record TermSound (t : List ℕ) (i : ℕ) : Type 0 where
  pub op : at t OP i ≤ symbols# t
  pub rise : at t OFFSET i ≤ at t OFFSET (i + 1)
  pub lower : (j : ℕ) → at t OFFSET i ≤ j → j < at t OFFSET (i + 1) → at t POOL j < i

-- the first n terms are found by the index, and none of them stands twice
pub record IndexSound (t : List ℕ) (n : ℕ) : Type 0 where
  pub heads : (h : ℕ) → h < buckets → at t BUCKET h ≡ newest (bucket_of t) h n
  pub links : (i : ℕ) → i < n → at t LINK i ≡ newest (bucket_of t) (bucket_of t i) i
  pub once : (i j : ℕ) → i < n → j < n → term_at t i ≡ term_at t j → i ≡ j

pub record ContextSound (t : List ℕ) : Type 0 where
  pub long : table_words ≤ length t
  -- the counts are those of what the table means
  pub sort_count : length (context t).sorts ≡ sorts# t
  pub symbol_count : length (context t).symbols ≡ symbols# t
  pub term_count : length (context t).terms ≡ terms# t
  -- Bool is there
  pub bool : 0 < sorts# t
  pub sorts_fit : sorts# t ≤ max_sorts
  pub symbols_fit : symbols# t ≤ max_symbols
  pub terms_fit : terms# t ≤ max_terms
  pub symbols : (s : ℕ) → s < symbols# t → SymbolSound t s
  -- the arguments of the terms fill the pool from its start on
  pub start : at t OFFSET 0 ≡ 0
  pub terms : (i : ℕ) → i < terms# t → TermSound t i
  pub places_fit : at t OFFSET (terms# t) ≤ max_places
  pub index : IndexSound t (terms# t)

-- ---- what the functions on a table ask and promise

-- symbol f is declared and has a parameter i
pub record HasParam (t : List ℕ) (f i : ℕ) : Type 0 where
  pub sound : ContextSound t
  pub declared : f < length (context t).symbols
  pub within : i < length (symbol (context t) f).params

-- term x is an application, and the first that is
pub record AppAt (t : List ℕ) (code : ℕ) (args : List ℕ) (x : ℕ) : Type 0 where
  pub within : x < terms# t
  pub found : place_from 0 (same_term (op_of code) args) (context t).terms ≡ some x

-- no term is it
pub record NoApp (t : List ℕ) (code : ℕ) (args : List ℕ) : Type 0 where
  pub missing : place_from 0 (same_term (op_of code) args) (context t).terms ≡ none
  pub new : (i : ℕ) → i < terms# t → same_term (op_of code) args (term_at t i) ≡ false

-- r is the term that is an application, or there is none
abbrev pub FindsApp : List ℕ → ℕ → List ℕ → Option TermId.TermId → Type 0
FindsApp t code args r = MatchOption r (NoApp t code args) (λ x. AppAt t code args x.0)

-- the operation of a code is declared, and the arguments are terms
pub record MayIntern (t : List ℕ) (code : ℕ) (args : List ℕ) : Type 0 where
  pub sound : ContextSound t
  pub declared : code ≤ symbols# t
  pub terms : AllBelow (terms# t) args

pub record MayApply (t : List ℕ) (f : ℕ) (args : List ℕ) : Type 0 where
  pub sound : ContextSound t
  pub declared : f < length (context t).symbols
  pub terms : AllBelow (length (context t).terms) args

pub record MayEquate (t : List ℕ) (a b : ℕ) : Type 0 where
  pub sound : ContextSound t
  pub left : a < length (context t).terms
  pub right : b < length (context t).terms

-- there is room for one more term, the n-th, with arguments from start on; its operation is declared and its arguments are terms
pub record Appendable (t : List ℕ) (n start code : ℕ) (args : List ℕ) : Type 0 where
  pub sound : ContextSound t
  pub next : n ≡ terms# t
  pub begins : start ≡ at t OFFSET n
  pub room : n < max_terms
  pub places : start + length args ≤ max_places
  pub declared : code ≤ symbols# t
  pub terms : AllBelow n args
  pub new : (i : ℕ) → i < n → same_term (op_of code) args (term_at t i) ≡ false

-- the term stands at the end of the terms
pub record Appended (t : List ℕ) (code : ℕ) (args : List ℕ) (u : List ℕ) : Type 0 where
  pub sound : ContextSound u
  pub view : context u ≡ (intern (context t) (op_of code) args none).context

-- a sort, and at most 16 others, are declared
pub record MayDeclare (t : List ℕ) (sort : ℕ) (others : List ℕ) : Type 0 where
  pub sound : ContextSound t
  pub declared : sort < length (context t).sorts
  pub few : length others ≤ max_params
  pub sorts : AllBelow (length (context t).sorts) others

-- there is room for one more symbol, the n-th; it belongs to a constructor before it or to none, and its sorts are declared
pub record SymbolRoom (t : List ℕ) (n owner result : ℕ) (params : List ℕ) : Type 0 where
  pub sound : ContextSound t
  pub next : n ≡ symbols# t
  pub room : n < max_symbols
  pub owned : owner ≤ n + 1
  pub declared : result < sorts# t
  pub few : length params ≤ max_params
  pub sorts : AllBelow (sorts# t) params
  pub small : AllBelow max_sorts params

-- the symbol stands at the end of the symbols
pub record SymbolAdded (t : List ℕ) (n owner result : ℕ) (params u : List ℕ) : Type 0 where
  pub sound : ContextSound u
  pub view : context u ≡ with_symbols (context t) (record { role = role_of n owner; params = params; result = result } ∷ [])

-- there is room for the selectors of constructor c, which with its tester stands last; its sort and its fields' are declared
pub record SelectorRoom (t : List ℕ) (c dt : ℕ) (fields : List ℕ) : Type 0 where
  pub sound : ContextSound t
  pub next : c + 2 ≡ symbols# t
  pub room : c + 2 + length fields ≤ max_symbols
  pub declared : dt < sorts# t
  pub sorts : AllBelow (sorts# t) fields

-- symbols stand at the end of the symbols
pub record SymbolsAdded (t : List ℕ) (new : List Symbol) (u : List ℕ) : Type 0 where
  pub sound : ContextSound u
  pub view : context u ≡ with_symbols (context t) new

-- no bucket has a term
pub record NoTerms (t : List ℕ) : Type 0 where
  pub long : table_words ≤ length t
  pub heads : (h : ℕ) → h < buckets → at t BUCKET h ≡ 0

-- none of the symbols from one on up to another builds dt
abbrev pub NoneBuilds : List ℕ → ℕ → ℕ → ℕ → Type 0
NoneBuilds t dt from to = (s : ℕ) → from ≤ s → s < to → builds (context t) dt s ≡ false

-- c is the lowest constructor of dt from symbol `from` on
pub record LowestConstructor (t : List ℕ) (dt from c : ℕ) : Type 0 where
  pub after : from ≤ c
  pub within : c < length (context t).symbols
  pub between : NoneBuilds t dt from c
  pub here : builds (context t) dt c ≡ true

-- r is the lowest constructor of dt from symbol `from` on, or there is none
abbrev pub NextConstructor : List ℕ → ℕ → ℕ → Option SymbolId.SymbolId → Type 0
NextConstructor t dt from r =
    MatchOption r (NoneBuilds t dt from (length (context t).symbols)) (λ c. LowestConstructor t dt from c.0)

-- ---- question 10: marks at the datatypes that were found

unfoldable pub marked : List Bool → ℕ → Bool
marked m s = get_or m s false

-- the sorts without a mark
unfoldable pub unmarked : List Bool → List ℕ
unmarked m = keep (λ s. not (marked m s)) (range 0 (length m))

-- the datatype of a constructor is found by it now
unfoldable pub adds : Context → (ℕ → Bool) → ℕ → Bool
adds cx found c = is_constructor (symbol cx c).role && not (ready cx found (symbol cx c).result) && has_ready_fields cx found c

-- there is room for a mark at each sort, and marked are inhabited datatypes
pub record Marks (t : List ℕ) (m : List Bool) : Type 0 where
  pub long : max_sorts ≤ length m
  pub inhabited : (s : ℕ) → T (marked m s) → T (inhabited (context t) s)

-- Marks m have become u: there are more of them, or the set is as it was and has each datatype that is grounded in it.
pub record MarkRound (t : List ℕ) (m : List Bool) (added : Bool) (u : List Bool) : Type 0 where
  pub marks : Marks t u
  pub more : added ≡ true → length (unmarked u) < length (unmarked m)
  pub same : added ≡ false → u ≡ m
  pub closed : added ≡ false → Closed (context t) (marked u)
