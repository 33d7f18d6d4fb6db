-- The questions as tests on the tables, and what the functions that put them ask of what a line names.
use Rattle.std.specs.Prelude.{ℕ, ◌<◌, ◌≡◌, Bool, true, not, ◌&&◌, List, map, eqb, leb, ltb, length}
use Rattle.shinri_core.specs.Limits.{max_vars, max_terms, max_pairs}
use Rattle.shinri_core.specs.Lists.{In, every, zip, same_list}
use Rattle.shinri_core.specs.Ids as Ids
use Rattle.shinri_core.specs.Term.{Eq, same_op}
use Rattle.shinri_core.specs.Context.{symbol, term, children, sort_of}
use Rattle.shinri_core.specs.Formed.{Formed}
use Rattle.shinri_core.specs.Memory.Table.{context, ContextSound, AllBelow}
use Rattle.theory.specs.Types.{Congruence}
use Rattle.theory.specs.EqEngine.{are_equal, merge, pairs_in_force}
use Rattle.theory.specs.Atom.{Registered, is_registered, atom}
use Rattle.theory.specs.Memory.Registry.{atoms}
use Rattle.theory.specs.Memory.Table.{merges, level, EngineSound}
use Rattle.solver.specs.Memory.Table.{registry, SolverSound}

-- ---- 5

-- are all numbers of a list below n?
abbrev pub all_below : ℕ → List ℕ → Bool
all_below n xs = every (λ x. ltb x n) xs

abbrev pub sorts_exist : List ℕ → ℕ → List ℕ → Bool
sorts_exist c x xs = ltb x (length (context c).sorts) && all_below (length (context c).sorts) xs

abbrev pub app_exists : List ℕ → ℕ → List ℕ → Bool
app_exists c f args = ltb f (length (context c).symbols) && all_below (length (context c).terms) args

abbrev pub two_exist : List ℕ → ℕ → ℕ → Bool
two_exist c t u = ltb t (length (context c).terms) && ltb u (length (context c).terms)

-- V below 1,024, and T a term
abbrev pub var_named : List ℕ → ℕ → ℕ → Bool
var_named c v x = ltb v max_vars && ltb x (length (context c).terms)

abbrev pub var_exists : List ℕ → ℕ → Bool
var_exists s l = is_registered (atoms (registry s)) (Ids.var l)

-- ---- 6

abbrev pub sorts_agree : List ℕ → ℕ → List ℕ → Bool
sorts_agree c f args = same_list (map (sort_of (context c)) args) (symbol (context c) f).params

abbrev pub one_sort : List ℕ → ℕ → ℕ → Bool
one_sort c t u = eqb (sort_of (context c) t) (sort_of (context c) u)

-- two different terms of one sort
abbrev pub may_equate : List ℕ → ℕ → ℕ → Bool
may_equate c t u = not (eqb t u) && one_sort c t u

-- ---- 8

abbrev pub is_equation : List ℕ → ℕ → Bool
is_equation c x = same_op (term (context c) x).op Eq

abbrev pub equation : List ℕ → List ℕ → ℕ → Bool
equation c s l = Ids.is_positive l && is_equation c (atom (atoms (registry s)) (Ids.var l))

-- ---- 13

abbrev pub disequality : List ℕ → List ℕ → ℕ → Bool
disequality c s l = not (Ids.is_positive l) && is_equation c (atom (atoms (registry s)) (Ids.var l))

-- ---- 9

abbrev pub one_op : List ℕ → ℕ → ℕ → Bool
one_op c t u = same_op (term (context c) t).op (term (context c) u).op

abbrev pub pairs_equal : List ℕ → List ℕ → List ℕ → Bool
pairs_equal e xs ys = every (λ (p : ℕ × ℕ). are_equal (merges e) p.0 p.1) (zip xs ys)

abbrev pub congruent : List ℕ → List ℕ → ℕ → ℕ → Bool
congruent c e t u = one_op c t u && pairs_equal e (children (context c) t) (children (context c) u)

-- ---- 11

-- the pairs in force after a congruence
abbrev pub pairs_fit : List ℕ → ℕ → ℕ → List ℕ → List ℕ → Bool
pairs_fit e t u xs ys = leb (pairs_in_force (merge (merges e) (level e) t u (Congruence (zip xs ys)))) max_pairs

-- ---- what is named

-- a symbol is declared, and its arguments are terms
pub record NamesApp (c : List ℕ) (f : ℕ) (args : List ℕ) : Type 0 where
  pub sound : ContextSound c
  pub declared : f < length (context c).symbols
  pub terms : AllBelow (length (context c).terms) args

-- two terms
pub record NamesTwo (c : List ℕ) (t u : ℕ) : Type 0 where
  pub sound : ContextSound c
  pub first : t < length (context c).terms
  pub second : u < length (context c).terms

-- a literal of a registered variable; atoms are terms
pub record NamesLit (c s : List ℕ) (l : ℕ) : Type 0 where
  pub core : ContextSound c
  pub solver : SolverSound s
  pub atoms_are : (r : Registered) → In r (atoms (registry s)) → r.atom < length (context c).terms
  pub registered : var_exists s l ≡ true

-- two lists of nodes, as long as each other
pub record NodePairs (e xs ys : List ℕ) : Type 0 where
  pub sound : EngineSound e
  pub same_count : length xs ≡ length ys
  pub left : AllBelow max_terms xs
  pub right : AllBelow max_terms ys

-- two terms, and classes
pub record PairsNamed (c e : List ℕ) (t u : ℕ) : Type 0 where
  pub two : NamesTwo c t u
  pub formed : Formed (context c)
  pub engine : EngineSound e
