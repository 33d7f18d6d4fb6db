-- Collection, the records by level, `assert` and `differ` (collect, new_var, assert, push, pop).
use Rattle.std.specs.Prelude.{ℕ, zero, suc, Bool, true, false, cond, ◌||◌, ◌&&◌, eqb, leb}
use mathlib.Core.List.{List, [], ◌∷◌, ◌++◌, foldl}
use Rattle.std.proofs.Math.Option.{Option, none, some}
use Rattle.shinri_core.specs.Lists.{any, first, keep, mem, insert}
use Rattle.shinri_core.specs.Ids as Ids
use Rattle.shinri_core.specs.Context.{Context, CtorApp, TesterApp, ctor_app, sel_app, tester_app, is_datatype_sort, sort_of, children}
use Rattle.theory.specs.Types.{EqLeaf, AssertedLeaf}
use Rattle.theory.specs.EqEngine.{explain, firsts}
use Rattle.theory.specs.Atom as Atom
use Rattle.solver.specs.State.{State, AssertedAtom, with_marks, with_level_record, with_negative_record, with_disequalities, with_lasting, ctor_apps, equal, ctor_of_class}

-- ---- collection

unfoldable pub is_some : {A : Type 0} → Option A → Bool
is_some none = false
is_some (some x) = true

-- 01: constructor, selector and tester applications and datatype terms
unfoldable pub relevant : Context → ℕ → Bool
relevant cx t =
    is_some (ctor_app cx t) || is_some (sel_app cx t) || is_some (tester_app cx t) || is_datatype_sort cx (sort_of cx t)

-- a term and what lies below it, each once. The first number bounds the depth: children have lower numbers.
unfoldable pub collect : ℕ → Context → ℕ → List ℕ → List ℕ
collect zero cx t seen = seen
collect (suc k) cx t seen =
    let r = foldl (λ s c. collect k cx c s) (insert t seen) (children cx t) in
    cond (mem t seen) seen r

-- A registered atom is collected, the atom included. Marks are never taken back.
unfoldable pub new_var : State → ℕ → State
new_var s t =
    with_marks s (foldl (λ ms u. insert u ms) s.dt.marks (keep (relevant s.terms) (collect (suc t) s.terms t [])))

-- ---- records

-- has an atom an entry?
unfoldable pub recorded : List AssertedAtom → ℕ → Bool
recorded es t = any (λ (e : AssertedAtom). eqb e.atom t) es

-- the entries of a record and, unless the atom has one, an entry for it at a level: once per atom, with the literal that first asserted it
unfoldable pub entered : ℕ → ℕ → ℕ → List AssertedAtom → List AssertedAtom
entered v t l es = cond (recorded es t) es (es ++ (record { atom = t; lit = l; level = v } ∷ []))

-- A positive tester goes into the lasting record and into the level record.
unfoldable pub record_tester : State → ℕ → ℕ → State
record_tester s t l =
    with_level_record (with_lasting s (insert t s.dt.lasting)) (entered s.level t l s.dt.level_record)

-- 02 (i): a negative tester goes into a record of its own
unfoldable pub record_negative : State → ℕ → ℕ → State
record_negative s t l = with_negative_record s (entered s.level t l s.dt.negative_record)

-- 02 (iii): has a literal an entry?
unfoldable pub has_literal : List AssertedAtom → ℕ → Bool
has_literal es l = any (λ (e : AssertedAtom). eqb e.lit l) es

-- 02 (iii): a negative equation literal goes into a record of its own, once per literal while it stands there
unfoldable pub differ : State → ℕ → State
differ s l =
    let es = s.dt.disequalities in
    let e : AssertedAtom = record { atom = Atom.atom s.atoms (Ids.var l); lit = l; level = s.level } in
    with_disequalities s (cond (has_literal es l) es (es ++ (e ∷ [])))

-- the entries of level k or lower: pop to k
unfoldable pub pop_entries : ℕ → List AssertedAtom → List AssertedAtom
pop_entries k es = keep (λ (e : AssertedAtom). leb e.level k) es

-- ---- a tester against the constructor of its class

-- a literal, then one term explained to another
unfoldable pub literal_leaves : State → ℕ → ℕ → ℕ → List EqLeaf
literal_leaves s l x y = firsts (AssertedLeaf l ∷ explain s.eq x y)

-- the literal, then the term explained to the application
unfoldable pub tester_leaves : State → ℕ → ℕ → CtorApp → List EqLeaf
tester_leaves s l t c = literal_leaves s l t c.app

unfoldable pub disagrees : State → ℕ → TesterApp → Option CtorApp → Option (List EqLeaf)
disagrees s l x none = none
disagrees s l x (some c) = cond (eqb c.ctor x.ctor) none (some (tester_leaves s l x.arg c))

-- the conflict of a tester with the lowest marked constructor application of its term's class
unfoldable pub tester_conflict : State → ℕ → TesterApp → Option (List EqLeaf)
tester_conflict s l x = disagrees s l x (ctor_of_class s x.arg)

-- ---- 02 (i): a negative tester against the applications of its constructor in its class

-- is it of that very constructor, and in its term's class?
unfoldable pub is_own : State → TesterApp → CtorApp → Bool
is_own s x c = eqb c.ctor x.ctor && equal s x.arg c.app

-- the lowest such marked application
unfoldable pub own_app : State → TesterApp → Option CtorApp
own_app s x = first (is_own s x) (ctor_apps s)

-- the literal, then the term explained to that application
unfoldable pub denies : State → ℕ → TesterApp → Option CtorApp → Option (List EqLeaf)
denies s l x none = none
denies s l x (some c) = some (tester_leaves s l x.arg c)

-- the conflict of a negative tester with that application
unfoldable pub negative_conflict : State → ℕ → TesterApp → Option (List EqLeaf)
negative_conflict s l x = denies s l x (own_app s x)

-- ---- 02 (iii): unequal terms that are equal now

-- the conflict of a negative equation literal, by the sides of its equation: the literal, then the first side explained to the second. By
-- question 13 the atom is an equation, which has two sides.
unfoldable pub disequality_conflict : State → ℕ → List ℕ → Option (List EqLeaf)
disequality_conflict s l [] = none
disequality_conflict s l (x ∷ []) = none
disequality_conflict s l (x ∷ y ∷ []) = cond (equal s x y) (some (literal_leaves s l x y)) none
disequality_conflict s l (x ∷ y ∷ z ∷ zs) = none

-- ---- assert

pub record Outcome : Type 0 where
  pub conflict : Option (List EqLeaf)
  pub state : State

-- a tester literal, by its sign: its conflict, if any, and its record
unfoldable pub assert_tester : State → ℕ → Bool → TesterApp → Outcome
assert_tester s l true x = record { conflict = tester_conflict s l x; state = record_tester s x.app l }
assert_tester s l false x = record { conflict = negative_conflict s l x; state = record_negative s x.app l }

-- a literal by its atom, which is a tester application or not
unfoldable pub assert_atom : State → ℕ → Option TesterApp → Outcome
assert_atom s l none = record { conflict = none; state = s }
assert_atom s l (some x) = assert_tester s l (Ids.is_positive l) x

-- Literals of other atoms give no record.
unfoldable pub assert : State → ℕ → Outcome
assert s l = assert_atom s l (tester_app s.terms (Atom.atom s.atoms (Ids.var l)))

unfoldable pub records_definitions : Unit {0}
unfolding is_some relevant collect new_var recorded entered record_tester record_negative has_literal differ pop_entries literal_leaves tester_leaves disagrees tester_conflict is_own own_app denies negative_conflict disequality_conflict assert_tester assert_atom assert
records_definitions = tt
