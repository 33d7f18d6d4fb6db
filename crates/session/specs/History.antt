-- 01, Reading: what the accepted lines alone decide. A history is the list of accepted lines, newest first. A term number means
-- the term of that number in the table that the lines and the rules have made.
use Rattle.std.specs.Prelude.{ℕ, zero, suc, ◌≤◌, ◌≡◌, ◌⊎◌, true, false, cond, List, [], ◌∷◌, ◌++◌, ltb}
use Rattle.std.proofs.Math.Option.{Option, none, some}
use Rattle.shinri_core.specs.Ids as Ids
use Rattle.shinri_core.specs.Term.{Eq, Uninterpreted, Term}
use Rattle.shinri_core.specs.Context.{Context, declare_sort, dt_add_constructor, declare_fun, mk_app, mk_eq, term, children}
use Rattle.shinri_core.specs.Reading.{Reading, truth, value}
use Rattle.theory.specs.Types.{EqLeaf, AssertedLeaf, InterfaceLeaf}
use Rattle.session.specs.Line.{Command, DeclareSort, DeclareCtor, DeclareFun, Close, MkTerm, MkEq, Register, Equate, Cong, Iface, Assert, Differ, Push, Pop, Check, read_line}
use Rattle.session.specs.Answer.{Answer, Ok, TermIs, Checked, Refused}
use Rattle.session.specs.Session.{Session, empty_session, perform}

abbrev pub History : Type 0
History = List Command

-- ---- the table of sorts, symbols and terms

-- what an accepted line makes of the table: `sort`, `ctor`, `fun` declare, `term` and `eq` make the term they name unless it is there,
-- a full check may append terms, and no other line changes it
abbrev pub Makes : Command → Context → Context → Type 0
Makes (DeclareSort n) cx cx' = cx' ≡ declare_sort cx n
Makes (DeclareCtor dt fs) cx cx' = cx' ≡ dt_add_constructor cx dt fs
Makes (DeclareFun r as') cx cx' = cx' ≡ declare_fun cx r as'
Makes Close cx cx' = cx' ≡ cx
Makes (MkTerm f ts) cx cx' = cx' ≡ (mk_app cx (Uninterpreted f) ts).context
Makes (MkEq t u) cx cx' = cx' ≡ (mk_eq cx t u).context
Makes (Register x t) cx cx' = cx' ≡ cx
Makes (Equate l) cx cx' = cx' ≡ cx
Makes (Cong t u) cx cx' = cx' ≡ cx
Makes (Iface t u h g) cx cx' = cx' ≡ cx
Makes (Assert l) cx cx' = cx' ≡ cx
Makes (Differ l) cx cx' = cx' ≡ cx
Makes Push cx cx' = cx' ≡ cx
Makes (Pop k) cx cx' = cx' ≡ cx
Makes (Check true) cx cx' = (new : List Term) × (cx' ≡ record { sorts = cx.sorts; symbols = cx.symbols; terms = cx.terms ++ new })
Makes (Check false) cx cx' = cx' ≡ cx

-- ---- levels

-- 01: level: 0 at first, one more by an accepted `push`, K by an accepted `pop` to a lower K
unfoldable pub level_after : Command → ℕ → ℕ
level_after (DeclareSort n) v = v
level_after (DeclareCtor dt fs) v = v
level_after (DeclareFun r as') v = v
level_after Close v = v
level_after (MkTerm f ts) v = v
level_after (MkEq t u) v = v
level_after (Register x t) v = v
level_after (Equate l) v = v
level_after (Cong t u) v = v
level_after (Iface t u h g) v = v
level_after (Assert l) v = v
level_after (Differ l) v = v
level_after Push v = suc v
level_after (Pop k) v = cond (ltb k v) k v
level_after (Check e) v = v

unfoldable pub level : History → ℕ
level [] = 0
level (c ∷ h) = level_after c (level h)

-- 01: an accepted line is in force while no later accepted `pop` went below the level it came at
abbrev pub InForce : History → ℕ → Command → Type 0
InForce [] v c = ⊥
InForce (d ∷ h) v c = ((d ≡ c) × (v ≡ level h)) ⊎ (((k : ℕ) → d ≡ Pop k → v ≤ k) × InForce h v c)

abbrev pub HoldsNow : History → Command → Type 0
HoldsNow h c = (v : ℕ) × InForce h v c

-- 01: a leaf is in force while an `equate` or `assert` with that literal or an `iface` with that leaf is; 02 (iii): or a `differ` with it
abbrev pub LeafInForce : History → EqLeaf → Type 0
LeafInForce h (AssertedLeaf l) = HoldsNow h (Equate l) ⊎ (HoldsNow h (Assert l) ⊎ HoldsNow h (Differ l))
LeafInForce h (InterfaceLeaf i g) = (t u : ℕ) × HoldsNow h (Iface t u i g)

-- ---- atoms

-- a line that was accepted; registrations are never taken back
abbrev pub Accepted : History → Command → Type 0
Accepted [] c = ⊥
Accepted (d ∷ h) c = (d ≡ c) ⊎ Accepted h c

-- the atom of a literal's variable
abbrev pub IsAtom : History → ℕ → ℕ → Type 0
IsAtom h l t = Accepted h (Register (Ids.var l) t)

abbrev pub IsEquation : Context → ℕ → ℕ → ℕ → Type 0
IsEquation cx t x y = ((term cx t).op ≡ Eq) × (children cx t ≡ (x ∷ y ∷ []))

-- ---- equal now

-- the sides of an `equate`, `cong` or `iface` line in force
abbrev pub Sides : Context → History → ℕ → ℕ → Type 0
Sides cx h x y =
    ((l t : ℕ) × HoldsNow h (Equate l) × IsAtom h l t × IsEquation cx t x y)
    ⊎ (HoldsNow h (Cong x y) ⊎ ((i g : ℕ) × HoldsNow h (Iface x y i g)))

-- n steps over such sides, either way
abbrev pub Chain : Context → History → ℕ → ℕ → ℕ → Type 0
Chain cx h zero x y = x ≡ y
Chain cx h (suc n) x y = (z : ℕ) × (Sides cx h x z ⊎ Sides cx h z x) × Chain cx h n z y

-- 01: equal now, or in one class: joined by the sides of `equate`, `cong` and `iface` lines in force
abbrev pub EqualNow : Context → History → ℕ → ℕ → Type 0
EqualNow cx h x y = (n : ℕ) × Chain cx h n x y

-- ---- truth in a reading

module _ {cx : Context} (r : Reading cx) (h : History) where
  -- a positive literal is true when its atom is true; 01: a negative literal is true when its atom is false
  abbrev pub LitTrue : ℕ → Type 0
  LitTrue l = (t : ℕ) × IsAtom h l t × (value r t ≡ truth (Ids.is_positive l))

  -- 01: an interface leaf is true when all equations in force under its theory and tag are
  abbrev pub LeafTrue : EqLeaf → Type 0
  LeafTrue (AssertedLeaf l) = LitTrue l
  LeafTrue (InterfaceLeaf i g) = (t u : ℕ) → HoldsNow h (Iface t u i g) → value r t ≡ value r u

  abbrev pub AllTrue : List EqLeaf → Type 0
  AllTrue [] = Unit {0}
  AllTrue (l ∷ ls) = LeafTrue l × AllTrue ls

  abbrev pub SomeLitTrue : List ℕ → Type 0
  SomeLitTrue [] = ⊥
  SomeLitTrue (l ∷ ls) = LitTrue l ⊎ SomeLitTrue ls

  abbrev pub SomeAtomTrue : List ℕ → Type 0
  SomeAtomTrue [] = ⊥
  SomeAtomTrue (t ∷ ts) = (value r t ≡ truth true) ⊎ SomeAtomTrue ts

  -- 01: a lemma, `split=`, says that a guard or an atom holds
  abbrev pub LemmaTrue : List ℕ → List ℕ → Type 0
  LemmaTrue atoms guards = SomeLitTrue guards ⊎ SomeAtomTrue atoms

-- ---- the history that a line leaves

unfoldable pub extended : History → Option Command → Answer → History
extended h none a = h
extended h (some c) Ok = c ∷ h
extended h (some c) (TermIs t) = c ∷ h
extended h (some c) (Checked k) = c ∷ h
extended h (some c) (Refused q) = h

unfoldable pub history_after : History → List ℕ → Answer → History
history_after h line a = extended h (read_line line) a

-- ---- the session that a history leaves

-- the accepted lines performed one after another, from an empty session
unfoldable pub replay : History → Session
replay [] = empty_session
replay (c ∷ h) = (perform (replay h) c).session
