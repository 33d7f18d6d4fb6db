-- Demand 3: the claim over whole scripts, stated. For every list of lines from an empty session, unreadable and refused ones
-- included, at each answer: each cited leaf is in force; a conflict's leaves are true together in no reading by finite trees;
-- each lemma is true in all readings; a conflict has a cause, and a clash is said; when a full check says sat or unknown; the ring
-- clause. The session is at each line the one that the accepted lines leave.
use Rattle.std.specs.Prelude.{ℕ, zero, suc, ◌≤◌, ◌≡◌, ◌≢◌, ◌⊎◌, ◌↔◌, true, not, List, [], ◌∷◌, T}
use Rattle.std.proofs.Math.Option.{none, some}
use Rattle.shinri_core.specs.Lists.{mem}
use Rattle.shinri_core.specs.Ids.{is_positive}
use Rattle.shinri_core.specs.Term.{Eq, Uninterpreted}
use Rattle.shinri_core.specs.Context.{Context, TesterApp, term, ctor_app, tester_app, is_datatype_sort, sort_of, children}
use Rattle.shinri_core.specs.Formed.{Formed, Beneath}
use Rattle.shinri_core.specs.Reading.{Reading}
use Rattle.theory.specs.Types.{EqLeaf, AssertedLeaf}
use Rattle.solver.specs.State.{equal}
use Rattle.solver.specs.Records.{is_some, relevant}
use Rattle.solver.specs.Rules as Rules
use Rattle.solver.specs.Rules.{Phase, TCheck, Conflict, Split}
use Rattle.solver.specs.Check.{before_ring}
use Rattle.session.specs.Line as Line
use Rattle.session.specs.Line.{Command, read_line}
use Rattle.session.specs.Answer.{Refusal, Unreadable, Answer, TermIs, Checked, Refused}
use Rattle.session.specs.Session.{Session, empty_session, Performed, step}
use Rattle.session.specs.History.{History, Makes, Accepted, HoldsNow, LeafInForce, IsAtom, IsEquation, EqualNow, AllTrue, LemmaTrue, history_after, replay}

-- ---- conflicts and lemmas

abbrev pub AllInForce : History → List EqLeaf → Type 0
AllInForce h [] = Unit {0}
AllInForce h (l ∷ ls) = LeafInForce h l × AllInForce h ls

-- true together in no reading by finite trees
abbrev pub Impossible : Context → History → List EqLeaf → Type 1
Impossible cx h ls = (r : Reading cx) → AllTrue r h ls → ⊥

-- true in all readings
abbrev pub Valid : Context → History → List ℕ → List ℕ → Type 1
Valid cx h atoms guards = (r : Reading cx) → LemmaTrue r h atoms guards

-- ---- rings and clashes, over a table of terms, the marks that the rules have made so far, and the lines of a history

module _ (cx : Context) (marks : List ℕ) (h : History) where
  -- 01: Collection goes down through the children of a registered atom, the atom included
  abbrev pub Collected : ℕ → Type 0
  Collected t = (v a n : ℕ) × Accepted h (Line.Register v a) × Beneath cx n a t × T (relevant cx t)

  -- 01: marked, by Collection or a rule so far, in this check too
  abbrev pub Marked : ℕ → Type 0
  Marked t = Collected t ⊎ T (mem t marks)

  abbrev pub MarkedCtor : ℕ → Type 0
  MarkedCtor t = Marked t × T (is_some (ctor_app cx t))

  -- 01: a marked datatype term is watched
  abbrev pub Watched : ℕ → Type 0
  Watched t = Marked t × T (is_datatype_sort cx (sort_of cx t))

  -- c is the lowest marked constructor application of t's class
  abbrev pub Lowest : ℕ → ℕ → Type 0
  Lowest t c = MarkedCtor c × EqualNow cx h t c × ((d : ℕ) → MarkedCtor d → EqualNow cx h t d → c ≤ d)

  -- a datatype field of an application
  abbrev pub DatatypeField : ℕ → ℕ → Type 0
  DatatypeField c f = T (mem f (children cx c)) × T (is_datatype_sort cx (sort_of cx f))

  -- Each class stands by its lowest marked constructor application; an edge leads to the class of each datatype field.
  abbrev pub EdgeTo : ℕ → ℕ → Type 0
  EdgeTo c d = (f : ℕ) × DatatypeField c f × Lowest f d

  -- n edges on from c
  abbrev pub Leads : ℕ → ℕ → ℕ → Type 0
  Leads zero c d = c ≡ d
  Leads (suc n) c d = (e : ℕ) × EdgeTo c e × Leads n e d

  -- 01: a ring is a closed chain of these edges reachable from a watched class
  abbrev pub Ring : Type 0
  Ring = (t c d : ℕ) × Watched t × Lowest t c × ((m : ℕ) × Leads m c d) × ((n : ℕ) × Leads (suc n) d d)

  -- 01: marked constructor applications in one class with different constructors
  abbrev pub ConstructorClash : Type 0
  ConstructorClash = (c d : ℕ) × MarkedCtor c × MarkedCtor d × EqualNow cx h c d × ((term cx c).op ≢ (term cx d).op)

  -- a positive tester literal whose term's class has a lowest marked application of another constructor
  abbrev pub Against : ℕ → Type 0
  Against l =
      (a c : ℕ) × (x : TesterApp) × T (is_positive l) × IsAtom h l a × (tester_app cx a ≡ some x)
      × Lowest x.arg c × ((term cx c).op ≢ Uninterpreted x.ctor)

  -- 01: an asserted tester whose term's class has a lowest marked application of another constructor
  abbrev pub TesterClash : Type 0
  TesterClash = (l : ℕ) × HoldsNow h (Line.Assert l) × Against l

  -- 02 (i): a negative tester literal whose term's class has a marked application of that very constructor
  abbrev pub Denied : ℕ → Type 0
  Denied l =
      (a c : ℕ) × (x : TesterApp) × T (not (is_positive l)) × IsAtom h l a × (tester_app cx a ≡ some x)
      × MarkedCtor c × EqualNow cx h x.arg c × ((term cx c).op ≡ Uninterpreted x.ctor)

  -- 02 (i): an asserted one
  abbrev pub NegativeClash : Type 0
  NegativeClash = (l : ℕ) × HoldsNow h (Line.Assert l) × Denied l

  -- 02 (iii): an unequal pair: a `differ` line in force whose two sides are equal now
  abbrev pub UnequalPair : Type 0
  UnequalPair = (l a x y : ℕ) × HoldsNow h (Line.Differ l) × IsAtom h l a × IsEquation cx a x y × EqualNow cx h x y

  abbrev pub Clash : Type 0
  Clash = ConstructorClash ⊎ (TesterClash ⊎ (NegativeClash ⊎ UnequalPair))

  -- what a conflict comes from
  abbrev pub Cause : Type 0
  Cause = Clash ⊎ Ring

  -- each watched class has a marked constructor application, or one has none
  abbrev pub Determined : Type 0
  Determined = (t : ℕ) → Watched t → (c : ℕ) × Lowest t c

  abbrev pub Undetermined : Type 0
  Undetermined = (t : ℕ) × Watched t × ((c : ℕ) → Lowest t c → ⊥)

-- such a notion of the table and the marks that a line finds, and of those that it leaves
abbrev pub Before : {A : Type 1} → (Context → List ℕ → History → A) → Session → History → A
Before N s h = N s.state.terms s.state.dt.marks h

abbrev pub After : {A : Type 1} → (Context → List ℕ → History → A) → Performed → History → A
After N p h = N p.session.state.terms p.session.state.dt.marks h

abbrev pub NotRefused : Answer → Type 0
NotRefused a = (q : Refusal) → a ≢ Refused q

abbrev pub SaysConflict : Answer → Type 0
SaysConflict a = (ls : List EqLeaf) × (a ≡ Checked (Conflict ls))

-- ---- the claim

-- what is claimed of one line: s and h are the session and the history before it, p what it does, h' the history after it
pub record AtLine (s : Session) (h : History) (line : List ℕ) (p : Performed) (h' : History) : Type 1 where
  -- each cited leaf is in force, a conflict's leaves are true together in no reading, and a conflict is not empty
  pub conflict : (ls : List EqLeaf) → p.answer ≡ Checked (Conflict ls) →
      AllInForce h' ls × Impossible p.session.state.terms h' ls × (ls ≢ [])
  -- a conflict has a cause: a constructor clash, a tester clash, a negative tester's clash, an unequal pair or a ring
  pub cause : (ls : List EqLeaf) → p.answer ≡ Checked (Conflict ls) → After Cause p h'
  -- an accepted full check that finds a clash says conflict, and so does an `assert` of such a tester, positive or negative
  pub clash : read_line line ≡ some (Line.Check true) → NotRefused p.answer → Before Clash s h → SaysConflict p.answer
  pub assert_clash : (l : ℕ) → read_line line ≡ some (Line.Assert l) → NotRefused p.answer →
      Before Against s h l ⊎ Before Denied s h l → SaysConflict p.answer
  -- each lemma is true in all readings
  pub lemma : (atoms guards : List ℕ) (phases : List Phase) → p.answer ≡ Checked (Split atoms guards phases) →
      Valid p.session.state.terms h' atoms guards
  -- a full check says sat only if there is no clash and no ring, and each watched class has a marked constructor application
  pub sat : read_line line ≡ some (Line.Check true) → p.answer ≡ Checked Rules.Sat → (After Cause p h' → ⊥) × After Determined p h'
  -- unknown is said only if a watched class has none
  pub unknown : p.answer ≡ Checked Rules.Unknown → After Undetermined p h'
  -- an accepted full check in which no rule before the ring answers says conflict exactly when there is a ring, else sat
  pub ring : read_line line ≡ some (Line.Check true) → NotRefused p.answer → (before_ring s.state).answer ≡ none →
      (After Ring p h' × SaysConflict p.answer) ⊎ ((After Ring p h' → ⊥) × (p.answer ≡ Checked Rules.Sat))
  -- where a rule before the ring answers, an accepted full check says just that
  pub rule : (a : TCheck) → read_line line ≡ some (Line.Check true) → NotRefused p.answer → (before_ring s.state).answer ≡ some a →
      p.answer ≡ Checked a
  -- a conflict, a lemma, sat or unknown is said only where there is a reading
  pub reading : (a : TCheck) → p.answer ≡ Checked a → Reading p.session.state.terms
  -- a refused line leaves the session as it was, and an unreadable line is refused
  pub refused : (q : Refusal) → p.answer ≡ Refused q → p.session ≡ s
  pub unreadable : read_line line ≡ none → p.answer ≡ Refused Unreadable

-- what ties the words of the claim to the lines
pub record Tied (s : Session) (h : History) (line : List ℕ) (p : Performed) (h' : History) : Type 1 where
  -- 01: the lines alone decide all this: each session is the one that its accepted lines leave
  pub before : s ≡ replay h
  pub after : p.session ≡ replay h'
  -- what the line makes of the table, in which each term is well formed
  pub table : (c : Command) → read_line line ≡ some c → NotRefused p.answer → Makes c s.state.terms p.session.state.terms
  pub formed : Formed p.session.state.terms
  -- marks are never taken back; a mark is an older one, one of Collection, or one of a full check; and after a full check they are
  -- those that the rules before the ring leave
  pub marks_stay : (t : ℕ) → T (mem t s.state.dt.marks) → T (mem t p.session.state.dt.marks)
  pub marks_from : (t : ℕ) → T (mem t p.session.state.dt.marks) →
      T (mem t s.state.dt.marks) ⊎ (After Collected p h' t ⊎ (read_line line ≡ some (Line.Check true)))
  pub marks_made : read_line line ≡ some (Line.Check true) → NotRefused p.answer →
      p.session.state.dt.marks ≡ (before_ring s.state).state.dt.marks
  -- the number that a `term` or `eq` line is answered is that of the term it names
  pub made : (f : ℕ) (ts : List ℕ) (n : ℕ) → read_line line ≡ some (Line.MkTerm f ts) → p.answer ≡ TermIs n →
      term p.session.state.terms n ≡ record { op = Uninterpreted f; args = ts }
  pub made_eq : (t u n : ℕ) → read_line line ≡ some (Line.MkEq t u) → p.answer ≡ TermIs n →
      term p.session.state.terms n ≡ record { op = Eq; args = t ∷ u ∷ [] }
  -- a variable is registered for one atom, and the literal of a leaf in force has an atom
  pub one_atom : (v t u : ℕ) → Accepted h' (Line.Register v t) → Accepted h' (Line.Register v u) → t ≡ u
  pub leaf_atom : (l : ℕ) → LeafInForce h' (AssertedLeaf l) → (t : ℕ) × IsAtom h' l t
  -- the session's classes are exactly equal now, by the lines in force
  pub classes : (x y : ℕ) → T (equal p.session.state x y) ↔ EqualNow p.session.state.terms h' x y
  -- once a `close` is accepted there is a reading, so that nothing is claimed of an empty class of readings
  pub reading : Accepted h' Line.Close → Reading p.session.state.terms

abbrev pub ClaimFrom : Session → History → List (List ℕ) → Type 1
ClaimFrom s h [] = Unit {1}
ClaimFrom s h (line ∷ rest) =
    AtLine s h line (step s line) (history_after h line (step s line).answer)
    × Tied s h line (step s line) (history_after h line (step s line).answer)
    × ClaimFrom (step s line).session (history_after h line (step s line).answer) rest

-- for every list of lines, each working on the session that the line before left
abbrev pub Claim : List (List ℕ) → Type 1
Claim lines = ClaimFrom empty_session [] lines
