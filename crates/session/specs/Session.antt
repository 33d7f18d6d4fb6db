-- The session: the questions 4 to 11 and 13 in order, what an accepted line does, and one step.
use Rattle.std.specs.Prelude.{ℕ, suc, Bool, true, false, cond, not, ◌&&◌, List, [], ◌∷◌, eqb, leb, ltb, length}
use mathlib.Core.List as List
use Rattle.std.proofs.Math.Option.{Option, none, some}
use Rattle.shinri_core.specs.Limits.{max_vars, max_pairs, max_levels}
use Rattle.shinri_core.specs.Lists.{every, zip, same_list}
use Rattle.shinri_core.specs.Ids as Ids
use Rattle.shinri_core.specs.Term.{Eq, Uninterpreted, same_op}
use Rattle.shinri_core.specs.Context.{Made, declare_sort, dt_add_constructor, declare_fun, is_datatype_sort, symbol, all_grounded, term, children, sort_of, mk_app, mk_eq, terms_fit, declarations_fit}
use Rattle.theory.specs.Types.{EqLeaf, EqJust, Asserted, Congruence, Interface}
use Rattle.theory.specs.EqEngine.{merge, pop_merges, pairs_in_force}
use Rattle.theory.specs.Atom as Atom
use Rattle.solver.specs.State.{State, empty_state, with_terms, with_eq, with_atoms, with_level, with_level_record, with_negative_record, with_disequalities, equal}
use Rattle.solver.specs.Records as Records
use Rattle.solver.specs.Rules.{Conflict}
use Rattle.solver.specs.Check as Check
use Rattle.session.specs.Line as Line
use Rattle.session.specs.Line.{Command, DeclareSort, DeclareCtor, DeclareFun, Close, MkTerm, MkEq, Register, Equate, Cong, Iface, Assert, Differ, Push, Pop, read_line}
use Rattle.session.specs.Answer.{Refusal, Unreadable, Misplaced, Missing, Disagreeing, Registered, NotEquation, NotDisequality, NotCongruent, NotGrounded, NoRoom, Answer, Ok, TermIs, Checked, Refused}

pub record Session : Type 0 where
  pub state : State
  pub closed : Bool

-- 01: an empty session has had no line
unfoldable pub empty_session : Session
empty_session = record { state = empty_state; closed = false }

-- ---- what a line names

unfoldable pub sort_exists : Session → ℕ → Bool
sort_exists s x = ltb x (length s.state.terms.sorts)

unfoldable pub symbol_exists : Session → ℕ → Bool
symbol_exists s x = ltb x (length s.state.terms.symbols)

unfoldable pub term_exists : Session → ℕ → Bool
term_exists s x = ltb x (length s.state.terms.terms)

unfoldable pub var_exists : Session → ℕ → Bool
var_exists s l = Atom.is_registered s.state.atoms (Ids.var l)

-- the atom of a literal
unfoldable pub atom_of : Session → ℕ → ℕ
atom_of s l = Atom.atom s.state.atoms (Ids.var l)

-- the argument pairs of two applications, in order
unfoldable pub argument_pairs : Session → ℕ → ℕ → List (ℕ × ℕ)
argument_pairs s t u = zip (children s.state.terms t) (children s.state.terms u)

-- ---- the questions

-- a question put to a line: is the answer yes, and the refusal if it is no
pub record Asked : Type 0 where
  pub yes : Bool
  pub refusal : Refusal

-- 4. Do `sort`, `ctor`, `fun`, `close` come before an accepted `close`, all else after?
unfoldable pub before_close : Session → Asked
before_close s = record { yes = not s.closed; refusal = Misplaced }

unfoldable pub after_close : Session → Asked
after_close s = record { yes = s.closed; refusal = Misplaced }

-- 5. Does each named sort, symbol, term and literal's variable exist, and is V in `var` below 1,024?
unfoldable pub exist : Bool → Asked
exist b = record { yes = b; refusal = Missing }

-- 6. Do sorts and argument counts agree: S a datatype for `ctor`, T Boolean for `var`, two different terms of one sort for
-- `eq`, one sort for `iface`?
unfoldable pub agree : Bool → Asked
agree b = record { yes = b; refusal = Disagreeing }

unfoldable pub one_sort : Session → ℕ → ℕ → Bool
one_sort s t u = eqb (sort_of s.state.terms t) (sort_of s.state.terms u)

-- 7. For `var`: is V unregistered?
unfoldable pub unregistered : Session → ℕ → Asked
unregistered s v = record { yes = not (Atom.is_registered s.state.atoms v); refusal = Registered }

unfoldable pub is_equation : Session → ℕ → Bool
is_equation s l = same_op (term s.state.terms (atom_of s l)).op Eq

-- 8. For `equate`: is L positive and its atom an equation?
unfoldable pub equation : Session → ℕ → Asked
equation s l = record { yes = Ids.is_positive l && is_equation s l; refusal = NotEquation }

-- 02 (iii): 13, asked after 8. For `differ`: is L negative and its atom an equation?
unfoldable pub disequality : Session → ℕ → Asked
disequality s l = record { yes = not (Ids.is_positive l) && is_equation s l; refusal = NotDisequality }

-- 9. For `cong`: same operation, and each argument pair equal now?
unfoldable pub congruent : Session → ℕ → ℕ → Asked
congruent s t u = record {
  yes =
      same_op (term s.state.terms t).op (term s.state.terms u).op
      && every (λ (p : ℕ × ℕ). equal s.state p.0 p.1) (argument_pairs s t u);
  refusal = NotCongruent;
}

-- 10. For `close`: is each datatype inhabited?
unfoldable pub inhabited : Session → Asked
inhabited s = record { yes = all_grounded s.state.terms; refusal = NotGrounded }

-- the questions 4 to 10 and 13 that concern a line, in order
unfoldable pub questions : Session → Command → List Asked
questions s (DeclareSort n) = before_close s ∷ []
questions s (DeclareCtor dt fs) =
    before_close s ∷ exist (sort_exists s dt && every (sort_exists s) fs) ∷ agree (is_datatype_sort s.state.terms dt) ∷ []
questions s (DeclareFun r as') = before_close s ∷ exist (sort_exists s r && every (sort_exists s) as') ∷ []
questions s Close = before_close s ∷ inhabited s ∷ []
questions s (MkTerm f ts) =
    after_close s
    ∷ exist (symbol_exists s f && every (term_exists s) ts)
    ∷ agree (same_list (List.map (sort_of s.state.terms) ts) (symbol s.state.terms f).params)
    ∷ []
questions s (MkEq t u) =
    after_close s ∷ exist (term_exists s t && term_exists s u) ∷ agree (not (eqb t u) && one_sort s t u) ∷ []
questions s (Register v t) =
    after_close s
    ∷ exist (ltb v max_vars && term_exists s t)
    ∷ agree (eqb (sort_of s.state.terms t) 0)
    ∷ unregistered s v
    ∷ []
questions s (Equate l) = after_close s ∷ exist (var_exists s l) ∷ equation s l ∷ []
questions s (Cong t u) = after_close s ∷ exist (term_exists s t && term_exists s u) ∷ congruent s t u ∷ []
questions s (Iface t u h g) = after_close s ∷ exist (term_exists s t && term_exists s u) ∷ agree (one_sort s t u) ∷ []
questions s (Assert l) = after_close s ∷ exist (var_exists s l) ∷ []
questions s (Differ l) = after_close s ∷ exist (var_exists s l) ∷ disequality s l ∷ []
questions s Push = after_close s ∷ []
questions s (Pop k) = after_close s ∷ []
questions s (Line.Check e) = after_close s ∷ []

unfoldable pub first_no : List Asked → Option Refusal
first_no [] = none
first_no (q ∷ qs) = let r = first_no qs in cond q.yes r (some q.refusal)

-- ---- what an accepted line does, on endless tables

pub record Performed : Type 0 where
  pub answer : Answer
  pub session : Session

unfoldable pub done : Session → Answer → State → Performed
done s a st = record { answer = a; session = record { state = st; closed = s.closed } }

unfoldable pub numbered : Session → Made → Performed
numbered s m = done s (TermIs m.id) (with_terms s.state m.context)

unfoldable pub merged : Session → ℕ → ℕ → EqJust → Performed
merged s x y j = done s Ok (with_eq s.state (merge s.state.eq s.state.level x y j))

-- merges the sides of L's equation, leaf L. By question 8 the atom is an equation, which has two sides.
unfoldable pub merge_sides : Session → ℕ → List ℕ → Performed
merge_sides s l [] = done s Ok s.state
merge_sides s l (x ∷ []) = done s Ok s.state
merge_sides s l (x ∷ y ∷ []) = merged s x y (Asserted l)
merge_sides s l (x ∷ y ∷ z ∷ zs) = done s Ok s.state

unfoldable pub conflict_or_ok : Option (List EqLeaf) → Answer
conflict_or_ok none = Ok
conflict_or_ok (some ls) = Checked (Conflict ls)

-- what is left of level K or lower
unfoldable pub popped : State → ℕ → State
popped st k =
    let left = Records.pop_entries k in
    with_disequalities
    (with_negative_record
    (with_level_record (with_eq (with_level st k) (pop_merges k st.eq)) (left st.dt.level_record))
    (left st.dt.negative_record))
    (left st.dt.disequalities)

-- `pop` to K restores classes, forest and the records by levels; K at or above the level count changes nothing
unfoldable pub pop_to : State → ℕ → State
pop_to st k = cond (ltb k st.level) (popped st k) st

unfoldable pub perform : Session → Command → Performed
perform s (DeclareSort n) = done s Ok (with_terms s.state (declare_sort s.state.terms n))
perform s (DeclareCtor dt fs) = done s Ok (with_terms s.state (dt_add_constructor s.state.terms dt fs))
perform s (DeclareFun r as') = done s Ok (with_terms s.state (declare_fun s.state.terms r as'))
perform s Close = record { answer = Ok; session = record { state = s.state; closed = true } }
perform s (MkTerm f ts) = numbered s (mk_app s.state.terms (Uninterpreted f) ts)
perform s (MkEq t u) = numbered s (mk_eq s.state.terms t u)
perform s (Register v t) = done s Ok (Records.new_var (with_atoms s.state (Atom.register s.state.atoms v t)) t)
perform s (Equate l) = merge_sides s l (children s.state.terms (atom_of s l))
perform s (Cong t u) = merged s t u (Congruence (argument_pairs s t u))
perform s (Iface t u h g) = merged s t u (Interface h g)
perform s (Assert l) = let o = Records.assert s.state l in done s (conflict_or_ok o.conflict) o.state
perform s (Differ l) = done s Ok (Records.differ s.state l)
perform s Push = done s Ok (with_level s.state (suc s.state.level))
perform s (Pop k) = done s Ok (pop_to s.state k)
perform s (Line.Check e) = let c = Check.check e s.state in done s (Checked c.answer) c.state

-- 11. Does the result fit: 64 sorts with Bool, 512 symbols, 1,024 terms, 4,096 argument places of terms, 2,048 pairs in
-- force, 64 levels?
unfoldable pub fits : State → Bool
fits st =
    declarations_fit st.terms && terms_fit st.terms && leb (pairs_in_force st.eq) max_pairs && leb st.level max_levels

-- ---- one line

unfoldable pub refused : Session → Refusal → Performed
refused s r = record { answer = Refused r; session = s }

unfoldable pub if_fits : Session → Performed → Performed
if_fits s p = cond (fits p.session.state) p (refused s NoRoom)

unfoldable pub asked : Session → Command → Option Refusal → Performed
asked s c (some r) = refused s r
asked s c none = if_fits s (perform s c)

unfoldable pub answer_read : Session → Option Command → Performed
answer_read s none = refused s Unreadable
answer_read s (some c) = asked s c (first_no (questions s c))

-- the first no refuses the line, and the session is as before it
unfoldable pub step : Session → List ℕ → Performed
step s line = answer_read s (read_line line)

unfoldable pub session_definitions : Unit {0}
unfolding empty_session sort_exists symbol_exists term_exists var_exists atom_of argument_pairs before_close after_close exist agree one_sort unregistered is_equation equation disequality congruent inhabited questions first_no done numbered merged merge_sides conflict_or_ok popped pop_to perform fits refused if_fits asked answer_read step
session_definitions = tt
