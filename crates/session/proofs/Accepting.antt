-- What each accepted line owes the claim.
use Prim.Native.Nat.{ℕ, suc, ◌≤◌, ◌<◌}
use mathlib.Core.Path.{◌≡◌, refl, sym, subst, subst⁻¹, ap, ◌∙◌}
use mathlib.Core.Logic.{◌⊎◌, inl, inr, ◌≢◌}
use mathlib.Core.Bool.{Bool, true, false, cond, not, false≢true}
use mathlib.Core.List.{List, [], ◌∷◌, ◌++◌, map}
use mathlib.Core.Option.{Option, none, some}
use native.Mathlib.Omega.{arith}
use lib.Dec.{T, eqb, eqb→eq, ltb→lt}
use borrow.Author.Tests.{eqb-true}
use lib.ListN.{length, length-append}
use Rattle.shinri_core.specs.Lists.{every, same_list}
use Rattle.shinri_core.specs.Ids as Ids
use Rattle.shinri_core.specs.Term as Term
use Rattle.shinri_core.specs.Term.{Term, Op, Eq, Symbol}
use Rattle.shinri_core.specs.Sort.{SortNode}
use Rattle.shinri_core.specs.Context.{Context, Made, CtorApp, TesterApp, term, all_grounded, sort_of, symbol, tester_app, declare_sort, dt_add_constructor, declare_fun, with_symbols, is_datatype_sort, mk_app, mk_eq}
use Rattle.shinri_core.specs.Reading.{Reading}
use Rattle.shinri_core.proofs.Lists.{In, T_true, every_in, same_list_eq}
use Rattle.shinri_core.proofs.Inhabited.{grounded_kept}
use Rattle.shinri_core.proofs.Readings.{has_reading}
use Rattle.theory.specs.Types.{EqLeaf}
use Rattle.theory.specs.EqEngine.{Merge}
use Rattle.theory.specs.Atom as Atom
use Rattle.theory.proofs.Explain.{Justified, TwoTerms}
use Rattle.theory.proofs.Members.{in_either}
use Rattle.solver.specs.State.{State, AssertedAtom, with_terms, with_level, with_level_record, with_negative_record, with_disequalities, with_lasting, with_dt, ctor_apps, equal, ctor_of_class}
use Rattle.solver.specs.Records as Records
use Rattle.solver.specs.Records.{relevant}
use Rattle.solver.specs.Rules as Rules
use Rattle.solver.specs.Rules.{Phase, TCheck, Conflict, Split}
use Rattle.solver.specs.Check as Check
use Rattle.solver.specs.Check.{before_ring}
use Rattle.solver.proofs.Basics.{Ascending, none_some, some_none, T-no, false_T}
use Rattle.solver.proofs.Terms.{extends_sorts, extends_symbols, Below, Agrees, Formed, Makes, mk_app_makes, mk_app_formed, app}
use Rattle.solver.proofs.Signature.{Signed, sort_signed, fun_signed, ctor_signed}
use Rattle.solver.proofs.Apps.{op_is, ctor_app_is, tester_app_is}
use Rattle.solver.proofs.Walk.{class_ctor}
use Rattle.solver.proofs.Clash.{Refuted, Assertion, Affirmed, Negated, Unequal, of_tester, record_by, Recorded, ctor_in, own_there, tester_refuted, negative_refuted}
use Rattle.solver.proofs.Moves.{Follows, follows_self, AnswerHolds}
use Rattle.solver.proofs.Answers.{CheckedWell, RingDecides, full_check_decides, full_check_well}
use Rattle.solver.proofs.Collection.{relevant_kept}
use Rattle.session.specs.Line as Line
use Rattle.session.specs.Line.{Command, DeclareSort, DeclareCtor, DeclareFun, Close, MkTerm, MkEq, Register, Equate, Cong, Iface, Assert, Differ, Push, Pop}
use Rattle.session.specs.Answer.{Refusal, Answer, Ok, TermIs, Checked, Refused}
use Rattle.session.specs.Session.{Session, Performed, Asked, first_no, term_exists, one_sort, perform, done, numbered, conflict_or_ok}
use Rattle.session.specs.History.{History, level, level_after, HoldsNow, IsAtom}
use Rattle.session.specs.Claim.{AllInForce, Impossible, Valid, Ring, Cause, Against, Denied, Determined, Undetermined, Before, After, SaysConflict}
use Rattle.session.proofs.Forces.{kind}
use Rattle.session.proofs.Invariant.{signature, declared, kept_self, kept_extends, kept_terms, atom_one, registered_atom, line_of, of_kind, sign_of, Shape, Entry, Entries, entries_on, Inv}
use Rattle.session.proofs.Truth.{SaidNow, conflict_holds, lemma_holds}
use Rattle.session.proofs.Rings.{marked_ctor_in, now, lowest_stands, ring_there, there_ring}
use Rattle.session.proofs.Causes.{determined, undetermined, cause_now}
use Rattle.session.proofs.Steps.{plain_kept, register_kept, pop_kept}

-- ---- answers and lines told apart

unfoldable pub answer_kind : Answer → ℕ
answer_kind Ok = 0
answer_kind (TermIs t) = 1
answer_kind (Checked k) = 2
answer_kind (Refused q) = 3

unfoldable pub line_kind : Command → ℕ
line_kind (DeclareSort n) = 0
line_kind (DeclareCtor dt fs) = 1
line_kind (DeclareFun r as') = 2
line_kind Close = 3
line_kind (MkTerm f ts) = 4
line_kind (MkEq t u) = 5
line_kind (Register x t) = 6
line_kind (Equate l) = 7
line_kind (Cong t u) = 8
line_kind (Iface t u h g) = 9
line_kind (Assert l) = 10
line_kind (Differ l) = 14
line_kind Push = 11
line_kind (Pop k) = 12
line_kind (Line.Check e) = 13

unfoldable pub check_kind : Answer → ℕ
check_kind Ok = 0
check_kind (TermIs t) = 0
check_kind (Checked Rules.Sat) = 1
check_kind (Checked (Conflict ls)) = 2
check_kind (Checked (Split as' gs ps)) = 3
check_kind (Checked Rules.Unknown) = 4
check_kind (Refused q) = 0

-- conflict with a ring, sat without one
abbrev pub RingClause : Performed → History → Type 0
RingClause p h = (After Ring p h × SaysConflict p.answer) ⊎ ((After Ring p h → ⊥) × (p.answer ≡ Checked Rules.Sat))

-- an accepted line c with what it does
pub record Good (s : Session) (c : Command) (p : Performed) (h : History) : Type 1 where
  pub inv : Inv p.session (c ∷ h)
  pub spoken : (q : Refusal) → p.answer ≡ Refused q → ⊥
  pub conflict : (ls : List EqLeaf) → p.answer ≡ Checked (Conflict ls) → AllInForce (c ∷ h) ls × Impossible p.session.state.terms (c ∷ h) ls × (ls ≢ [])
  pub cause : (ls : List EqLeaf) → p.answer ≡ Checked (Conflict ls) → After Cause p (c ∷ h)
  pub lemma : (atoms guards : List ℕ) (phases : List Phase) → p.answer ≡ Checked (Split atoms guards phases) → Valid p.session.state.terms (c ∷ h) atoms guards
  pub sat : c ≡ Line.Check true → p.answer ≡ Checked Rules.Sat → (After Ring p (c ∷ h) → ⊥) × After Determined p (c ∷ h)
  pub unknown : p.answer ≡ Checked Rules.Unknown → After Undetermined p (c ∷ h)
  pub ring : c ≡ Line.Check true → (before_ring s.state).answer ≡ none → RingClause p (c ∷ h)
  pub reading : (a : TCheck) → p.answer ≡ Checked a → Reading p.session.state.terms
  pub made : (f : ℕ) (ts : List ℕ) (n : ℕ) → c ≡ MkTerm f ts → p.answer ≡ TermIs n → term p.session.state.terms n ≡ record { op = Term.Uninterpreted f; args = ts }
  pub made_eq : (t u n : ℕ) → c ≡ MkEq t u → p.answer ≡ TermIs n → term p.session.state.terms n ≡ record { op = Eq; args = t ∷ u ∷ [] }

-- a line that is answered ok=1
pub good_ok : (s : Session) (c : Command) (p : Performed) (h : History) → p.answer ≡ Ok → (line_kind c ≡ 13 → ⊥) → Inv p.session (c ∷ h) → Good s c p h
unfolding answer_kind line_kind
good_ok s c p h a n I = record {
  inv = I;
  spoken = λ q e. let w : ◌≡◌ {A = ℕ} 0 3 = ap answer_kind (sym a ∙ e) in omega arith;
  conflict = λ ls e. let w : ◌≡◌ {A = ℕ} 0 2 = ap answer_kind (sym a ∙ e) in absurd (omega arith);
  cause = λ ls e. let w : ◌≡◌ {A = ℕ} 0 2 = ap answer_kind (sym a ∙ e) in absurd (omega arith);
  lemma = λ as' gs ps e. let w : ◌≡◌ {A = ℕ} 0 2 = ap answer_kind (sym a ∙ e) in absurd (omega arith);
  sat = λ e. absurd (n (ap line_kind e));
  unknown = λ e. let w : ◌≡◌ {A = ℕ} 0 2 = ap answer_kind (sym a ∙ e) in absurd (omega arith);
  ring = λ e. absurd (n (ap line_kind e));
  reading = λ k e. let w : ◌≡◌ {A = ℕ} 0 2 = ap answer_kind (sym a ∙ e) in absurd (omega arith);
  made = λ f ts k e q. let w : ◌≡◌ {A = ℕ} 0 1 = ap answer_kind (sym a ∙ q) in absurd (omega arith);
  made_eq = λ t u k e q. let w : ◌≡◌ {A = ℕ} 0 1 = ap answer_kind (sym a ∙ q) in absurd (omega arith);
}

-- where no question is answered no, the first is answered yes
pub no_refusal : (q : Asked) (qs : List Asked) → first_no (q ∷ qs) ≡ none → T q.yes × (first_no qs ≡ none)
unfolding first_no
no_refusal q qs e = go q.yes refl e
  where
    go : (b : Bool) → q.yes ≡ b → cond b (first_no qs) (some q.refusal) ≡ none → T b × (first_no qs ≡ none)
    go true w z = (tt, z)
    go false w z = absurd (some_none q.refusal z)

T-open : (b : Bool) → T b → b ≡ false → ⊥
T-open b t e = subst T e t

-- ---- declarations

declare_kept : (s : Session) (h : History) (d : Command) (cx : Context) → Inv s h → s.closed ≡ false → kind d ≡ 0 → cx.terms ≡ s.state.terms.terms → Signed cx → 0 < length cx.sorts → level (d ∷ h) ≡ level h → cx.sorts ≡ (signature (d ∷ h)).sorts → cx.symbols ≡ (signature (d ∷ h)).symbols → Inv (record { state = with_terms s.state cx; closed = s.closed }) (d ∷ h)
unfolding with_terms
declare_kept s h d cx I o k e S b l p q =
    plain_kept s (record { state = with_terms s.state cx; closed = s.closed }) h d I (record {
      not_register = λ w. omega arith;
      not_equate = λ w. omega arith;
      not_cong = λ w. omega arith;
      not_iface = λ w. omega arith;
      not_pop = λ w. omega arith;
      ready = record { formed = record { lower = λ t m. absurd (none t m); agrees = λ t m. absurd (none t m); distinct = λ t u m n w. absurd (none t m) }; signed = S; justified = I.ready.justified; two_terms = I.ready.two_terms };
      kept = kept_terms s.state.terms cx (sym e);
      eq = refl;
      atoms = refl;
      level_up = omega arith;
      level = I.level ∙ sym l;
      entries = entries_on (record_by s.state) s.state.terms cx s.state.atoms s.state.level s.state.level h d
          (kept_terms s.state.terms cx (sym e)) I.named (λ w. omega arith) (omega arith) I.entries;
      marks = λ t i. i;
      ascending = I.ascending;
      bool_there = b;
      sorts = p;
      symbols = q;
      grounded = λ t. absurd (false_T s.closed o t);
      unmade = λ w. e ∙ I.unmade w;
      relevant_back = λ a i t m r. absurd (nothing t m);
    })
  where
    nothing : (t : ℕ) → t < length s.state.terms.terms → ⊥
    nothing t m = let z = subst (λ (ts : List Term). t < length ts) (I.unmade o) m in omega arith

    none : (t : ℕ) → t < length cx.terms → ⊥
    none t m = nothing t (subst (λ (ts : List Term). t < length ts) e m)

pub sort_good : (s : Session) (h : History) (n : SortNode) → Inv s h → T (not s.closed) → Good s (DeclareSort n) (perform s (DeclareSort n)) h
unfolding perform done kind line_kind level level_after with_terms
sort_good s h n I o =
    good_ok s (DeclareSort n) (perform s (DeclareSort n)) h refl (λ e. omega arith)
    (declare_kept s h (DeclareSort n) (declare_sort s.state.terms n) I (T-no s.closed o) refl refl' (sort_signed s.state.terms n I.bool_there I.ready.signed) more refl sorts symbols)
  where
    refl' : (declare_sort s.state.terms n).terms ≡ s.state.terms.terms
    refl' = unfold declare_sort in refl

    more : 0 < length (declare_sort s.state.terms n).sorts
    more = unfold declare_sort in subst⁻¹ (λ (k : ℕ). 0 < k) (length-append s.state.terms.sorts (n ∷ [])) (omega arith)

    sorts : (declare_sort s.state.terms n).sorts ≡ (signature (DeclareSort n ∷ h)).sorts
    sorts = unfold declare_sort signature declared in ap (λ (ss : List SortNode). ss ++ (n ∷ [])) I.sorts

    symbols : (declare_sort s.state.terms n).symbols ≡ (signature (DeclareSort n ∷ h)).symbols
    symbols = unfold declare_sort signature declared in I.symbols

pub ctor_good : (s : Session) (h : History) (dt : ℕ) (fs : List ℕ) → Inv s h → T (not s.closed) → T (is_datatype_sort s.state.terms dt) → Good s (DeclareCtor dt fs) (perform s (DeclareCtor dt fs)) h
unfolding perform done kind line_kind level level_after with_terms
ctor_good s h dt fs I o D =
    good_ok s (DeclareCtor dt fs) (perform s (DeclareCtor dt fs)) h refl (λ e. omega arith)
    (declare_kept s h (DeclareCtor dt fs) (dt_add_constructor s.state.terms dt fs) I (T-no s.closed o) refl refl' (ctor_signed s.state.terms dt fs D I.ready.signed) more refl sorts symbols)
  where
    refl' : (dt_add_constructor s.state.terms dt fs).terms ≡ s.state.terms.terms
    refl' = unfold dt_add_constructor with_symbols in refl

    more : 0 < length (dt_add_constructor s.state.terms dt fs).sorts
    more = unfold dt_add_constructor with_symbols in I.bool_there

    sorts : (dt_add_constructor s.state.terms dt fs).sorts ≡ (signature (DeclareCtor dt fs ∷ h)).sorts
    sorts = unfold dt_add_constructor with_symbols signature declared in I.sorts

    symbols : (dt_add_constructor s.state.terms dt fs).symbols ≡ (signature (DeclareCtor dt fs ∷ h)).symbols
    symbols = unfold dt_add_constructor with_symbols signature declared in ap (λ (ys : List Symbol). ys ++ Rattle.shinri_core.specs.Context.constructor_symbols (length ys) dt fs) I.symbols

pub fun_good : (s : Session) (h : History) (r : ℕ) (as' : List ℕ) → Inv s h → T (not s.closed) → Good s (DeclareFun r as') (perform s (DeclareFun r as')) h
unfolding perform done kind line_kind level level_after with_terms
fun_good s h r as' I o =
    good_ok s (DeclareFun r as') (perform s (DeclareFun r as')) h refl (λ e. omega arith)
    (declare_kept s h (DeclareFun r as') (declare_fun s.state.terms r as') I (T-no s.closed o) refl refl' (fun_signed s.state.terms r as' I.ready.signed) more refl sorts symbols)
  where
    refl' : (declare_fun s.state.terms r as').terms ≡ s.state.terms.terms
    refl' = unfold declare_fun with_symbols in refl

    more : 0 < length (declare_fun s.state.terms r as').sorts
    more = unfold declare_fun with_symbols in I.bool_there

    sorts : (declare_fun s.state.terms r as').sorts ≡ (signature (DeclareFun r as' ∷ h)).sorts
    sorts = unfold declare_fun with_symbols signature declared in I.sorts

    symbols : (declare_fun s.state.terms r as').symbols ≡ (signature (DeclareFun r as' ∷ h)).symbols
    symbols = unfold declare_fun with_symbols signature declared in ap (λ (ys : List Symbol). ys ++ (record { role = Term.Function; params = as'; result = r } ∷ [])) I.symbols

-- ---- close, push

-- the state stays, or only its level goes up
same_kept : (s : Session) (h : History) (d : Command) (k : ℕ) (c : Bool) → Inv s h → kind d ≡ 0 → s.state.level ≤ k → k ≡ level (d ∷ h) → signature (d ∷ h) ≡ signature h → (T c → T (all_grounded s.state.terms)) → (c ≡ false → s.state.terms.terms ≡ []) → Inv (record { state = with_level s.state k; closed = c }) (d ∷ h)
unfolding with_level
same_kept s h d k c I q l e z g u =
    plain_kept s (record { state = with_level s.state k; closed = c }) h d I (record {
      not_register = λ w. omega arith;
      not_equate = λ w. omega arith;
      not_cong = λ w. omega arith;
      not_iface = λ w. omega arith;
      not_pop = λ w. omega arith;
      ready = record { formed = I.ready.formed; signed = I.ready.signed; justified = I.ready.justified; two_terms = I.ready.two_terms };
      kept = kept_self s.state.terms;
      eq = refl;
      atoms = refl;
      level_up = l;
      level = e;
      entries = entries_on (record_by s.state) s.state.terms s.state.terms s.state.atoms s.state.level k h d
          (kept_self s.state.terms) I.named (λ w. omega arith) l I.entries;
      marks = λ t i. i;
      ascending = I.ascending;
      bool_there = I.bool_there;
      sorts = I.sorts ∙ ap (λ (y : Context). y.sorts) (sym z);
      symbols = I.symbols ∙ ap (λ (y : Context). y.symbols) (sym z);
      grounded = g;
      unmade = u;
      relevant_back = λ a i t m r. r;
    })

pub close_good : (s : Session) (h : History) → Inv s h → T (all_grounded s.state.terms) → Good s Close (perform s Close) h
unfolding perform kind line_kind level level_after signature declared with_level
close_good s h I g =
    good_ok s Close (perform s Close) h refl (λ e. omega arith)
    (same_kept s h Close s.state.level true I refl (omega arith) I.level refl (λ t. g) (λ e. absurd (false≢true (sym e))))

pub push_good : (s : Session) (h : History) → Inv s h → Good s Push (perform s Push) h
unfolding perform done kind line_kind level level_after signature declared with_level
push_good s h I =
    good_ok s Push (perform s Push) h refl (λ e. omega arith)
    (same_kept s h Push (suc s.state.level) s.closed I refl (omega arith) (ap suc I.level) refl I.grounded I.unmade)

pub pop_good : (s : Session) (h : History) (k : ℕ) → Inv s h → Good s (Pop k) (perform s (Pop k)) h
unfolding perform done line_kind
pop_good s h k I =
    good_ok s (Pop k) (perform s (Pop k)) h refl (λ e. omega arith) (pop_kept s h k I)

pub register_good : (s : Session) (h : History) (v t : ℕ) → Inv s h → T (not (Atom.is_registered s.state.atoms v)) → t < length s.state.terms.terms → Good s (Register v t) (perform s (Register v t)) h
unfolding perform done line_kind Records.new_var Rattle.solver.specs.State.with_marks with_dt Rattle.solver.specs.State.with_atoms
register_good s h v t I n l =
    good_ok s (Register v t) (perform s (Register v t)) h refl (λ e. omega arith) (register_kept s h v t I n l)

-- ---- lines over a longer table

follows_inv : (s : Session) (h : History) (d : Command) (st : State) → Inv s h → T s.closed → kind d ≡ 0 → level (d ∷ h) ≡ level h → signature (d ∷ h) ≡ signature h → Follows s.state st → Inv (record { state = st; closed = s.closed }) (d ∷ h)
follows_inv s h d st I c q l z F =
    plain_kept s (record { state = st; closed = s.closed }) h d I (record {
      not_register = λ w. omega arith;
      not_equate = λ w. omega arith;
      not_cong = λ w. omega arith;
      not_iface = λ w. omega arith;
      not_pop = λ w. omega arith;
      ready = Rattle.solver.proofs.Moves.follows_ready s.state st F I.ready;
      kept = kept_extends s.state.terms st.terms F.extends;
      eq = F.eq;
      atoms = F.atoms;
      level_up = let e = F.level in omega arith;
      level = F.level ∙ I.level ∙ sym l;
      entries = λ b x i. entries_on (record_by s.state) s.state.terms st.terms s.state.atoms s.state.level st.level h
          d (kept_extends s.state.terms st.terms F.extends) I.named (λ w. omega arith)
          (let e = F.level in omega arith) I.entries b x (subst (λ (es : List AssertedAtom). In x es) (F.entries b) i);
      marks = F.marks;
      ascending = F.ascending I.ascending;
      bool_there = subst⁻¹ (λ (ss : List SortNode). 0 < length ss) (extends_sorts s.state.terms st.terms F.extends) I.bool_there;
      sorts = extends_sorts s.state.terms st.terms F.extends ∙ I.sorts ∙ ap (λ (y : Context). y.sorts) (sym z);
      symbols = extends_symbols s.state.terms st.terms F.extends ∙ I.symbols ∙ ap (λ (y : Context). y.symbols) (sym z);
      grounded = λ t. grounded_kept s.state.terms st.terms F.extends (I.grounded t);
      unmade = λ e. absurd (T-open s.closed c e);
      relevant_back = λ a i t m r. subst T (relevant_kept s.state.terms st.terms t F.extends m) r;
    })

-- ---- terms

below_of : (s : Session) (ts : List ℕ) → T (every (term_exists s) ts) → Below (length s.state.terms.terms) ts
unfolding term_exists
below_of s ts t a i = ltb→lt a (length s.state.terms.terms) (every_in (term_exists s) ts a t i)

number_good : (s : Session) (h : History) (d : Command) (o : Op) (as' : List ℕ) → Inv s h → T s.closed → kind d ≡ 0 → level (d ∷ h) ≡ level h → signature (d ∷ h) ≡ signature h → (line_kind d ≡ 13 → ⊥) → Below (length s.state.terms.terms) as' → Agrees s.state.terms o as' → ((f : ℕ) (ts : List ℕ) → d ≡ MkTerm f ts → app o as' ≡ app (Term.Uninterpreted f) ts) → ((t u : ℕ) → d ≡ MkEq t u → app o as' ≡ app Eq (t ∷ u ∷ [])) → Good s d (numbered s (mk_app s.state.terms o as')) h
unfolding numbered done with_terms answer_kind line_kind
number_good s h d o as' I c k l z n B A f g = record {
  inv = follows_inv s h d (with_terms s.state m.context) I c k l z
      (record {
        extends = M.extends;
        formed = mk_app_formed s.state.terms o as' I.ready.formed B A;
        eq = refl;
        atoms = refl;
        level = refl;
        entries = λ b. refl;
        marks = λ t i. i;
        ascending = λ a. a;
      });
  spoken = λ q e. let w : ◌≡◌ {A = ℕ} 1 3 = ap answer_kind e in omega arith;
  conflict = λ ls e. let w : ◌≡◌ {A = ℕ} 1 2 = ap answer_kind e in absurd (omega arith);
  cause = λ ls e. let w : ◌≡◌ {A = ℕ} 1 2 = ap answer_kind e in absurd (omega arith);
  lemma = λ xs gs ps e. let w : ◌≡◌ {A = ℕ} 1 2 = ap answer_kind e in absurd (omega arith);
  sat = λ e. absurd (n (ap line_kind e));
  unknown = λ e. let w : ◌≡◌ {A = ℕ} 1 2 = ap answer_kind e in absurd (omega arith);
  ring = λ e. absurd (n (ap line_kind e));
  reading = λ a e. let w : ◌≡◌ {A = ℕ} 1 2 = ap answer_kind e in absurd (omega arith);
  made = λ x ts i e q. subst (λ (j : ℕ). term m.context j ≡ app (Term.Uninterpreted x) ts) (number_is i q) (M.made ∙ f x ts e);
  made_eq = λ t u i e q. subst (λ (j : ℕ). term m.context j ≡ app Eq (t ∷ u ∷ [])) (number_is i q) (M.made ∙ g t u e);
}
  where
    m : Made
    m = mk_app s.state.terms o as'

    M : Makes s.state.terms o as' m
    M = mk_app_makes s.state.terms o as'

    number_is : (i : ℕ) → TermIs m.id ≡ TermIs i → m.id ≡ i
    number_is i e = cc

pub term_good : (s : Session) (h : History) (f : ℕ) (ts : List ℕ) → Inv s h → T s.closed → T (every (term_exists s) ts) → T (same_list (map (sort_of s.state.terms) ts) (symbol s.state.terms f).params) → Good s (MkTerm f ts) (perform s (MkTerm f ts)) h
unfolding perform kind level level_after signature declared line_kind
term_good s h f ts I c b a =
    number_good s h (MkTerm f ts) (Term.Uninterpreted f) ts I c refl refl refl (λ e. omega arith) (below_of s ts b)
    (same_list_eq (map (sort_of s.state.terms) ts) (symbol s.state.terms f).params a) names (λ t u e. let w : ◌≡◌ {A = ℕ} 4 5 = ap line_kind e in absurd (omega arith))
  where
    names : (g : ℕ) (us : List ℕ) → MkTerm f ts ≡ MkTerm g us → app (Term.Uninterpreted f) ts ≡ app (Term.Uninterpreted g) us
    names g us e = cc

pub eq_good : (s : Session) (h : History) (t u : ℕ) → Inv s h → T s.closed → T (term_exists s t) → T (term_exists s u) → T (one_sort s t u) → Good s (MkEq t u) (perform s (MkEq t u)) h
unfolding perform mk_eq kind level level_after signature declared line_kind term_exists one_sort
eq_good s h t u I c a b e =
    number_good s h (MkEq t u) Eq (t ∷ u ∷ []) I c refl refl refl (λ q. omega arith) below
    (t, u, refl, eqb→eq (sort_of s.state.terms t) (sort_of s.state.terms u) e) (λ f ts q. let w : ◌≡◌ {A = ℕ} 5 4 = ap line_kind q in absurd (omega arith)) names
  where
    below : Below (length s.state.terms.terms) (t ∷ u ∷ [])
    below x (inl q) = subst⁻¹ (λ (y : ℕ). y < length s.state.terms.terms) q (ltb→lt t (length s.state.terms.terms) a)
    below x (inr (inl q)) = subst⁻¹ (λ (y : ℕ). y < length s.state.terms.terms) q (ltb→lt u (length s.state.terms.terms) b)
    below x (inr (inr i)) = absurd i

    names : (x y : ℕ) → MkEq t u ≡ MkEq x y → app Eq (t ∷ u ∷ []) ≡ app Eq (x ∷ y ∷ [])
    names x y q = cc

-- ---- checks

-- the entries of the records are lines in force
recorded_said : (s : Session) (h : History) (I : Inv s h) → SaidNow s h I (Recorded s.state)
recorded_said s h I b k t (e, i, p, q) =
    let E = I.entries b e i in
    subst (λ (x : ℕ). HoldsNow h (line_of b x) × IsAtom h x t × (Ids.is_positive x ≡ sign_of b) × Shape s.state.terms t b) p
    (subst (λ (x : ℕ).
    HoldsNow h (line_of b e.lit) × IsAtom h e.lit x × (Ids.is_positive e.lit ≡ sign_of b) × Shape s.state.terms x b) q
    ((e.level, E.force), E.atom, E.sign, E.shape))

pub full_good : (s : Session) (h : History) → Inv s h → T s.closed → Good s (Line.Check true) (perform s (Line.Check true)) h
unfolding perform done Check.check kind level level_after signature declared answer_kind
full_good s h I c = record {
  inv = J;
  spoken = λ q e. let w : ◌≡◌ {A = ℕ} 2 3 = ap answer_kind e in omega arith;
  conflict = λ ls e. conflict_holds out (Line.Check true ∷ h) J (Recorded k.state) said ls (holds (Conflict ls) e);
  cause = λ ls e. cause_now out (Line.Check true ∷ h) J (Recorded k.state) said (holds (Conflict ls) e).cause;
  lemma = λ as' gs ps e. lemma_holds out (Line.Check true ∷ h) J as' gs (holds (Split as' gs ps) e);
  sat = λ w e. let S = holds Rules.Sat e in (λ r. S.no_ring (ring_there out (Line.Check true ∷ h) J r), determined out (Line.Check true ∷ h) J S.determined);
  unknown = λ e. undetermined out (Line.Check true ∷ h) J (holds Rules.Unknown e).undetermined;
  ring = λ e q. decided (full_check_decides s.state q);
  reading = λ a e. has_reading k.state.terms (J.grounded c);
  made = λ f ts n e q. let w : ◌≡◌ {A = ℕ} 2 1 = ap answer_kind q in absurd (omega arith);
  made_eq = λ t u n e q. let w : ◌≡◌ {A = ℕ} 2 1 = ap answer_kind q in absurd (omega arith);
}
  where
    k : Check.Checked
    k = Check.full_check s.state

    W : CheckedWell s.state k
    W = full_check_well s.state I.ready

    out : Session
    out = record { state = k.state; closed = s.closed }

    J : Inv out (Line.Check true ∷ h)
    J = follows_inv s h (Line.Check true) k.state I c refl refl refl W.follows

    said : SaidNow out (Line.Check true ∷ h) J (Recorded k.state)
    said = recorded_said out (Line.Check true ∷ h) J

    checked_is : (a : TCheck) → Checked k.answer ≡ Checked a → k.answer ≡ a
    checked_is a e = cc

    holds : (a : TCheck) → Checked k.answer ≡ Checked a → AnswerHolds k.state a
    holds a e = subst (AnswerHolds k.state) (checked_is a e) W.holds

    decided : RingDecides k → RingClause (record { answer = Checked k.answer; session = out }) (Line.Check true ∷ h)
    decided (inl (r, (ls, e))) = inl (there_ring out (Line.Check true ∷ h) J r, (ls, ap Checked e))
    decided (inr (n, e)) = inr (λ r. n (ring_there out (Line.Check true ∷ h) J r), ap Checked e)

-- a rule that answers is the answer
pub check_rule : (s : Session) (a : TCheck) → (before_ring s.state).answer ≡ some a → (perform s (Line.Check true)).answer ≡ Checked a
unfolding perform done Check.check Check.full_check Check.or_ring
check_rule s a e = ap (λ (o : Option TCheck). Checked (Check.or_ring o (before_ring s.state).state).answer) e

-- a full check leaves the state that the rules before the ring leave
pub check_state : (s : Session) → (perform s (Line.Check true)).session.state ≡ (before_ring s.state).state
unfolding perform done Check.check Check.full_check
check_state s = go (before_ring s.state).answer
  where
    go : (o : Option TCheck) → (Check.or_ring o (before_ring s.state).state).state ≡ (before_ring s.state).state
    go none = unfold Check.or_ring in refl
    go (some a) = unfold Check.or_ring in refl

-- Not full: sat, nothing done.
pub idle_good : (s : Session) (h : History) → Inv s h → T s.closed → Good s (Line.Check false) (perform s (Line.Check false)) h
unfolding perform done Check.check kind level level_after signature declared answer_kind check_kind
idle_good s h I c = record {
  inv = follows_inv s h (Line.Check false) s.state I c refl refl refl (follows_self s.state I.ready.formed);
  spoken = λ q e. let w : ◌≡◌ {A = ℕ} 2 3 = ap answer_kind e in omega arith;
  conflict = λ ls e. let w : ◌≡◌ {A = ℕ} 1 2 = ap check_kind e in absurd (omega arith);
  cause = λ ls e. let w : ◌≡◌ {A = ℕ} 1 2 = ap check_kind e in absurd (omega arith);
  lemma = λ as' gs ps e. let w : ◌≡◌ {A = ℕ} 1 3 = ap check_kind e in absurd (omega arith);
  sat = λ e. absurd (not_full e);
  unknown = λ e. let w : ◌≡◌ {A = ℕ} 1 4 = ap check_kind e in absurd (omega arith);
  ring = λ e. absurd (not_full e);
  reading = λ a e. has_reading s.state.terms (I.grounded c);
  made = λ f ts n e q. let w : ◌≡◌ {A = ℕ} 2 1 = ap answer_kind q in absurd (omega arith);
  made_eq = λ t u n e q. let w : ◌≡◌ {A = ℕ} 2 1 = ap answer_kind q in absurd (omega arith);
}
  where
    full_is : (b : Bool) → Line.Check false ≡ Line.Check b → false ≡ b
    full_is b e = cc

    not_full : Line.Check false ≡ Line.Check true → ⊥
    not_full e = false≢true (full_is true e)

-- ---- assert and differ

-- only the records change
record Noted (s : State) (s' : State) : Type 0 where
  terms : s'.terms ≡ s.terms
  eq : s'.eq ≡ s.eq
  atoms : s'.atoms ≡ s.atoms
  level : s'.level ≡ s.level
  marks : s'.dt.marks ≡ s.dt.marks

noted_inv : (s : Session) (h : History) (d : Assertion) (l : ℕ) (st : State) → Inv s h → Noted s.state st →
    Entries (record_by st) s.state.terms s.state.level (line_of d l ∷ h) →
    Inv (record { state = st; closed = s.closed }) (line_of d l ∷ h)
noted_inv s h d l st I N E =
    let k = of_kind d l in
    plain_kept s (record { state = st; closed = s.closed }) h (line_of d l) I (record {
      not_register = λ w. omega arith;
      not_equate = λ w. omega arith;
      not_cong = λ w. omega arith;
      not_iface = λ w. omega arith;
      not_pop = λ w. omega arith;
      ready = record {
        formed = subst⁻¹ Formed N.terms I.ready.formed;
        signed = subst⁻¹ Signed N.terms I.ready.signed;
        justified = subst⁻¹ Justified N.eq I.ready.justified;
        two_terms = subst⁻¹ (λ (ms : List Merge). (m : Merge) → In m ms → TwoTerms m.just) N.eq I.ready.two_terms;
      };
      kept = kept_terms s.state.terms st.terms (ap (λ (z : Context). z.terms) (sym N.terms));
      eq = N.eq;
      atoms = N.atoms;
      level_up = let e = N.level in omega arith;
      level = N.level ∙ I.level ∙ sym (same_level d);
      entries =
          subst⁻¹ (λ (cx : Context). Entries (record_by st) cx st.level (line_of d l ∷ h)) N.terms
          (subst⁻¹ (λ (n : ℕ). Entries (record_by st) s.state.terms n (line_of d l ∷ h)) N.level E);
      marks = λ t i. subst⁻¹ (λ (ms : List ℕ). In t ms) N.marks i;
      ascending = subst⁻¹ Ascending N.marks I.ascending;
      bool_there = subst⁻¹ (λ (z : Context). 0 < length z.sorts) N.terms I.bool_there;
      sorts = ap (λ (z : Context). z.sorts) N.terms ∙ I.sorts ∙ ap (λ (z : Context). z.sorts) (sym (same_signature d));
      symbols = ap (λ (z : Context). z.symbols) N.terms ∙ I.symbols ∙ ap (λ (z : Context). z.symbols) (sym (same_signature d));
      grounded = λ t. subst⁻¹ (λ (z : Context). T (all_grounded z)) N.terms (I.grounded t);
      unmade = λ e. ap (λ (z : Context). z.terms) N.terms ∙ I.unmade e;
      relevant_back = λ a i t m r. subst (λ (z : Context). T (relevant z t)) N.terms r;
    })
  where
    same_level : (b : Assertion) → level (line_of b l ∷ h) ≡ level h
    same_level Affirmed = unfold level level_after in refl
    same_level Negated = unfold level level_after in refl
    same_level Unequal = unfold level level_after in refl

    same_signature : (b : Assertion) → signature (line_of b l ∷ h) ≡ signature h
    same_signature Affirmed = unfold signature declared in refl
    same_signature Negated = unfold signature declared in refl
    same_signature Unequal = unfold signature declared in refl

conflict_is : (o : Option (List EqLeaf)) (ls : List EqLeaf) → conflict_or_ok o ≡ Checked (Conflict ls) → o ≡ some ls
unfolding conflict_or_ok answer_kind
conflict_is none ls e = let w : ◌≡◌ {A = ℕ} 0 2 = ap answer_kind e in absurd (omega arith)
conflict_is (some ks) ls e = ap {B = Option (List EqLeaf)} some (leaves_are e)
  where
    leaves_are : Checked (Conflict ks) ≡ Checked (Conflict ls) → ks ≡ ls
    leaves_are q = cc

never_refused : (o : Option (List EqLeaf)) (q : Refusal) → conflict_or_ok o ≡ Refused q → ⊥
unfolding conflict_or_ok answer_kind
never_refused none q e = let w : ◌≡◌ {A = ℕ} 0 3 = ap answer_kind e in omega arith
never_refused (some ks) q e = let w : ◌≡◌ {A = ℕ} 2 3 = ap answer_kind e in omega arith

never_number : (o : Option (List EqLeaf)) (n : ℕ) → conflict_or_ok o ≡ TermIs n → ⊥
unfolding conflict_or_ok answer_kind
never_number none n e = let w : ◌≡◌ {A = ℕ} 0 1 = ap answer_kind e in omega arith
never_number (some ks) n e = let w : ◌≡◌ {A = ℕ} 2 1 = ap answer_kind e in omega arith

never_split : (o : Option (List EqLeaf)) (as' gs : List ℕ) (ps : List Phase) → conflict_or_ok o ≡ Checked (Split as' gs ps) → ⊥
unfolding conflict_or_ok check_kind
never_split none as' gs ps e = let w : ◌≡◌ {A = ℕ} 0 3 = ap check_kind e in omega arith
never_split (some ks) as' gs ps e = let w : ◌≡◌ {A = ℕ} 2 3 = ap check_kind e in omega arith

never_unknown : (o : Option (List EqLeaf)) → conflict_or_ok o ≡ Checked Rules.Unknown → ⊥
unfolding conflict_or_ok check_kind
never_unknown none e = let w : ◌≡◌ {A = ℕ} 0 4 = ap check_kind e in omega arith
never_unknown (some ks) e = let w : ◌≡◌ {A = ℕ} 2 4 = ap check_kind e in omega arith

-- what is said of the atom t by the literal l alone
abbrev SaidBy : ℕ → ℕ → Assertion → ℕ → ℕ → Type 0
SaidBy l t b k u = (c : Bool) × (Ids.is_positive l ≡ c) × (of_tester c ≡ b) × (k ≡ l) × (u ≡ t)

-- what an assertion leaves: notes about the atom t of the literal l
record AssertWell (s : Session) (h : History) (l t : ℕ) (o : Records.Outcome) : Type 1 where
  noted : Noted s.state o.state
  entries : Entries (record_by o.state) s.state.terms s.state.level (Assert l ∷ h)
  refutes : (ls : List EqLeaf) → o.conflict ≡ some ls → Refuted s.state (SaidBy l t) ls

module _ (s : Session) (h : History) (l : ℕ) (I : Inv s h) (closed : T s.closed)
    (v : T (Atom.is_registered s.state.atoms (Ids.var l))) where
  atom_t : ℕ
  atom_t = Atom.atom s.state.atoms (Ids.var l)

  at : IsAtom h l atom_t
  unfolding atom_t
  at = registered_atom s.state.terms s.state.atoms h I.named (Ids.var l) v

  old_entries : (d : Assertion) → Entries (record_by s.state) s.state.terms s.state.level (line_of d l ∷ h)
  old_entries d =
      let k = of_kind d l in
      entries_on (record_by s.state) s.state.terms s.state.terms s.state.atoms s.state.level s.state.level h
      (line_of d l) (kept_self s.state.terms) I.named (λ w. omega arith) (omega arith) I.entries

  -- the session with nothing noted, under the longer history
  unnoted : Inv s (Assert l ∷ h)
  unnoted =
      noted_inv s h Affirmed l s.state I (record { terms = refl; eq = refl; atoms = refl; level = refl; marks = refl })
      (old_entries Affirmed)

  -- a record with an entry for l more, or as it was
  entered_well : (d : Assertion) → Ids.is_positive l ≡ sign_of d → (t : ℕ) → t ≡ atom_t → Shape s.state.terms t d → (there : Bool)
      (e : AssertedAtom) →
      In e (cond there (record_by s.state d) (record_by s.state d ++ (record { atom = t; lit = l; level = s.state.level } ∷ []))) →
      Entry d s.state.terms s.state.level (line_of d l ∷ h) e
  entered_well d p t w z true e j = old_entries d d e j
  entered_well d p t w z false e j = is (in_either e (record_by s.state d) (new ∷ []) j)
    where
      new : AssertedAtom
      new = record { atom = t; lit = l; level = s.state.level }

      is : In e (record_by s.state d) ⊎ In e (new ∷ []) → Entry d s.state.terms s.state.level (line_of d l ∷ h) e
      is (inl k) = old_entries d d e k
      is (inr (inl q)) =
          subst⁻¹ (Entry d s.state.terms s.state.level (line_of d l ∷ h)) q
          (record { force = inl (refl, I.level); atom = inr (subst⁻¹ (IsAtom h l) w at); sign = p; shape = z; low = omega arith })
      is (inr (inr k)) = absurd k

  tester_well : (b : Bool) → Ids.is_positive l ≡ b → (x : TesterApp) → tester_app s.state.terms atom_t ≡ some x →
      AssertWell s h l atom_t (Records.assert_tester s.state l b x)
  unfolding Records.assert_tester Records.record_tester Records.record_negative Records.entered with_lasting with_level_record with_negative_record with_dt
  tester_well true p x q = record {
    noted = record { terms = refl; eq = refl; atoms = refl; level = refl; marks = refl };
    entries = entries;
    refutes = λ ls w. tester_refuted s.state I.ready (SaidBy l atom_t) l atom_t x ls q (true, p, refl, refl, refl) w;
  }
    where
      entries : Entries (record_by (Records.record_tester s.state x.app l)) s.state.terms s.state.level (Assert l ∷ h)
      entries Affirmed =
          entered_well Affirmed p x.app (tester_app_is s.state.terms atom_t x q).app tt
          (Records.recorded s.state.dt.level_record x.app)
      entries Negated = old_entries Affirmed Negated
      entries Unequal = old_entries Affirmed Unequal
  tester_well false p x q = record {
    noted = record { terms = refl; eq = refl; atoms = refl; level = refl; marks = refl };
    entries = entries;
    refutes = λ ls w. negative_refuted s.state I.ready (SaidBy l atom_t) l atom_t x ls q (false, p, refl, refl, refl) w;
  }
    where
      entries : Entries (record_by (Records.record_negative s.state x.app l)) s.state.terms s.state.level (Assert l ∷ h)
      entries Affirmed = old_entries Affirmed Affirmed
      entries Negated =
          entered_well Negated p x.app (tester_app_is s.state.terms atom_t x q).app tt
          (Records.recorded s.state.dt.negative_record x.app)
      entries Unequal = old_entries Affirmed Unequal

  atom_well : (o : Option TesterApp) → tester_app s.state.terms atom_t ≡ o →
      AssertWell s h l atom_t (Records.assert_atom s.state l o)
  unfolding Records.assert_atom
  atom_well none q = record {
    noted = record { terms = refl; eq = refl; atoms = refl; level = refl; marks = refl };
    entries = old_entries Affirmed;
    refutes = λ ls e. absurd (none_some ls e);
  }
  atom_well (some x) q = tester_well (Ids.is_positive l) refl x q

  assert_well : AssertWell s h l atom_t (Records.assert s.state l)
  unfolding Records.assert atom_t
  assert_well = atom_well (tester_app s.state.terms atom_t) refl

  outcome_good : (o : Records.Outcome) → AssertWell s h l atom_t o → Good s (Assert l) (done s (conflict_or_ok o.conflict) o.state) h
  unfolding done line_kind
  outcome_good o W = record {
    inv = noted_inv s h Affirmed l o.state I W.noted W.entries;
    spoken = λ q e. never_refused o.conflict q e;
    conflict = λ ls e. holds ls (W.refutes ls (conflict_is o.conflict ls e));
    cause = λ ls e. why ls (W.refutes ls (conflict_is o.conflict ls e));
    lemma = λ as' gs ps e. absurd (never_split o.conflict as' gs ps e);
    sat = λ e. let w : ◌≡◌ {A = ℕ} 10 13 = ap line_kind e in absurd (omega arith);
    unknown = λ e. absurd (never_unknown o.conflict e);
    ring = λ e. let w : ◌≡◌ {A = ℕ} 10 13 = ap line_kind e in absurd (omega arith);
    reading = λ a e. has_reading o.state.terms (subst⁻¹ (λ (z : Context). T (all_grounded z)) W.noted.terms
        (I.grounded closed));
    made = λ f ts n e q. absurd (never_number o.conflict n q);
    made_eq = λ t u n e q. absurd (never_number o.conflict n q);
  }
    where
      said : SaidNow s (Assert l ∷ h) unnoted (SaidBy l atom_t)
      said b k u (c, p, d, e, q) =
          subst (λ (x : Assertion).
          HoldsNow (Assert l ∷ h) (line_of x k) × IsAtom (Assert l ∷ h) k u × (Ids.is_positive k ≡ sign_of x)
          × Shape s.state.terms u x) d (go c p)
        where
          holds_now : HoldsNow (Assert l ∷ h) (Assert k)
          holds_now = subst⁻¹ (λ (x : ℕ). HoldsNow (Assert l ∷ h) (Assert x)) e (level h, inl (refl, refl))

          of_atom : IsAtom (Assert l ∷ h) k u
          of_atom = subst⁻¹ (λ (x : ℕ). IsAtom (Assert l ∷ h) x u) e (subst⁻¹ (IsAtom (Assert l ∷ h) l) q (inr at))

          go : (z : Bool) → Ids.is_positive l ≡ z →
              HoldsNow (Assert l ∷ h) (line_of (of_tester z) k) × IsAtom (Assert l ∷ h) k u × (Ids.is_positive k ≡ sign_of (of_tester z))
              × Shape s.state.terms u (of_tester z)
          go true w = (holds_now, of_atom, ap Ids.is_positive e ∙ w, tt)
          go false w = (holds_now, of_atom, ap Ids.is_positive e ∙ w, tt)

      holds : (ls : List EqLeaf) → Refuted s.state (SaidBy l atom_t) ls →
          AllInForce (Assert l ∷ h) ls × Impossible o.state.terms (Assert l ∷ h) ls × (ls ≢ [])
      holds ls R =
          subst⁻¹ (λ (z : Context). AllInForce (Assert l ∷ h) ls × Impossible z (Assert l ∷ h) ls × (ls ≢ [])) W.noted.terms
          (conflict_holds s (Assert l ∷ h) unnoted (SaidBy l atom_t) said ls R)

      why : (ls : List EqLeaf) → Refuted s.state (SaidBy l atom_t) ls → Cause o.state.terms o.state.dt.marks (Assert l ∷ h)
      why ls R =
          subst⁻¹ (λ (z : Context). Cause z o.state.dt.marks (Assert l ∷ h)) W.noted.terms
          (subst⁻¹ (λ (ms : List ℕ). Cause s.state.terms ms (Assert l ∷ h)) W.noted.marks
          (cause_now s (Assert l ∷ h) unnoted (SaidBy l atom_t) said R.cause))

  pub assert_good : Good s (Assert l) (perform s (Assert l)) h
  unfolding perform
  assert_good = outcome_good (Records.assert s.state l) assert_well

  -- ---- an assertion against its class

  tester_says : (x : TesterApp) (d : CtorApp) → ctor_of_class s.state x.arg ≡ some d → (d.ctor ≡ x.ctor → ⊥) →
      SaysConflict (conflict_or_ok (Records.tester_conflict s.state l x))
  unfolding Records.tester_conflict Records.disagrees
  tester_says x d e n =
      subst⁻¹ (λ (o : Option CtorApp). SaysConflict (conflict_or_ok (Records.disagrees s.state l x o))) e
      (go (eqb d.ctor x.ctor) refl)
    where
      go : (b : Bool) → eqb d.ctor x.ctor ≡ b →
          SaysConflict (conflict_or_ok (cond b none (some (Records.tester_leaves s.state l x.arg d))))
      go true w = absurd (n (eqb-true d.ctor x.ctor w))
      go false w = unfold conflict_or_ok in (Records.tester_leaves s.state l x.arg d, refl)

  own_says : (x : TesterApp) (d : CtorApp) → In d (ctor_apps s.state) → T (equal s.state x.arg d.app) → d.ctor ≡ x.ctor →
      SaysConflict (conflict_or_ok (Records.negative_conflict s.state l x))
  unfolding Records.negative_conflict Records.denies
  own_says x d i e n = go (Records.own_app s.state x) refl
    where
      go : (o : Option CtorApp) → Records.own_app s.state x ≡ o → SaysConflict (conflict_or_ok (Records.denies s.state l x o))
      go none w = absurd (own_there s.state x d i e n w)
      go (some c) w = unfold conflict_or_ok in (Records.tester_leaves s.state l x.arg c, refl)

  -- the answer of a tester's literal is that of its sign
  sign_says : (a : ℕ) (x : TesterApp) (b : Bool) → IsAtom h l a → tester_app s.state.terms a ≡ some x → Ids.is_positive l ≡ b →
      SaysConflict (conflict_or_ok (Records.assert_tester s.state l b x).conflict) → SaysConflict (perform s (Assert l)).answer
  unfolding perform done Records.assert atom_t
  sign_says a x b at' q p w =
      subst⁻¹ (λ (o : Option TesterApp). SaysConflict (conflict_or_ok (Records.assert_atom s.state l o).conflict))
      (ap (tester_app s.state.terms) (atom_one s.state.terms s.state.atoms h I.named l atom_t a at at') ∙ q)
      (unfold Records.assert_atom in
      subst⁻¹ (λ (c : Bool). SaysConflict (conflict_or_ok (Records.assert_tester s.state l c x).conflict)) p w)

  -- it is said
  pub assert_says : Before Against s h l ⊎ Before Denied s h l → SaysConflict (perform s (Assert l)).answer
  unfolding Records.assert_tester
  assert_says (inl (a, c, x, p, at', q, low, n)) =
      let (d, f, w) = lowest_stands s h I x.arg c low in
      sign_says a x true at' q (T_true (Ids.is_positive l) p) (tester_says x d f (apart d f w))
    where
      apart : (d : CtorApp) → ctor_of_class s.state x.arg ≡ some d → d.app ≡ c → d.ctor ≡ x.ctor → ⊥
      apart d e w z =
          let C = ctor_app_is s.state.terms d.app d (class_ctor s.state x.arg d e).1 in
          n (ap (λ (t : ℕ). (term s.state.terms t).op) (sym w) ∙ C.op ∙ ap Term.Uninterpreted z)
  assert_says (inr (a, c, x, p, at', q, m, e, o)) =
      let (d, w, i) = marked_ctor_in s h I c m in
      let t = subst⁻¹ (λ (z : ℕ). T (equal s.state x.arg z)) w ((now s h I x.arg c).1 e) in
      sign_says a x false at' q (T-no (Ids.is_positive l) p)
      (own_says x d i t (op_is d.ctor x.ctor (sym (ctor_in s.state d i).op ∙ ap (λ (z : ℕ). (term s.state.terms z).op) w ∙ o)))

  -- ---- unequal terms

  pub differ_good : Ids.is_positive l ≡ false → (term s.state.terms (Atom.atom s.state.atoms (Ids.var l))).op ≡ Eq →
      Good s (Differ l) (perform s (Differ l)) h
  unfolding perform done line_kind Records.differ with_disequalities with_dt atom_t
  differ_good p o =
      good_ok s (Differ l) (perform s (Differ l)) h refl (λ e. omega arith)
      (noted_inv s h Unequal l (Records.differ s.state l) I
      (record { terms = refl; eq = refl; atoms = refl; level = refl; marks = refl }) entries)
    where
      entries : Entries (record_by (Records.differ s.state l)) s.state.terms s.state.level (Differ l ∷ h)
      entries Affirmed = old_entries Unequal Affirmed
      entries Negated = old_entries Unequal Negated
      entries Unequal =
          entered_well Unequal p atom_t refl o (Records.has_literal s.state.dt.disequalities l)
