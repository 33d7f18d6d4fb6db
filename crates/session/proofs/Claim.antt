-- Demand 3: the claim over whole scripts, proved by induction over the list of lines.
use Prim.Native.Nat.{ℕ}
use mathlib.Core.Path.{◌≡◌, refl, sym, subst, subst⁻¹, ap, ◌∙◌}
use mathlib.Core.Logic.{◌⊎◌, inl, inr, ◌↔◌}
use mathlib.Core.Bool.{Bool, true, false, cond, not, ◌&&◌}
use mathlib.Core.List.{List, [], ◌∷◌, map}
use mathlib.Core.Option.{Option, none, some}
use native.Mathlib.Omega.{arith}
use lib.Dec.{T, eqb, ltb, ltb→lt}
use lib.ListN.{length}
use Rattle.shinri_core.specs.Limits.{max_vars}
use Rattle.shinri_core.specs.Lists.{every, mem, same_list}
use Rattle.shinri_core.specs.Ids as Ids
use Rattle.shinri_core.specs.Term.{Eq, same_op}
use Rattle.shinri_core.specs.Context.{term, sort_of, symbol, is_datatype_sort}
use Rattle.shinri_core.specs.Reading.{Reading}
use Rattle.shinri_core.proofs.Lists.{In, T_and}
use Rattle.shinri_core.proofs.Readings.{has_reading}
use Rattle.solver.specs.State.{State, equal}
use Rattle.solver.specs.Rules.{Sat}
use Rattle.solver.specs.Check.{before_ring}
use Rattle.solver.proofs.Basics.{some_is, some_none, mem_in, in_mem, T-no}
use Rattle.solver.proofs.Terms.{same_op_eq}
use Rattle.solver.proofs.Clash.{Ready}
use Rattle.session.specs.Line as Line
use Rattle.session.specs.Line.{Command, DeclareSort, DeclareCtor, DeclareFun, Close, MkTerm, MkEq, Register, Equate, Cong, Iface, Assert, Differ, Push, Pop, read_line}
use Rattle.session.specs.Answer.{Refusal, Unreadable, NoRoom, Answer, Ok, TermIs, Checked, Refused}
use Rattle.session.specs.Session.{Session, empty_session, Performed, sort_exists, symbol_exists, term_exists, var_exists, atom_of, one_sort, argument_pairs, before_close, after_close, exist, agree, unregistered, is_equation, equation, disequality, congruent, inhabited, questions, first_no, perform, fits, refused, if_fits, asked, answer_read, step}
use Rattle.session.specs.History.{History, Makes, Accepted, EqualNow, extended, history_after, replay}
use Rattle.session.specs.Claim.{Collected, Ring, Clash, Cause, After, SaysConflict, AtLine, Tied, ClaimFrom, Claim}
use Rattle.session.specs.Memory.Sessions.{after, Reached}
use Rattle.session.proofs.Invariant.{classes_agree, Inv}
use Rattle.session.proofs.Steps.{empty_inv}
use Rattle.session.proofs.Accepting.{answer_kind, Good, sort_good, ctor_good, fun_good, close_good, push_good, pop_good, register_good, term_good, eq_good, full_good, idle_good, assert_good, differ_good, check_rule, check_state, no_refusal}
use Rattle.session.proofs.Tables.{perform_table, perform_marks, marks_back, closed_by}
use Rattle.session.proofs.Complete.{Complete, empty_complete, perform_complete, clash_said, assert_said, sat_clear, leaf_atom}
use Rattle.session.proofs.Joins.{equate_good, cong_good, iface_good}

-- ---- the questions answered yes

-- an accepted line
accept : (s : Session) (h : History) → Inv s h → (c : Command) → first_no (questions s c) ≡ none → Good s c (perform s c) h
unfolding questions before_close after_close exist agree unregistered equation disequality congruent inhabited atom_of
accept s h I (DeclareSort n) e = sort_good s h n I (no_refusal (before_close s) [] e).0
accept s h I (DeclareCtor dt fs) e =
    let (a, e₁) = no_refusal (before_close s) (exist (sort_exists s dt && every (sort_exists s) fs) ∷ agree (is_datatype_sort s.state.terms dt) ∷ []) e in
    let (b, e₂) = no_refusal (exist (sort_exists s dt && every (sort_exists s) fs)) (agree (is_datatype_sort s.state.terms dt) ∷ []) e₁ in
    ctor_good s h dt fs I a (no_refusal (agree (is_datatype_sort s.state.terms dt)) [] e₂).0
accept s h I (DeclareFun r as') e = fun_good s h r as' I (no_refusal (before_close s) (exist (sort_exists s r && every (sort_exists s) as') ∷ []) e).0
accept s h I Close e =
    let (a, e₁) = no_refusal (before_close s) (inhabited s ∷ []) e in
    close_good s h I (no_refusal (inhabited s) [] e₁).0
accept s h I (MkTerm f ts) e =
    let (a, e₁) = no_refusal (after_close s) (exist (symbol_exists s f && every (term_exists s) ts) ∷ agree (same_list (map (sort_of s.state.terms) ts) (symbol s.state.terms f).params) ∷ []) e in
    let (b, e₂) = no_refusal (exist (symbol_exists s f && every (term_exists s) ts)) (agree (same_list (map (sort_of s.state.terms) ts) (symbol s.state.terms f).params) ∷ []) e₁ in
    term_good s h f ts I a (T_and (symbol_exists s f) (every (term_exists s) ts) b).1 (no_refusal (agree (same_list (map (sort_of s.state.terms) ts) (symbol s.state.terms f).params)) [] e₂).0
accept s h I (MkEq t u) e =
    let (a, e₁) = no_refusal (after_close s) (exist (term_exists s t && term_exists s u) ∷ agree (not (eqb t u) && one_sort s t u) ∷ []) e in
    let (b, e₂) = no_refusal (exist (term_exists s t && term_exists s u)) (agree (not (eqb t u) && one_sort s t u) ∷ []) e₁ in
    let (x, y) = T_and (term_exists s t) (term_exists s u) b in
    eq_good s h t u I a x y (T_and (not (eqb t u)) (one_sort s t u) (no_refusal (agree (not (eqb t u) && one_sort s t u)) [] e₂).0).1
accept s h I (Register v t) e =
    let (a, e₁) = no_refusal (after_close s) (exist (ltb v max_vars && term_exists s t) ∷ agree (eqb (sort_of s.state.terms t) 0) ∷ unregistered s v ∷ []) e in
    let (b, e₂) = no_refusal (exist (ltb v max_vars && term_exists s t)) (agree (eqb (sort_of s.state.terms t) 0) ∷ unregistered s v ∷ []) e₁ in
    let (c, e₃) = no_refusal (agree (eqb (sort_of s.state.terms t) 0)) (unregistered s v ∷ []) e₂ in
    register_good s h v t I (no_refusal (unregistered s v) [] e₃).0 (unfold term_exists in ltb→lt t (length s.state.terms.terms) (T_and (ltb v max_vars) (term_exists s t) b).1)
accept s h I (Equate l) e =
    let (a, e₁) = no_refusal (after_close s) (exist (var_exists s l) ∷ equation s l ∷ []) e in
    let (b, e₂) = no_refusal (exist (var_exists s l)) (equation s l ∷ []) e₁ in
    let (x, y) = T_and (Ids.is_positive l) (is_equation s l) (no_refusal (equation s l) [] e₂).0 in
    equate_good s h l I b x (unfold is_equation in y)
accept s h I (Cong t u) e =
    let (a, e₁) = no_refusal (after_close s) (exist (term_exists s t && term_exists s u) ∷ congruent s t u ∷ []) e in
    let (b, e₂) = no_refusal (exist (term_exists s t && term_exists s u)) (congruent s t u ∷ []) e₁ in
    let (x, y) = T_and (term_exists s t) (term_exists s u) b in
    let (o, w) = T_and (same_op (term s.state.terms t).op (term s.state.terms u).op) (every (λ (p : ℕ × ℕ). equal s.state p.0 p.1) (argument_pairs s t u)) (no_refusal (congruent s t u) [] e₂).0 in
    cong_good s h t u I x y o w
accept s h I (Iface t u i g) e = iface_good s h t u i g I
accept s h I (Assert l) e =
    let (a, e₁) = no_refusal (after_close s) (exist (var_exists s l) ∷ []) e in
    assert_good s h l I a (unfold var_exists in (no_refusal (exist (var_exists s l)) [] e₁).0)
accept s h I (Differ l) e =
    let (a, e₁) = no_refusal (after_close s) _ e in
    let (b, e₂) = no_refusal (exist (var_exists s l)) _ e₁ in
    let (x, y) = T_and (not (Ids.is_positive l)) (is_equation s l) (no_refusal (disequality s l) [] e₂).0 in
    differ_good s h l I a (unfold var_exists in b) (T-no (Ids.is_positive l) x)
    (same_op_eq (term s.state.terms (atom_of s l)).op Eq (unfold is_equation in y))
accept s h I Push e = push_good s h I
accept s h I (Pop k) e = pop_good s h k I
accept s h I (Line.Check true) e = full_good s h I (no_refusal (after_close s) [] e).0
accept s h I (Line.Check false) e = idle_good s h I (no_refusal (after_close s) [] e).0

-- ---- what ties a session to its lines

session_classes : (s : Session) (h : History) → Inv s h → (x y : ℕ) → T (equal s.state x y) ↔ EqualNow s.state.terms h x y
unfolding equal
session_classes s h I x y = classes_agree s.state.terms s.state.atoms s.state.eq s.state.level h I.named I.merged x y

session_atom : (s : Session) (h : History) → Inv s h → (v t u : ℕ) → Accepted h (Register v t) → Accepted h (Register v u) → t ≡ u
session_atom s h I v t u p q =
    I.named.one (record { var = v; atom = t }) (record { var = v; atom = u }) (I.named.have v t p) (I.named.have v u q) refl

-- what is kept from line to line
record Kept (s : Session) (h : History) : Type 0 where
  inv : Inv s h
  complete : Complete s h
  -- an accepted `close` closes
  closes : Accepted h Close → T s.closed
  -- the session is the one that the accepted lines leave
  replayed : s ≡ replay h

accepted_kept : (s : Session) (h : History) (c : Command) → Kept s h → first_no (questions s c) ≡ none → Inv (perform s c).session
    (c ∷ h) → Kept (perform s c).session (c ∷ h)
unfolding replay
accepted_kept s h c K q J = record {
  inv = J;
  complete = perform_complete s h K.inv K.complete c q;
  closes = closed_by s h c K.closes;
  replayed = ap (λ (x : Session). (perform x c).session) K.replayed;
}

session_reading : (s : Session) (h : History) → Kept s h → Accepted h Close → Reading s.state.terms
session_reading s h K a = has_reading s.state.terms (K.inv.grounded (K.closes a))

-- the claim of one line, and what it leaves
record LineHolds (s : Session) (h : History) (line : List ℕ) (p : Performed) (h' : History) : Type 1 where
  at : AtLine s h line p h'
  tied : Tied s h line p h'
  kept : Kept p.session h'

line_refused : (s : Session) (h : History) (line : List ℕ) (q : Refusal) → (read_line line ≡ none → q ≡ Unreadable) → Kept s h →
    LineHolds s h line (refused s q) h
unfolding refused answer_kind
line_refused s h line q u K = record {
  at = record {
    conflict = λ ls e. let w : ◌≡◌ {A = ℕ} 3 2 = ap answer_kind e in absurd (omega arith);
    cause = λ ls e. let w : ◌≡◌ {A = ℕ} 3 2 = ap answer_kind e in absurd (omega arith);
    clash = λ e n k. absurd (n q refl);
    assert_clash = λ l e n k. absurd (n q refl);
    lemma = λ as' gs ps e. let w : ◌≡◌ {A = ℕ} 3 2 = ap answer_kind e in absurd (omega arith);
    sat = λ e w. let z : ◌≡◌ {A = ℕ} 3 2 = ap answer_kind w in absurd (omega arith);
    unknown = λ e. let w : ◌≡◌ {A = ℕ} 3 2 = ap answer_kind e in absurd (omega arith);
    ring = λ e n b. absurd (n q refl);
    rule = λ a e n b. absurd (n q refl);
    reading = λ a e. let w : ◌≡◌ {A = ℕ} 3 2 = ap answer_kind e in absurd (omega arith);
    refused = λ r e. refl;
    unreadable = λ e. ap Refused (u e);
  };
  tied = record {
    before = K.replayed;
    after = K.replayed;
    table = λ c e n. absurd (n q refl);
    formed = K.inv.ready.formed;
    marks_stay = λ t m. m;
    marks_from = λ t m. inl m;
    marks_made = λ e n. absurd (n q refl);
    made = λ f ts n e w. let z : ◌≡◌ {A = ℕ} 3 1 = ap answer_kind w in absurd (omega arith);
    made_eq = λ t u n e w. let z : ◌≡◌ {A = ℕ} 3 1 = ap answer_kind w in absurd (omega arith);
    one_atom = session_atom s h K.inv;
    leaf_atom = leaf_atom s h K.inv K.complete;
    classes = session_classes s h K.inv;
    reading = session_reading s h K;
  };
  kept = K;
}

line_accepted : (s : Session) (h : History) (line : List ℕ) (c : Command) → Kept s h → read_line line ≡ some c →
    first_no (questions s c) ≡ none → Good s c (perform s c) h → LineHolds s h line (perform s c) (c ∷ h)
line_accepted s h line c K e q G = record {
  at = record {
    conflict = G.conflict;
    cause = G.cause;
    clash = λ w n k. subst⁻¹ (λ (x : Command). SaysConflict (perform s x).answer) (is (Line.Check true) w)
        (clash_said s h K.inv K.complete k);
    assert_clash = λ l w n k. subst⁻¹ (λ (x : Command). first_no (questions s x) ≡ none → SaysConflict (perform s x).answer)
        (is (Assert l) w)
        (λ r. assert_said s h K.inv K.complete l r k) q;
    lemma = G.lemma;
    sat = λ w a. let (r, d) = G.sat (is (Line.Check true) w) a in (no_cause (is (Line.Check true) w) a r, d);
    unknown = G.unknown;
    ring = λ w n b. G.ring (is (Line.Check true) w) b;
    rule = λ a w n b. subst⁻¹ (λ (x : Command). (perform s x).answer ≡ Checked a) (is (Line.Check true) w) (check_rule s a b);
    reading = G.reading;
    refused = λ r w. absurd (G.spoken r w);
    unreadable = λ w. absurd (some_none c (sym e ∙ w));
  };
  tied = record {
    before = K.replayed;
    after = L.replayed;
    table = λ d w n. subst (λ (x : Command). Makes x s.state.terms (perform s c).session.state.terms) (is d w)
        (perform_table s c K.inv.ready);
    formed = G.inv.ready.formed;
    marks_stay = λ t m. in_mem t (perform s c).session.state.dt.marks (perform_marks s c K.inv.ready t
        (mem_in t s.state.dt.marks m));
    marks_from = λ t m. from t (marks_back s h c t (mem_in t (perform s c).session.state.dt.marks m));
    marks_made = λ w n. subst⁻¹ (λ (x : Command). (perform s x).session.state.dt.marks ≡ (before_ring s.state).state.dt.marks)
        (is (Line.Check true) w) (ap (λ (st : State). st.dt.marks) (check_state s));
    made = λ f ts n w a. G.made f ts n (is (MkTerm f ts) w) a;
    made_eq = λ t u n w a. G.made_eq t u n (is (MkEq t u) w) a;
    one_atom = session_atom (perform s c).session (c ∷ h) G.inv;
    leaf_atom = leaf_atom (perform s c).session (c ∷ h) G.inv L.complete;
    classes = session_classes (perform s c).session (c ∷ h) G.inv;
    reading = session_reading (perform s c).session (c ∷ h) L;
  };
  kept = L;
}
  where
    L : Kept (perform s c).session (c ∷ h)
    L = accepted_kept s h c K q G.inv

    no_clash : c ≡ Line.Check true → (perform s c).answer ≡ Checked Sat → After Clash (perform s c) (c ∷ h) → ⊥
    no_clash w =
        subst⁻¹ (λ (x : Command). Inv (perform s x).session (x ∷ h) → (perform s x).answer ≡ Checked Sat →
        After Clash (perform s x) (x ∷ h) → ⊥) w
        (sat_clear s h K.inv K.complete) G.inv

    no_cause : c ≡ Line.Check true → (perform s c).answer ≡ Checked Sat → (After Ring (perform s c) (c ∷ h) → ⊥) →
        After Cause (perform s c) (c ∷ h) → ⊥
    no_cause w a r (inl k) = no_clash w a k
    no_cause w a r (inr k) = r k

    is : (d : Command) → read_line line ≡ some d → c ≡ d
    is d w = some_is c d (sym e ∙ w)

    from : (t : ℕ) → In t s.state.dt.marks ⊎ (After Collected (perform s c) (c ∷ h) t ⊎ (c ≡ Line.Check true)) → T (mem t s.state.dt.marks) ⊎ (After Collected (perform s c) (c ∷ h) t ⊎ (read_line line ≡ some (Line.Check true)))
    from t (inl i) = inl (in_mem t s.state.dt.marks i)
    from t (inr (inl w)) = inr (inl w)
    from t (inr (inr w)) = inr (inr (e ∙ ap {B = Option Command} some w))

-- a line that is not refused is the newest of the history
remembered : (h : History) (c : Command) (a : Answer) → ((q : Refusal) → a ≡ Refused q → ⊥) → extended h (some c) a ≡ c ∷ h
unfolding extended
remembered h c Ok n = refl
remembered h c (TermIs t) n = refl
remembered h c (Checked k) n = refl
remembered h c (Refused q) n = absurd (n q refl)

-- ---- one line

module _ (s : Session) (h : History) (K : Kept s h) (line : List ℕ) where
  line_fits : (c : Command) → read_line line ≡ some c → first_no (questions s c) ≡ none → Good s c (perform s c) h → (b : Bool) →
      LineHolds s h line (cond b (perform s c) (refused s NoRoom))
      (extended h (some c) (cond b (perform s c) (refused s NoRoom)).answer)
  unfolding extended refused
  line_fits c e q G true = subst⁻¹ (LineHolds s h line (perform s c)) (remembered h c (perform s c).answer G.spoken)
      (line_accepted s h line c K e q G)
  line_fits c e q G false = line_refused s h line NoRoom (λ n. absurd (some_none c (sym e ∙ n))) K

  line_asked : (c : Command) → read_line line ≡ some c → (f : Option Refusal) → first_no (questions s c) ≡ f → LineHolds s h line
      (asked s c f) (extended h (some c) (asked s c f).answer)
  unfolding asked if_fits extended refused
  line_asked c e none q = line_fits c e q (accept s h K.inv c q) (fits (perform s c).session.state)
  line_asked c e (some r) q = line_refused s h line r (λ n. absurd (some_none c (sym e ∙ n))) K

  line_read : (o : Option Command) → read_line line ≡ o → LineHolds s h line (answer_read s o) (extended h o (answer_read s o).answer)
  unfolding answer_read extended refused
  line_read none e = line_refused s h line Unreadable (λ n. refl) K
  line_read (some c) e = line_asked c e (first_no (questions s c)) refl

  line_holds : LineHolds s h line (step s line) (history_after h line (step s line).answer)
  unfolding step history_after
  line_holds = line_read (read_line line) refl

-- ---- all lines

empty_kept : Kept empty_session []
unfolding replay
empty_kept = record { inv = empty_inv; complete = empty_complete; closes = λ a. absurd a; replayed = refl }

claim_from : (lines : List (List ℕ)) (s : Session) (h : History) → Kept s h → ClaimFrom s h lines
claim_from [] s h K = tt
claim_from (line ∷ rest) s h K =
    let L = line_holds s h K line in
    (L.at, L.tied, claim_from rest (step s line).session (history_after h line (step s line).answer) L.kept)

pub claim : (lines : List (List ℕ)) → Claim lines
claim lines = claim_from lines empty_session [] empty_kept

-- ---- sessions that lines lead to

kept_after : (lines : List (List ℕ)) (s : Session) (h : History) → Kept s h → (h' : History) × Kept (after s lines) h'
unfolding after
kept_after [] s h K = (h, K)
kept_after (line ∷ rest) s h K =
    kept_after rest (step s line).session (history_after h line (step s line).answer) (line_holds s h K line).kept

pub reached_ready : (s : Session) → Reached s → Ready s.state
reached_ready s (lines, e) = subst (λ (x : Session). Ready x.state) e (kept_after lines empty_session [] empty_kept).1.inv.ready
