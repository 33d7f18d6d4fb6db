-- What each line makes of the table of terms and of the marks, and when declarations are closed.
use Prim.Native.Nat.{ℕ}
use mathlib.Core.Path.{◌≡◌, refl, sym, subst, subst⁻¹, ap, ◌∙◌}
use mathlib.Core.Logic.{◌⊎◌, inl, inr}
use mathlib.Core.Bool.{Bool, true, false, cond}
use mathlib.Core.List.{List, [], ◌∷◌}
use mathlib.Core.Option.{Option, none, some}
use native.Mathlib.Omega.{arith}
use native.Mathlib.Decide.{ℕ_discrete}
use lib.Dec.{T, ltb}
use Rattle.shinri_core.specs.Ids as Ids
use Rattle.shinri_core.specs.Context.{TesterApp, tester_app, children}
use Rattle.shinri_core.proofs.Lists.{In}
use Rattle.theory.specs.Atom as Atom
use Rattle.solver.specs.State.{State, with_terms, with_eq, with_atoms, with_level, with_level_record, with_negative_record, with_disequalities, with_lasting, with_marks, with_dt}
use Rattle.solver.specs.Records as Records
use Rattle.solver.specs.Check as Check
use Rattle.solver.proofs.Collection.{Beneath, new_var_marks}
use Rattle.solver.proofs.Clash.{Ready}
use Rattle.solver.proofs.Answers.{full_check_well}
use Rattle.session.specs.Line as Line
use Rattle.session.specs.Line.{Command, DeclareSort, DeclareCtor, DeclareFun, Close, MkTerm, MkEq, Register, Equate, Cong, Iface, Assert, Differ, Push, Pop}
use Rattle.session.specs.Session.{Session, done, numbered, merged, merge_sides, popped, pop_to, perform, atom_of}
use Rattle.session.specs.History.{History, Makes, Accepted}
use Rattle.session.specs.Claim.{Collected, After}
use Rattle.session.proofs.Accepting.{line_kind}

-- ---- lines that leave the table and the marks

record Same (s s' : State) : Type 0 where
  terms : s'.terms ≡ s.terms
  marks : s'.dt.marks ≡ s.dt.marks

sides_same : (s : Session) (l : ℕ) (ts : List ℕ) → Same s.state (merge_sides s l ts).session.state
unfolding merge_sides merged done with_eq
sides_same s l [] = record { terms = refl; marks = refl }
sides_same s l (x ∷ []) = record { terms = refl; marks = refl }
sides_same s l (x ∷ y ∷ []) = record { terms = refl; marks = refl }
sides_same s l (x ∷ y ∷ z ∷ zs) = record { terms = refl; marks = refl }

pop_same : (st : State) (k : ℕ) → Same st (pop_to st k)
unfolding pop_to popped with_disequalities with_negative_record with_level_record with_eq with_level with_dt
pop_same st k = go (ltb k st.level)
  where
    go : (b : Bool) → Same st (cond b (popped st k) st)
    go true = record { terms = refl; marks = refl }
    go false = record { terms = refl; marks = refl }

tester_same : (st : State) (l : ℕ) (b : Bool) (x : TesterApp) → Same st (Records.assert_tester st l b x).state
unfolding Records.assert_tester Records.record_tester Records.record_negative with_lasting with_level_record with_negative_record with_dt
tester_same st l true x = record { terms = refl; marks = refl }
tester_same st l false x = record { terms = refl; marks = refl }

assert_same : (st : State) (l : ℕ) → Same st (Records.assert st l).state
unfolding Records.assert
assert_same st l = go (tester_app st.terms (Atom.atom st.atoms (Ids.var l)))
  where
    go : (o : Option TesterApp) → Same st (Records.assert_atom st l o).state
    go none = unfold Records.assert_atom in record { terms = refl; marks = refl }
    go (some x) = unfold Records.assert_atom in tester_same st l (Ids.is_positive l) x

differ_same : (st : State) (l : ℕ) → Same st (Records.differ st l)
unfolding Records.differ with_disequalities with_dt
differ_same st l = record { terms = refl; marks = refl }

-- ---- each line

pub perform_table : (s : Session) (c : Command) → Ready s.state → Makes c s.state.terms (perform s c).session.state.terms
unfolding perform done numbered merged with_terms with_eq with_level with_atoms with_marks with_dt Records.new_var Check.check
perform_table s (DeclareSort n) R = refl
perform_table s (DeclareCtor dt fs) R = refl
perform_table s (DeclareFun r as') R = refl
perform_table s Close R = refl
perform_table s (MkTerm f ts) R = refl
perform_table s (MkEq t u) R = refl
perform_table s (Register v t) R = refl
perform_table s (Equate l) R = (sides_same s l (children s.state.terms (atom_of s l))).terms
perform_table s (Cong t u) R = refl
perform_table s (Iface t u h g) R = refl
perform_table s (Assert l) R = (assert_same s.state l).terms
perform_table s (Differ l) R = (differ_same s.state l).terms
perform_table s Push R = refl
perform_table s (Pop k) R = (pop_same s.state k).terms
perform_table s (Line.Check true) R = (full_check_well s.state R).follows.extends
perform_table s (Line.Check false) R = refl

-- ---- marks

same_marks : (s s' : State) → Same s s' → (t : ℕ) → In t s.dt.marks → In t s'.dt.marks
same_marks s s' E t i = subst⁻¹ (λ (ms : List ℕ). In t ms) E.marks i

-- marks are never taken back
pub perform_marks : (s : Session) (c : Command) → Ready s.state → (t : ℕ) → In t s.state.dt.marks → In t (perform s c).session.state.dt.marks
unfolding perform done numbered merged with_terms with_eq with_level with_atoms Check.check
perform_marks s (DeclareSort n) R t i = i
perform_marks s (DeclareCtor dt fs) R t i = i
perform_marks s (DeclareFun r as') R t i = i
perform_marks s Close R t i = i
perform_marks s (MkTerm f ts) R t i = i
perform_marks s (MkEq u v) R t i = i
perform_marks s (Register v u) R t i = (new_var_marks (with_atoms s.state (Atom.register s.state.atoms v u)) u).old t i
perform_marks s (Equate l) R t i = same_marks s.state (merge_sides s l (children s.state.terms (atom_of s l))).session.state (sides_same s l (children s.state.terms (atom_of s l))) t i
perform_marks s (Cong u v) R t i = i
perform_marks s (Iface u v h g) R t i = i
perform_marks s (Assert l) R t i = same_marks s.state (Records.assert s.state l).state (assert_same s.state l) t i
perform_marks s (Differ l) R t i = same_marks s.state (Records.differ s.state l) (differ_same s.state l) t i
perform_marks s Push R t i = i
perform_marks s (Pop k) R t i = same_marks s.state (pop_to s.state k) (pop_same s.state k) t i
perform_marks s (Line.Check true) R t i = (full_check_well s.state R).follows.marks t i
perform_marks s (Line.Check false) R t i = i

same_marks_back : (s s' : State) → Same s s' → (t : ℕ) → In t s'.dt.marks → In t s.dt.marks
same_marks_back s s' E t i = subst (λ (ms : List ℕ). In t ms) E.marks i

-- a new mark is one of Collection, or one of a full check
pub marks_back : (s : Session) (h : History) (c : Command) (t : ℕ) → In t (perform s c).session.state.dt.marks → In t s.state.dt.marks ⊎ (After Collected (perform s c) (c ∷ h) t ⊎ (c ≡ Line.Check true))
unfolding perform done numbered merged with_terms with_eq with_level with_atoms Check.check
marks_back s h (DeclareSort n) t i = inl i
marks_back s h (DeclareCtor dt fs) t i = inl i
marks_back s h (DeclareFun r as') t i = inl i
marks_back s h Close t i = inl i
marks_back s h (MkTerm f ts) t i = inl i
marks_back s h (MkEq u v) t i = inl i
marks_back s h (Register v u) t i = go ((new_var_marks (with_atoms s.state (Atom.register s.state.atoms v u)) u).only t i)
  where
    go : In t s.state.dt.marks ⊎ ((n : ℕ) × Beneath s.state.terms n u t × T (Records.relevant s.state.terms t)) → In t s.state.dt.marks ⊎ (After Collected (perform s (Register v u)) (Register v u ∷ h) t ⊎ (Register v u ≡ Line.Check true))
    go (inl j) = inl j
    go (inr (n, w, r)) = unfold perform done Records.new_var with_atoms with_marks with_dt in inr (inl (v, u, n, inl refl, w, r))
marks_back s h (Equate l) t i = inl (same_marks_back s.state (merge_sides s l (children s.state.terms (atom_of s l))).session.state (sides_same s l (children s.state.terms (atom_of s l))) t i)
marks_back s h (Cong u v) t i = inl i
marks_back s h (Iface u v j g) t i = inl i
marks_back s h (Assert l) t i = inl (same_marks_back s.state (Records.assert s.state l).state (assert_same s.state l) t i)
marks_back s h (Differ l) t i = inl (same_marks_back s.state (Records.differ s.state l) (differ_same s.state l) t i)
marks_back s h Push t i = inl i
marks_back s h (Pop k) t i = inl (same_marks_back s.state (pop_to s.state k) (pop_same s.state k) t i)
marks_back s h (Line.Check true) t i = inr (inr refl)
marks_back s h (Line.Check false) t i = inl i

-- ---- closed

sides_closed : (s : Session) (l : ℕ) (ts : List ℕ) → (merge_sides s l ts).session.closed ≡ s.closed
unfolding merge_sides merged done
sides_closed s l [] = refl
sides_closed s l (x ∷ []) = refl
sides_closed s l (x ∷ y ∷ []) = refl
sides_closed s l (x ∷ y ∷ z ∷ zs) = refl

perform_closed : (s : Session) (c : Command) → (line_kind c ≡ 3 → ⊥) → (perform s c).session.closed ≡ s.closed
unfolding perform done numbered merged line_kind
perform_closed s (DeclareSort n) k = refl
perform_closed s (DeclareCtor dt fs) k = refl
perform_closed s (DeclareFun r as') k = refl
perform_closed s Close k = absurd (k refl)
perform_closed s (MkTerm f ts) k = refl
perform_closed s (MkEq t u) k = refl
perform_closed s (Register v t) k = refl
perform_closed s (Equate l) k = sides_closed s l (children s.state.terms (atom_of s l))
perform_closed s (Cong t u) k = refl
perform_closed s (Iface t u h g) k = refl
perform_closed s (Assert l) k = refl
perform_closed s (Differ l) k = refl
perform_closed s Push k = refl
perform_closed s (Pop k') k = refl
perform_closed s (Line.Check e) k = refl

closing : line_kind Close ≡ 3
unfolding line_kind
closing = refl

shut : (s : Session) (c : Command) → line_kind c ≡ 3 → T (perform s c).session.closed
unfolding perform line_kind
shut s (DeclareSort n) e = absurd (omega arith)
shut s (DeclareCtor dt fs) e = absurd (omega arith)
shut s (DeclareFun r as') e = absurd (omega arith)
shut s Close e = tt
shut s (MkTerm f ts) e = absurd (omega arith)
shut s (MkEq t u) e = absurd (omega arith)
shut s (Register v t) e = absurd (omega arith)
shut s (Equate l) e = absurd (omega arith)
shut s (Cong t u) e = absurd (omega arith)
shut s (Iface t u h g) e = absurd (omega arith)
shut s (Assert l) e = absurd (omega arith)
shut s (Differ l) e = absurd (omega arith)
shut s Push e = absurd (omega arith)
shut s (Pop k) e = absurd (omega arith)
shut s (Line.Check f) e = absurd (omega arith)

-- after an accepted `close` declarations are closed
pub closed_by : (s : Session) (h : History) (c : Command) → (Accepted h Close → T s.closed) → Accepted (c ∷ h) Close → T (perform s c).session.closed
closed_by s h c f a = go (ℕ_discrete (line_kind c) 3)
  where
    still : (line_kind c ≡ 3 → ⊥) → Accepted (c ∷ h) Close → T s.closed
    still k (inl e) = absurd (k (ap line_kind e ∙ closing))
    still k (inr b) = f b

    go : Dec (line_kind c ≡ 3) → T (perform s c).session.closed
    go (yes e) = shut s c e
    go (no k) = subst T (sym (perform_closed s c k)) (still k a)
