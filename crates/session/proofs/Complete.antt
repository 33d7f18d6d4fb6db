-- Each kind of accepted line keeps two things: asserted testers and unequal terms stand in their records (Asserted), and marks and atoms
-- handed out are settled (Marking). So the definition's clashes are those of the claim.
use Prim.Native.Nat.{ℕ, zero, suc, ◌≤◌, ◌<◌}
use mathlib.Core.Path.{◌≡◌, refl, sym, subst, subst⁻¹, ap, ◌∙◌}
use mathlib.Core.Logic.{◌⊎◌, inl, inr}
use mathlib.Core.Bool.{Bool, true, false, cond, not, ◌&&◌, ◌||◌}
use mathlib.Core.List.{List, [], ◌∷◌, ◌++◌}
use mathlib.Core.Option.{Option, none, some}
use native.Mathlib.Omega.{arith}
use lib.Dec.{T, eqb, ltb, eqb_refl, ltb→lt}
use lib.ListN.{length}
use Rattle.shinri_core.specs.Limits.{max_vars}
use Rattle.shinri_core.specs.Lists.{insert, first}
use Rattle.shinri_core.specs.Ids as Ids
use Rattle.shinri_core.specs.Term as Term
use Rattle.shinri_core.specs.Term.{Term, Op, Eq}
use Rattle.shinri_core.specs.Context.{Context, TesterApp, ctor_app, sel_app, tester_app, is_datatype_sort, sort_of, children, declare_sort, dt_add_constructor, declare_fun, with_symbols, mk_app, mk_eq}
use Rattle.shinri_core.proofs.Lists.{In, T_and}
use Rattle.theory.specs.Types.{AssertedLeaf}
use Rattle.theory.specs.Atom as Atom
use Rattle.theory.specs.Atom.{Registered, var_of_atom}
use Rattle.solver.specs.State.{State, with_terms, with_eq, with_atoms, with_level, with_level_record, with_negative_record, with_disequalities, with_lasting, with_marks, with_dt}
use Rattle.solver.specs.Records as Records
use Rattle.solver.specs.Records.{is_some, relevant}
use Rattle.solver.specs.Rules.{TCheck, Sat, Conflict}
use Rattle.solver.specs.Check as Check
use Rattle.solver.specs.Check.{before_ring}
use Rattle.solver.proofs.Basics.{in_mem, insert_in, T-no}
use Rattle.solver.proofs.Terms.{Formed, mk_app_makes}
use Rattle.solver.proofs.Apps.{tester_app_is}
use Rattle.solver.proofs.Collection.{Beneath, children_lower, Marks, new_var_marks}
use Rattle.solver.proofs.Answers.{before_ring_well}
use Rattle.solver.proofs.Clash.{record_by, Affirmed, Unequal}
use Rattle.session.specs.Line as Line
use Rattle.session.specs.Line.{Command, DeclareSort, DeclareCtor, DeclareFun, Close, MkTerm, MkEq, Register, Equate, Cong, Iface, Assert, Differ, Push, Pop}
use Rattle.session.specs.Session.{Session, empty_session, term_exists, var_exists, atom_of, before_close, after_close, exist, agree, unregistered, questions, first_no, perform, done, numbered, merged, merge_sides, popped, pop_to}
use Rattle.session.specs.Answer.{Checked}
use Rattle.session.specs.History.{History, LeafInForce, IsAtom}
use Rattle.session.specs.Claim.{Against, Denied, Clash, Before, After, SaysConflict}
use Rattle.session.proofs.Forces.{kind}
use Rattle.session.proofs.Invariant.{registered_atom, atom_within, popped_record, Inv}
use Rattle.session.proofs.Causes.{clear_now}
use Rattle.session.proofs.Accepting.{no_refusal, check_rule, check_state, assert_says}
use Rattle.solver.proofs.Clear.{Clear, clash_found}
use Rattle.solver.proofs.Moves.{tester_app_kept}
use Rattle.solver.proofs.Marking.{CtorAt, Settled, SettledIn, settled_terms, before_ring_keeps, still_clear}
use Rattle.session.proofs.Asserted.{Asserted, asserted_as, asserted_on, asserted_pop, asserted_register, asserted_more, differed}

abbrev pub AssertedIn : State → History → Type 0
AssertedIn st h = Asserted st.terms st.atoms (record_by st) h

pub record Complete (s : Session) (h : History) : Type 0 where
  pub settled : SettledIn s.state
  pub asserted : AssertedIn s.state h

pub empty_complete : Complete empty_session []
unfolding empty_session Rattle.solver.specs.State.empty_state
empty_complete = record {
  settled = record {
    within = λ t i. absurd i;
    fields = λ c f i. absurd i;
    handed = λ t i. absurd i;
    sides = λ t x c i. absurd i;
    named = λ t i. absurd i;
  };
  asserted = record { known = λ b v l i. absurd i; entry = λ v l a x i. absurd i; unequal = λ v l a i. absurd i };
}

-- ---- first variables

named_more : (atoms new : List Registered) (t : ℕ) → T (is_some (var_of_atom atoms t)) → T (is_some (var_of_atom (atoms ++ new) t))
unfolding var_of_atom first
named_more [] new t n = absurd (unfold Atom.var_of is_some in n)
named_more (r ∷ rs) new t n = go (eqb r.atom t) n (named_more rs new t)
  where
    go : (b : Bool) → T (is_some (Atom.var_of (cond b (some r) (first (λ (x : Registered). eqb x.atom t) rs)))) →
        (T (is_some (Atom.var_of (first (λ (x : Registered). eqb x.atom t) rs))) →
        T (is_some (Atom.var_of (first (λ (x : Registered). eqb x.atom t) (rs ++ new))))) →
        T (is_some (Atom.var_of (cond b (some r) (first (λ (x : Registered). eqb x.atom t) (rs ++ new)))))
    go true m f = m
    go false m f = f m

in_named : (atoms : List Registered) (r : Registered) → In r atoms → T (is_some (var_of_atom atoms r.atom))
unfolding var_of_atom first
in_named [] r i = absurd i
in_named (q ∷ qs) r i = go (eqb q.atom r.atom) refl i (in_named qs r)
  where
    go : (b : Bool) → eqb q.atom r.atom ≡ b → In r (q ∷ qs) →
        (In r qs → T (is_some (Atom.var_of (first (λ (x : Registered). eqb x.atom r.atom) qs)))) →
        T (is_some (Atom.var_of (cond b (some q) (first (λ (x : Registered). eqb x.atom r.atom) qs))))
    go true e j f = unfold Atom.var_of is_some in tt
    go false e (inl j) f = absurd (subst T e (subst (λ (z : Registered). T (eqb z.atom r.atom)) j (eqb_refl r.atom)))
    go false e (inr j) f = f j

-- ---- collection

beneath_low : (cx : Context) → Formed cx → (n a x : ℕ) → Beneath cx n a x → x ≤ a
beneath_low cx F zero a x e = omega arith
beneath_low cx F (suc n) a x (b, m, w) =
    let l = children_lower cx F a b (Rattle.solver.proofs.Basics.mem_in b (children cx a) m) in
    let k = beneath_low cx F n b x w in
    omega arith

beneath_next : (cx : Context) (n a c f : ℕ) → Beneath cx n a c → In f (children cx c) → Beneath cx (suc n) a f
beneath_next cx zero a c f e i = (f, in_mem f (children cx a) (subst⁻¹ (λ (z : ℕ). In f (children cx z)) e i), refl)
beneath_next cx (suc n) a c f (b, m, w) i = (b, m, beneath_next cx n b c f w i)

ctor_relevant : (cx : Context) (t : ℕ) → CtorAt cx t → T (relevant cx t)
unfolding relevant
ctor_relevant cx t k = go (is_some (ctor_app cx t)) (is_some (sel_app cx t)) (is_some (tester_app cx t))
    (is_datatype_sort cx (sort_of cx t)) k
  where
    go : (a b c d : Bool) → T a → T (a || b || c || d)
    go true b c d w = tt
    go false b c d w = absurd w

module _ (s : Session) (h : History) (I : Inv s h) (C : Complete s h) where
  -- ---- lines that leave the records

  -- neither a registration nor an assertion, and the same table
  still : (d : Command) → (kind d ≡ 1 → ⊥) → (kind d ≡ 5 → ⊥) → AssertedIn s.state (d ∷ h)
  still d n₁ n₅ = asserted_on s.state.terms d n₁ n₅ (λ a l. refl) I.named C.asserted

  declared_complete : (d : Command) (cx : Context) → kind d ≡ 0 → T (not s.closed) → cx.terms ≡ s.state.terms.terms →
      Complete (record { state = with_terms s.state cx; closed = s.closed }) (d ∷ h)
  unfolding with_terms
  declared_complete d cx k o e = record {
    settled = record {
      within = λ t i. absurd (nothing t (C.settled.within t i));
      fields = λ c f i. absurd (nothing c (C.settled.within c i));
      handed = λ t i. absurd (nothing t (C.settled.handed t i));
      sides = λ t x c i. absurd (nothing t (C.settled.handed t i));
      named = C.settled.named;
    };
    asserted = asserted_on cx d (λ w. omega arith) (λ w. omega arith) (λ a l. absurd (nothing a l)) I.named C.asserted;
  }
    where
      nothing : (t : ℕ) → t < length s.state.terms.terms → ⊥
      nothing t l = let z = subst (λ (ts : List Term). t < length ts) (I.unmade (T-no s.closed o)) l in omega arith

  made_complete : (d : Command) (o : Op) (as' : List ℕ) → kind d ≡ 0 → Complete (numbered s (mk_app s.state.terms o as')).session
      (d ∷ h)
  unfolding numbered done with_terms
  made_complete d o as' k =
      let e = (mk_app_makes s.state.terms o as').extends in
      record {
        settled = settled_terms s.state.terms (mk_app s.state.terms o as').context e C.settled;
        asserted = asserted_on (mk_app s.state.terms o as').context d (λ w. omega arith) (λ w. omega arith)
            (λ a l. tester_app_kept s.state.terms (mk_app s.state.terms o as').context a e l) I.named C.asserted;
      }

  sides_complete : (l : ℕ) (ts : List ℕ) → Complete (merge_sides s l ts).session (Equate l ∷ h)
  unfolding merge_sides merged done with_eq kind
  sides_complete l [] = record { settled = C.settled; asserted = still (Equate l) (λ w. omega arith) (λ w. omega arith) }
  sides_complete l (x ∷ []) = record { settled = C.settled; asserted = still (Equate l) (λ w. omega arith) (λ w. omega arith) }
  sides_complete l (x ∷ y ∷ []) = record { settled = C.settled; asserted = still (Equate l) (λ w. omega arith) (λ w. omega arith) }
  sides_complete l (x ∷ y ∷ z ∷ zs) = record { settled = C.settled; asserted = still (Equate l) (λ w. omega arith) (λ w. omega arith) }

  pop_complete : (k : ℕ) → Complete (perform s (Pop k)).session (Pop k ∷ h)
  unfolding perform done pop_to popped with_disequalities with_negative_record with_level_record with_eq with_level with_dt kind
  pop_complete k = go (ltb k s.state.level)
    where
      go : (b : Bool) → Complete (record { state = cond b (popped s.state k) s.state; closed = s.closed }) (Pop k ∷ h)
      go true = record {
        settled = C.settled;
        asserted = asserted_pop k (record_by (popped s.state k)) (popped_record s.state k) C.asserted;
      }
      go false = record { settled = C.settled; asserted = still (Pop k) (λ w. omega arith) (λ w. omega arith) }

  -- ---- registrations

  register_complete : (v t : ℕ) → T (not (Atom.is_registered s.state.atoms v)) → t < length s.state.terms.terms →
      Complete (perform s (Register v t)).session (Register v t ∷ h)
  unfolding perform done Records.new_var with_atoms with_marks with_dt
  register_complete v t n l = record {
    settled = record {
      within = λ x i. within x (M.only x i);
      fields = λ c f i k j w m. fields c f (M.only c i) k j w m;
      handed = C.settled.handed;
      sides = λ u x c i q w m. M.old c (C.settled.sides u x c i q w m);
      named = λ u i. unfold Atom.register in named_more s.state.atoms (record { var = v; atom = t } ∷ []) u (C.settled.named u i);
    };
    asserted = asserted_register v t n C.asserted;
  }
    where
      before : State
      before = with_atoms s.state (Atom.register s.state.atoms v t)

      M : Marks before t (Records.new_var before t)
      M = new_var_marks before t

      within : (x : ℕ) → In x s.state.dt.marks ⊎ ((k : ℕ) × Beneath s.state.terms k t x × T (relevant s.state.terms x)) →
          x < length s.state.terms.terms
      within x (inl i) = C.settled.within x i
      within x (inr (k, w, r)) = let z = beneath_low s.state.terms I.ready.formed k t x w in omega arith

      fields : (c f : ℕ) → In c s.state.dt.marks ⊎ ((k : ℕ) × Beneath s.state.terms k t c × T (relevant s.state.terms c))
          → CtorAt s.state.terms c → In f (children s.state.terms c) → f < c → CtorAt s.state.terms f →
          In f (Records.new_var before t).dt.marks
      fields c f (inl i) k j w m = M.old f (C.settled.fields c f i k j w m)
      fields c f (inr (p, b, r)) k j w m = M.new (suc p) f (λ x y i. children_lower s.state.terms I.ready.formed x y i)
          (beneath_next s.state.terms p t c f b j) (ctor_relevant s.state.terms f m)

  -- ---- assertions

  assert_complete : (l : ℕ) → T (Atom.is_registered s.state.atoms (Ids.var l)) →
      Complete (perform s (Assert l)).session (Assert l ∷ h)
  unfolding perform done
  assert_complete l r = record { settled = settled; asserted = asserted_more s h l I r C.asserted }
    where
      t : ℕ
      t = Atom.atom s.state.atoms (Ids.var l)

      has_variable : T (is_some (var_of_atom s.state.atoms t))
      has_variable = in_named s.state.atoms (record { var = Ids.var l; atom = t })
          (I.named.have (Ids.var l) t (registered_atom s.state.terms s.state.atoms h I.named (Ids.var l) r))

      lasting : (u : ℕ) → (u ≡ t) ⊎ In u s.state.dt.lasting → T (is_some (var_of_atom s.state.atoms u))
      lasting u (inl e) = subst⁻¹ (λ (z : ℕ). T (is_some (var_of_atom s.state.atoms z))) e has_variable
      lasting u (inr i) = C.settled.named u i

      more : Settled s.state.terms s.state.atoms s.state.dt.marks s.state.dt.emitted
          (insert t s.state.dt.lasting)
      more = record {
        within = C.settled.within;
        fields = C.settled.fields;
        handed = C.settled.handed;
        sides = C.settled.sides;
        named = λ u i. lasting u (insert_in u t s.state.dt.lasting i);
      }

      tester : (b : Bool) (x : TesterApp) → x.app ≡ t → SettledIn (Records.assert_tester s.state l b x).state
      tester true x e =
          unfold Records.assert_tester Records.record_tester with_lasting with_level_record with_dt in
          subst⁻¹ (λ (z : ℕ). Settled s.state.terms s.state.atoms s.state.dt.marks s.state.dt.emitted
          (insert z s.state.dt.lasting)) e more
      tester false x e = unfold Records.assert_tester Records.record_negative with_negative_record with_dt in C.settled

      settled : SettledIn (Records.assert s.state l).state
      settled = unfold Records.assert in go (tester_app s.state.terms t) refl
        where
          go : (o : Option TesterApp) → tester_app s.state.terms t ≡ o → SettledIn (Records.assert_atom s.state l o).state
          go none e = unfold Records.assert_atom in C.settled
          go (some x) e = unfold Records.assert_atom in tester (Ids.is_positive l) x (tester_app_is s.state.terms t x e).app

  differ_complete : (l : ℕ) → T (Atom.is_registered s.state.atoms (Ids.var l)) →
      Complete (perform s (Differ l)).session (Differ l ∷ h)
  unfolding perform done Records.differ with_disequalities with_dt
  differ_complete l r = record { settled = C.settled; asserted = differed s h l I r C.asserted }

  -- ---- checks

  check_complete : Complete (perform s (Line.Check true)).session (Line.Check true ∷ h)
  unfolding kind
  check_complete = record {
    settled = subst⁻¹ SettledIn (check_state s) (before_ring_keeps s.state I.ready C.settled).settled;
    asserted = subst⁻¹ (λ (st : State). AssertedIn st (Line.Check true ∷ h)) (check_state s)
        (subst⁻¹ (λ (rs : List Registered). Asserted (before_ring s.state).state.terms rs
        (record_by (before_ring s.state).state) (Line.Check true ∷ h)) F.atoms
        (asserted_as (record_by (before_ring s.state).state) F.entries
        (asserted_on (before_ring s.state).state.terms (Line.Check true) (λ w. omega arith) (λ w. omega arith)
        (λ a l. tester_app_kept s.state.terms (before_ring s.state).state.terms a F.extends l) I.named
        C.asserted)));
  }
    where
      F : Rattle.solver.proofs.Moves.Follows s.state (before_ring s.state).state
      F = (before_ring_well s.state I.ready).follows

  -- ---- each line

  pub perform_complete : (c : Command) → first_no (questions s c) ≡ none → Complete (perform s c).session (c ∷ h)
  unfolding perform done merged with_eq with_level kind questions before_close after_close exist agree unregistered Check.check
  perform_complete (DeclareSort n) e = declared_complete (DeclareSort n) (declare_sort s.state.terms n) refl
      (no_refusal (before_close s) [] e).0 (unfold declare_sort in refl)
  perform_complete (DeclareCtor dt fs) e = declared_complete (DeclareCtor dt fs) (dt_add_constructor s.state.terms dt fs) refl
      (no_refusal (before_close s) _ e).0 (unfold dt_add_constructor with_symbols in refl)
  perform_complete (DeclareFun r as') e = declared_complete (DeclareFun r as') (declare_fun s.state.terms r as') refl
      (no_refusal (before_close s) _ e).0 (unfold declare_fun with_symbols in refl)
  perform_complete Close e = record { settled = C.settled; asserted = still Close (λ w. omega arith) (λ w. omega arith) }
  perform_complete (MkTerm f ts) e = made_complete (MkTerm f ts) (Term.Uninterpreted f) ts refl
  perform_complete (MkEq t u) e = unfold mk_eq in made_complete (MkEq t u) Eq (t ∷ u ∷ []) refl
  perform_complete (Register v t) e =
      let (a, e₁) = no_refusal (after_close s) _ e in
      let (b, e₂) = no_refusal (exist (ltb v max_vars && term_exists s t)) _ e₁ in
      let (c, e₃) = no_refusal (agree (eqb (sort_of s.state.terms t) 0)) _ e₂ in
      register_complete v t (no_refusal (unregistered s v) [] e₃).0 (unfold term_exists in ltb→lt t (length s.state.terms.terms)
      (T_and (ltb v max_vars) (term_exists s t) b).1)
  perform_complete (Equate l) e = sides_complete l (children s.state.terms (atom_of s l))
  perform_complete (Cong t u) e = record { settled = C.settled; asserted = still (Cong t u) (λ w. omega arith) (λ w. omega arith) }
  perform_complete (Iface t u i g) e = record {
    settled = C.settled;
    asserted = still (Iface t u i g) (λ w. omega arith)
        (λ w. omega arith);
  }
  perform_complete (Assert l) e =
      let (a, e₁) = no_refusal (after_close s) _ e in
      assert_complete l (unfold var_exists in (no_refusal (exist (var_exists s l)) [] e₁).0)
  perform_complete (Differ l) e =
      let (a, e₁) = no_refusal (after_close s) _ e in
      differ_complete l (unfold var_exists in (no_refusal (exist (var_exists s l)) _ e₁).0)
  perform_complete Push e = record { settled = C.settled; asserted = still Push (λ w. omega arith) (λ w. omega arith) }
  perform_complete (Pop k) e = pop_complete k
  perform_complete (Line.Check true) e = check_complete
  perform_complete (Line.Check false) e = record {
    settled = C.settled;
    asserted = still (Line.Check false) (λ w. omega arith)
        (λ w. omega arith);
  }

  -- ---- clashes

  -- a full check that finds a clash says conflict
  pub clash_said : Before Clash s h → SaysConflict (perform s (Line.Check true)).answer
  clash_said k =
      let (ls, e) = clash_found s.state (λ c. clear_now s h I C.asserted c k) in
      (ls, check_rule s (Conflict ls) e)

  -- so does an assertion of a tester against its class, positive or negative
  pub assert_said : (l : ℕ) → first_no (questions s (Assert l)) ≡ none → Before Against s h l ⊎ Before Denied s h l →
      SaysConflict (perform s (Assert l)).answer
  unfolding questions after_close exist
  assert_said l e k =
      let (a, e₁) = no_refusal (after_close s) _ e in
      assert_says s h l I a (unfold var_exists in (no_refusal (exist (var_exists s l)) [] e₁).0) k

  -- a full check that says sat leaves none
  pub sat_clear : Inv (perform s (Line.Check true)).session (Line.Check true ∷ h) → (perform s (Line.Check true)).answer ≡ Checked Sat
      → After Clash (perform s (Line.Check true)) (Line.Check true ∷ h) → ⊥
  sat_clear J e k = go (before_ring s.state).answer refl
    where
      answer_is : (a : TCheck) → Checked a ≡ Checked Sat → a ≡ Sat
      answer_is a q = cc

      go : (o : Option TCheck) → (before_ring s.state).answer ≡ o → ⊥
      go (some a) q =
          (before_ring_keeps s.state I.ready C.settled).not_sat
          (q ∙ ap {B = Option TCheck} some (answer_is a (sym (check_rule s a q) ∙ e)))
      go none q =
          clear_now (perform s (Line.Check true)).session (Line.Check true ∷ h) J check_complete.asserted
          (subst⁻¹ Clear (check_state s) (still_clear s.state I.ready C.settled q (λ b y i. atom_within s.state.terms
          s.state.atoms h I.named y.lit y.atom (I.entries b y i).atom))) k

  -- ---- atoms

  -- the literal of a leaf in force has an atom
  pub leaf_atom : (l : ℕ) → LeafInForce h (AssertedLeaf l) → (t : ℕ) × IsAtom h l t
  leaf_atom l f = (
    Atom.atom s.state.atoms (Ids.var l),
    registered_atom s.state.terms s.state.atoms h I.named
        (Ids.var l) (known f),
  )
    where
      known : LeafInForce h (AssertedLeaf l) → T (Atom.is_registered s.state.atoms (Ids.var l))
      known (inl (v, i)) = I.merged.equated v l i
      known (inr (inl (v, i))) = C.asserted.known Affirmed v l i
      known (inr (inr (v, i))) = C.asserted.known Unequal v l i
