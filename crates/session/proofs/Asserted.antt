-- Asserted literals: each has an atom, and each tester asserted and in force stands in the record of its sign, at its level or a lower
-- one; so it is there as long as the assertion is in force. Unequal terms stand in theirs in the same way.
use Prim.Native.Nat.{ℕ, ◌≤◌, ◌<◌}
use mathlib.Core.Path.{◌≡◌, refl, sym, subst, subst⁻¹, ap, ◌∙◌}
use mathlib.Core.Logic.{◌⊎◌, inl, inr}
use mathlib.Core.Bool.{Bool, true, false, cond, not}
use mathlib.Core.List.{List, [], ◌∷◌, ◌++◌}
use mathlib.Core.Option.{Option, none, some}
use native.Mathlib.Omega.{arith}
use lib.Dec.{T, eqb, leb, eqb→eq}
use borrow.Author.Tests.{le-leb}
use lib.ListN.{length}
use Rattle.shinri_core.specs.Ids as Ids
use Rattle.shinri_core.specs.Context.{Context, TesterApp, tester_app}
use Rattle.shinri_core.proofs.Lists.{In, any_in, in_keep, true_T}
use Rattle.theory.specs.Atom as Atom
use Rattle.theory.specs.Atom.{Registered}
use Rattle.theory.proofs.Members.{in_left, in_right, in_any}
use Rattle.solver.specs.State.{State, AssertedAtom, with_level_record, with_negative_record, with_disequalities, with_lasting, with_dt}
use Rattle.solver.specs.Records as Records
use Rattle.solver.specs.Records.{pop_entries}
use Rattle.solver.proofs.Basics.{none_some}
use Rattle.solver.proofs.Apps.{tester_app_is}
use Rattle.solver.proofs.Clash.{Assertion, Affirmed, Negated, Unequal, of_tester, record_by}
use Rattle.session.specs.Line.{Command, Register, Assert, Differ, Pop}
use Rattle.session.specs.Session.{Session}
use Rattle.session.specs.History.{History, level, InForce, IsAtom}
use Rattle.session.proofs.Forces.{kind, force_back, force_other, pop_back, accepted_other}
use Rattle.session.proofs.Invariant.{Named, atom_one, atom_within, registered_atom, line_of, of_kind, Inv}

-- the entry of an atom that was asserted at level v
abbrev pub EntryFor : List AssertedAtom → ℕ → ℕ → Type 0
EntryFor es v a = (e : AssertedAtom) × In e es × (e.atom ≡ a) × (e.level ≤ v)

-- es has the entries of each record
pub record Asserted (cx : Context) (atoms : List Registered) (es : Assertion → List AssertedAtom) (h : History) : Type 0 where
  pub known : (b : Assertion) (v l : ℕ) → InForce h v (line_of b l) → T (Atom.is_registered atoms (Ids.var l))
  pub entry : (v l a : ℕ) (x : TesterApp) → InForce h v (Assert l) → IsAtom h l a → tester_app cx a ≡ some x →
      EntryFor (es (of_tester (Ids.is_positive l))) v a
  pub unequal : (v l a : ℕ) → InForce h v (Differ l) → IsAtom h l a → EntryFor (es Unequal) v a

-- entries that records keep
entry_in : (es es' : Assertion → List AssertedAtom) → ((b : Assertion) (e : AssertedAtom) → In e (es b) → In e (es' b)) → (b : Assertion)
    {v a : ℕ} → EntryFor (es b) v a → EntryFor (es' b) v a
entry_in es es' f b (e, m, n, u) = (e, f b e m, n, u)

-- records with the same entries
pub asserted_as : {cx : Context} {atoms : List Registered} {es : Assertion → List AssertedAtom} {h : History}
    (es' : Assertion → List AssertedAtom) → ((b : Assertion) → es' b ≡ es b) → Asserted cx atoms es h → Asserted cx atoms es' h
asserted_as {es = es} es' z A = record {
  known = A.known;
  entry = λ v l a x i at q. entry_in es es' same (of_tester (Ids.is_positive l)) (A.entry v l a x i at q);
  unequal = λ v l a i at. entry_in es es' same Unequal (A.unequal v l a i at);
}
  where
    same : (b : Assertion) (e : AssertedAtom) → In e (es b) → In e (es' b)
    same b e m = subst⁻¹ (λ (ys : List AssertedAtom). In e ys) (z b) m

-- a line that neither asserts nor registers, over a table that keeps its testers
pub asserted_on : {cx : Context} (cx' : Context) {atoms : List Registered} {es : Assertion → List AssertedAtom} {h : History}
    (d : Command) → (kind d ≡ 1 → ⊥) → (kind d ≡ 5 → ⊥) → ((a : ℕ) → a < length cx.terms → tester_app cx' a ≡ tester_app cx a) →
    Named cx atoms h → Asserted cx atoms es h → Asserted cx' atoms es (d ∷ h)
unfolding kind
asserted_on {cx = cx} cx' {atoms = atoms} {h = h} d n₁ n₅ k N A = record {
  known = λ b v l i. A.known b v l (force_other d h v (line_of b l) (λ e. n₅ (e ∙ of_kind b l)) i);
  entry = λ v l a x i at q.
      A.entry v l a x (force_other d h v (Assert l) (λ e. n₅ e) i) (old l a at)
      (sym (k a (atom_within cx atoms h N l a (old l a at))) ∙ q);
  unequal = λ v l a i at. A.unequal v l a (force_other d h v (Differ l) (λ e. n₅ e) i) (old l a at);
}
  where
    old : (l a : ℕ) → IsAtom (d ∷ h) l a → IsAtom h l a
    old l a at = accepted_other d h (Register (Ids.var l) a) (λ e. n₁ e) at

-- a pop takes back the entries of higher levels, and the assertions of these levels
pub asserted_pop : {cx : Context} {atoms : List Registered} {es : Assertion → List AssertedAtom} {h : History} (k : ℕ)
    (es' : Assertion → List AssertedAtom) → ((b : Assertion) → es' b ≡ pop_entries k (es b)) → Asserted cx atoms es h →
    Asserted cx atoms es' (Pop k ∷ h)
unfolding kind pop_entries
asserted_pop {es = es} {h = h} k es' z A = record {
  known = λ b v l i. A.known b v l (pop_back k h v (line_of b l) (λ e. let q = of_kind b l in omega arith) i).1;
  entry = λ v l a x i at q.
      let (w, j) = pop_back k h v (Assert l) (λ e. omega arith) i in
      left (of_tester (Ids.is_positive l)) w (A.entry v l a x j (old l a at) q);
  unequal = λ v l a i at.
      let (w, j) = pop_back k h v (Differ l) (λ e. omega arith) i in
      left Unequal w (A.unequal v l a j (old l a at));
}
  where
    old : (l a : ℕ) → IsAtom (Pop k ∷ h) l a → IsAtom h l a
    old l a at = accepted_other (Pop k) h (Register (Ids.var l) a) (λ z. omega arith) at

    left : (b : Assertion) {v a : ℕ} → v ≤ k → EntryFor (es b) v a → EntryFor (es' b) v a
    left b w (e, m, n, u) =
        let low = true_T (leb e.level k) (le-leb e.level k (omega arith)) in (
          e,
          subst⁻¹ (λ (ys : List AssertedAtom). In e ys) (z b) (in_keep (λ (y : AssertedAtom). leb y.level k) (es b) e m low),
          n,
          u,
        )

-- a new variable
pub asserted_register : {cx : Context} {atoms : List Registered} {es : Assertion → List AssertedAtom} {h : History} (v t : ℕ) →
    T (not (Atom.is_registered atoms v)) → Asserted cx atoms es h → Asserted cx (Atom.register atoms v t) es (Register v t ∷ h)
unfolding kind Atom.register Atom.is_registered
asserted_register {atoms = atoms} {h = h} v t n A = record {
  known = λ b w l i.
      let (r, j, e) = any_in (λ (y : Registered). eqb y.var (Ids.var l)) atoms (A.known b w l (before b w l i)) in
      in_any (λ (y : Registered). eqb y.var (Ids.var l)) (atoms ++ (record { var = v; atom = t } ∷ [])) r
      (in_left r atoms (record { var = v; atom = t } ∷ []) j) e;
  entry = λ w l a x i at q. A.entry w l a x (before Affirmed w l i) (old Affirmed w l a i at) q;
  unequal = λ w l a i at. A.unequal w l a (before Unequal w l i) (old Unequal w l a i at);
}
  where
    before : (b : Assertion) (w l : ℕ) → InForce (Register v t ∷ h) w (line_of b l) → InForce h w (line_of b l)
    before b w l i = force_other (Register v t) h w (line_of b l) (λ e. let q = of_kind b l in omega arith) i

    var_is : (w u : ℕ) → Register v t ≡ Register w u → v ≡ w
    var_is w u e = cc

    old : (b : Assertion) (w l a : ℕ) → InForce (Register v t ∷ h) w (line_of b l) → IsAtom (Register v t ∷ h) l a → IsAtom h l a
    old b w l a i (inl e) =
        absurd (lib.Dec.T_not (Atom.is_registered atoms v) n
        (subst⁻¹ (λ (z : ℕ). T (Atom.is_registered atoms z)) (var_is (Ids.var l) a e) (A.known b w l (before b w l i))))
    old b w l a i (inr at) = at

-- ---- an assertion

module _ (s : Session) (h : History) (l : ℕ) (I : Inv s h) (r : T (Atom.is_registered s.state.atoms (Ids.var l)))
    (A : Asserted s.state.terms s.state.atoms (record_by s.state) h) where
  -- the line that asserts l, and others of its kind
  module _ (d : Assertion) where
    lit_is : (b : Assertion) (k : ℕ) → line_of d l ≡ line_of b k → l ≡ k
    lit_is b k e = go d b e
      where
        go : (x y : Assertion) → line_of x l ≡ line_of y k → l ≡ k
        go Affirmed Affirmed q = cc
        go Affirmed Negated q = cc
        go Affirmed Unequal q = absurd (let z : ◌≡◌ {A = ℕ} 0 1 = cc in omega arith)
        go Negated Affirmed q = cc
        go Negated Negated q = cc
        go Negated Unequal q = absurd (let z : ◌≡◌ {A = ℕ} 0 1 = cc in omega arith)
        go Unequal Affirmed q = absurd (let z : ◌≡◌ {A = ℕ} 0 1 = cc in omega arith)
        go Unequal Negated q = absurd (let z : ◌≡◌ {A = ℕ} 0 1 = cc in omega arith)
        go Unequal Unequal q = cc

    known_more : (b : Assertion) (v k : ℕ) → InForce (line_of d l ∷ h) v (line_of b k) →
        T (Atom.is_registered s.state.atoms (Ids.var k))
    known_more b v k i = go (force_back (line_of d l) h v (line_of b k) i)
      where
        go : ((line_of d l ≡ line_of b k) × (v ≡ level h)) ⊎ InForce h v (line_of b k) →
            T (Atom.is_registered s.state.atoms (Ids.var k))
        go (inl (e, w)) = subst (λ (z : ℕ). T (Atom.is_registered s.state.atoms (Ids.var z))) (lit_is b k e) r
        go (inr j) = A.known b v k j

    atom_back : (k a : ℕ) → IsAtom (line_of d l ∷ h) k a → IsAtom h k a
    unfolding kind
    atom_back k a at = accepted_other (line_of d l) h (Register (Ids.var k) a) (λ z. let q = of_kind d l in omega arith) at

  -- the entries grow, and the new literal, of sign b, has one if it is of a tester
  more : (es : Assertion → List AssertedAtom) → ((c : Assertion) (e : AssertedAtom) → In e (record_by s.state c) → In e (es c)) →
      (b : Bool) → Ids.is_positive l ≡ b →
      ((a : ℕ) (x : TesterApp) → IsAtom h l a → tester_app s.state.terms a ≡ some x → EntryFor (es (of_tester b)) (level h) a) →
      Asserted s.state.terms s.state.atoms es (Assert l ∷ h)
  more es old b p new = record {
    known = known_more Affirmed;
    entry = λ v k a x i at q. entry v k a x (force_back (Assert l) h v (Assert k) i) (atom_back Affirmed k a at) q;
    unequal = λ v k a i at.
        entry_in (record_by s.state) es old Unequal
        (A.unequal v k a (other v k (force_back (Assert l) h v (Differ k) i)) (atom_back Affirmed k a at));
  }
    where
      other : (v k : ℕ) → ((Assert l ≡ Differ k) × (v ≡ level h)) ⊎ InForce h v (Differ k) → InForce h v (Differ k)
      other v k (inl (e, w)) = absurd (let z : ◌≡◌ {A = ℕ} 0 1 = cc in omega arith)
      other v k (inr i) = i

      entry : (v k a : ℕ) (x : TesterApp) → ((Assert l ≡ Assert k) × (v ≡ level h)) ⊎ InForce h v (Assert k) → IsAtom h k a →
          tester_app s.state.terms a ≡ some x → EntryFor (es (of_tester (Ids.is_positive k))) v a
      entry v k a x (inl (e, w)) at q =
          let is = lit_is Affirmed Affirmed k e in
          subst (λ (z : ℕ). EntryFor (es (of_tester (Ids.is_positive z))) v a) is
          (subst⁻¹ (λ (c : Bool). EntryFor (es (of_tester c)) v a) p
          (subst⁻¹ (λ (z : ℕ). EntryFor (es (of_tester b)) z a) w (new a x (subst⁻¹ (λ (z : ℕ). IsAtom h z a) is at) q)))
      entry v k a x (inr i) at q =
          entry_in (record_by s.state) es old (of_tester (Ids.is_positive k)) (A.entry v k a x i at q)

  atom_t : ℕ
  atom_t = Atom.atom s.state.atoms (Ids.var l)

  is_atom : (a : ℕ) → IsAtom h l a → a ≡ atom_t
  unfolding atom_t
  is_atom a at = atom_one s.state.terms s.state.atoms h I.named l a atom_t at (registered_atom s.state.terms
      s.state.atoms h I.named (Ids.var l) r)

  -- ---- one entry more, unless the atom has one

  entered_old : (t : ℕ) (es : List AssertedAtom) (e : AssertedAtom) → In e es → In e (Records.entered s.state.level t l es)
  unfolding Records.entered
  entered_old t es e i = go (Records.recorded es t)
    where
      new : AssertedAtom
      new = record { atom = t; lit = l; level = s.state.level }

      go : (c : Bool) → In e (cond c es (es ++ (new ∷ [])))
      go true = i
      go false = in_left e es (new ∷ []) i

  entered_new : (t : ℕ) (b : Assertion) → t ≡ atom_t → (a : ℕ) → IsAtom h l a →
      EntryFor (Records.entered s.state.level t l (record_by s.state b)) (level h) a
  unfolding Records.entered Records.recorded
  entered_new t b w a at = go (Records.recorded es t) refl
    where
      es : List AssertedAtom
      es = record_by s.state b

      new : AssertedAtom
      new = record { atom = t; lit = l; level = s.state.level }

      is : t ≡ a
      is = w ∙ sym (is_atom a at)

      go : (c : Bool) → Records.recorded es t ≡ c → EntryFor (cond c es (es ++ (new ∷ []))) (level h) a
      go true e =
          let (y, i, q) = any_in (λ (z : AssertedAtom). eqb z.atom t) es (true_T (Records.recorded es t) e) in
          let u = (I.entries b y i).low in
          let v = I.level in
          (y, i, eqb→eq y.atom t q ∙ is, omega arith)
      go false e = let v = I.level in (new, in_right new es (new ∷ []) (inl refl), is, omega arith)

  abbrev AfterAssert : State → Type 0
  AfterAssert st = Asserted st.terms st.atoms (record_by st) (Assert l ∷ h)

  noted : (b : Bool) → Ids.is_positive l ≡ b → (x : TesterApp) → x.app ≡ atom_t →
      AfterAssert (Records.assert_tester s.state l b x).state
  unfolding Records.assert_tester Records.record_tester Records.record_negative with_lasting with_level_record with_negative_record with_dt
  noted true p x w = more (record_by after) old true p (λ a y at q. entered_new x.app Affirmed w a at)
    where
      after : State
      after = Records.record_tester s.state x.app l

      old : (c : Assertion) (e : AssertedAtom) → In e (record_by s.state c) → In e (record_by after c)
      old Affirmed e i = entered_old x.app s.state.dt.level_record e i
      old Negated e i = i
      old Unequal e i = i
  noted false p x w = more (record_by after) old false p (λ a y at q. entered_new x.app Negated w a at)
    where
      after : State
      after = Records.record_negative s.state x.app l

      old : (c : Assertion) (e : AssertedAtom) → In e (record_by s.state c) → In e (record_by after c)
      old Affirmed e i = i
      old Negated e i = entered_old x.app s.state.dt.negative_record e i
      old Unequal e i = i

  pub asserted_more : AfterAssert (Records.assert s.state l).state
  unfolding Records.assert atom_t
  asserted_more = go (tester_app s.state.terms atom_t) refl
    where
      go : (o : Option TesterApp) → tester_app s.state.terms atom_t ≡ o → AfterAssert (Records.assert_atom s.state l o).state
      go none e = unfold Records.assert_atom in more (record_by s.state) (λ c e i. i) (Ids.is_positive l) refl
          (λ a x at q. absurd (none_some x (sym e ∙ ap (tester_app s.state.terms) (sym (is_atom a at)) ∙ q)))
      go (some x) e =
          unfold Records.assert_atom in
          noted (Ids.is_positive l) refl x (tester_app_is s.state.terms atom_t x e).app

  -- ---- unequal terms

  abbrev Differing : List AssertedAtom
  Differing = (Records.differ s.state l).dt.disequalities

  differ_old : (e : AssertedAtom) → In e s.state.dt.disequalities → In e Differing
  unfolding Records.differ with_disequalities with_dt
  differ_old e i = go (Records.has_literal s.state.dt.disequalities l)
    where
      go : (c : Bool) →
          In e (cond c s.state.dt.disequalities (s.state.dt.disequalities
          ++ (record { atom = Atom.atom s.state.atoms (Ids.var l); lit = l; level = s.state.level } ∷ [])))
      go true = i
      go false = in_left e s.state.dt.disequalities _ i

  differ_new : (a : ℕ) → IsAtom h l a → EntryFor Differing (level h) a
  unfolding Records.differ Records.has_literal with_disequalities with_dt atom_t
  differ_new a at = go (Records.has_literal es l) refl
    where
      es : List AssertedAtom
      es = s.state.dt.disequalities

      new : AssertedAtom
      new = record { atom = Atom.atom s.state.atoms (Ids.var l); lit = l; level = s.state.level }

      go : (c : Bool) → Records.has_literal es l ≡ c → EntryFor (cond c es (es ++ (new ∷ []))) (level h) a
      go true e =
          let (y, i, q) = any_in (λ (z : AssertedAtom). eqb z.lit l) es (true_T (Records.has_literal es l) e) in
          let E = I.entries Unequal y i in
          let u = E.low in
          let v = I.level in (
            y,
            i,
            atom_one s.state.terms s.state.atoms h I.named l y.atom a
                (subst (λ (z : ℕ). IsAtom h z y.atom) (eqb→eq y.lit l q) E.atom) at,
            omega arith,
          )
      go false e = let v = I.level in (new, in_right new es (new ∷ []) (inl refl), sym (is_atom a at), omega arith)

  pub differed : Asserted s.state.terms s.state.atoms (record_by (Records.differ s.state l)) (Differ l ∷ h)
  differed = record {
    known = known_more Unequal;
    entry = λ v k a x i at q.
        entry_in (record_by s.state) (record_by (Records.differ s.state l)) old (of_tester (Ids.is_positive k))
        (A.entry v k a x (other v k (force_back (Differ l) h v (Assert k) i)) (atom_back Unequal k a at) q);
    unequal = λ v k a i at. unequal v k a (force_back (Differ l) h v (Differ k) i) (atom_back Unequal k a at);
  }
    where
      old : (c : Assertion) (e : AssertedAtom) → In e (record_by s.state c) → In e (record_by (Records.differ s.state l) c)
      old Affirmed e i = unfold Records.differ with_disequalities with_dt in i
      old Negated e i = unfold Records.differ with_disequalities with_dt in i
      old Unequal e i = differ_old e i

      other : (v k : ℕ) → ((Differ l ≡ Assert k) × (v ≡ level h)) ⊎ InForce h v (Assert k) → InForce h v (Assert k)
      other v k (inl (e, w)) = absurd (let z : ◌≡◌ {A = ℕ} 0 1 = cc in omega arith)
      other v k (inr i) = i

      unequal : (v k a : ℕ) → ((Differ l ≡ Differ k) × (v ≡ level h)) ⊎ InForce h v (Differ k) → IsAtom h k a → EntryFor Differing v a
      unequal v k a (inl (e, w)) at =
          subst⁻¹ (λ (z : ℕ). EntryFor Differing z a) w
          (differ_new a (subst⁻¹ (λ (z : ℕ). IsAtom h z a) (lit_is Unequal Unequal k e) at))
      unequal v k a (inr i) at =
          entry_in (record_by s.state) (record_by (Records.differ s.state l)) old Unequal (A.unequal v k a i at)
