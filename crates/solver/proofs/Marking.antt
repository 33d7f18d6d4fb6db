-- What the rules mark and hand out. A full check that no rule before the ring answers marks no further constructor application: the
-- application of an instantiation atom that was handed out is marked, and injectivity marks selectors only. So where such a check
-- found no clash at first, there is none after it.
use Prim.Native.Nat.{ℕ, ◌-◌, ◌+◌, ◌<◌}
use mathlib.Core.Path.{◌≡◌, refl, sym, subst, subst⁻¹, ap, ◌∙◌}
use mathlib.Core.Logic.{◌⊎◌, inl, inr}
use mathlib.Core.Bool.{Bool, true, false, cond, ◌&&◌}
use mathlib.Core.List.{List, [], ◌∷◌, map, foldl}
use mathlib.Core.Option.{Option, none, some}
use native.Mathlib.Omega.{arith}
use lib.Dec.{T, eqb}
use lib.ListN.{length, get_elem?}
use Rattle.shinri_core.specs.Lists.{first, pairs, range, mem, insert}
use Rattle.shinri_core.specs.Ids.{lit, negate}
use Rattle.shinri_core.specs.Term as Term
use Rattle.shinri_core.specs.Term.{Term, Op, Eq, Symbol, Role, Constructor, Selector}
use Rattle.shinri_core.specs.Context.{Context, CtorApp, SelApp, TesterApp, symbol, term, children, sort_of, dt_constructors, dt_tester, dt_selectors, ctor_app, ctor_by_op, ctor_by_role, tester_app, mk_app, mk_eq}
use Rattle.shinri_core.proofs.Lists.{In, true_T, range_in}
use Rattle.theory.specs.Types.{EqLeaf}
use Rattle.theory.specs.EqEngine.{Merge, are_equal}
use Rattle.theory.specs.Atom.{Registered, var_of_atom}
use Rattle.theory.proofs.Members.{in_either}
use Rattle.solver.specs.State.{State, AssertedAtom, MadeIn, with_terms, with_dt, with_marks, with_emitted, with_split_done, ctor_apps, sel_apps, testers, watched_dt_terms, equal, ctor_of_class, mark, made_in, make_app, marked_in, mint}
use Rattle.solver.specs.Records.{is_some}
use Rattle.solver.specs.Rules.{Phase, TCheck, Sat, Conflict, Split, Unknown, Ruled, pass, answered, go_on, then, try_each, constructor_clash, tester_clash, negative_clash, disequality_clash, mint_on_both, same_constructor, mint_selectors, instantiate_injectivity_selectors, hand_out, hand_out_made, make_eq, equate_field, collapse_field, collapse_at, collapse_lemma, tester_lemma_at, tester_lemma, Fields, mint_field, mint_fields, guard, equate_with, instantiate, instantiate_at, instantiate_constructor, Testers, make_tester, phase, split_on, to_split, split_answer, exhaustiveness_split, has_undetermined_class, unknown_fence}
use Rattle.solver.specs.Check.{before_ring}
use Rattle.solver.proofs.Basics.{none_some, some_none, some_is, mem_in, insert_in, in_insert_new, in_insert_old, pairs_in, gather_in, in_gather, fold_keeps}
use Rattle.solver.proofs.Terms.{Extends, extends_self, extends_then, extends_length, extends_symbol, extends_term, mk_app_makes, app}
use Rattle.solver.proofs.Signature.{Signed, extends_signed}
use Rattle.solver.proofs.Apps.{op_apart, ctor_app_is, tester_app_is}
use Rattle.solver.proofs.Clash.{Ready, Assertion, Unequal, of_tester, record_by, ctor_in}
use Rattle.solver.proofs.Collection.{children_lower}
use Rattle.solver.proofs.Answers.{before_ring_well}
use Rattle.solver.proofs.Moves.{made_args, ctor_app_kept, tester_app_kept, Follows, follows_ready}
use Rattle.solver.proofs.Lemmas.{element_at, collapse_well, tester_lemma_well, instantiate_constructor_well, injectivity_follows, exhaustiveness_well}
use Rattle.solver.proofs.Clear.{Tells, constructor_tells, tester_tells, negative_tells, disequality_tells, Clear, clear_at_first}

-- ---- applications in a longer table

abbrev pub CtorAt : Context → ℕ → Type 0
CtorAt cx t = T (is_some (ctor_app cx t))

ctor_back : (a b : Context) (t : ℕ) → Extends a b → t < length a.terms → CtorAt b t → CtorAt a t
ctor_back a b t e l k = subst (λ (o : Option CtorApp). T (is_some o)) (ctor_app_kept a b t e l) k

ctor_at : (cx : Context) (t : ℕ) (c : CtorApp) → ctor_app cx t ≡ some c → CtorAt cx t
ctor_at cx t c e = subst⁻¹ (λ (o : Option CtorApp). T (is_some o)) e (unfold is_some in tt)

children_kept : (a b : Context) (t : ℕ) → Extends a b → t < length a.terms → children b t ≡ children a t
unfolding children
children_kept a b t e l = ap (λ (x : Term). x.args) (extends_term a b t e l)

-- ---- marks and atoms handed out, between lines

-- Marked terms and atoms handed out are terms. A constructor application that is a field of a marked one, or the second side of an
-- equation handed out, is marked. An atom of the lasting record has a variable.
pub record Settled (cx : Context) (atoms : List Registered) (marks emitted lasting : List ℕ) : Type 0 where
  pub within : (t : ℕ) → In t marks → t < length cx.terms
  pub fields : (c f : ℕ) → In c marks → CtorAt cx c → In f (children cx c) → f < c → CtorAt cx f → In f marks
  pub handed : (t : ℕ) → In t emitted → t < length cx.terms
  pub sides : (t x c : ℕ) → In t emitted → term cx t ≡ app Eq (x ∷ c ∷ []) → c < t → CtorAt cx c → In c marks
  pub named : (t : ℕ) → In t lasting → T (is_some (var_of_atom atoms t))

abbrev pub SettledIn : State → Type 0
SettledIn s = Settled s.terms s.atoms s.dt.marks s.dt.emitted s.dt.lasting

pub settled_terms : (a b : Context) {atoms : List Registered} {ms es ls : List ℕ} → Extends a b → Settled a atoms ms es ls →
    Settled b atoms ms es ls
settled_terms a b e S =
    let h = extends_length a b e in
    record {
      within = λ t i. let l = S.within t i in omega arith;
      fields = λ c f i k j l m.
          let w = S.within c i in
          S.fields c f i (ctor_back a b c e w k) (subst (λ (zs : List ℕ). In f zs) (children_kept a b c e w) j) l
          (ctor_back a b f e (omega arith) m);
      handed = λ t i. let l = S.handed t i in omega arith;
      sides = λ t x c i q l m.
          let w = S.handed t i in
          S.sides t x c i (sym (extends_term a b t e w) ∙ q) l (ctor_back a b c e (omega arith) m);
      named = S.named;
    }

module _ {cx : Context} {atoms : List Registered} {ms es ls : List ℕ} (t : ℕ) (L : t < length cx.terms)
    (S : Settled cx atoms ms es ls) where
  settled_mark : (CtorAt cx t → (f : ℕ) → In f (children cx t) → CtorAt cx f → In f ms) → Settled cx atoms (insert t ms) es ls
  settled_mark h = record {
    within = λ u i. within u (insert_in u t ms i);
    fields = λ c f i k j l m. in_insert_old f t ms (fields c f (insert_in c t ms i) k j l m);
    handed = S.handed;
    sides = λ u x c i q l m. in_insert_old c t ms (S.sides u x c i q l m);
    named = S.named;
  }
    where
      within : (u : ℕ) → (u ≡ t) ⊎ In u ms → u < length cx.terms
      within u (inl e) = omega arith
      within u (inr i) = S.within u i

      fields : (c f : ℕ) → (c ≡ t) ⊎ In c ms → CtorAt cx c → In f (children cx c) → f < c → CtorAt cx f → In f ms
      fields c f (inl e) k j l m = h (subst (CtorAt cx) e k) f (subst (λ (z : ℕ). In f (children cx z)) e j) m
      fields c f (inr i) k j l m = S.fields c f i k j l m

  settled_emit : ((x c : ℕ) → term cx t ≡ app Eq (x ∷ c ∷ []) → CtorAt cx c → In c ms) → Settled cx atoms ms (insert t es) ls
  settled_emit h = record {
    within = S.within;
    fields = S.fields;
    handed = λ u i. handed u (insert_in u t es i);
    sides = λ u x c i q l m. sides u x c (insert_in u t es i) q l m;
    named = S.named;
  }
    where
      handed : (u : ℕ) → (u ≡ t) ⊎ In u es → u < length cx.terms
      handed u (inl e) = omega arith
      handed u (inr i) = S.handed u i

      sides : (u x c : ℕ) → (u ≡ t) ⊎ In u es → term cx u ≡ app Eq (x ∷ c ∷ []) → c < u → CtorAt cx c → In c ms
      sides u x c (inl e) q l m = h x c (ap (term cx) (sym e) ∙ q) m
      sides u x c (inr i) q l m = S.sides u x c i q l m

-- ---- rules that answer nothing

-- no constructor application is newly marked, and nothing is handed out
pub record Quiet (s s' : State) : Type 0 where
  pub extends : Extends s.terms s'.terms
  pub atoms : s'.atoms ≡ s.atoms
  pub emitted : s'.dt.emitted ≡ s.dt.emitted
  pub settled : SettledIn s'
  pub old : (t : ℕ) → In t s.dt.marks → In t s'.dt.marks
  pub only : (t : ℕ) → In t s'.dt.marks → CtorAt s'.terms t → In t s.dt.marks

quiet_self : (s : State) → SettledIn s → Quiet s s
quiet_self s S = record {
  extends = extends_self s.terms;
  atoms = refl;
  emitted = refl;
  settled = S;
  old = λ t i. i;
  only = λ t i k. i;
}

quiet_then : (a b c : State) → Quiet a b → Quiet b c → Quiet a c
quiet_then a b c p q = record {
  extends = extends_then a.terms b.terms c.terms p.extends q.extends;
  atoms = q.atoms ∙ p.atoms;
  emitted = q.emitted ∙ p.emitted;
  settled = q.settled;
  old = λ t i. q.old t (p.old t i);
  only = λ t i k. let j = q.only t i k in p.only t j (ctor_back b.terms c.terms t q.extends (p.settled.within t j) k);
}

quiet_made : (s s' : State) (o : Op) (as' : List ℕ) → Quiet s s' → Quiet s (made_in s' (mk_app s'.terms o as')).state
unfolding made_in with_terms
quiet_made s s' o as' q =
    let e = (mk_app_makes s'.terms o as').extends in
    record {
      extends = extends_then s.terms s'.terms (mk_app s'.terms o as').context q.extends e;
      atoms = q.atoms;
      emitted = q.emitted;
      settled = settled_terms s'.terms (mk_app s'.terms o as').context e q.settled;
      old = q.old;
      only = λ t i k. q.only t i (ctor_back s'.terms (mk_app s'.terms o as').context t e (q.settled.within t i) k);
    }

not_ctor : (cx : Context) (t k c i : ℕ) (as' : List ℕ) → term cx t ≡ app (Term.Uninterpreted k) as' → (symbol cx k).role ≡ Selector c i
    → CtorAt cx t → ⊥
unfolding is_some
not_ctor cx t k c i as' e r w = subst (λ (o : Option CtorApp). T (is_some o)) is_none w
  where
    is_none : ctor_app cx t ≡ none
    is_none =
        unfold ctor_app ctor_by_op ctor_by_role children in
        ap (λ (x : Term). ctor_by_op cx t x.op x.args) e ∙ ap (λ (ρ : Role). ctor_by_role t k ρ as') r

-- a selector application is made and marked
quiet_selector : (s s' : State) (k c i a : ℕ) → (symbol s.terms k).role ≡ Selector c i → Quiet s s' →
    Quiet s (mint s' k (a ∷ [])).state
unfolding mint marked_in mark with_marks with_dt make_app made_in with_terms
quiet_selector s s' k c i a r q = record {
  extends = P.extends;
  atoms = P.atoms;
  emitted = P.emitted;
  settled = settled_mark id (mk_app_makes s'.terms (Term.Uninterpreted k) (a ∷ [])).within P.settled (λ w. absurd (none w));
  old = λ t j. in_insert_old t id s'.dt.marks (P.old t j);
  only = λ t j w. only t (insert_in t id s'.dt.marks j) w;
}
  where
    P : Quiet s (made_in s' (mk_app s'.terms (Term.Uninterpreted k) (a ∷ []))).state
    P = quiet_made s s' (Term.Uninterpreted k) (a ∷ []) q

    cx : Context
    cx = (mk_app s'.terms (Term.Uninterpreted k) (a ∷ [])).context

    id : ℕ
    id = (mk_app s'.terms (Term.Uninterpreted k) (a ∷ [])).id

    none : CtorAt cx id → ⊥
    none w =
        not_ctor cx id k c i (a ∷ []) (mk_app_makes s'.terms (Term.Uninterpreted k) (a ∷ [])).made
        (ap (λ (x : Symbol). x.role) (extends_symbol s.terms cx k P.extends) ∙ r) w

    only : (t : ℕ) → (t ≡ id) ⊎ In t s'.dt.marks → CtorAt cx t → In t s.dt.marks
    only t (inl e) w = absurd (none (subst (CtorAt cx) e w))
    only t (inr j) w = P.only t j w

-- the selectors of a constructor
selector_role : (cx : Context) → Signed cx → (c k : ℕ) → (symbol cx c).role ≡ Constructor → In k (dt_selectors cx c) →
    (i : ℕ) × ((symbol cx k).role ≡ Selector c i)
unfolding dt_selectors
selector_role cx S c k K i =
    let (x, y) = range_in (c + 2) (length (symbol cx c).params) k i in
    let e : c + 2 + (k - (c + 2)) ≡ k = omega arith in
    (k - (c + 2), ap (λ (z : ℕ). (symbol cx z).role) (sym e) ∙ S.own_selector c (k - (c + 2)) K (omega arith))

selectors_kept : (a b : Context) (c : ℕ) → Extends a b → dt_selectors b c ≡ dt_selectors a c
unfolding dt_selectors
selectors_kept a b c e = ap (λ (x : Symbol). range (c + 2) (length x.params)) (extends_symbol a b c e)

-- what a rule leaves: marks and atoms handed out as they are between lines, and where it answers nothing it was quiet; it never says sat
pub record Keeps (s : State) (r : Ruled) : Type 0 where
  pub settled : SettledIn r.state
  pub quiet : r.answer ≡ none → Quiet s r.state
  pub not_sat : r.answer ≡ some Sat → ⊥

pass_keeps : (s s' : State) → Quiet s s' → Keeps s (pass s')
unfolding pass
pass_keeps s s' q = record { settled = q.settled; quiet = λ e. q; not_sat = λ e. none_some Sat e }

answered_keeps : (s s' : State) (a : TCheck) → SettledIn s' → (a ≡ Sat → ⊥) → Keeps s (answered s' a)
unfolding answered
answered_keeps s s' a S n = record { settled = S; quiet = λ e. absurd (some_none a e); not_sat = λ e. n (some_is a Sat e) }

Says-sat : TCheck → Type 0
Says-sat Sat = Unit {0}
Says-sat (Conflict ls) = ⊥
Says-sat (Split as' gs ps) = ⊥
Says-sat Unknown = ⊥

conflict_sat : (ls : List EqLeaf) → Conflict ls ≡ Sat → ⊥
unfolding Says-sat
conflict_sat ls e = subst⁻¹ Says-sat e tt

split_sat : (as' gs : List ℕ) (ps : List Phase) → Split as' gs ps ≡ Sat → ⊥
unfolding Says-sat
split_sat as' gs ps e = subst⁻¹ Says-sat e tt

unknown_sat : Unknown ≡ Sat → ⊥
unfolding Says-sat
unknown_sat e = subst⁻¹ Says-sat e tt

then_keeps : (s : State) (r : Ruled) (next : State → Ruled) → Keeps s r → (Quiet s r.state → Keeps s (next r.state)) →
    Keeps s (then r next)
unfolding then
then_keeps s r next k h = go r.answer refl
  where
    go : (o : Option TCheck) → r.answer ≡ o → Keeps s (go_on o r.state next)
    go none e = unfold go_on in h (k.quiet e)
    go (some a) e = unfold go_on in answered_keeps s r.state a k.settled (λ q. k.not_sat (e ∙ ap {B = Option TCheck} some q))

try_keeps : {A : Type 0} (s : State) (rule : A → State → Ruled) (xs : List A) → ((x : A) → In x xs → (s' : State) → Quiet s s' →
    Keeps s (rule x s')) → (s' : State) → Quiet s s' → Keeps s (try_each rule xs s')
unfolding try_each
try_keeps s rule [] h s' q = pass_keeps s s' q
try_keeps s rule (x ∷ xs) h s' q =
    then_keeps s (rule x s') (λ s''. try_each rule xs s'') (h x (inl refl) s' q) (λ p. try_keeps s rule xs (λ y i. h y (inr i))
    (rule x s').state p)

-- an atom handed out: where it is an equation, an application on its second side is marked
hand_out_keeps : (s : State) (m : MadeIn) (guards : List ℕ) → Quiet s m.state → m.id < length m.state.terms.terms →
    ((x c : ℕ) → term m.state.terms m.id ≡ app Eq (x ∷ c ∷ []) → CtorAt m.state.terms c → In c m.state.dt.marks) →
    Keeps s (hand_out_made m guards)
unfolding hand_out_made hand_out
hand_out_keeps s m guards q l h = go (mem m.id m.state.dt.emitted)
  where
    go : (b : Bool) → Keeps s (cond b (pass m.state) (answered (with_emitted m.state (insert m.id m.state.dt.emitted))
        (Split (m.id ∷ []) guards [])))
    go true = pass_keeps s m.state q
    go false =
        answered_keeps s (with_emitted m.state (insert m.id m.state.dt.emitted)) (Split (m.id ∷ []) guards [])
        (unfold with_emitted with_dt in settled_emit m.id l q.settled h) (split_sat (m.id ∷ []) guards [])

second_side : (x y z c : ℕ) → app Eq (x ∷ y ∷ []) ≡ app Eq (z ∷ c ∷ []) → y ≡ c
second_side x y z c e = args_are (ap (λ (t : Term). t.args) e)
  where
    args_are : x ∷ y ∷ [] ≡ z ∷ c ∷ [] → y ≡ c
    args_are q = cc

no_equation : (f : ℕ) (as' bs : List ℕ) → app (Term.Uninterpreted f) as' ≡ app Eq bs → ⊥
no_equation f as' bs e = op_apart f (sym (ap (λ (t : Term). t.op) e))

-- ---- injectivity

module _ (s : State) (R : Ready s) where
  -- selectors of a constructor, made and marked
  mint_quiet : (s' : State) (c k a : ℕ) → (symbol s.terms c).role ≡ Constructor → Quiet s s' → In k (dt_selectors s.terms c) →
      Quiet s (mint s' k (a ∷ [])).state
  mint_quiet s' c k a K q i = let (j, r) = selector_role s.terms R.signed c k K i in quiet_selector s s' k c j a r q

  both_quiet : (s' : State) (p q c : ℕ) → (symbol s.terms c).role ≡ Constructor → Quiet s s' →
      Quiet s (foldl (mint_on_both p q) s' (dt_selectors s'.terms c))
  unfolding mint_on_both
  both_quiet s' p q c K w =
      fold_keeps (Quiet s) (mint_on_both p q) (dt_selectors s'.terms c) s'
      (λ k i s'' v. let j = subst (λ (ks : List ℕ). In k ks) (selectors_kept s.terms s'.terms c w.extends) i in mint_quiet
      (mint s'' k (p ∷ [])).state c k q K (mint_quiet s'' c k p K v j) j) w

  injectivity_quiet : SettledIn s → Quiet s (instantiate_injectivity_selectors s)
  unfolding instantiate_injectivity_selectors mint_selectors same_constructor
  injectivity_quiet S = fold_keeps (Quiet s) mint_selectors (pairs (ctor_apps s)) s
      (λ x i s' q. one x s' q (pairs_in (ctor_apps s) x i).0) (quiet_self s S)
    where
      one : (x : CtorApp × CtorApp) (s' : State) → Quiet s s' → In x.0 (ctor_apps s) → Quiet s (mint_selectors s' x)
      one x s' q i = go (same_constructor s' x)
        where
          go : (b : Bool) → Quiet s (cond b (foldl (mint_on_both x.0.app x.1.app) s' (dt_selectors s'.terms x.0.ctor))
              s')
          go true = both_quiet s' x.0.app x.1.app x.0.ctor (ctor_in s x.0 i).role q
          go false = q

-- ---- collapse and tester lemma

module _ (s : State) (R : Ready s) (S : SettledIn s) where
  -- a field that is an application is marked with the application it is a field of
  field_marked : (s' : State) (c : CtorApp) (y : ℕ) → Quiet s s' → In c (ctor_apps s) → In y c.fields → CtorAt s'.terms y →
      In y s'.dt.marks
  unfolding ctor_apps
  field_marked s' c y q i j k =
      let (u, m, g) = gather_in (ctor_app s.terms) s.dt.marks c i in
      let C = ctor_app_is s.terms u c g in
      let kid = subst⁻¹ (λ (zs : List ℕ). In y zs) C.args j in
      let l = children_lower s.terms R.formed u y kid in
      let w = S.within u m in
      q.old y (S.fields u y m (ctor_at s.terms u c g) kid l (ctor_back s.terms s'.terms y q.extends (omega arith) k))

  equate_keeps : (c : CtorApp) (y : ℕ) (m : MadeIn) → In c (ctor_apps s) → In y c.fields → Quiet s m.state →
      Keeps s (equate_field y m)
  unfolding equate_field make_eq mk_eq
  equate_keeps c y m i j q = go (equal m.state m.id y)
    where
      w : MadeIn
      w = make_eq m.state m.id y

      Q : Quiet s w.state
      Q = quiet_made s m.state Eq (m.id ∷ y ∷ []) q

      go : (b : Bool) → Keeps s (cond b (pass m.state) (hand_out_made w []))
      go true = pass_keeps s m.state q
      go false =
          unfold made_in with_terms in
          let M = mk_app_makes m.state.terms Eq (m.id ∷ y ∷ []) in
          hand_out_keeps s w [] Q M.within
          (λ x d e k. let n = second_side m.id y x d (sym M.made ∙ e) in subst (λ (z : ℕ). In z m.state.dt.marks) n
          (field_marked w.state c y Q i j (subst⁻¹ (CtorAt w.state.terms) n k)))

  collapse_at_keeps : (x : SelApp) (c : CtorApp) (s' : State) → In c (ctor_apps s) → Quiet s s' → Keeps s (collapse_at x c s')
  unfolding collapse_at make_app
  collapse_at_keeps x c s' i q = go (eqb c.ctor x.ctor && equal s' x.arg c.app)
    where
      at : (o : Option ℕ) → get_elem? c.fields x.index ≡ o → Keeps s (collapse_field x c s' o)
      at none e = unfold collapse_field in pass_keeps s s' q
      at (some y) e =
          unfold collapse_field in
          equate_keeps c y (make_app s' x.selector (c.app ∷ [])) i (element_at (λ n. n) c.fields x.index y e).0
          (quiet_made s s' (Term.Uninterpreted x.selector) (c.app ∷ []) q)

      go : (b : Bool) → Keeps s (cond b (collapse_field x c s' (get_elem? c.fields x.index)) (pass s'))
      go true = at (get_elem? c.fields x.index) refl
      go false = pass_keeps s s' q

  collapse_keeps : Keeps s (collapse_lemma s)
  unfolding collapse_lemma
  collapse_keeps =
      try_keeps s (λ (x : SelApp) s'. try_each (λ (c : CtorApp) s''. collapse_at x c s'') (ctor_apps s) s') (sel_apps s)
      (λ x i s' q. try_keeps s (λ (c : CtorApp) s''. collapse_at x c s'') (ctor_apps s) (λ c j s'' p. collapse_at_keeps x c s'' j p) s' q)
      s (quiet_self s S)

  tester_at_keeps : (x : TesterApp) (c : CtorApp) (s' : State) → Quiet s s' → Keeps s (tester_lemma_at x c s')
  unfolding tester_lemma_at make_app
  tester_at_keeps x c s' q = go (eqb c.ctor x.ctor && equal s' x.arg c.app)
    where
      go : (b : Bool) → Keeps s (cond b (hand_out_made (make_app s' x.tester (c.app ∷ [])) []) (pass s'))
      go true =
          unfold made_in with_terms in
          let M = mk_app_makes s'.terms (Term.Uninterpreted x.tester) (c.app ∷ []) in
          hand_out_keeps s (make_app s' x.tester (c.app ∷ [])) [] (quiet_made s s' (Term.Uninterpreted x.tester)
          (c.app ∷ []) q) M.within
          (λ y d e k. absurd (no_equation x.tester (c.app ∷ []) (y ∷ d ∷ []) (sym M.made ∙ e)))
      go false = pass_keeps s s' q

  tester_lemma_keeps : Keeps s (tester_lemma s)
  unfolding tester_lemma
  tester_lemma_keeps =
      try_keeps s (λ (x : TesterApp) s'. try_each (λ (c : CtorApp) s''. tester_lemma_at x c s'') (ctor_apps s) s') (testers s)
      (λ x i s' q. try_keeps s (λ (c : CtorApp) s''. tester_lemma_at x c s'') (ctor_apps s) (λ c j s'' p. tester_at_keeps x c s'' p) s' q)
      s (quiet_self s S)

-- ---- guarded instantiation

-- the fields made so far are marked
record FieldsMarked (s : State) (fs : Fields) : Type 0 where
  quiet : Quiet s fs.state
  marked : (f : ℕ) → In f fs.ids → In f fs.state.dt.marks

minted_marked : (s : State) (f : ℕ) (as' : List ℕ) → In (mint s f as').id (mint s f as').state.dt.marks
unfolding mint marked_in mark with_marks with_dt
minted_marked s f as' = in_insert_new (make_app s f as').id (make_app s f as').state.dt.marks

mint_old : (s : State) (f : ℕ) (as' : List ℕ) (t : ℕ) → In t s.dt.marks → In t (mint s f as').state.dt.marks
unfolding mint marked_in mark with_marks with_dt make_app made_in with_terms
mint_old s f as' t i = in_insert_old t (make_app s f as').id s.dt.marks i

module _ (s : State) (R : Ready s) (S : SettledIn s) where
  field_more : (c t k : ℕ) (fs : Fields) → (symbol s.terms c).role ≡ Constructor → In k (dt_selectors s.terms c) →
      FieldsMarked s fs → FieldsMarked s (mint_field t fs k)
  unfolding mint_field
  field_more c t k fs K i G = record {
    quiet = mint_quiet s R fs.state c k t K G.quiet i;
    marked = λ f j. go f (in_either f fs.ids ((mint fs.state k (t ∷ [])).id ∷ []) j);
  }
    where
      go : (f : ℕ) → In f fs.ids ⊎ In f ((mint fs.state k (t ∷ [])).id ∷ []) → In f (mint fs.state k (t ∷ [])).state.dt.marks
      go f (inl j) = mint_old fs.state k (t ∷ []) f (G.marked f j)
      go f (inr (inl e)) = subst⁻¹ (λ (z : ℕ). In z (mint fs.state k (t ∷ [])).state.dt.marks) e
          (minted_marked fs.state k (t ∷ []))
      go f (inr (inr j)) = absurd j

  fields_marked : (s' : State) (t c : ℕ) → (symbol s.terms c).role ≡ Constructor → Quiet s s' → FieldsMarked s (mint_fields s' t c)
  unfolding mint_fields
  fields_marked s' t c K q =
      fold_keeps (FieldsMarked s) (mint_field t) (dt_selectors s'.terms c) (record { ids = []; state = s' })
      (λ k i fs G. field_more c t k fs K (subst (λ (ks : List ℕ). In k ks) (selectors_kept s.terms s'.terms c q.extends) i) G)
      (record { quiet = q; marked = λ f i. absurd i })

  -- the application over the fields, and the equation with it
  module _ (fs : Fields) (G : FieldsMarked s fs) (c t : ℕ) where
    cx₁ : Context
    cx₁ = (mk_app fs.state.terms (Term.Uninterpreted c) fs.ids).context

    a : ℕ
    a = (mk_app fs.state.terms (Term.Uninterpreted c) fs.ids).id

    cx₂ : Context
    cx₂ = (mk_app cx₁ Eq (t ∷ a ∷ [])).context

    d : ℕ
    d = (mk_app cx₁ Eq (t ∷ a ∷ [])).id

    Q : Quiet s fs.state
    Q = G.quiet

    E₁ : Extends fs.state.terms cx₁
    unfolding cx₁
    E₁ = (mk_app_makes fs.state.terms (Term.Uninterpreted c) fs.ids).extends

    E₂ : Extends cx₁ cx₂
    unfolding cx₂
    E₂ = (mk_app_makes cx₁ Eq (t ∷ a ∷ [])).extends

    E : Extends s.terms cx₂
    E = extends_then s.terms cx₁ cx₂ (extends_then s.terms fs.state.terms cx₁ Q.extends E₁) E₂

    made : term cx₂ d ≡ app Eq (t ∷ a ∷ [])
    unfolding cx₂ d
    made = (mk_app_makes cx₁ Eq (t ∷ a ∷ [])).made

    kids : children cx₁ a ≡ fs.ids
    unfolding cx₁ a
    kids = made_args cx₁ a (Term.Uninterpreted c) fs.ids (mk_app_makes fs.state.terms (Term.Uninterpreted c) fs.ids).made

    settled : Settled cx₂ fs.state.atoms (insert a fs.state.dt.marks) fs.state.dt.emitted fs.state.dt.lasting
    settled =
        settled_terms cx₁ cx₂ E₂
        (settled_mark a
        (unfold cx₁ a in (mk_app_makes fs.state.terms (Term.Uninterpreted c) fs.ids).within)
        (settled_terms fs.state.terms cx₁ E₁ Q.settled)
        (λ w f j k. G.marked f (subst (λ (zs : List ℕ). In f zs) kids j)))

    -- an equation that was handed out has its application marked
    passed : T (mem d fs.state.dt.emitted) → CtorAt cx₂ a → In a s.dt.marks
    passed m k =
        let i = mem_in d s.dt.emitted (subst (λ (es : List ℕ). T (mem d es)) Q.emitted m) in
        let l = S.handed d i in
        let q = sym (extends_term s.terms cx₂ d E l) ∙ made in
        let n = children_lower s.terms R.formed d a (subst⁻¹ (λ (zs : List ℕ). In a zs) (made_args s.terms d Eq (t ∷ a ∷ [])
        q) (inr (inl refl))) in
        S.sides d t a i q n (ctor_back s.terms cx₂ a E (omega arith) k)

    only : T (mem d fs.state.dt.emitted) → (u : ℕ) → (u ≡ a) ⊎ In u fs.state.dt.marks → CtorAt cx₂ u → In u s.dt.marks
    only m u (inl e) k = subst⁻¹ (λ (z : ℕ). In z s.dt.marks) e (passed m (subst (CtorAt cx₂) e k))
    only m u (inr i) k =
        let l = Q.settled.within u i in
        let h = extends_length fs.state.terms cx₁ E₁ in
        Q.only u i (ctor_back fs.state.terms cx₁ u E₁ l (ctor_back cx₁ cx₂ u E₂ (omega arith) k))

    w : MadeIn
    w = equate_with t (mint fs.state c fs.ids)

    instance_keeps : (guards : List ℕ) → Keeps s (hand_out_made w guards)
    unfolding w equate_with mint marked_in mark with_marks with_dt make_app make_eq mk_eq made_in with_terms hand_out_made
        hand_out cx₁ cx₂ a d
    instance_keeps guards = go (mem d fs.state.dt.emitted) refl
      where
        go : (b : Bool) → mem d fs.state.dt.emitted ≡ b →
            Keeps s (cond b (pass w.state) (answered (with_emitted w.state (insert d fs.state.dt.emitted))
            (Split (d ∷ []) guards [])))
        go true e =
            let m = true_T (mem d fs.state.dt.emitted) e in
            pass_keeps s w.state (record {
              extends = E;
              atoms = Q.atoms;
              emitted = Q.emitted;
              settled = settled;
              old = λ u i. in_insert_old u a fs.state.dt.marks (Q.old u i);
              only = λ u i k. only m u (insert_in u a fs.state.dt.marks i) k;
            })
        go false e =
            answered_keeps s (with_emitted w.state (insert d fs.state.dt.emitted)) (Split (d ∷ []) guards [])
            (unfold with_emitted in
            settled_emit d (mk_app_makes cx₁ Eq (t ∷ a ∷ [])).within settled
            (λ x b q k. subst (λ (z : ℕ). In z (insert a fs.state.dt.marks)) (second_side t a x b (sym made ∙ q))
            (in_insert_new a fs.state.dt.marks))) (split_sat (d ∷ []) guards [])

  instantiate_keeps : (s' : State) (x : TesterApp) → Quiet s s' → (symbol s.terms x.ctor).role ≡ Constructor →
      T (is_some (var_of_atom s'.atoms x.app)) → Keeps s (instantiate s' x)
  unfolding instantiate
  instantiate_keeps s' x q K v = go (var_of_atom s'.atoms x.app) v
    where
      fs : Fields
      fs = mint_fields s' x.arg x.ctor

      go : (o : Option ℕ) → T (is_some o) → Keeps s (guard o (equate_with x.arg (mint fs.state x.ctor fs.ids)))
      go none n = absurd (unfold is_some in n)
      go (some y) n =
          unfold guard w in
          instance_keeps fs (fields_marked s' x.arg x.ctor K q) x.ctor x.arg (negate (lit y true) ∷ [])

  instantiate_at_keeps : (t : ℕ) (s' : State) → In t s.dt.lasting → Quiet s s' →
      Keeps s (instantiate_at (tester_app s'.terms t) s')
  unfolding instantiate_at
  instantiate_at_keeps t s' i q = go (tester_app s'.terms t) refl
    where
      at : (x : TesterApp) → tester_app s'.terms t ≡ some x → (b : Bool) → Keeps s (cond b (pass s') (instantiate s' x))
      at x e true = pass_keeps s s' q
      at x e false =
          let X = tester_app_is s'.terms t x e in
          instantiate_keeps s' x q
          (ap (λ (z : Symbol). z.role) (sym (extends_symbol s.terms s'.terms x.ctor q.extends)) ∙ ((extends_signed
          s.terms s'.terms q.extends R.signed).tester x.tester x.ctor X.role).0)
          (subst⁻¹ (λ (rs : List Registered). T (is_some (var_of_atom rs x.app))) q.atoms
          (subst⁻¹ (λ (z : ℕ). T (is_some (var_of_atom s.atoms z))) X.app (S.named t i)))

      go : (o : Option TesterApp) → tester_app s'.terms t ≡ o → Keeps s (instantiate_at o s')
      go none e = pass_keeps s s' q
      go (some x) e = at x e (is_some (ctor_of_class s' x.arg))

  instantiate_constructor_keeps : Keeps s (instantiate_constructor s)
  unfolding instantiate_constructor
  instantiate_constructor_keeps = try_keeps s (λ t s'. instantiate_at (tester_app s'.terms t) s') s.dt.lasting
      (λ t i s' q. instantiate_at_keeps t s' i q) s (quiet_self s S)

-- ---- exhaustiveness and unknown

module _ (s : State) (S : SettledIn s) where
  split_keeps : (t : ℕ) → Keeps s (split_on s t)
  unfolding split_on
  split_keeps t =
      answered_keeps s (foldl (make_tester t) start cs).state (Split (foldl (make_tester t) start cs).atoms []
      (map (phase s.terms) cs))
      (fold_keeps (λ (ts : Testers). SettledIn ts.state) (make_tester t) cs start (λ c i ts T₀. more c ts T₀)
      (unfold with_split_done with_dt in S))
      (split_sat (foldl (make_tester t) start cs).atoms [] (map (phase s.terms) cs))
    where
      cs : List ℕ
      cs = dt_constructors s.terms (sort_of s.terms t)

      start : Testers
      start = record { atoms = []; state = with_split_done s (insert t s.dt.split_done) }

      more : (c : ℕ) (ts : Testers) → SettledIn ts.state → SettledIn (make_tester t ts c).state
      more c ts T₀ =
          unfold make_tester make_app made_in with_terms in
          settled_terms ts.state.terms (mk_app ts.state.terms (Term.Uninterpreted (dt_tester c)) (t ∷ [])).context
          (mk_app_makes ts.state.terms (Term.Uninterpreted (dt_tester c)) (t ∷ [])).extends T₀

  exhaustiveness_keeps : Keeps s (exhaustiveness_split s)
  unfolding exhaustiveness_split
  exhaustiveness_keeps = go (first (to_split s) (watched_dt_terms s))
    where
      go : (o : Option ℕ) → Keeps s (split_answer s o)
      go none = unfold split_answer in pass_keeps s s (quiet_self s S)
      go (some t) = unfold split_answer in split_keeps t

  unknown_keeps : Keeps s (unknown_fence s)
  unfolding unknown_fence
  unknown_keeps = go (has_undetermined_class s)
    where
      go : (b : Bool) → Keeps s (cond b (answered s Unknown) (pass s))
      go true = answered_keeps s s Unknown S unknown_sat
      go false = pass_keeps s s (quiet_self s S)

-- ---- the rules before the ring

-- a rule that answers conflict or nothing
tells_keeps : (s : State) (r : Ruled) → SettledIn s → Tells s r → Keeps s r
tells_keeps s r S t = record {
  settled = subst⁻¹ SettledIn t.state S;
  quiet = λ e. subst⁻¹ (Quiet s) t.state (quiet_self s S);
  not_sat = λ e. let (ls, q) = t.conflict Sat e in conflict_sat ls (sym q);
}

-- one rule after another
and_then : (s : State) (r : Ruled) (next : State → Ruled) → Ready r.state → Keeps s r → ((s' : State) → Ready s' → SettledIn s' →
    Keeps s' (next s')) → Keeps s (then r next)
and_then s r next R k h = then_keeps s r next k (λ q. base q (h r.state R q.settled))
  where
    base : Quiet s r.state → Keeps r.state (next r.state) → Keeps s (next r.state)
    base q w = record {
      settled = w.settled;
      quiet = λ e. quiet_then s r.state (next r.state).state q (w.quiet e);
      not_sat = w.not_sat;
    }

pub before_ring_keeps : (s : State) → Ready s → SettledIn s → Keeps s (before_ring s)
unfolding before_ring pass
before_ring_keeps s R S =
    and_then s (constructor_clash s) _ (subst⁻¹ Ready (constructor_tells s).state R) (tells_keeps s (constructor_clash s) S
    (constructor_tells s)) λ s R S.
    and_then s (tester_clash s) _ (subst⁻¹ Ready (tester_tells s).state R) (tells_keeps s (tester_clash s) S (tester_tells s)) λ s R S.
    and_then s (negative_clash s) _ (subst⁻¹ Ready (negative_tells s).state R) (tells_keeps s (negative_clash s) S
    (negative_tells s)) λ s R S.
    and_then s (disequality_clash s) _ (subst⁻¹ Ready (disequality_tells s).state R) (tells_keeps s (disequality_clash s) S
    (disequality_tells s)) λ s R S.
    and_then s (pass (instantiate_injectivity_selectors s)) _ (follows_ready s (instantiate_injectivity_selectors s)
    (injectivity_follows s R) R) (pass_keeps s (instantiate_injectivity_selectors s) (injectivity_quiet s R S)) λ s R S.
    and_then s (collapse_lemma s) _ (follows_ready s (collapse_lemma s).state (collapse_well s R).follows R)
    (collapse_keeps s R S) λ s R S.
    and_then s (tester_lemma s) _ (follows_ready s (tester_lemma s).state (tester_lemma_well s R).follows R)
    (tester_lemma_keeps s R S) λ s R S.
    and_then s (instantiate_constructor s) _ (follows_ready s (instantiate_constructor s).state
    (instantiate_constructor_well s R).follows R) (instantiate_constructor_keeps s R S) λ s R S.
    and_then s (exhaustiveness_split s) unknown_fence (follows_ready s (exhaustiveness_split s).state
    (exhaustiveness_well s R).follows R) (exhaustiveness_keeps s S) λ s R S.
    unknown_keeps s S

-- ---- no clash

-- where no rule answers there is no clash after the rules have marked what they mark
pub still_clear : (s : State) → Ready s → SettledIn s → (before_ring s).answer ≡ none →
    ((b : Assertion) (e : AssertedAtom) → In e (record_by s b) → e.atom < length s.terms.terms) → Clear (before_ring s).state
still_clear s R S e w = record {
  constructors = λ p q i j t. C.constructors p q (old p i) (old q j) (same p.app q.app t);
  testers = λ b x y c i q j t.
      let i' = subst (λ (es : List AssertedAtom). In x es) (F.entries (of_tester b)) i in
      C.testers b x y c i'
      (sym (tester_app_kept s.terms (before_ring s).state.terms x.atom Q.extends (w (of_tester b) x i')) ∙ q) (old c j)
      (same y.arg c.app t);
  unequal = λ e x y i k t.
      let i' = subst (λ (es : List AssertedAtom). In e es) (F.entries Unequal) i in
      C.unequal e x y i' (sym (children_kept s.terms (before_ring s).state.terms e.atom Q.extends (w Unequal e i')) ∙ k)
      (same x y t);
}
  where
    C : Clear s
    C = clear_at_first s e

    F : Follows s (before_ring s).state
    F = (before_ring_well s R).follows

    Q : Quiet s (before_ring s).state
    Q = (before_ring_keeps s R S).quiet e

    same : (x y : ℕ) → T (equal (before_ring s).state x y) → T (equal s x y)
    same x y t = unfold equal in subst (λ (ms : List Merge). T (are_equal ms x y)) F.eq t

    old : (c : CtorApp) → In c (ctor_apps (before_ring s).state) → In c (ctor_apps s)
    old c i =
        unfold ctor_apps in
        let (u, j, g) = gather_in (ctor_app (before_ring s).state.terms) (before_ring s).state.dt.marks c i in
        let k = Q.only u j (ctor_at (before_ring s).state.terms u c g) in
        in_gather (ctor_app s.terms) s.dt.marks u c k
        (sym (ctor_app_kept s.terms (before_ring s).state.terms u Q.extends (S.within u k)) ∙ g)
