-- A term table that grows at its end: what the tables of a check keep, since marks and flags concern old terms; and terms made in a check.
use Rattle.shinri_core.proofs.Kit.{ℕ, zero, suc, ◌/◌, ◌%◌, ◌≤◌, ◌<◌, ◌≡◌, refl, sym, ap, ◌∙◌, subst, subst⁻¹, ◌⊎◌, inl, inr, true, false, true≢false, List, [], ◌∷◌, arith, length}
use Rattle.shinri_core.specs.Limits.{max_terms}
use Rattle.shinri_core.specs.Lists.{In}
use Rattle.shinri_core.specs.Term as Term
use Rattle.shinri_core.specs.Term.{Term, Op, Eq}
use Rattle.shinri_core.specs.Context as Context
use Rattle.shinri_core.specs.Context.{Context, term, children, ctor_app, ctor_by_op, sel_app, sel_by_op, tester_app, tester_by_op, terms_fit, mk_app, mk_eq}
use Rattle.shinri_core.specs.Formed.{Formed, Extends, Agrees}
use Rattle.shinri_core.specs.Memory.Words.{at}
use Rattle.shinri_core.specs.Memory.Table.{context, ContextSound, AllBelow, MayApply, MayEquate}
use Rattle.shinri_core.specs.Memory.Codes.{MkApp, made_answer, made_context}
use Rattle.solver.specs.State.{with_terms, made_in, make_app}
use Rattle.solver.specs.Rules.{make_eq}
use Rattle.solver.specs.Memory.Table.{MARK, ENTRY, is_set, flagged_from, term_kind, key_atom, EntryFits, MarksAre, CollectedSound, StateSound, state_with, max_lits}
use Rattle.solver.specs.Memory.Work.{W_MARK, state_at, apps_from, WorkSound, ChainSound, CheckSound}
use Rattle.solver.specs.Memory.Making.{Making, Makeable, Equatable, MadeOutcome, MadeWithin, MakesTerm, Made}
use Rattle.solver.proofs.Basics.{by_test, gather_same}
use Rattle.solver.proofs.Terms.{Below, extends_self, mk_app_makes, mk_app_formed, extends_symbol, extends_term, extends_length}
use Rattle.solver.proofs.Signature.{extends_signed}
use Rattle.solver.proofs.Memory.Flags.{flagged_in}
use Rattle.solver.proofs.Memory.Roles as Roles
use Rattle.solver.proofs.Memory.Roles.{kind_kept, kind_stays, marks_kept}

-- ---- applications of old terms

-- what has a kind is a term
pub kind_within : (cx : Context) (x k : ℕ) → term_kind cx x ≡ suc k → x < length cx.terms
unfolding is_set
kind_within cx x k e = Roles.kind_within cx x (ap is_set e)

-- a set mark is that of a term
pub marked_within : (cx : Context) (t : List ℕ) (b x : ℕ) → MarksAre cx t b → x < max_terms → is_set (at t b x) ≡ true →
    x < length cx.terms
unfolding is_set
marked_within cx t b x M l s = go (M x l)
  where
    go : (at t b x ≡ 0) ⊎ (at t b x ≡ term_kind cx x) → x < length cx.terms
    go (inl z) = absurd (true≢false (sym s ∙ ap is_set z))
    go (inr z) = Roles.kind_within cx x (sym (ap is_set z) ∙ s)

module _ (a b : Context) (e : Extends a b) where
  ctor_by_op_same : (t : ℕ) (o : Op) (as' : List ℕ) → ctor_by_op b t o as' ≡ ctor_by_op a t o as'
  unfolding ctor_by_op
  ctor_by_op_same t Eq as' = refl
  ctor_by_op_same t (Term.Uninterpreted f) as' = rw (extends_symbol a b f e)

  sel_by_op_same : (t : ℕ) (o : Op) (as' : List ℕ) → sel_by_op b t o as' ≡ sel_by_op a t o as'
  unfolding sel_by_op
  sel_by_op_same t Eq as' = refl
  sel_by_op_same t (Term.Uninterpreted f) as' = rw (extends_symbol a b f e)

  tester_by_op_same : (t : ℕ) (o : Op) (as' : List ℕ) → tester_by_op b t o as' ≡ tester_by_op a t o as'
  unfolding tester_by_op
  tester_by_op_same t Eq as' = refl
  tester_by_op_same t (Term.Uninterpreted f) as' = rw (extends_symbol a b f e)

  pub old_children : (t : ℕ) → t < length a.terms → children b t ≡ children a t
  unfolding children
  old_children t l = ap (λ (x : Term). x.args) (extends_term a b t e l)

  pub old_ctor_app : (t : ℕ) → t < length a.terms → ctor_app b t ≡ ctor_app a t
  unfolding ctor_app children
  old_ctor_app t l =
      ap (λ (x : Term). ctor_by_op b t x.op x.args) (extends_term a b t e l) ∙ ctor_by_op_same t (term a t).op (term a t).args

  pub old_sel_app : (t : ℕ) → t < length a.terms → sel_app b t ≡ sel_app a t
  unfolding sel_app children
  old_sel_app t l =
      ap (λ (x : Term). sel_by_op b t x.op x.args) (extends_term a b t e l) ∙ sel_by_op_same t (term a t).op (term a t).args

  pub old_tester_app : (t : ℕ) → t < length a.terms → tester_app b t ≡ tester_app a t
  unfolding tester_app children
  old_tester_app t l =
      ap (λ (x : Term). tester_by_op b t x.op x.args) (extends_term a b t e l)
      ∙ tester_by_op_same t (term a t).op (term a t).args

-- the marked constructor applications are old terms
pub old_apps : (a b : Context) → Extends a b → (w : List ℕ) → MarksAre a w W_MARK → (i : ℕ) → i ≤ max_terms →
    apps_from b w i ≡ apps_from a w i
unfolding apps_from
old_apps a b e w M i m =
    gather_same (ctor_app b) (ctor_app a) (flagged_from w W_MARK i) (λ x k.
    let (l, h, s) = flagged_in w W_MARK i x m k in
    old_ctor_app a b e x (marked_within a w W_MARK x M h s))

-- ---- the tables of a check

module _ (c c' : List ℕ) (ex : Extends (context c) (context c')) (sound : ContextSound c') (formed : Formed (context c')) where
  collected_grows : (s : List ℕ) (x : ℕ) → CollectedSound (context c) s x → CollectedSound (context c') s x
  collected_grows s x C = record {
    within = let l = extends_length (context c) (context c') ex in let h = C.within in omega arith;
    mark = C.mark ∙ sym (kind_kept (context c) (context c') x ex C.within);
    below = λ y i. C.below y (subst (λ (ys : List ℕ). In y ys) (old_children (context c) (context c') ex x C.within) i);
  }

  tester_stays : (x : ℕ) → term_kind (context c) x ≡ 4 → term_kind (context c') x ≡ 4
  unfolding is_set
  tester_stays x h = kind_stays (context c) (context c') x ex (ap is_set h) ∙ h

  -- an entry's atom stays a tester application or an equation
  entry_stays : (w : ℕ) → EntryFits (context c) w → EntryFits (context c') w
  entry_stays w f = record {
    key = f.key;
    tester = λ h. tester_stays (key_atom (w / max_lits)) (f.tester h);
    equation = λ h.
        let (l, e) = f.equation h in
        let m = extends_length (context c) (context c') ex in
        (omega arith, ap (λ (x : Term). x.op) (extends_term (context c) (context c') (w % max_lits) ex l) ∙ e);
  }

  pub state_grows : (e s : List ℕ) → StateSound c e s → StateSound c' e s
  state_grows e s S = record {
    core = sound;
    formed = formed;
    signed = extends_signed (context c) (context c') ex S.signed;
    engine = S.engine;
    solver = S.solver;
    registered = λ r i. let l = extends_length (context c) (context c') ex in let h = S.registered r i in omega arith;
    marks = marks_kept (context c) (context c') s MARK ex S.marks;
    announced = S.announced;
    collected = λ x l h. collected_grows s x (S.collected x l h);
    lasting = λ x l h. tester_stays x (S.lasting x l h);
    records = λ i l. entry_stays (at s ENTRY i) (S.records i l);
  }

  pub work_grows : (e w : List ℕ) → WorkSound c e w → WorkSound c' e w
  work_grows e w W = record {
    long = W.long;
    marks = marks_kept (context c) (context c') w W_MARK ex W.marks;
    roots = W.roots;
    lowest = λ x l. rw (old_apps (context c) (context c') ex w W.marks 0 (omega arith)) (W.lowest x l);
  }

  pub chain_grows : (e w : List ℕ) → ChainSound c e w → WorkSound c e w → ChainSound c' e w
  chain_grows e w C W = record {
    next = λ x l m. rw (old_apps (context c) (context c') ex w W.marks (suc x) (omega arith)) (C.next x l m);
  }

  pub check_grows : (e s w : List ℕ) → CheckSound c e s w → CheckSound c' e s w
  check_grows e s w C = record { state = state_grows e s C.state; work = work_grows e w C.work; more = C.more }

  pub making_grows : (e w : List ℕ) → Making c e w → Making c' e w
  making_grows e w M = record {
    core = sound;
    formed = formed;
    signed = extends_signed (context c) (context c') ex M.signed;
    engine = M.engine;
    work = work_grows e w M.work;
  }

-- ---- terms made in a check

-- every number of a list is below n, by place and by member
pub all_below : (n : ℕ) (xs : List ℕ) → AllBelow n xs → Below n xs
all_below n [] h a i = absurd i
all_below n (x ∷ xs) h a (inl e) = let l = h 0 (omega arith) in subst⁻¹ (λ (y : ℕ). y < n) e l
all_below n (x ∷ xs) h a (inr i) = all_below n xs (λ j l. h (suc j) (omega arith)) a i

-- one argument that is a term
pub only_below : (n x : ℕ) → x < n → AllBelow n (x ∷ [])
only_below n x l zero h = l
only_below n x l (suc j) h = absurd (omega arith)

-- what core asks of making an application or an equation
pub may_apply : {c e w : List ℕ} {f : ℕ} {args : List ℕ} → Makeable c e w f args → MayApply c f args
may_apply m = record { sound = m.making.core; declared = m.declared; terms = m.terms }

pub may_equate : {c e w : List ℕ} {x y : ℕ} → Equatable c e w x y → MayEquate c x y
may_equate m = record { sound = m.making.core; left = m.first; right = m.second }

module _
    (c e w : List ℕ) (o : Op) (args : List ℕ) (r : Made) (c' : List ℕ)
    (M : Making c e w) (B : Below (length (context c).terms) args) (A : Agrees (context c) o args) (K : MkApp c o args r c')
  where
    abbrev new : Context.Made
    new = mk_app (context c) o args

    view_fits : terms_fit new.context ≡ true → context c' ≡ new.context
    unfolding made_context
    view_fits q = rw q at K.view

    made_extends : Extends (context c) (context c')
    made_extends =
        by_test (terms_fit new.context)
        (λ q. subst⁻¹ (λ (z : Context). Extends (context c) z) (view_fits q) (mk_app_makes (context c) o args).extends)
        (λ q. subst⁻¹ (λ (t : List ℕ). Extends (context c) (context t)) (K.unchanged q) (extends_self (context c)))

    made_formed : Formed (context c')
    made_formed =
        by_test (terms_fit new.context)
        (λ q. subst⁻¹ Formed (view_fits q) (mk_app_formed (context c) o args M.formed B A))
        (λ q. subst⁻¹ (λ (t : List ℕ). Formed (context t)) (K.unchanged q) M.formed)

    made_within : MadeWithin r (length (context c').terms)
    unfolding made_answer
    made_within = by_test (terms_fit new.context) fits lacks
      where
        fits : terms_fit new.context ≡ true → MadeWithin r (length (context c').terms)
        fits q =
            subst⁻¹ (λ (z : Made). MadeWithin z (length (context c').terms)) (rw q at K.answer)
            (subst⁻¹ (λ (z : Context). new.id < length z.terms) (view_fits q) (mk_app_makes (context c) o args).within)

        lacks : terms_fit new.context ≡ false → MadeWithin r (length (context c').terms)
        lacks q = subst⁻¹ (λ (z : Made). MadeWithin z (length (context c').terms)) (rw q at K.answer) tt

    made_outcome : (s : List ℕ) (lv : ℕ → ℕ) →
        MadeOutcome r (made_in (state_at c e s w lv) (mk_app (state_at c e s w lv).terms o args)) (state_at c' e s w lv)
    unfolding made_answer made_in with_terms state_with
    made_outcome s lv = by_test (terms_fit new.context) fits lacks
      where
        Outcome-is : Made → Type 0
        Outcome-is z = MadeOutcome z (made_in (state_at c e s w lv) new) (state_at c' e s w lv)

        fits : terms_fit new.context ≡ true → Outcome-is r
        fits q =
            subst⁻¹ Outcome-is (rw q at K.answer)
            (ap (λ (z : Context). record { id = new.id; state = with_terms (state_at c e s w lv) z }) (sym (view_fits q)))

        lacks : terms_fit new.context ≡ false → Outcome-is r
        lacks q = subst⁻¹ Outcome-is (rw q at K.answer) q

    made_term : MakesTerm (λ S. made_in S (mk_app S.terms o args)) (Unit {0}) c e w r c' w
    made_term = record {
      sound = λ s C. check_grows c c' made_extends K.sound made_formed e s w C;
      making = making_grows c c' made_extends K.sound made_formed e w M;
      extends = made_extends;
      within = made_within;
      outcome = made_outcome;
      chain = λ u C. chain_grows c c' made_extends K.sound made_formed e w C M.work;
    }

pub made_app : {c e w : List ℕ} {f : ℕ} {args : List ℕ} {r : Made} {c' : List ℕ} → Makeable c e w f args →
    MkApp c (Term.Uninterpreted f) args r c' → MakesTerm (λ S. make_app S f args) (Unit {0}) c e w r c' w
unfolding make_app
made_app {c} {e} {w} {f} {args} {r} {c'} m K =
    made_term c e w (Term.Uninterpreted f) args r c' m.making (all_below (length (context c).terms) args m.terms) m.agree K

pub made_eq : {c e w : List ℕ} {x y : ℕ} {r : Made} {c' : List ℕ} → Equatable c e w x y →
    MkApp c Eq (x ∷ y ∷ []) r c' → MakesTerm (λ S. make_eq S x y) (Unit {0}) c e w r c' w
unfolding make_eq mk_eq
made_eq {c} {e} {w} {x} {y} {r} {c'} m K = made_term c e w Eq (x ∷ y ∷ []) r c' m.making below (x, y, refl, m.agree) K
  where
    below : Below (length (context c).terms) (x ∷ y ∷ [])
    below a (inl q) = subst⁻¹ (λ (z : ℕ). z < length (context c).terms) q m.first
    below a (inr (inl q)) = subst⁻¹ (λ (z : ℕ). z < length (context c).terms) q m.second
    below a (inr (inr i)) = absurd i
