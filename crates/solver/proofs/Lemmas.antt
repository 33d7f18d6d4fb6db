-- Lemmas: collapse, the tester of an application's own constructor, guarded instantiation and exhaustiveness are true in every
-- reading, and the terms that they make are well formed.
use Prim.Native.Nat.{ℕ, zero, suc, ◌+◌, ◌-◌, ◌<◌}
use mathlib.Core.Path.{◌≡◌, refl, sym, subst, subst⁻¹, ap, ap₂, ◌∙◌}
use mathlib.Core.Logic.{◌⊎◌, inl, inr}
use mathlib.Core.Bool.{Bool, true, false, cond, ◌&&◌, false≢true}
use mathlib.Core.List.{List, [], ◌∷◌, ◌++◌, map, foldl}
use mathlib.Core.Option
use mathlib.Core.Option.{Option, none, some}
use native.Mathlib.Omega.{arith}
use native.Mathlib.Nat.{add-zero, add-suc, suc-add, zero-add}
use native.Mathlib.Decide.{dec_lt}
use lib.Dec.{T, eqb, eqb→eq, eqb_refl}
use borrow.Author.Tests.{eq-eqb, eqb-true}
use lib.ListN.{length, get_or, get_elem?, length-append, get_or-eq_default}
use Rattle.shinri_core.specs.Lists.{range, first, insert, pairs}
use Rattle.shinri_core.specs.Ids.{lit, negate}
use Rattle.shinri_core.specs.Sort.{SortNode, is_datatype}
use Rattle.shinri_core.specs.Term as Term
use Rattle.shinri_core.specs.Term.{Term, Op, Eq, Symbol, Role, Constructor, Tester, Selector, Function}
use Rattle.shinri_core.specs.Context.{Context, CtorApp, SelApp, TesterApp, sort_node, is_datatype_sort, symbol, is_constructor, builds, dt_constructors, dt_tester, dt_selectors, term, no_term, children, sort_of, result_of, sel_app, tester_app}
use Rattle.shinri_core.specs.Reading.{Reading, Value, Values, truth, element, tree, nil, cons, HasSort, HasSorts, built_by, field, own_field, same_value, value}
use Rattle.shinri_core.proofs.Symbols.{node_apart, node_other, builds_in, in_builds}
use Rattle.shinri_core.proofs.Lists.{In, T_and, T_true, true_T, keep_in, range_in}
use Rattle.theory.specs.Atom.{var_of_atom}
use Rattle.theory.proofs.Members.{in_left, in_right}
use Rattle.solver.specs.State.{State, MadeIn, with_dt, with_split_done, ctor_apps, sel_apps, testers, watched_dt_terms, equal, ctor_of_class, make_app, mint}
use Rattle.solver.specs.Records.{is_some}
use Rattle.solver.specs.Rules.{Split, pass, try_each, hand_out_made, make_eq, equate_field, collapse_field, collapse_at, collapse_lemma, tester_lemma_at, tester_lemma, Fields, mint_field, mint_fields, guard, equate_with, instantiate, instantiate_at, instantiate_constructor, Testers, make_tester, phase, split_on, to_split, split_answer, exhaustiveness_split, same_constructor, mint_on_both, mint_selectors, instantiate_injectivity_selectors}
use Rattle.solver.proofs.Basics.{none_some, some_is, gather_in, first_some, pairs_in, fold_keeps}
use Rattle.solver.proofs.Terms.{Extends, extends_self, extends_then, extends_length, extends_symbol, extends_term, extends_sort_of, Agrees, Below, Formed, app}
use Rattle.solver.proofs.Signature.{TesterIs, SelectorIs, Signed, extends_sort_node}
use Rattle.solver.proofs.Values.{values_of, same_value_refl, value_sorted}
use Rattle.solver.proofs.Apps.{IsCtor, IsTester, tester_app_is, IsSel, sel_app_is, app_within, ctor_value, test_value, select_value, equation_is}
use Rattle.solver.proofs.Clash.{Ready, ctor_in}
use Rattle.solver.proofs.Moves.{Follows, follows_self, follows_then, follows_ready, MakesIn, make_app_makes, make_eq_makes, mint_makes, one_below, made_op, made_args, sort_by_op, ctor_kept, tester_kept, sel_kept, SomeLit, SomeTrue, SplitHolds, RuledWell, pass_well, answered_well, base_well, try_well, hand_out_well}

-- ---- an equation of two terms of one value

pub equation_true : {cx : Context} (r : Reading cx) → Formed cx → (t a b : ℕ) → t < length cx.terms → term cx t ≡ app Eq (a ∷ b ∷ []) → value r a ≡ value r b → value r t ≡ truth true
unfolding children
equation_true r F t a b l e q =
    equation_is r F t a b l (ap (λ (x : Term). x.op) e) (ap (λ (x : Term). x.args) e)
    ∙ ap truth (T_true (same_value r.same (value r a) (value r b)) (subst (λ (v : Value r.Element). T (same_value r.same (value r a) v)) q (same_value_refl r.same (λ x. (r.same_is_equal x x).1 refl) (value r a))))

-- ---- the field of an application

pub element_at : (g : ℕ → ℕ) (xs : List ℕ) (i y : ℕ) → get_elem? xs i ≡ some y → In y xs × (get_or (map g xs) i 0 ≡ g y)
element_at g [] i y e = absurd (none_some y e)
element_at g (x ∷ xs) zero y e = let k = some_is x y e in (inl (sym k), ap g k)
element_at g (x ∷ xs) (suc i) y e = let (a, b) = element_at g xs i y e in (inr a, b)

field_value : {cx : Context} (r : Reading cx) (xs : List ℕ) (i y : ℕ) → get_elem? xs i ≡ some y → field (values_of r xs) i ≡ some (value r y)
unfolding field
field_value r [] i y e = absurd (none_some y e)
field_value r (x ∷ xs) zero y e = ap {B = Option (Value r.Element)} (λ z. some (value r z)) (some_is x y e)
field_value r (x ∷ xs) (suc i) y e = field_value r xs i y e

own_field_is : {E : Type 0} (c i : ℕ) (vs : Values E) (v other : Value E) → field vs i ≡ some v → own_field c i (tree c vs) other ≡ v
unfolding own_field
own_field_is c i vs v other e =
    ap (λ (b : Bool). cond b (Option.get_or (field vs i) other) other) (T_true (eqb c c) (eqb_refl c))
    ∙ ap (λ (o : Option (Value _)). Option.get_or o other) e

built_by_is : {E : Type 0} (c d : ℕ) (vs : Values E) → d ≡ c → built_by c (tree d vs) ≡ true
unfolding built_by
built_by_is c d vs e = eq-eqb c d (sym e)

-- ---- sorts of applications

sel_in : (s : State) (x : SelApp) → In x (sel_apps s) → IsSel s.terms x.app x
unfolding sel_apps
sel_in s x i =
    let (u, j, p) = gather_in (sel_app s.terms) s.dt.marks x i in
    let k = sel_app_is s.terms u x p in
    subst⁻¹ (λ (z : ℕ). IsSel s.terms z x) k.app k

tester_in : (s : State) (x : TesterApp) → In x (testers s) → IsTester s.terms x.app x
unfolding testers
tester_in s x i =
    let (u, j, p) = gather_in (tester_app s.terms) s.dt.marks x i in
    let k = tester_app_is s.terms u x p in
    subst⁻¹ (λ (z : ℕ). IsTester s.terms z x) k.app k

ctor_within : (cx : Context) (c : CtorApp) → IsCtor cx c.app c → c.app < length cx.terms
ctor_within cx c C = app_within cx c.app c.ctor C.op

-- an application of a constructor is an argument for its tester and selectors
pub one_arg : (cx : Context) (a c f : ℕ) → sort_of cx a ≡ (symbol cx c).result → (symbol cx f).params ≡ (symbol cx c).result ∷ [] → map (sort_of cx) (a ∷ []) ≡ (symbol cx f).params
one_arg cx a c f e p = ap (λ (z : ℕ). z ∷ []) e ∙ sym p

ctor_sort : (cx : Context) (c : CtorApp) (d : ℕ) → IsCtor cx c.app c → c.ctor ≡ d → sort_of cx c.app ≡ (symbol cx d).result
ctor_sort cx c d C e = sort_by_op cx c.app c.ctor C.op ∙ ap (λ (z : ℕ). (symbol cx z).result) e

fields_sorts : (cx : Context) (c : CtorApp) → Formed cx → IsCtor cx c.app c → map (sort_of cx) c.fields ≡ (symbol cx c.ctor).params
fields_sorts cx c F C =
    ap (map (sort_of cx)) (sym C.args)
    ∙ subst (λ (o : Op). Agrees cx o (children cx c.app)) C.op (F.agrees c.app (ctor_within cx c C))

-- ---- collapse

module _ (s : State) (R : Ready s) where
  collapse_made : (x : SelApp) (c : CtorApp) (y : ℕ) → IsSel s.terms x.app x → IsCtor s.terms c.app c → c.ctor ≡ x.ctor → get_elem? c.fields x.index ≡ some y → RuledWell s (equate_field y (make_app s x.selector (c.app ∷ [])))
  unfolding equate_field
  collapse_made x c y X C q e = go (equal m.state m.id y)
    where
      m : MadeIn
      m = make_app s x.selector (c.app ∷ [])

      S : Signed s.terms
      S = R.signed

      role : SelectorIs (symbol s.terms x.selector) (symbol s.terms x.ctor) x.index
      role = S.selector x.selector x.ctor x.index X.role

      M : MakesIn s (Term.Uninterpreted x.selector) (c.app ∷ []) m
      M = make_app_makes s x.selector (c.app ∷ []) R.formed (one_below (length s.terms.terms) c.app (ctor_within s.terms c C))
          (one_arg s.terms c.app x.ctor x.selector (ctor_sort s.terms c x.ctor C q) role.1)

      cx : Context
      cx = m.state.terms

      E : Extends s.terms cx
      E = M.follows.extends

      R' : Ready m.state
      R' = follows_ready s m.state M.follows R

      X' : IsSel cx x.app x
      X' = sel_kept s.terms cx x.app x E X

      C' : IsCtor cx c.app c
      C' = ctor_kept s.terms cx c.app c E C

      role' : SelectorIs (symbol cx x.selector) (symbol cx x.ctor) x.index
      role' = R'.signed.selector x.selector x.ctor x.index X'.role

      y_in : y < length cx.terms
      y_in =
          let l = ctor_within cx c C' in
          let k = R'.formed.lower c.app l y (subst⁻¹ (λ (zs : List ℕ). In y zs) C'.args (element_at (sort_of cx) c.fields x.index y e).0) in
          omega arith

      y_sort : sort_of cx m.id ≡ sort_of cx y
      y_sort =
          sort_by_op cx m.id x.selector (ap (λ (z : Term). z.op) M.made)
          ∙ role'.3
          ∙ ap (λ (zs : List ℕ). get_or zs x.index 0) (ap (λ (z : ℕ). (symbol cx z).params) (sym q) ∙ sym (fields_sorts cx c R'.formed C'))
          ∙ (element_at (sort_of cx) c.fields x.index y e).1

      w : MadeIn
      w = make_eq m.state m.id y

      W : MakesIn m.state Eq (m.id ∷ y ∷ []) w
      W = make_eq_makes m.state m.id y R'.formed M.within y_in y_sort

      E₂ : Extends cx w.state.terms
      E₂ = W.follows.extends

      both : Follows s w.state
      both = follows_then s m.state w.state M.follows W.follows

      -- the selector on the application gives the field
      selects : (r : Reading w.state.terms) → value r m.id ≡ value r y
      selects r =
          let C'' = ctor_kept cx w.state.terms c.app c E₂ C' in
          let X'' = sel_kept cx w.state.terms x.app x E₂ X' in
          let t = extends_term cx w.state.terms m.id E₂ M.within ∙ M.made in
          select_value r W.follows.formed m.id x.selector x.ctor x.index c.app [] (made_op w.state.terms m.id (Term.Uninterpreted x.selector) (c.app ∷ []) t) (made_args w.state.terms m.id (Term.Uninterpreted x.selector) (c.app ∷ []) t) X''.role
          ∙ ap (λ (v : Value r.Element). own_field x.ctor x.index v (r.foreign x.selector (values_of r (c.app ∷ [])))) (ctor_value r W.follows.formed c.app c.ctor c.fields C''.op C''.args C''.role ∙ ap (λ (d : ℕ). tree d (values_of r c.fields)) q)
          ∙ own_field_is x.ctor x.index (values_of r c.fields) (value r y) (r.foreign x.selector (values_of r (c.app ∷ []))) (field_value r c.fields x.index y e)

      go : (b : Bool) → RuledWell s (cond b (pass m.state) (hand_out_made w []))
      go true = pass_well s m.state M.follows
      go false = hand_out_well s w [] both (λ r Lit h. inr (inl (equation_true r W.follows.formed w.id m.id y W.within W.made (selects r))))

  collapse_field_well : (x : SelApp) (c : CtorApp) → IsSel s.terms x.app x → IsCtor s.terms c.app c → c.ctor ≡ x.ctor → (o : Option ℕ) → get_elem? c.fields x.index ≡ o → RuledWell s (collapse_field x c s o)
  unfolding collapse_field
  collapse_field_well x c X C q none e = pass_well s s (follows_self s R.formed)
  collapse_field_well x c X C q (some y) e = collapse_made x c y X C q e

  collapse_at_well : (x : SelApp) (c : CtorApp) → IsSel s.terms x.app x → IsCtor s.terms c.app c → RuledWell s (collapse_at x c s)
  unfolding collapse_at
  collapse_at_well x c X C = go (eqb c.ctor x.ctor && equal s x.arg c.app) refl
    where
      go : (b : Bool) → (eqb c.ctor x.ctor && equal s x.arg c.app) ≡ b → RuledWell s (cond b (collapse_field x c s (get_elem? c.fields x.index)) (pass s))
      go true e =
          collapse_field_well x c X C (eqb→eq c.ctor x.ctor (T_and (eqb c.ctor x.ctor) (equal s x.arg c.app) (true_T (eqb c.ctor x.ctor && equal s x.arg c.app) e)).0)
          (get_elem? c.fields x.index) refl
      go false e = pass_well s s (follows_self s R.formed)

  -- ---- tester lemma

  tester_at_well : (x : TesterApp) (c : CtorApp) → IsTester s.terms x.app x → IsCtor s.terms c.app c → RuledWell s (tester_lemma_at x c s)
  unfolding tester_lemma_at
  tester_at_well x c X C = go (eqb c.ctor x.ctor && equal s x.arg c.app) refl
    where
      m : MadeIn
      m = make_app s x.tester (c.app ∷ [])

      makes : c.ctor ≡ x.ctor → MakesIn s (Term.Uninterpreted x.tester) (c.app ∷ []) m
      makes q =
          make_app_makes s x.tester (c.app ∷ []) R.formed (one_below (length s.terms.terms) c.app (ctor_within s.terms c C))
          (one_arg s.terms c.app x.ctor x.tester (ctor_sort s.terms c x.ctor C q) (R.signed.tester x.tester x.ctor X.role).1)

      tells : c.ctor ≡ x.ctor → MakesIn s (Term.Uninterpreted x.tester) (c.app ∷ []) m → (r : Reading m.state.terms) → value r m.id ≡ truth true
      tells q M r =
          let C' = ctor_kept s.terms m.state.terms c.app c M.follows.extends C in
          let X' = tester_kept s.terms m.state.terms x.app x M.follows.extends X in
          test_value r M.follows.formed m.id x.tester x.ctor c.app [] (made_op m.state.terms m.id (Term.Uninterpreted x.tester) (c.app ∷ []) M.made) (made_args m.state.terms m.id (Term.Uninterpreted x.tester) (c.app ∷ []) M.made) X'.role
          ∙ ap (λ (v : Value r.Element). truth (built_by x.ctor v)) (ctor_value r M.follows.formed c.app c.ctor c.fields C'.op C'.args C'.role)
          ∙ ap truth (built_by_is x.ctor c.ctor (values_of r c.fields) q)

      made : c.ctor ≡ x.ctor → MakesIn s (Term.Uninterpreted x.tester) (c.app ∷ []) m → RuledWell s (hand_out_made m [])
      made q M = hand_out_well s m [] M.follows (λ r Lit h. inr (inl (tells q M r)))

      go : (b : Bool) → (eqb c.ctor x.ctor && equal s x.arg c.app) ≡ b → RuledWell s (cond b (hand_out_made m []) (pass s))
      go true e =
          let q = eqb→eq c.ctor x.ctor (T_and (eqb c.ctor x.ctor) (equal s x.arg c.app) (true_T (eqb c.ctor x.ctor && equal s x.arg c.app) e)).0 in
          made q (makes q)
      go false e = pass_well s s (follows_self s R.formed)

-- ---- both over all pairs

module _ (s : State) (R : Ready s) where
  pub collapse_well : RuledWell s (collapse_lemma s)
  unfolding collapse_lemma
  collapse_well =
      try_well s (λ (x : SelApp) s'. try_each (λ (c : CtorApp) s''. collapse_at x c s'') (ctor_apps s) s') (sel_apps s)
      (λ x i s' f. try_well s (λ (c : CtorApp) s''. collapse_at x c s'') (ctor_apps s)
      (λ c j s'' g. base_well s s'' (collapse_at x c s'') g
      (collapse_at_well s'' (follows_ready s s'' g R) x c (sel_kept s.terms s''.terms x.app x g.extends (sel_in s x i)) (ctor_kept s.terms s''.terms c.app c g.extends (ctor_in s c j))))
      s' f) s (follows_self s R.formed)

  pub tester_lemma_well : RuledWell s (tester_lemma s)
  unfolding tester_lemma
  tester_lemma_well =
      try_well s (λ (x : TesterApp) s'. try_each (λ (c : CtorApp) s''. tester_lemma_at x c s'') (ctor_apps s) s') (testers s)
      (λ x i s' f. try_well s (λ (c : CtorApp) s''. tester_lemma_at x c s'') (ctor_apps s)
      (λ c j s'' g. base_well s s'' (tester_lemma_at x c s'') g
      (tester_at_well s'' (follows_ready s s'' g R) x c (tester_kept s.terms s''.terms x.app x g.extends (tester_in s x i)) (ctor_kept s.terms s''.terms c.app c g.extends (ctor_in s c j))))
      s' f) s (follows_self s R.formed)

-- ---- guarded instantiation

-- the terms stand for the selectors k, k + 1, … on t
abbrev pub Selects : Context → ℕ → ℕ → List ℕ → Type 0
Selects cx t k [] = Unit {0}
Selects cx t k (d ∷ ds) = (d < length cx.terms) × (term cx d ≡ app (Term.Uninterpreted k) (t ∷ [])) × Selects cx t (suc k) ds

pub selects_kept : (a b : Context) (t k : ℕ) (ds : List ℕ) → Extends a b → Selects a t k ds → Selects b t k ds
selects_kept a b t k [] e h = tt
selects_kept a b t k (d ∷ ds) e (l, q, h) =
    let m = extends_length a b e in
    (omega arith, extends_term a b d e l ∙ q, selects_kept a b t (suc k) ds e h)

pub selects_more : (cx : Context) (t k : ℕ) (ds : List ℕ) (d : ℕ) → Selects cx t k ds → d < length cx.terms → term cx d ≡ app (Term.Uninterpreted (k + length ds)) (t ∷ []) → Selects cx t k (ds ++ (d ∷ []))
selects_more cx t k [] d h l e = (l, e ∙ ap (λ (n : ℕ). app (Term.Uninterpreted n) (t ∷ [])) (add-zero k), tt)
selects_more cx t k (x ∷ ds) d (a, b, h) l e =
    (a, b, selects_more cx t (suc k) ds d h l (e ∙ ap (λ (n : ℕ). app (Term.Uninterpreted n) (t ∷ [])) (add-suc k (length ds) ∙ sym (suc-add k (length ds)))))

pub selects_below : (cx : Context) (t k : ℕ) (ds : List ℕ) → Selects cx t k ds → Below (length cx.terms) ds
selects_below cx t k [] h a i = absurd i
selects_below cx t k (d ∷ ds) (l, e, h) a (inl q) = subst⁻¹ (λ (z : ℕ). z < length cx.terms) q l
selects_below cx t k (d ∷ ds) (l, e, h) a (inr i) = selects_below cx t (suc k) ds h a i

-- the selectors of constructor c on a term of its sort
module _ (cx : Context) (S : Signed cx) (c t : ℕ) (K : (symbol cx c).role ≡ Constructor) where
  abbrev pub Tail : ℕ → List ℕ → Type 0
  Tail i ps = (j : ℕ) → j < length ps → (i + j < length (symbol cx c).params) × (get_or ps j 0 ≡ get_or (symbol cx c).params (i + j) 0)

  tail_next : (i p : ℕ) (ps : List ℕ) → Tail i (p ∷ ps) → Tail (suc i) ps
  tail_next i p ps h j l =
      let (a, b) = h (suc j) (omega arith) in
      (omega arith, b ∙ ap (λ (n : ℕ). get_or (symbol cx c).params n 0) (add-suc i j ∙ sym (suc-add i j)))

  pub selects_sorts : (ds ps : List ℕ) (i : ℕ) → length ds ≡ length ps → Tail i ps → Selects cx t (c + 2 + i) ds → map (sort_of cx) ds ≡ ps
  selects_sorts [] [] i e h w = refl
  selects_sorts [] (p ∷ ps) i e h w = absurd (omega arith)
  selects_sorts (d ∷ ds) [] i e h w = absurd (omega arith)
  selects_sorts (d ∷ ds) (p ∷ ps) i e h (l, q, w) =
      let (a, b) = h 0 (omega arith) in
      let x : i + 0 ≡ i = add-zero i in
      let role = S.own_selector c i K (omega arith) in
      ap₂ (λ (y : ℕ) (ys : List ℕ). y ∷ ys)
      (sort_by_op cx d (c + 2 + i) (made_op cx d (Term.Uninterpreted (c + 2 + i)) (t ∷ []) q) ∙ (S.selector (c + 2 + i) c i role).3 ∙ sym (b ∙ ap (λ (n : ℕ). get_or (symbol cx c).params n 0) x))
      (selects_sorts ds ps (suc i) (omega arith) (tail_next i p ps h) (subst (λ (n : ℕ). Selects cx t n ds) (sym (add-suc (c + 2) i)) w))

  module _ (r : Reading cx) (F : Formed cx) (whole : Values r.Element) (is_whole : value r t ≡ tree c whole) where
    selects_values : (ds ps : List ℕ) (vs : Values r.Element) (i : ℕ) → length ds ≡ length ps → Tail i ps → HasSorts cx r.domain vs ps → ((j : ℕ) → field vs j ≡ field whole (i + j)) → Selects cx t (c + 2 + i) ds → values_of r ds ≡ vs
    unfolding field
    selects_values [] [] nil i e h o f w = refl
    selects_values [] [] (cons v vs) i e h o f w = absurd o
    selects_values [] (p ∷ ps) vs i e h o f w = absurd (omega arith)
    selects_values (d ∷ ds) [] vs i e h o f w = absurd (omega arith)
    selects_values (d ∷ ds) (p ∷ ps) nil i e h o f w = absurd o
    selects_values (d ∷ ds) (p ∷ ps) (cons v vs) i e h (o, os) f (l, q, w) =
        let (a, b) = h 0 (omega arith) in
        let x : i + 0 ≡ i = add-zero i in
        let role = S.own_selector c i K (omega arith) in
        ap₂ cons
        (select_value r F d (c + 2 + i) c i t [] (made_op cx d (Term.Uninterpreted (c + 2 + i)) (t ∷ []) q) (made_args cx d (Term.Uninterpreted (c + 2 + i)) (t ∷ []) q) role
        ∙ ap (λ (z : Value r.Element). own_field c i z (r.foreign (c + 2 + i) (values_of r (t ∷ [])))) is_whole
        ∙ own_field_is c i whole v (r.foreign (c + 2 + i) (values_of r (t ∷ []))) (ap (field whole) (sym x) ∙ sym (f 0)))
        (selects_values ds ps vs (suc i) (omega arith) (tail_next i p ps h) os (λ j. f (suc j) ∙ ap (field whole) (add-suc i j ∙ sym (suc-add i j))) (subst (λ (n : ℕ). Selects cx t n ds) (sym (add-suc (c + 2) i)) w))

  pub whole_tail : Tail 0 (symbol cx c).params
  whole_tail j l = (omega arith, ap (λ (n : ℕ). get_or (symbol cx c).params n 0) (sym (zero-add j)))

-- the fields that were made so far
record FieldsMade (s : State) (t c n : ℕ) (fs : Fields) : Type 0 where
  follows : Follows s fs.state
  selects : Selects fs.state.terms t (c + 2) fs.ids
  count : length fs.ids ≡ n

module _ (s : State) (R : Ready s) (t c : ℕ) (K : (symbol s.terms c).role ≡ Constructor) (L : t < length s.terms.terms) (O : sort_of s.terms t ≡ (symbol s.terms c).result) where
  mint_one : (k i : ℕ) (fs : Fields) → k ≡ c + 2 + i → i < length (symbol s.terms c).params → FieldsMade s t c i fs → FieldsMade s t c (suc i) (mint_field t fs k)
  unfolding mint_field
  mint_one k i fs e l G = record {
    follows = follows_then s fs.state m.state G.follows M.follows;
    selects = selects_more m.state.terms t (c + 2) fs.ids m.id (selects_kept fs.state.terms m.state.terms t (c + 2) fs.ids M.follows.extends G.selects) M.within
        (M.made ∙ ap (λ (n : ℕ). app (Term.Uninterpreted n) (t ∷ [])) (e ∙ ap (λ (n : ℕ). c + 2 + n) (sym G.count)));
    count = length-append fs.ids (m.id ∷ []) ∙ (let q = G.count in omega arith);
  }
    where
      m : MadeIn
      m = mint fs.state k (t ∷ [])

      cx : Context
      cx = fs.state.terms

      E : Extends s.terms cx
      E = G.follows.extends

      role : (symbol cx k).params ≡ (symbol cx c).result ∷ []
      role =
          let S = (follows_ready s fs.state G.follows R).signed in
          let K' = ap (λ (x : Symbol). x.role) (extends_symbol s.terms cx c E) ∙ K in
          ap (λ (n : ℕ). (symbol cx n).params) e
          ∙ (S.selector (c + 2 + i) c i (S.own_selector c i K' (subst⁻¹ (λ (x : Symbol). i < length x.params) (extends_symbol s.terms cx c E) l))).1

      M : MakesIn fs.state (Term.Uninterpreted k) (t ∷ []) m
      M =
          let h = extends_length s.terms cx E in
          mint_makes fs.state k (t ∷ []) G.follows.formed (one_below (length cx.terms) t (omega arith))
          (one_arg cx t c k (extends_sort_of s.terms cx t E L ∙ O ∙ ap (λ (x : Symbol). x.result) (sym (extends_symbol s.terms cx c E))) role)

  mint_all : (n k i : ℕ) (fs : Fields) → k ≡ c + 2 + i → i + n ≡ length (symbol s.terms c).params → FieldsMade s t c i fs → FieldsMade s t c (i + n) (foldl (mint_field t) fs (range k n))
  unfolding range
  mint_all zero k i fs e l G = subst⁻¹ (λ (j : ℕ). FieldsMade s t c j fs) (add-zero i) G
  mint_all (suc n) k i fs e l G =
      subst (λ (j : ℕ). FieldsMade s t c j (foldl (mint_field t) (mint_field t fs k) (range (suc k) n))) (suc-add i n ∙ sym (add-suc i n))
      (mint_all n (suc k) (suc i) (mint_field t fs k) (omega arith) (omega arith) (mint_one k i fs e (omega arith) G))

  mint_fields_made : FieldsMade s t c (length (symbol s.terms c).params) (mint_fields s t c)
  unfolding mint_fields dt_selectors
  mint_fields_made =
      subst (λ (j : ℕ). FieldsMade s t c j (foldl (mint_field t) (record { ids = []; state = s }) (range (c + 2) (length (symbol s.terms c).params)))) (zero-add (length (symbol s.terms c).params))
      (mint_all (length (symbol s.terms c).params) (c + 2) 0 (record { ids = []; state = s }) (omega arith) (omega arith)
      (record { follows = follows_self s R.formed; selects = tt; count = refl }))

-- a tester that is true names the constructor
built_tree : {E : Type 0} (c : ℕ) (v : Value E) → built_by c v ≡ true → (vs : Values E) × (v ≡ tree c vs)
unfolding built_by
built_tree c (truth b) e = absurd (false≢true e)
built_tree c (element x) e = absurd (false≢true e)
built_tree c (tree d vs) e = (vs, ap (λ (n : ℕ). tree n vs) (sym (eqb-true c d e)))

module _ (s : State) (R : Ready s) (x : TesterApp) (X : IsTester s.terms x.app x) where
  ctor : TesterIs (symbol s.terms x.tester) (symbol s.terms x.ctor)
  ctor = R.signed.tester x.tester x.ctor X.role

  tester_within : x.app < length s.terms.terms
  tester_within = app_within s.terms x.app x.tester X.op

  arg_within : x.arg < length s.terms.terms
  arg_within =
      let h = R.formed.lower x.app tester_within x.arg (subst⁻¹ (λ (zs : List ℕ). In x.arg zs) X.args (inl refl)) in
      let l = tester_within in
      omega arith

  arg_sort : sort_of s.terms x.arg ≡ (symbol s.terms x.ctor).result
  arg_sort =
      head_is (sort_of s.terms x.arg) (symbol s.terms x.ctor).result (map (sort_of s.terms) X.rest) []
      (ap (map (sort_of s.terms)) (sym X.args) ∙ subst (λ (o : Op). Agrees s.terms o (children s.terms x.app)) X.op (R.formed.agrees x.app tester_within) ∙ ctor.1)
    where
      head_is : (a b : ℕ) (as' bs : List ℕ) → a ∷ as' ≡ b ∷ bs → a ≡ b
      head_is a b as' bs e = cc

  fs : Fields
  fs = mint_fields s x.arg x.ctor

  G : FieldsMade s x.arg x.ctor (length (symbol s.terms x.ctor).params) fs
  unfolding fs
  G = mint_fields_made s R x.arg x.ctor ctor.0 arg_within arg_sort

  cx₁ : Context
  cx₁ = fs.state.terms

  E₁ : Extends s.terms cx₁
  unfolding cx₁
  E₁ = G.follows.extends

  R₁ : Ready fs.state
  R₁ = follows_ready s fs.state G.follows R

  K₁ : (symbol cx₁ x.ctor).role ≡ Constructor
  K₁ = ap (λ (y : Symbol). y.role) (extends_symbol s.terms cx₁ x.ctor E₁) ∙ ctor.0

  count₁ : length fs.ids ≡ length (symbol cx₁ x.ctor).params
  count₁ = G.count ∙ ap (λ (y : Symbol). length y.params) (sym (extends_symbol s.terms cx₁ x.ctor E₁))

  selects₁ : Selects cx₁ x.arg (x.ctor + 2 + 0) fs.ids
  unfolding cx₁
  selects₁ = subst⁻¹ (λ (n : ℕ). Selects fs.state.terms x.arg n fs.ids) (add-zero (x.ctor + 2)) G.selects

  m : MadeIn
  m = mint fs.state x.ctor fs.ids

  M : MakesIn fs.state (Term.Uninterpreted x.ctor) fs.ids m
  unfolding m cx₁
  M =
      mint_makes fs.state x.ctor fs.ids G.follows.formed (selects_below cx₁ x.arg (x.ctor + 2) fs.ids G.selects)
      (selects_sorts cx₁ R₁.signed x.ctor x.arg K₁ fs.ids (symbol cx₁ x.ctor).params 0 count₁ (whole_tail cx₁ R₁.signed x.ctor x.arg K₁) selects₁)

  F₂ : Follows s m.state
  F₂ = follows_then s fs.state m.state G.follows M.follows

  w : MadeIn
  w = equate_with x.arg m

  W : MakesIn m.state Eq (x.arg ∷ m.id ∷ []) w
  unfolding w equate_with
  W =
      let h = extends_length s.terms m.state.terms F₂.extends in
      let l = arg_within in
      make_eq_makes m.state x.arg m.id F₂.formed (omega arith) M.within
      (extends_sort_of s.terms m.state.terms x.arg F₂.extends arg_within ∙ arg_sort
      ∙ ap (λ (y : Symbol). y.result) (sym (extends_symbol s.terms m.state.terms x.ctor F₂.extends))
      ∙ sym (sort_by_op m.state.terms m.id x.ctor (made_op m.state.terms m.id (Term.Uninterpreted x.ctor) fs.ids M.made)))

  F₃ : Follows s w.state
  F₃ = follows_then s m.state w.state F₂ W.follows

  cx₃ : Context
  cx₃ = w.state.terms

  R₃ : Ready w.state
  R₃ = follows_ready s w.state F₃ R

  K₃ : (symbol cx₃ x.ctor).role ≡ Constructor
  unfolding cx₃
  K₃ = ap (λ (y : Symbol). y.role) (extends_symbol s.terms cx₃ x.ctor F₃.extends) ∙ ctor.0

  E₁₃ : Extends cx₁ cx₃
  unfolding cx₁ cx₃
  E₁₃ = extends_then cx₁ m.state.terms cx₃ M.follows.extends W.follows.extends

  count₃ : length fs.ids ≡ length (symbol cx₃ x.ctor).params
  count₃ = count₁ ∙ ap (λ (y : Symbol). length y.params) (sym (extends_symbol cx₁ cx₃ x.ctor E₁₃))

  arg_sorted : (r : Reading w.state.terms) (vs : Values r.Element) → value r x.arg ≡ tree x.ctor vs → HasSorts w.state.terms r.domain vs (symbol w.state.terms x.ctor).params
  arg_sorted r vs e =
      let l = arg_within in
      let h = extends_length s.terms w.state.terms F₃.extends in
      (subst (λ (v : Value r.Element). HasSort w.state.terms r.domain v (sort_of w.state.terms x.arg)) e (value_sorted r R₃.signed R₃.formed x.arg (omega arith))).2

  -- a term of the tester's constructor is built over its selectors
  rebuilt : (r : Reading w.state.terms) (vs : Values r.Element) → value r x.arg ≡ tree x.ctor vs → value r x.arg ≡ value r m.id
  unfolding cx₃
  rebuilt r vs e =
      let t = extends_term m.state.terms w.state.terms m.id W.follows.extends M.within ∙ M.made in
      e
      ∙ ap (tree x.ctor) (sym (selects_values w.state.terms R₃.signed x.ctor x.arg K₃ r R₃.formed vs e fs.ids (symbol w.state.terms x.ctor).params vs 0 count₃ (whole_tail w.state.terms R₃.signed x.ctor x.arg K₃) (arg_sorted r vs e) (λ j. ap (field vs) (sym (zero-add j))) (selects_kept cx₁ w.state.terms x.arg (x.ctor + 2 + 0) fs.ids E₁₃ selects₁)))
      ∙ sym (ctor_value r R₃.formed m.id x.ctor fs.ids (made_op w.state.terms m.id (Term.Uninterpreted x.ctor) fs.ids t) (made_args w.state.terms m.id (Term.Uninterpreted x.ctor) fs.ids t) K₃)

  tester_says : (r : Reading w.state.terms) → value r x.app ≡ truth (built_by x.ctor (value r x.arg))
  tester_says r =
      let X₃ = tester_kept s.terms w.state.terms x.app x F₃.extends X in
      test_value r R₃.formed x.app x.tester x.ctor x.arg X₃.rest X₃.op X₃.args X₃.role

  splits : (v : ℕ) → var_of_atom s.atoms x.app ≡ some v → SplitHolds w.state (w.id ∷ []) (negate (lit v true) ∷ [])
  splits v e r Lit h = go (built_by x.ctor (value r x.arg)) refl
    where
      go : (b : Bool) → built_by x.ctor (value r x.arg) ≡ b → SomeLit Lit (negate (lit v true) ∷ []) ⊎ SomeTrue r (w.id ∷ [])
      go true q = let (vs, k) = built_tree x.ctor (value r x.arg) q in inr (inl (equation_true r R₃.formed w.id x.arg m.id W.within W.made (rebuilt r vs k)))
      go false q = inl (inl (h v x.app (ap (λ (as' : List _). var_of_atom as' x.app) F₃.atoms ∙ e) (tester_says r ∙ ap truth q)))

  guard_well : (o : Option ℕ) → var_of_atom s.atoms x.app ≡ o → RuledWell s (guard o w)
  unfolding guard
  guard_well none e = pass_well s w.state F₃
  guard_well (some v) e = hand_out_well s w (negate (lit v true) ∷ []) F₃ (splits v e)

  pub instantiate_well : RuledWell s (instantiate s x)
  unfolding instantiate w m fs
  instantiate_well = guard_well (var_of_atom s.atoms x.app) refl

instantiate_at_well : (s : State) → Ready s → (t : ℕ) (o : Option TesterApp) → tester_app s.terms t ≡ o → RuledWell s (instantiate_at o s)
unfolding instantiate_at
instantiate_at_well s R t none e = pass_well s s (follows_self s R.formed)
instantiate_at_well s R t (some x) e = go (is_some (ctor_of_class s x.arg)) (tester_app_is s.terms t x e)
  where
    go : (b : Bool) → IsTester s.terms t x → RuledWell s (cond b (pass s) (instantiate s x))
    go true X = pass_well s s (follows_self s R.formed)
    go false X = instantiate_well s R x (subst⁻¹ (λ (z : ℕ). IsTester s.terms z x) X.app X)

pub instantiate_constructor_well : (s : State) → Ready s → RuledWell s (instantiate_constructor s)
unfolding instantiate_constructor
instantiate_constructor_well s R =
    try_well s (λ t s'. instantiate_at (tester_app s'.terms t) s') s.dt.lasting
    (λ t i s' f. base_well s s' (instantiate_at (tester_app s'.terms t) s') f (instantiate_at_well s' (follows_ready s s' f R) t (tester_app s'.terms t) refl))
    s (follows_self s R.formed)

-- ---- injectivity selectors

module _ (s : State) (R : Ready s) (p q c : ℕ) (K : (symbol s.terms c).role ≡ Constructor) (L : p < length s.terms.terms) (L' : q < length s.terms.terms) (O : sort_of s.terms p ≡ (symbol s.terms c).result) (O' : sort_of s.terms q ≡ (symbol s.terms c).result) where
  mint_on : (s' : State) (a k : ℕ) → Follows s s' → a < length s.terms.terms → sort_of s.terms a ≡ (symbol s.terms c).result → In k (range (c + 2) (length (symbol s.terms c).params)) → Follows s (mint s' k (a ∷ [])).state
  mint_on s' a k f l o i =
      let (x, y) = range_in (c + 2) (length (symbol s.terms c).params) k i in
      let E = f.extends in
      let R' = follows_ready s s' f R in
      let e : c + 2 + (k - (c + 2)) ≡ k = omega arith in
      let K' = ap (λ (z : Symbol). z.role) (extends_symbol s.terms s'.terms c E) ∙ K in
      let h = extends_length s.terms s'.terms E in
      let role = R'.signed.own_selector c (k - (c + 2)) K' (subst⁻¹ (λ (z : Symbol). k - (c + 2) < length z.params) (extends_symbol s.terms s'.terms c E) (omega arith)) in
      follows_then s s' (mint s' k (a ∷ [])).state f
      (mint_makes s' k (a ∷ []) f.formed (one_below (length s'.terms.terms) a (omega arith))
      (one_arg s'.terms a c k (extends_sort_of s.terms s'.terms a E l ∙ o ∙ ap (λ (z : Symbol). z.result) (sym (extends_symbol s.terms s'.terms c E)))
      (ap (λ (z : ℕ). (symbol s'.terms z).params) (sym e) ∙ (R'.signed.selector (c + 2 + (k - (c + 2))) c (k - (c + 2)) role).1))).follows

  mint_pair : Follows s (foldl (mint_on_both p q) s (dt_selectors s.terms c))
  unfolding mint_on_both dt_selectors
  mint_pair =
      fold_keeps (Follows s) (mint_on_both p q) (range (c + 2) (length (symbol s.terms c).params)) s
      (λ k i s' f. mint_on (mint s' k (p ∷ [])).state q k (mint_on s' p k f L O i) L' O' i) (follows_self s R.formed)

mint_selectors_follows : (s : State) → Ready s → (p q : CtorApp) → IsCtor s.terms p.app p → IsCtor s.terms q.app q → Follows s (mint_selectors s (p, q))
unfolding mint_selectors same_constructor
mint_selectors_follows s R p q P Q = go (eqb p.ctor q.ctor && equal s p.app q.app) refl
  where
    go : (b : Bool) → (eqb p.ctor q.ctor && equal s p.app q.app) ≡ b → Follows s (cond b (foldl (mint_on_both p.app q.app) s (dt_selectors s.terms p.ctor)) s)
    go true e =
        let k = eqb→eq p.ctor q.ctor (T_and (eqb p.ctor q.ctor) (equal s p.app q.app) (true_T (eqb p.ctor q.ctor && equal s p.app q.app) e)).0 in
        mint_pair s R p.app q.app p.ctor P.role (ctor_within s.terms p P) (ctor_within s.terms q Q) (ctor_sort s.terms p p.ctor P refl) (ctor_sort s.terms q p.ctor Q (sym k))
    go false e = follows_self s R.formed

pub injectivity_follows : (s : State) → Ready s → Follows s (instantiate_injectivity_selectors s)
unfolding instantiate_injectivity_selectors
injectivity_follows s R =
    fold_keeps (Follows s) mint_selectors (pairs (ctor_apps s)) s (λ x i s' f. one x s' f (pairs_in (ctor_apps s) x i)) (follows_self s R.formed)
  where
    one : (x : CtorApp × CtorApp) (s' : State) → Follows s s' → In x.0 (ctor_apps s) × In x.1 (ctor_apps s) → Follows s (mint_selectors s' x)
    one x s' f (i, j) =
        follows_then s s' (mint_selectors s' x) f
        (mint_selectors_follows s' (follows_ready s s' f R) x.0 x.1
        (ctor_kept s.terms s'.terms x.0.app x.0 f.extends (ctor_in s x.0 i))
        (ctor_kept s.terms s'.terms x.1.app x.1 f.extends (ctor_in s x.1 j)))

-- ---- exhaustiveness

-- a value of a datatype is built by one of its constructors
datatype_tree : {E : Type 0} (cx : Context) (domain : ℕ → E → Type 0) (v : Value E) (s : ℕ) → HasSort cx domain v s → T (is_datatype_sort cx s) → (c : ℕ) × (vs : Values E) × (v ≡ tree c vs) × T (builds cx s c)
unfolding is_datatype_sort
datatype_tree cx domain (truth b) s h d = absurd (node_apart (sort_node cx s) h d)
datatype_tree cx domain (element e) s h d = absurd (node_other (sort_node cx s) h.0 d)
datatype_tree cx domain (tree c vs) s h d = (c, vs, refl, h.1)

is_ctor_role : (ρ : Role) → T (is_constructor ρ) → ρ ≡ Constructor
unfolding is_constructor
is_ctor_role Constructor t = refl
is_ctor_role (Tester c) t = absurd t
is_ctor_role (Selector c i) t = absurd t
is_ctor_role Function t = absurd t

pub builds_is : (cx : Context) (dt c : ℕ) → T (builds cx dt c) → ((symbol cx c).role ≡ Constructor) × ((symbol cx c).result ≡ dt)
unfolding builds
builds_is cx dt c t =
    let (a, b) = T_and (is_constructor (symbol cx c).role) (eqb (symbol cx c).result dt) t in
    (is_ctor_role (symbol cx c).role a, eqb→eq (symbol cx c).result dt b)

pub builds_kept : (a b : Context) (dt c : ℕ) → Extends a b → T (builds b dt c) → T (builds a dt c)
unfolding builds
builds_kept a b dt c e t = subst (λ (x : Symbol). T (is_constructor x.role && eqb x.result dt)) (extends_symbol a b c e) t

pub datatype_within : (cx : Context) → Signed cx → (t : ℕ) → T (is_datatype_sort cx (sort_of cx t)) → t < length cx.terms
unfolding is_datatype_sort sort_of term no_term result_of is_datatype
datatype_within cx S t d = go (dec_lt t (length cx.terms))
  where
    go : Dec (t < length cx.terms) → t < length cx.terms
    go (yes l) = l
    go (no h) =
        absurd (subst (λ (n : SortNode). T (is_datatype n)) (ap (sort_node cx) (ap (λ (x : Term). result_of cx x.op) (get_or-eq_default cx.terms no_term {n = t} (omega arith))) ∙ S.bool) d)

-- the testers of the constructors so far
record TestersMade (s : State) (t : ℕ) (P : ℕ → Type 0) (ts : Testers) : Type 0 where
  follows : Follows s ts.state
  each : (c : ℕ) → P c → (d : ℕ) × In d ts.atoms × (d < length ts.state.terms.terms) × (term ts.state.terms d ≡ app (Term.Uninterpreted (c + 1)) (t ∷ []))

some_true : {cx : Context} (r : Reading cx) (ts : List ℕ) (t : ℕ) → In t ts → value r t ≡ truth true → SomeTrue r ts
some_true r [] t i e = absurd i
some_true r (u ∷ ts) t (inl q) e = inl (ap (value r) (sym q) ∙ e)
some_true r (u ∷ ts) t (inr i) e = inr (some_true r ts t i e)

module _ (s : State) (R : Ready s) (t : ℕ) (D : T (is_datatype_sort s.terms (sort_of s.terms t))) where
  L : t < length s.terms.terms
  L = datatype_within s.terms R.signed t D

  make_one : (P : ℕ → Type 0) (ts : Testers) (c : ℕ) → T (builds s.terms (sort_of s.terms t) c) → TestersMade s t P ts → TestersMade s t (λ d. P d ⊎ (d ≡ c)) (make_tester t ts c)
  unfolding make_tester dt_tester
  make_one P ts c b G = record {
    follows = follows_then s ts.state m.state G.follows M.follows;
    each = λ d p. found d p;
  }
    where
      m : MadeIn
      m = make_app ts.state (c + 1) (t ∷ [])

      cx : Context
      cx = ts.state.terms

      E : Extends s.terms cx
      E = G.follows.extends

      S : Signed cx
      S = (follows_ready s ts.state G.follows R).signed

      role : (symbol cx c).role ≡ Constructor
      role = ap (λ (z : Symbol). z.role) (extends_symbol s.terms cx c E) ∙ (builds_is s.terms (sort_of s.terms t) c b).0

      sort : sort_of cx t ≡ (symbol cx c).result
      sort = extends_sort_of s.terms cx t E L ∙ sym (builds_is s.terms (sort_of s.terms t) c b).1 ∙ ap (λ (z : Symbol). z.result) (sym (extends_symbol s.terms cx c E))

      M : MakesIn ts.state (Term.Uninterpreted (c + 1)) (t ∷ []) m
      M =
          let l = L in
          let h = extends_length s.terms cx E in
          make_app_makes ts.state (c + 1) (t ∷ []) G.follows.formed (one_below (length cx.terms) t (omega arith))
          (one_arg cx t c (c + 1) sort (S.tester (c + 1) c (S.own_tester c role)).1)

      old : (d : ℕ) → ((a : ℕ) × In a ts.atoms × (a < length cx.terms) × (term cx a ≡ app (Term.Uninterpreted (d + 1)) (t ∷ []))) → (a : ℕ) × In a (ts.atoms ++ (m.id ∷ [])) × (a < length m.state.terms.terms) × (term m.state.terms a ≡ app (Term.Uninterpreted (d + 1)) (t ∷ []))
      old d (a, i, l, e) =
          let h = extends_length cx m.state.terms M.follows.extends in
          (a, in_left a ts.atoms (m.id ∷ []) i, omega arith, extends_term cx m.state.terms a M.follows.extends l ∙ e)

      found : (d : ℕ) → P d ⊎ (d ≡ c) → (a : ℕ) × In a (ts.atoms ++ (m.id ∷ [])) × (a < length m.state.terms.terms) × (term m.state.terms a ≡ app (Term.Uninterpreted (d + 1)) (t ∷ []))
      found d (inl p) = old d (G.each d p)
      found d (inr e) =
          (m.id, in_right m.id ts.atoms (m.id ∷ []) (inl refl), M.within, M.made ∙ ap (λ (n : ℕ). app (Term.Uninterpreted (n + 1)) (t ∷ [])) (sym e))

  make_all : (cs : List ℕ) (P : ℕ → Type 0) (ts : Testers) → ((c : ℕ) → In c cs → T (builds s.terms (sort_of s.terms t) c)) → TestersMade s t P ts → TestersMade s t (λ d. P d ⊎ In d cs) (foldl (make_tester t) ts cs)
  make_all [] P ts b G = record { follows = G.follows; each = λ c p. go c p }
    where
      go : (c : ℕ) → P c ⊎ In c [] → (d : ℕ) × In d ts.atoms × (d < length ts.state.terms.terms) × (term ts.state.terms d ≡ app (Term.Uninterpreted (c + 1)) (t ∷ []))
      go c (inl p) = G.each c p
      go c (inr i) = absurd i
  make_all (x ∷ cs) P ts b G = weaker (make_all cs (λ d. P d ⊎ (d ≡ x)) (make_tester t ts x) (λ c i. b c (inr i)) (make_one P ts x (b x (inl refl)) G))
    where
      out : Testers
      out = foldl (make_tester t) (make_tester t ts x) cs

      regroup : (c : ℕ) → P c ⊎ In c (x ∷ cs) → (P c ⊎ (c ≡ x)) ⊎ In c cs
      regroup c (inl p) = inl (inl p)
      regroup c (inr (inl e)) = inl (inr e)
      regroup c (inr (inr i)) = inr i

      weaker : TestersMade s t (λ d. (P d ⊎ (d ≡ x)) ⊎ In d cs) out → TestersMade s t (λ d. P d ⊎ In d (x ∷ cs)) out
      weaker H = record { follows = H.follows; each = λ c p. H.each c (regroup c p) }

  pub split_on_well : RuledWell s (split_on s t)
  unfolding split_on with_split_done with_dt is_datatype is_datatype_sort
  split_on_well =
      answered_well s out.state (Split out.atoms [] (map (phase s.terms) cs)) G.follows (λ r Lit h. inr (holds r))
    where
      cs : List ℕ
      cs = dt_constructors s.terms (sort_of s.terms t)

      start : Testers
      start = record { atoms = []; state = with_split_done s (insert t s.dt.split_done) }

      out : Testers
      out = foldl (make_tester t) start cs

      G : TestersMade s t (λ d. ⊥ ⊎ In d cs) out
      G = make_all cs (λ d. ⊥) start (λ c i. in_builds s.terms (sort_of s.terms t) c i)
          (record {
            follows = record {
              extends = extends_self s.terms;
              formed = R.formed;
              eq = refl;
              atoms = refl;
              level = refl;
              entries = λ b. refl;
              marks = λ a i. i;
              ascending = λ a. a;
            };
            each = λ c p. absurd p;
          })

      R' : Ready out.state
      R' = follows_ready s out.state G.follows R

      cx : Context
      cx = out.state.terms

      E : Extends s.terms cx
      E = G.follows.extends

      sort : sort_of cx t ≡ sort_of s.terms t
      sort = extends_sort_of s.terms cx t E L

      holds : (r : Reading cx) → SomeTrue r out.atoms
      holds r =
          let l = L in
          let h = extends_length s.terms cx E in
          let o = value_sorted r R'.signed R'.formed t (omega arith) in
          pick (datatype_tree cx r.domain (value r t) (sort_of s.terms t) (subst (λ (n : ℕ). HasSort cx r.domain (value r t) n) sort o) (datatype_kept D))
        where
          datatype_kept : T (is_datatype_sort s.terms (sort_of s.terms t)) → T (is_datatype_sort cx (sort_of s.terms t))
          datatype_kept d = subst⁻¹ (λ (n : SortNode). T (is_datatype n)) (extends_sort_node s.terms cx (sort_of s.terms t) E) d

          pick : ((c : ℕ) × (vs : Values r.Element) × (value r t ≡ tree c vs) × T (builds cx (sort_of s.terms t) c)) → SomeTrue r out.atoms
          pick (c, vs, e, b) =
              let B = builds_kept s.terms cx (sort_of s.terms t) c E b in
              let (d, i, k, q) = G.each c (inr (builds_in s.terms (sort_of s.terms t) c B)) in
              some_true r out.atoms d i
              (test_value r R'.formed d (c + 1) c t [] (made_op cx d (Term.Uninterpreted (c + 1)) (t ∷ []) q) (made_args cx d (Term.Uninterpreted (c + 1)) (t ∷ []) q) (R'.signed.own_tester c (builds_is cx (sort_of s.terms t) c b).0)
              ∙ ap (λ (v : Value r.Element). truth (built_by c v)) e
              ∙ ap truth (built_by_is c c vs refl))

pub exhaustiveness_well : (s : State) → Ready s → RuledWell s (exhaustiveness_split s)
unfolding exhaustiveness_split
exhaustiveness_well s R = go (first (to_split s) (watched_dt_terms s)) refl
  where
    watched : (t : ℕ) → In t (watched_dt_terms s) → T (is_datatype_sort s.terms (sort_of s.terms t))
    watched t i = unfold watched_dt_terms in (keep_in (λ u. is_datatype_sort s.terms (sort_of s.terms u)) s.dt.marks t i).1

    go : (o : Option ℕ) → first (to_split s) (watched_dt_terms s) ≡ o → RuledWell s (split_answer s o)
    go none e = unfold split_answer in pass_well s s (follows_self s R.formed)
    go (some t) e = unfold split_answer in split_on_well s R t (watched t (first_some (to_split s) (watched_dt_terms s) t e).0)
