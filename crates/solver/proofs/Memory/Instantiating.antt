-- Guarded instantiation. The selectors are made one by one: what the definition makes of all of them is what it makes of the rest, from
-- the numbers noted so far on.
use Rattle.shinri_core.proofs.Kit.{inl, inr, ℕ, zero, suc, ◌+◌, ◌-◌, ◌≤◌, ◌<◌, ◌≡◌, refl, sym, ap, ◌∙◌, subst, subst⁻¹, Bool, true, false, cond, List, [], ◌∷◌, ◌++◌, map, foldl, none, some, Option, add-zero, add-one, arith, eqb, length, get_or, take, set, nil≢cons, cons≢nil, tail-eq_of_cons-eq, length-set, length-take-le, true≢false, false≢true}
use lib.Seq.{take-suc-set}
use Rattle.shinri_core.specs.Limits.{max_symbols, max_terms}
use Rattle.shinri_core.specs.Ids.{lit, negate}
use Rattle.shinri_core.specs.Lists.{In, first, range}
use Rattle.shinri_core.specs.Term as Term
use Rattle.shinri_core.specs.Term.{Symbol, Constructor, Tester, Selector, Function}
use Rattle.shinri_core.specs.Context.{TesterApp, symbol, term, children, sort_of, tester_app, tester_by_op, tester_by_role, dt_selectors, terms_fit}
use Rattle.shinri_core.specs.Formed.{TesterIs, Agrees, Signed, Extends}
use Rattle.shinri_core.specs.Memory.Codes.{MkApp, op_meaning, role_meaning, OpBelow, OpAt, RoleAt}
use Rattle.shinri_core.specs.declared.term.Op as GivenOp
use Rattle.shinri_core.specs.declared.term.DtRole as GivenRole
use Rattle.shinri_core.specs.declared.ids.SymbolId.{SymbolId}
use Rattle.shinri_core.specs.Memory.Table.{context, AllBelow, MayEquate}
use Rattle.shinri_core.specs.declared.ids.TermId.{TermId}
use Rattle.shinri_core.specs.declared.ids.Var.{Var}
use Rattle.shinri_core.specs.declared.ids.Lit.{Lit}
use Rattle.shinri_core.proofs.Memory.Counted.{counted_in}
use Rattle.theory.specs.Atom.{Registered, var_of, var_of_atom}
use Rattle.theory.specs.Memory.Answer.{answer_size}
use Rattle.theory.specs.Memory.Registry.{registry_size, vars#, registered_at, atoms, first_var_meaning}
use Rattle.solver.specs.State.{State, MadeIn, ctor_apps, equal, ctor_of_class, mint}
use Rattle.solver.specs.Rules.{Ruled, pass, answered, go_on, then, try_each, instantiate_constructor, instantiate, instantiate_at, Fields, mint_field, mint_fields, make_eq, equate_with, guard, hand_out, hand_out_made}
use Rattle.solver.specs.declared.answer.TCheck as TCheck
use Rattle.std.specs.Prelude.{Option as GivenOption, Some, None, Ok, Err, is_some as given_some}
use Rattle.solver.specs.Records.{is_some}
use Rattle.solver.specs.Memory.Table.{LASTING, registry, is_set, flagged_from, dt_with, state_with, SolverSound}
use Rattle.solver.specs.Memory.Work.{state_at, CheckSound, apps_from, first_in_class, CtorAsked, ctor_meaning, CtorOfClass, CtorOf}
use Rattle.solver.specs.Memory.Answer.{Outcome, Tried, listed, guard_meaning, RuleAnswer}
use Rattle.solver.specs.Memory.Making.{HandsOut, Making, Makeable, Equatable, MadeOutcome, MadeWithin, MakesTerm, Made}
use Rattle.solver.specs.Memory.Instantiation.{mint_over, instantiation, instantiate_term, instantiate_flagged, TermAsked, Coverable, Covers, Guardable, Guards, Instantiable}
use Rattle.solver.proofs.Basics.{none_some, some_is, first_some}
use Rattle.solver.proofs.Terms.{Below, app, extends_self, extends_then, extends_length, extends_symbol, extends_sort_of}
use Rattle.solver.proofs.Signature.{declared_role, constructor_function, selector_function}
use Rattle.solver.proofs.Moves.{mint_makes, one_below, sort_by_op}
use Rattle.solver.proofs.Lemmas.{Selects, selects_kept, selects_more, selects_below, selects_sorts, whole_tail, one_arg}
use Rattle.solver.proofs.Memory.Blocks.{check_asked}
use Rattle.solver.proofs.Memory.Growing.{kind_within, all_below, made_eq, may_equate, only_below}
use Rattle.solver.proofs.Memory.Unfitting.{onward_unfit, fold_onward, mint_field_onward, mint_onward, equate_with_onward, guard_onward, Onward, then_unfit, try_onward, instantiate_at_onward}
use Rattle.solver.proofs.Memory.Flags.{has, flagged_step, flagged_none}
use Rattle.shinri_core.proofs.Lists.{not_true_false}
use Rattle.shinri_core.specs.Memory.Words.{at}

not_made : (y : TermId) → ◌≡◌ {A = Made} (Err (record {})) (Ok y) → ⊥
not_made y q = let z : ◌≡◌ {A = ℕ} 0 1 = cc in omega arith

-- ---- the selectors

-- every number of a list is below n, by member and by place
below_all : (n : ℕ) (xs : List ℕ) → Below n xs → AllBelow n xs
below_all n [] h j l = absurd (omega arith)
below_all n (x ∷ xs) h zero l = h x (inl refl)
below_all n (x ∷ xs) h (suc j) l = below_all n xs (λ y i. h y (inr i)) j (omega arith)

-- the selectors of constructor f below number i are made on a and marked; their numbers are noted
pub record Covering (c₀ e w₀ : List ℕ) (a f n : ℕ) (c w ids : List ℕ) (i : ℕ) : Type 0 where
  pub long : length c ≡ length c₀
  pub work_long : length w ≡ length w₀
  pub room : length ids ≡ 16
  pub within : i ≤ n
  pub making : Making c e w
  pub extends : Extends (context c₀) (context c)
  pub sound : (s : List ℕ) → CheckSound c₀ e s w₀ → CheckSound c e s w
  pub selects : Selects (context c) a (f + 2) (take i ids)
  pub rest : (s : List ℕ) (lv : ℕ → ℕ) →
      mint_fields (state_at c₀ e s w₀ lv) a f
      ≡ foldl (mint_field a) (record { ids = take i ids; state = state_at c e s w lv }) (range (f + 2 + i) (n - i))

pub cover_declared : {c e w : List ℕ} {a f : ℕ} → Coverable c e w a f → f < length (context c).symbols
cover_declared {c} {e} {w} {a} {f} z = declared_role (context c) f (λ q. constructor_function (sym z.ctor ∙ q))

pub cover_small : {c e w : List ℕ} {a f : ℕ} → Coverable c e w a f → f < max_symbols
cover_small z =
    let l = cover_declared z in
    let n = z.making.core.symbol_count in
    let m = z.making.core.symbols_fit in
    omega arith

pub cover_first : {c e w : List ℕ} {a f n : ℕ} {ids : List ℕ} → Coverable c e w a f → n ≡ length (symbol (context c) f).params →
    length ids ≡ 16 → Covering c e w a f n c w ids 0
unfolding mint_fields dt_selectors state_with
cover_first {c} {e} {w} {a} {f} {n} {ids} z N l = record {
  long = refl;
  work_long = refl;
  room = l;
  within = omega arith;
  making = z.making;
  extends = extends_self (context c);
  sound = λ s C. C;
  selects = tt;
  rest = λ s lv.
      let k : n - 0 ≡ length (symbol (context c) f).params = omega arith in
      rw (add-zero (f + 2), k);
}

-- a constructor's symbols in the table of now
module _
    {c₀ e w₀ : List ℕ} {a f n : ℕ} {c w ids : List ℕ} {i : ℕ} (z : Coverable c₀ e w₀ a f)
    (N : n ≡ length (symbol (context c₀) f).params) (m : n ≤ 16) (t : Covering c₀ e w₀ a f n c w ids i)
  where
    same_symbol : symbol (context c) f ≡ symbol (context c₀) f
    same_symbol = extends_symbol (context c₀) (context c) f t.extends

    ctor : (symbol (context c) f).role ≡ Constructor
    ctor = ap (λ (y : Symbol). y.role) same_symbol ∙ z.ctor

    arg_within : a < length (context c).terms
    arg_within = let l = extends_length (context c₀) (context c) t.extends in let k = z.within in omega arith

    arg_sort : sort_of (context c) a ≡ (symbol (context c) f).result
    arg_sort =
        extends_sort_of (context c₀) (context c) a t.extends z.within ∙ z.agree ∙ ap (λ (y : Symbol). y.result) (sym same_symbol)

    fields : n ≡ length (symbol (context c) f).params
    fields = N ∙ ap (λ (y : Symbol). length y.params) (sym same_symbol)

    module _ (h : i < n) where
      selector : (symbol (context c) (f + 2 + i)).role ≡ Selector f i
      selector = let k = fields in t.making.signed.own_selector f i ctor (omega arith)

      agrees : map (sort_of (context c)) (a ∷ []) ≡ (symbol (context c) (f + 2 + i)).params
      agrees = one_arg (context c) a f (f + 2 + i) arg_sort (t.making.signed.selector (f + 2 + i) f i selector).1

      pub field_makeable : Makeable c e w (f + 2 + i) (a ∷ [])
      field_makeable = record {
        making = t.making;
        declared = declared_role (context c) (f + 2 + i) (λ q. selector_function f i (sym selector ∙ q));
        terms = only_below (length (context c).terms) a arg_within;
        agree = agrees;
      }

      pub field_role : (symbol (context c) (f + 2 + i)).role ≡ Function → ⊥
      field_role q = selector_function f i (sym selector ∙ q)

      -- field i, then the fields behind it
      fields_left : range (f + 2 + i) (n - i) ≡ (f + 2 + i) ∷ range (f + 2 + (i + 1)) (n - (i + 1))
      unfolding range
      fields_left =
          let k : n - i ≡ suc (n - (i + 1)) = omega arith in
          let j : suc (f + 2 + i) ≡ f + 2 + (i + 1) = omega arith in
          rw (k, j)

      module _ {P : Type 0} {r : Made} {c' w' : List ℕ} (M : MakesTerm (λ s. mint s (f + 2 + i) (a ∷ [])) P c e w r c' w') where
        -- what was made, in the definition
        made_as : {q : Made} → r ≡ q → (s : List ℕ) (lv : ℕ → ℕ) →
            MadeOutcome q (mint (state_at c e s w lv) (f + 2 + i) (a ∷ [])) (state_at c' e s w' lv)
        made_as k s lv =
            subst (λ (y : Made). MadeOutcome y (mint (state_at c e s w lv) (f + 2 + i) (a ∷ [])) (state_at c' e s w' lv)) k
            (M.outcome s lv)

        made_term : {y : TermId} → r ≡ Ok y → term (context c') y.0 ≡ app (Term.Uninterpreted (f + 2 + i)) (a ∷ [])
        unfolding state_with
        made_term k =
            let u = state_at c e [] w (λ j. j) in
            let made = mint_makes u (f + 2 + i) (a ∷ []) t.making.formed (one_below (length (context c).terms) a arg_within) agrees in
            subst (λ (x : MadeIn). term x.state.terms x.id ≡ app (Term.Uninterpreted (f + 2 + i)) (a ∷ []))
            (made_as k [] (λ j. j)) made.made

        pub cover_next : {y : TermId} → r ≡ Ok y → length c' ≡ length c → length w' ≡ length w →
            Covering c₀ e w₀ a f n c' w' (set ids i y.0) (i + 1)
        unfolding mint_field
        cover_next {y} k l v =
            let room = t.room in
            let d : i + 1 ≡ suc i = omega arith in
            let q : take (i + 1) (set ids i y.0) ≡ take i ids ++ (y.0 ∷ []) = rw d (take-suc-set ids i y.0 (omega arith)) in
            let count : length (take i ids) ≡ i = length-take-le i ids (omega arith) in
            let at : f + 2 + length (take i ids) ≡ f + 2 + i = omega arith in
            record {
              long = l ∙ t.long;
              work_long = v ∙ t.work_long;
              room = length-set ids i y.0 ∙ room;
              within = omega arith;
              making = M.making;
              extends = extends_then (context c₀) (context c) (context c') t.extends M.extends;
              sound = λ s C. M.sound s (t.sound s C);
              selects = rw q (selects_more (context c') a (f + 2) (take i ids) y.0
                  (selects_kept (context c) (context c') a (f + 2) (take i ids) M.extends t.selects)
                  (subst (λ (x : Made). MadeWithin x (length (context c').terms)) k M.within)
                  (made_term k ∙ ap (λ (j : ℕ). app (Term.Uninterpreted j) (a ∷ [])) (sym at)));
              rest = λ s lv.
                  t.rest s lv
                  ∙ ap (foldl (mint_field a) (record { ids = take i ids; state = state_at c e s w lv })) fields_left
                  ∙ ap (λ (x : MadeIn). foldl (mint_field a) (record { ids = take i ids ++ (x.id ∷ []); state = x.state })
                  (range (f + 2 + (i + 1)) (n - (i + 1)))) (made_as k s lv)
                  ∙ ap (λ (is : List ℕ). foldl (mint_field a) (record { ids = is; state = state_at c' e s w' lv })
                  (range (f + 2 + (i + 1)) (n - (i + 1)))) (sym q);
            }

        -- the field does not fit, so nothing that follows does
        unmade : r ≡ Err (record {}) → MakesTerm (mint_over a f) ⊥ c₀ e w₀ (Err (record {})) c' w'
        unmade k = record {
          sound = λ s C. M.sound s (t.sound s C);
          making = M.making;
          extends = extends_then (context c₀) (context c) (context c') t.extends M.extends;
          within = tt;
          outcome = λ s lv.
              let at_i : Fields = record { ids = take i ids; state = state_at c e s w lv } in
              let after = mint_field a at_i (f + 2 + i) in
              let left = range (f + 2 + (i + 1)) (n - (i + 1)) in
              subst⁻¹ (λ (fs : Fields). terms_fit (mint fs.state f fs.ids).state.terms ≡ false)
              (t.rest s lv ∙ ap (foldl (mint_field a) at_i) fields_left)
              (onward_unfit (foldl (mint_field a) after left).state
              (mint (foldl (mint_field a) after left).state f (foldl (mint_field a) after left).ids).state
              (mint_onward (foldl (mint_field a) after left).state f (foldl (mint_field a) after left).ids)
              (onward_unfit after.state (foldl (mint_field a) after left).state
              (fold_onward (λ (fs : Fields). fs.state) (mint_field a) (mint_field_onward a) left after)
              (lacks s lv)));
          chain = λ x. absurd x;
        }
          where
            lacks : (s : List ℕ) (lv : ℕ → ℕ) →
                terms_fit (mint_field a (record { ids = take i ids; state = state_at c e s w lv }) (f + 2 + i)).state.terms ≡ false
            lacks s lv = unfold mint_field in made_as k s lv

        pub cover_lacks : r ≡ Err (record {}) → Covers c₀ e w₀ a f (Err (record {})) c' w'
        cover_lacks k = record {
          makes = unmade k;
          result = λ y q. absurd (not_made y q);
        }

    -- ---- the constructor over them

    module _ (h : n ≤ i) where
      all : take n ids ≡ take i ids
      all = let k = t.within in let q : n ≡ i = omega arith in ap (λ (j : ℕ). take j ids) q

      pub over_makeable : Makeable c e w f (take n ids)
      over_makeable = record {
        making = t.making;
        declared = declared_role (context c) f (λ q. constructor_function (sym ctor ∙ q));
        terms = below_all (length (context c).terms) (take n ids)
            (rw all (selects_below (context c) a (f + 2) (take i ids) t.selects));
        agree = selects_sorts (context c) t.making.signed f a ctor (take n ids) (symbol (context c) f).params 0 (count ∙ fields)
            (whole_tail (context c) t.making.signed f a ctor) (rw (add-zero (f + 2), all) t.selects);
      }
        where
          count : length (take n ids) ≡ n
          count = let k = t.room in length-take-le n ids (omega arith)

      pub over_role : (symbol (context c) f).role ≡ Function → ⊥
      over_role q = constructor_function (sym ctor ∙ q)

      module _ {P : Type 0} {r : Made} {c' w' : List ℕ} (M : MakesTerm (λ s. mint s f (take n ids)) P c e w r c' w') where
        over_made : MakesTerm (mint_over a f) ⊥ c₀ e w₀ r c' w'
        unfolding range
        over_made = record {
          sound = λ s C. M.sound s (t.sound s C);
          making = M.making;
          extends = extends_then (context c₀) (context c) (context c') t.extends M.extends;
          within = M.within;
          outcome = λ s lv.
              let k = t.within in
              let q : n - i ≡ 0 = omega arith in
              subst⁻¹ (λ (fs : Fields). MadeOutcome r (mint fs.state f fs.ids) (state_at c' e s w' lv))
              (t.rest s lv
              ∙ ap (λ (j : ℕ). foldl (mint_field a) (record { ids = take i ids; state = state_at c e s w lv }) (range (f + 2 + i) j)) q
              ∙ ap (λ (is : List ℕ). record { ids = is; state = state_at c e s w lv }) (sym all))
              (M.outcome s lv);
          chain = λ x. absurd x;
        }

        over_term : (y : TermId) → r ≡ Ok y → term (context c') y.0 ≡ app (Term.Uninterpreted f) (take n ids)
        unfolding state_with
        over_term y k =
            let u = state_at c e [] w (λ j. j) in
            let made = mint_makes u f (take n ids) t.making.formed
            (all_below (length (context c).terms) (take n ids) over_makeable.terms) over_makeable.agree in
            subst (λ (x : MadeIn). term x.state.terms x.id ≡ app (Term.Uninterpreted f) (take n ids))
            (subst (λ (x : Made). MadeOutcome x (mint u f (take n ids)) (state_at c' e [] w' (λ j. j))) k (M.outcome [] (λ j. j)))
            made.made

        pub cover_done : Covers c₀ e w₀ a f r c' w'
        cover_done = record {
          makes = over_made;
          result = λ y k. sort_by_op (context c') y.0 f (ap (λ (x : Term.Term). x.op) (over_term y k));
        }

-- ---- the guard

pub registry_length : {s : List ℕ} → SolverSound s → registry_size ≡ length (registry s)
registry_length {s} z = let l = z.long in sym (length-take-le registry_size s (omega arith))

var_in : (rs : List Registered) (x v : ℕ) → var_of_atom rs x ≡ some v → (r : Registered) × In r rs × (r.var ≡ v)
unfolding var_of_atom var_of
var_in rs x v e = go (first (λ (r : Registered). eqb r.atom x) rs) refl e
  where
    go : (o : Option Registered) → first (λ (r : Registered). eqb r.atom x) rs ≡ o → var_of o ≡ some v →
        (r : Registered) × In r rs × (r.var ≡ v)
    go none p q = absurd (none_some v q)
    go (some r) p q = (r, (first_some (λ (y : Registered). eqb y.atom x) rs r p).0, some_is r.var v q)

module _
    {s : List ℕ} {x y : ℕ} {o : List ℕ} (z : Guardable s x y o) {f : GivenOption Var}
    (F : first_var_meaning f ≡ var_of_atom (atoms (registry s)) x)
  where
    -- a registered variable is small
    pub var_small : {v : Var} → f ≡ Some v → v.0 < 2147483648
    unfolding first_var_meaning atoms
    var_small {v} k =
        let (r, i, e) = var_in (atoms (registry s)) x v.0 (sym F ∙ ap first_var_meaning k) in
        let (j, l, q) = counted_in (registered_at (registry s)) (vars# (registry s)) r i in
        let b = z.solver.atoms.vars j l in
        let d = ap (λ (a : Registered). a.var) q in
        omega arith

    pub guard_none : {u : List ℕ} → f ≡ None → Guards s x y TCheck.TheVariants.Sat s u
    unfolding first_var_meaning guard
    guard_none k = record {
      sound = λ c e w C. C;
      outcome = λ c e w lv.
          ap (λ (v : Option ℕ). guard v (record { id = y; state = state_at c e s w lv })) (sym F ∙ ap first_var_meaning k);
      readable = tt;
      unchanged = λ n. refl;
    }

    pub guard_some : {v : Var} {l k : Lit} {r : TCheck.TCheck} {s' u : List ℕ} → f ≡ Some v → k.0 ≡ lit v.0 true →
        l.0 ≡ negate k.0 → HandsOut y (Some l) s r s' u → Guards s x y r s' u
    unfolding first_var_meaning guard hand_out_made guard_meaning listed
    guard_some {v} {l} {k} {r} {s'} {u} i p q H = record {
      sound = H.sound;
      outcome = λ c e w lv.
          subst⁻¹ (λ (a : Option ℕ). Outcome (Ok r) (guard a (record { id = y; state = state_at c e s w lv })) (state_at c e s' w lv) u)
          (sym F ∙ ap first_var_meaning i)
          (subst (λ (a : ℕ). Outcome (Ok r) (hand_out y (a ∷ []) (state_at c e s w lv)) (state_at c e s' w lv) u) (q ∙ ap negate p)
          (H.outcome c e w lv));
      readable = H.readable;
      unchanged = H.unchanged;
    }

-- ---- a term instantiated

module _ {c e s w : List ℕ} {x f a : ℕ} {o : List ℕ} (z : Instantiable c e s w x f a o) where
  pub coverable : Coverable c e w a f
  coverable = record {
    making = record {
      core = z.check.state.core;
      formed = z.check.state.formed;
      signed = z.check.state.signed;
      engine = z.check.state.engine;
      work = z.check.work;
    };
    ctor = z.ctor;
    within = z.within;
    agree = z.agree;
  }

  module _ {r : Made} {c' w' : List ℕ} (K : Covers c e w a f r c' w') where
    -- the application, in the definition
    over_as : {q : Made} → r ≡ q → (lv : ℕ → ℕ) → MadeOutcome q (mint_over a f (state_at c e s w lv)) (state_at c' e s w' lv)
    over_as k lv =
        subst (λ (y : Made). MadeOutcome y (mint_over a f (state_at c e s w lv)) (state_at c' e s w' lv)) k (K.makes.outcome s lv)

    -- it does not fit
    pub over_lacks : {u : List ℕ} → r ≡ Err (record {}) → Tried (instantiation x f a) c e s w (Err (record {})) c' s w' u
    over_lacks k = record {
      sound = K.makes.sound s z.check;
      extends = K.makes.extends;
      outcome = λ lv.
          let m = mint_over a f (state_at c e s w lv) in
          let v = var_of_atom (state_at c e s w lv).atoms x in
          onward_unfit (equate_with a m).state (guard v (equate_with a m)).state (guard_onward v (equate_with a m))
          (onward_unfit m.state (equate_with a m).state (equate_with_onward a m) (over_as k lv));
      unchanged = λ n. refl;
      readable = tt;
    }

    module _ {y : TermId} (k : r ≡ Ok y) where
      pub equatable : Equatable c' e w' a y.0
      equatable =
          let l = extends_length (context c) (context c') K.makes.extends in
          let h = z.within in
          record {
            making = K.makes.making;
            first = omega arith;
            second = subst (λ (q : Made). MadeWithin q (length (context c').terms)) k K.makes.within;
            agree =
                extends_sort_of (context c) (context c') a K.makes.extends z.within
                ∙ z.agree
                ∙ ap (λ (q : Symbol). q.result) (sym (extends_symbol (context c) (context c') f K.makes.extends))
                ∙ sym (K.result y k);
          }

      pub may_equate_over : MayEquate c' a y.0
      may_equate_over = may_equate equatable

      module _ {q : Made} {c'' : List ℕ} (E : MkApp c' Term.Eq (a ∷ y.0 ∷ []) q c'') where
        M : MakesTerm (λ u. make_eq u a y.0) (Unit {0}) c' e w' q c'' w'
        M = made_eq equatable E

        -- the equation, in the definition
        eq_as : {p : Made} → q ≡ p → (lv : ℕ → ℕ) →
            MadeOutcome p (equate_with a (mint_over a f (state_at c e s w lv))) (state_at c'' e s w' lv)
        unfolding equate_with
        eq_as {p} i lv =
            subst⁻¹ (λ (m : MadeIn). MadeOutcome p (make_eq m.state a m.id) (state_at c'' e s w' lv)) (over_as k lv)
            (subst (λ (v : Made). MadeOutcome v (make_eq (state_at c' e s w' lv) a y.0) (state_at c'' e s w' lv)) i
            (M.outcome s lv))

        both : Extends (context c) (context c'')
        both = extends_then (context c) (context c') (context c'') K.makes.extends M.extends

        -- it does not fit
        pub eq_lacks : {u : List ℕ} → q ≡ Err (record {}) →
            Tried (instantiation x f a) c e s w (Err (record {})) c'' s w' u
        eq_lacks i = record {
          sound = M.sound s (K.makes.sound s z.check);
          extends = both;
          outcome = λ lv.
              let m = equate_with a (mint_over a f (state_at c e s w lv)) in
              let v = var_of_atom (state_at c e s w lv).atoms x in
              onward_unfit m.state (guard v m).state (guard_onward v m) (eq_as i lv);
          unchanged = λ n. refl;
          readable = tt;
        }

        module _ {v : TermId} (i : q ≡ Ok v) where
          pub guardable : Guardable s x v.0 o
          guardable =
              let l = subst (λ (p : Made). MadeWithin p (length (context c'').terms)) i M.within in
              let n = M.making.core.term_count in
              let m = M.making.core.terms_fit in
              record { solver = z.check.state.solver; atom = z.atom; lemma = omega arith; long = z.long }

          pub guarded : {g : TCheck.TCheck} {s' u : List ℕ} → Guards s x v.0 g s' u → Tried (instantiation x f a) c e s w (Ok g) c'' s' w' u
          unfolding state_with
          guarded {g} {s'} {u} G = record {
            sound = G.sound c'' e w' (M.sound s (K.makes.sound s z.check));
            extends = both;
            outcome = λ lv.
                subst⁻¹ (λ (m : MadeIn). Outcome (Ok g) (guard (var_of_atom (atoms (registry s)) x) m) (state_at c'' e s' w' lv) u) (eq_as i lv)
                (G.outcome c'' e w' lv);
            unchanged = λ q. G.unchanged (λ d. q (ap Ok d));
            readable = G.readable;
          }

-- ---- a tester application

-- the rule at a term that is no tester application, or whose class has an application
module _ {c e s w : List ℕ} (C : CheckSound c e s w) (x : ℕ) where
  pass_term : {u : List ℕ} → ((lv : ℕ → ℕ) → instantiate_term x (state_at c e s w lv) ≡ pass (state_at c e s w lv)) →
      Tried (instantiate_term x) c e s w (Ok TCheck.TheVariants.Sat) c s w u
  pass_term h = record { sound = C; extends = extends_self (context c); outcome = h; unchanged = λ n. refl; readable = tt }

  no_tester : {u : List ℕ} → tester_app (context c) x ≡ none → Tried (instantiate_term x) c e s w (Ok TCheck.TheVariants.Sat) c s w u
  unfolding instantiate_at state_with
  no_tester q = pass_term (λ lv. ap (λ (o : Option TesterApp). instantiate_at o (state_at c e s w lv)) q)

  module _ {r : GivenOp.Op} (O : OpAt c x r) where
    pub at_equation : {u : List ℕ} → r ≡ GivenOp.TheVariants.Eq → Tried (instantiate_term x) c e s w (Ok TCheck.TheVariants.Sat) c s w u
    unfolding tester_app tester_by_op op_meaning
    at_equation q = no_tester (ap (λ (o : Term.Op). tester_by_op (context c) x o (children (context c) x)) (sym O.is ∙ ap op_meaning q))

    module _ {g : SymbolId} (q : r ≡ GivenOp.TheVariants.Uninterpreted g) where
      applied : (term (context c) x).op ≡ Term.Uninterpreted g.0
      unfolding op_meaning
      applied = sym O.is ∙ ap op_meaning q

      pub symbol_declared : g.0 < length (context c).symbols
      unfolding OpBelow
      symbol_declared = subst (OpBelow (length (context c).symbols)) q O.declared

      -- the tester application by the role
      by_role : (ρ : Term.Role) → (symbol (context c) g.0).role ≡ ρ →
          tester_app (context c) x ≡ tester_by_role x g.0 ρ (children (context c) x)
      unfolding tester_app tester_by_op
      by_role ρ p = rw (applied, p)

      module _ {d : GivenRole.DtRole} (R : RoleAt c g.0 d) where
        pub at_other : {u : List ℕ} → ((f : SymbolId) → d ≡ GivenRole.TheVariants.Tester f → ⊥) →
            Tried (instantiate_term x) c e s w (Ok TCheck.TheVariants.Sat) c s w u
        unfolding role_meaning tester_by_role
        at_other n = no_tester (by_role (role_meaning d) (sym R.is) ∙ go d n)
          where
            go : (z : GivenRole.DtRole) → ((f : SymbolId) → z ≡ GivenRole.TheVariants.Tester f → ⊥) →
                tester_by_role x g.0 (role_meaning z) (children (context c) x) ≡ none
            go GivenRole.TheVariants.Constructor h = refl
            go (GivenRole.TheVariants.Tester f) h = absurd (h f refl)
            go (GivenRole.TheVariants.Selector f i) h = refl
            go GivenRole.TheVariants.Function h = refl

        module _
            {f : SymbolId} (p : d ≡ GivenRole.TheVariants.Tester f) (l : x < length (context c).terms) {ch : List ℕ}
            (H : ch ≡ children (context c) x)
          where
            role : (symbol (context c) g.0).role ≡ Tester f.0
            unfolding role_meaning
            role = sym R.is ∙ ap role_meaning p

            signed : Signed (context c)
            signed = C.state.signed

            is_tester : TesterIs (symbol (context c) g.0) (symbol (context c) f.0)
            is_tester = signed.tester g.0 f.0 role

            -- the sorts of its arguments: one, the constructor's
            sorts : map (sort_of (context c)) ch ≡ (symbol (context c) f.0).result ∷ []
            sorts =
                ap (map (sort_of (context c))) H
                ∙ subst (λ (o : Term.Op). Agrees (context c) o (children (context c) x)) applied (C.state.formed.agrees x l)
                ∙ is_tester.1

            one : (ys : List ℕ) → map (sort_of (context c)) ys ≡ (symbol (context c) f.0).result ∷ [] →
                (ys ≡ get_or ys 0 0 ∷ []) × (sort_of (context c) (get_or ys 0 0) ≡ (symbol (context c) f.0).result)
            one [] k = absurd (nil≢cons k)
            one (y ∷ []) k = (refl, cc)
            one (y ∷ y' ∷ ys) k = absurd (cons≢nil (tail-eq_of_cons-eq k))

            only : ch ≡ get_or ch 0 0 ∷ []
            only = (one ch sorts).0

            pub has_arg : 0 < length ch
            has_arg = rw only (omega arith)

            found : tester_app (context c) x ≡ some (record { app = x; tester = g.0; ctor = f.0; arg = get_or ch 0 0 })
            unfolding tester_by_role
            found = by_role (Tester f.0) role ∙ ap (tester_by_role x g.0 (Tester f.0)) (sym H ∙ only)

            arg_below : get_or ch 0 0 < length (context c).terms
            arg_below =
                let i = subst (λ (ys : List ℕ). In (get_or ch 0 0) ys) (sym only ∙ H) (inl refl) in
                let h = C.state.formed.lower x l (get_or ch 0 0) i in
                omega arith

            pub class_asked : CtorAsked c e w (get_or ch 0 0)
            class_asked =
                let h = arg_below in
                let n = C.state.core.term_count in
                let m = C.state.core.terms_fit in
                check_asked C (omega arith)

            pub instantiable : {u : List ℕ} → answer_size ≤ length u → Instantiable c e s w x f.0 (get_or ch 0 0) u
            instantiable h =
                let n = C.state.core.term_count in
                let m = C.state.core.terms_fit in
                record {
                  check = C;
                  atom = omega arith;
                  ctor = is_tester.0;
                  within = arg_below;
                  agree = (one ch sorts).1;
                  long = h;
                }

            -- the rule at the term
            term_rule : (lv : ℕ → ℕ) (a : CtorOf) → CtorOfClass c e w (get_or ch 0 0) a →
                instantiate_term x (state_at c e s w lv)
                ≡ cond (is_some (ctor_meaning (context c) a)) (pass (state_at c e s w lv))
                (instantiation x f.0 (get_or ch 0 0) (state_at c e s w lv))
            unfolding instantiate_at instantiate ctor_of_class ctor_apps equal state_with dt_with first_in_class apps_from
            term_rule lv a K = rw (found, ← K.is)

            pub at_determined : {u : List ℕ} (a : CtorOf) → CtorOfClass c e w (get_or ch 0 0) a → given_some a ≡ true →
                Tried (instantiate_term x) c e s w (Ok TCheck.TheVariants.Sat) c s w u
            unfolding ctor_meaning is_some
            at_determined None K q = absurd (false≢true q)
            at_determined (Some (h, y)) K q = pass_term (λ lv. term_rule lv (Some (h, y)) K)

            pub at_open : (a : CtorOf) {r : RuleAnswer} {c' s' w' u : List ℕ} → CtorOfClass c e w (get_or ch 0 0) a →
                given_some a ≡ false → Tried (instantiation x f.0 (get_or ch 0 0)) c e s w r c' s' w' u →
                Tried (instantiate_term x) c e s w r c' s' w' u
            unfolding ctor_meaning is_some
            at_open (Some a) K q T = absurd (true≢false q)
            at_open None {r} {c'} {s'} {w'} {u} K q T = record {
              sound = T.sound;
              extends = T.extends;
              outcome = λ lv. subst⁻¹ (λ (z : Ruled). Outcome r z (state_at c' e s' w' lv) u) (term_rule lv None K) (T.outcome lv);
              unchanged = T.unchanged;
              readable = T.readable;
            }

-- ---- the lasting record

-- a term by its flag
module _ {c e s w : List ℕ} {x : ℕ} {o : List ℕ} (z : TermAsked c e s w x o) {k : ℕ} (i : k ≡ at s LASTING x) where
  pub not_lasting : {u : List ℕ} → k ≡ 0 → Tried (instantiate_flagged s x) c e s w (Ok TCheck.TheVariants.Sat) c s w u
  unfolding is_set
  not_lasting q = record {
    sound = z.check;
    extends = extends_self (context c);
    outcome = λ lv. rw (sym i ∙ q);
    unchanged = λ n. refl;
    readable = tt;
  }

  pub lasting : {r : RuleAnswer} {c' s' w' u : List ℕ} → (k ≡ 0 → ⊥) → Tried (instantiate_term x) c e s w r c' s' w' u →
      Tried (instantiate_flagged s x) c e s w r c' s' w' u
  unfolding is_set
  lasting {r} {c'} {s'} {w'} {u} n T = record {
    sound = T.sound;
    extends = T.extends;
    outcome = λ lv. go lv (at s LASTING x) (λ q. n (i ∙ q));
    unchanged = T.unchanged;
    readable = T.readable;
  }
    where
      go : (lv : ℕ → ℕ) (j : ℕ) → (j ≡ 0 → ⊥) →
          Outcome r (cond (is_set j) (instantiate_term x (state_at c e s w lv)) (pass (state_at c e s w lv))) (state_at c' e s' w' lv) u
      go lv zero m = absurd (m refl)
      go lv (suc j) m = T.outcome lv

-- an answer stays, whatever comes behind it
answer_then : (r : RuleAnswer) (a : Ruled) (next : State → Ruled) (u : State) (o : List ℕ) → (r ≡ Ok TCheck.TheVariants.Sat → ⊥) →
    ((v : State) → Onward v (next v).state) → Outcome r a u o → Outcome r (then a next) u o
unfolding then answered go_on
answer_then (Ok TCheck.TheVariants.Sat) a next u o n h p = absurd (n refl)
answer_then (Ok TCheck.TheVariants.Conflict) a next u o n h p = ap (λ (z : Ruled). then z next) p
answer_then (Ok TCheck.TheVariants.Split) a next u o n h p = ap (λ (z : Ruled). then z next) p
answer_then (Ok TCheck.TheVariants.Unknown) a next u o n h p = ap (λ (z : Ruled). then z next) p
answer_then (Err d) a next u o n h p = then_unfit a next h p

-- the atoms of the lasting record from x on
abbrev from_atom : List ℕ → ℕ → State → Ruled
from_atom s x u = try_each (λ t v. instantiate_at (tester_app v.terms t) v) (flagged_from s LASTING x) u

-- x, if it stands there, then those behind it
from_step : (s : List ℕ) (x : ℕ) (u : State) → x < max_terms → from_atom s x u ≡ then (instantiate_flagged s x u) (from_atom s (suc x))
unfolding try_each
from_step s x u l = rw (flagged_step s LASTING x l) (go (has s LASTING x))
  where
    go : (b : Bool) → try_each (λ t v. instantiate_at (tester_app v.terms t) v)
        (cond b (x ∷ flagged_from s LASTING (suc x)) (flagged_from s LASTING (suc x))) u
        ≡ then (cond b (instantiate_term x u) (pass u)) (from_atom s (suc x))
    go true = refl
    go false = unfold then pass go_on in refl

-- The atoms below x were passed: what the whole makes of the tables at the start, the rest makes of those of now.
pub record Instantiating (c₀ e s₀ w₀ o₀ : List ℕ) (n : ℕ) (c s w o : List ℕ) (x : ℕ) : Type 0 where
  pub long : length c ≡ length c₀
  pub work_long : length w ≡ length w₀
  pub out_long : length o ≡ length o₀
  pub same : s ≡ s₀
  pub within : x ≤ n
  pub sound : CheckSound c e s w
  pub extends : Extends (context c₀) (context c)
  pub rest : (lv : ℕ → ℕ) → instantiate_constructor (state_at c₀ e s₀ w₀ lv) ≡ from_atom s₀ x (state_at c e s w lv)

pub go_first : {c e s w : List ℕ} (o : List ℕ) (n : ℕ) → CheckSound c e s w → Instantiating c e s w o n c s w o 0
unfolding instantiate_constructor state_with dt_with
go_first {c} o n C = record {
  long = refl;
  work_long = refl;
  out_long = refl;
  same = refl;
  within = omega arith;
  sound = C;
  extends = extends_self (context c);
  rest = λ lv. refl;
}

module _
    {c₀ e s₀ w₀ o₀ : List ℕ} {n : ℕ} {c s w o : List ℕ} {x : ℕ} (t : Instantiating c₀ e s₀ w₀ o₀ n c s w o x)
    (N : n ≡ length (context c₀).terms) (m : n ≤ max_terms)
  where
    module _ (h : x < n) where
      pub go_asked : answer_size ≤ length o₀ → TermAsked c e s w x o
      go_asked l =
          let k = extends_length (context c₀) (context c) t.extends in
          let j = t.out_long in
          record { check = t.sound; within = omega arith; long = omega arith }

      module _ {r : RuleAnswer} {c' s' w' o' : List ℕ} (K : Tried (instantiate_flagged s x) c e s w r c' s' w' o') where
        onward : Extends (context c₀) (context c')
        onward = extends_then (context c₀) (context c) (context c') t.extends K.extends

        -- the step and the rest
        whole : (lv : ℕ → ℕ) → instantiate_constructor (state_at c₀ e s₀ w₀ lv)
            ≡ then (instantiate_flagged s x (state_at c e s w lv)) (from_atom s₀ (suc x))
        whole lv =
            t.rest lv
            ∙ from_step s₀ x (state_at c e s w lv) (omega arith)
            ∙ ap (λ (y : List ℕ). then (instantiate_flagged y x (state_at c e s w lv)) (from_atom s₀ (suc x))) (sym t.same)

        pub go_next : r ≡ Ok TCheck.TheVariants.Sat → length c' ≡ length c → length w' ≡ length w → length o' ≡ length o →
            Instantiating c₀ e s₀ w₀ o₀ n c' s' w' o' (x + 1)
        go_next q a b d = rw add-one (record {
          long = a ∙ t.long;
          work_long = b ∙ t.work_long;
          out_long = d ∙ t.out_long;
          same = K.unchanged (λ k. sat_split (sym q ∙ k)) ∙ t.same;
          within = omega arith;
          sound = K.sound;
          extends = onward;
          rest = λ lv.
              whole lv
              ∙ pass_on (instantiate_flagged s x (state_at c e s w lv)) (state_at c' e s' w' lv)
              (subst (λ (y : RuleAnswer). Outcome y (instantiate_flagged s x (state_at c e s w lv)) (state_at c' e s' w' lv) o') q
              (K.outcome lv));
        })
          where
            sat_split : ◌≡◌ {A = RuleAnswer} (Ok TCheck.TheVariants.Sat) (Ok TCheck.TheVariants.Split) → ⊥
            sat_split k = let j : ◌≡◌ {A = ℕ} 0 1 = cc in omega arith

            pass_on : (a : Ruled) (u : State) → a ≡ pass u → then a (from_atom s₀ (suc x)) ≡ from_atom s₀ (suc x) u
            pass_on a u p = unfold then pass go_on in ap (λ (y : Ruled). then y (from_atom s₀ (suc x))) p

        pub go_answer : (r ≡ Ok TCheck.TheVariants.Sat → ⊥) → Tried instantiate_constructor c₀ e s₀ w₀ r c' s' w' o'
        go_answer q = record {
          sound = K.sound;
          extends = onward;
          outcome = λ lv.
              subst⁻¹ (λ (y : Ruled). Outcome r y (state_at c' e s' w' lv) o') (whole lv)
              (answer_then r (instantiate_flagged s x (state_at c e s w lv)) (from_atom s₀ (suc x)) (state_at c' e s' w' lv) o' q
              (try_onward (λ y v. instantiate_at (tester_app v.terms y) v) (λ y v. instantiate_at_onward (tester_app v.terms y) v)
              (flagged_from s₀ LASTING (suc x))) (K.outcome lv));
          unchanged = λ k. K.unchanged k ∙ t.same;
          readable = K.readable;
        }

    pub go_done : CheckSound c₀ e s₀ w₀ → n ≤ x → Tried instantiate_constructor c₀ e s₀ w₀ (Ok TCheck.TheVariants.Sat) c s w o
    unfolding try_each
    go_done C h = record {
      sound = t.sound;
      extends = t.extends;
      outcome = λ lv.
          t.rest lv
          ∙ ap (λ (ys : List ℕ). try_each (λ y v. instantiate_at (tester_app v.terms y) v) ys (state_at c e s w lv)) none_left;
      unchanged = λ k. t.same;
      readable = tt;
    }
      where
        -- the atoms are terms of the start
        none_left : flagged_from s₀ LASTING x ≡ []
        none_left =
            flagged_none s₀ LASTING x (λ y l g. not_true_false (has s₀ LASTING y)
            (λ q. let k = kind_within (context c₀) y 3 (C.state.lasting y g q) in omega arith))
