-- Where no constructor application is marked, no class has a constructor: the clashes of constructors and testers, injectivity, collapse
-- and the tester lemma pass, and the ring's walk enters nothing. Where no tester was asserted, instantiation passes too. Only the unequal
-- terms and the watched terms are left to ask.
use Rattle.shinri_core.proofs.Kit.{ℕ, suc, ◌≡◌, refl, ap, ◌∙◌, List, [], ◌∷◌, foldl, Option, none, some, length}
use Rattle.shinri_core.specs.Lists.{first, pairs}
use Rattle.shinri_core.specs.Context.{CtorApp, SelApp, TesterApp, tester_app}
use Rattle.solver.specs.State.{State, AssertedAtom, ctor_apps, sel_apps, testers, ctor_of_class, equal, watched_dt_terms}
use Rattle.solver.specs.Records.{disagrees, tester_conflict, is_own, own_app, denies, negative_conflict}
use Rattle.solver.specs.Rules.{Ruled, pass, go_on, then, try_each, clash, clash_answer, constructor_clash, conflict_of, tester_clash_at, tester_clash, negative_clash_at, negative_clash, disequality_clash, mint_selectors, instantiate_injectivity_selectors, collapse_at, collapse_lemma, tester_lemma_at, tester_lemma, instantiate_at, instantiate_constructor}
use Rattle.solver.specs.Ring.{Finished, enter, after, walk_from, walk_watched, ring_of, constructor_graph_find_cycle}
use Rattle.solver.specs.Check.{before_ring}
use Rattle.solver.specs.Memory.Checks.{from_split, from_instantiation, from_tester_lemma, from_collapse, from_injectivity, from_disequality_clash}

-- a rule that passes for each of a list passes
try_pass : {A : Type 0} (rule : A → State → Ruled) (xs : List A) (s : State) → ((x : A) → rule x s ≡ pass s) → try_each rule xs s ≡ pass s
unfolding try_each then go_on pass
try_pass rule [] s h = refl
try_pass rule (x ∷ xs) s h = ap (λ (r : Ruled). then r (λ u. try_each rule xs u)) (h x) ∙ try_pass rule xs s h

then_pass : (r : Ruled) (s : State) (next : State → Ruled) → r ≡ pass s → then r next ≡ next s
unfolding then go_on pass
then_pass r s next e = ap (λ (q : Ruled). then q next) e

module _ (s : State) (n : ctor_apps s ≡ []) where
  class_open : (t : ℕ) → ctor_of_class s t ≡ none
  unfolding ctor_of_class first
  class_open t = ap (first (λ (c : CtorApp). equal s t c.app)) n

  no_clash : constructor_clash s ≡ pass s
  unfolding constructor_clash clash_answer first pairs
  no_clash = ap (λ (cs : List CtorApp). clash_answer s (first (clash s) (pairs cs))) n

  no_tester_clash : tester_clash s ≡ pass s
  unfolding tester_clash tester_clash_at conflict_of tester_conflict disagrees
  no_tester_clash =
      try_pass (λ (e : AssertedAtom) u. tester_clash_at e.lit (tester_app u.terms e.atom) u) s.dt.level_record s
      (λ e. entry e.lit (tester_app s.terms e.atom))
    where
      entry : (l : ℕ) (o : Option TesterApp) → tester_clash_at l o s ≡ pass s
      entry l none = refl
      entry l (some x) = ap (λ (o : Option CtorApp). conflict_of s (disagrees s l x o)) (class_open x.arg)

  none_own : (x : TesterApp) → own_app s x ≡ none
  unfolding own_app first
  none_own x = ap (first (is_own s x)) n

  no_negative_clash : negative_clash s ≡ pass s
  unfolding negative_clash negative_clash_at conflict_of negative_conflict denies
  no_negative_clash =
      try_pass (λ (e : AssertedAtom) u. negative_clash_at e.lit (tester_app u.terms e.atom) u) s.dt.negative_record s
      (λ e. entry e.lit (tester_app s.terms e.atom))
    where
      entry : (l : ℕ) (o : Option TesterApp) → negative_clash_at l o s ≡ pass s
      entry l none = refl
      entry l (some x) = ap (λ (o : Option CtorApp). conflict_of s (denies s l x o)) (none_own x)

  no_injectivity : instantiate_injectivity_selectors s ≡ s
  unfolding instantiate_injectivity_selectors pairs
  no_injectivity = ap (λ (cs : List CtorApp). foldl mint_selectors s (pairs cs)) n

  no_collapse : collapse_lemma s ≡ pass s
  unfolding collapse_lemma try_each
  no_collapse =
      ap (λ (cs : List CtorApp). try_each (λ (x : SelApp) u. try_each (λ (c : CtorApp) v. collapse_at x c v) cs u) (sel_apps s) s) n
      ∙ try_pass (λ (x : SelApp) u. try_each (λ (c : CtorApp) v. collapse_at x c v) [] u) (sel_apps s) s (λ x. refl)

  no_tester_lemma : tester_lemma s ≡ pass s
  unfolding tester_lemma try_each
  no_tester_lemma =
      ap (λ (cs : List CtorApp). try_each (λ (x : TesterApp) u. try_each (λ (c : CtorApp) v. tester_lemma_at x c v) cs u) (testers s) s) n
      ∙ try_pass (λ (x : TesterApp) u. try_each (λ (c : CtorApp) v. tester_lemma_at x c v) [] u) (testers s) s (λ x. refl)

  -- the walk enters no class
  enters_none : (ts done : List ℕ) → foldl (λ w t. after (walk_watched s t) w) (Finished done) ts ≡ Finished done
  unfolding after walk_watched enter
  enters_none [] done = refl
  enters_none (t ∷ ts) done =
      ap (λ (o : Option CtorApp).
      foldl (λ w u. after (walk_watched s u) w) (enter (walk_from (suc (length s.terms.terms)) s) [] done t o) ts) (class_open t)
      ∙ enters_none ts done

  pub no_ring : constructor_graph_find_cycle s ≡ none
  unfolding constructor_graph_find_cycle ring_of
  no_ring = ap ring_of (enters_none (watched_dt_terms s) [])

  -- the clashes of constructors and testers pass
  pub unequal_first : before_ring s ≡ from_disequality_clash s
  unfolding before_ring
  unequal_first =
      then_pass (constructor_clash s) s (λ u. then (tester_clash u) (λ v. then (negative_clash v) from_disequality_clash)) no_clash
      ∙ then_pass (tester_clash s) s (λ u. then (negative_clash u) from_disequality_clash) no_tester_clash
      ∙ then_pass (negative_clash s) s from_disequality_clash no_negative_clash

  pub only_watched : s.dt.lasting ≡ [] → disequality_clash s ≡ pass s → before_ring s ≡ from_split s
  unfolding then go_on pass instantiate_constructor try_each
  only_watched l e =
      unequal_first
      ∙ then_pass (disequality_clash s) s from_injectivity e
      ∙ ap from_collapse no_injectivity
      ∙ then_pass (collapse_lemma s) s from_tester_lemma no_collapse
      ∙ then_pass (tester_lemma s) s from_instantiation no_tester_lemma
      ∙ then_pass (instantiate_constructor s) s from_split none_asserted
    where
      none_asserted : instantiate_constructor s ≡ pass s
      none_asserted = ap (λ (ts : List ℕ). try_each (λ t u. instantiate_at (tester_app u.terms t) u) ts s) l
