-- The tester lemma once for a class: the flag of the class's lowest application names the tester. What passed once passes again, since
-- terms are only added.
use Rattle.shinri_core.proofs.Kit.{ℕ, suc, ◌+◌, ◌≤◌, ◌<◌, ◌≡◌, refl, sym, ap, ◌∙◌, subst, ℕ_discrete, List, arith, T, replicate, get_or-set_same}
use lib.ListN.{length-replicate}
use Rattle.shinri_core.specs.Limits.{max_symbols, max_terms}
use Rattle.shinri_core.specs.Lists.{In}
use Rattle.shinri_core.specs.Term.{Tester}
use Rattle.shinri_core.specs.Context.{CtorApp, TesterApp, children}
use Rattle.shinri_core.specs.Formed.{Formed}
use Rattle.shinri_core.specs.Memory.Words.{at, put}
use Rattle.shinri_core.specs.Memory.Table.{context}
use Rattle.shinri_core.specs.declared.ids.TermId.{TermId}
use Rattle.shinri_core.specs.declared.ids.SymbolId.{SymbolId}
use Rattle.shinri_core.proofs.Lists.{T_true, true_T, zeros}
use Rattle.shinri_core.proofs.Memory.Stores.{other_place, length_put}
use Rattle.theory.specs.EqEngine.{are_equal}
use Rattle.theory.specs.Memory.Table.{merges}
use Rattle.theory.proofs.Classes.{equal_refl, equal_sym}
use Rattle.solver.specs.State.{State, equal}
use Rattle.solver.specs.Rules.{Ruled, pass, tester_lemma_at, try_each}
use Rattle.solver.specs.declared.answer.TCheck as TCheck
use Rattle.std.specs.Prelude.{Some, Ok}
use Rattle.solver.specs.Memory.Table.{state_with}
use Rattle.solver.specs.Memory.Work.{state_at, apps_from, first_in_class, ctor_meaning, CtorOfClass, CheckSound, CtorOf}
use Rattle.solver.specs.Memory.Answer.{Outcome, Tried, RuleAnswer}
use Rattle.solver.specs.Memory.Collapse.{by_apps, testing, FLAGS, TesterOn, Tested, TestsSound, TestsOnce, TestableOnce}
use Rattle.solver.proofs.Basics.{first_some}
use Rattle.solver.proofs.Signature.{tester_of, tester_function, declared_role}
use Rattle.solver.proofs.Repeats.{try_each_does, try_each_idle, TestedOn, tested_keeps, tester_goes_on, tester_does, tester_again}
use Rattle.solver.proofs.Memory.Trying.{tried_pass}
use Rattle.solver.proofs.Memory.Chains.{all_apps}
use Rattle.solver.proofs.Memory.Once.{goes_on, apps_back, role_back}

-- ---- what passed once

-- an application that the rule passes on is settled
passed_tested : (x : TesterApp) (a : CtorApp) (S : State) → tester_lemma_at x a S ≡ pass S →
    TestedOn x.tester x.ctor x.arg a S
unfolding pass
passed_tested x a S e =
    subst (λ (r : Ruled). TestedOn x.tester x.ctor x.arg a r.state) e
    (tester_does x a S (ap (λ (r : Ruled). r.answer) e))

-- settled for one argument of a class is settled for another
tested_passes : (f ctor y arg : ℕ) (a : CtorApp) (S : State) → Formed S.terms → T (equal S y arg) → TestedOn f ctor y a S →
    tester_lemma_at (testing f ctor arg) a S ≡ pass S
tested_passes f ctor y arg a S F q d = tester_again (testing f ctor arg) a S f ctor y F refl refl q d

-- where all pass, each did what it does
all_tested : (x : TesterApp) (as' : List CtorApp) (S S' : State) → try_each (tester_lemma_at x) as' S ≡ pass S' → (a : CtorApp) →
    In a as' → TestedOn x.tester x.ctor x.arg a S'
unfolding pass
all_tested x as' S S' e a j =
    let (g, h) =
    try_each_does (tester_lemma_at x) (TestedOn x.tester x.ctor x.arg) (tester_goes_on x) (tester_does x)
    (tested_keeps x.tester x.ctor x.arg) as' S (ap (λ (r : Ruled). r.answer) e) in
    subst (λ (r : Ruled). TestedOn x.tester x.ctor x.arg a r.state) e (h a j)

all_pass : (x : TesterApp) (as' : List CtorApp) (S : State) → ((a : CtorApp) → In a as' → tester_lemma_at x a S ≡ pass S) →
    try_each (tester_lemma_at x) as' S ≡ pass S
all_pass x as' S h =
    try_each_idle (tester_lemma_at x) (TestedOn x.tester x.ctor x.arg) (tester_goes_on x) (tester_does x)
    (tested_keeps x.tester x.ctor x.arg) S as' h

-- a tester is a symbol
pub tester_small : {c e s w : List ℕ} {f ctor arg : ℕ} {o : List ℕ} → TesterOn c e s w f ctor arg o → f < max_symbols
tester_small {c} {f = f} {ctor} P =
    let z = P.under.check.state.core in
    let l = declared_role (context c) f (λ q. tester_function ctor (sym P.role ∙ q)) in
    omega (arith, z.symbol_count, z.symbols_fit)

-- ---- flags

module _ {c e s w : List ℕ} {rule : State → Ruled} {r : RuleAnswer} {c' s' o : List ℕ} (C : CheckSound c e s w)
    (K : Tried rule c e s w r c' s' w o) (q : r ≡ Ok TCheck.TheVariants.Sat)
  where
    tested_still : (f y : ℕ) → Tested c e s w f y → Tested c' e s' w f y
    unfolding equal state_with
    tested_still f y D = record {
      passes = λ ctor ρ lv a j.
          tested_passes f ctor y y a (state_at c' e s' w lv) K.sound.state.formed (equal_refl (merges e) y)
          (tested_keeps f ctor y a (state_at c e s w lv) (state_at c' e s' w lv) (goes_on C K q lv)
          (passed_tested (testing f ctor y) a (state_at c e s w lv)
          (D.passes ctor (role_back C K q f (Tester ctor) ρ) lv a (apps_back C K q a j))));
    }

    -- a rule that passes keeps what was done
    pub tests_keep : {d : List ℕ} → TestsSound c e s w d → TestsSound c' e s' w d
    tests_keep D = record { long = D.long; done = λ y f l h. tested_still f y (D.done y f l h) }

module _ {c e s w d : List ℕ} {f ctor arg y : ℕ} {o : List ℕ} (P : TestableOnce c e s w d f ctor arg y o) where
  abbrev rule : State → Ruled
  rule = by_apps (tester_lemma_at (testing f ctor arg))

  C : CheckSound c e s w
  C = P.on.under.check

  -- it was done: the rule passes, for every argument of the class
  pub tests_pass : {o' : List ℕ} → at d FLAGS y ≡ suc f → TestsOnce rule c e s w (Ok TCheck.TheVariants.Sat) c s d o'
  unfolding equal state_with
  tests_pass h = record {
    tried = tried_pass C (λ lv.
        let S = state_at c e s w lv in
        let near = equal_sym (merges e) arg y (true_T (are_equal (merges e) arg y) P.near) in
        all_apps (tester_lemma_at (testing f ctor arg)) c s e w lv
        ∙ all_pass (testing f ctor arg) (apps_from (context c) w 0) S (λ a j.
        tested_passes f ctor y arg a S C.state.formed near
        (passed_tested (testing f ctor y) a S ((P.flags.done y f P.is_node h).passes ctor P.on.role lv a j))));
    flags = λ q. P.flags;
  }

  module _ {r : RuleAnswer} {c' s' o' : List ℕ} (K : Tried rule c e s w r c' s' w o') where
    module _ (q : r ≡ Ok TCheck.TheVariants.Sat) where
      now_tested : Tested c' e s' w f y
      unfolding equal state_with
      now_tested = record {
        passes = λ ctor' ρ lv a j.
            let S = state_at c e s w lv in
            let S' = state_at c' e s' w lv in
            let same = tester_of ctor ctor' (sym P.on.role ∙ role_back C K q f (Tester ctor') ρ) in
            let outcome = subst (λ (m : RuleAnswer). Outcome m (rule S) S' o') q (K.outcome lv) in
            subst (λ (n : ℕ). tester_lemma_at (testing f n y) a S' ≡ pass S') same
            (tested_passes f ctor arg y a S' K.sound.state.formed (true_T (are_equal (merges e) arg y) P.near)
            (all_tested (testing f ctor arg) (apps_from (context c) w 0) S S'
            (sym (all_apps (tester_lemma_at (testing f ctor arg)) c s e w lv) ∙ outcome) a (apps_back C K q a j)));
      }

      tests_more : (v : ℕ) → v ≡ suc f → TestsSound c' e s' w (put d FLAGS y v)
      unfolding at put
      tests_more v n = record {
        long = let m = length_put d FLAGS y v in let k = P.flags.long in omega arith;
        done = λ x g k b. go x g k b (ℕ_discrete x y);
      }
        where
          go : (x g : ℕ) → x < max_terms → at (put d FLAGS y v) FLAGS x ≡ suc g → Dec (x ≡ y) → Tested c' e s' w g x
          go x g k b (yes m) =
              let l = P.flags.long in
              let h = P.is_node in
              let there : at (put d FLAGS y v) FLAGS y ≡ v = get_or-set_same d (FLAGS + y) v 0 (omega arith) in
              let here : suc g ≡ suc f = sym b ∙ ap (at (put d FLAGS y v) FLAGS) m ∙ there ∙ n in
              let same : f ≡ g = omega arith in
              subst (λ (z : ℕ). Tested c' e s' w z x) same (subst (λ (z : ℕ). Tested c' e s' w f z) (sym m) now_tested)
          go x g k b (no m) = tested_still C K q g x (P.flags.done x g k (sym (other_place d FLAGS y x v m) ∙ b))

    -- it is done now, and the flag is set
    pub tests_now : {d' : List ℕ} {v : ℕ} → v ≡ suc f → d' ≡ put d FLAGS y v → TestsOnce rule c e s w r c' s' d' o'
    tests_now {d'} {v} n g = record { tried = K; flags = λ m. subst (TestsSound c' e s' w) (sym g) (tests_more m v n) }

    -- it answers
    pub tests_answer : {d' : List ℕ} → (r ≡ Ok TCheck.TheVariants.Sat → ⊥) → TestsOnce rule c e s w r c' s' d' o'
    tests_answer n = record { tried = K; flags = λ m. absurd (n m) }

-- ---- a class whose lowest application is of another constructor, or that has none

pub not_tested : {rule : State → Ruled} {c e s w d : List ℕ} {r : RuleAnswer} {c' s' o : List ℕ} → CheckSound c e s w →
    TestsSound c e s w d → Tried rule c e s w r c' s' w o → TestsOnce rule c e s w r c' s' d o
not_tested C D K = record { tried = K; flags = λ q. tests_keep C K q D }

pub lowest_tested : {c e s w d : List ℕ} {f ctor arg : ℕ} {o : List ℕ} {a : CtorOf} {g : SymbolId} {x : TermId} →
    TesterOn c e s w f ctor arg o → TestsSound c e s w d → CtorOfClass c e w arg a → a ≡ Some (g, x) →
    TestableOnce c e s w d f ctor arg x.0 o
unfolding ctor_meaning first_in_class
lowest_tested {c} {e} {w = w} {arg = arg} {g = g} {x = x} P D K q =
    let app : CtorApp = record { app = x.0; ctor = g.0; fields = children (context c) x.0 } in
    let found = sym K.is ∙ ap (ctor_meaning (context c)) q in
    let z = P.under.check.state.core in
    let l = K.within app (ap (ctor_meaning (context c)) q) in
    record {
      on = P;
      flags = D;
      is_node = omega (arith, z.term_count, z.terms_fit);
      near =
          T_true (are_equal (merges e) arg x.0)
          (first_some (λ (b : CtorApp). are_equal (merges e) arg b.app) (apps_from (context c) w 0) app found).1;
    }

-- at first no flag is set
pub tests_first : {c e s w : List ℕ} (n : ℕ) → max_terms ≤ n → TestsSound c e s w (replicate n 0)
unfolding at
tests_first n l = record {
  long = let e = length-replicate {A = ℕ} n 0 in omega arith;
  done = λ y f h q. absurd (let z = zeros n (FLAGS + y) in omega arith);
}
