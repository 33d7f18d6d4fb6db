-- The clashes are tried first. Each leaves the state as it is and answers conflict or nothing, so a check that finds a clash says so;
-- where none answers, the marked applications of a class have one constructor, recorded testers of either sign agree with it, and recorded
-- unequal terms are not equal.
use Prim.Native.Nat.{ℕ}
use mathlib.Core.Path.{◌≡◌, refl, sym, subst, subst⁻¹, ap, ◌∙◌}
use mathlib.Core.Logic.{◌⊎◌, inl, inr}
use mathlib.Core.Bool.{Bool, true, false, cond, not}
use mathlib.Core.List.{List, [], ◌∷◌}
use mathlib.Core.Option.{Option, none, some}
use lib.Dec.{T, eqb}
use borrow.Author.Tests.{eqb-true, eq-eqb, ne_eqb}
use Rattle.shinri_core.specs.Lists.{first, pairs}
use Rattle.shinri_core.specs.Context.{CtorApp, TesterApp, tester_app, children}
use Rattle.shinri_core.proofs.Lists.{In, T_true, T-both}
use Rattle.theory.specs.Types.{EqLeaf}
use Rattle.theory.specs.EqEngine.{are_equal, explain, firsts}
use Rattle.theory.proofs.Classes.{equal_sym, equal_trans}
use Rattle.solver.specs.State.{State, AssertedAtom, ctor_apps, equal, ctor_of_class}
use Rattle.solver.specs.Records.{tester_leaves, disagrees, tester_conflict, own_app, denies, negative_conflict, literal_leaves, disequality_conflict}
use Rattle.solver.specs.Rules.{TCheck, Conflict, Ruled, pass, answered, go_on, then, try_each, clash, clash_answer, constructor_clash, conflict_of, tester_clash_at, tester_clash, negative_clash_at, negative_clash, disequality_clash}
use Rattle.solver.specs.Check.{before_ring}
use Rattle.solver.proofs.Basics.{in_pairs, none_some, some_none, some_is, first_some, first_none, false_T, by_test}
use Rattle.solver.proofs.Clash.{of_tester, record_by, own_there}

-- ---- rules that answer conflict or nothing

-- a rule that leaves the state as it is, and answers conflict or nothing
pub record Tells (s : State) (r : Ruled) : Type 0 where
  pub state : r.state ≡ s
  pub conflict : (a : TCheck) → r.answer ≡ some a → (ls : List EqLeaf) × (a ≡ Conflict ls)

pass_tells : (s : State) → Tells s (pass s)
unfolding pass
pass_tells s = record { state = refl; conflict = λ a e. absurd (none_some a e) }

answered_tells : (s : State) (ls : List EqLeaf) → Tells s (answered s (Conflict ls))
unfolding answered
answered_tells s ls = record { state = refl; conflict = λ a e. (ls, sym (some_is (Conflict ls) a e)) }

then_some : (r : Ruled) (next : State → Ruled) (a : TCheck) → r.answer ≡ some a → (then r next).answer ≡ some a
unfolding then go_on answered
then_some r next a e = ap (λ (o : Option TCheck). (go_on o r.state next).answer) e

then_next : (r : Ruled) (next : State → Ruled) → r.answer ≡ none → then r next ≡ next r.state
unfolding then go_on
then_next r next e = ap (λ (o : Option TCheck). go_on o r.state next) e

then_none : (r : Ruled) (next : State → Ruled) → (then r next).answer ≡ none → r.answer ≡ none
then_none r next e = go r.answer refl
  where
    go : (o : Option TCheck) → r.answer ≡ o → o ≡ none
    go none q = refl
    go (some a) q = absurd (some_none a (sym (then_some r next a q) ∙ e))

then_tells : (s : State) (r : Ruled) (next : State → Ruled) → Tells s r → Tells s (next s) → Tells s (then r next)
then_tells s r next t n = go r.answer refl
  where
    go : (o : Option TCheck) → r.answer ≡ o → Tells s (then r next)
    go none e = subst⁻¹ (Tells s) (then_next r next e ∙ ap next t.state) n
    go (some a) e = record {
      state = unfold then go_on answered in ap (λ (p : Option TCheck). (go_on p r.state next).state) e ∙ t.state;
      conflict = λ b q. t.conflict b (e ∙ sym (then_some r next a e) ∙ q);
    }

try_tells : {A : Type 0} (s : State) (rule : A → State → Ruled) (xs : List A) → ((x : A) → Tells s (rule x s)) →
    Tells s (try_each rule xs s)
unfolding try_each
try_tells s rule [] h = pass_tells s
try_tells s rule (x ∷ xs) h = then_tells s (rule x s) (λ s'. try_each rule xs s') (h x) (try_tells s rule xs h)

try_none : {A : Type 0} (s : State) (rule : A → State → Ruled) (xs : List A) → ((x : A) → Tells s (rule x s)) →
    (try_each rule xs s).answer ≡ none → (x : A) → In x xs → (rule x s).answer ≡ none
unfolding try_each
try_none s rule [] h e x i = absurd i
try_none s rule (y ∷ ys) h e x i = go i (try_none s rule ys h later x)
  where
    here : (rule y s).answer ≡ none
    here = then_none (rule y s) (λ s'. try_each rule ys s') e

    later : (try_each rule ys s).answer ≡ none
    later = ap (λ (r : Ruled). r.answer) (sym (then_next (rule y s) (λ s'. try_each rule ys s') here ∙ ap (try_each rule ys)
        (h y).state)) ∙ e

    go : In x (y ∷ ys) → (In x ys → (rule x s).answer ≡ none) → (rule x s).answer ≡ none
    go (inl q) f = ap (λ (z : _). (rule z s).answer) q ∙ here
    go (inr j) f = f j

-- ---- the clashes

module _ (s : State) where
  pub constructor_tells : Tells s (constructor_clash s)
  unfolding constructor_clash
  constructor_tells = go (first (clash s) (pairs (ctor_apps s)))
    where
      go : (o : Option (CtorApp × CtorApp)) → Tells s (clash_answer s o)
      go none = unfold clash_answer in pass_tells s
      go (some (p, q)) = unfold clash_answer in answered_tells s (firsts (explain s.eq p.app q.app))

  conflict_tells : (o : Option (List EqLeaf)) → Tells s (conflict_of s o)
  unfolding conflict_of
  conflict_tells none = pass_tells s
  conflict_tells (some ls) = answered_tells s ls

  tester_at_tells : (l : ℕ) (o : Option TesterApp) → Tells s (tester_clash_at l o s)
  unfolding tester_clash_at
  tester_at_tells l none = pass_tells s
  tester_at_tells l (some x) = conflict_tells (tester_conflict s l x)

  pub tester_tells : Tells s (tester_clash s)
  unfolding tester_clash
  tester_tells = try_tells s (λ (e : AssertedAtom) s'. tester_clash_at e.lit (tester_app s'.terms e.atom) s')
      s.dt.level_record (λ e. tester_at_tells e.lit (tester_app s.terms e.atom))

  negative_at_tells : (l : ℕ) (o : Option TesterApp) → Tells s (negative_clash_at l o s)
  unfolding negative_clash_at
  negative_at_tells l none = pass_tells s
  negative_at_tells l (some x) = conflict_tells (negative_conflict s l x)

  pub negative_tells : Tells s (negative_clash s)
  unfolding negative_clash
  negative_tells = try_tells s (λ (e : AssertedAtom) s'. negative_clash_at e.lit (tester_app s'.terms e.atom) s')
      s.dt.negative_record (λ e. negative_at_tells e.lit (tester_app s.terms e.atom))

  pub disequality_tells : Tells s (disequality_clash s)
  unfolding disequality_clash
  disequality_tells =
      try_tells s (λ (e : AssertedAtom) s'. conflict_of s' (disequality_conflict s' e.lit (children s'.terms e.atom)))
      s.dt.disequalities (λ e. conflict_tells (disequality_conflict s e.lit (children s.terms e.atom)))

-- ---- a rule that tells, and the next one

-- a rule says conflict
abbrev Says : Ruled → Type 0
Says r = (ls : List EqLeaf) × (r.answer ≡ some (Conflict ls))

module _ (s : State) (r : Ruled) (next : State → Ruled) (t : Tells s r) where
  next_is : r.answer ≡ none → then r next ≡ next s
  next_is e = then_next r next e ∙ ap next t.state

  both_none : (then r next).answer ≡ none → (r.answer ≡ none) × ((next s).answer ≡ none)
  both_none e =
      let a = then_none r next e in
      (a, ap (λ (x : Ruled). x.answer) (sym (next_is a)) ∙ e)

  one_says : (r.answer ≡ none → Says (next s)) → Says (then r next)
  one_says h = go r.answer refl
    where
      go : (o : Option TCheck) → r.answer ≡ o → Says (then r next)
      go (some k) e =
          let (ls, w) = t.conflict k e in
          (ls, then_some r next (Conflict ls) (e ∙ ap {B = Option TCheck} some w))
      go none e = subst⁻¹ Says (next_is e) (h e)

-- ---- no clash

-- Applications of one class have one constructor; whether it is that of a recorded tester on a term of the class, the tester's sign says;
-- and recorded unequal terms are not equal.
pub record Clear (s : State) : Type 0 where
  pub constructors : (p q : CtorApp) → In p (ctor_apps s) → In q (ctor_apps s) → T (equal s p.app q.app) → p.ctor ≡ q.ctor
  pub testers : (b : Bool) (e : AssertedAtom) (x : TesterApp) (c : CtorApp) → In e (record_by s (of_tester b)) →
      tester_app s.terms e.atom ≡ some x → In c (ctor_apps s) → T (equal s x.arg c.app) → eqb c.ctor x.ctor ≡ b
  pub unequal : (e : AssertedAtom) (x y : ℕ) → In e s.dt.disequalities → children s.terms e.atom ≡ (x ∷ y ∷ []) →
      T (equal s x y) → ⊥

module _ (s : State) (a : (constructor_clash s).answer ≡ none) where
  none_first : first (clash s) (pairs (ctor_apps s)) ≡ none
  unfolding constructor_clash
  none_first = go (first (clash s) (pairs (ctor_apps s))) a
    where
      go : (o : Option (CtorApp × CtorApp)) → (clash_answer s o).answer ≡ none → o ≡ none
      go none e = refl
      go (some (p, q)) e = absurd (some_none (Conflict (firsts (explain s.eq p.app q.app)))
          (unfold clash_answer answered in e))

  same_by_test : (p q : CtorApp) → In (p, q) (pairs (ctor_apps s)) → T (equal s p.app q.app) → p.ctor ≡ q.ctor
  same_by_test p q i t =
      by_test (eqb p.ctor q.ctor) (λ e. eqb-true p.ctor q.ctor e)
      (λ e. absurd (false_T (clash s (p, q)) (first_none (clash s) (pairs (ctor_apps s)) (p, q) none_first i)
      (unfold clash in T-both (not (eqb p.ctor q.ctor)) (equal s p.app q.app) (subst⁻¹ (λ (c : Bool). T (not c)) e tt) t)))

  pub one_constructor : (p q : CtorApp) → In p (ctor_apps s) → In q (ctor_apps s) → T (equal s p.app q.app) → p.ctor ≡ q.ctor
  unfolding equal
  one_constructor p q i j t = go (in_pairs (ctor_apps s) p q i j)
    where
      go : (p ≡ q) ⊎ (In (p, q) (pairs (ctor_apps s)) ⊎ In (q, p) (pairs (ctor_apps s))) → p.ctor ≡ q.ctor
      go (inl e) = ap (λ (c : CtorApp). c.ctor) e
      go (inr (inl k)) = same_by_test p q k t
      go (inr (inr k)) = sym (same_by_test q p k (equal_sym s.eq p.app q.app t))

module _ (s : State) (a : (constructor_clash s).answer ≡ none) (b : (tester_clash s).answer ≡ none)
    (n : (negative_clash s).answer ≡ none) (u : (disequality_clash s).answer ≡ none) where
  agrees : (l : ℕ) (x : TesterApp) (o : Option CtorApp) → (conflict_of s (disagrees s l x o)).answer ≡ none → (c : CtorApp) →
      o ≡ some c → c.ctor ≡ x.ctor
  agrees l x none e c q = absurd (none_some c q)
  agrees l x (some d) e c q = go (eqb d.ctor x.ctor) refl (unfold disagrees in e)
    where
      go : (k : Bool) → eqb d.ctor x.ctor ≡ k → (conflict_of s (cond k none (some (tester_leaves s l x.arg d)))).answer ≡ none
          → c.ctor ≡ x.ctor
      go true w z = ap (λ (y : CtorApp). y.ctor) (sym (some_is d c q)) ∙ eqb-true d.ctor x.ctor w
      go false w z = absurd (some_none (Conflict (tester_leaves s l x.arg d)) (unfold conflict_of answered in z))

  tester_constructor : (e : AssertedAtom) (x : TesterApp) (c : CtorApp) → In e s.dt.level_record → tester_app s.terms
      e.atom ≡ some x → In c (ctor_apps s) → T (equal s x.arg c.app) → c.ctor ≡ x.ctor
  unfolding tester_clash equal ctor_of_class
  tester_constructor e x c i q j t = go (ctor_of_class s x.arg) refl
    where
      here : (tester_clash_at e.lit (tester_app s.terms e.atom) s).answer ≡ none
      here = try_none s (λ (y : AssertedAtom) s'. tester_clash_at y.lit (tester_app s'.terms y.atom) s')
          s.dt.level_record (λ y. tester_at_tells s y.lit (tester_app s.terms y.atom)) b e i

      said : (conflict_of s (disagrees s e.lit x (ctor_of_class s x.arg))).answer ≡ none
      said = unfold tester_conflict tester_clash_at in subst (λ (o : Option TesterApp). (tester_clash_at e.lit o s).answer ≡ none) q
          here

      go : (o : Option CtorApp) → ctor_of_class s x.arg ≡ o → c.ctor ≡ x.ctor
      go none w = absurd (false_T (are_equal s.eq x.arg c.app)
          (first_none (λ (d : CtorApp). are_equal s.eq x.arg d.app) (ctor_apps s) c w j) t)
      go (some d) w =
          let (k, f) = first_some (λ (y : CtorApp). are_equal s.eq x.arg y.app) (ctor_apps s) d w in
          one_constructor s a c d j k (equal_trans s.eq c.app x.arg d.app (equal_sym s.eq x.arg c.app t) f) ∙ agrees
          e.lit x (ctor_of_class s x.arg) said d w

  -- no application was found
  no_denial : (l : ℕ) (x : TesterApp) (o : Option CtorApp) → (conflict_of s (denies s l x o)).answer ≡ none → o ≡ none
  no_denial l x none e = refl
  no_denial l x (some d) e = absurd (some_none (Conflict (tester_leaves s l x.arg d)) (unfold denies conflict_of answered in e))

  negative_constructor : (e : AssertedAtom) (x : TesterApp) (c : CtorApp) → In e s.dt.negative_record → tester_app s.terms
      e.atom ≡ some x → In c (ctor_apps s) → T (equal s x.arg c.app) → eqb c.ctor x.ctor ≡ false
  unfolding negative_clash
  negative_constructor e x c i q j t =
      ne_eqb c.ctor x.ctor (λ w. own_there s x c j t w (no_denial e.lit x (own_app s x) said))
    where
      here : (negative_clash_at e.lit (tester_app s.terms e.atom) s).answer ≡ none
      here = try_none s (λ (y : AssertedAtom) s'. negative_clash_at y.lit (tester_app s'.terms y.atom) s')
          s.dt.negative_record (λ y. negative_at_tells s y.lit (tester_app s.terms y.atom)) n e i

      said : (conflict_of s (denies s e.lit x (own_app s x))).answer ≡ none
      said = unfold negative_conflict negative_clash_at in subst (λ (o : Option TesterApp). (negative_clash_at e.lit o s).answer ≡ none)
          q here

  signed : (k : Bool) (e : AssertedAtom) (x : TesterApp) (c : CtorApp) → In e (record_by s (of_tester k)) →
      tester_app s.terms e.atom ≡ some x → In c (ctor_apps s) → T (equal s x.arg c.app) → eqb c.ctor x.ctor ≡ k
  signed true e x c i q j t = eq-eqb c.ctor x.ctor (tester_constructor e x c i q j t)
  signed false e x c i q j t = negative_constructor e x c i q j t

  sides_apart : (e : AssertedAtom) (x y : ℕ) → In e s.dt.disequalities → children s.terms e.atom ≡ (x ∷ y ∷ []) →
      T (equal s x y) → ⊥
  unfolding disequality_clash disequality_conflict
  sides_apart e x y i k t = some_none (Conflict (literal_leaves s e.lit x y)) (unfold conflict_of answered in said)
    where
      here : (conflict_of s (disequality_conflict s e.lit (children s.terms e.atom))).answer ≡ none
      here =
          try_none s (λ (z : AssertedAtom) s'. conflict_of s' (disequality_conflict s' z.lit (children s'.terms z.atom)))
          s.dt.disequalities (λ z. conflict_tells s (disequality_conflict s z.lit (children s.terms z.atom))) u e i

      said : (conflict_of s (some (literal_leaves s e.lit x y))).answer ≡ none
      said =
          subst (λ (d : Bool). (conflict_of s (cond d (some (literal_leaves s e.lit x y)) none)).answer ≡ none) (T_true (equal s x y) t)
          (subst (λ (zs : List ℕ). (conflict_of s (disequality_conflict s e.lit zs)).answer ≡ none) k here)

  clear_by : Clear s
  clear_by = record { constructors = one_constructor s a; testers = signed; unequal = sides_apart }

-- ---- a check

-- a check finds a clash first, if there is one
pub clash_found : (s : State) → (Clear s → ⊥) → (ls : List EqLeaf) × ((before_ring s).answer ≡ some (Conflict ls))
unfolding before_ring
clash_found s k =
    one_says s (constructor_clash s) _ (constructor_tells s) λ a.
    one_says s (tester_clash s) _ (tester_tells s) λ b.
    one_says s (negative_clash s) _ (negative_tells s) λ n.
    one_says s (disequality_clash s) _ (disequality_tells s) λ u.
    absurd (k (clear_by s a b n u))

-- and where no rule answers there is none
pub clear_at_first : (s : State) → (before_ring s).answer ≡ none → Clear s
unfolding before_ring
clear_at_first s e =
    let (a, e₁) = both_none s (constructor_clash s) _ (constructor_tells s) e in
    let (b, e₂) = both_none s (tester_clash s) _ (tester_tells s) e₁ in
    let (n, e₃) = both_none s (negative_clash s) _ (negative_tells s) e₂ in
    clear_by s a b n (both_none s (disequality_clash s) _ (disequality_tells s) e₃).0
