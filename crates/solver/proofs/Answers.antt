-- A check: each rule leaves a state that follows, and answers only what holds; the ring decides what no rule before it does.
use mathlib.Core.Path.{◌≡◌, refl, sym, subst⁻¹}
use mathlib.Core.Logic.{◌⊎◌, inl, inr}
use mathlib.Core.Bool.{Bool, true, false, cond}
use mathlib.Core.List.{List}
use mathlib.Core.Option.{Option, none, some}
use Rattle.shinri_core.specs.Lists.{first, pairs}
use Rattle.shinri_core.specs.Context.{CtorApp, TesterApp, tester_app, children}
use Rattle.shinri_core.proofs.Lists.{In, true_T}
use Rattle.theory.specs.Types.{EqLeaf}
use Rattle.theory.specs.EqEngine.{explain, firsts}
use Rattle.solver.specs.State.{State, AssertedAtom, ctor_apps}
use Rattle.solver.specs.Records.{tester_conflict, negative_conflict, disequality_conflict}
use Rattle.solver.specs.Rules.{TCheck, Sat, Conflict, Unknown, Ruled, pass, answered, go_on, then, clash, clash_answer, constructor_clash, conflict_of, tester_clash_at, tester_clash, negative_clash_at, negative_clash, disequality_clash, instantiate_injectivity_selectors, collapse_lemma, tester_lemma, instantiate_constructor, exhaustiveness_split, has_undetermined_class, unknown_fence}
use Rattle.solver.specs.Ring.{Edge, constructor_graph_find_cycle, acyclicity_conflict}
use Rattle.solver.specs.Check.{before_ring, ring_answer, Checked, or_ring, full_check}
use Rattle.solver.proofs.Basics.{none_some, some_none, first_some, pairs_in}
use Rattle.solver.proofs.Walk.{HasRing, WalkSays, walk_says, ringed_ring}
use Rattle.solver.proofs.Clash.{Ready, Refuted, Affirmed, Negated, Unequal, Recorded, clash_refuted, tester_refuted, negative_refuted, disequality_refuted, ring_refuted}
use Rattle.solver.proofs.Moves.{Follows, follows_self, follows_ready, AnswerHolds, RuledWell, pass_well, answered_well, base_well, then_well, try_well}
use Rattle.solver.proofs.Lemmas.{collapse_well, tester_lemma_well, instantiate_constructor_well, injectivity_follows, exhaustiveness_well}

module _ (s : State) (R : Ready s) where
  clash_well : (o : Option (CtorApp × CtorApp)) → first (clash s) (pairs (ctor_apps s)) ≡ o → RuledWell s (clash_answer s o)
  unfolding clash_answer
  clash_well none e = pass_well s s (follows_self s R.formed)
  clash_well (some (p, q)) e =
      let (i, t) = first_some (clash s) (pairs (ctor_apps s)) (p, q) e in
      let (a, b) = pairs_in (ctor_apps s) (p, q) i in
      answered_well s s (Conflict (firsts (explain s.eq p.app q.app))) (follows_self s R.formed) (clash_refuted s R (Recorded s) p q a b t)

  constructor_clash_well : RuledWell s (constructor_clash s)
  unfolding constructor_clash
  constructor_clash_well = clash_well (first (clash s) (pairs (ctor_apps s))) refl

  conflict_well : (o : Option (List EqLeaf)) → ((ls : List EqLeaf) → o ≡ some ls → Refuted s (Recorded s) ls) → RuledWell s (conflict_of s o)
  unfolding conflict_of
  conflict_well none h = pass_well s s (follows_self s R.formed)
  conflict_well (some ls) h = answered_well s s (Conflict ls) (follows_self s R.formed) (h ls refl)

  tester_at : (e : AssertedAtom) → In e s.dt.level_record → (o : Option TesterApp) → tester_app s.terms e.atom ≡ o → RuledWell s (tester_clash_at e.lit o s)
  unfolding tester_clash_at
  tester_at e i none q = pass_well s s (follows_self s R.formed)
  tester_at e i (some x) q =
      conflict_well (tester_conflict s e.lit x) (λ ls w. tester_refuted s R (Recorded s) e.lit e.atom x ls q (e, i, refl, refl) w)

  negative_at : (e : AssertedAtom) → In e s.dt.negative_record → (o : Option TesterApp) → tester_app s.terms e.atom ≡ o →
      RuledWell s (negative_clash_at e.lit o s)
  unfolding negative_clash_at
  negative_at e i none q = pass_well s s (follows_self s R.formed)
  negative_at e i (some x) q =
      conflict_well (negative_conflict s e.lit x)
      (λ ls w. negative_refuted s R (Recorded s) e.lit e.atom x ls q (e, i, refl, refl) w)

  unknown_well : RuledWell s (unknown_fence s)
  unfolding unknown_fence
  unknown_well = go (has_undetermined_class s) refl
    where
      go : (b : Bool) → has_undetermined_class s ≡ b → RuledWell s (cond b (answered s Unknown) (pass s))
      go true e = answered_well s s Unknown (follows_self s R.formed) (record { undetermined = true_T (has_undetermined_class s) e })
      go false e = pass_well s s (follows_self s R.formed)

tester_clash_well : (s : State) → Ready s → RuledWell s (tester_clash s)
unfolding tester_clash
tester_clash_well s R =
    try_well s (λ (e : AssertedAtom) s'. tester_clash_at e.lit (tester_app s'.terms e.atom) s') s.dt.level_record
    (λ e i s' f. base_well s s' (tester_clash_at e.lit (tester_app s'.terms e.atom) s') f
    (tester_at s' (follows_ready s s' f R) e (subst⁻¹ (λ (es : List AssertedAtom). In e es) (f.entries Affirmed) i)
    (tester_app s'.terms e.atom) refl))
    s (follows_self s R.formed)

negative_clash_well : (s : State) → Ready s → RuledWell s (negative_clash s)
unfolding negative_clash
negative_clash_well s R =
    try_well s (λ (e : AssertedAtom) s'. negative_clash_at e.lit (tester_app s'.terms e.atom) s') s.dt.negative_record
    (λ e i s' f. base_well s s' (negative_clash_at e.lit (tester_app s'.terms e.atom) s') f
    (negative_at s' (follows_ready s s' f R) e (subst⁻¹ (λ (es : List AssertedAtom). In e es) (f.entries Negated) i)
    (tester_app s'.terms e.atom) refl))
    s (follows_self s R.formed)

disequality_clash_well : (s : State) → Ready s → RuledWell s (disequality_clash s)
unfolding disequality_clash
disequality_clash_well s R =
    try_well s (λ (e : AssertedAtom) s'. conflict_of s' (disequality_conflict s' e.lit (children s'.terms e.atom)))
    s.dt.disequalities
    (λ e i s' f.
    base_well s s' (conflict_of s' (disequality_conflict s' e.lit (children s'.terms e.atom))) f
    (conflict_well s' (follows_ready s s' f R) (disequality_conflict s' e.lit (children s'.terms e.atom))
    (disequality_refuted s' (follows_ready s s' f R) (Recorded s') e.lit e.atom
    (e, subst⁻¹ (λ (es : List AssertedAtom). In e es) (f.entries Unequal) i, refl, refl) (children s'.terms e.atom) refl)))
    s (follows_self s R.formed)

-- one rule after another
and_then : (s : State) (r : Ruled) (next : State → Ruled) → Ready s → RuledWell s r → ((s' : State) → Ready s' → RuledWell s' (next s')) → RuledWell s (then r next)
and_then s r next R w h = then_well s r next w (λ s' f. base_well s s' (next s') f (h s' (follows_ready s s' f R)))

pub before_ring_well : (s : State) → Ready s → RuledWell s (before_ring s)
unfolding before_ring
before_ring_well s R =
    and_then s (constructor_clash s) _ R (constructor_clash_well s R) λ s R.
    and_then s (tester_clash s) _ R (tester_clash_well s R) λ s R.
    and_then s (negative_clash s) _ R (negative_clash_well s R) λ s R.
    and_then s (disequality_clash s) _ R (disequality_clash_well s R) λ s R.
    and_then s (pass (instantiate_injectivity_selectors s)) _ R (pass_well s (instantiate_injectivity_selectors s) (injectivity_follows s R)) λ s R.
    and_then s (collapse_lemma s) _ R (collapse_well s R) λ s R.
    and_then s (tester_lemma s) _ R (tester_lemma_well s R) λ s R.
    and_then s (instantiate_constructor s) _ R (instantiate_constructor_well s R) λ s R.
    and_then s (exhaustiveness_split s) unknown_fence R (exhaustiveness_well s R) λ s R.
    unknown_well s R

-- ---- where no rule answers

-- the last rule finds no class without application
abbrev Determined : Ruled → Type 0
Determined r = r.answer ≡ none → has_undetermined_class r.state ≡ false

then_determined : (r : Ruled) (next : State → Ruled) → ((s : State) → Determined (next s)) → Determined (then r next)
unfolding then go_on answered
then_determined r next h = go r.answer
  where
    go : (o : Option TCheck) → Determined (go_on o r.state next)
    go none = h r.state
    go (some a) = λ e. absurd (some_none a e)

fence_determined : (s : State) → Determined (unknown_fence s)
unfolding unknown_fence answered pass
fence_determined s = go (has_undetermined_class s) refl
  where
    go : (b : Bool) → has_undetermined_class s ≡ b → Determined (cond b (answered s Unknown) (pass s))
    go true q = λ e. absurd (some_none Unknown e)
    go false q = λ e. q

before_ring_determined : (s : State) → Determined (before_ring s)
unfolding before_ring
before_ring_determined s =
    then_determined (constructor_clash s) _ λ s.
    then_determined (tester_clash s) _ λ s.
    then_determined (negative_clash s) _ λ s.
    then_determined (disequality_clash s) _ λ s.
    then_determined (pass (instantiate_injectivity_selectors s)) _ λ s.
    then_determined (collapse_lemma s) _ λ s.
    then_determined (tester_lemma s) _ λ s.
    then_determined (instantiate_constructor s) _ λ s.
    then_determined (exhaustiveness_split s) unknown_fence fence_determined

-- ---- the whole check

pub record CheckedWell (s : State) (c : Checked) : Type 1 where
  pub follows : Follows s c.state
  pub holds : AnswerHolds c.state c.answer

-- conflict with a ring, sat without one
abbrev pub RingDecides : Checked → Type 0
RingDecides c = (HasRing c.state × ((ls : List EqLeaf) × (c.answer ≡ Conflict ls))) ⊎ ((HasRing c.state → ⊥) × (c.answer ≡ Sat))

ring_holds : (s : State) → Ready s → has_undetermined_class s ≡ false → (o : Option (List Edge)) → WalkSays s o → AnswerHolds s (ring_answer s o)
unfolding ring_answer
ring_holds s R d none w = record { no_ring = w; determined = d }
ring_holds s R d (some es) w = ring_refuted s R (Recorded s) es w

ring_decides : (s : State) (o : Option (List Edge)) → WalkSays s o → RingDecides (record { answer = ring_answer s o; state = s })
unfolding ring_answer
ring_decides s none w = inr (w, refl)
ring_decides s (some es) w = inl (ringed_ring s es w, (acyclicity_conflict s es, refl))

or_ring_well : (s : State) → Ready s → (r : Ruled) → RuledWell s r → Determined r → (o : Option TCheck) → r.answer ≡ o → CheckedWell s (or_ring o r.state)
unfolding or_ring
or_ring_well s R r w d none e = record {
  follows = w.follows;
  holds = ring_holds r.state (follows_ready s r.state w.follows R) (d e) (constructor_graph_find_cycle r.state) (walk_says r.state);
}
or_ring_well s R r w d (some a) e = record { follows = w.follows; holds = w.holds a e }

pub full_check_well : (s : State) → Ready s → CheckedWell s (full_check s)
unfolding full_check
full_check_well s R = or_ring_well s R (before_ring s) (before_ring_well s R) (before_ring_determined s) (before_ring s).answer refl

or_ring_decides : (s : State) (o : Option TCheck) → o ≡ none → RingDecides (or_ring o s)
unfolding or_ring
or_ring_decides s none e = ring_decides s (constructor_graph_find_cycle s) (walk_says s)
or_ring_decides s (some a) e = absurd (none_some a (sym e))

-- A check that no rule before the ring answers says conflict exactly when there is a ring, else sat.
pub full_check_decides : (s : State) → (before_ring s).answer ≡ none → RingDecides (full_check s)
unfolding full_check
full_check_decides s e = or_ring_decides (before_ring s).state (before_ring s).answer e
