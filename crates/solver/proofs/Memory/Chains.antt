-- The marked constructor applications of a class along its chain: applications of other classes let a rule pass, so those from a number
-- on are as good as those from the first of the class on. And rules by marked term.
use Rattle.shinri_core.proofs.Kit.{ℕ, zero, suc, ◌+◌, ◌-◌, ◌≤◌, ◌<◌, ◌≡◌, refl, sym, ap, ◌∙◌, subst, subst⁻¹, ◌⊎◌, inl, inr, Bool, true, false, cond, true≢false, List, [], ◌∷◌, none, some, Option, arith, eqb, eqb→eq, length, add-one}
use Rattle.shinri_core.specs.Limits.{max_terms}
use Rattle.shinri_core.specs.Lists.{first, gather, cons_option}
use Rattle.shinri_core.specs.Context.{Context, CtorApp, ctor_app}
use Rattle.shinri_core.specs.Formed.{Extends}
use Rattle.shinri_core.specs.Memory.Words.{at}
use Rattle.shinri_core.specs.Memory.Table.{context}
use Rattle.shinri_core.proofs.Lists.{T_true, true_T, not_true_false}
use Rattle.theory.specs.EqEngine.{Merge, classes, are_equal}
use Rattle.theory.specs.Memory.Table.{merges}
use Rattle.solver.specs.State.{State, ctor_apps}
use Rattle.solver.specs.Rules.{Ruled, pass, go_on, then, try_each}
use Rattle.solver.specs.declared.answer.TCheck as TCheck
use Rattle.solver.specs.Memory.Table.{is_set, flagged_from, term_kind, MarksAre, dt_with, state_with}
use Rattle.solver.specs.Memory.Work.{W_MARK, NEXT, state_at, apps_from, first_in_class, app_word, WorkSound, ChainSound, CheckSound, word_from}
use Rattle.solver.specs.Memory.Answer.{Tried, RuleAnswer}
use Rattle.solver.specs.Memory.Checks.{Underway}
use Rattle.solver.specs.Memory.Collapse.{when, by_apps, if_marked}
use Rattle.solver.proofs.Basics.{first_some, gather_in}
use Rattle.solver.proofs.Terms.{extends_length}
use Rattle.solver.proofs.Apps.{ctor_app_is, app_within}
use Rattle.solver.proofs.Memory.Flags.{has, flagged_in, flagged_step, flagged_none}
use Rattle.solver.proofs.Memory.Roles.{ctor_kind}
use Rattle.solver.proofs.Memory.Growing.{marked_within, old_ctor_app, old_apps, chain_grows}
use Rattle.solver.proofs.Memory.Unfitting.{Onward, try_onward, pass_onward}
use Rattle.solver.proofs.Memory.Trying.{Trying, try_first, try_as, try_next, try_answer, try_done, then_same, tried_pass, tried_as}
use Rattle.std.specs.Prelude.{Ok}

-- ---- marked applications from a number on

-- a word of a chain and what stands behind it
unfoldable pub chain_from : Context → List ℕ → ℕ → List CtorApp
chain_from cx w zero = []
chain_from cx w (suc x) = apps_from cx w x

module _ (cx : Context) (w : List ℕ) where
  -- number i is no marked application, or the first of those from i on
  data FirstOf (i : ℕ) : Type 0 where
    none_here : apps_from cx w i ≡ apps_from cx w (suc i) → FirstOf i
    app_here : (a : CtorApp) → a.app ≡ i → apps_from cx w i ≡ a ∷ apps_from cx w (suc i) → FirstOf i

  first_of : (i : ℕ) → i < max_terms → FirstOf i
  unfolding apps_from gather cons_option
  first_of i h = go (has w W_MARK i) (ctor_app cx i) refl (flagged_step w W_MARK i h)
    where
      go : (b : Bool) (o : Option CtorApp) → ctor_app cx i ≡ o →
          flagged_from w W_MARK i ≡ cond b (i ∷ flagged_from w W_MARK (suc i)) (flagged_from w W_MARK (suc i)) → FirstOf i
      go false o p e = none_here (ap (gather (ctor_app cx)) e)
      go true none p e =
          none_here (ap (gather (ctor_app cx)) e ∙ ap (λ (z : Option CtorApp). cons_option z (apps_from cx w (suc i))) p)
      go true (some a) p e =
          app_here a (ctor_app_is cx i a p).app
          (ap (gather (ctor_app cx)) e ∙ ap (λ (z : Option CtorApp). cons_option z (apps_from cx w (suc i))) p)

  apps_end : (i : ℕ) → max_terms ≤ i → apps_from cx w i ≡ []
  unfolding apps_from gather
  apps_end i h = ap (gather (ctor_app cx)) (flagged_none w W_MARK i (λ x l g. absurd (omega arith)))

  -- a marked application is the first of those from its number on
  pub apps_here : (x : ℕ) (a : CtorApp) → x < max_terms → has w W_MARK x ≡ true → ctor_app cx x ≡ some a →
      apps_from cx w x ≡ a ∷ apps_from cx w (suc x)
  unfolding apps_from gather cons_option
  apps_here x a l m p =
      ap (gather (ctor_app cx))
      (flagged_step w W_MARK x l ∙ ap (λ (b : Bool). cond b (x ∷ flagged_from w W_MARK (suc x)) (flagged_from w W_MARK (suc x))) m)
      ∙ ap (λ (z : Option CtorApp). cons_option z (apps_from cx w (suc x))) p

  -- those that let the rule pass are passed over
  module _
      (rule : CtorApp → State → Ruled) (p : CtorApp → Bool) (S : State) (others : (a : CtorApp) → p a ≡ false → rule a S ≡ pass S)
    where
      abbrev Skips : List CtorApp → Type 0
      Skips as' = try_each rule as' S ≡ try_each rule (chain_from cx w (app_word (first p as'))) S

      skip_one : (i : ℕ) (a : CtorApp) → a.app ≡ i → apps_from cx w i ≡ a ∷ apps_from cx w (suc i) → Skips (apps_from cx w (suc i)) →
          Skips (a ∷ apps_from cx w (suc i))
      unfolding first app_word chain_from try_each then pass go_on
      skip_one i a q e r = go (p a) refl
        where
          go : (b : Bool) → p a ≡ b →
              try_each rule (a ∷ apps_from cx w (suc i)) S
              ≡ try_each rule (chain_from cx w (app_word (cond b (some a) (first p (apps_from cx w (suc i)))))) S
          go true h = ap (λ (as' : List CtorApp). try_each rule as' S) (sym e ∙ ap (apps_from cx w) (sym q))
          go false h = ap (λ (z : Ruled). then z (λ S'. try_each rule (apps_from cx w (suc i)) S')) (others a h) ∙ r

      skip_from : (n i : ℕ) → i + n ≡ max_terms → Skips (apps_from cx w i)
      skip_from zero i h = subst⁻¹ Skips (apps_end i (omega arith)) (unfold first app_word chain_from in refl)
      skip_from (suc n) i h = go (first_of i (omega arith)) (skip_from n (suc i) (omega arith))
        where
          go : FirstOf i → Skips (apps_from cx w (suc i)) → Skips (apps_from cx w i)
          go (none_here e) r = subst⁻¹ Skips e r
          go (app_here a q e) r = subst⁻¹ Skips e (skip_one i a q e r)

      pub skip_apps : (i : ℕ) → i ≤ max_terms → Skips (apps_from cx w i)
      skip_apps i h = skip_from (max_terms - i) i (omega arith)

-- ---- a chain

-- how far it is to the end of a chain at most
unfoldable pub chain_left : ℕ → ℕ
chain_left zero = 0
chain_left (suc x) = max_terms - x

module _ (cx : Context) (ms : List Merge) (w : List ℕ) where
  -- term x, not below i, is a marked application of arg's class
  pub record AppFrom (arg i x : ℕ) : Type 0 where
    pub low : i ≤ x
    pub within : x < max_terms
    pub mark : at w W_MARK x ≡ 1
    pub equal : are_equal ms arg x ≡ true
    pub app : CtorApp
    pub is_app : ctor_app cx x ≡ some app

  -- a word of the chain of arg's class: 0, or one more than such a term
  abbrev pub OnChain : ℕ → ℕ → ℕ → Type 0
  OnChain arg i zero = Unit {0}
  OnChain arg i (suc x) = AppFrom arg i x

  module _ (M : MarksAre cx w W_MARK) where
    app_mark : (x : ℕ) (a : CtorApp) → x < max_terms → has w W_MARK x ≡ true → ctor_app cx x ≡ some a → at w W_MARK x ≡ 1
    unfolding is_set
    app_mark x a l m p = go (M x l)
      where
        go : (at w W_MARK x ≡ 0) ⊎ (at w W_MARK x ≡ term_kind cx x) → at w W_MARK x ≡ 1
        go (inl z) = absurd (true≢false (sym m ∙ ap is_set z))
        go (inr z) = let C = ctor_app_is cx x a p in z ∙ ctor_kind cx x a.ctor C.op C.role

    pub on_first : (arg i : ℕ) → i ≤ max_terms → OnChain arg i (app_word (first_in_class ms arg (apps_from cx w i)))
    unfolding first_in_class apps_from app_word
    on_first arg i h = go (first (λ (a : CtorApp). are_equal ms arg a.app) (apps_from cx w i)) refl
      where
        go : (o : Option CtorApp) → first (λ (a : CtorApp). are_equal ms arg a.app) (apps_from cx w i) ≡ o → OnChain arg i (app_word o)
        go none e = tt
        go (some a) e =
            let (j, t) = first_some (λ (b : CtorApp). are_equal ms arg b.app) (apps_from cx w i) a e in
            let (x, k, p) = gather_in (ctor_app cx) (flagged_from w W_MARK i) a j in
            let (l, g, m) = flagged_in w W_MARK i x h k in
            let q = (ctor_app_is cx x a p).app in
            subst⁻¹ (AppFrom arg i) q (record {
              low = l;
              within = g;
              mark = app_mark x a g m p;
              equal = ap (are_equal ms arg) (sym q) ∙ T_true (are_equal ms arg a.app) t;
              app = a;
              is_app = p;
            })

  -- a lower bound less
  pub on_lower : (arg i k : ℕ) → OnChain arg i k → OnChain arg 0 k
  on_lower arg i zero m = tt
  on_lower arg i (suc x) m = record {
    low = omega arith;
    within = m.within;
    mark = m.mark;
    equal = m.equal;
    app = m.app;
    is_app = m.is_app;
  }

  -- a later word has less behind it
  pub shorter : (arg x k : ℕ) → x < max_terms → OnChain arg (suc x) k → chain_left k < chain_left (suc x)
  unfolding chain_left
  shorter arg x zero l m = omega arith
  shorter arg x (suc y) l m = let h = m.low in let g = m.within in omega arith

-- the first of a class by another of its terms
pub class_same : (ms : List Merge) (arg x : ℕ) (as' : List CtorApp) → are_equal ms arg x ≡ true →
    first_in_class ms x as' ≡ first_in_class ms arg as'
unfolding first_in_class are_equal
class_same ms arg x as' e =
    let q = eqb→eq ((classes ms).find arg) ((classes ms).find x) (true_T (eqb ((classes ms).find arg) ((classes ms).find x)) e) in
    ap (λ (z : ℕ). first (λ (a : CtorApp). eqb z ((classes ms).find a.app)) as') (sym q)

-- ---- a rule along a chain

-- a rule lets applications of other classes pass
abbrev pub PassesOthers : (CtorApp → State → Ruled) → List Merge → ℕ → Type 0
PassesOthers rule ms arg = (a : CtorApp) (S : State) → S.eq ≡ ms → are_equal ms arg a.app ≡ false → rule a S ≡ pass S

-- A rule is tried along the chain of arg's class; k is the word at hand.
pub record Walking (rule : CtorApp → State → Ruled) (c₀ e s₀ w : List ℕ) (arg : ℕ) (c s : List ℕ) (k : ℕ) : Type 0 where
  pub others : PassesOthers rule (merges e) arg
  pub trying : Trying (by_apps rule) (λ S. try_each rule (chain_from (context c₀) w k) S) c₀ e s₀ w c s
  pub on : OnChain (context c₀) (merges e) w arg 0 k

module _ (rule : CtorApp → State → Ruled) (c s e w : List ℕ) (lv : ℕ → ℕ) where
  pub all_apps : by_apps rule (state_at c e s w lv) ≡ try_each rule (apps_from (context c) w 0) (state_at c e s w lv)
  unfolding by_apps ctor_apps apps_from state_with dt_with
  all_apps = refl

  pub to_first : (c₀ : List ℕ) (arg i : ℕ) → PassesOthers rule (merges e) arg → i ≤ max_terms →
      try_each rule (apps_from (context c₀) w i) (state_at c e s w lv)
      ≡ try_each rule (chain_from (context c₀) w (app_word (first_in_class (merges e) arg (apps_from (context c₀) w i))))
      (state_at c e s w lv)
  unfolding first_in_class state_with
  to_first c₀ arg i others h =
      skip_apps (context c₀) w rule (λ (a : CtorApp). are_equal (merges e) arg a.app) (state_at c e s w lv)
      (λ a q. others a (state_at c e s w lv) refl q) i h

pub walk_first : (rule : CtorApp → State → Ruled) {c e s w : List ℕ} {arg k : ℕ} → PassesOthers rule (merges e) arg →
    CheckSound c e s w → k ≡ word_from c e w arg 0 → Walking rule c e s w arg c s k
walk_first rule {c} {e} {s} {w} {arg} others C z =
    subst⁻¹ (Walking rule c e s w arg c s) z (record {
      others = others;
      trying = try_as (try_first (by_apps rule) C) (λ lv. all_apps rule c s e w lv
          ∙ to_first rule c s e w lv c arg 0 others (omega arith));
      on = on_first (context c) (merges e) w C.work.marks arg 0 (omega arith);
    })

module _
    {rule : CtorApp → State → Ruled} {c₀ e s₀ w : List ℕ} {arg : ℕ} {c s : List ℕ} {k here : ℕ}
    (W : Walking rule c₀ e s₀ w arg c s k) (word_here : k ≡ suc here)
  where
    pub walk_at : AppFrom (context c₀) (merges e) w arg 0 here
    walk_at = subst (OnChain (context c₀) (merges e) w arg 0) word_here W.on

    pub walk_app : ctor_app (context c) here ≡ some walk_at.app
    walk_app =
        let C = ctor_app_is (context c₀) here walk_at.app walk_at.is_app in
        old_ctor_app (context c₀) (context c) W.trying.extends here (app_within (context c₀) here walk_at.app.ctor C.op)
        ∙ walk_at.is_app

    -- the word behind it
    abbrev later : ℕ
    later = app_word (first_in_class (merges e) arg (apps_from (context c₀) w (suc here)))

    later_is : {k' : ℕ} → ChainSound c₀ e w → k' ≡ at w NEXT here → k' ≡ later
    later_is H p =
        let A = walk_at in
        p ∙ H.next here A.within A.mark
        ∙ ap app_word (class_same (merges e) arg here (apps_from (context c₀) w (suc here)) A.equal)

    on_later : WorkSound c₀ e w → OnChain (context c₀) (merges e) w arg (suc here) later
    on_later Z = on_first (context c₀) (merges e) w Z.marks arg (suc here) (omega (arith, walk_at.within))

    abbrev step : State → Ruled
    step = when rule (ctor_app (context c) here)

    abbrev next : State → Ruled
    next S = try_each rule (apps_from (context c₀) w (suc here)) S

    stepping : Trying (by_apps rule) (λ S. then (step S) next) c₀ e s₀ w c s
    unfolding chain_from try_each when is_set
    stepping =
        let A = walk_at in
        try_as W.trying (λ lv.
        ap (λ (as' : List CtorApp). try_each rule as' (state_at c e s w lv))
        (ap (chain_from (context c₀) w) word_here
        ∙ apps_here (context c₀) w here A.app A.within (ap is_set A.mark) A.is_app)
        ∙ ap (λ (o : Option CtorApp). then (when rule o (state_at c e s w lv)) next) (sym walk_app))

    module _ {r : RuleAnswer} {c' s' o : List ℕ} (T : Tried step c e s w r c' s' w o) where
      -- the rule passes there
      pub walk_next : {k' : ℕ} → WorkSound c₀ e w → ChainSound c₀ e w → r ≡ Ok TCheck.TheVariants.Sat → k' ≡ at w NEXT here →
          Walking rule c₀ e s₀ w arg c' s' k'
      walk_next Z H q p =
          let l = walk_at.within in
          subst⁻¹ (Walking rule c₀ e s₀ w arg c' s') (later_is H p) (record {
            others = W.others;
            trying =
                try_as (try_next step next stepping T q) (λ lv. to_first rule c' s' e w lv c₀ arg (suc here) W.others (omega arith));
            on = on_lower (context c₀) (merges e) w arg (suc here) later (on_later Z);
          })

      -- it answers
      pub walk_answer : (r ≡ Ok TCheck.TheVariants.Sat → ⊥) → ((a : CtorApp) (S : State) → Onward S (rule a S).state) →
          Tried (by_apps rule) c₀ e s₀ w r c' s' w o
      walk_answer m h = try_answer step next stepping T m (λ S. try_onward rule h (apps_from (context c₀) w (suc here)) S)

    pub walk_less : {k' : ℕ} → WorkSound c₀ e w → ChainSound c₀ e w → k' ≡ at w NEXT here → chain_left k' < chain_left k
    unfolding chain_left
    walk_less {k'} Z H p =
        subst⁻¹ (λ (j : ℕ). chain_left k' < chain_left j) word_here
        (subst⁻¹ (λ (j : ℕ). chain_left j < chain_left (suc here)) (later_is H p)
        (shorter (context c₀) (merges e) w arg here later walk_at.within (on_later Z)))

pub walk_done : {rule : CtorApp → State → Ruled} {c₀ e s₀ w : List ℕ} {arg : ℕ} {c s o : List ℕ} {k : ℕ} →
    Walking rule c₀ e s₀ w arg c s k → k ≡ 0 → Tried (by_apps rule) c₀ e s₀ w (Ok TCheck.TheVariants.Sat) c s w o
unfolding chain_from try_each
walk_done {rule} {c₀} {e} {s₀} {w} {arg} {c} {s} W z =
    try_done (try_as W.trying (λ lv. ap (λ (j : ℕ). try_each rule (chain_from (context c₀) w j) (state_at c e s w lv)) z))

-- ---- a rule by marked term, then by marked application

-- what is there of a list is what the partial function gives of it
try_gather : {A B : Type 0} (rule : B → State → Ruled) (f : A → Option B) (xs : List A) (S : State) →
    try_each rule (gather f xs) S ≡ try_each (λ y. when rule (f y)) xs S
unfolding gather cons_option try_each when then pass go_on
try_gather rule f [] S = refl
try_gather {B = B} rule f (x ∷ xs) S = go (f x) (λ S'. try_gather rule f xs S')
  where
    go : (o : Option B) → ((S' : State) → try_each rule (gather f xs) S' ≡ try_each (λ y. when rule (f y)) xs S') →
        try_each rule (cons_option o (gather f xs)) S ≡ then (when rule o S) (λ S'. try_each (λ y. when rule (f y)) xs S')
    go none h = h S
    go (some a) h = then_same (rule a S) (λ S'. try_each rule (gather f xs) S') (λ S'. try_each (λ y. when rule (f y)) xs S') h

module _ {A : Type 0} (rule : A → CtorApp → State → Ruled) (f : Context → ℕ → Option A) where
  -- for each marked term that is one of a kind, for each marked application
  unfoldable pub by_terms : State → Ruled
  by_terms S = try_each (λ a S'. try_each (rule a) (ctor_apps S) S') (gather (f S.terms) S.dt.marks) S

  abbrev turn : Context → List CtorApp → ℕ → State → Ruled
  turn cx ctors y = when (λ a S. try_each (rule a) ctors S) (f cx y)

  -- the rule has come to term x
  pub record Listing (c₀ e s₀ w c s : List ℕ) (x : ℕ) : Type 0 where
    pub trying : Trying by_terms (λ S. try_each (turn (context c₀) (apps_from (context c₀) w 0)) (flagged_from w W_MARK x) S) c₀ e s₀ w c s

  pub list_first : {c e s w : List ℕ} → CheckSound c e s w → Listing c e s w c s 0
  unfolding by_terms ctor_apps apps_from state_with dt_with
  list_first {c} {e} {s} {w} C = record {
    trying =
        try_as (try_first by_terms C) (λ lv.
        try_gather (λ a S'. try_each (rule a) (apps_from (context c) w 0) S') (f (context c)) (flagged_from w W_MARK 0)
        (state_at c e s w lv));
  }

  module _
      (kept : (a b : Context) → Extends a b → (x : ℕ) → x < length a.terms → f b x ≡ f a x) {c₀ e s₀ w c s : List ℕ} {x : ℕ}
      (L : Listing c₀ e s₀ w c s x) (C : CheckSound c₀ e s₀ w) (l : x < length (context c₀).terms)
    where
      abbrev list_step : State → Ruled
      list_step = if_marked w x (when (λ a. by_apps (rule a)) (f (context c) x))

      abbrev list_rest : State → Ruled
      list_rest S = try_each (turn (context c₀) (apps_from (context c₀) w 0)) (flagged_from w W_MARK (suc x)) S

      node : x < max_terms
      node = omega (arith, C.state.core.term_count, C.state.core.terms_fit)

      -- the tables that have grown since show the same applications
      same_turn : (o : Option A) (lv : ℕ → ℕ) →
          when (λ a S. try_each (rule a) (apps_from (context c₀) w 0) S) o (state_at c e s w lv)
          ≡ when (λ a. by_apps (rule a)) o (state_at c e s w lv)
      unfolding when
      same_turn none lv = refl
      same_turn (some a) lv =
          ap (λ (as' : List CtorApp). try_each (rule a) as' (state_at c e s w lv))
          (sym (old_apps (context c₀) (context c) L.trying.extends w C.work.marks 0 (omega arith)))
          ∙ sym (all_apps (rule a) c s e w lv)

      unfolded : (b : Bool) (S : State) →
          try_each (turn (context c₀) (apps_from (context c₀) w 0))
          (cond b (x ∷ flagged_from w W_MARK (suc x)) (flagged_from w W_MARK (suc x))) S
          ≡ then (cond b (turn (context c₀) (apps_from (context c₀) w 0) x S) (pass S)) list_rest
      unfolding try_each then pass go_on
      unfolded true S = refl
      unfolded false S = refl

      list_stepping : Trying by_terms (λ S. then (list_step S) list_rest) c₀ e s₀ w c s
      unfolding if_marked
      list_stepping =
          try_as L.trying (λ lv.
          let S = state_at c e s w lv in
          ap (λ (xs : List ℕ). try_each (turn (context c₀) (apps_from (context c₀) w 0)) xs S) (flagged_step w W_MARK x node)
          ∙ unfolded (has w W_MARK x) S
          ∙ ap (λ (z : Ruled). then (cond (has w W_MARK x) z (pass S)) list_rest)
          (same_turn (f (context c₀) x) lv
          ∙ ap (λ (o : Option A). when (λ a. by_apps (rule a)) o S) (sym (kept (context c₀) (context c) L.trying.extends x l))))

      module _ {r : RuleAnswer} {c' s' o : List ℕ} (T : Tried list_step c e s w r c' s' w o) where
        pub list_next : r ≡ Ok TCheck.TheVariants.Sat → Listing c₀ e s₀ w c' s' (x + 1)
        list_next q = subst⁻¹ (Listing c₀ e s₀ w c' s') (add-one x) (record { trying = try_next list_step list_rest list_stepping T q })

        pub list_answer : (r ≡ Ok TCheck.TheVariants.Sat → ⊥) → ((a : A) (b : CtorApp) (S : State) → Onward S (rule a b S).state) →
            Tried by_terms c₀ e s₀ w r c' s' w o
        list_answer n h =
            try_answer list_step list_rest list_stepping T n
            (λ S. try_onward (turn (context c₀) (apps_from (context c₀) w 0)) onward (flagged_from w W_MARK (suc x)) S)
          where
            go : (o' : Option A) (S : State) → Onward S (when (λ a S'. try_each (rule a) (apps_from (context c₀) w 0) S') o' S).state
            go none S = unfold when in pass_onward S
            go (some a) S = unfold when in try_onward (rule a) (h a) (apps_from (context c₀) w 0) S

            onward : (y : ℕ) (S : State) → Onward S (turn (context c₀) (apps_from (context c₀) w 0) y S).state
            onward y S = go (f (context c₀) y) S

  -- a term that was there is still one
  pub list_within : {c₀ e s₀ w c s : List ℕ} {x : ℕ} → Listing c₀ e s₀ w c s x → x < length (context c₀).terms →
      x < length (context c).terms
  list_within {c₀} {c = c} L l = let h = extends_length (context c₀) (context c) L.trying.extends in omega arith

  pub list_done : {c₀ e s₀ w c s o : List ℕ} {x : ℕ} → Listing c₀ e s₀ w c s x → CheckSound c₀ e s₀ w → length (context c₀).terms ≤ x →
      Tried by_terms c₀ e s₀ w (Ok TCheck.TheVariants.Sat) c s w o
  unfolding try_each
  list_done {c₀} {e} {s₀} {w} {c} {s} {o} {x} L C l =
      try_done (try_as L.trying (λ lv.
      ap (λ (xs : List ℕ). try_each (turn (context c₀) (apps_from (context c₀) w 0)) xs (state_at c e s w lv))
      (flagged_none w W_MARK x (λ y g h. not_true_false (has w W_MARK y) (λ q.
      let k = marked_within (context c₀) w W_MARK y C.work.marks h q in
      absurd (omega arith))))))

-- ---- one marked term

module _ {A : Type 0} (rule : A → CtorApp → State → Ruled) {c e s w : List ℕ} (x : ℕ) (a : Option A) where
  -- not marked, or of another kind
  pub term_passes : {o : List ℕ} → CheckSound c e s w → (at w W_MARK x ≡ 0) ⊎ (a ≡ none) →
      Tried (if_marked w x (when (λ z. by_apps (rule z)) a)) c e s w (Ok TCheck.TheVariants.Sat) c s w o
  unfolding if_marked when is_set
  term_passes C (inl q) =
      tried_pass C (λ lv.
      let S = state_at c e s w lv in
      ap (λ (n : ℕ). cond (is_set n) (when (λ z. by_apps (rule z)) a S) (pass S)) q)
  term_passes C (inr q) =
      tried_pass C (λ lv.
      let S = state_at c e s w lv in
      ap (λ (o : Option A). cond (is_set (at w W_MARK x)) (when (λ z. by_apps (rule z)) o S) (pass S)) q
      ∙ either (is_set (at w W_MARK x)) S)
    where
      either : (b : Bool) (S : State) → cond b (pass S) (pass S) ≡ pass S
      either true S = refl
      either false S = refl

  -- marked
  pub term_tried : {k : ℕ} {r : RuleAnswer} {c' s' o : List ℕ} → at w W_MARK x ≡ suc k →
      Tried (λ S. when (λ z. by_apps (rule z)) a S) c e s w r c' s' w o →
      Tried (if_marked w x (when (λ z. by_apps (rule z)) a)) c e s w r c' s' w o
  unfolding if_marked is_set
  term_tried q T =
      tried_as T (λ lv.
      let S = state_at c e s w lv in
      ap (λ (n : ℕ). cond (is_set n) (when (λ z. by_apps (rule z)) a S) (pass S)) q)

-- a check under way, with the terms that have been made since
pub still_under : {c₀ e s₀ w o₀ c s o : List ℕ} → Underway c₀ e s₀ w o₀ → CheckSound c e s w → Extends (context c₀) (context c) →
    length o ≡ length o₀ → Underway c e s w o
still_under {c₀} {e} {s₀} {w} {o₀} {c} U C ex l = record {
  check = C;
  chain = chain_grows c₀ c ex C.state.core C.state.formed e w U.chain U.check.work;
  long = let h = U.long in omega arith;
}
