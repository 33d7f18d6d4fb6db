-- The marked constructor applications by number: what stands first among those from a number on.
use Rattle.shinri_core.proofs.Kit.{ℕ, zero, suc, ◌+◌, ◌-◌, ◌≤◌, ◌<◌, ◌%◌, ◌≡◌, refl, sym, ap, ◌∙◌, subst, subst⁻¹, ◌⊎◌, inl, inr, Bool, true, false, cond, true≢false, List, [], ◌∷◌, none, some, Option, dec_lt, arith, eqb, ne_eqb, eqb-true, eqb-false, length}
use Rattle.shinri_core.specs.Limits.{max_terms}
use Rattle.shinri_core.specs.Lists.{In, first, gather, cons_option}
use Rattle.shinri_core.specs.Context.{Context, CtorApp, ctor_app}
use Rattle.shinri_core.specs.Memory.Words.{at}
use Rattle.shinri_core.specs.Memory.Table.{context}
use Rattle.shinri_core.specs.Memory.Codes.{op_meaning, OpAt}
use Rattle.shinri_core.specs.declared.term.Op as Op
use Rattle.solver.specs.Memory.Table.{is_set, flagged_from, term_kind, MarksAre}
use Rattle.solver.specs.Memory.Work.{W_MARK, apps_from, app_word}
use Rattle.solver.specs.Memory.ConstructorClash.{op_symbol, symbol_of, app_at, MarkedApp}
use Rattle.solver.proofs.Basics.{in_gather}
use Rattle.solver.proofs.Memory.Flags.{flagged_step, flagged_none, in_flagged}
use Rattle.solver.proofs.Memory.Roles.{kind_ctor, kind_no_ctor}
use Rattle.solver.proofs.Memory.Growing.{kind_within}

-- ---- an application by its number

pub kind_app : (cx : Context) (x : ℕ) → term_kind cx x ≡ 1 → ctor_app cx x ≡ some (app_at cx x)
unfolding symbol_of op_symbol
kind_app cx x e = let (f, p, q, r) = kind_ctor cx x e in rw p r

-- ---- those from a number on

module _ (cx : Context) (w : List ℕ) (M : MarksAre cx w W_MARK) where
  -- those from i on are the one of number i, if it is marked so, and those behind it
  pub apps_step : (i : ℕ) → i < max_terms →
      apps_from cx w i ≡ cond (eqb (at w W_MARK i) 1) (app_at cx i ∷ apps_from cx w (suc i)) (apps_from cx w (suc i))
  unfolding apps_from is_set gather cons_option
  apps_step i l = rw (flagged_step w W_MARK i l) (go (at w W_MARK i) (M i l))
    where
      go : (m : ℕ) → (m ≡ 0) ⊎ (m ≡ term_kind cx i) →
          gather (ctor_app cx) (cond (is_set m) (i ∷ flagged_from w W_MARK (suc i)) (flagged_from w W_MARK (suc i)))
          ≡ cond (eqb m 1) (app_at cx i ∷ gather (ctor_app cx) (flagged_from w W_MARK (suc i)))
          (gather (ctor_app cx) (flagged_from w W_MARK (suc i)))
      go zero k = refl
      go (suc zero) (inl e) = absurd (omega arith)
      go (suc zero) (inr e) = rw (kind_app cx i (sym e))
      go (suc (suc m)) (inl e) = absurd (omega arith)
      go (suc (suc m)) (inr e) = rw (kind_no_ctor cx i (omega arith), ne_eqb (suc (suc m)) 1 (omega arith))

  -- a marked application is a term
  pub marked_app_within : (x : ℕ) → MarkedApp w x → x < length cx.terms
  marked_app_within x m = go (M x m.node)
    where
      go : (at w W_MARK x ≡ 0) ⊎ (at w W_MARK x ≡ term_kind cx x) → x < length cx.terms
      go (inl z) = let k = m.mark in absurd (omega arith)
      go (inr z) = kind_within cx x 0 (sym z ∙ m.mark)

  pub apps_none : (i : ℕ) → max_terms ≤ i → apps_from cx w i ≡ []
  unfolding apps_from gather
  apps_none i l = rw (flagged_none w W_MARK i (λ x h g. absurd (omega arith)))

  -- a marked application stands among those from a lower number on
  pub app_in : (i x : ℕ) → i ≤ x → MarkedApp w x → In (app_at cx x) (apps_from cx w i)
  unfolding apps_from is_set
  app_in i x l m =
      in_gather (ctor_app cx) (flagged_from w W_MARK i) x (app_at cx x) (in_flagged w W_MARK i x l m.node (ap is_set m.mark))
      (kind_app cx x (go (M x m.node)))
    where
      go : (at w W_MARK x ≡ 0) ⊎ (at w W_MARK x ≡ term_kind cx x) → term_kind cx x ≡ 1
      go (inl z) = let k = m.mark in absurd (omega arith)
      go (inr z) = sym z ∙ m.mark

  -- none from i on passes a test, or q is the first that does
  abbrev FirstFrom : (CtorApp → Bool) → ℕ → Option CtorApp → Type 0
  FirstFrom p i none = (y : ℕ) → i ≤ y → MarkedApp w y → p (app_at cx y) ≡ false
  FirstFrom p i (some a) =
      (q : ℕ) × (a ≡ app_at cx q) × (i ≤ q) × MarkedApp w q × (p (app_at cx q) ≡ true)
      × ((y : ℕ) → i ≤ y → y < q → MarkedApp w y → p (app_at cx y) ≡ false)

  module _ (p : CtorApp → Bool) where
    passed : (i y : ℕ) → (MarkedApp w i → p (app_at cx i) ≡ false) → i ≤ y → MarkedApp w y → (suc i ≤ y → p (app_at cx y) ≡ false) →
        p (app_at cx y) ≡ false
    passed i y h l m f = go (dec_lt i y)
      where
        go : Dec (i < y) → p (app_at cx y) ≡ false
        go (yes k) = f (omega arith)
        go (no k) =
            let e : i ≡ y = omega arith in
            subst (λ (z : ℕ). p (app_at cx z) ≡ false) e (h (subst⁻¹ (λ (z : ℕ). MarkedApp w z) e m))

    one_more : (i : ℕ) (o : Option CtorApp) → (MarkedApp w i → p (app_at cx i) ≡ false) → FirstFrom p (suc i) o → FirstFrom p i o
    one_more i none h f = λ y l m. passed i y h l m (λ k. f y k m)
    one_more i (some a) h (q, e, l, m, t, f) = (q, e, omega arith, m, t, λ y k g n. passed i y h k n (λ j. f y j g n))

    first_from : (n i : ℕ) → n + i ≡ max_terms → FirstFrom p i (first p (apps_from cx w i))
    unfolding first
    first_from zero i e =
        subst⁻¹ (λ (l : List CtorApp). FirstFrom p i (first p l)) (apps_none i (omega arith))
        (λ y l m. let k = m.node in absurd (omega arith))
    first_from (suc n) i e =
        subst⁻¹ (λ (l : List CtorApp). FirstFrom p i (first p l)) (apps_step i (omega arith))
        (go (eqb (at w W_MARK i) 1) refl (p (app_at cx i)) refl (first_from n (suc i) (omega arith)))
      where
        go : (b : Bool) → eqb (at w W_MARK i) 1 ≡ b → (t : Bool) → p (app_at cx i) ≡ t →
            FirstFrom p (suc i) (first p (apps_from cx w (suc i))) →
            FirstFrom p i (first p (cond b (app_at cx i ∷ apps_from cx w (suc i)) (apps_from cx w (suc i))))
        go false k t f r = one_more i (first p (apps_from cx w (suc i))) (λ m. absurd (eqb-false (at w W_MARK i) 1 k m.mark)) r
        go true k true f r =
            rw f (
              i,
              refl,
              omega arith,
              record { node = omega arith; mark = eqb-true (at w W_MARK i) 1 k },
              f,
              λ y l g m. absurd
                  (omega arith),
            )
        go true k false f r = rw f (one_more i (first p (apps_from cx w (suc i))) (λ m. f) r)

    abbrev from : (i : ℕ) → i ≤ max_terms → FirstFrom p i (first p (apps_from cx w i))
    from i l = first_from (max_terms - i) i (omega arith)

    -- the first that passes
    pub first_at : (i q : ℕ) → i ≤ q → MarkedApp w q → p (app_at cx q) ≡ true →
        ((y : ℕ) → i ≤ y → y < q → MarkedApp w y → p (app_at cx y) ≡ false) → first p (apps_from cx w i) ≡ some (app_at cx q)
    first_at i q l m t h = let k = m.node in go (first p (apps_from cx w i)) (from i (omega arith))
      where
        same : (r : ℕ) → Dec (r < q) → Dec (q < r) → i ≤ r → MarkedApp w r → p (app_at cx r) ≡ true →
            ((y : ℕ) → i ≤ y → y < r → MarkedApp w y → p (app_at cx y) ≡ false) → r ≡ q
        same r (yes a) d k n u f = absurd (true≢false (sym u ∙ h r k a n))
        same r (no a) (yes b) k n u f = absurd (true≢false (sym t ∙ f q l b m))
        same r (no a) (no b) k n u f = omega arith

        go : (o : Option CtorApp) → FirstFrom p i o → o ≡ some (app_at cx q)
        go none f = absurd (true≢false (sym t ∙ f q l m))
        go (some a) (r, e, k, n, u, f) =
            ap {B = Option CtorApp} some (e ∙ ap (app_at cx) (same r (dec_lt r q) (dec_lt q r) k n u f))

    -- none passes
    pub first_none_at : (i : ℕ) → i ≤ max_terms → ((y : ℕ) → i ≤ y → MarkedApp w y → p (app_at cx y) ≡ false) →
        first p (apps_from cx w i) ≡ none
    first_none_at i l h = go (first p (apps_from cx w i)) (from i l)
      where
        go : (o : Option CtorApp) → FirstFrom p i o → o ≡ none
        go none f = refl
        go (some a) (r, e, k, n, u, f) = absurd (true≢false (sym u ∙ h r k n))

  -- word k says which application from i on is the first that passes a test
  pub record WordIs (p : CtorApp → Bool) (i k : ℕ) : Type 0 where
    pub none : k ≡ 0 → (y : ℕ) → i ≤ y → MarkedApp w y → p (app_at cx y) ≡ false
    pub after : (x : ℕ) → k ≡ suc x → i ≤ x
    pub app : (x : ℕ) → k ≡ suc x → MarkedApp w x
    pub passes : (x : ℕ) → k ≡ suc x → p (app_at cx x) ≡ true
    pub before : (x : ℕ) → k ≡ suc x → (y : ℕ) → i ≤ y → y < x → MarkedApp w y → p (app_at cx y) ≡ false

  pub word_is : (p : CtorApp → Bool) (i k : ℕ) → i ≤ max_terms → k ≡ app_word (first p (apps_from cx w i)) → WordIs p i k
  unfolding app_word
  word_is p i k l e = go (first p (apps_from cx w i)) (from p i l) e
    where
      go : (o : Option CtorApp) → FirstFrom p i o → k ≡ app_word o → WordIs p i k
      go none f d = record {
        none = λ z. f;
        after = λ x h. absurd (omega arith);
        app = λ x h. absurd (omega arith);
        passes = λ x h. absurd (omega arith);
        before = λ x h y g l m. f y g m;
      }
      go (some a) (q, b, h, m, t, f) d =
          let b' = ap (λ (x : CtorApp). x.app) b in
          let j : (x : ℕ) → k ≡ suc x → q ≡ x = λ x n. omega arith in
          record {
            none = λ z. absurd (omega arith);
            after = λ x n. subst (λ (y : ℕ). i ≤ y) (j x n) h;
            app = λ x n. subst (λ (y : ℕ). MarkedApp w y) (j x n) m;
            passes = λ x n. subst (λ (y : ℕ). p (app_at cx y) ≡ true) (j x n) t;
            before = λ x n y g u v. let e = j x n in f y g (omega arith) v;
          }

-- a walk from the word of an application to the word of one behind it, or to none, comes to an end
pub word_less : (cx : Context) (w : List ℕ) (M : MarksAre cx w W_MARK) (p : CtorApp → Bool) (x j : ℕ) → WordIs cx w M p (suc x) j →
    x < max_terms → (max_terms + 1 - j) % 1025 < (max_terms + 1 - suc x) % 1025
word_less cx w M p x zero W l = omega arith
word_less cx w M p x (suc y) W l =
    let a = W.after y refl in
    let b = (W.app y refl).node in
    omega arith

-- ---- the symbol of a term, by the code's operation

pub eq_symbol : {t : List ℕ} {x : ℕ} {r : Op.Op} → OpAt t x r → r ≡ Op.TheVariants.Eq → 0 ≡ symbol_of (context t) x
unfolding symbol_of op_symbol op_meaning
eq_symbol {t} o e = ap op_symbol (sym (ap op_meaning e) ∙ o.is)

pub app_symbol : {t : List ℕ} {x : ℕ} {r : Op.Op} {f : _} → OpAt t x r → r ≡ Op.TheVariants.Uninterpreted f →
    f.0 ≡ symbol_of (context t) x
unfolding symbol_of op_symbol op_meaning
app_symbol {t} o e = ap op_symbol (sym (ap op_meaning e) ∙ o.is)
