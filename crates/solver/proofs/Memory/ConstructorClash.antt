-- The first clash of two applications: no pair whose lower number is below p clashes, and of p the first clash is found along its class.
-- Of a class only the lowest application is asked: if it clashes with neither of two others, these do not clash.
use Rattle.shinri_core.proofs.Kit.{ℕ, zero, suc, ◌+◌, ◌-◌, ◌≤◌, ◌<◌, ◌%◌, ◌≡◌, refl, sym, ap, ◌∙◌, subst, subst⁻¹, Bool, true, false, cond, not, true≢false, List, [], ◌∷◌, none, some, Option, dec_lt, ℕ_discrete, arith, eqb, eq-eqb, ne_eqb, eqb-true, length}
use Rattle.shinri_core.specs.Limits.{max_terms}
use Rattle.shinri_core.specs.Lists.{first, beside, pairs}
use Rattle.shinri_core.specs.Context.{Context, CtorApp}
use Rattle.shinri_core.specs.Memory.Words.{at}
use Rattle.shinri_core.specs.Memory.Table.{context}
use Rattle.shinri_core.proofs.Lists.{and_no, T_and, true_T, T_true}
use Rattle.theory.specs.EqEngine.{Merge, find, are_equal, explain, firsts}
use Rattle.theory.specs.Memory.Table.{merges}
use Rattle.theory.specs.Memory.Answer.{leaves, Cleared}
use Rattle.theory.specs.Memory.Explaining.{Explainable, Explains}
use Rattle.theory.proofs.Classes.{equal_same, equal_refl, equal_sym}
use Rattle.solver.specs.State.{State, ctor_apps, equal}
use Rattle.solver.specs.Rules as Rules
use Rattle.solver.specs.Rules.{clash, clash_answer, constructor_clash, answered}
use Rattle.solver.specs.declared.answer.TCheck as TCheck
use Rattle.solver.specs.Memory.Table.{MarksAre, dt_with, state_with}
use Rattle.solver.specs.Memory.Work.{W_MARK, NEXT, apps_from, first_in_class, state_at, WorkSound, word_from}
use Rattle.solver.specs.Memory.Answer.{Tried}
use Rattle.solver.specs.Memory.ConstructorClash.{symbol_of, app_at, MarkedApp, clashing, NoClash, NoneBelow, FirstClash, ClashTables, ClassWalked, ClashAsked, ClashReady}
use Rattle.solver.proofs.Basics.{none_some, some_none, some_is}
use Rattle.solver.proofs.Terms.{extends_self}
use Rattle.solver.proofs.Memory.AppNumbers.{marked_app_within, apps_step, apps_none, first_at, first_none_at, WordIs, word_is, word_less}
use Rattle.std.specs.Prelude.{Ok}

-- ---- the first pair that passes a test

module _ {A : Type 0} (P : A × A → Bool) where
  beside_none : (x : A) (ys : List A) (rest : List (A × A)) → first (λ y. P (x, y)) ys ≡ none → first P (beside x ys rest) ≡ first P rest
  unfolding first beside
  beside_none x [] rest e = refl
  beside_none x (y ∷ ys) rest e = go (P (x, y)) refl e (beside_none x ys rest)
    where
      go : (b : Bool) → P (x, y) ≡ b → cond b (some y) (first (λ z. P (x, z)) ys) ≡ none →
          (first (λ z. P (x, z)) ys ≡ none → first P (beside x ys rest) ≡ first P rest) →
          cond (P (x, y)) (some (x, y)) (first P (beside x ys rest)) ≡ first P rest
      go true q s f = absurd (some_none y s)
      go false q s f = rw q (f s)

  beside_some : (x : A) (ys : List A) (rest : List (A × A)) (z : A) → first (λ y. P (x, y)) ys ≡ some z →
      first P (beside x ys rest) ≡ some (x, z)
  unfolding first beside
  beside_some x [] rest z e = absurd (none_some z e)
  beside_some x (y ∷ ys) rest z e = go (P (x, y)) refl e (beside_some x ys rest z)
    where
      go : (b : Bool) → P (x, y) ≡ b → cond b (some y) (first (λ u. P (x, u)) ys) ≡ some z →
          (first (λ u. P (x, u)) ys ≡ some z → first P (beside x ys rest) ≡ some (x, z)) →
          cond (P (x, y)) (some (x, y)) (first P (beside x ys rest)) ≡ some (x, z)
      go true q s f = rw q (ap {B = Option (A × A)} (λ u. some (x, u)) (some_is y z s))
      go false q s f = rw q (f s)

-- ---- clashes by number

module _ (c e s w : List ℕ) (lv : ℕ → ℕ) (M : MarksAre (context c) w W_MARK) where
  abbrev cx : Context
  cx = context c

  abbrev S : State
  S = state_at c e s w lv

  -- the definition's test is that of the numbers
  clash_is : (x y : ℕ) → clash S (app_at cx x, app_at cx y) ≡ clashing c e x y
  unfolding clash clashing equal state_with
  clash_is x y = refl

  shift : (i : ℕ) → i ≤ max_terms → NoneBelow c e w i →
      first (clash S) (pairs (apps_from cx w 0)) ≡ first (clash S) (pairs (apps_from cx w i))
  unfolding pairs
  shift zero l h = refl
  shift (suc i) l h =
      shift i (omega arith) (λ x k. h x (omega arith))
      ∙ subst⁻¹ (λ (as' : List CtorApp). first (clash S) (pairs as') ≡ first (clash S) (pairs (apps_from cx w (suc i))))
      (apps_step cx w M i (omega arith)) (go (eqb (at w W_MARK i) 1) refl)
    where
      go : (b : Bool) → eqb (at w W_MARK i) 1 ≡ b →
          first (clash S) (pairs (cond b (app_at cx i ∷ apps_from cx w (suc i)) (apps_from cx w (suc i))))
          ≡ first (clash S) (pairs (apps_from cx w (suc i)))
      go true k =
          beside_none (clash S) (app_at cx i) (apps_from cx w (suc i)) (pairs (apps_from cx w (suc i)))
          (first_none_at cx w M (λ y. clash S (app_at cx i, y)) (suc i) l (λ y g m.
          clash_is i y
          ∙ h i (omega arith) (record { node = omega arith; mark = eqb-true (at w W_MARK i) 1 k }) y (omega arith) m.node m))
      go false k = refl

  no_clash : (n : ℕ) → length cx.terms ≤ n → NoneBelow c e w n → first (clash S) (pairs (apps_from cx w 0)) ≡ none
  unfolding pairs first
  no_clash n l h = shift max_terms (omega arith) below
      ∙ ap (λ (as' : List CtorApp). first (clash S) (pairs as')) (apps_none cx w M max_terms (omega arith))
    where
      below : NoneBelow c e w max_terms
      below x k m = let d = marked_app_within cx w M x m in h x (omega arith) m

  first_clash : (p q : ℕ) → NoneBelow c e w p → FirstClash c e w p q →
      first (clash S) (pairs (apps_from cx w 0)) ≡ some (app_at cx p, app_at cx q)
  unfolding pairs
  first_clash p q h F =
      let k = F.lower.node in
      shift p (omega arith) h
      ∙ subst⁻¹ (λ (as' : List CtorApp). first (clash S) (pairs as') ≡ some (app_at cx p, app_at cx q)) (apps_step cx w M p k)
      (subst⁻¹
      (λ (b : Bool). first (clash S) (pairs (cond b (app_at cx p ∷ apps_from cx w (suc p)) (apps_from cx w (suc p))))
      ≡ some (app_at cx p, app_at cx q))
      (eq-eqb (at w W_MARK p) 1 F.lower.mark)
      (beside_some (clash S) (app_at cx p) (apps_from cx w (suc p)) (pairs (apps_from cx w (suc p))) (app_at cx q)
      (first_at cx w M (λ y. clash S (app_at cx p, y)) (suc p) q F.above F.higher (clash_is p q ∙ F.clash)
      (λ y g u m. clash_is p y ∙ F.between y g u m))))

-- ---- two terms of one class

module _ (c e : List ℕ) where
  apart_clash_not : (x y : ℕ) → are_equal (merges e) x y ≡ false → clashing c e x y ≡ false
  unfolding clashing
  apart_clash_not x y h = rw h (and_no (not (eqb (symbol_of (context c) x) (symbol_of (context c) y))))

  same_clash_not : (x y : ℕ) → symbol_of (context c) x ≡ symbol_of (context c) y → clashing c e x y ≡ false
  unfolding clashing
  same_clash_not x y h = rw (eq-eqb (symbol_of (context c) x) (symbol_of (context c) y) h)

  other_clash : (x y : ℕ) → are_equal (merges e) x y ≡ true → (symbol_of (context c) x ≡ symbol_of (context c) y → ⊥) →
      clashing c e x y ≡ true
  unfolding clashing
  other_clash x y h d = rw (ne_eqb (symbol_of (context c) x) (symbol_of (context c) y) d, h)

  clash_class : (x y : ℕ) → clashing c e x y ≡ true → are_equal (merges e) x y ≡ true
  unfolding clashing
  clash_class x y h =
      T_true (are_equal (merges e) x y)
      (T_and (not (eqb (symbol_of (context c) x) (symbol_of (context c) y))) (are_equal (merges e) x y) (true_T (clashing c e x y) h)).1

  not_clash_same : (x y : ℕ) → are_equal (merges e) x y ≡ true → clashing c e x y ≡ false →
      symbol_of (context c) x ≡ symbol_of (context c) y
  not_clash_same x y h f = go (ℕ_discrete (symbol_of (context c) x) (symbol_of (context c) y))
    where
      go : Dec (symbol_of (context c) x ≡ symbol_of (context c) y) → symbol_of (context c) x ≡ symbol_of (context c) y
      go (yes d) = d
      go (no d) = absurd (true≢false (sym (other_clash x y h d) ∙ f))

-- the class of a term is that of another of its class
pub class_carries : (ms : List Merge) (x y z : ℕ) → are_equal ms x y ≡ true → are_equal ms x z ≡ are_equal ms y z
unfolding are_equal find
class_carries ms x y z h = ap (λ (r : ℕ). eqb r (find ms z)) (equal_same ms x y (true_T (are_equal ms x y) h))

pub turned : (ms : List Merge) (x y : ℕ) → are_equal ms x y ≡ true → are_equal ms y x ≡ true
turned ms x y h = T_true (are_equal ms y x) (equal_sym ms x y (true_T (are_equal ms x y) h))

-- x is the lowest application of the class of p
pub record LowestIs (e w : List ℕ) (p x : ℕ) : Type 0 where
  pub below : x ≤ p
  pub app : MarkedApp w x
  pub equal : are_equal (merges e) p x ≡ true

pub lowest_word : {c e w : List ℕ} {p : ℕ} (k : ℕ) → WorkSound c e w → MarkedApp w p → k ≡ word_from c e w p 0 →
    (x : ℕ) × (k ≡ suc x) × LowestIs e w p x
unfolding first_in_class
lowest_word {c} {e} {w} {p} k S m q =
    go k (word_is (context c) w S.marks (λ (a : CtorApp). are_equal (merges e) p a.app) 0 k (omega arith) q)
  where
    own : are_equal (merges e) p p ≡ true
    own = T_true (are_equal (merges e) p p) (equal_refl (merges e) p)

    under : (x : ℕ) → Dec (p < x) → (p < x → are_equal (merges e) p p ≡ false) → x ≤ p
    under x (yes l) h = absurd (true≢false (sym own ∙ h l))
    under x (no l) h = omega arith

    go : (k : ℕ) → WordIs (context c) w S.marks (λ (a : CtorApp). are_equal (merges e) p a.app) 0 k → (x : ℕ) × (k ≡ suc x) × LowestIs e w p x
    go zero W = absurd (true≢false (sym own ∙ W.none refl p (omega arith) m))
    go (suc x) W = (
      x,
      refl,
      record {
        below = under x (dec_lt p x) (λ l. W.before x refl p (omega arith) l m);
        app = W.app x refl;
        equal = W.passes x refl;
      },
    )

-- ---- along a class

-- k is the word of the application reached, or 0 behind the last; none passed has another constructor f
pub record Walking (c e w : List ℕ) (p f k : ℕ) : Type 0 where
  pub asked : ClassWalked c e w p
  pub symbol : f ≡ symbol_of (context c) p
  pub done : k ≡ 0 → NoClash c e w p max_terms
  pub above : (x : ℕ) → k ≡ suc x → p < x
  pub app : (x : ℕ) → k ≡ suc x → MarkedApp w x
  pub class : (x : ℕ) → k ≡ suc x → are_equal (merges e) p x ≡ true
  pub passed : (x : ℕ) → k ≡ suc x → NoClash c e w p x

module _ {c e w : List ℕ} where
  -- the word behind application x of a class
  pub next_word : (x k : ℕ) (T : ClashTables c e w) → MarkedApp w x → k ≡ at w NEXT x →
      WordIs (context c) w T.work.marks (λ (a : CtorApp). are_equal (merges e) x a.app) (suc x) k
  unfolding first_in_class
  next_word x k T m h = let l = m.node in word_is (context c) w T.work.marks _ (suc x) k (omega arith)
      (h ∙ T.chain.next x m.node m.mark)

  walk_on : {p f x k : ℕ} → ClassWalked c e w p → f ≡ symbol_of (context c) p → MarkedApp w x → are_equal (merges e) p x ≡ true → p ≤ x →
      NoClash c e w p x → (p < x → clashing c e p x ≡ false) → k ≡ at w NEXT x → Walking c e w p f k
  walk_on {p} {f} {x} {k} A F m g l h n q =
      let W = next_word x k A.tables m q in
      record {
        asked = A;
        symbol = F;
        done = λ z y u v m'. further y u m' (dec_lt y x) (dec_lt x y) (λ r. W.none z y r m');
        above = λ j d. let r = W.after j d in omega arith;
        app = W.app;
        class = λ j d. class_carries (merges e) p x j g ∙ W.passes j d;
        passed = λ j d y u v m'. further y u m' (dec_lt y x) (dec_lt x y) (λ r. W.before j d y r v m');
      }
    where
      further : (y : ℕ) → p < y → MarkedApp w y → Dec (y < x) → Dec (x < y) → (x < y → are_equal (merges e) x y ≡ false) →
          clashing c e p y ≡ false
      further y u m' (yes a) b r = h y u a m'
      further y u m' (no a) (yes b) r = apart_clash_not c e p y (class_carries (merges e) p x y g ∙ r b)
      further y u m' (no a) (no b) r =
          let s : x ≡ y = omega arith in
          subst (λ (z : ℕ). clashing c e p z ≡ false) s (n (omega arith))

  pub walk_first : {p f k : ℕ} → ClassWalked c e w p → f ≡ symbol_of (context c) p → k ≡ at w NEXT p → Walking c e w p f k
  walk_first {p} A F q =
      walk_on A F A.app (T_true (are_equal (merges e) p p) (equal_refl (merges e) p)) (omega arith) (λ z u v m. absurd (omega arith))
      (λ l. absurd (omega arith)) q

  pub walked_within : {p : ℕ} → ClassWalked c e w p → p < length (context c).terms
  walked_within {p} A = marked_app_within (context c) w A.tables.work.marks p A.app

  pub walked_place : {p : ℕ} → ClassWalked c e w p → NEXT + p < length w
  walked_place A = let h = A.tables.work.long in let l = A.app.node in omega arith

  -- at application x
  module _ {p f k x : ℕ} (W : Walking c e w p f k) (d : k ≡ suc x) where
    abbrev here : MarkedApp w x
    here = W.app x d

    pub walk_next : {g j : ℕ} → g ≡ symbol_of (context c) x → g ≡ f → j ≡ at w NEXT x → Walking c e w p f j
    walk_next s n q =
        let l = W.above x d in
        walk_on W.asked W.symbol here (W.class x d) (omega arith) (W.passed x d)
        (λ z. same_clash_not c e p x (sym W.symbol ∙ sym n ∙ s)) q

    pub walk_less : {j : ℕ} → j ≡ at w NEXT x → (max_terms + 1 - j) % 1025 < (max_terms + 1 - k) % 1025
    walk_less {j} q =
        rw d (word_less (context c) w W.asked.tables.work.marks (λ (a : CtorApp). are_equal (merges e) x a.app) x j
        (next_word x j W.asked.tables here q) here.node)

    pub walk_within : x < length (context c).terms
    walk_within = marked_app_within (context c) w W.asked.tables.work.marks x here

    pub walk_place : NEXT + x < length w
    walk_place = let h = W.asked.tables.work.long in let l = here.node in omega arith

    pub walk_found : {g : ℕ} → g ≡ symbol_of (context c) x → (g ≡ f → ⊥) → FirstClash c e w p x
    walk_found s n = record {
      lower = W.asked.app;
      higher = here;
      above = W.above x d;
      clash = other_clash c e p x (W.class x d) (λ q. n (s ∙ sym q ∙ sym W.symbol));
      between = W.passed x d;
    }

  -- ---- a term that need not be asked

  pub not_lowest : {p k : ℕ} → ClashAsked c e w p → k ≡ word_from c e w p 0 → (k ≡ suc p → ⊥) → MarkedApp w p → NoClash c e w p max_terms
  not_lowest {p} {k} A q d m y l u m' = go (are_equal (merges e) p y) refl
    where
      go : (b : Bool) → are_equal (merges e) p y ≡ b → clashing c e p y ≡ false
      go false g = apart_clash_not c e p y g
      go true g =
          let (x, n, L) = lowest_word k A.tables.work m q in
          let other : x ≡ p → ⊥ = λ z. d (n ∙ ap suc z) in
          let below : x < p = omega (arith, L.below, other) in
          let h = L.equal in
          let here : are_equal (merges e) x p ≡ true = turned (merges e) p x h in
          let there : are_equal (merges e) x y ≡ true = sym (class_carries (merges e) p x y h) ∙ g in
          same_clash_not c e p y
          (sym (not_clash_same c e x p here (A.earlier x below L.app p below m.node m))
          ∙ not_clash_same c e x y there (A.earlier x below L.app y (omega arith) u m'))

-- a term that is no application clashes with none
pub no_app : (c e w : List ℕ) {p k : ℕ} → k ≡ at w W_MARK p → (k ≡ 1 → ⊥) → MarkedApp w p → NoClash c e w p max_terms
no_app c e w q d m = absurd (d (q ∙ m.mark))

-- ---- the scan

module _ {c e s w o : List ℕ} (R : ClashReady c e s w o) where
  clash_missing : {n : ℕ} (o' : List ℕ) → length (context c).terms ≤ n → NoneBelow c e w n →
      Tried constructor_clash c e s w (Ok TCheck.TheVariants.Sat) c s w o'
  unfolding constructor_clash clash_answer ctor_apps state_with dt_with apps_from
  clash_missing {n} o' l h = record {
    sound = R.check;
    extends = extends_self (context c);
    outcome = λ lv. ap (clash_answer (state_at c e s w lv)) (no_clash c e s w lv R.check.work.marks n l h);
    unchanged = λ q. refl;
    readable = tt;
  }

  clash_found : {p q : ℕ} {o₁ o₂ : List ℕ} → NoneBelow c e w p → FirstClash c e w p q → Cleared o₁ → Explains e p q o₁ o₂ →
      Tried constructor_clash c e s w (Ok TCheck.TheVariants.Conflict) c s w o₂
  unfolding constructor_clash clash_answer ctor_apps state_with dt_with apps_from firsts
  clash_found {p} {q} {o₁} {o₂} h F C X =
      let listed : leaves o₂ ≡ firsts (explain (merges e) p q) = X.listed ∙ rw C.empty in
      record {
        sound = R.check;
        extends = extends_self (context c);
        outcome = λ lv.
            ap (clash_answer (state_at c e s w lv)) (first_clash c e s w lv R.check.work.marks p q h F)
            ∙ ap (λ (ls : List _). answered (state_at c e s w lv) (Rules.Conflict ls)) (sym listed);
        unchanged = λ q. refl;
        readable = X.sound.words;
      }

-- no application below p clashes with one behind it
pub record Scanning (c e s w o₀ o : List ℕ) (n p : ℕ) : Type 0 where
  pub long : length o ≡ length o₀
  pub ready : ClashReady c e s w o
  pub count : n ≡ length (context c).terms
  pub within : p ≤ n
  pub none : NoneBelow c e w p

pub scan_first : {c e s w o : List ℕ} {n : ℕ} → ClashReady c e s w o → n ≡ length (context c).terms → Scanning c e s w o o n 0
scan_first R h = record { long = refl; ready = R; count = h; within = omega arith; none = λ x l. absurd (omega arith) }

module _ {c e s w o₀ o : List ℕ} where
  pub scan_asked : {n p : ℕ} → Scanning c e s w o₀ o n p → p < n → ClashAsked c e w p
  scan_asked I l =
      let S = I.ready.check.state in
      let h = I.count in
      record {
        tables = record { core = S.core; signed = S.signed; engine = S.engine; work = I.ready.check.work; chain = I.ready.chain };
        within = omega arith;
        earlier = I.none;
      }

  pub scan_next : {n p : ℕ} → Scanning c e s w o₀ o n p → p < n → (MarkedApp w p → NoClash c e w p max_terms) →
      Scanning c e s w o₀ o n (p + 1)
  scan_next {n} {p} I l C = record {
    long = I.long;
    ready = I.ready;
    count = I.count;
    within = omega arith;
    none = λ x h m. go x (dec_lt x p) (omega arith) m;
  }
    where
      go : (x : ℕ) → Dec (x < p) → x ≤ p → MarkedApp w x → NoClash c e w x max_terms
      go x (yes h) k m = I.none x h m
      go x (no h) k m =
          let q : p ≡ x = omega arith in
          subst (λ (y : ℕ). NoClash c e w y max_terms) q (C (subst⁻¹ (λ (y : ℕ). MarkedApp w y) q m))

  pub scan_explains : {n p q : ℕ} {o₁ : List ℕ} → Scanning c e s w o₀ o n p → FirstClash c e w p q → Cleared o₁ → Explainable e p q o₁
  scan_explains {p = p} {q = q} I F X =
      record {
        sound = I.ready.check.state.engine;
        first = F.lower.node;
        second = F.higher.node;
        equal = clash_class c e p q F.clash;
        answer = X.sound (merges e);
      }

  pub scan_found : {n p q : ℕ} {o₁ o₂ : List ℕ} → Scanning c e s w o₀ o n p → FirstClash c e w p q → Cleared o₁ →
      Explains e p q o₁ o₂ → Tried constructor_clash c e s w (Ok TCheck.TheVariants.Conflict) c s w o₂
  scan_found I F X E = clash_found I.ready I.none F X E

  pub scan_missing : {n p : ℕ} → Scanning c e s w o₀ o n p → n ≤ p → Tried constructor_clash c e s w (Ok TCheck.TheVariants.Sat) c s w o
  scan_missing I l = let h = I.count in clash_missing I.ready o (omega arith) I.none
