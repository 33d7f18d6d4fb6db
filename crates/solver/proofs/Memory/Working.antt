-- The work table of a check. What a class asks of the marked constructor applications is one number, the lowest of them and one more:
-- `lowest` over a test. One more mark, or one term more in a pass down, is one equation of it.
use Rattle.shinri_core.proofs.Kit.{ℕ, zero, suc, ◌+◌, ◌-◌, ◌≤◌, ◌<◌, ◌≡◌, refl, sym, ap, ◌∙◌, subst, ◌⊎◌, inl, inr, ⊎_elim, Bool, true, false, cond, ◌&&◌, List, [], ◌∷◌, none, some, Option, arith, ℕ_discrete, eq-eqb, ne_eqb, le-ltb, eqb, length, ap₂, add-one}
use borrow.Author.Tests.{lt-ltb}
use Rattle.shinri_core.specs.Limits.{max_terms}
use Rattle.shinri_core.specs.Lists.{first, gather, cons_option, keep, range}
use Rattle.shinri_core.specs.Context.{Context, CtorApp, ctor_app, children}
use Rattle.shinri_core.specs.Memory.Words.{at, put, Kept}
use Rattle.shinri_core.specs.Memory.Table.{context}
use Rattle.shinri_core.specs.Memory.Codes.{op_meaning, OpAt}
use Rattle.shinri_core.specs.declared.term.Op as Op
use Rattle.shinri_core.specs.declared.ids.SymbolId as SymbolId
use Rattle.shinri_core.specs.declared.ids.TermId as TermId
use Rattle.shinri_core.proofs.Lists.{and_no}
use Rattle.shinri_core.proofs.Memory.Codes.{symbol_below}
use Rattle.shinri_core.proofs.Memory.Stores.{kept_more}
use Rattle.theory.specs.EqEngine.{Merge, find, are_equal}
use Rattle.theory.specs.Memory.Table.{merges, EngineSound}
use Rattle.theory.proofs.Sizes.{find_within}
use Rattle.theory.proofs.Memory.Log.{merges_within}
use Rattle.std.specs.Prelude.{Some, None}
use Rattle.solver.specs.Memory.Table.{is_set, flagged_from, term_kind, MarksAre}
use Rattle.solver.specs.Memory.Work.{W_MARK, ROOT, LOWEST, apps_from, first_in_class, app_word, lower_word, work_room, work_size, ctor_meaning, ClassAsked, CtorOfClass, Lowered, Markable, Marked}
use Rattle.solver.proofs.Basics.{by_test, none_some, some_is, first_some, gather_in}
use Rattle.solver.proofs.Apps.{IsCtor, ctor_app_is, op_is, app_within}
use Rattle.solver.proofs.Memory.Roles.{kind_ctor, kind_no_ctor, kind_within}
use Rattle.solver.proofs.Memory.Flags.{members, also, has, flagged_none, flagged_insert}
use Rattle.solver.proofs.Memory.WorkStores.{other, region, kept_none, kept_put}

-- ---- the lowest number that passes a test

-- of n numbers from i on, one more than the lowest that passes, or 0
unfoldable pub lowest : (ℕ → Bool) → ℕ → ℕ → ℕ
lowest p i zero = 0
lowest p i (suc n) = cond (p i) (suc i) (lowest p (suc i) n)

lowest_same : (p q : ℕ → Bool) (i n : ℕ) → ((x : ℕ) → i ≤ x → x < i + n → p x ≡ q x) → lowest p i n ≡ lowest q i n
unfolding lowest
lowest_same p q i zero h = refl
lowest_same p q i (suc n) h =
    rw (h i (omega arith) (omega arith), lowest_same p q (suc i) n (λ x l g. h x (omega arith) (omega arith)))

-- one more than a number is 0 or above it
lowest_above : (p : ℕ → Bool) (i n : ℕ) → (lowest p i n ≡ 0) ⊎ (i < lowest p i n)
unfolding lowest
lowest_above p i zero = inl refl
lowest_above p i (suc n) = go (p i) (lowest_above p (suc i) n)
  where
    go : (b : Bool) → (lowest p (suc i) n ≡ 0) ⊎ (suc i < lowest p (suc i) n) →
        (cond b (suc i) (lowest p (suc i) n) ≡ 0) ⊎ (i < cond b (suc i) (lowest p (suc i) n))
    go true r = inr (omega arith)
    go false (inl e) = inl e
    go false (inr l) = inr (omega arith)

lower_new : (x w : ℕ) → (w ≡ 0) ⊎ (suc x < w) → lower_word x w ≡ suc x
unfolding lower_word
lower_new x zero r = refl
lower_new x (suc w) (inl e) = absurd (omega arith)
lower_new x (suc w) (inr l) = rw (lt-ltb x w (omega arith))

lower_old : (x i : ℕ) → i ≤ x → lower_word x (suc i) ≡ suc i
unfolding lower_word
lower_old x i l = rw (le-ltb x i (omega arith))

-- a number that passes as well
lowest_also : (x i n : ℕ) (p : ℕ → Bool) → i ≤ x → x < i + n → lowest (also x p) i n ≡ lower_word x (lowest p i n)
unfolding lowest
lowest_also x i zero p l h = absurd (omega arith)
lowest_also x i (suc n) p l h = go (ℕ_discrete x i) (λ d. lowest_also x (suc i) n p (omega arith) (omega arith))
  where
    here : (b : Bool) → x ≡ i → suc i ≡ lower_word x (cond b (suc i) (lowest p (suc i) n))
    here true e = sym (lower_old x i (omega arith))
    here false e = ap suc (sym e) ∙ sym (lower_new x (lowest p (suc i) n) (above (lowest_above p (suc i) n)))
      where
        above : (lowest p (suc i) n ≡ 0) ⊎ (suc i < lowest p (suc i) n) → (lowest p (suc i) n ≡ 0) ⊎ (suc x < lowest p (suc i) n)
        above (inl z) = inl z
        above (inr g) = inr (omega arith)

    there : (b : Bool) → i < x → lowest (also x p) (suc i) n ≡ lower_word x (lowest p (suc i) n) →
        cond b (suc i) (lowest (also x p) (suc i) n) ≡ lower_word x (cond b (suc i) (lowest p (suc i) n))
    there true g r = sym (lower_old x i (omega arith))
    there false g r = r

    go : Dec (x ≡ i) → ((x ≡ i → ⊥) → lowest (also x p) (suc i) n ≡ lower_word x (lowest p (suc i) n)) →
        lowest (also x p) i (suc n) ≡ lower_word x (lowest p i (suc n))
    go (yes e) r = rw (eq-eqb i x (sym e)) (here (p i) e)
    go (no d) r = rw (ne_eqb i x (λ e. d (sym e))) (there (p i) (omega arith) (r d))

-- ---- the lowest application of a class

-- is an application in the class of x?
unfoldable pub matches : List Merge → ℕ → Option CtorApp → Bool
matches ms x none = false
matches ms x (some a) = are_equal ms x a.app

-- is y marked, and a constructor application in the class of x?
abbrev pub listed : Context → List Merge → ℕ → (ℕ → Bool) → ℕ → Bool
listed cx ms x p y = p y && matches ms x (ctor_app cx y)

first_lowest : (cx : Context) (ms : List Merge) (x : ℕ) (p : ℕ → Bool) (i n : ℕ) →
    app_word (first (λ (a : CtorApp). are_equal ms x a.app) (gather (ctor_app cx) (members p i n))) ≡ lowest (listed cx ms x p) i n
unfolding app_word first gather cons_option keep range matches lowest
first_lowest cx ms x p i zero = refl
first_lowest cx ms x p i (suc n) = go (p i) (ctor_app cx i) refl (first_lowest cx ms x p (suc i) n)
  where
    rest : List CtorApp
    rest = gather (ctor_app cx) (members p (suc i) n)

    test : CtorApp → Bool
    test a = are_equal ms x a.app

    found : (b : Bool) (a : CtorApp) → a.app ≡ i → app_word (first test rest) ≡ lowest (listed cx ms x p) (suc i) n →
        app_word (cond b (some a) (first test rest)) ≡ cond b (suc i) (lowest (listed cx ms x p) (suc i) n)
    found true a e r = ap suc e
    found false a e r = r

    go : (b : Bool) (o : Option CtorApp) → ctor_app cx i ≡ o → app_word (first test rest) ≡ lowest (listed cx ms x p) (suc i) n →
        app_word (first test (gather (ctor_app cx) (cond b (i ∷ members p (suc i) n) (members p (suc i) n))))
        ≡ cond (b && matches ms x (ctor_app cx i)) (suc i) (lowest (listed cx ms x p) (suc i) n)
    go false o e r = r
    go true none e r = rw e r
    go true (some a) e r = rw e (found (are_equal ms x a.app) a (ctor_app_is cx i a e).app r)

-- the word that a class asks for
abbrev pub class_word : Context → List Merge → List ℕ → ℕ → ℕ → ℕ
class_word cx ms w x i = app_word (first_in_class ms x (apps_from cx w i))

class_lowest : (cx : Context) (ms : List Merge) (w : List ℕ) (x i : ℕ) →
    class_word cx ms w x i ≡ lowest (listed cx ms x (has w W_MARK)) i (max_terms - i)
unfolding first_in_class apps_from flagged_from
class_lowest cx ms w x i = first_lowest cx ms x (has w W_MARK) i (max_terms - i)

-- the same marks from i on
pub class_same : (cx : Context) (ms : List Merge) (w u : List ℕ) (x i : ℕ) → i ≤ max_terms →
    ((y : ℕ) → i ≤ y → y < max_terms → has u W_MARK y ≡ has w W_MARK y) → class_word cx ms u x i ≡ class_word cx ms w x i
class_same cx ms w u x i l h =
    class_lowest cx ms u x i
    ∙ lowest_same (listed cx ms x (has u W_MARK)) (listed cx ms x (has w W_MARK)) i (max_terms - i)
    (λ y k g. ap (λ (b : Bool). b && matches ms x (ctor_app cx y)) (h y k (omega arith)))
    ∙ sym (class_lowest cx ms w x i)

-- those from i on are i, if it is marked and in the class, and those behind it
pub class_step : (cx : Context) (ms : List Merge) (w : List ℕ) (x i : ℕ) → i < max_terms →
    class_word cx ms w x i ≡ cond (listed cx ms x (has w W_MARK) i) (suc i) (class_word cx ms w x (suc i))
unfolding lowest
class_step cx ms w x i h =
    let e : max_terms - i ≡ suc (max_terms - suc i) = omega arith in
    class_lowest cx ms w x i
    ∙ ap (lowest (listed cx ms x (has w W_MARK)) i) e
    ∙ ap (cond (listed cx ms x (has w W_MARK) i) (suc i)) (sym (class_lowest cx ms w x (suc i)))

-- behind the last mark there is none
pub class_none : (cx : Context) (ms : List Merge) (w : List ℕ) (x i : ℕ) →
    ((y : ℕ) → i ≤ y → y < max_terms → has w W_MARK y ≡ false) → class_word cx ms w x i ≡ 0
unfolding first_in_class apps_from app_word first gather
class_none cx ms w x i h = rw (flagged_none w W_MARK i h)

-- term x is marked as well
pub class_marked : (cx : Context) (ms : List Merge) (w u : List ℕ) (x y : ℕ) → x < max_terms →
    ((z : ℕ) → z < max_terms → has u W_MARK z ≡ also x (has w W_MARK) z) →
    class_word cx ms u y 0 ≡ cond (matches ms y (ctor_app cx x)) (lower_word x (class_word cx ms w y 0)) (class_word cx ms w y 0)
class_marked cx ms w u x y l h =
    class_lowest cx ms u y 0 ∙ go (matches ms y (ctor_app cx x)) refl
    ∙ sym (ap (λ (v : ℕ). cond (matches ms y (ctor_app cx x)) (lower_word x v) v) (class_lowest cx ms w y 0))
  where
    old : ℕ → Bool
    old = listed cx ms y (has w W_MARK)

    new : ℕ → Bool
    new = listed cx ms y (has u W_MARK)

    marked : (z : ℕ) → z < max_terms → new z ≡ (also x (has w W_MARK) z && matches ms y (ctor_app cx z))
    marked z k = ap (λ (b : Bool). b && matches ms y (ctor_app cx z)) (h z k)

    in_it : matches ms y (ctor_app cx x) ≡ true → (z : ℕ) → Dec (z ≡ x) →
        (also x (has w W_MARK) z && matches ms y (ctor_app cx z)) ≡ also x old z
    in_it e z (yes q) = rw (eq-eqb z x q) (ap (λ (v : ℕ). matches ms y (ctor_app cx v)) q ∙ e)
    in_it e z (no d) = rw (ne_eqb z x d)

    out_of_it : matches ms y (ctor_app cx x) ≡ false → (z : ℕ) → Dec (z ≡ x) →
        (also x (has w W_MARK) z && matches ms y (ctor_app cx z)) ≡ old z
    out_of_it e z (yes q) =
        let m = ap (λ (v : ℕ). matches ms y (ctor_app cx v)) q ∙ e in
        rw (eq-eqb z x q, m, and_no)
    out_of_it e z (no d) = rw (ne_eqb z x d)

    go : (b : Bool) → matches ms y (ctor_app cx x) ≡ b →
        lowest new 0 max_terms ≡ cond b (lower_word x (lowest old 0 max_terms)) (lowest old 0 max_terms)
    go true e =
        lowest_same new (also x old) 0 max_terms (λ z k g. marked z (omega arith) ∙ in_it e z (ℕ_discrete z x))
        ∙ lowest_also x 0 max_terms old (omega arith) (omega arith)
    go false e = lowest_same new old 0 max_terms (λ z k g. marked z (omega arith) ∙ out_of_it e z (ℕ_discrete z x))

-- ---- the kind of a mark

-- a number that is no term's has no kind
pub no_kind : (cx : Context) (x : ℕ) → length cx.terms ≤ x → is_set (term_kind cx x) ≡ false
no_kind cx x l = by_test (is_set (term_kind cx x)) (λ e. let g = kind_within cx x e in absurd (omega arith)) (λ e. e)

-- is term x, by its kind, a constructor application in the class of y?
pub kind_matches : (cx : Context) (ms : List Merge) (x y : ℕ) → term_kind cx x ≡ 1 →
    matches ms y (ctor_app cx x) ≡ eqb (find ms y) (find ms x)
unfolding matches are_equal find
kind_matches cx ms x y e = ap (matches ms y) (kind_ctor cx x e).3

pub kind_no_match : (cx : Context) (ms : List Merge) (x y : ℕ) → (term_kind cx x ≡ 1 → ⊥) → matches ms y (ctor_app cx x) ≡ false
unfolding matches
kind_no_match cx ms x y d = ap (matches ms y) (kind_no_ctor cx x d)

-- ---- the root and the constructor of a class

pub node_root : (e : List ℕ) (x : ℕ) → EngineSound e → x < max_terms → find (merges e) x < max_terms
node_root e x z l = find_within max_terms (merges e) (merges_within e z) x l

pub root_known : {c e w : List ℕ} {x word : ℕ} → ClassAsked c e w x → word ≡ at w ROOT x → (word ≡ 0 → ⊥) →
    (word - 1 ≡ find (merges e) x) × (word - 1 < max_terms)
root_known {c} {e} {w} {x} {word} z q d = go (z.work.roots x z.is_node)
  where
    go : (at w ROOT x ≡ 0) ⊎ (at w ROOT x ≡ suc (find (merges e) x)) → (word - 1 ≡ find (merges e) x) × (word - 1 < max_terms)
    go (inl p) = absurd (d (q ∙ p))
    go (inr p) = let l = node_root e x z.engine z.is_node in (omega arith, omega arith)

-- term k is the lowest marked constructor application of the class of x
pub record LowestApp (cx : Context) (ms : List Merge) (w : List ℕ) (x k : ℕ) : Type 0 where
  pub app : CtorApp
  pub is : first_in_class ms x (apps_from cx w 0) ≡ some app
  pub ctor : IsCtor cx k app

module _ (cx : Context) (ms : List Merge) (w : List ℕ) (x word : ℕ) (q : word ≡ class_word cx ms w x 0) where
  pub class_empty : word ≡ 0 → first_in_class ms x (apps_from cx w 0) ≡ none
  unfolding app_word
  class_empty e = go (first_in_class ms x (apps_from cx w 0)) (sym q ∙ e)
    where
      go : (o : Option CtorApp) → app_word o ≡ 0 → o ≡ none
      go none p = refl
      go (some a) p = absurd (omega arith)

  pub class_app : {app : ℕ} → word ≡ suc app → LowestApp cx ms w x app
  unfolding app_word first_in_class apps_from
  class_app {app} d = go (first_in_class ms x (apps_from cx w 0)) refl q
    where
      go : (o : Option CtorApp) → first_in_class ms x (apps_from cx w 0) ≡ o → word ≡ app_word o → LowestApp cx ms w x app
      go none p e = absurd (omega arith)
      go (some a) p e =
          let (i, t) = first_some (λ (b : CtorApp). are_equal ms x b.app) (apps_from cx w 0) a p in
          let (y, j, s) = gather_in (ctor_app cx) (flagged_from w W_MARK 0) a i in
          let z = ctor_app_is cx y a s in
          let n : y ≡ app = let f = z.app in omega arith in
          record { app = a; is = p; ctor = subst (λ (k : ℕ). IsCtor cx k a) n z }

-- an application by its parts
app_made : {k f : ℕ} {fs : List ℕ} (a : CtorApp) → k ≡ a.app → f ≡ a.ctor → fs ≡ a.fields →
    record { app = k; ctor = f; fields = fs } ≡ a
app_made a p q r = rw (p, q, r)

-- the word of a class
pub root_word : {c e w : List ℕ} {x root word : ℕ} → ClassAsked c e w x → root ≡ find (merges e) x → word ≡ at w LOWEST root →
    word ≡ class_word (context c) (merges e) w x 0
root_word {w = w} {x = x} z p q = q ∙ ap (at w LOWEST) p ∙ z.work.lowest x z.is_node

module _ (c e w : List ℕ) (x word : ℕ) (is_word : word ≡ class_word (context c) (merges e) w x 0) where
  pub no_ctor : word ≡ 0 → CtorOfClass c e w x None
  unfolding ctor_meaning
  no_ctor d = record {
    is = sym (class_empty (context c) (merges e) w x word is_word d);
    within = λ a h. absurd (none_some a h);
    declared = λ a h. absurd (none_some a h);
  }

  module _ {app : ℕ} (d : word ≡ suc app) where
    found : LowestApp (context c) (merges e) w x app
    found = class_app (context c) (merges e) w x word is_word d

    pub lowest_within : app < length (context c).terms
    lowest_within = app_within (context c) app found.app.ctor found.ctor.op

    pub no_equation : {o : Op.Op} → OpAt c app o → o ≡ Op.TheVariants.Eq → ⊥
    unfolding op_meaning
    no_equation {o} r s =
        let n = ap op_meaning (sym s) ∙ r.is ∙ found.ctor.op in
        let k : ◌≡◌ {A = ℕ} 0 1 = cc in
        omega arith

    pub the_ctor : {o : Op.Op} {f : SymbolId.SymbolId} {y : TermId.TermId} → OpAt c app o →
        o ≡ Op.TheVariants.Uninterpreted f → y.0 ≡ app → CtorOfClass c e w x (Some (f, y))
    unfolding op_meaning ctor_meaning
    the_ctor {o} {f} {y} r s n = record {
      is = ap some same ∙ sym found.is;
      within = λ b h.
          subst (λ (k : ℕ). k < length (context c).terms) (sym n ∙ ap (λ (v : CtorApp). v.app) (some_is _ b h)) lowest_within;
      declared = λ b h.
          subst (λ (k : ℕ). k < length (context c).symbols) (ap (λ (v : CtorApp). v.ctor) (some_is _ b h)) (symbol_below r s);
    }
      where
        ctor_is : f.0 ≡ found.app.ctor
        ctor_is = op_is f.0 found.app.ctor (ap op_meaning (sym s) ∙ r.is ∙ found.ctor.op)

        same : record { app = y.0; ctor = f.0; fields = children (context c) y.0 } ≡ found.app
        same = app_made found.app (n ∙ sym found.ctor.app) ctor_is (ap (children (context c)) n ∙ found.ctor.args)

-- ---- the lowest of a class lowered

lower_stored : {w u : List ℕ} {r x word : ℕ} → work_size ≤ length w → r < max_terms → word ≡ at w LOWEST r →
    (word ≡ 0) ⊎ (x + 1 < word) → u ≡ put w LOWEST r (x + 1) → Lowered r x w u
lower_stored {w} {u} {r} {x} {word} l h q d e = record {
  words = λ y k. ap (λ (t : List ℕ). at t LOWEST y) e ∙ region w LOWEST r y (x + 1) tt l h ∙ go y (ℕ_discrete y r);
  kept = subst (Kept work_room (LOWEST ∷ []) w) (sym e) (kept_put (LOWEST ∷ []) w w LOWEST r (x + 1) tt h (kept_none (LOWEST ∷ []) w));
}
  where
    new : (word ≡ 0) ⊎ (x + 1 < word) → lower_word x word ≡ x + 1
    new (inl z) = lower_new x word (inl z) ∙ sym (add-one x)
    new (inr g) = lower_new x word (inr (omega arith)) ∙ sym (add-one x)

    go : (y : ℕ) → Dec (y ≡ r) → cond (eqb y r) (x + 1) (at w LOWEST y) ≡ cond (eqb y r) (lower_word x (at w LOWEST y)) (at w LOWEST y)
    go y (yes p) = rw (eq-eqb y r p) (sym (new d) ∙ ap (lower_word x) (q ∙ ap (at w LOWEST) (sym p)))
    go y (no p) = rw (ne_eqb y r p)

lower_left : {w : List ℕ} {r x word : ℕ} → word ≡ at w LOWEST r → (word ≡ 0 → ⊥) → word ≤ x + 1 → Lowered r x w w
lower_left {w} {r} {x} {word} q d g = record { words = λ y k. go y (ℕ_discrete y r); kept = kept_none (LOWEST ∷ []) w }
  where
    n : suc (word - 1) ≡ word
    n = omega arith

    old : lower_word x word ≡ word
    old = ap (lower_word x) (sym n) ∙ lower_old x (word - 1) (omega arith) ∙ n

    go : (y : ℕ) → Dec (y ≡ r) → at w LOWEST y ≡ cond (eqb y r) (lower_word x (at w LOWEST y)) (at w LOWEST y)
    go y (yes p) = let m = q ∙ ap (at w LOWEST) (sym p) in rw (eq-eqb y r p) (sym m ∙ sym old ∙ ap (lower_word x) m)
    go y (no p) = rw (ne_eqb y r p)

module _ {c e w : List ℕ} {x root word : ℕ} (z : ClassAsked c e w x) (p : root ≡ find (merges e) x) (q : word ≡ at w LOWEST root) where
  low_root : root < max_terms
  low_root = subst (λ (r : ℕ). r < max_terms) (sym p) (node_root e x z.engine z.is_node)

  pub lowered_first : {u : List ℕ} → word ≡ 0 → u ≡ put w LOWEST root (x + 1) → Lowered (find (merges e) x) x w u
  lowered_first {u} d s = subst (λ (r : ℕ). Lowered r x w u) p (lower_stored z.work.long low_root q (inl d) s)

  pub lowered_below : {u : List ℕ} → x + 1 < word → u ≡ put w LOWEST root (x + 1) → Lowered (find (merges e) x) x w u
  lowered_below {u} d s = subst (λ (r : ℕ). Lowered r x w u) p (lower_stored z.work.long low_root q (inr d) s)

  pub lowered_not : (word ≡ 0 → ⊥) → word ≤ x + 1 → Lowered (find (merges e) x) x w w
  lowered_not d g = subst (λ (r : ℕ). Lowered r x w w) p (lower_left q d g)

-- ---- one more mark

set_also : (y x k v : ℕ) → is_set k ≡ true → is_set (cond (eqb y x) k v) ≡ cond (eqb y x) true (is_set v)
set_also y x k v e = go (eqb y x)
  where
    go : (b : Bool) → is_set (cond b k v) ≡ cond b true (is_set v)
    go true = e
    go false = refl

-- the words of the classes, if x is one more of theirs
abbrev LowerIn : List ℕ → List ℕ → ℕ → List ℕ → List ℕ → Type 0
LowerIn c e x w u =
    (y : ℕ) → y < max_terms →
    let r = find (merges e) y in
    at u LOWEST r ≡ cond (matches (merges e) y (ctor_app (context c) x)) (lower_word x (at w LOWEST r)) (at w LOWEST r)

module _ {c e w u : List ℕ} {x : ℕ} (z : Markable c e w x)
    (words : (y : ℕ) → y < max_terms → at u W_MARK y ≡ cond (eqb y x) (term_kind (context c) x) (at w W_MARK y))
    (low : LowerIn c e x w u)
    (kept : Kept work_room (W_MARK ∷ LOWEST ∷ []) w u) where
  flags : (y : ℕ) → y < max_terms → has u W_MARK y ≡ also x (has w W_MARK) y
  flags y l = ap is_set (words y l) ∙ set_also y x (term_kind (context c) x) (at w W_MARK y) z.relevant

  kinds : MarksAre (context c) u W_MARK
  kinds y l = go (ℕ_discrete y x) (z.asked.work.marks y l)
    where
      go : Dec (y ≡ x) → (at w W_MARK y ≡ 0) ⊎ (at w W_MARK y ≡ term_kind (context c) y) →
          (at u W_MARK y ≡ 0) ⊎ (at u W_MARK y ≡ term_kind (context c) y)
      go (yes p) m = inr (words y l ∙ rw (eq-eqb y x p) (ap (term_kind (context c)) (sym p)))
      go (no d) (inl m) = inl (words y l ∙ rw (ne_eqb y x d) m)
      go (no d) (inr m) = inr (words y l ∙ rw (ne_eqb y x d) m)

  -- a mark stored, with what it does to the lowest applications
  marked_by : Marked c e w x u
  marked_by =
      let cx = context c in
      let ms = merges e in
      let old = z.asked.work in
      let n = kept.long in
      let m = old.long in
      record {
        work = record {
          long = omega arith;
          marks = kinds;
          roots = λ y l. subst (λ (v : ℕ). (v ≡ 0) ⊎ (v ≡ suc (find ms y))) (sym (kept.rest ROOT y tt l)) (old.roots y l);
          lowest = λ y l.
              low y l ∙ ap (λ (v : ℕ). cond (matches ms y (ctor_app cx x)) (lower_word x v) v) (old.lowest y l)
              ∙ sym (class_marked cx ms w u x y z.asked.is_node flags);
        };
        marks = flagged_insert w u W_MARK x z.asked.is_node flags;
        words = words;
        kept = kept;
      }

marked_ctor : {c e w v u : List ℕ} {x kind : ℕ} → Markable c e w x → kind ≡ term_kind (context c) x → kind ≡ 1 →
    Lowered (find (merges e) x) x w v → u ≡ put v W_MARK x kind → Marked c e w x u
marked_ctor {c} {e} {w} {v} {u} {x} {kind} z k q l p = marked_by z words low kept
  where
    h : x < max_terms
    h = z.asked.is_node

    long : work_size ≤ length v
    long = let n = l.kept.long in let m = z.asked.work.long in omega arith

    kept : Kept work_room (W_MARK ∷ LOWEST ∷ []) w u
    kept =
        subst (Kept work_room (W_MARK ∷ LOWEST ∷ []) w) (sym p)
        (kept_put (W_MARK ∷ LOWEST ∷ []) w v W_MARK x kind tt h
        (kept_more work_room (LOWEST ∷ []) (W_MARK ∷ LOWEST ∷ []) w v tt l.kept))

    words : (y : ℕ) → y < max_terms → at u W_MARK y ≡ cond (eqb y x) (term_kind (context c) x) (at w W_MARK y)
    words y g =
        ap (λ (t : List ℕ). at t W_MARK y) p ∙ region v W_MARK x y kind tt long h
        ∙ ap₂ (cond (eqb y x)) k (l.kept.rest W_MARK y tt g)

    low : LowerIn c e x w u
    low y g =
        let r = node_root e y z.asked.engine g in
        ap (λ (t : List ℕ). at t LOWEST (find (merges e) y)) p
        ∙ other v LOWEST W_MARK (find (merges e) y) x kind tt r h
        ∙ l.words (find (merges e) y) r
        ∙ rw (kind_matches (context c) (merges e) x y (sym k ∙ q))

marked_other : {c e w u : List ℕ} {x kind : ℕ} → Markable c e w x → kind ≡ term_kind (context c) x → (kind ≡ 1 → ⊥) →
    u ≡ put w W_MARK x kind → Marked c e w x u
marked_other {c} {e} {w} {u} {x} {kind} z k d p = marked_by z words low kept
  where
    h : x < max_terms
    h = z.asked.is_node

    kept : Kept work_room (W_MARK ∷ LOWEST ∷ []) w u
    kept =
        subst (Kept work_room (W_MARK ∷ LOWEST ∷ []) w) (sym p)
        (kept_put (W_MARK ∷ LOWEST ∷ []) w w W_MARK x kind tt h (kept_none (W_MARK ∷ LOWEST ∷ []) w))

    words : (y : ℕ) → y < max_terms → at u W_MARK y ≡ cond (eqb y x) (term_kind (context c) x) (at w W_MARK y)
    words y g =
        ap (λ (t : List ℕ). at t W_MARK y) p ∙ region w W_MARK x y kind tt z.asked.work.long h
        ∙ ap (λ (v : ℕ). cond (eqb y x) v (at w W_MARK y)) k

    low : LowerIn c e x w u
    low y g =
        let r = node_root e y z.asked.engine g in
        ap (λ (t : List ℕ). at t LOWEST (find (merges e) y)) p
        ∙ other w LOWEST W_MARK (find (merges e) y) x kind tt r h
        ∙ rw (kind_no_match (context c) (merges e) x y (λ m. d (k ∙ m)))

-- a term that is marked already: nothing is stored
pub marked_again : {c e w : List ℕ} {x : ℕ} → Markable c e w x → (at w W_MARK x ≡ 0 → ⊥) → Marked c e w x w
marked_again {c} {e} {w} {x} z d = record {
  work = z.asked.work;
  marks = flagged_insert w w W_MARK x z.asked.is_node flags;
  words = words;
  kept = kept_none (W_MARK ∷ LOWEST ∷ []) w;
}
  where
    kind : at w W_MARK x ≡ term_kind (context c) x
    kind = ⊎_elim (λ m. absurd (d m)) (λ m. m) (z.asked.work.marks x z.asked.is_node)

    words : (y : ℕ) → y < max_terms → at w W_MARK y ≡ cond (eqb y x) (term_kind (context c) x) (at w W_MARK y)
    words y l = go (ℕ_discrete y x)
      where
        go : Dec (y ≡ x) → at w W_MARK y ≡ cond (eqb y x) (term_kind (context c) x) (at w W_MARK y)
        go (yes p) = ap (at w W_MARK) p ∙ kind ∙ sym (rw (eq-eqb y x p) refl)
        go (no f) = sym (rw (ne_eqb y x f) refl)

    flags : (y : ℕ) → y < max_terms → has w W_MARK y ≡ also x (has w W_MARK) y
    flags y l = ap is_set (words y l) ∙ set_also y x (term_kind (context c) x) (at w W_MARK y) z.relevant

-- the lowest of its class was lowered for a constructor application, and for no other term
abbrev pub Readied : List ℕ → List ℕ → ℕ → ℕ → List ℕ → Type 0
Readied e w x kind v = ((kind ≡ 1) × Lowered (find (merges e) x) x w v) ⊎ ((kind ≡ 1 → ⊥) × (v ≡ w))

pub readied_long : {c e w v : List ℕ} {x kind : ℕ} → Markable c e w x → Readied e w x kind v →
    (length v ≡ length w) × (work_size ≤ length v)
readied_long z (inl (q, l)) = let n = l.kept.long in let m = z.asked.work.long in (n, omega arith)
readied_long z (inr (d, q)) = let n = ap length q in let m = z.asked.work.long in (n, omega arith)

pub marked : {c e w v u : List ℕ} {x kind : ℕ} → Markable c e w x → kind ≡ term_kind (context c) x → Readied e w x kind v →
    u ≡ put v W_MARK x kind → Marked c e w x u
marked z k (inl (q, l)) p = marked_ctor z k q l p
marked {x = x} {kind = kind} z k (inr (d, q)) p = marked_other z k d (p ∙ ap (λ (t : List ℕ). put t W_MARK x kind) q)
