-- The lowest marked application of one constructor in a class: the lowest of the class, if it is of that constructor, or the first that
-- a pass up over the terms meets.
use Rattle.shinri_core.proofs.Kit.{ℕ, ◌+◌, ◌≤◌, ◌<◌, ◌≡◌, refl, sym, ap, ◌∙◌, inl, inr, Bool, true, false, cond, ◌&&◌, true≢false, List, [], ◌∷◌, none, some, Option, arith, eqb, eq-eqb, ne_eqb, eqb-false, length}
use lib.Dec.{eqb→eq}
use Rattle.shinri_core.specs.Limits.{max_terms}
use Rattle.shinri_core.specs.Lists.{In, first}
use Rattle.shinri_core.specs.Context.{CtorApp, children}
use Rattle.shinri_core.specs.Memory.Words.{at}
use Rattle.shinri_core.specs.Memory.Table.{context}
use Rattle.shinri_core.specs.declared.ids.SymbolId as SymbolId
use Rattle.shinri_core.specs.declared.ids.TermId as TermId
use Rattle.shinri_core.proofs.Lists.{T_true, true_T, T_and}
use Rattle.shinri_core.proofs.Memory.Searching.{Searched, search_next}
use Rattle.theory.specs.EqEngine.{find, are_equal}
use Rattle.theory.specs.Memory.Table.{merges}
use Rattle.std.specs.Prelude.{Some, None}
use Rattle.solver.specs.Memory.Table.{MarksAre}
use Rattle.solver.specs.Memory.Work.{W_MARK, apps_from, first_in_class, ctor_meaning, ClassTable, CtorAsked, CtorOfClass, CtorOf}
use Rattle.solver.specs.Memory.ConstructorClash.{symbol_of, app_at, MarkedApp}
use Rattle.solver.specs.Memory.Testing.{own_in_class, with_ctor, own_at, OwnAsked, OwnApp, Found}
use Rattle.solver.proofs.Basics.{eqb_same, first_some, first_none, some_is, none_some}
use Rattle.solver.proofs.Memory.AppNumbers.{first_at, first_none_at, marked_app_within}

-- either work table has the marks of its terms
pub class_marks : {c e w : List ℕ} {x : ℕ} → CtorAsked c e w x → MarksAre (context c) w W_MARK × (max_terms ≤ length w)
class_marks {c} {e} {w} z = go z.table
  where
    go : ClassTable c e w → MarksAre (context c) w W_MARK × (max_terms ≤ length w)
    go (inl s) = let l = s.long in (s.marks, omega arith)
    go (inr s) = let l = s.long in (s.marks, omega arith)

-- ---- the first of one constructor

module _ (d : ℕ) (p : CtorApp → Bool) where
  abbrev own : CtorApp → Bool
  own a = eqb a.ctor d && p a

  no_own : (xs : List CtorApp) → ((a : CtorApp) → In a xs → p a ≡ true → eqb a.ctor d ≡ false) → first own xs ≡ none
  unfolding first
  no_own [] h = refl
  no_own (x ∷ xs) h = go (eqb x.ctor d) (p x) refl refl (no_own xs (λ a i. h a (inr i)))
    where
      go : (b q : Bool) → eqb x.ctor d ≡ b → p x ≡ q → first own xs ≡ none → cond (b && q) (some x) (first own xs) ≡ none
      go true true e f r = absurd (true≢false (sym e ∙ h x (inl refl) f))
      go true false e f r = r
      go false q e f r = r

  -- where those that pass have one constructor, the first of constructor d is the first that passes, or none
  pub own_first : (xs : List CtorApp) → ((a b : CtorApp) → In a xs → In b xs → p a ≡ true → p b ≡ true → a.ctor ≡ b.ctor) →
      with_ctor d (first p xs) ≡ first own xs
  unfolding first with_ctor
  own_first [] h = refl
  own_first (x ∷ xs) h =
      go (p x) (eqb x.ctor d) refl refl
      (own_first xs (λ a b i j. h a b (inr i) (inr j)))
    where
      go : (q b : Bool) → p x ≡ q → eqb x.ctor d ≡ b → with_ctor d (first p xs) ≡ first own xs →
          with_ctor d (cond q (some x) (first p xs)) ≡ cond (b && q) (some x) (first own xs)
      go true true e f r = rw f
      go true false e f r =
          rw f
          (sym (no_own xs (λ a i t. ap (λ (c : ℕ). eqb c d) (h a x (inr i) (inl refl) t e) ∙ f)))
      go false true e f r = r
      go false false e f r = r

  -- the first that passes, if it is of constructor d
  pub own_lowest : (xs : List CtorApp) (a : CtorApp) → first p xs ≡ some a → a.ctor ≡ d → first own xs ≡ some a
  unfolding first
  own_lowest [] a e f = absurd (none_some a e)
  own_lowest (x ∷ xs) a e f = go (p x) (eqb x.ctor d) refl e (λ r. own_lowest xs a r f)
    where
      go : (q b : Bool) → eqb x.ctor d ≡ b → cond q (some x) (first p xs) ≡ some a → (first p xs ≡ some a → first own xs ≡ some a) →
          cond (b && q) (some x) (first own xs) ≡ some a
      go true true g k r = k
      go true false g k r = absurd (eqb-false x.ctor d g (ap (λ (v : CtorApp). v.ctor) (some_is x a k) ∙ f))
      go false true g k r = r k
      go false false g k r = r k

-- ---- the code's test

module _ (c e w : List ℕ) (d root i : ℕ) where
  pub own_unmarked : {k : ℕ} → k ≡ at w W_MARK i → (k ≡ 1 → ⊥) → false ≡ own_at c e w d root i
  unfolding own_at
  own_unmarked q n = rw (ne_eqb (at w W_MARK i) 1 (λ h. n (q ∙ h)))

  pub own_other : {k f : ℕ} → k ≡ at w W_MARK i → k ≡ 1 → f ≡ symbol_of (context c) i → (f ≡ d → ⊥) → false ≡ own_at c e w d root i
  unfolding own_at
  own_other q m p n = rw (eq-eqb (at w W_MARK i) 1 (sym q ∙ m), ne_eqb (symbol_of (context c) i) d (λ h. n (p ∙ h)))

  pub own_root : {k f r : ℕ} → k ≡ at w W_MARK i → k ≡ 1 → f ≡ symbol_of (context c) i → f ≡ d → r ≡ find (merges e) i →
      eqb r root ≡ own_at c e w d root i
  unfolding own_at
  own_root q m p n o =
      rw (eq-eqb (at w W_MARK i) 1 (sym q ∙ m), eq-eqb (symbol_of (context c) i) d (sym p ∙ n)) (ap (λ (v : ℕ). eqb v root) o)

-- ---- the first

abbrev InClass : List ℕ → ℕ → CtorApp → Bool
InClass e x a = are_equal (merges e) x a.app

-- the test by which the definition looks for it
abbrev Own : List ℕ → ℕ → ℕ → CtorApp → Bool
Own e x d = own d (InClass e x)

module _ {c e w : List ℕ} {x root : ℕ} (d : ℕ) (z : CtorAsked c e w x) (r : root ≡ find (merges e) x) where
  marks : MarksAre (context c) w W_MARK
  marks = (class_marks z).0

  -- a marked application passes if the code says so
  own_is : (y : ℕ) → MarkedApp w y → Own e x d (app_at (context c) y) ≡ own_at c e w d root y
  unfolding own_at are_equal find
  own_is y m =
      rw (eq-eqb (at w W_MARK y) 1 m.mark, r)
      (ap (λ (b : Bool). eqb (symbol_of (context c) y) d && b)
      (eqb_same (find (merges e) x) (find (merges e) y) (find (merges e) y) (find (merges e) x) (λ q. sym q) (λ q. sym q)))

  -- what the code's test says of a term
  own_parts : (i : ℕ) → own_at c e w d root i ≡ true → (at w W_MARK i ≡ 1) × (symbol_of (context c) i ≡ d)
  unfolding own_at
  own_parts i t =
      let p = T_and (eqb (at w W_MARK i) 1 && eqb (symbol_of (context c) i) d) (eqb (find (merges e) i) root) (true_T _ t) in
      let (m, s) = T_and (eqb (at w W_MARK i) 1) (eqb (symbol_of (context c) i) d) p.0 in
      (eqb→eq (at w W_MARK i) 1 m, eqb→eq (symbol_of (context c) i) d s)

  few : length (context c).terms ≤ max_terms
  few = let n = z.core.term_count in let h = z.core.terms_fit in omega arith

  pub own_found : {i n : ℕ} {f : SymbolId.SymbolId} {y : TermId.TermId} → f.0 ≡ d → y.0 ≡ i → n ≡ length (context c).terms →
      Searched (own_at c e w d root) 0 i n → i < n → {b : Bool} → b ≡ own_at c e w d root i → b ≡ true →
      OwnApp c e w x d (Some (f, y))
  unfolding ctor_meaning own_in_class
  own_found {i} {n} {f} {y} q g k s h o a =
      let t = sym o ∙ a in
      let (m, e) = own_parts i t in
      let l = few in
      let node : MarkedApp w i = record { node = omega arith; mark = m } in
      let named : some (record { app = y.0; ctor = f.0; fields = children (context c) y.0 }) ≡ some (app_at (context c) i) =
      λ j. some (record { app = g j; ctor = (q ∙ sym e) j; fields = children (context c) (g j) }) in
      record {
        is =
            named
            ∙ sym (first_at (context c) w marks (Own _ x d) 0 i (omega arith) node (own_is i node ∙ t)
            (λ v a b u. own_is v u ∙ s.none v (omega arith) b));
        within = λ a p. let w : a.app ≡ y.0 = sym (ap (λ (v : CtorApp). v.app) (some_is _ a p)) in omega arith;
      }

  pub own_passed : {i n : ℕ} → Searched (own_at c e w d root) 0 i n → i < n → {b : Bool} → b ≡ own_at c e w d root i → b ≡ false →
      Searched (own_at c e w d root) 0 (i + 1) n
  own_passed s h o a = search_next s h (sym o ∙ a)

  pub own_missing : {i n : ℕ} → n ≡ length (context c).terms → Searched (own_at c e w d root) 0 i n → n ≤ i →
      OwnApp c e w x d None
  unfolding ctor_meaning own_in_class
  own_missing {i} {n} k s h = record {
    is =
        sym (first_none_at (context c) w marks (Own e x d) 0 (omega arith)
        (λ v a u. let b = marked_app_within (context c) w marks v u in own_is v u ∙ s.none v (omega arith) (omega arith)));
    within = λ a p. absurd (none_some a p);
  }

-- a term may be asked
pub own_asked : {c e w : List ℕ} {x i n : ℕ} → CtorAsked c e w x → n ≡ length (context c).terms → i < n → OwnAsked c e w i
own_asked z k h = record { core = z.core; engine = z.engine; marks = (class_marks z).1; within = omega arith }

-- an application that was found is a term of the class, and of that constructor
module _ {c e w : List ℕ} {x d : ℕ} {k : CtorOf} (z : CtorAsked c e w x) (o : OwnApp c e w x d k) where
  pub own_equal : (f : SymbolId.SymbolId) (y : TermId.TermId) → k ≡ Some (f, y) →
      (y.0 < max_terms) × (are_equal (merges e) x y.0 ≡ true)
  unfolding ctor_meaning own_in_class
  own_equal f y q =
      let a : CtorApp = record { app = y.0; ctor = f.0; fields = children (context c) y.0 } in
      let named : ctor_meaning (context c) k ≡ some a = ap (ctor_meaning (context c)) q in
      let (i, t) = first_some (Own e x d) (apps_from (context c) w 0) a (sym o.is ∙ named) in
      let n = o.within a named in
      let m = z.core.term_count in
      let h = z.core.terms_fit in
      (omega arith, T_true (are_equal (merges e) x y.0) (T_and (eqb f.0 d) (are_equal (merges e) x y.0) t).1)

  pub own_meant : Found false c e w x d k
  unfolding own_in_class with_ctor
  own_meant = go (ctor_meaning (context c) k) o.is
    where
      go : (m : Option CtorApp) → m ≡ first (Own e x d) (apps_from (context c) w 0) →
          with_ctor d m ≡ first (Own e x d) (apps_from (context c) w 0)
      go none p = p
      go (some a) p =
          let (i, t) = first_some (Own e x d) (apps_from (context c) w 0) a (sym p) in
          rw (T_true (eqb a.ctor d) (T_and (eqb a.ctor d) (are_equal (merges e) x a.app) t).0) p

-- ---- by the lowest application of the class

pub none_of_class : {c e w : List ℕ} {x : ℕ} {k : CtorOf} (d : ℕ) → CtorOfClass c e w x k → k ≡ None →
    OwnApp c e w x d None
unfolding ctor_meaning own_in_class first_in_class
none_of_class {c} {e} {w} {x} d z q =
    let apps = apps_from (context c) w 0 in
    let empty : first (InClass e x) apps ≡ none = sym z.is ∙ ap (ctor_meaning (context c)) q in
    record {
      is = sym (no_own d (InClass e x) apps (λ a i t. absurd (true≢false (sym t ∙ first_none (InClass e x) apps a empty i))));
      within = λ a p. absurd (none_some a p);
    }

pub own_of_class : {c e w : List ℕ} {x : ℕ} {k : CtorOf} {f : SymbolId.SymbolId} {y : TermId.TermId} (d : ℕ) →
    CtorOfClass c e w x k → k ≡ Some (f, y) → f.0 ≡ d → OwnApp c e w x d (Some (f, y))
unfolding ctor_meaning own_in_class first_in_class
own_of_class {c} {e} {w} {x} {k} {f} {y} d z q h =
    let a : CtorApp = record { app = y.0; ctor = f.0; fields = children (context c) y.0 } in
    let named : ctor_meaning (context c) k ≡ some a = ap (ctor_meaning (context c)) q in
    record {
      is = sym (own_lowest d (InClass e x) (apps_from (context c) w 0) a (sym z.is ∙ named) h);
      within = λ b p. z.within b (named ∙ p);
    }
