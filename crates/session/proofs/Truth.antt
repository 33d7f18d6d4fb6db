-- In a reading, a merge says no more than its line: so a solver's refutation is a conflict of lines in force.
use Prim.Native.Nat.{ℕ, ◌+◌, ◌*◌, ◌/◌, ◌%◌, ◌<◌}
use mathlib.Core.Path.{◌≡◌, refl, sym, subst, subst⁻¹, ap, ap₂, ◌∙◌}
use mathlib.Core.Logic.{◌⊎◌, inl, inr, ◌≢◌}
use mathlib.Core.Bool.{Bool, true, false, cond, false≢true}
use mathlib.Core.List.{List, [], ◌∷◌}
use mathlib.Core.Option.{Option, none, some}
use native.Mathlib.Omega.{arith}
use lib.Dec.{T, eqb, eqb→eq}
use borrow.Author.Tests.{eq-eqb, ne_eqb, eqb-true, eqb-false}
use lib.ListN.{length, length-map}
use Rattle.shinri_core.specs.Lists.{first, zip}
use Rattle.shinri_core.specs.Ids as Ids
use Rattle.shinri_core.specs.Term as Term
use Rattle.shinri_core.specs.Term.{Term, Op, Eq}
use Rattle.shinri_core.specs.Context.{Context, term, children, sort_of}
use Rattle.shinri_core.specs.Reading.{Reading, Values, truth, cons, same_value, value, app_value}
use Rattle.shinri_core.proofs.Lists.{In, T_true, true_T}
use Rattle.theory.specs.Types.{EqJust, Asserted, Congruence, Interface, EqLeaf, AssertedLeaf}
use Rattle.theory.specs.EqEngine.{Merge, are_equal}
use Rattle.theory.specs.Atom as Atom
use Rattle.theory.specs.Atom.{Registered}
use Rattle.theory.proofs.Classes.{equal_refl}
use Rattle.theory.proofs.Explain.{Labels, SoundLabel, Sound, TwoTerms}
use Rattle.solver.proofs.Basics.{none_some, some_is, first_some, false_T}
use Rattle.solver.proofs.Terms.{Agrees, Formed}
use Rattle.solver.proofs.Values.{values_of, value_is, same_value_eq}
use Rattle.solver.proofs.Apps.{equation_is, truth_is}
use Rattle.solver.proofs.Lemmas.{equation_true}
use Rattle.solver.proofs.Clash.{Assertion, Affirmed, Negated, Unequal, Means, Cited, Refuted}
use Rattle.solver.proofs.Moves.{SomeLit, SomeTrue, SplitHolds}
use Rattle.session.specs.Line.{Register}
use Rattle.session.specs.Session.{Session}
use Rattle.session.specs.History.{History, HoldsNow, LeafInForce, Accepted, IsAtom, IsEquation, LitTrue, LeafTrue, AllTrue, SomeLitTrue, SomeAtomTrue, LemmaTrue}
use Rattle.session.specs.Claim.{AllInForce, Impossible, Valid}
use Rattle.session.proofs.Invariant.{atom_one, atom_within, MergeFrom, line_of, sign_of, Shape, Inv}

-- ---- argument pairs

module _ {cx : Context} (r : Reading cx) where
  zip_values : (xs ys : List ℕ) → length xs ≡ length ys → ((p : ℕ × ℕ) → In p (zip xs ys) → value r p.0 ≡ value r p.1) → values_of r xs ≡ values_of r ys
  unfolding zip
  zip_values [] [] e h = refl
  zip_values [] (y ∷ ys) e h = absurd (omega arith)
  zip_values (x ∷ xs) [] e h = absurd (omega arith)
  zip_values (x ∷ xs) (y ∷ ys) e h = ap₂ cons (h (x, y) (inl refl)) (zip_values xs ys (omega arith) (λ p i. h p (inr i)))

same_count : (cx : Context) (o : Op) (xs ys : List ℕ) → Agrees cx o xs → Agrees cx o ys → length xs ≡ length ys
same_count cx Eq xs ys (a, b, p, q) (c, d, e, f) = ap length p ∙ sym (ap length e)
same_count cx (Term.Uninterpreted f) xs ys p q = sym (length-map xs (sort_of cx)) ∙ ap length (p ∙ sym q) ∙ length-map ys (sort_of cx)

pub same_op_count : (cx : Context) → Formed cx → (a b : ℕ) → a < length cx.terms → b < length cx.terms → (term cx a).op ≡ (term cx b).op → length (children cx a) ≡ length (children cx b)
same_op_count cx F a b l m e =
    same_count cx (term cx b).op (children cx a) (children cx b) (subst (λ (o : Op). Agrees cx o (children cx a)) e (F.agrees a l)) (F.agrees b m)

-- pairs of one term each, or one of two
told_apart : (xs ys : List ℕ) → length xs ≡ length ys → (xs ≡ ys) ⊎ ((p : ℕ × ℕ) × In p (zip xs ys) × (p.0 ≡ p.1 → ⊥))
unfolding zip
told_apart [] [] e = inl refl
told_apart [] (y ∷ ys) e = absurd (omega arith)
told_apart (x ∷ xs) [] e = absurd (omega arith)
told_apart (x ∷ xs) (y ∷ ys) e = go (eqb x y) refl (told_apart xs ys (omega arith))
  where
    later : x ≡ y → (xs ≡ ys) ⊎ ((p : ℕ × ℕ) × In p (zip xs ys) × (p.0 ≡ p.1 → ⊥)) → (x ∷ xs ≡ y ∷ ys) ⊎ ((p : ℕ × ℕ) × In p ((x, y) ∷ zip xs ys) × (p.0 ≡ p.1 → ⊥))
    later q (inl w) = inl (ap₂ (λ (z : ℕ) (zs : List ℕ). z ∷ zs) q w)
    later q (inr (p, i, n)) = inr (p, inr i, n)

    go : (b : Bool) → eqb x y ≡ b → (xs ≡ ys) ⊎ ((p : ℕ × ℕ) × In p (zip xs ys) × (p.0 ≡ p.1 → ⊥)) → (x ∷ xs ≡ y ∷ ys) ⊎ ((p : ℕ × ℕ) × In p ((x, y) ∷ zip xs ys) × (p.0 ≡ p.1 → ⊥))
    go true q w = later (eqb-true x y q) w
    go false q w = inr ((x, y), inl refl, eqb-false x y q)

-- Two applications that are not equal now have a pair of two different terms.
pub two_terms : (cx : Context) → Formed cx → (eq : List Merge) (a b : ℕ) → a < length cx.terms → b < length cx.terms → (term cx a).op ≡ (term cx b).op → are_equal eq a b ≡ false → TwoTerms (Congruence (zip (children cx a) (children cx b)))
unfolding children
two_terms cx F eq a b l m e n = go (told_apart (children cx a) (children cx b) (same_op_count cx F a b l m e))
  where
    go : (children cx a ≡ children cx b) ⊎ ((p : ℕ × ℕ) × In p (zip (children cx a) (children cx b)) × (p.0 ≡ p.1 → ⊥)) → (p : ℕ × ℕ) × In p (zip (children cx a) (children cx b)) × (p.0 ≡ p.1 → ⊥)
    go (inl q) =
        absurd (false_T (are_equal eq a b) n (subst (λ (z : ℕ). T (are_equal eq a z))
        (F.distinct a b l m (ap₂ (λ (o : Op) (as' : List ℕ). record { op = o; args = as' }) e q)) (equal_refl eq a)))
    go (inr w) = w

-- ---- readings

module _ (s : Session) (h : History) (I : Inv s h) where
  -- in a reading where a literal is true, its atom's value is its sign
  pub lit_true : (r : Reading s.state.terms) (l t : ℕ) (b : Bool) → IsAtom h l t → Ids.is_positive l ≡ b → LitTrue r h l →
      value r t ≡ truth b
  lit_true r l t b at p (u, w, e) =
      ap (value r) (atom_one s.state.terms s.state.atoms h I.named l t u at w) ∙ e ∙ ap truth p

  equation_sides : (r : Reading s.state.terms) (t x y : ℕ) → t < length s.state.terms.terms → IsEquation s.state.terms t x y → value r t ≡ truth true → value r x ≡ value r y
  equation_sides r t x y l (p, q) e =
      same_value_eq r.same (λ a b w. (r.same_is_equal a b).0 w) (value r x) (value r y)
      (true_T (same_value r.same (value r x) (value r y)) (truth_is (same_value r.same (value r x) (value r y)) true (sym (equation_is r I.ready.formed t x y l p q) ∙ e)))

  congruent_values : (r : Reading s.state.terms) (a b : ℕ) → a < length s.state.terms.terms → b < length s.state.terms.terms → (term s.state.terms a).op ≡ (term s.state.terms b).op → ((p : ℕ × ℕ) → In p (zip (children s.state.terms a) (children s.state.terms b)) → value r p.0 ≡ value r p.1) → value r a ≡ value r b
  congruent_values r a b l m e f =
      let F = I.ready.formed in
      value_is r a l (F.lower a l)
      ∙ ap₂ (λ (o : Op) (vs : Values r.Element). app_value r o vs) e
      (zip_values r (children s.state.terms a) (children s.state.terms b) (same_op_count s.state.terms F a b l m e) f)
      ∙ sym (value_is r b m (F.lower b m))

  label_sound : (r : Reading s.state.terms) (a b v : ℕ) (j : EqJust) → MergeFrom s.state.terms h a b v j → SoundLabel (value r) (LeafTrue r h) j a b
  label_sound r a b v (Asserted l) (t, i, at, p, w, e) = λ q. equation_sides r t a b w e
      (lit_true r l t true at (T_true (Ids.is_positive l) p) q)
  label_sound r a b v (Congruence ps) (i, l, m, e, z) = λ q. congruent_values r a b l m e (λ p k. q p (subst⁻¹ (λ (zs : List (ℕ × ℕ)). In p zs) z k))
  label_sound r a b v (Interface i g) w = λ q. q a b (v, w)

  pub merges_sound : (r : Reading s.state.terms) → Sound (value r) (LeafTrue r h) s.state.eq
  merges_sound r m i = label_sound r m.a m.b m.level m.just (I.merged.from m i)

  cited : (a b v : ℕ) (j : EqJust) (l : EqLeaf) → MergeFrom s.state.terms h a b v j → Labels j l → LeafInForce h l
  cited a b v (Asserted k) l w e = subst⁻¹ (LeafInForce h) e (inl (v, w.1))
  cited a b v (Congruence ps) l w e = absurd e
  cited a b v (Interface i g) l w e = subst⁻¹ (LeafInForce h) e (a, b, (v, w))

  -- literals that said something of their atoms by lines in force
  abbrev pub SaidNow : (Assertion → ℕ → ℕ → Type 0) → Type 0
  SaidNow Said =
      (b : Assertion) (k t : ℕ) → Said b k t →
      HoldsNow h (line_of b k) × IsAtom h k t × (Ids.is_positive k ≡ sign_of b) × Shape s.state.terms t b

  line_force : (b : Assertion) (k : ℕ) → HoldsNow h (line_of b k) → LeafInForce h (AssertedLeaf k)
  line_force Affirmed k f = inr (inl f)
  line_force Negated k f = inr (inl f)
  line_force Unequal k f = inr (inr f)

  leaf_force : (Said : Assertion → ℕ → ℕ → Type 0) → SaidNow Said → (l : EqLeaf) → Cited s.state Said l → LeafInForce h l
  leaf_force Said S l (inl (m, i, w)) = cited m.a m.b m.level m.just l (I.merged.from m i) w
  leaf_force Said S l (inr (b, k, t, w, e)) = subst⁻¹ (LeafInForce h) e (line_force b k (S b k t w).0)

  -- what a true literal says of its atom
  meant : (r : Reading s.state.terms) (b : Assertion) (k t : ℕ) → IsAtom h k t → Ids.is_positive k ≡ sign_of b →
      Shape s.state.terms t b → LitTrue r h k → Means r t b
  meant r Affirmed k t at p z q = lit_true r k t true at p q
  meant r Negated k t at p z q = lit_true r k t false at p q
  meant r Unequal k t at p z q = λ x y c e.
      false≢true (truth_is false true (sym (lit_true r k t false at p q)
      ∙ equation_true r I.ready.formed t x y (atom_within s.state.terms s.state.atoms h I.named k t at)
      (unfold children in λ i. record { op = z i; args = c i }) e))

  all_force : (ls : List EqLeaf) → ((l : EqLeaf) → In l ls → LeafInForce h l) → AllInForce h ls
  all_force [] f = tt
  all_force (l ∷ ls) f = (f l (inl refl), all_force ls (λ k i. f k (inr i)))

  each_true : (r : Reading s.state.terms) (ls : List EqLeaf) → AllTrue r h ls → (l : EqLeaf) → In l ls → LeafTrue r h l
  each_true r [] a l i = absurd i
  each_true r (k ∷ ls) (x, a) l (inl e) = subst⁻¹ (LeafTrue r h) e x
  each_true r (k ∷ ls) (x, a) l (inr i) = each_true r ls a l i

  -- a refutation is a conflict
  pub conflict_holds : (Said : Assertion → ℕ → ℕ → Type 0) → SaidNow Said → (ls : List EqLeaf) → Refuted s.state Said ls →
      AllInForce h ls × Impossible s.state.terms h ls × (ls ≢ [])
  conflict_holds Said S ls R = (
    all_force ls (λ l i. leaf_force Said S l (R.cites l i)),
    λ r a. R.impossible r (LeafTrue r h) (merges_sound r) (λ b k t w q. let (f, at, p, z) = S b k t w in meant r b k t at p z q)
        (each_true r ls a),
    R.some_leaf,
  )

  -- ---- lemmas

  some_lits : (r : Reading s.state.terms) (gs : List ℕ) → SomeLit (LitTrue r h) gs → SomeLitTrue r h gs
  some_lits r [] w = w
  some_lits r (g ∷ gs) (inl w) = inl w
  some_lits r (g ∷ gs) (inr w) = inr (some_lits r gs w)

  some_atoms : (r : Reading s.state.terms) (ts : List ℕ) → SomeTrue r ts → SomeAtomTrue r h ts
  some_atoms r [] w = w
  some_atoms r (t ∷ ts) (inl w) = inl w
  some_atoms r (t ∷ ts) (inr w) = inr (some_atoms r ts w)

  positive_even : (v : ℕ) → Ids.is_positive (2 * v) ≡ true
  positive_even v = eq-eqb ((2 * v) % 2) 0 (omega arith)

  negated : (v : ℕ) → Ids.negate (Ids.lit v true) ≡ 2 * v + 1
  negated v = ap (λ (b : Bool). cond b (2 * v + 1) (Prim.Native.Nat.◌-◌ (2 * v) 1)) (positive_even v)

  guard_true : (r : Reading s.state.terms) (v t : ℕ) → Atom.var_of_atom s.state.atoms t ≡ some v → value r t ≡ truth false → LitTrue r h (Ids.negate (Ids.lit v true))
  unfolding Atom.var_of_atom Atom.var_of
  guard_true r v t e q = go (first (λ (x : Registered). eqb x.atom t) s.state.atoms) refl e
    where
      var_is : Ids.var (Ids.negate (Ids.lit v true)) ≡ v
      var_is = ap (λ (n : ℕ). n / 2) (negated v) ∙ omega arith

      negative : Ids.is_positive (Ids.negate (Ids.lit v true)) ≡ false
      negative = ap (λ (n : ℕ). eqb (n % 2) 0) (negated v) ∙ ne_eqb ((2 * v + 1) % 2) 0 (λ w. omega arith)

      go : (o : Option Registered) → first (λ (x : Registered). eqb x.atom t) s.state.atoms ≡ o → Atom.var_of o ≡ some v → LitTrue r h (Ids.negate (Ids.lit v true))
      go none w z = absurd (none_some v z)
      go (some x) w z =
          let (i, k) = first_some (λ (x : Registered). eqb x.atom t) s.state.atoms x w in (
            t,
            subst⁻¹ (λ (n : ℕ). Accepted h (Register n t)) (var_is ∙ sym (some_is x.var v z)) (subst (λ (n : ℕ). Accepted h (Register x.var n)) (eqb→eq x.atom t k) (I.named.from x i)),
            q ∙ ap truth (sym negative),
          )

  pub lemma_holds : (atoms guards : List ℕ) → SplitHolds s.state atoms guards → Valid s.state.terms h atoms guards
  lemma_holds atoms guards H r = go (H r (LitTrue r h) (guard_true r))
    where
      go : SomeLit (LitTrue r h) guards ⊎ SomeTrue r atoms → LemmaTrue r h atoms guards
      go (inl w) = inl (some_lits r guards w)
      go (inr w) = inr (some_atoms r atoms w)
