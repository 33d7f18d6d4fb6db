-- Conflicts: the leaves of a constructor clash, a tester's clash of either sign, unequal terms that are equal and a ring are true together
-- in no reading. Values of two constructors differ, a tester is true of the values of its constructor and of no others, and a value is
-- smaller than what is built over it.
use Prim.Native.Nat.{ℕ, suc, ◌+◌, ◌≤◌, ◌<◌}
use mathlib.Core.Path.{◌≡◌, refl, sym, subst, subst⁻¹, ap, ◌∙◌}
use mathlib.Core.Logic.{◌⊎◌, inl, inr, ◌≢◌}
use mathlib.Core.Bool.{Bool, true, false, cond, not}
use mathlib.Core.List.{List, [], ◌∷◌, cons≢nil}
use mathlib.Core.Option.{Option, none, some}
use native.Mathlib.Omega.{arith}
use lib.Dec.{T, eqb, eqb→eq}
use borrow.Author.Tests.{eq-eqb, eqb-true, eqb-false}
use Rattle.shinri_core.specs.Lists.{keep}
use Rattle.shinri_core.specs.Context.{Context, CtorApp, TesterApp, term, ctor_app, tester_app, is_datatype_sort, sort_of, children}
use Rattle.shinri_core.specs.Reading.{Value, Values, truth, element, tree, nil, cons, Reading, built_by, value}
use Rattle.shinri_core.proofs.Lists.{In, true_T, T_and, T-both, keep_in}
use Rattle.theory.specs.Types.{EqLeaf, AssertedLeaf}
use Rattle.theory.specs.EqEngine.{Merge, explain, firsts}
use Rattle.theory.proofs.Members.{in_left, in_right, in_either}
use Rattle.theory.proofs.Explain.{Cites, Justified, Sound, TwoTerms, explain_cites, explain_forces, explain_nonempty, firsts_in, firsts_empty}
use Rattle.solver.specs.State.{State, AssertedAtom, ctor_apps, ctor_of_class, equal}
use Rattle.solver.specs.Records.{tester_leaves, disagrees, tester_conflict, is_own, own_app, denies, negative_conflict, literal_leaves, disequality_conflict}
use Rattle.solver.specs.Rules.{clash}
use Rattle.solver.specs.Ring.{Edge, kids, edge_leaves, acyclicity_conflict}
use Rattle.solver.proofs.Basics.{none_some, some_is, first_some, first_none, gather_in, reverse_in, by_test, T-no, false_T}
use Rattle.solver.proofs.Terms.{Formed}
use Rattle.solver.proofs.Signature.{Signed}
use Rattle.solver.proofs.Values.{values_of}
use Rattle.solver.proofs.Apps.{op_is, IsCtor, ctor_app_is, IsTester, tester_app_is, app_within, ctor_value, test_value, truth_is, tree_ctor}
use Rattle.solver.proofs.Walk.{class_ctor, KidOf, Link, Trail, Ringed, HasRing, ringed_ring}

-- what a state must be for its answers to be right
pub record Ready (s : State) : Type 0 where
  pub formed : Formed s.terms
  pub signed : Signed s.terms
  pub justified : Justified s.eq
  pub two_terms : (m : Merge) → In m s.eq → TwoTerms m.just

-- the tester application t is against the lowest marked application of its term's class, which has another constructor
abbrev pub Against : State → ℕ → Type 0
Against s t = (x : TesterApp) × (c : CtorApp) × (tester_app s.terms t ≡ some x) × (ctor_of_class s x.arg ≡ some c) × (c.ctor ≡ x.ctor → ⊥)

-- the class of the tester application t's term has a marked application of that very constructor
abbrev pub Denied : State → ℕ → Type 0
Denied s t =
    (x : TesterApp) × (c : CtorApp) × (tester_app s.terms t ≡ some x) × In c (ctor_apps s) × T (equal s x.arg c.app)
    × (c.ctor ≡ x.ctor)

-- the sides of the equation t are equal now
abbrev pub Joined : State → ℕ → Type 0
Joined s t = (x y : ℕ) × (children s.terms t ≡ (x ∷ y ∷ [])) × T (equal s x y)

-- what a recorded literal says: of a tester that it is true, of a tester that it is false, of an equation that its sides are unequal
pub data Assertion : Type 0 where
  Affirmed Negated Unequal : Assertion

-- of a tester, by the sign of the literal
abbrev pub of_tester : Bool → Assertion
of_tester true = Affirmed
of_tester false = Negated

-- what it means of its atom t in a reading
abbrev pub Means : {cx : Context} → Reading cx → ℕ → Assertion → Type 0
Means r t Affirmed = value r t ≡ truth true
Means r t Negated = value r t ≡ truth false
Means {cx} r t Unequal = (x y : ℕ) → children cx t ≡ (x ∷ y ∷ []) → value r x ≡ value r y → ⊥

-- why there is a conflict: two marked applications, a tester that was said to be true, one that was said to be false, terms that were
-- said to be unequal, or a ring
abbrev pub Caused : State → (Assertion → ℕ → ℕ → Type 0) → Type 0
Caused s Said =
    ((p q : CtorApp) × In p (ctor_apps s) × In q (ctor_apps s) × T (clash s (p, q)))
    ⊎ (((k t : ℕ) × Said Affirmed k t × Against s t)
    ⊎ (((k t : ℕ) × Said Negated k t × Denied s t) ⊎ (((k t : ℕ) × Said Unequal k t × Joined s t) ⊎ HasRing s)))

-- a leaf is that of a merge, or a literal that said something of its atom
abbrev pub Cited : State → (Assertion → ℕ → ℕ → Type 0) → EqLeaf → Type 0
Cited s Said l = Cites s.eq l ⊎ ((b : Assertion) × (k t : ℕ) × Said b k t × (l ≡ AssertedLeaf k))

-- The leaves are those of merges, or literals that said something; whoever takes them for true is refuted; and there is one.
pub record Refuted (s : State) (Said : Assertion → ℕ → ℕ → Type 0) (ls : List EqLeaf) : Type 1 where
  pub cites : (l : EqLeaf) → In l ls → Cited s Said l
  pub impossible : (r : Reading s.terms) (True : EqLeaf → Type 0) → Sound (value r) True s.eq →
      ((b : Assertion) (k t : ℕ) → Said b k t → True (AssertedLeaf k) → Means r t b) → ((l : EqLeaf) → In l ls → True l) → ⊥
  pub some_leaf : ls ≢ []
  pub cause : Caused s Said

-- one of three, by what is said
abbrev pub by_assertion : {A : Type 0} → Assertion → A → A → A → A
by_assertion Affirmed x y z = x
by_assertion Negated x y z = y
by_assertion Unequal x y z = z

-- the record of what was said: the level record has the testers that were said to be true
abbrev pub record_by : State → Assertion → List AssertedAtom
record_by s b = by_assertion b s.dt.level_record s.dt.negative_record s.dt.disequalities

-- an entry of it
abbrev pub Recorded : State → Assertion → ℕ → ℕ → Type 0
Recorded s b k t = (e : AssertedAtom) × In e (record_by s b) × (e.lit ≡ k) × (e.atom ≡ t)

pub ctor_in : (s : State) (c : CtorApp) → In c (ctor_apps s) → IsCtor s.terms c.app c
unfolding ctor_apps
ctor_in s c i =
    let (u, j, p) = gather_in (ctor_app s.terms) s.dt.marks c i in
    let k = ctor_app_is s.terms u c p in
    subst⁻¹ (λ (z : ℕ). IsCtor s.terms z c) k.app k

-- the application that a negative tester is against
pub own_is : (s : State) (x : TesterApp) (c : CtorApp) → own_app s x ≡ some c →
    In c (ctor_apps s) × T (equal s x.arg c.app) × (c.ctor ≡ x.ctor)
unfolding own_app is_own
own_is s x c e =
    let (i, t) = first_some (is_own s x) (ctor_apps s) c e in
    let (n, k) = T_and (eqb c.ctor x.ctor) (equal s x.arg c.app) t in
    (i, k, eqb→eq c.ctor x.ctor n)

-- there is one if the class has an application of its constructor
pub own_there : (s : State) (x : TesterApp) (c : CtorApp) → In c (ctor_apps s) → T (equal s x.arg c.app) → c.ctor ≡ x.ctor →
    own_app s x ≡ none → ⊥
unfolding own_app is_own
own_there s x c i k e n =
    false_T (is_own s x c) (first_none (is_own s x) (ctor_apps s) c n i)
    (T-both (eqb c.ctor x.ctor) (equal s x.arg c.app) (true_T _ (eq-eqb c.ctor x.ctor e)) k)

module _ (s : State) (R : Ready s) where
  -- leaves of an explanation
  explained_cites : (Said : Assertion → ℕ → ℕ → Type 0) (x y : ℕ) (l : EqLeaf) → In l (firsts (explain s.eq x y)) → Cited s Said l
  explained_cites Said x y l i = inl (explain_cites s.eq x y l ((firsts_in (explain s.eq x y) l).0 i))

  forced : (r : Reading s.terms) (True : EqLeaf → Type 0) (x y : ℕ) → Sound (value r) True s.eq → T (equal s x y) → ((l : EqLeaf) → In l (explain s.eq x y) → True l) → value r x ≡ value r y
  unfolding equal
  forced r True x y S t h = explain_forces (value r) True s.eq x y R.justified S t h

  nonempty : (x y : ℕ) → (x ≡ y → ⊥) → T (equal s x y) → explain s.eq x y ≡ [] → ⊥
  unfolding equal
  nonempty x y n t e = explain_nonempty s.eq x y R.justified R.two_terms n t e

  -- ---- constructor clash

  same_op : (p q : CtorApp) → IsCtor s.terms p.app p → IsCtor s.terms q.app q → p.app ≡ q.app → p.ctor ≡ q.ctor
  same_op p q P Q e = op_is p.ctor q.ctor (sym P.op ∙ ap (λ (t : ℕ). (term s.terms t).op) e ∙ Q.op)

  pub clash_refuted : (Said : Assertion → ℕ → ℕ → Type 0) (p q : CtorApp) → In p (ctor_apps s) → In q (ctor_apps s) → T (clash s (p, q)) →
      Refuted s Said (firsts (explain s.eq p.app q.app))
  unfolding clash
  clash_refuted Said p q i j t = go (T_and (not (eqb p.ctor q.ctor)) (equal s p.app q.app) t) (ctor_in s p i) (ctor_in s q j)
    where
      go : T (not (eqb p.ctor q.ctor)) × T (equal s p.app q.app) → IsCtor s.terms p.app p → IsCtor s.terms q.app q → Refuted s Said (firsts (explain s.eq p.app q.app))
      go (n, e) P Q = record {
        cites = explained_cites Said p.app q.app;
        impossible = λ r True S H h. eqb-false p.ctor q.ctor (T-no (eqb p.ctor q.ctor) n)
            (tree_ctor p.ctor q.ctor (values_of r p.fields) (values_of r q.fields)
            (sym (ctor_value r R.formed p.app p.ctor p.fields P.op P.args P.role)
            ∙ forced r True p.app q.app S e (λ l k. h l ((firsts_in (explain s.eq p.app q.app) l).1 k))
            ∙ ctor_value r R.formed q.app q.ctor q.fields Q.op Q.args Q.role));
        some_leaf = λ z. nonempty p.app q.app (λ w. eqb-false p.ctor q.ctor (T-no (eqb p.ctor q.ctor) n) (same_op p q P Q w)) e
            (firsts_empty (explain s.eq p.app q.app) z);
        cause = inl (p, q, i, j, t);
      }

  -- ---- testers

  -- of a value of the constructor d, a tester says whether d is its constructor
  built_is : {E : Type 0} (v : Value E) (c d : ℕ) (vs : Values E) (b : Bool) → v ≡ tree d vs →
      Path (Value E) (truth (built_by c v)) (truth b) → eqb c d ≡ b
  unfolding built_by
  built_is v c d vs b e h = sym (ap (built_by c) e) ∙ truth_is (built_by c v) b h

  -- the tester application t, which the literal l says something of
  module _ (Said : Assertion → ℕ → ℕ → Type 0) (l t : ℕ) (x : TesterApp) (ls : List EqLeaf) (y : tester_app s.terms t ≡ some x) where
    -- an application of its term's class that does not go with the literal's sign
    sign_refuted : (b : Bool) (c : CtorApp) → Said (of_tester b) l t → IsCtor s.terms c.app c → T (equal s x.arg c.app) →
        (eqb x.ctor c.ctor ≡ b → ⊥) → Caused s Said → Refuted s Said (tester_leaves s l x.arg c)
    unfolding tester_leaves literal_leaves
    sign_refuted b c w C q n z = record {
      cites = λ k i. cited k ((firsts_in leaves k).0 i);
      impossible = λ r True S H h. n (built_is (value r x.arg) x.ctor c.ctor (values_of r c.fields) b
          (forced r True x.arg c.app S q (λ k i. h k ((firsts_in leaves k).1 (inr i)))
          ∙ ctor_value r R.formed c.app c.ctor c.fields C.op C.args C.role)
          (sym (test_value r R.formed t x.tester x.ctor x.arg X.rest X.op X.args X.role)
          ∙ meant r b (H (of_tester b) l t w (h (AssertedLeaf l) ((firsts_in leaves (AssertedLeaf l)).1 (inl refl))))));
      some_leaf = λ e. cons≢nil (firsts_empty leaves e);
      cause = z;
    }
      where
        leaves : List EqLeaf
        leaves = AssertedLeaf l ∷ explain s.eq x.arg c.app

        X : IsTester s.terms t x
        X = tester_app_is s.terms t x y

        meant : (r : Reading s.terms) (b : Bool) → Means r t (of_tester b) → value r t ≡ truth b
        meant r true m = m
        meant r false m = m

        cited : (k : EqLeaf) → In k leaves → Cited s Said k
        cited k (inl e) = inr (of_tester b, l, t, w, e)
        cited k (inr i) = inl (explain_cites s.eq x.arg c.app k i)

    disagreement : (o : Option CtorApp) → ctor_of_class s x.arg ≡ o → Said Affirmed l t → disagrees s l x o ≡ some ls → Refuted s Said ls
    unfolding disagrees
    disagreement none q w e = absurd (none_some ls e)
    disagreement (some c) q w e = go (eqb c.ctor x.ctor) refl e
      where
        refuted : (c.ctor ≡ x.ctor → ⊥) → Refuted s Said (tester_leaves s l x.arg c)
        refuted n =
            let (i, g, k) = class_ctor s x.arg c q in
            sign_refuted true c w (ctor_app_is s.terms c.app c g) k (λ z. n (sym (eqb-true x.ctor c.ctor z)))
            (inr (inl (l, t, w, (x, c, y, q, n))))

        go : (b : Bool) → eqb c.ctor x.ctor ≡ b → cond b none (some (tester_leaves s l x.arg c)) ≡ some ls → Refuted s Said ls
        go true n z = absurd (none_some ls z)
        go false n z = subst (Refuted s Said) (some_is (tester_leaves s l x.arg c) ls z) (refuted (eqb-false c.ctor x.ctor n))

    pub tester_refuted : Said Affirmed l t → tester_conflict s l x ≡ some ls → Refuted s Said ls
    unfolding tester_conflict
    tester_refuted w e = disagreement (ctor_of_class s x.arg) refl w e

    denial : (o : Option CtorApp) → own_app s x ≡ o → Said Negated l t → denies s l x o ≡ some ls → Refuted s Said ls
    unfolding denies
    denial none q w e = absurd (none_some ls e)
    denial (some c) q w e =
        let (i, k, z) = own_is s x c q in
        subst (Refuted s Said) (some_is (tester_leaves s l x.arg c) ls e)
        (sign_refuted false c w (ctor_in s c i) k (λ n. eqb-false x.ctor c.ctor n (sym z))
        (inr (inr (inl (l, t, w, (x, c, y, i, k, z))))))

    pub negative_refuted : Said Negated l t → negative_conflict s l x ≡ some ls → Refuted s Said ls
    unfolding negative_conflict
    negative_refuted w e = denial (own_app s x) refl w e

  -- ---- unequal terms

  -- the literal l says of the equation t that its sides are unequal
  module _ (Said : Assertion → ℕ → ℕ → Type 0) (l t : ℕ) (w : Said Unequal l t) where
    sides_refuted : (x y : ℕ) → children s.terms t ≡ (x ∷ y ∷ []) → T (equal s x y) → Refuted s Said (literal_leaves s l x y)
    unfolding literal_leaves
    sides_refuted x y k q = record {
      cites = λ m i. cited m ((firsts_in leaves m).0 i);
      impossible = λ r True S H h.
          H Unequal l t w (h (AssertedLeaf l) ((firsts_in leaves (AssertedLeaf l)).1 (inl refl))) x y k
          (forced r True x y S q (λ m i. h m ((firsts_in leaves m).1 (inr i))));
      some_leaf = λ e. cons≢nil (firsts_empty leaves e);
      cause = inr (inr (inr (inl (l, t, w, (x, y, k, q)))));
    }
      where
        leaves : List EqLeaf
        leaves = AssertedLeaf l ∷ explain s.eq x y

        cited : (m : EqLeaf) → In m leaves → Cited s Said m
        cited m (inl e) = inr (Unequal, l, t, w, e)
        cited m (inr i) = inl (explain_cites s.eq x y m i)

    pub disequality_refuted : (xs : List ℕ) → children s.terms t ≡ xs → (ls : List EqLeaf) → disequality_conflict s l xs ≡ some ls →
        Refuted s Said ls
    unfolding disequality_conflict
    disequality_refuted [] k ls e = absurd (none_some ls e)
    disequality_refuted (x ∷ []) k ls e = absurd (none_some ls e)
    disequality_refuted (x ∷ y ∷ []) k ls e = go (equal s x y) refl e
      where
        go : (b : Bool) → equal s x y ≡ b → cond b (some (literal_leaves s l x y)) none ≡ some ls → Refuted s Said ls
        go true q z =
            subst (Refuted s Said) (some_is (literal_leaves s l x y) ls z) (sides_refuted x y k (true_T (equal s x y) q))
        go false q z = absurd (none_some ls z)
    disequality_refuted (x ∷ y ∷ z ∷ zs) k ls e = absurd (none_some ls e)

-- ---- sizes of values

mutual
  pub size : {E : Type 0} → Value E → ℕ
  size (truth b) = 0
  size (element e) = 0
  size (tree c vs) = suc (sizes vs)

  pub sizes : {E : Type 0} → Values E → ℕ
  sizes nil = 0
  sizes (cons v vs) = size v + sizes vs

module _ {cx : Context} (r : Reading cx) where
  member_size : (as' : List ℕ) (a : ℕ) → In a as' → size (value r a) ≤ sizes (values_of r as')
  unfolding size sizes
  member_size [] a i = absurd i
  member_size (b ∷ as') a (inl e) = subst⁻¹ (λ (z : ℕ). size (value r z) ≤ size (value r b) + sizes (values_of r as')) e (omega arith)
  member_size (b ∷ as') a (inr i) = let h = member_size as' a i in omega arith

-- ---- rings

pub kid_field : (cx : Context) (c : CtorApp) (f : ℕ) → In f (kids cx c) → In f c.fields × T (is_datatype_sort cx (sort_of cx f))
unfolding kids
kid_field cx c f i =
    keep_in (λ g. is_datatype_sort cx (sort_of cx g)) c.fields f (reverse_in f (keep (λ g. is_datatype_sort cx (sort_of cx g)) c.fields) i)

edge_in : (ms : List Merge) (es : List Edge) (e : Edge) (l : EqLeaf) → In e es → In l (explain ms e.field e.app) → In l (edge_leaves ms es)
unfolding edge_leaves
edge_in ms [] e l i j = absurd i
edge_in ms (d ∷ es) e l (inl q) j =
    in_left l (explain ms d.field d.app) (edge_leaves ms es) (subst (λ (z : Edge). In l (explain ms z.field z.app)) q j)
edge_in ms (d ∷ es) e l (inr i) j = in_right l (explain ms d.field d.app) (edge_leaves ms es) (edge_in ms es e l i j)

edges_cite : (ms : List Merge) (es : List Edge) (l : EqLeaf) → In l (edge_leaves ms es) → Cites ms l
unfolding edge_leaves
edges_cite ms [] l i = absurd i
edges_cite ms (e ∷ es) l i = go (in_either l (explain ms e.field e.app) (edge_leaves ms es) i) (edges_cite ms es l)
  where
    go : In l (explain ms e.field e.app) ⊎ In l (edge_leaves ms es) → (In l (edge_leaves ms es) → Cites ms l) → Cites ms l
    go (inl j) f = explain_cites ms e.field e.app l j
    go (inr j) f = f j

in_none : (xs : List EqLeaf) → ((l : EqLeaf) → In l xs → ⊥) → xs ≡ []
in_none [] f = refl
in_none (x ∷ xs) f = absurd (f x (inl refl))

module _ (s : State) (R : Ready s) where
  -- an edge leads to the class of a field
  abbrev EdgeOf : Edge → Type 0
  EdgeOf e = (a : ℕ) × Link s a e

  trail_edge : (es : List Edge) (a b : ℕ) (e : Edge) → Trail s a es b → In e es → EdgeOf e
  trail_edge [] a b e w i = absurd i
  trail_edge (d ∷ es) a b e (k, w) (inl q) = (a, subst⁻¹ (Link s a) q k)
  trail_edge (d ∷ es) a b e (k, w) (inr i) = trail_edge es d.app b e w i

  ringed_edge : (es : List Edge) → Ringed s es → (e : Edge) → In e es → EdgeOf e
  ringed_edge es G e i = go (subst (λ (zs : List Edge). In e zs) G.edges i)
    where
      go : In e (G.closing ∷ G.rest) → EdgeOf e
      go (inl q) = (G.last, subst⁻¹ (Link s G.last) q G.link)
      go (inr j) = trail_edge G.rest G.closing.app G.last e G.trail j

  edge_equal : (e : Edge) → EdgeOf e → T (equal s e.field e.app)
  edge_equal e (a, (k, (d, p, q))) = subst (λ (z : ℕ). T (equal s e.field z)) q (class_ctor s e.field d p).2

  -- No number falls along each edge of a ring.
  module _ (m : ℕ → ℕ) (falls : (a f : ℕ) → KidOf s a f → m f < m a) where
    trail_falls : (es : List Edge) (a b : ℕ) → Trail s a es b → ((e : Edge) → In e es → m e.field ≡ m e.app) → m b ≤ m a
    trail_falls [] a b q h = subst (λ (z : ℕ). m z ≤ m a) q (omega arith)
    trail_falls (e ∷ es) a b ((k, d), w) h =
        let x = trail_falls es e.app b w (λ f i. h f (inr i)) in
        let y = falls a e.field k in
        let z = h e (inl refl) in
        omega arith

    ring_falls : (es : List Edge) → Ringed s es → ((e : Edge) → In e es → m e.field ≡ m e.app) → ⊥
    ring_falls es G h =
        let H : (e : Edge) → In e (G.closing ∷ G.rest) → m e.field ≡ m e.app = λ e i. h e (subst⁻¹ (λ (zs : List Edge). In e zs) G.edges i) in
        let x = trail_falls G.rest G.closing.app G.last G.trail (λ e i. H e (inr i)) in
        let y = falls G.last G.closing.field G.link.0 in
        let z = H G.closing (inl refl) in
        omega arith

  kid_size : (r : Reading s.terms) (a f : ℕ) → KidOf s a f → size (value r f) < size (value r a)
  unfolding size
  kid_size r a f (c, p, i) =
      let C = ctor_app_is s.terms a c p in
      subst⁻¹ (λ (v : Value r.Element). size (value r f) < size v) (ctor_value r R.formed a c.ctor c.fields C.op C.args C.role)
      (let h = member_size r c.fields f (kid_field s.terms c f i).0 in omega arith)

  kid_lower : (a f : ℕ) → KidOf s a f → f < a
  kid_lower a f (c, p, i) =
      let C = ctor_app_is s.terms a c p in
      R.formed.lower a (app_within s.terms a c.ctor C.op) f (subst⁻¹ (λ (zs : List ℕ). In f zs) C.args (kid_field s.terms c f i).0)

  pub ring_refuted : (Said : Assertion → ℕ → ℕ → Type 0) (es : List Edge) → Ringed s es → Refuted s Said (acyclicity_conflict s es)
  unfolding acyclicity_conflict
  ring_refuted Said es G = record {
    cites = λ l i. inl (edges_cite s.eq es l ((firsts_in (edge_leaves s.eq es) l).0 i));
    impossible = λ r True S H h. ring_falls (λ t. size (value r t)) (kid_size r) es G
        (λ e i. ap (λ (v : Value r.Element). size v) (forced s R r True e.field e.app S (edge_equal e (ringed_edge es G e i)) (λ l j. h l ((firsts_in (edge_leaves s.eq es) l).1 (edge_in s.eq es e l i j)))));
    some_leaf = λ z. ring_falls (λ t. t) kid_lower es G (λ e i. alone e i (firsts_empty (edge_leaves s.eq es) z));
    cause = inr (inr (inr (inr (ringed_ring s es G))));
  }
    where
      alone : (e : Edge) → In e es → edge_leaves s.eq es ≡ [] → e.field ≡ e.app
      alone e i z =
          by_test (eqb e.field e.app) (λ q. eqb-true e.field e.app q)
          (λ q. absurd (nonempty s R e.field e.app (eqb-false e.field e.app q) (edge_equal e (ringed_edge es G e i))
          (in_none (explain s.eq e.field e.app) (λ l j. subst (λ (xs : List EqLeaf). In l xs) z (edge_in s.eq es e l i j)))))
