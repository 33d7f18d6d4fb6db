-- Explanations: each leaf labels a merge, and the leaves together force the equality that they explain.
use Rattle.shinri_core.proofs.Kit.{ℕ, zero, suc, ◌≤◌, ◌<◌, ◌≡◌, refl, sym, subst, ap, ap₂, ◌∙◌, ◌⊎◌, inl, inr, ⊎_map, ◌↔◌, Bool, true, false, cond, ◌&&◌, ◌||◌, List, [], ◌∷◌, ◌++◌, map, foldl, append_assoc, append-nil, arith, T, eqb, eqb→eq, eqb_refl, length, length-map, eq-eqb}
use Rattle.shinri_core.specs.Lists.{any}
use Rattle.shinri_core.proofs.Lists.{In, any_in, T_and, T-both, cond_both}
use Rattle.theory.specs.Types.{EqJust, Asserted, Congruence, Interface, EqLeaf, AssertedLeaf, InterfaceLeaf, same_leaf}
use Rattle.theory.specs.EqEngine.{Merge, Step, find, are_equal, merge, pop_merges, pairs_of, path, Explained, same_pair, visit, cite, expand_edge, explain_rec, explain, firsts_after, firsts}
pub use Rattle.theory.specs.Memory.Replay.{Justified}
pub use Rattle.theory.specs.Memory.Answer.{Labels, Cites}
use Rattle.theory.specs.Memory.Answer.{has_leaf, with_leaf, Cited}
use Rattle.theory.proofs.Members.{T-or, T-left, in_left, in_right, in_either, in_any, Apart, apart_length}
use Rattle.theory.proofs.Classes.{Same, same?, same_alone, same_kept, same_suffix, equal_same, Suffix, suffix_self, suffix_tail, in_suffix, pop_suffix}
use Rattle.theory.proofs.Forest.{Leads, Along, path_over, Joins, PathOf, path_of, path_age}

-- ---- justified merges

pub justified_joins : (ms : List Merge) → Justified ms → Joins ms
justified_joins [] j = tt
justified_joins (m ∷ ms) (a, b, c) = (a, justified_joins ms c)

pub justified_suffix : (r ms : List Merge) → Suffix r ms → Justified ms → Justified r
justified_suffix r [] s j = subst Justified (sym s) tt
justified_suffix r (m ∷ ms) (inl s) j = subst Justified (sym s) j
justified_suffix r (m ∷ ms) (inr s) (a, b, c) = justified_suffix r ms s c

pub pop_justified : (k : ℕ) (ms : List Merge) → Justified ms → Justified (pop_merges k ms)
pop_justified k ms j = justified_suffix (pop_merges k ms) ms (pop_suffix k ms) j

pub merge_justified : (ms : List Merge) (level x y : ℕ) (j : EqJust) → Justified ms →
    ((p : ℕ × ℕ) → In p (pairs_of j) → T (are_equal ms p.0 p.1)) → Justified (merge ms level x y j)
unfolding merge
merge_justified ms level x y j J f = go (are_equal ms x y) refl
  where
    go : (b : Bool) → are_equal ms x y ≡ b → Justified (cond b ms (record { a = x; b = y; just = j; level = level } ∷ ms))
    go true e = J
    go false e = (e, f, J)

-- the pairs of a label are equal
abbrev EqualIn : List Merge → EqJust → Type 0
EqualIn r j = (p : ℕ × ℕ) → In p (pairs_of j) → Same r p.0 p.1

-- the pairs of every label were equal before the newest merge
pub pairs_before : (m : Merge) (r : List Merge) → Justified (m ∷ r) → (n : Merge) → In n (m ∷ r) → EqualIn r n.just
pairs_before m [] j n (inl e) p i = equal_same [] p.0 p.1 (j.1 p (rw (sym e) i))
pairs_before m [] j n (inr q) p i = absurd q
pairs_before m (k ∷ r) j n (inl e) p i = equal_same (k ∷ r) p.0 p.1 (j.1 p (rw (sym e) i))
pairs_before m (k ∷ r) j n (inr q) p i = same_kept k r p.0 p.1 (pairs_before k r j.2 n q p i)

-- ---- what is cited

-- x and y are one term or were expanded
abbrev met : ℕ → ℕ → Explained → Bool
met x y e = eqb x y || any (same_pair x y) e.visited

module _ (ms : List Merge) where
  -- all leaves so far label merges
  abbrev AllCite : Explained → Type 0
  AllCite e = (l : EqLeaf) → In l e.leaves → Cites ms l

  abbrev Keeps : (Explained → Explained) → Type 0
  Keeps f = (e : Explained) → AllCite e → AllCite (f e)

  fold_keeps : {A : Type 0} (f : Explained → A → Explained) (xs : List A) → ((x : A) → In x xs → Keeps (λ e. f e x)) →
      Keeps (λ e. foldl f e xs)
  fold_keeps f [] h e c = c
  fold_keeps f (x ∷ xs) h e c = fold_keeps f xs (λ y i. h y (inr i)) (f e x) (h x (inl refl) e c)

  cite_keeps : (m : Merge) → In m ms → (l : EqLeaf) → Labels m.just l → Keeps (cite l)
  unfolding cite
  cite_keeps m i l h e c k j = elim (in_either k e.leaves (l ∷ []) j) [
    | inl o ↦ c k o
    | inr (inl q) ↦ (m, i, subst (Labels m.just) (sym q) h)
    | inr (inr o) ↦ absurd o
  ]

  edge_keeps : (R : ℕ → ℕ → Explained → Explained) → ((x y : ℕ) → Keeps (R x y)) → (m : Merge) → In m ms → (j : EqJust) → j ≡ m.just →
      Keeps (expand_edge R j)
  unfolding expand_edge
  edge_keeps R h m i (Asserted l) q = cite_keeps m i (AssertedLeaf l) (subst (λ (j : EqJust). Labels j (AssertedLeaf l)) q refl)
  edge_keeps R h m i (Interface g t) q = cite_keeps m i (InterfaceLeaf g t) (subst (λ (j : EqJust). Labels j (InterfaceLeaf g t)) q refl)
  edge_keeps R h m i (Congruence ps) q = fold_keeps (λ e (p : ℕ × ℕ). R p.0 p.1 e) ps (λ p o. h p.0 p.1)

  rec_keeps : (k x y : ℕ) → Keeps (explain_rec k ms x y)
  unfolding explain_rec visit
  rec_keeps zero x y e c = c
  rec_keeps (suc k) x y e c =
      let expand : Explained → Step → Explained = λ e s. expand_edge (explain_rec k ms) s.just e in
      elim (met x y e) as (λ b. AllCite (cond b e (foldl expand (visit x y e) (path ms x y)))) [
        | true ↦ c
        | false ↦
            fold_keeps expand (path ms x y)
            (λ s i. let (m, o, a) = path_over ms x y s i in edge_keeps (explain_rec k ms) (rec_keeps k) m o s.just a.0)
            (visit x y e) c
      ]

pub explain_cites : (ms : List Merge) (x y : ℕ) (l : EqLeaf) → In l (explain ms x y) → Cites ms l
unfolding explain
explain_cites ms x y = rec_keeps ms (suc (length ms)) x y (record { visited = []; leaves = [] }) (λ k i. absurd i)

-- ---- what is forced

-- a visited pair in either order
same_pair_is : (x y : ℕ) (p : ℕ × ℕ) → T (same_pair x y p) → ((x ≡ p.0) × (y ≡ p.1)) ⊎ ((x ≡ p.1) × (y ≡ p.0))
unfolding same_pair
same_pair_is x y p t = elim (T-or (eqb x p.0 && eqb y p.1) (eqb x p.1 && eqb y p.0) t) [
  | inl s ↦ let (u, v) = T_and (eqb x p.0) (eqb y p.1) s in inl (eqb→eq x p.0 u, eqb→eq y p.1 v)
  | inr s ↦ let (u, v) = T_and (eqb x p.1) (eqb y p.0) s in inr (eqb→eq x p.1 u, eqb→eq y p.0 v)
]

module _ {Val : Type 0} (val : ℕ → Val) (True : EqLeaf → Type 0) where
  -- what a label says of the values of its sides
  abbrev pub SoundLabel : EqJust → ℕ → ℕ → Type 0
  SoundLabel (Asserted l) x y = True (AssertedLeaf l) → val x ≡ val y
  SoundLabel (Congruence ps) x y = ((p : ℕ × ℕ) → In p ps → val p.0 ≡ val p.1) → val x ≡ val y
  SoundLabel (Interface h g) x y = True (InterfaceLeaf h g) → val x ≡ val y

  abbrev pub Sound : List Merge → Type 0
  Sound ms = (m : Merge) → In m ms → SoundLabel m.just m.a m.b

  -- the leaves so far force an equality
  abbrev Forced : Explained → ℕ → ℕ → Type 0
  Forced e x y = ((l : EqLeaf) → In l e.leaves → True l) → val x ≡ val y

  -- nothing is lost from e to e', and each pair visited in between is forced
  record Grown (e e' : Explained) : Type 0 where
    keeps : (l : EqLeaf) → In l e.leaves → In l e'.leaves
    news : (p : ℕ × ℕ) → In p e'.visited → In p e.visited ⊎ Forced e' p.0 p.1

  forced_on : (e e' : Explained) (x y : ℕ) → Grown e e' → Forced e x y → Forced e' x y
  forced_on e e' x y g f t = f (λ l i. t l (g.keeps l i))

  grown_none : (e : Explained) → Grown e e
  grown_none e = record { keeps = λ l i. i; news = λ p i. inl i }

  grown_then : (e f g : Explained) → Grown e f → Grown f g → Grown e g
  grown_then e f g h k = record {
    keeps = λ l i. k.keeps l (h.keeps l i);
    news = λ p i. elim (k.news p i) [ inl j ↦ ⊎_map (λ o. o) (forced_on f g p.0 p.1 k) (h.news p j) | inr u ↦ inr u ];
  }

  -- every visited pair that was equal in r is forced
  abbrev Done : List Merge → Explained → Type 0
  Done r e = (p : ℕ × ℕ) → In p e.visited → Same r p.0 p.1 → Forced e p.0 p.1

  done_on : (r : List Merge) (e e' : Explained) → Grown e e' → Done r e → Done r e'
  done_on r e e' g d p i s = elim (g.news p i) [ inl j ↦ forced_on e e' p.0 p.1 g (d p j s) | inr f ↦ f ]

  -- e' explains x and y
  abbrev Explains : Explained → Explained → ℕ → ℕ → Type 0
  Explains e e' x y = Grown e e' × Forced e' x y

  module _ {A : Type 0} (r : List Merge) (f : Explained → A → Explained) (l : A → ℕ) (h : A → ℕ) where
    fold_explains : (xs : List A) (e : Explained) →
        ((x : A) → In x xs → (e' : Explained) → Done r e' → Explains e' (f e' x) (l x) (h x)) → Done r e →
        Grown e (foldl f e xs) × ((x : A) → In x xs → Forced (foldl f e xs) (l x) (h x))
    fold_explains [] e g d = (grown_none e, λ x i. absurd i)
    fold_explains (x ∷ xs) e g d =
        let last = foldl f (f e x) xs in
        let (a, b) = g x (inl refl) e d in
        let (c, k) = fold_explains xs (f e x) (λ y i. g y (inr i)) (done_on r e (f e x) a d) in (
          grown_then e (f e x) last a c,
          λ y i. elim i [
            | inl q ↦ subst (λ (z : A). Forced last (l z) (h z)) (sym q) (forced_on (f e x) last (l x) (h x) c b)
            | inr j ↦ k y j
          ],
        )

  cite_explains : (k : EqLeaf) (e : Explained) (x y : ℕ) → (True k → val x ≡ val y) → Explains e (cite k e) x y
  unfolding cite
  cite_explains k e x y s =
      (record { keeps = λ l. in_left l e.leaves (k ∷ []); news = λ p. inl }, λ t. s (t k (in_right k e.leaves (k ∷ []) (inl refl))))

  -- R explains all terms that are equal in r
  abbrev ExplainsAll : List Merge → (ℕ → ℕ → Explained → Explained) → Type 0
  ExplainsAll r R = (x y : ℕ) (e : Explained) → Same r x y → Done r e → Explains e (R x y e) x y

  edge_explains : (r : List Merge) (R : ℕ → ℕ → Explained → Explained) → ExplainsAll r R → (j : EqJust) (x y : ℕ) → SoundLabel j x y →
      EqualIn r j → (e : Explained) → Done r e → Explains e (expand_edge R j e) x y
  unfolding expand_edge pairs_of
  edge_explains r R h (Asserted l) x y s q e d = cite_explains (AssertedLeaf l) e x y s
  edge_explains r R h (Interface t g) x y s q e d = cite_explains (InterfaceLeaf t g) e x y s
  edge_explains r R h (Congruence ps) x y s q e d =
      let each : Explained → ℕ × ℕ → Explained = λ e' p. R p.0 p.1 e' in
      let (a, b) = fold_explains r each (λ p. p.0) (λ p. p.1) ps e (λ p i e'. h p.0 p.1 e' (q p i)) d in
      (a, λ t. s (λ p i. b p i t))

  leads_value : (w : List Step) (x z : ℕ) → Leads x w z → ((s : Step) → In s w → val s.node ≡ val s.up) → val x ≡ val z
  leads_value [] x z e f = ap val e
  leads_value (s ∷ w) x z (a, l) f = ap val (sym a) ∙ f s (inl refl) ∙ leads_value w s.up z l (λ t i. f t (inr i))

  -- a path whose every step is forced forces its ends
  path_value : (ms : List Merge) (x y : ℕ) → PathOf ms x y → ((s : Step) → In s (path ms x y) → val s.node ≡ val s.up) → val x ≡ val y
  path_value ms x y k f =
      let g : (s : Step) → In s (k.rise ++ k.fall) → val s.node ≡ val s.up = λ s i. f s (rw k.parts i) in
      leads_value k.rise x k.peak k.from_x (λ s i. g s (in_left s k.rise k.fall i))
      ∙ sym (leads_value k.fall y k.peak k.from_y (λ s i. g s (in_right s k.rise k.fall i)))

  sound_move : (j : EqJust) (a b x y : ℕ) → SoundLabel j a b → (val a ≡ val b → val x ≡ val y) → SoundLabel j x y
  sound_move (Asserted l) a b x y h f = λ t. f (h t)
  sound_move (Congruence ps) a b x y h f = λ t. f (h t)
  sound_move (Interface i g) a b x y h f = λ t. f (h t)

  along_sound : (m : Merge) (s : Step) → Along m s → SoundLabel m.just m.a m.b → SoundLabel s.just s.node s.up
  along_sound m s (j, sides) h = rw j (sound_move m.just m.a m.b s.node s.up h (λ e. elim sides [
    | inl (p, q) ↦ ap val p ∙ e ∙ sym (ap val q)
    | inr (p, q) ↦ ap val p ∙ sym e ∙ sym (ap val q)
  ]))

  -- a skipped pair is of one term or was finished
  skipped : (r : List Merge) (x y : ℕ) (e : Explained) → Same r x y → Done r e → T (met x y e) → Forced e x y
  skipped r x y e s d t = go (T-or (eqb x y) (any (same_pair x y) e.visited) t)
    where
      either : (p : ℕ × ℕ) → In p e.visited → ((x ≡ p.0) × (y ≡ p.1)) ⊎ ((x ≡ p.1) × (y ≡ p.0)) → Forced e x y
      either p i (inl (u, v)) h = ap val u ∙ d p i (ap (find r) (sym u) ∙ s ∙ ap (find r) v) h ∙ sym (ap val v)
      either p i (inr (u, v)) h = ap val u ∙ sym (d p i (ap (find r) (sym v) ∙ sym s ∙ ap (find r) u) h) ∙ sym (ap val v)

      go : T (eqb x y) ⊎ T (any (same_pair x y) e.visited) → Forced e x y
      go (inl u) h = ap val (eqb→eq x y u)
      go (inr u) h = let (p, i, q) = any_in (same_pair x y) e.visited u in either p i (same_pair_is x y p q) h

  module _ (ms : List Merge) (J : Justified ms) (S : Sound ms) where
    expand : ℕ → Explained → Step → Explained
    expand k e s = expand_edge (explain_rec k ms) s.just e

    abbrev whole : ℕ → ℕ → ℕ → Explained → Explained
    whole k x y e = foldl (expand k) (visit x y e) (path ms x y)

    -- the path of terms that only the newest merge of m ∷ r made equal, expanded
    expanded : (m : Merge) (r : List Merge) (k x y : ℕ) (e : Explained) → Suffix (m ∷ r) ms → ExplainsAll r (explain_rec k ms) →
        Same (m ∷ r) x y → (Same r x y → ⊥) → Done (m ∷ r) e → Explains e (whole k x y e) x y
    unfolding visit expand
    expanded m r k x y e u f s h d =
        let (a, b) = fold_explains r (expand k) (λ t. t.node) (λ t. t.up) (path ms x y) (visit x y e) one start in
        let parts = path_of ms (justified_joins ms J) x y (same_suffix (m ∷ r) ms x y u s) in
        let c : Forced (whole k x y e) x y = λ t. path_value ms x y parts (λ q i. b q i t) in (
          record {
            keeps = a.keeps;
            news = λ p i. elim (a.news p i) [
              | inl (inl q) ↦ inr (λ t. ap (λ (z : ℕ × ℕ). val z.0) q ∙ c t ∙ sym (ap (λ (z : ℕ × ℕ). val z.1) q))
              | inl (inr j) ↦ inl j
              | inr g ↦ inr g
            ];
          },
          c,
        )
      where
        start : Done r (visit x y e)
        start p (inl q) w = absurd (h (ap (λ (z : ℕ × ℕ). find r z.0) (sym q) ∙ w ∙ ap (λ (z : ℕ × ℕ). find r z.1) q))
        start p (inr i) w = d p i (same_kept m r p.0 p.1 w)

        one : (q : Step) → In q (path ms x y) → (e' : Explained) → Done r e' → Explains e' (expand k e' q) q.node q.up
        one q i e' g =
            let (n, o, a) = path_age ms (m ∷ r) x y (justified_joins ms J) u s q i in
            edge_explains r (explain_rec k ms) f q.just q.node q.up (along_sound n q a (S n (in_suffix (m ∷ r) ms n u o)))
            (λ p z. pairs_before m r (justified_suffix (m ∷ r) ms u J) n o p (subst (λ (j : EqJust). In p (pairs_of j)) a.0 z)) e' g

    -- one call with enough depth: skipped, or its path is expanded
    one_call : (r : List Merge) (k x y : ℕ) (e : Explained) → Same r x y → Done r e →
        (met x y e ≡ false → Explains e (whole k x y e) x y) → Explains e (explain_rec (suc k) ms x y e) x y
    unfolding explain_rec expand
    one_call r k x y e s d f =
        elim (met x y e) as (λ b. met x y e ≡ b → Explains e (cond b e (whole k x y e)) x y) [
          | true ↦ λ q. (grown_none e, skipped r x y e s d (subst T (sym q) tt))
          | false ↦ f
        ] refl

    -- Ages fall, so the depth is enough, and no pair that is still being expanded is met again.
    forces : (r : List Merge) → Suffix r ms → (k x y : ℕ) (e : Explained) → length r < k → Same r x y → Done r e →
        Explains e (explain_rec k ms x y e) x y
    forces r u zero x y e l s d = absurd (omega arith)
    forces [] u (suc k) x y e l s d =
        let t = T-left (eqb x y) (any (same_pair x y) e.visited) (subst T (sym (eq-eqb x y (same_alone x y s))) tt) in
        one_call [] k x y e s d (λ q. absurd (subst T q t))
    forces (m ∷ r) u (suc k) x y e l s d =
        let v = suffix_tail m r ms u in
        elim (same? r x y) [
          | yes q ↦ forces r v (suc k) x y e (omega arith) q (λ p i w. d p i (same_kept m r p.0 p.1 w))
          | no h ↦
              let g : ExplainsAll r (explain_rec k ms) = λ x y e. forces r v k x y e (omega arith) in
              one_call (m ∷ r) k x y e s d (λ q. expanded m r k x y e u g s h d)
        ]

  -- Whoever takes the leaves for true, and each merge for sound, has equal values.
  pub explain_forces : (ms : List Merge) (x y : ℕ) → Justified ms → Sound ms → T (are_equal ms x y) →
      ((l : EqLeaf) → In l (explain ms x y) → True l) → val x ≡ val y
  unfolding explain
  explain_forces ms x y J S t h =
      let start : Explained = record { visited = []; leaves = [] } in
      (forces ms J S ms (suffix_self ms) (suc (length ms)) x y start (omega arith) (equal_same ms x y t) (λ p i w. absurd i)).1 h

-- ---- an explanation is not empty

-- a congruence has a pair of two different terms
abbrev pub TwoTerms : EqJust → Type 0
TwoTerms (Asserted l) = Unit {0}
TwoTerms (Congruence ps) = (p : ℕ × ℕ) × In p ps × (p.0 ≡ p.1 → ⊥)
TwoTerms (Interface h g) = Unit {0}

two_terms_sound : (j : EqJust) (x y : ℕ) → TwoTerms j → SoundLabel (λ (n : ℕ). n) (λ l. ⊥) j x y
two_terms_sound (Asserted l) x y a = λ t. absurd t
two_terms_sound (Congruence ps) x y (p, i, h) = λ f. absurd (h (f p i))
two_terms_sound (Interface g t) x y a = λ t. absurd t

-- With no leaf, terms themselves would be values that satisfy every label.
pub explain_nonempty : (ms : List Merge) (x y : ℕ) → Justified ms → ((m : Merge) → In m ms → TwoTerms m.just) → (x ≡ y → ⊥) →
    T (are_equal ms x y) → explain ms x y ≡ [] → ⊥
explain_nonempty ms x y J A h t e =
    let sound : Sound (λ (n : ℕ). n) (λ l. ⊥) ms = λ m i. two_terms_sound m.just m.a m.b (A m i) in
    h (explain_forces (λ (n : ℕ). n) (λ l. ⊥) ms x y J sound t (λ l i. subst (λ (ls : List EqLeaf). In l ls) e i))

-- ---- first occurrences

pub same_leaf_eq : (k l : EqLeaf) → T (same_leaf k l) → k ≡ l
unfolding same_leaf
same_leaf_eq (AssertedLeaf m) (AssertedLeaf n) t = ap AssertedLeaf (eqb→eq m n t)
same_leaf_eq (AssertedLeaf m) (InterfaceLeaf h g) t = absurd t
same_leaf_eq (InterfaceLeaf h g) (AssertedLeaf n) t = absurd t
same_leaf_eq (InterfaceLeaf h g) (InterfaceLeaf i k) t =
    let (a, b) = T_and (eqb h i) (eqb g k) t in
    ap₂ InterfaceLeaf (eqb→eq h i a) (eqb→eq g k b)

pub same_leaf_refl : (l : EqLeaf) → T (same_leaf l l)
unfolding same_leaf
same_leaf_refl (AssertedLeaf m) = eqb_refl m
same_leaf_refl (InterfaceLeaf h g) = T-both (eqb h h) (eqb g g) (eqb_refl h) (eqb_refl g)

seen_in : (l : EqLeaf) (seen : List EqLeaf) → T (any (same_leaf l) seen) → In l seen
seen_in l seen t =
    let (k, i, s) = any_in (same_leaf l) seen t in
    subst (λ (z : EqLeaf). In z seen) (sym (same_leaf_eq l k s)) i

pub in_seen : (l : EqLeaf) (seen : List EqLeaf) → In l seen → T (any (same_leaf l) seen)
in_seen l seen i = in_any (same_leaf l) seen l i (same_leaf_refl l)

-- what is kept stood there
after_in : (seen ls : List EqLeaf) (l : EqLeaf) → In l (firsts_after seen ls) → In l ls
unfolding firsts_after
after_in seen [] l i = absurd i
after_in seen (k ∷ ls) l i =
    elim (any (same_leaf k) seen) as (λ b. In l (cond b (firsts_after seen ls) (k ∷ firsts_after (k ∷ seen) ls)) → In l (k ∷ ls)) [
      | true ↦ λ j. inr (after_in seen ls l j)
      | false ↦ ⊎_map (λ e. e) (after_in (k ∷ seen) ls l)
    ] i

-- what stood there is kept, or was seen before
in_after : (seen ls : List EqLeaf) (l : EqLeaf) → In l ls → In l (firsts_after seen ls) ⊎ In l seen
unfolding firsts_after
in_after seen [] l i = absurd i
in_after seen (k ∷ ls) l i =
    elim (any (same_leaf k) seen) as
    (λ b. any (same_leaf k) seen ≡ b → In l (cond b (firsts_after seen ls) (k ∷ firsts_after (k ∷ seen) ls)) ⊎ In l seen) [
      | true ↦ λ e. elim i [ inl q ↦ inr (rw q (seen_in k seen (rw e tt))) | inr j ↦ in_after seen ls l j ]
      | false ↦ λ e. elim i [
        | inl q ↦ inl (inl q)
        | inr j ↦ elim (in_after (k ∷ seen) ls l j) [ inl o ↦ inl (inr o) | inr (inl q) ↦ inl (inl q) | inr (inr o) ↦ inr o ]
      ]
    ] refl

pub firsts_in : (ls : List EqLeaf) (l : EqLeaf) → In l (firsts ls) ↔ In l ls
unfolding firsts
firsts_in ls l = (after_in [] ls l, λ i. elim (in_after [] ls l i) [ inl j ↦ j | inr j ↦ absurd j ])

pub firsts_empty : (ls : List EqLeaf) → firsts ls ≡ [] → ls ≡ []
firsts_empty [] e = refl
firsts_empty (l ∷ ls) e = absurd (subst (λ (ks : List EqLeaf). In l ks) e ((firsts_in (l ∷ ls) l).1 (inl refl)))

-- ---- how many leaves

label_leaf : EqJust → EqLeaf
label_leaf (Asserted l) = AssertedLeaf l
label_leaf (Congruence ps) = AssertedLeaf 0
label_leaf (Interface h g) = InterfaceLeaf h g

labels_leaf : (j : EqJust) (l : EqLeaf) → Labels j l → l ≡ label_leaf j
unfolding label_leaf
labels_leaf (Asserted n) l e = e
labels_leaf (Congruence ps) l e = absurd e
labels_leaf (Interface h g) l e = e

cites_in : (ms : List Merge) (l : EqLeaf) → Cites ms l → In l (map (λ (m : Merge). label_leaf m.just) ms)
cites_in [] l (m, i, c) = absurd i
cites_in (n ∷ ms) l (m, inl e, c) = inl (labels_leaf m.just l c ∙ ap (λ (k : Merge). label_leaf k.just) e)
cites_in (n ∷ ms) l (m, inr i, c) = inr (cites_in ms l (m, i, c))

-- different leaves that are one other or label merges
pub few_leaves : (ms : List Merge) (other : EqLeaf) (ls : List EqLeaf) → Apart ls → Cited ms other ls → length ls ≤ suc (length ms)
few_leaves ms other ls a f =
    let h = apart_length ls (other ∷ map (λ (m : Merge). label_leaf m.just) ms) a (λ l i. ⊎_map (λ e. e) (cites_in ms l) (f l i)) in
    omega (arith, length-map ms (λ (m : Merge). label_leaf m.just))

-- ---- first occurrences, with one leaf more

cond_swap : (a b r : Bool) → cond a true (cond b true r) ≡ cond b true (cond a true r)
cond_swap true b r = sym (cond_both b)
cond_swap false b r = refl

any_move : (p : EqLeaf → Bool) (xs : List EqLeaf) (k : EqLeaf) (ys : List EqLeaf) → any p (xs ++ (k ∷ ys)) ≡ any p ((k ∷ xs) ++ ys)
unfolding any
any_move p [] k ys = refl
any_move p (x ∷ xs) k ys = ap (cond (p x) true) (any_move p xs k ys) ∙ cond_swap (p x) (p k) (any p (xs ++ ys))

cons_cond : (k : EqLeaf) (b : Bool) (xs ys : List EqLeaf) → k ∷ cond b xs ys ≡ cond b (k ∷ xs) (k ∷ ys)
cons_cond k true xs ys = refl
cons_cond k false xs ys = refl

append_cond : (us : List EqLeaf) (b : Bool) (xs : List EqLeaf) (l : EqLeaf) →
    cond b (us ++ xs) ((us ++ xs) ++ (l ∷ [])) ≡ us ++ cond b xs (xs ++ (l ∷ []))
append_cond us true xs l = refl
append_cond us false xs l = append_assoc us xs (l ∷ [])

-- one leaf more is kept where it stands neither among the first occurrences nor among those seen before
firsts_more : (ls seen : List EqLeaf) (l : EqLeaf) → let us = firsts_after seen ls in
    firsts_after seen (ls ++ (l ∷ [])) ≡ cond (has_leaf l (seen ++ us)) us (us ++ (l ∷ []))
unfolding firsts_after
firsts_more [] seen l = ap (λ (us : List EqLeaf). cond (has_leaf l us) [] (l ∷ [])) (sym (append-nil seen))
firsts_more (k ∷ ls) seen l =
    go (has_leaf k seen) (firsts_after seen ls) (firsts_after (k ∷ seen) ls) (firsts_more ls seen l) (firsts_more ls (k ∷ seen) l)
  where
    go : (b : Bool) (us vs : List EqLeaf) {xs ys : List EqLeaf} → xs ≡ cond (has_leaf l (seen ++ us)) us (us ++ (l ∷ [])) →
        ys ≡ cond (has_leaf l ((k ∷ seen) ++ vs)) vs (vs ++ (l ∷ [])) →
        let ws = cond b us (k ∷ vs) in cond b xs (k ∷ ys) ≡ cond (has_leaf l (seen ++ ws)) ws (ws ++ (l ∷ []))
    go true us vs e f = e
    go false us vs e f =
        ap (λ (ws : List EqLeaf). k ∷ ws) f
        ∙ cons_cond k (has_leaf l ((k ∷ seen) ++ vs)) vs (vs ++ (l ∷ []))
        ∙ ap (λ (b : Bool). cond b (k ∷ vs) (k ∷ vs ++ (l ∷ []))) (sym (any_move (same_leaf l) seen k vs))

pub pushed_firsts : {us vs : List EqLeaf} (seen ls : List EqLeaf) (l : EqLeaf) → us ≡ seen ++ firsts_after seen ls → vs ≡ with_leaf l us →
    vs ≡ seen ++ firsts_after seen (ls ++ (l ∷ []))
pushed_firsts seen ls l e q =
    q ∙ ap (with_leaf l) e
    ∙ append_cond seen (has_leaf l (seen ++ firsts_after seen ls)) (firsts_after seen ls) l
    ∙ ap (λ (ws : List EqLeaf). seen ++ ws) (sym (firsts_more ls seen l))
