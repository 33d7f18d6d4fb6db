-- What the loops and tests of the questions say: lists by their places, operations, the pairs of a congruence.
use Rattle.std.specs.Prelude.{◌↔◌, IsTrue, EachIndex, slice_index}
use Rattle.std.proofs.lemmas.Bool.Decides.{same_from_decides}
use Rattle.shinri_core.proofs.Kit.{ℕ, zero, suc, ◌+◌, ◌-◌, ◌≤◌, ◌<◌, ◌≡◌, refl, sym, ap, ap₂, ◌∙◌, subst⁻¹, Bool, true, false, cond, not, ◌&&◌, false≢true, true≢false, List, [], ◌∷◌, map, arith, length, get_or, length-map, eqb, ltb, leb, lt-leb, le-leb, ltb-true, eqb-true, below_more, dec_le, not-false, ◌⊎◌, inl, inr, subst}
use borrow.Author.Tests.{lt-ltb, not-true}
use Rattle.shinri_core.specs.Limits.{max_terms, max_pairs}
use Rattle.shinri_core.specs.Ids as Ids
use Rattle.shinri_core.specs.Lists.{In, every, total, zip, same_list}
use Rattle.shinri_core.specs.Term.{Op, Eq, Uninterpreted, same_op}
use Rattle.shinri_core.specs.Context.{Context, symbol, term, children, sort_of}
use Rattle.shinri_core.specs.Formed.{Formed, Agrees}
use Rattle.shinri_core.specs.declared.term.Op as Op
use Rattle.shinri_core.specs.contracts.term.OpPartialEq.TheImpl as OpEq
use Rattle.shinri_core.specs.Memory.Codes.{op_meaning, OpAt}
use Rattle.shinri_core.specs.Memory.Table.{context, ContextSound, AllBelow, HasParam}
use Rattle.shinri_core.proofs.Lists.{same_list_not, same_list_same}
use Rattle.theory.specs.Types.{Congruence}
use Rattle.theory.specs.EqEngine.{Merge, are_equal, merge, pairs_of, pairs_in_force}
use Rattle.theory.specs.Atom.{Registered, is_registered, atom}
use Rattle.theory.specs.Memory.Registry.{atoms}
use Rattle.theory.specs.Memory.Table.{merges, TwoNodes}
use Rattle.theory.proofs.Memory.Joining.{zip_length}
use Rattle.solver.specs.Memory.Table.{registry}
use Rattle.solver.proofs.Memory.Asserting.{atom_within}
use Rattle.session.specs.Memory.Questions.{all_below, pairs_equal, NamesApp, NamesLit, NodePairs, PairsNamed}

-- ---- lists by their places

cond_no : (b : Bool) → cond b false false ≡ false
cond_no true = refl
cond_no false = refl

module _ {A : Type 0} where
  pub every_passes : (q : A → Bool) (d : A) (xs : List A) → ((k : ℕ) → k < length xs → q (get_or xs k d) ≡ true) → every q xs ≡ true
  unfolding every
  every_passes q d [] h = refl
  every_passes q d (x ∷ xs) h = rw (h 0 (omega arith)) (every_passes q d xs (λ k l. h (suc k) (omega arith)))

  pub every_fails : (q : A → Bool) (d : A) (xs : List A) (i : ℕ) → i < length xs → q (get_or xs i d) ≡ false → every q xs ≡ false
  unfolding every
  every_fails q d [] i l e = absurd (omega arith)
  every_fails q d (x ∷ xs) zero l e = rw e
  every_fails q d (x ∷ xs) (suc i) l e = rw (every_fails q d xs i (omega arith) e) (cond_no (q x))

  pub every_at : (q : A → Bool) (d : A) (xs : List A) → every q xs ≡ true → (i : ℕ) → i < length xs → q (get_or xs i d) ≡ true
  every_at q d xs e i l = not_no (q (get_or xs i d)) (λ h. true≢false (sym e ∙ every_fails q d xs i l h))
    where
      not_no : (b : Bool) → (b ≡ false → ⊥) → b ≡ true
      not_no true h = refl
      not_no false h = absurd (h refl)

pub below_all : (n : ℕ) (xs : List ℕ) → all_below n xs ≡ true → AllBelow n xs
below_all n xs e j l = ltb-true (get_or xs j 0) n (every_at (λ x. ltb x n) 0 xs e j l)

-- a test that says yes just if each number of a list is below n
pub below_each : (n : ℕ) (xs : List ℕ) (r : Bool) → IsTrue r ↔ EachIndex xs (λ k. slice_index xs k < n) → r ≡ all_below n xs
below_each n xs r h =
    same_from_decides r (all_below n xs) h
    (below_all n xs, λ all. every_passes (λ x. ltb x n) 0 xs (λ k l. lt-ltb (get_or xs k 0) n (all k l)))

pub and_left : (a b : Bool) → (a && b) ≡ true → a ≡ true
and_left true b e = refl
and_left false b e = absurd (false≢true e)

pub and_right : (a b : Bool) → (a && b) ≡ true → b ≡ true
and_right true b e = e
and_right false b e = absurd (false≢true e)

-- ---- sorts of arguments

-- the arguments up to i have the sorts of the parameters
pub record SortsTo (cx : Context) (ps xs : List ℕ) (i : ℕ) : Type 0 where
  pub within : i ≤ length xs
  pub same : (k : ℕ) → k < i → sort_of cx (get_or xs k 0) ≡ get_or ps k 0

pub sorts_first : (cx : Context) (ps xs : List ℕ) → SortsTo cx ps xs 0
sorts_first cx ps xs = record { within = omega arith; same = λ k l. absurd (omega arith) }

pub sorts_next : {cx : Context} {ps xs : List ℕ} {i a b : ℕ} → SortsTo cx ps xs i → i < length xs → a ≡ sort_of cx (get_or xs i 0) →
    b ≡ get_or ps i 0 → a ≡ b → SortsTo cx ps xs (i + 1)
sorts_next {cx} {ps} {xs} {i} s l p q e =
    record {
      within = omega arith;
      same = below_more (λ (k : ℕ). sort_of cx (get_or xs k 0) ≡ get_or ps k 0) i (λ k m. s.same k m) (sym
          p ∙ e ∙ q);
    }

mapped_same : (f : ℕ → ℕ) (xs ps : List ℕ) → length xs ≡ length ps → ((k : ℕ) → k < length xs → f (get_or xs k 0) ≡ get_or ps k 0) →
    map f xs ≡ ps
mapped_same f [] [] l h = refl
mapped_same f [] (p ∷ ps) l h = absurd (omega arith)
mapped_same f (x ∷ xs) [] l h = absurd (omega arith)
mapped_same f (x ∷ xs) (p ∷ ps) l h = rw (h 0 (omega arith), mapped_same f xs ps (omega arith) (λ k m. h (suc k) (omega arith)))

get_or_map : (f : ℕ → ℕ) (xs : List ℕ) (k : ℕ) → k < length xs → get_or (map f xs) k 0 ≡ f (get_or xs k 0)
get_or_map f [] k l = absurd (omega arith)
get_or_map f (x ∷ xs) zero l = refl
get_or_map f (x ∷ xs) (suc k) l = get_or_map f xs k (omega arith)

pub sorts_done : {cx : Context} {ps xs : List ℕ} {i n : ℕ} → SortsTo cx ps xs i → length xs ≤ i → n ≡ length ps → n ≡ length xs →
    true ≡ same_list (map (sort_of cx) xs) ps
sorts_done {cx} {ps} {xs} {i} s l p q =
    let e = mapped_same (sort_of cx) xs ps (omega arith) (λ k h. s.same k (omega arith)) in
    sym (ap (λ (ys : List ℕ). same_list ys ps) e ∙ same_list_same ps)

pub sorts_count : (cx : Context) (ps xs : List ℕ) (n : ℕ) → n ≡ length ps → (n ≡ length xs → ⊥) → false ≡ same_list (map (sort_of cx) xs) ps
sorts_count cx ps xs n p h =
    sym (same_list_not (map (sort_of cx) xs) ps (λ e. h (p ∙ sym (ap length e) ∙ length-map xs (sort_of cx))))

pub sorts_differ : (cx : Context) (ps xs : List ℕ) (i a b : ℕ) → i < length xs → a ≡ sort_of cx (get_or xs i 0) → b ≡ get_or ps i 0 →
    (a ≡ b → ⊥) → false ≡ same_list (map (sort_of cx) xs) ps
sorts_differ cx ps xs i a b l p q h =
    sym (same_list_not (map (sort_of cx) xs) ps (λ e.
    h (p ∙ sym (get_or_map (sort_of cx) xs i l) ∙ ap (λ (ys : List ℕ). get_or ys i 0) e ∙ sym q)))

-- ---- operations

-- what `==` says of two
told : (r q : Op.Op) → OpEq.eq-value.it r q ≡ same_op (op_meaning r) (op_meaning q)
unfolding op_meaning same_op
told Op.TheVariants.Eq Op.TheVariants.Eq = refl
told Op.TheVariants.Eq (Op.TheVariants.Uninterpreted g) = refl
told (Op.TheVariants.Uninterpreted f) Op.TheVariants.Eq = refl
told (Op.TheVariants.Uninterpreted f) (Op.TheVariants.Uninterpreted g) = refl

module _ {t : List ℕ} {x : ℕ} {r : Op.Op} {b : Bool} (u : OpAt t x r) where
  pub op_is_eq : b ≡ OpEq.eq-value.it r Op.TheVariants.Eq → b ≡ same_op (term (context t) x).op Eq
  unfolding op_meaning
  op_is_eq e = e ∙ told r Op.TheVariants.Eq ∙ ap (λ (o : Op). same_op o Eq) u.is

  pub ops_are : {y : ℕ} {q : Op.Op} → OpAt t y q → b ≡ OpEq.eq-value.it r q → b ≡ same_op (term (context t) x).op (term (context t) y).op
  ops_are {q = q} v e = e ∙ told r q ∙ ap₂ same_op u.is v.is

-- ---- pairs

pub pair_nodes : {e xs ys : List ℕ} {i : ℕ} → NodePairs e xs ys → i < length xs → TwoNodes e (get_or xs i 0) (get_or ys i 0)
pair_nodes {e} {xs} {ys} {i} N l = let h = N.same_count in record {
  sound = N.sound;
  first = N.left i l;
  second = N.right i
      (omega arith);
}

-- pairs of which those from some place on decide whether all are equal now
pub record PairsLeft (e xs ys as' bs : List ℕ) : Type 0 where
  pub nodes : NodePairs e as' bs
  pub decide : pairs_equal e xs ys ≡ pairs_equal e as' bs

pub pairs_first : {e xs ys as' bs : List ℕ} → NodePairs e xs ys → as' ≡ xs → bs ≡ ys → PairsLeft e xs ys as' bs
pairs_first {e} {xs} {ys} N p q =
    let is : (as' bs : List ℕ) → xs ≡ as' → ys ≡ bs → PairsLeft e xs ys as' bs = λ as' bs p q.
    subst (λ (vs : List ℕ). PairsLeft e xs ys vs bs) p (subst (λ (vs : List ℕ). PairsLeft e xs ys xs vs) q (record { nodes = N; decide = refl }))
    in
    is _ _ (sym p) (sym q)

module _ {e xs ys as' bs vs ws : List ℕ} {x y : ℕ} (L : PairsLeft e xs ys as' bs) (p : as' ≡ x ∷ vs) (q : bs ≡ y ∷ ws) where
  here : NodePairs e (x ∷ vs) (y ∷ ws)
  here = subst (λ (ks : List ℕ). NodePairs e (x ∷ vs) ks) q (subst (λ (ks : List ℕ). NodePairs e ks bs) p L.nodes)

  decided : pairs_equal e xs ys ≡ pairs_equal e (x ∷ vs) (y ∷ ws)
  decided = L.decide ∙ ap₂ (pairs_equal e) p q

  pub turn_nodes : TwoNodes e x y
  turn_nodes = pair_nodes {i = 0} here (omega arith)

  module _ {r : Bool} (is : r ≡ are_equal (merges e) x y) where
    pub pairs_not : not r ≡ true → false ≡ pairs_equal e xs ys
    unfolding every zip
    pairs_not n = sym (decided ∙ rw (sym is ∙ not-true r n))

    pub pairs_next : not r ≡ false → PairsLeft e xs ys vs ws
    unfolding every zip
    pairs_next n =
        let H = here in
        let same = H.same_count in
        let nodes : NodePairs e vs ws = record {
          sound = H.sound;
          same_count = omega arith;
          left = λ j h. H.left (suc j) (omega arith);
          right = λ j h. H.right (suc j) (omega arith);
        } in
        record { nodes = nodes; decide = decided ∙ rw (sym is ∙ not-false r n) }

none_left : (e as' : List ℕ) → pairs_equal e as' [] ≡ true
unfolding every zip
none_left e [] = refl
none_left e (x ∷ xs) = refl

pub pairs_done : {e xs ys as' bs : List ℕ} → PairsLeft e xs ys as' bs → (as' ≡ []) ⊎ (bs ≡ []) → true ≡ pairs_equal e xs ys
unfolding every zip
pairs_done {e} {bs = bs} L (inl p) = sym (L.decide ∙ ap (λ (ks : List ℕ). pairs_equal e ks bs) p)
pairs_done {e} {as' = as'} L (inr q) = sym (L.decide ∙ ap (pairs_equal e as') q ∙ none_left e as')

-- ---- what is named

pub count_is : (x n m : ℕ) → n ≡ m → ltb x n ≡ ltb x m
count_is x n m e = ap (ltb x) e

pub sorts_compared : (a b x y : ℕ) → a ≡ x → b ≡ y → eqb a b ≡ eqb x y
sorts_compared a b x y p q = ap₂ eqb p q

pub arg_named : {c : List ℕ} {f : ℕ} {args : List ℕ} {i : ℕ} → NamesApp c f args → i < length args →
    get_or args i 0 < length (context c).terms
arg_named {c} {f} {args} {i} N l = N.terms i l

pub param_named : {c : List ℕ} {f : ℕ} {args : List ℕ} {i n : ℕ} → NamesApp c f args → n ≡ length (symbol (context c) f).params →
    n ≡ length args → i < length args → HasParam c f i
param_named {c} {f} {args} {i} {n} N p q l = record { sound = N.sound; declared = N.declared; within = omega arith }

pub var_named : (rs : List Registered) (l v : ℕ) (r : Bool) → v ≡ Ids.var l → r ≡ is_registered rs v → r ≡ is_registered rs (Ids.var l)
var_named rs l v r e h = h ∙ ap (is_registered rs) e

pub named_atom : {c s : List ℕ} {l v x : ℕ} → NamesLit c s l → v ≡ Ids.var l → x ≡ atom (atoms (registry s)) v →
    x < length (context c).terms
named_atom {c} {s} {l} {v} {x} N p a =
    let h = atom_within (atoms (registry s)) v (length (context c).terms) N.atoms_are
    (ap (is_registered (atoms (registry s))) p ∙ N.registered)
    in
    omega arith

pub named_var : {c s : List ℕ} {l v : ℕ} → NamesLit c s l → v ≡ Ids.var l → is_registered (atoms (registry s)) v ≡ true
named_var {c} {s} N p = ap (is_registered (atoms (registry s))) p ∙ N.registered

-- ---- 11: the pairs of a congruence

pub fit_joined : (ms : List Merge) (lv t u : ℕ) (xs ys : List ℕ) (b : Bool) → pairs_in_force ms ≤ max_pairs → b ≡ are_equal ms t u →
    b ≡ true → b ≡ leb (pairs_in_force (merge ms lv t u (Congruence (zip xs ys)))) max_pairs
unfolding merge
fit_joined ms lv t u xs ys b h e f = f ∙ rw (sym e ∙ f) (sym (le-leb (pairs_in_force ms) max_pairs h))

pub fit_apart : (ms : List Merge) (lv t u n : ℕ) (xs ys : List ℕ) (b : Bool) → length (t ∷ xs) ≡ length (u ∷ ys) →
    n ≡ pairs_in_force ms → n ≤ max_pairs → b ≡ are_equal ms t u → b ≡ false →
    leb (length xs) (max_pairs - n) ≡ leb (pairs_in_force (merge ms lv t u (Congruence (zip xs ys)))) max_pairs
unfolding merge pairs_in_force pairs_of total
fit_apart ms lv t u n xs ys b l p f e g = rw (sym e ∙ g, zip_length xs ys (omega arith), sym p) (same (dec_le (length xs) (max_pairs - n)))
  where
    same : Dec (length xs ≤ max_pairs - n) → leb (length xs) (max_pairs - n) ≡ leb (length xs + n) max_pairs
    same (yes h) = le-leb (length xs) (max_pairs - n) h ∙ sym (le-leb (length xs + n) max_pairs (omega arith))
    same (no h) = lt-leb (length xs) (max_pairs - n) (omega arith) ∙ sym (lt-leb (length xs + n) max_pairs (omega arith))

-- ---- 9: the arguments of two applications

-- an element by its place
at_in : (xs : List ℕ) (j : ℕ) → j < length xs → In (get_or xs j 0) xs
at_in [] j l = absurd (omega arith)
at_in (x ∷ xs) zero l = inl refl
at_in (x ∷ xs) (suc j) l = inr (at_in xs j (omega arith))

pub children_nodes : (c : List ℕ) (t : ℕ) → ContextSound c → Formed (context c) → t < length (context c).terms →
    AllBelow max_terms (children (context c) t)
children_nodes c t S F l j h =
    let low = F.lower t l (get_or (children (context c) t) j 0) (at_in (children (context c) t) j h) in
    let n = S.term_count in
    let m = S.terms_fit in
    omega arith

args_count : (cx : Context) (o p : Op) (xs ys : List ℕ) → same_op o p ≡ true → Agrees cx o xs → Agrees cx p ys → length xs ≡ length ys
unfolding same_op
args_count cx Eq Eq xs ys e (a, b, q, s) (a', b', q', s') = ap length q ∙ sym (ap length q')
args_count cx Eq (Uninterpreted f) xs ys e p q = absurd (false≢true e)
args_count cx (Uninterpreted f) Eq xs ys e p q = absurd (false≢true e)
args_count cx (Uninterpreted f) (Uninterpreted g) xs ys e p q =
    sym (length-map xs (sort_of cx))
    ∙ ap length (p ∙ ap (λ (h : ℕ). (symbol cx h).params) (eqb-true f g e) ∙ sym q)
    ∙ length-map ys (sort_of cx)

module _ {c e : List ℕ} {t u : ℕ} {xs ys : List ℕ} {p : Bool} (N : PairsNamed c e t u)
    (o : p ≡ same_op (term (context c) t).op (term (context c) u).op) (n : p ≡ true)
    (l : xs ≡ children (context c) t) (r : ys ≡ children (context c) u) where
  pub arguments_are : NodePairs e xs ys
  arguments_are =
      let F = N.formed in
      let S = N.two.sound in
      let m : length (children (context c) t) ≡ length (children (context c) u) =
      args_count (context c) (term (context c) t).op (term (context c) u).op _ _ (sym o ∙ n)
      (F.agrees t N.two.first) (F.agrees u N.two.second)
      in
      record {
        sound = N.engine;
        same_count = ap length l ∙ m ∙ sym (ap length r);
        left = subst⁻¹ (AllBelow max_terms) l (children_nodes c t S F N.two.first);
        right = subst⁻¹ (AllBelow max_terms) r (children_nodes c u S F N.two.second);
      }
