-- What ties a session to its accepted lines, part by part: names, merges, entries of the records, marks.
use Prim.Native.Nat.{ℕ, zero, suc, ◌≤◌, ◌<◌}
use mathlib.Core.Path.{◌≡◌, refl, sym, subst, subst⁻¹, ap, ap₂, ◌∙◌}
use mathlib.Core.Logic.{◌⊎◌, inl, inr, ◌↔◌}
use mathlib.Core.Bool.{Bool, true, false, cond, not}
use mathlib.Core.List.{List, [], ◌∷◌, ◌++◌}
use mathlib.Core.Option.{Option, none, some}
use native.Mathlib.Omega.{arith}
use lib.Dec.{T, eqb, leb, eqb→eq, eqb_refl}
use borrow.Author.Tests.{leb-true, le-leb}
use lib.ListN.{length}
use Rattle.shinri_core.specs.Lists.{first, zip}
use Rattle.shinri_core.specs.Ids as Ids
use Rattle.shinri_core.specs.Term.{Term, Eq}
use Rattle.shinri_core.specs.Context.{Context, term, children, all_grounded, empty_context, declare_sort, dt_add_constructor, declare_fun}
use Rattle.shinri_core.proofs.Lists.{In, keep_in, any_in}
use Rattle.theory.specs.Types.{EqJust, Asserted, Congruence, Interface}
use Rattle.theory.specs.EqEngine.{Merge, are_equal, merge, pop_merges}
use Rattle.theory.specs.Atom as Atom
use Rattle.theory.specs.Atom.{Registered}
use Rattle.theory.proofs.Members.{in_left, in_right, in_either, in_any}
use Rattle.theory.proofs.Classes.{Suffix, suffix_self, in_suffix, equal_suffix, pop_suffix, pop_pop, pop_more, merge_equal, Linked, equal_linked, equal_refl, equal_sym, equal_trans}
use Rattle.solver.specs.State.{State, AssertedAtom, with_eq, with_level, with_level_record, with_negative_record, with_disequalities, with_dt}
use Rattle.solver.specs.Records.{relevant, pop_entries}
use Rattle.solver.proofs.Basics.{first_some, first_none, Ascending, false_T}
use Rattle.solver.proofs.Terms.{Extends, extends_length, extends_term}
use Rattle.solver.proofs.Clash.{Ready, Assertion, Affirmed, Negated, Unequal, record_by}
use Rattle.solver.proofs.Collection.{Beneath}
use Rattle.session.specs.Line.{Command, DeclareSort, DeclareCtor, DeclareFun, Close, MkTerm, MkEq, Register, Equate, Cong, Iface, Assert, Differ, Push, Pop, Check}
use Rattle.session.specs.Session.{Session, popped}
use Rattle.session.specs.History.{History, level, InForce, Accepted, IsAtom, IsEquation, Sides, Chain, EqualNow}
use Rattle.session.proofs.Forces.{kind, force_on, force_pop, force_other, pop_back, accepted_other}

-- ---- the signature

-- the sorts and symbols that the lines declare
unfoldable pub declared : Command → Context → Context
declared (DeclareSort n) cx = declare_sort cx n
declared (DeclareCtor dt fs) cx = dt_add_constructor cx dt fs
declared (DeclareFun r as') cx = declare_fun cx r as'
declared Close cx = cx
declared (MkTerm f ts) cx = cx
declared (MkEq t u) cx = cx
declared (Register x t) cx = cx
declared (Equate l) cx = cx
declared (Cong t u) cx = cx
declared (Iface t u h g) cx = cx
declared (Assert l) cx = cx
declared (Differ l) cx = cx
declared Push cx = cx
declared (Pop k) cx = cx
declared (Check e) cx = cx

unfoldable pub signature : History → Context
signature [] = empty_context
signature (c ∷ h) = declared c (signature h)

-- ---- tables that keep their terms

pub record Kept (a b : Context) : Type 0 where
  pub more : length a.terms ≤ length b.terms
  pub same : (t : ℕ) → t < length a.terms → term b t ≡ term a t

pub kept_self : (a : Context) → Kept a a
kept_self a = record { more = omega arith; same = λ t l. refl }

pub kept_extends : (a b : Context) → Extends a b → Kept a b
kept_extends a b e = record { more = extends_length a b e; same = λ t l. extends_term a b t e l }

pub kept_terms : (a b : Context) → a.terms ≡ b.terms → Kept a b
unfolding term
kept_terms a b e = record { more = subst (λ (ts : List Term). length a.terms ≤ length ts) e (omega arith); same = λ t l. ap (λ (ts : List Term). term (record { sorts = a.sorts; symbols = a.symbols; terms = ts }) t) (sym e) }

equation_on : (a b : Context) (t x y : ℕ) → term b t ≡ term a t → IsEquation a t x y → IsEquation b t x y
unfolding children
equation_on a b t x y e (p, q) = (ap (λ (z : Term). z.op) e ∙ p, ap (λ (z : Term). z.args) e ∙ q)

-- ---- names

pub record Named (cx : Context) (atoms : List Registered) (h : History) : Type 0 where
  pub have : (v t : ℕ) → Accepted h (Register v t) → In (record { var = v; atom = t }) atoms
  pub from : (a : Registered) → In a atoms → Accepted h (Register a.var a.atom)
  pub one : (a b : Registered) → In a atoms → In b atoms → a.var ≡ b.var → a.atom ≡ b.atom
  pub within : (a : Registered) → In a atoms → a.atom < length cx.terms

pub named_on : (a b : Context) (atoms : List Registered) (h : History) (d : Command) → (kind d ≡ 1 → ⊥) → Kept a b → Named a atoms h → Named b atoms (d ∷ h)
unfolding kind
named_on a b atoms h d n k N = record {
  have = λ v t i. N.have v t (accepted_other d h (Register v t) (λ e. n e) i);
  from = λ x i. inr (N.from x i);
  one = N.one;
  within = λ x i. let l = N.within x i in let m = k.more in omega arith;
}

module _ (cx : Context) (atoms : List Registered) (h : History) (N : Named cx atoms h) where
  pub atom_one : (l t u : ℕ) → IsAtom h l t → IsAtom h l u → t ≡ u
  atom_one l t u p q = N.one (record { var = Ids.var l; atom = t }) (record { var = Ids.var l; atom = u }) (N.have (Ids.var l) t p) (N.have (Ids.var l) u q) refl

  pub atom_within : (l t : ℕ) → IsAtom h l t → t < length cx.terms
  atom_within l t p = N.within (record { var = Ids.var l; atom = t }) (N.have (Ids.var l) t p)

  pub registered_atom : (v : ℕ) → T (Atom.is_registered atoms v) → Accepted h (Register v (Atom.atom atoms v))
  unfolding Atom.is_registered Atom.atom Atom.atom_of
  registered_atom v t = go (first (λ (r : Registered). eqb r.var v) atoms) refl
    where
      go : (o : Option Registered) → first (λ (r : Registered). eqb r.var v) atoms ≡ o → Accepted h (Register v (Atom.atom_of o))
      go none e =
          let (r, i, q) = any_in (λ (r : Registered). eqb r.var v) atoms t in
          absurd (false_T (eqb r.var v) (first_none (λ (r : Registered). eqb r.var v) atoms r e i) q)
      go (some r) e =
          let (i, q) = first_some (λ (r : Registered). eqb r.var v) atoms r e in
          subst (λ (n : ℕ). Accepted h (Register n r.atom)) (eqb→eq r.var v q) (N.from r i)

pub in_registered : (atoms : List Registered) (a : Registered) → In a atoms → T (Atom.is_registered atoms a.var)
unfolding Atom.is_registered
in_registered atoms a i = in_any (λ (r : Registered). eqb r.var a.var) atoms a i (eqb_refl a.var)

-- a new name
pub named_new : (cx : Context) (atoms : List Registered) (h : History) (v t : ℕ) → T (not (Atom.is_registered atoms v)) → t < length cx.terms → Named cx atoms h → Named cx (Atom.register atoms v t) (Register v t ∷ h)
unfolding Atom.register
named_new cx atoms h v t n l N = record {
  have = λ w u i. have w u i;
  from = λ a i. from a (in_either a atoms (new ∷ []) i);
  one = λ a b i j e. one a b (in_either a atoms (new ∷ []) i) (in_either b atoms (new ∷ []) j) e;
  within = λ a i. within a (in_either a atoms (new ∷ []) i);
}
  where
    new : Registered
    new = record { var = v; atom = t }

    have : (w u : ℕ) → Accepted (Register v t ∷ h) (Register w u) → In (record { var = w; atom = u }) (atoms ++ (new ∷ []))
    have w u (inl e) = in_right (record { var = w; atom = u }) atoms (new ∷ []) (inl (ap₂ (λ (x y : ℕ). record { var = x; atom = y }) (sym (names e).0) (sym (names e).1)))
      where
        names : Register v t ≡ Register w u → (v ≡ w) × (t ≡ u)
        names q = (cc, cc)
    have w u (inr i) = in_left (record { var = w; atom = u }) atoms (new ∷ []) (N.have w u i)

    from : (a : Registered) → In a atoms ⊎ In a (new ∷ []) → Accepted (Register v t ∷ h) (Register a.var a.atom)
    from a (inl i) = inr (N.from a i)
    from a (inr (inl e)) = inl (ap (λ (x : Registered). Register x.var x.atom) (sym e))
    from a (inr (inr i)) = absurd i

    fresh : (a : Registered) → In a atoms → a.var ≡ v → ⊥
    fresh a i e = lib.Dec.T_not (Atom.is_registered atoms v) n (subst (λ (x : ℕ). T (Atom.is_registered atoms x)) e (in_registered atoms a i))

    one : (a b : Registered) → In a atoms ⊎ In a (new ∷ []) → In b atoms ⊎ In b (new ∷ []) → a.var ≡ b.var → a.atom ≡ b.atom
    one a b (inl i) (inl j) e = N.one a b i j e
    one a b (inl i) (inr (inl q)) e = absurd (fresh a i (e ∙ ap (λ (x : Registered). x.var) q))
    one a b (inl i) (inr (inr j)) e = absurd j
    one a b (inr (inl p)) (inl j) e = absurd (fresh b j (sym e ∙ ap (λ (x : Registered). x.var) p))
    one a b (inr (inr i)) (inl j) e = absurd i
    one a b (inr (inl p)) (inr (inl q)) e = ap (λ (x : Registered). x.atom) p ∙ sym (ap (λ (x : Registered). x.atom) q)
    one a b (inr (inl p)) (inr (inr j)) e = absurd j
    one a b (inr (inr i)) (inr j) e = absurd i

    within : (a : Registered) → In a atoms ⊎ In a (new ∷ []) → a.atom < length cx.terms
    within a (inl i) = N.within a i
    within a (inr (inl e)) = subst⁻¹ (λ (x : Registered). x.atom < length cx.terms) e l
    within a (inr (inr i)) = absurd i

-- ---- merges

-- the line that a merge came from
abbrev pub MergeFrom : Context → History → ℕ → ℕ → ℕ → EqJust → Type 0
MergeFrom cx h a b v (Asserted l) = (t : ℕ) × InForce h v (Equate l) × IsAtom h l t × T (Ids.is_positive l) × (t < length cx.terms) × IsEquation cx t a b
MergeFrom cx h a b v (Congruence ps) = InForce h v (Cong a b) × (a < length cx.terms) × (b < length cx.terms) × ((term cx a).op ≡ (term cx b).op) × (ps ≡ zip (children cx a) (children cx b))
MergeFrom cx h a b v (Interface i g) = InForce h v (Iface a b i g)

-- the sides of a line in force that came at level v
abbrev pub LineSides : Context → History → ℕ → ℕ → ℕ → Type 0
LineSides cx h v x y =
    ((l t : ℕ) × InForce h v (Equate l) × IsAtom h l t × IsEquation cx t x y)
    ⊎ (InForce h v (Cong x y) ⊎ ((i g : ℕ) × InForce h v (Iface x y i g)))

-- levels fall from the newest merge on
abbrev pub Falling : List Merge → Type 0
Falling [] = Unit {0}
Falling (m ∷ ms) = ((n : Merge) → In n ms → n.level ≤ m.level) × Falling ms

pub record Merged (cx : Context) (atoms : List Registered) (eq : List Merge) (lvl : ℕ) (h : History) : Type 0 where
  pub from : (m : Merge) → In m eq → MergeFrom cx h m.a m.b m.level m.just
  pub levels : (m : Merge) → In m eq → m.level ≤ lvl
  pub falling : Falling eq
  pub joined : (v x y : ℕ) → LineSides cx h v x y → T (are_equal (pop_merges v eq) x y)
  pub equated : (v l : ℕ) → InForce h v (Equate l) → T (Atom.is_registered atoms (Ids.var l))

merge_on : (a b : Context) (h h' : History) (x y v : ℕ) (j : EqJust) → Kept a b → ((c : Command) → InForce h v c → InForce h' v c) → ((c : Command) → Accepted h c → Accepted h' c) → MergeFrom a h x y v j → MergeFrom b h' x y v j
merge_on a b h h' x y v (Asserted l) k f g (t, i, at, p, w, e) =
    let m = k.more in
    (t, f (Equate l) i, g (Register (Ids.var l) t) at, p, omega arith, equation_on a b t x y (k.same t w) e)
merge_on a b h h' x y v (Congruence ps) k f g (i, p, q, o, z) =
    let m = k.more in (
      f (Cong x y) i,
      omega arith,
      omega arith,
      ap (λ (w : Term). w.op) (k.same x p) ∙ o ∙ sym (ap (λ (w : Term). w.op) (k.same y q)),
      z ∙ ap₂ (λ (s t : List ℕ). zip s t) (sym (kids x p)) (sym (kids y q)),
    )
  where
    kids : (t : ℕ) → t < length a.terms → children b t ≡ children a t
    kids t l = unfold children in ap (λ (w : Term). w.args) (k.same t l)
merge_on a b h h' x y v (Interface i g') k f g w = f (Iface x y i g') w

-- a line of another kind
sides_back : (a b : Context) (atoms : List Registered) (h : History) (d : Command) (v x y : ℕ) → Kept a b → Named a atoms h → (kind d ≡ 2 → ⊥) → (kind d ≡ 3 → ⊥) → (kind d ≡ 4 → ⊥) → ((l t : ℕ) → InForce h v (Equate l) → IsAtom (d ∷ h) l t → IsAtom h l t) → LineSides b (d ∷ h) v x y → LineSides a h v x y
unfolding kind
sides_back a b atoms h d v x y k N n₂ n₃ n₄ g (inl (l, t, i, at, e)) =
    let j = force_other d h v (Equate l) (λ q. n₂ q) i in
    let old = g l t j at in
    inl (l, t, j, old, equation_on b a t x y (sym (k.same t (atom_within a atoms h N l t old))) e)
sides_back a b atoms h d v x y k N n₂ n₃ n₄ g (inr (inl i)) = inr (inl (force_other d h v (Cong x y) (λ q. n₃ q) i))
sides_back a b atoms h d v x y k N n₂ n₃ n₄ g (inr (inr (i, t, w))) = inr (inr (i, t, force_other d h v (Iface x y i t) (λ q. n₄ q) w))

pub merged_on : (a b : Context) (atoms atoms' : List Registered) (eq : List Merge) (lvl lvl' : ℕ) (h : History) (d : Command) → Kept a b → Named a atoms h → lvl ≤ lvl' → (kind d ≡ 2 → ⊥) → (kind d ≡ 3 → ⊥) → (kind d ≡ 4 → ⊥) → (kind d ≡ 6 → ⊥) → ((v : ℕ) → T (Atom.is_registered atoms v) → T (Atom.is_registered atoms' v)) → ((v l t : ℕ) → InForce h v (Equate l) → IsAtom (d ∷ h) l t → IsAtom h l t) → Merged a atoms eq lvl h → Merged b atoms' eq lvl' (d ∷ h)
unfolding kind
merged_on a b atoms atoms' eq lvl lvl' h d k N up n₂ n₃ n₄ n₆ reg g M = record {
  from = λ m i. merge_on a b h (d ∷ h) m.a m.b m.level m.just k (λ c w. force_on d h m.level c n₆ w) (λ c w. inr w) (M.from m i);
  levels = λ m i. let l = M.levels m i in omega arith;
  falling = M.falling;
  joined = λ v x y w. M.joined v x y (sides_back a b atoms h d v x y k N n₂ n₃ n₄ (g v) w);
  equated = λ v l i. reg (Ids.var l) (M.equated v l (force_other d h v (Equate l) (λ q. n₂ q) i));
}

-- ---- popping

falling_suffix : (r ms : List Merge) → Suffix r ms → Falling ms → Falling r
falling_suffix r [] s f = subst⁻¹ Falling s f
falling_suffix r (m ∷ ms) (inl s) f = subst⁻¹ Falling s f
falling_suffix r (m ∷ ms) (inr s) f = falling_suffix r ms s f.1

pop_low : (k : ℕ) (ms : List Merge) (m : Merge) → Falling ms → In m (pop_merges k ms) → m.level ≤ k
unfolding pop_merges
pop_low k [] m f i = absurd i
pop_low k (n ∷ ms) m f i = go (leb n.level k) refl i (pop_low k ms m f.1)
  where
    there : n.level ≤ k → In m (n ∷ ms) → m.level ≤ k
    there l (inl e) = subst⁻¹ (λ (x : Merge). x.level ≤ k) e l
    there l (inr j) = let q = f.0 m j in omega arith

    go : (b : Bool) → leb n.level k ≡ b → In m (cond b (n ∷ ms) (pop_merges k ms)) → (In m (pop_merges k ms) → m.level ≤ k) → m.level ≤ k
    go true e j h = there (leb-true n.level k e) j
    go false e j h = h j

pop_none : (k : ℕ) (ms : List Merge) → ((m : Merge) → In m ms → m.level ≤ k) → pop_merges k ms ≡ ms
unfolding pop_merges
pop_none k [] l = refl
pop_none k (m ∷ ms) l = ap (λ (b : Bool). cond b (m ∷ ms) (pop_merges k ms)) (le-leb m.level k (l m (inl refl)))

sides_pop : (cx : Context) (h : History) (k v x y : ℕ) → LineSides cx (Pop k ∷ h) v x y → (v ≤ k) × LineSides cx h v x y
unfolding kind
sides_pop cx h k v x y (inl (l, t, i, at, e)) =
    let (q, j) = pop_back k h v (Equate l) (λ w. omega arith) i in
    (q, inl (l, t, j, accepted_other (Pop k) h (Register (Ids.var l) t) (λ w. omega arith) at, e))
sides_pop cx h k v x y (inr (inl i)) = let (q, j) = pop_back k h v (Cong x y) (λ w. omega arith) i in (q, inr (inl j))
sides_pop cx h k v x y (inr (inr (i, t, w))) = let (q, j) = pop_back k h v (Iface x y i t) (λ w. omega arith) w in (q, inr (inr (i, t, j)))

-- a pop to a lower level
pub merged_pop : (cx : Context) (atoms : List Registered) (eq : List Merge) (lvl k : ℕ) (h : History) → Merged cx atoms eq lvl h → Merged cx atoms (pop_merges k eq) k (Pop k ∷ h)
unfolding kind
merged_pop cx atoms eq lvl k h M = record {
  from = λ m i. merge_on cx cx h (Pop k ∷ h) m.a m.b m.level m.just (kept_self cx) (λ c w. force_pop k h m.level c (pop_low k eq m M.falling i) w) (λ c w. inr w) (M.from m (in_suffix (pop_merges k eq) eq m (pop_suffix k eq) i));
  levels = λ m i. pop_low k eq m M.falling i;
  falling = falling_suffix (pop_merges k eq) eq (pop_suffix k eq) M.falling;
  joined = λ v x y w. let (q, s) = sides_pop cx h k v x y w in subst⁻¹ (λ (ms : List Merge). T (are_equal ms x y)) (pop_pop v k eq q) (M.joined v x y s);
  equated = λ v l i. M.equated v l (pop_back k h v (Equate l) (λ w. omega arith) i).1;
}

-- a pop to the present level or a higher one
pub merged_stay : (cx : Context) (atoms : List Registered) (eq : List Merge) (lvl k : ℕ) (h : History) → lvl ≤ k → Merged cx atoms eq lvl h → Merged cx atoms eq lvl (Pop k ∷ h)
unfolding kind
merged_stay cx atoms eq lvl k h l M = record {
  from = λ m i. merge_on cx cx h (Pop k ∷ h) m.a m.b m.level m.just (kept_self cx) (λ c w. let q = M.levels m i in force_pop k h m.level c (omega arith) w) (λ c w. inr w) (M.from m i);
  levels = M.levels;
  falling = M.falling;
  joined = λ v x y w. M.joined v x y (sides_pop cx h k v x y w).1;
  equated = λ v l i. M.equated v l (pop_back k h v (Equate l) (λ w. omega arith) i).1;
}

-- ---- one more merge

pop_merge : (eq : List Merge) (lvl x y v : ℕ) (j : EqJust) → Suffix (pop_merges v eq) (pop_merges v (merge eq lvl x y j))
unfolding merge
pop_merge eq lvl x y v j = go (are_equal eq x y)
  where
    go : (b : Bool) → Suffix (pop_merges v eq) (pop_merges v (cond b eq (record { a = x; b = y; just = j; level = lvl } ∷ eq)))
    go true = suffix_self (pop_merges v eq)
    go false = pop_more v (record { a = x; b = y; just = j; level = lvl }) eq

-- what stands in the list after a merge
merge_in : (eq : List Merge) (lvl x y : ℕ) (j : EqJust) (m : Merge) → In m (merge eq lvl x y j) → In m eq ⊎ ((m ≡ record { a = x; b = y; just = j; level = lvl }) × (are_equal eq x y ≡ false))
unfolding merge
merge_in eq lvl x y j m i = go (are_equal eq x y) refl i
  where
    new : Merge
    new = record { a = x; b = y; just = j; level = lvl }

    go : (b : Bool) → are_equal eq x y ≡ b → In m (cond b eq (new ∷ eq)) → In m eq ⊎ ((m ≡ new) × (are_equal eq x y ≡ false))
    go true e k = inl k
    go false e (inl q) = inr (q, e)
    go false e (inr k) = inl k

merge_falling : (eq : List Merge) (lvl x y : ℕ) (j : EqJust) → ((m : Merge) → In m eq → m.level ≤ lvl) → Falling eq → Falling (merge eq lvl x y j)
unfolding merge
merge_falling eq lvl x y j l f = go (are_equal eq x y)
  where
    go : (b : Bool) → Falling (cond b eq (record { a = x; b = y; just = j; level = lvl } ∷ eq))
    go true = f
    go false = (l, f)

pub merge_members : (eq : List Merge) (lvl x y : ℕ) (j : EqJust) (P : Merge → Type 0) → ((m : Merge) → In m eq → P m) → (are_equal eq x y ≡ false → P (record { a = x; b = y; just = j; level = lvl })) → (m : Merge) → In m (merge eq lvl x y j) → P m
merge_members eq lvl x y j P old new m i = go (merge_in eq lvl x y j m i)
  where
    go : In m eq ⊎ ((m ≡ record { a = x; b = y; just = j; level = lvl }) × (are_equal eq x y ≡ false)) → P m
    go (inl k) = old m k
    go (inr (e, q)) = subst⁻¹ P e (new q)

-- the newest line has the sides x and y, or a line's sides are an older line's
pub merged_more : (cx : Context) (atoms : List Registered) (eq : List Merge) (lvl : ℕ) (h : History) (d : Command) (x y : ℕ) (j : EqJust) → (kind d ≡ 6 → ⊥) → lvl ≡ level h → MergeFrom cx (d ∷ h) x y lvl j → ((v z w : ℕ) → LineSides cx (d ∷ h) v z w → ((v ≡ level h) × (z ≡ x) × (w ≡ y)) ⊎ LineSides cx h v z w) → ((v l : ℕ) → InForce (d ∷ h) v (Equate l) → T (Atom.is_registered atoms (Ids.var l))) → Merged cx atoms eq lvl h → Merged cx atoms (merge eq lvl x y j) lvl (d ∷ h)
merged_more cx atoms eq lvl h d x y j n₆ e F S G M = record {
  from = merge_members eq lvl x y j (λ m. MergeFrom cx (d ∷ h) m.a m.b m.level m.just)
      (λ m i. merge_on cx cx h (d ∷ h) m.a m.b m.level m.just (kept_self cx) (λ c w. force_on d h m.level c n₆ w) (λ c w. inr w) (M.from m i)) (λ q. F);
  levels = levels;
  falling = merge_falling eq lvl x y j M.levels M.falling;
  joined = λ v z w s. go v z w (S v z w s);
  equated = G;
}
  where
    levels : (m : Merge) → In m (merge eq lvl x y j) → m.level ≤ lvl
    levels = merge_members eq lvl x y j (λ m. m.level ≤ lvl) M.levels (λ q. omega arith)

    go : (v z w : ℕ) → ((v ≡ level h) × (z ≡ x) × (w ≡ y)) ⊎ LineSides cx h v z w → T (are_equal (pop_merges v (merge eq lvl x y j)) z w)
    go v z w (inl (p, q, r)) =
        subst⁻¹ (λ (ms : List Merge). T (are_equal ms z w)) (ap (λ (n : ℕ). pop_merges n (merge eq lvl x y j)) (p ∙ sym e) ∙ pop_none lvl (merge eq lvl x y j) levels)
        (subst⁻¹ (λ (a : ℕ). T (are_equal (merge eq lvl x y j) a w)) q (subst⁻¹ (λ (b : ℕ). T (are_equal (merge eq lvl x y j) x b)) r (merge_equal eq lvl x y j)))
    go v z w (inr s) = equal_suffix (pop_merges v eq) (pop_merges v (merge eq lvl x y j)) z w (pop_merge eq lvl x y v j) (M.joined v z w s)

-- ---- classes are what the lines in force join

module _ (cx : Context) (atoms : List Registered) (eq : List Merge) (lvl : ℕ) (h : History) (N : Named cx atoms h) (M : Merged cx atoms eq lvl h) where
  from_sides : (x y v : ℕ) (j : EqJust) → MergeFrom cx h x y v j → Sides cx h x y
  from_sides x y v (Asserted l) (t, i, at, p, w, e) = inl (l, t, (v, i), at, e)
  from_sides x y v (Congruence ps) w = inr (inl (v, w.0))
  from_sides x y v (Interface i g) w = inr (inr (i, g, (v, w)))

  merge_sides : (x y : ℕ) (m : Merge) → In m eq → m.a ≡ x → m.b ≡ y → Sides cx h x y
  merge_sides x y m i p q = subst (λ (a : ℕ). Sides cx h a y) p (subst (λ (b : ℕ). Sides cx h m.a b) q (from_sides m.a m.b m.level m.just (M.from m i)))

  linked_chain : (n x y : ℕ) → Linked eq n x y → Chain cx h n x y
  linked_chain zero x y e = e
  linked_chain (suc n) x y (z, inl (m, i, p, q), l) = (z, inl (merge_sides x z m i p q), linked_chain n z y l)
  linked_chain (suc n) x y (z, inr (m, i, p, q), l) = (z, inr (merge_sides z x m i p q), linked_chain n z y l)

  joined_now : (v x y : ℕ) → LineSides cx h v x y → T (are_equal eq x y)
  joined_now v x y s = equal_suffix (pop_merges v eq) eq x y (pop_suffix v eq) (M.joined v x y s)

  sides_equal : (x y : ℕ) → Sides cx h x y → T (are_equal eq x y)
  sides_equal x y (inl (l, t, (v, i), at, e)) = joined_now v x y (inl (l, t, i, at, e))
  sides_equal x y (inr (inl (v, i))) = joined_now v x y (inr (inl i))
  sides_equal x y (inr (inr (i, g, (v, w)))) = joined_now v x y (inr (inr (i, g, w)))

  chain_equal : (n x y : ℕ) → Chain cx h n x y → T (are_equal eq x y)
  chain_equal zero x y e = subst (λ (z : ℕ). T (are_equal eq x z)) e (equal_refl eq x)
  chain_equal (suc n) x y (z, inl s, c) = equal_trans eq x z y (sides_equal x z s) (chain_equal n z y c)
  chain_equal (suc n) x y (z, inr s, c) = equal_trans eq x z y (equal_sym eq z x (sides_equal z x s)) (chain_equal n z y c)

  pub classes_agree : (x y : ℕ) → T (are_equal eq x y) ↔ EqualNow cx h x y
  classes_agree x y = (λ t. let (n, l) = equal_linked eq x y t in (n, linked_chain n x y l), λ c. chain_equal c.0 x y c.1)

-- ---- the records

-- the line that says something of a literal's atom
abbrev pub line_of : Assertion → ℕ → Command
line_of Affirmed l = Assert l
line_of Negated l = Assert l
line_of Unequal l = Differ l

-- all are of one kind
pub of_kind : (b : Assertion) (l : ℕ) → kind (line_of b l) ≡ 5
unfolding kind
of_kind Affirmed l = refl
of_kind Negated l = refl
of_kind Unequal l = refl

-- the sign of the literal
abbrev pub sign_of : Assertion → Bool
sign_of Affirmed = true
sign_of Negated = false
sign_of Unequal = false

-- unequal terms are the sides of an equation
abbrev pub Shape : Context → ℕ → Assertion → Type 0
Shape cx t Affirmed = Unit {0}
Shape cx t Negated = Unit {0}
Shape cx t Unequal = (term cx t).op ≡ Eq

shape_on : (a b : Context) (t : ℕ) → term b t ≡ term a t → (x : Assertion) → Shape a t x → Shape b t x
shape_on a b t e Affirmed z = tt
shape_on a b t e Negated z = tt
shape_on a b t e Unequal z = ap (λ (y : Term). y.op) e ∙ z

-- an entry of a record
pub record Entry (b : Assertion) (cx : Context) (lvl : ℕ) (h : History) (e : AssertedAtom) : Type 0 where
  pub force : InForce h e.level (line_of b e.lit)
  pub atom : IsAtom h e.lit e.atom
  pub sign : Ids.is_positive e.lit ≡ sign_of b
  pub shape : Shape cx e.atom b
  pub low : e.level ≤ lvl

abbrev pub Entries : (Assertion → List AssertedAtom) → Context → ℕ → History → Type 0
Entries es cx lvl h = (b : Assertion) (e : AssertedAtom) → In e (es b) → Entry b cx lvl h e

pub entries_on : (es : Assertion → List AssertedAtom) (a b : Context) (atoms : List Registered) (lvl lvl' : ℕ) (h : History)
    (d : Command) → Kept a b → Named a atoms h → (kind d ≡ 6 → ⊥) → lvl ≤ lvl' → Entries es a lvl h → Entries es b lvl' (d ∷ h)
entries_on es a b atoms lvl lvl' h d k N n l E x e i =
    let y = E x e i in
    record {
      force = force_on d h e.level (line_of x e.lit) n y.force;
      atom = inr y.atom;
      sign = y.sign;
      shape = shape_on a b e.atom (k.same e.atom (atom_within a atoms h N e.lit e.atom y.atom)) x y.shape;
      low = let q = y.low in omega arith;
    }

pub entries_pop : (es : Assertion → List AssertedAtom) (cx : Context) (lvl k : ℕ) (h : History) → Entries es cx lvl h →
    Entries (λ b. pop_entries k (es b)) cx k (Pop k ∷ h)
unfolding pop_entries
entries_pop es cx lvl k h E b e i =
    let (j, t) = keep_in (λ (x : AssertedAtom). leb x.level k) (es b) e i in
    let x = E b e j in
    let l = lib.Dec.leb→le e.level k t in
    record {
      force = force_pop k h e.level (line_of b e.lit) l x.force;
      atom = inr x.atom;
      sign = x.sign;
      shape = x.shape;
      low = l;
    }

pub entries_stay : (es : Assertion → List AssertedAtom) (cx : Context) (lvl k : ℕ) (h : History) → lvl ≤ k → Entries es cx lvl h →
    Entries es cx lvl (Pop k ∷ h)
entries_stay es cx lvl k h l E b e i =
    let x = E b e i in
    record {
      force = force_pop k h e.level (line_of b e.lit) (let q = x.low in omega arith) x.force;
      atom = inr x.atom;
      sign = x.sign;
      shape = x.shape;
      low = x.low;
    }

-- a pop to a lower level takes from each record
pub popped_record : (st : State) (k : ℕ) (b : Assertion) → record_by (popped st k) b ≡ pop_entries k (record_by st b)
unfolding popped with_disequalities with_negative_record with_level_record with_eq with_level with_dt
popped_record st k Affirmed = refl
popped_record st k Negated = refl
popped_record st k Unequal = refl

-- ---- marks

-- what is collected is marked
abbrev pub AllMarked : Context → List ℕ → History → Type 0
AllMarked cx marks h = (v a n t : ℕ) → Accepted h (Register v a) → Beneath cx n a t → T (relevant cx t) → In t marks

-- ---- a session and its accepted lines

pub record Inv (s : Session) (h : History) : Type 0 where
  pub ready : Ready s.state
  pub bool_there : 0 < length s.state.terms.sorts
  pub sorts : s.state.terms.sorts ≡ (signature h).sorts
  pub symbols : s.state.terms.symbols ≡ (signature h).symbols
  pub level : s.state.level ≡ level h
  pub grounded : T s.closed → T (all_grounded s.state.terms)
  pub unmade : s.closed ≡ false → s.state.terms.terms ≡ []
  pub ascending : Ascending s.state.dt.marks
  pub named : Named s.state.terms s.state.atoms h
  pub merged : Merged s.state.terms s.state.atoms s.state.eq s.state.level h
  pub entries : Entries (record_by s.state) s.state.terms s.state.level h
  pub marked : AllMarked s.state.terms s.state.dt.marks h
