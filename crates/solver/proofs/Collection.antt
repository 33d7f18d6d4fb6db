-- Collection: everything below a registered atom is met and nothing else, and what is relevant of it is marked.
use Prim.Native.Nat.{ℕ, zero, suc, ◌<◌}
use mathlib.Core.Path.{◌≡◌, refl, sym, subst, subst⁻¹, ap, ◌∙◌}
use mathlib.Core.Logic.{◌⊎◌, inl, inr}
use mathlib.Core.Bool.{Bool, true, false, cond, ◌||◌}
use mathlib.Core.List.{List, [], ◌∷◌, foldl}
use native.Mathlib.Omega.{arith}
use native.Mathlib.Decide.{dec_lt}
use lib.Dec.{T}
use lib.ListN.{length, get_or-eq_default}
use Rattle.shinri_core.specs.Lists.{keep, mem, insert}
use Rattle.shinri_core.specs.Term as Term
use Rattle.shinri_core.specs.Term.{Term, Op, Eq}
pub use Rattle.shinri_core.specs.Formed.{Beneath}
use Rattle.shinri_core.specs.Context.{Context, term, no_term, children, sort_of, result_of, sort_node, is_datatype_sort, symbol, ctor_app, ctor_by_op, sel_app, sel_by_op, tester_app, tester_by_op}
use Rattle.shinri_core.proofs.Lists.{In, keep_in, in_keep, true_T}
use Rattle.solver.specs.State.{State, with_marks, with_dt}
use Rattle.solver.specs.Records.{is_some, relevant, collect, new_var}
use Rattle.solver.proofs.Basics.{mem_in, in_mem, insert_in, in_insert_new, in_insert_old, Ascending, insert_ascending}
use Rattle.solver.proofs.Terms.{Extends, extends_term, grown, Formed}

pub children_lower : (cx : Context) → Formed cx → (t a : ℕ) → In a (children cx t) → a < t
unfolding children term no_term
children_lower cx F t a i = go (dec_lt t (length cx.terms))
  where
    go : Dec (t < length cx.terms) → a < t
    go (yes l) = F.lower t l a i
    go (no h) = absurd (subst (λ (x : Term). In a x.args) (get_or-eq_default cx.terms no_term {n = t} (omega arith)) i)

-- from a set to a larger one whose new members have their children in it
record Grows (cx : Context) (seen r : List ℕ) : Type 0 where
  sub : (x : ℕ) → In x seen → In x r
  closed : (x : ℕ) → In x r → In x seen ⊎ ((y : ℕ) → In y (children cx x) → In y r)

grows_then : (cx : Context) (a b c : List ℕ) → Grows cx a b → Grows cx b c → Grows cx a c
grows_then cx a b c g h = record { sub = λ x i. h.sub x (g.sub x i); closed = λ x i. go x (h.closed x i) }
  where
    mid : (x : ℕ) → In x a ⊎ ((y : ℕ) → In y (children cx x) → In y b) → In x a ⊎ ((y : ℕ) → In y (children cx x) → In y c)
    mid x (inl i) = inl i
    mid x (inr f) = inr (λ y i. h.sub y (f y i))

    go : (x : ℕ) → In x b ⊎ ((y : ℕ) → In y (children cx x) → In y c) → In x a ⊎ ((y : ℕ) → In y (children cx x) → In y c)
    go x (inl i) = mid x (g.closed x i)
    go x (inr f) = inr f

grows_self : (cx : Context) (a : List ℕ) → Grows cx a a
grows_self cx a = record { sub = λ x i. i; closed = λ x i. inl i }

module _ (cx : Context) (low : (t a : ℕ) → In a (children cx t) → a < t) where
  abbrev Collects : ℕ → Type 0
  Collects k = (t : ℕ) (seen : List ℕ) → t < k → Grows cx seen (collect k cx t seen) × In t (collect k cx t seen)

  collect_all : (k : ℕ) → Collects k → (cs seen : List ℕ) → ((c : ℕ) → In c cs → c < k) → Grows cx seen (foldl (λ s c. collect k cx c s) seen cs) × ((c : ℕ) → In c cs → In c (foldl (λ s c. collect k cx c s) seen cs))
  collect_all k C [] seen b = (grows_self cx seen, λ c i. absurd i)
  collect_all k C (x ∷ cs) seen b =
      let (g, i) = C x seen (b x (inl refl)) in
      let (h, f) = collect_all k C cs (collect k cx x seen) (λ c j. b c (inr j)) in
      (grows_then cx seen (collect k cx x seen) (foldl (λ s c. collect k cx c s) (collect k cx x seen) cs) g h, λ c j. go h i f c j)
    where
      out : List ℕ
      out = foldl (λ s c. collect k cx c s) (collect k cx x seen) cs

      go : Grows cx (collect k cx x seen) out → In x (collect k cx x seen) → ((c : ℕ) → In c cs → In c out) → (c : ℕ) → In c (x ∷ cs) → In c out
      go h i f c (inl e) = subst⁻¹ (λ (z : ℕ). In z out) e (h.sub x i)
      go h i f c (inr j) = f c j

  collects : (k : ℕ) → Collects k
  unfolding collect
  collects zero t seen l = absurd (omega arith)
  collects (suc k) t seen l =
      go (mem t seen) refl (collect_all k (collects k) (children cx t) (insert t seen) (λ c i. let h = low t c i in omega arith))
    where
      out : List ℕ
      out = foldl (λ s c. collect k cx c s) (insert t seen) (children cx t)

      new : Grows cx (insert t seen) out → ((c : ℕ) → In c (children cx t) → In c out) → (x : ℕ) → (x ≡ t) ⊎ In x seen → In x seen ⊎ ((y : ℕ) → In y (children cx x) → In y out)
      new g f x (inl e) = inr (λ y i. f y (subst (λ (z : ℕ). In y (children cx z)) e i))
      new g f x (inr i) = inl i

      either : Grows cx (insert t seen) out → ((c : ℕ) → In c (children cx t) → In c out) → (x : ℕ) → In x (insert t seen) ⊎ ((y : ℕ) → In y (children cx x) → In y out) → In x seen ⊎ ((y : ℕ) → In y (children cx x) → In y out)
      either g f x (inl i) = new g f x (insert_in x t seen i)
      either g f x (inr h) = inr h

      go : (b : Bool) → mem t seen ≡ b → Grows cx (insert t seen) out × ((c : ℕ) → In c (children cx t) → In c out) → Grows cx seen (cond b seen out) × In t (cond b seen out)
      go true e p = (grows_self cx seen, mem_in t seen (true_T (mem t seen) e))
      go false e (g, f) =
          (record { sub = λ x i. g.sub x (in_insert_old x t seen i); closed = λ x i. either g f x (g.closed x i) }, g.sub t (in_insert_new t seen))

  closed_below : (r : List ℕ) → ((x : ℕ) → In x r → (y : ℕ) → In y (children cx x) → In y r) → (n a t : ℕ) → In a r → Beneath cx n a t → In t r
  closed_below r c zero a t i e = subst (λ (z : ℕ). In z r) e i
  closed_below r c (suc n) a t i (b, m, w) = closed_below r c n b t (c a i b (mem_in b (children cx a) m)) w

  -- everything below a term is collected with it
  collect_below : (n a t : ℕ) → Beneath cx n a t → In t (collect (suc a) cx a [])
  collect_below n a t w =
      let (g, i) = collects (suc a) a [] (omega arith) in
      closed_below (collect (suc a) cx a []) (λ x j. go x (g.closed x j)) n a t i w
    where
      go : (x : ℕ) → In x [] ⊎ ((y : ℕ) → In y (children cx x) → In y (collect (suc a) cx a [])) → (y : ℕ) → In y (children cx x) → In y (collect (suc a) cx a [])
      go x (inl i) = absurd i
      go x (inr f) = f

-- only what lies below a term is collected with it
module _ (cx : Context) (x : ℕ) where
  abbrev Under : ℕ → Type 0
  Under t = (n : ℕ) × Beneath cx n t x

  abbrev CollectsOnly : ℕ → Type 0
  CollectsOnly k = (t : ℕ) (seen : List ℕ) → In x (collect k cx t seen) → In x seen ⊎ Under t

  all_only : (k t : ℕ) → CollectsOnly k → (cs seen : List ℕ) → ((c : ℕ) → In c cs → T (mem c (children cx t))) → In x (foldl (λ s c. collect k cx c s) seen cs) → In x seen ⊎ Under t
  all_only k t C [] seen b i = inl i
  all_only k t C (c ∷ cs) seen b i = go (all_only k t C cs (collect k cx c seen) (λ d j. b d (inr j)) i)
    where
      below : In x seen ⊎ Under c → In x seen ⊎ Under t
      below (inl j) = inl j
      below (inr (n, w)) = inr (suc n, (c, b c (inl refl), w))

      go : In x (collect k cx c seen) ⊎ Under t → In x seen ⊎ Under t
      go (inl j) = below (C c seen j)
      go (inr w) = inr w

  collects_only : (k : ℕ) → CollectsOnly k
  unfolding collect
  collects_only zero t seen i = inl i
  collects_only (suc k) t seen i =
      go (mem t seen) i (all_only k t (collects_only k) (children cx t) (insert t seen) (λ c j. in_mem c (children cx t) j))
    where
      out : List ℕ
      out = foldl (λ s c. collect k cx c s) (insert t seen) (children cx t)

      here : (x ≡ t) ⊎ In x seen → In x seen ⊎ Under t
      here (inl e) = inr (0, sym e)
      here (inr j) = inl j

      old : In x (insert t seen) ⊎ Under t → In x seen ⊎ Under t
      old (inl j) = here (insert_in x t seen j)
      old (inr w) = inr w

      go : (b : Bool) → In x (cond b seen out) → (In x out → In x (insert t seen) ⊎ Under t) → In x seen ⊎ Under t
      go true j f = inl j
      go false j f = old (f j)

-- ---- marks

insert_all_in : (xs ms : List ℕ) (t : ℕ) → In t (foldl (λ m u. insert u m) ms xs) → In t xs ⊎ In t ms
insert_all_in [] ms t i = inr i
insert_all_in (x ∷ xs) ms t i = go (insert_all_in xs (insert x ms) t i)
  where
    old : (t ≡ x) ⊎ In t ms → In t (x ∷ xs) ⊎ In t ms
    old (inl e) = inl (inl e)
    old (inr j) = inr j

    go : In t xs ⊎ In t (insert x ms) → In t (x ∷ xs) ⊎ In t ms
    go (inl j) = inl (inr j)
    go (inr j) = old (insert_in t x ms j)

insert_all_old : (xs ms : List ℕ) (t : ℕ) → In t ms → In t (foldl (λ m u. insert u m) ms xs)
insert_all_old [] ms t i = i
insert_all_old (x ∷ xs) ms t i = insert_all_old xs (insert x ms) t (in_insert_old t x ms i)

insert_all_new : (xs ms : List ℕ) (t : ℕ) → In t xs → In t (foldl (λ m u. insert u m) ms xs)
insert_all_new [] ms t i = absurd i
insert_all_new (x ∷ xs) ms t (inl e) = insert_all_old xs (insert x ms) t (subst⁻¹ (λ (z : ℕ). In z (insert x ms)) e (in_insert_new x ms))
insert_all_new (x ∷ xs) ms t (inr i) = insert_all_new xs (insert x ms) t i

insert_all_ascending : (xs ms : List ℕ) → Ascending ms → Ascending (foldl (λ m u. insert u m) ms xs)
insert_all_ascending [] ms a = a
insert_all_ascending (x ∷ xs) ms a = insert_all_ascending xs (insert x ms) (insert_ascending x ms a)

-- what a registration does to the marks
pub record Marks (s : State) (t : ℕ) (s' : State) : Type 0 where
  pub terms : s'.terms ≡ s.terms
  pub eq : s'.eq ≡ s.eq
  pub atoms : s'.atoms ≡ s.atoms
  pub level : s'.level ≡ s.level
  pub entries : s'.dt.level_record ≡ s.dt.level_record
  pub old : (x : ℕ) → In x s.dt.marks → In x s'.dt.marks
  pub new : (n x : ℕ) → (low : (u a : ℕ) → In a (children s.terms u) → a < u) → Beneath s.terms n t x → T (relevant s.terms x) → In x s'.dt.marks
  pub only : (x : ℕ) → In x s'.dt.marks → In x s.dt.marks ⊎ ((n : ℕ) × Beneath s.terms n t x × T (relevant s.terms x))
  pub ascending : Ascending s.dt.marks → Ascending s'.dt.marks

pub new_var_marks : (s : State) (t : ℕ) → Marks s t (new_var s t)
unfolding new_var with_marks with_dt
new_var_marks s t = record {
  terms = refl;
  eq = refl;
  atoms = refl;
  level = refl;
  entries = refl;
  old = λ x i. insert_all_old (keep (relevant s.terms) (collect (suc t) s.terms t [])) s.dt.marks x i;
  new = λ n x low w r. insert_all_new (keep (relevant s.terms) (collect (suc t) s.terms t [])) s.dt.marks x (in_keep (relevant s.terms) (collect (suc t) s.terms t []) x (collect_below s.terms low n t x w) r);
  only = λ x i. only x (insert_all_in (keep (relevant s.terms) (collect (suc t) s.terms t [])) s.dt.marks x i);
  ascending = λ a. insert_all_ascending (keep (relevant s.terms) (collect (suc t) s.terms t [])) s.dt.marks a;
}
  where
    under : (x : ℕ) → T (relevant s.terms x) → In x [] ⊎ ((n : ℕ) × Beneath s.terms n t x) → (n : ℕ) × Beneath s.terms n t x × T (relevant s.terms x)
    under x r (inl j) = absurd j
    under x r (inr (n, w)) = (n, w, r)

    only : (x : ℕ) → In x (keep (relevant s.terms) (collect (suc t) s.terms t [])) ⊎ In x s.dt.marks → In x s.dt.marks ⊎ ((n : ℕ) × Beneath s.terms n t x × T (relevant s.terms x))
    only x (inl j) =
        let (k, r) = keep_in (relevant s.terms) (collect (suc t) s.terms t []) x j in
        inr (under x r (collects_only s.terms x (suc t) t [] k))
    only x (inr j) = inl j

-- ---- what is relevant stays so

relevant_op : Context → ℕ → Op → List ℕ → Bool
relevant_op cx t o as' =
    is_some (ctor_by_op cx t o as') || is_some (sel_by_op cx t o as') || is_some (tester_by_op cx t o as') || is_datatype_sort cx (result_of cx o)

relevant_is : (cx : Context) (t : ℕ) → relevant cx t ≡ relevant_op cx t (term cx t).op (term cx t).args
unfolding relevant relevant_op ctor_app sel_app tester_app children sort_of
relevant_is cx t = refl

relevant_grown : (cx : Context) (new : List Term) (t : ℕ) (o : Op) (as' : List ℕ) → relevant_op (grown cx new) t o as' ≡ relevant_op cx t o as'
unfolding relevant_op ctor_by_op sel_by_op tester_by_op is_datatype_sort result_of symbol sort_node
relevant_grown cx new t Eq as' = refl
relevant_grown cx new t (Term.Uninterpreted f) as' = refl

pub relevant_kept : (a b : Context) (t : ℕ) → Extends a b → t < length a.terms → relevant b t ≡ relevant a t
relevant_kept a b t (new, e) l =
    relevant_is b t
    ∙ ap (λ (x : Term). relevant_op b t x.op x.args) (extends_term a b t (new, e) l)
    ∙ ap (λ (z : Context). relevant_op z t (term a t).op (term a t).args) e
    ∙ relevant_grown a new t (term a t).op (term a t).args
    ∙ sym (relevant_is a t)
