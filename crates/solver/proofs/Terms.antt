-- Term tables: a table grows at its end, `mk_app` finds or appends, and a formed table stays formed.
use Prim.Native.Nat.{ℕ, zero, suc, ◌+◌, ◌≤◌, ◌<◌}
use mathlib.Core.Path.{◌≡◌, refl, sym, subst, subst⁻¹, ap, ap₂, ◌∙◌}
use mathlib.Core.Logic.{◌⊎◌, inl, inr}
use mathlib.Core.Bool.{Bool, true, false, cond, false≢true}
use mathlib.Core.List.{List, [], ◌∷◌, ◌++◌, map, append_assoc, append-nil}
use mathlib.Core.Option.{Option, none, some}
use native.Mathlib.Omega.{arith}
use native.Mathlib.Nat.{add-zero, add-suc, suc-add, zero-add}
use native.Mathlib.Decide.{dec_lt}
use lib.Dec.{T, eqb, eqb→eq, eqb_refl}
use lib.ListN.{length, get_or, length-append, get_or-append}
use lib.Seq.{get_or-append_seam}
use Rattle.shinri_core.specs.Lists.{place_from, same_list}
use Rattle.shinri_core.specs.Term as Term
use Rattle.shinri_core.specs.Term.{Symbol, Op, Eq, Term, same_op, same_term}
pub use Rattle.shinri_core.specs.Formed.{Agrees, Formed, grown, Extends}
use Rattle.shinri_core.specs.Context.{Context, Made, symbol, term, no_term, children, result_of, sort_of, intern, mk_app}
use Rattle.shinri_core.proofs.Lists.{In, T_and, T-both, T_true, true_T, same_list_eq}
use Rattle.solver.proofs.Basics.{none_some, some_none, some_is}

-- ---- tests of operations and terms

pub same_op_eq : (p q : Op) → T (same_op p q) → p ≡ q
unfolding same_op
same_op_eq Eq Eq t = refl
same_op_eq Eq (Term.Uninterpreted s) t = absurd t
same_op_eq (Term.Uninterpreted r) Eq t = absurd t
same_op_eq (Term.Uninterpreted r) (Term.Uninterpreted s) t = ap Term.Uninterpreted (eqb→eq r s t)

pub same_op_refl : (p : Op) → T (same_op p p)
unfolding same_op
same_op_refl Eq = tt
same_op_refl (Term.Uninterpreted r) = eqb_refl r

pub same_list_refl : (xs : List ℕ) → T (same_list xs xs)
unfolding same_list
same_list_refl [] = tt
same_list_refl (x ∷ xs) = go (eqb x x) (eqb_refl x) (same_list_refl xs)
  where
    go : (b : Bool) → T b → T (same_list xs xs) → T (cond b (same_list xs xs) false)
    go true t u = u
    go false t u = absurd t

abbrev pub app : Op → List ℕ → Term
app o as' = record { op = o; args = as' }

pub same_term_eq : (o : Op) (as' : List ℕ) (t : Term) → T (same_term o as' t) → t ≡ app o as'
unfolding same_term
same_term_eq o as' t h =
    let (p, q) = T_and (same_op o t.op) (same_list as' t.args) h in
    ap₂ (λ (x : Op) (xs : List ℕ). app x xs) (sym (same_op_eq o t.op p)) (sym (same_list_eq as' t.args q))

pub same_term_refl : (t : Term) → T (same_term t.op t.args t)
unfolding same_term
same_term_refl t = T-both (same_op t.op t.op) (same_list t.args t.args) (same_op_refl t.op) (same_list_refl t.args)

-- ---- the place of an element

module _ {A : Type 0} (p : A → Bool) where
  -- a place that was found is in the list and passes
  pub place_some : (k : ℕ) (xs : List A) (i : ℕ) (d : A) → place_from k p xs ≡ some i → (j : ℕ) × (i ≡ k + j) × (j < length xs) × T (p (get_or xs j d))
  unfolding place_from
  place_some k [] i d e = absurd (none_some i e)
  place_some k (x ∷ xs) i d e = go (p x) refl e (place_some (suc k) xs i d)
    where
      later : ((j : ℕ) × (i ≡ suc k + j) × (j < length xs) × T (p (get_or xs j d))) → (j : ℕ) × (i ≡ k + j) × (j < length (x ∷ xs)) × T (p (get_or (x ∷ xs) j d))
      later (j, q, l, t) = (suc j, q ∙ suc-add k j ∙ sym (add-suc k j), omega arith, t)

      go : (b : Bool) → p x ≡ b → cond b (some k) (place_from (suc k) p xs) ≡ some i → (place_from (suc k) p xs ≡ some i → (j : ℕ) × (i ≡ suc k + j) × (j < length xs) × T (p (get_or xs j d))) → (j : ℕ) × (i ≡ k + j) × (j < length (x ∷ xs)) × T (p (get_or (x ∷ xs) j d))
      go true e q f = (zero, sym (some_is k i q) ∙ sym (add-zero k), omega arith, true_T (p x) e)
      go false e q f = later (f q)

  -- where no place was found none passes
  pub place_none : (k : ℕ) (xs : List A) (x : A) → place_from k p xs ≡ none → In x xs → p x ≡ false
  unfolding place_from
  place_none k [] x e i = absurd i
  place_none k (y ∷ ys) x e i = go (p y) refl e i (place_none (suc k) ys x)
    where
      go : (b : Bool) → p y ≡ b → cond b (some k) (place_from (suc k) p ys) ≡ none → In x (y ∷ ys) → (place_from (suc k) p ys ≡ none → In x ys → p x ≡ false) → p x ≡ false
      go true q s j f = absurd (some_none k s)
      go false q s (inl j) f = ap p j ∙ q
      go false q s (inr j) f = f s j

-- ---- a table that grows at its end

pub extends_self : (cx : Context) → Extends cx cx
extends_self cx = ([], ap (λ (ts : List Term). record { sorts = cx.sorts; symbols = cx.symbols; terms = ts }) (sym (append-nil cx.terms)))

pub extends_then : (a b c : Context) → Extends a b → Extends b c → Extends a c
extends_then a b c (xs, p) (ys, q) = (
  xs ++ ys,
  q ∙ ap (λ (z : Context). grown z ys) p
      ∙ ap (λ (ts : List Term). record { sorts = a.sorts; symbols = a.symbols; terms = ts }) (append_assoc a.terms xs ys),
)

pub extends_sorts : (a b : Context) → Extends a b → b.sorts ≡ a.sorts
extends_sorts a b (xs, p) = ap (λ (z : Context). z.sorts) p

pub extends_symbols : (a b : Context) → Extends a b → b.symbols ≡ a.symbols
extends_symbols a b (xs, p) = ap (λ (z : Context). z.symbols) p

pub extends_length : (a b : Context) → Extends a b → length a.terms ≤ length b.terms
extends_length a b (xs, p) =
    subst⁻¹ (λ (z : Context). length a.terms ≤ length z.terms) p
    (subst⁻¹ (λ (n : ℕ). length a.terms ≤ n) (length-append a.terms xs) (omega arith))

pub extends_symbol : (a b : Context) (f : ℕ) → Extends a b → symbol b f ≡ symbol a f
unfolding symbol
extends_symbol a b f (xs, p) = ap (λ (z : Context). symbol z f) p

pub extends_term : (a b : Context) (t : ℕ) → Extends a b → t < length a.terms → term b t ≡ term a t
unfolding term
extends_term a b t (xs, p) l = ap (λ (z : Context). term z t) p ∙ get_or-append a.terms xs no_term t l

pub extends_result : (a b : Context) (o : Op) → Extends a b → result_of b o ≡ result_of a o
unfolding result_of
extends_result a b Eq e = refl
extends_result a b (Term.Uninterpreted f) e = ap (λ (x : Symbol). x.result) (extends_symbol a b f e)

pub extends_sort_of : (a b : Context) (t : ℕ) → Extends a b → t < length a.terms → sort_of b t ≡ sort_of a t
unfolding sort_of
extends_sort_of a b t e l = ap (λ (x : Term). result_of b x.op) (extends_term a b t e l) ∙ extends_result a b (term a t).op e

-- ---- formed tables

abbrev pub Below : ℕ → List ℕ → Type 0
Below n as' = (a : ℕ) → In a as' → a < n

map_below : (a b : Context) (as' : List ℕ) → Extends a b → Below (length a.terms) as' → map (sort_of b) as' ≡ map (sort_of a) as'
map_below a b [] e l = refl
map_below a b (x ∷ xs) e l =
    ap₂ (λ (y : ℕ) (ys : List ℕ). y ∷ ys) (extends_sort_of a b x e (l x (inl refl))) (map_below a b xs e (λ y i. l y (inr i)))

pub agrees_kept : (a b : Context) (o : Op) (as' : List ℕ) → Extends a b → Below (length a.terms) as' → Agrees a o as' → Agrees b o as'
agrees_kept a b Eq as' e l (x, y, q, s) = (
  x,
  y,
  q,
  extends_sort_of a b x e (l x (subst⁻¹ (λ (zs : List ℕ). In x zs) q (inl refl))) ∙ s
      ∙ sym (extends_sort_of a b y e (l y (subst⁻¹ (λ (zs : List ℕ). In y zs) q (inr (inl refl))))),
)
agrees_kept a b (Term.Uninterpreted f) as' e l h =
    map_below a b as' e l ∙ h ∙ sym (ap (λ (x : Symbol). x.params) (extends_symbol a b f e))

-- ---- what mk_app makes

-- the term is there, and the table has grown
pub record Makes (cx : Context) (o : Op) (as' : List ℕ) (m : Made) : Type 0 where
  pub extends : Extends cx m.context
  pub within : m.id < length m.context.terms
  pub made : term m.context m.id ≡ app o as'

pub term_in : (ts : List Term) (t : ℕ) (d : Term) → t < length ts → In (get_or ts t d) ts
term_in [] t d l = absurd (omega arith)
term_in (x ∷ xs) zero d l = inl refl
term_in (x ∷ xs) (suc t) d l = inr (term_in xs t d (omega arith))

intern_makes : (cx : Context) (o : Op) (as' : List ℕ) (p : Option ℕ) → place_from 0 (same_term o as') cx.terms ≡ p → Makes cx o as' (intern cx o as' p)
unfolding intern term
intern_makes cx o as' (some t) e =
    let (j, q, l, s) = place_some (same_term o as') 0 cx.terms t no_term e in
    let k : j ≡ t = sym (q ∙ zero-add j) in
    record {
      extends = extends_self cx;
      within = subst (λ (n : ℕ). n < length cx.terms) k l;
      made = subst (λ (n : ℕ). get_or cx.terms n no_term ≡ app o as') k (same_term_eq o as' (get_or cx.terms j no_term) s);
    }
intern_makes cx o as' none e = record {
  extends = (app o as' ∷ [], refl);
  within = subst⁻¹ (λ (n : ℕ). length cx.terms < n) (length-append cx.terms (app o as' ∷ [])) (omega arith);
  made = get_or-append_seam cx.terms (app o as') [] no_term;
}

pub mk_app_makes : (cx : Context) (o : Op) (as' : List ℕ) → Makes cx o as' (mk_app cx o as')
unfolding mk_app
mk_app_makes cx o as' = intern_makes cx o as' (place_from 0 (same_term o as') cx.terms) refl

-- a number of the longer table is old or the new last
last_or_old : (n t : ℕ) → t < n + 1 → (t < n) ⊎ (t ≡ n)
last_or_old n t l = go (dec_lt t n)
  where
    go : Dec (t < n) → (t < n) ⊎ (t ≡ n)
    go (yes h) = inl h
    go (no h) = inr (omega arith)

module _ (cx : Context) (o : Op) (as' : List ℕ) (F : Formed cx) (B : Below (length cx.terms) as') (A : Agrees cx o as') where
  longer : Context
  longer = grown cx (app o as' ∷ [])

  ext : Extends cx longer
  unfolding longer
  ext = (app o as' ∷ [], refl)

  count : length longer.terms ≡ length cx.terms + 1
  unfolding longer
  count = length-append cx.terms (app o as' ∷ [])

  newest : term longer (length cx.terms) ≡ app o as'
  unfolding longer term
  newest = get_or-append_seam cx.terms (app o as') [] no_term

  either_place : (t : ℕ) → t < length longer.terms → (t < length cx.terms) ⊎ (t ≡ length cx.terms)
  either_place t l = last_or_old (length cx.terms) t (subst (λ (n : ℕ). t < n) count l)

  abbrev LowerAt : ℕ → Type 0
  LowerAt t = Below t (children longer t)

  abbrev AgreesAt : ℕ → Type 0
  AgreesAt t = Agrees longer (term longer t).op (children longer t)

  lower_at : (t : ℕ) → (t < length cx.terms) ⊎ (t ≡ length cx.terms) → LowerAt t
  unfolding children
  lower_at t (inl l) = subst⁻¹ (λ (x : Term). Below t x.args) (extends_term cx longer t ext l) (F.lower t l)
  lower_at t (inr e) = subst⁻¹ LowerAt e (subst⁻¹ (λ (x : Term). Below (length cx.terms) x.args) newest B)

  agrees_at : (t : ℕ) → (t < length cx.terms) ⊎ (t ≡ length cx.terms) → AgreesAt t
  unfolding children
  agrees_at t (inl l) =
      subst⁻¹ (λ (x : Term). Agrees longer x.op x.args) (extends_term cx longer t ext l)
      (agrees_kept cx longer (term cx t).op (children cx t) ext (λ a i. let h = F.lower t l a i in omega arith) (F.agrees t l))
  agrees_at t (inr e) =
      subst⁻¹ AgreesAt e (subst⁻¹ (λ (x : Term). Agrees longer x.op x.args) newest (agrees_kept cx longer o as' ext B A))

  module _ (N : place_from 0 (same_term o as') cx.terms ≡ none) where
    not_old : (t : ℕ) → t < length cx.terms → term cx t ≡ app o as' → ⊥
    unfolding term
    not_old t l e =
        false≢true
        (sym (place_none (same_term o as') 0 cx.terms (get_or cx.terms t no_term) N (term_in cx.terms t no_term l))
        ∙ T_true (same_term o as' (get_or cx.terms t no_term))
        (subst⁻¹ (λ (x : Term). T (same_term o as' x)) e (same_term_refl (app o as'))))

    apart : (t u : ℕ) → (t < length cx.terms) ⊎ (t ≡ length cx.terms) → (u < length cx.terms) ⊎ (u ≡ length cx.terms) → term longer t ≡ term longer u → t ≡ u
    apart t u (inl l) (inl m) e = F.distinct t u l m (sym (extends_term cx longer t ext l) ∙ e ∙ extends_term cx longer u ext m)
    apart t u (inl l) (inr m) e = absurd (not_old t l (sym (extends_term cx longer t ext l) ∙ e ∙ ap (term longer) m ∙ newest))
    apart t u (inr l) (inl m) e = absurd (not_old u m (sym (extends_term cx longer u ext m) ∙ sym e ∙ ap (term longer) l ∙ newest))
    apart t u (inr l) (inr m) e = l ∙ sym m

    longer_formed : Formed longer
    longer_formed = record {
      lower = λ t l. lower_at t (either_place t l);
      agrees = λ t l. agrees_at t (either_place t l);
      distinct = λ t u l m e. apart t u (either_place t l) (either_place u m) e;
    }

  intern_formed : (p : Option ℕ) → place_from 0 (same_term o as') cx.terms ≡ p → Formed (intern cx o as' p).context
  unfolding intern longer
  intern_formed (some t) e = F
  intern_formed none e = longer_formed e

  pub mk_app_formed : Formed (mk_app cx o as').context
  unfolding mk_app
  mk_app_formed = intern_formed (place_from 0 (same_term o as') cx.terms) refl
