-- A check begins. The marks are copied; then one pass down the terms takes the roots and puts each marked constructor application before
-- those of its class that stand there. At term i the words of each class are those of the applications from i on.
use Rattle.shinri_core.proofs.Kit.{ℕ, suc, ◌+◌, ◌-◌, ◌≤◌, ◌<◌, ◌≡◌, refl, sym, ap, ap₂, ◌∙◌, subst, subst⁻¹, ◌⊎◌, inl, inr, Bool, true, false, cond, ◌&&◌, true≢false, List, [], ◌∷◌, arith, add-one, ℕ_discrete, dec_lt, eqb, length, get_or, replicate, take, drop, length-take-le, length-drop}
use lib.ListN.{length-replicate}
use Rattle.shinri_core.proofs.Lists.{zeros, getD_sets_in, getD_sets_out}
use Rattle.shinri_core.specs.Limits.{max_terms}
use Rattle.shinri_core.specs.Context.{Context, ctor_app}
use Rattle.shinri_core.specs.Memory.Words.{at, put, put_all, Kept}
use Rattle.shinri_core.specs.Memory.Table.{context}
use Rattle.shinri_core.proofs.Memory.Stores.{other_place, kept_put_all}
use Rattle.theory.specs.EqEngine.{find}
use Rattle.theory.specs.Memory.Table.{merges}
use Rattle.solver.specs.Memory.Table.{MARK, is_set, term_kind, MarksAre, state_with, StateSound}
use Rattle.solver.specs.Memory.Work.{W_MARK, ROOT, LOWEST, NEXT, work_room, work_size, Blank, Begins, Copyable, MarksCopied, linked, Linkable, Linked}
use Rattle.solver.proofs.Memory.Flags.{has, flagged_same}
use Rattle.solver.proofs.Memory.Parts.{part_word}
use Rattle.solver.proofs.Memory.WorkStores.{other, kept_none, stores}
use Rattle.solver.proofs.Memory.Working.{listed, matches, class_word, class_same, class_step, class_none, no_kind, kind_matches, kind_no_match, node_root}

-- ---- copying the marks

-- the marks are copied over those of the work table at once
pub copied : {c s w t vs : List ℕ} {n k : ℕ} → Copyable c s w → (n ≡ length (context c).terms) × (n ≤ max_terms) →
    vs ≡ take k (drop MARK s) → k ≡ n → t ≡ put_all w W_MARK 0 vs → MarksCopied c s w t
unfolding put_all at
copied {c} {s} {w} {t} {vs} {n} {k} z (f, l) e p stored =
    let long = z.long in
    let table = z.table in
    let size : length vs ≡ n = ap length e ∙ length-take-le k (drop MARK s) (let d = length-drop MARK s in omega arith) ∙ p in
    record {
      copied = λ x h.
          ap (λ (u : List ℕ). at u W_MARK x) stored
          ∙ getD_sets_in w W_MARK vs x 0 (omega arith) (omega arith)
          ∙ ap (λ (u : List ℕ). get_or u x 0) e
          ∙ part_word s MARK k x (omega arith);
      behind = λ x h.
          ap (λ (u : List ℕ). at u W_MARK x) stored ∙ getD_sets_out w W_MARK vs (W_MARK + x) 0 (inr (omega arith));
      kept =
          subst⁻¹ (Kept work_room (W_MARK ∷ []) w) stored
          (kept_put_all work_room (W_MARK ∷ []) w w W_MARK 0 vs tt (omega arith) (kept_none (W_MARK ∷ []) w));
    }

-- ---- the pass down

module _ (c e w : List ℕ) (marks : MarksAre (context c) w W_MARK) (x j : ℕ) (l : j < max_terms) where
  -- of a marked constructor application the class decides
  pub linked_here : at w W_MARK j ≡ 1 → listed (context c) (merges e) x (has w W_MARK) j ≡ eqb (find (merges e) x) (find (merges e) j)
  unfolding is_set
  linked_here m = ap (λ (v : ℕ). is_set v && matches (merges e) x (ctor_app (context c) j)) m ∙ go (marks j l)
    where
      go : (at w W_MARK j ≡ 0) ⊎ (at w W_MARK j ≡ term_kind (context c) j) →
          matches (merges e) x (ctor_app (context c) j) ≡ eqb (find (merges e) x) (find (merges e) j)
      go (inl p) = absurd (omega arith)
      go (inr p) = kind_matches (context c) (merges e) j x (sym p ∙ m)

  pub not_here : (at w W_MARK j ≡ 1 → ⊥) → listed (context c) (merges e) x (has w W_MARK) j ≡ false
  unfolding is_set
  not_here d = go (marks j l)
    where
      none : (b : Bool) → (b && false) ≡ false
      none true = refl
      none false = refl

      go : (at w W_MARK j ≡ 0) ⊎ (at w W_MARK j ≡ term_kind (context c) j) → listed (context c) (merges e) x (has w W_MARK) j ≡ false
      go (inl p) = ap (λ (v : ℕ). is_set v && matches (merges e) x (ctor_app (context c) j)) p
      go (inr p) =
          ap (λ (b : Bool). has w W_MARK j && b) (kind_no_match (context c) (merges e) j x (λ k. d (p ∙ k))) ∙ none (has w W_MARK j)

-- the roots and the applications from i on stand there
pub record Linking (c e w₀ w : List ℕ) (i : ℕ) : Type 0 where
  pub asked : Linkable c e w₀
  pub within : i ≤ max_terms
  pub wide : work_size ≤ length w
  pub roots : (x : ℕ) → x < max_terms → (at w ROOT x ≡ 0) ⊎ (at w ROOT x ≡ suc (find (merges e) x))
  pub lowest : (x : ℕ) → x < max_terms → at w LOWEST (find (merges e) x) ≡ class_word (context c) (merges e) w₀ x i
  pub next : (x : ℕ) → x < max_terms → i ≤ x → at w₀ W_MARK x ≡ 1 → at w NEXT x ≡ class_word (context c) (merges e) w₀ x (suc x)
  pub kept : Kept work_room (ROOT ∷ LOWEST ∷ NEXT ∷ []) w₀ w

-- behind the last term there is no mark
pub unmarked : (cx : Context) (w : List ℕ) (b : ℕ) → MarksAre cx w b → (x : ℕ) → length cx.terms ≤ x → x < max_terms → has w b x ≡ false
unfolding is_set
unmarked cx w b m x l h = go (m x h)
  where
    go : (at w b x ≡ 0) ⊎ (at w b x ≡ term_kind cx x) → has w b x ≡ false
    go (inl p) = ap is_set p
    go (inr p) = ap is_set p ∙ no_kind cx x l

pub linking_first : {c e w : List ℕ} {n : ℕ} → Linkable c e w → (n ≡ length (context c).terms) × (n ≤ max_terms) → Linking c e w w n
unfolding is_set
linking_first {c} {e} {w} {n} z (q, l) = record {
  asked = z;
  within = l;
  wide = z.long;
  roots = λ x h. inl (z.no_root x h);
  lowest = λ x h.
      z.no_app (find (merges e) x) (node_root e x z.engine h)
      ∙ sym (class_none (context c) (merges e) w x n (λ y k g. unmarked (context c) w W_MARK z.marks y (omega arith) g));
  next = λ x h k m. absurd (true≢false (sym (marked x m) ∙ unmarked (context c) w W_MARK z.marks x (omega arith) h));
  kept = kept_none (ROOT ∷ LOWEST ∷ NEXT ∷ []) w;
}
  where
    marked : (x : ℕ) → at w W_MARK x ≡ 1 → has w W_MARK x ≡ true
    marked x m = ap is_set m

-- what the stores of one turn did: the root of j, and for a constructor application the two words of its class
record Turned (w u : List ℕ) (j root : ℕ) (app : Bool) : Type 0 where
  long : work_size ≤ length u
  root_is : at u ROOT j ≡ suc root
  roots : (x : ℕ) → (x ≡ j → ⊥) → x < max_terms → at u ROOT x ≡ at w ROOT x
  lowest : (x : ℕ) → x < max_terms → at u LOWEST x ≡ cond (app && eqb x root) (suc j) (at w LOWEST x)
  next_is : app ≡ true → at u NEXT j ≡ at w LOWEST root
  next : (x : ℕ) → (x ≡ j → ⊥) → x < max_terms → at u NEXT x ≡ at w NEXT x
  kept : Kept work_room (ROOT ∷ LOWEST ∷ NEXT ∷ []) w u

turned_root : {w u : List ℕ} {j root : ℕ} → work_size ≤ length w → j < max_terms → u ≡ put w ROOT j (root + 1) → Turned w u j root false
turned_root {w} {u} {j} {root} l h e = record {
  long = search (e, stores);
  root_is = search (e, add-one, stores);
  roots = λ x d k. ap (λ (t : List ℕ). at t ROOT x) e ∙ other_place w ROOT j x (root + 1) d;
  lowest = search (e, stores);
  next_is = λ p. absurd (true≢false (sym p));
  next = search (e, stores);
  kept = search (e, stores);
}

turned_app : {w w₁ u : List ℕ} {j root : ℕ} → work_size ≤ length w → j < max_terms → root < max_terms → w₁ ≡ put w ROOT j (root + 1) →
    u ≡ linked w₁ j root → Turned w u j root true
unfolding linked
turned_app {w} {w₁} {u} {j} {root} l h k e q = record {
  long = search (q, e, stores);
  root_is = search (q, e, add-one, stores);
  roots = λ x d g.
      ap (λ (t : List ℕ). at t ROOT x) q ∙ search stores ∙ ap (λ (t : List ℕ). at t ROOT x) e ∙ other_place w ROOT j x (root + 1) d;
  lowest = λ x g. search (q, e, add-one, stores);
  next_is = λ p. search (q, e, stores);
  next = λ x d g. search (q, e, other_place, stores);
  kept = search (q, e, stores);
}

-- one turn, at term j: whether it is a marked constructor application is known
turned_next : {c e w₀ w u : List ℕ} {i j : ℕ} (app : Bool) → Linking c e w₀ w i → suc j ≡ i → Turned w u j (find (merges e) j) app →
    ((x : ℕ) → listed (context c) (merges e) x (has w₀ W_MARK) j ≡ (app && eqb (find (merges e) x) (find (merges e) j))) →
    (at w₀ W_MARK j ≡ 1 → app ≡ true) → Linking c e w₀ u j
turned_next {c} {e} {w₀} {w} {u} {i} {j} app z n t here marked = record {
  asked = z.asked;
  within = let h = z.within in omega arith;
  wide = t.long;
  roots = λ x h. root x h (ℕ_discrete x j) (z.roots x h);
  lowest = λ x h.
      t.lowest (find (merges e) x) (node_root e x z.asked.engine h)
      ∙ ap₂ (λ (b : Bool) (v : ℕ). cond b (suc j) v) (sym (here x)) (z.lowest x h ∙ ap (class_word (context c) (merges e) w₀ x) (sym n))
      ∙ sym (class_step (context c) (merges e) w₀ x j below);
  next = λ x h k m. next x h k m (ℕ_discrete x j);
  kept = record {
    long = t.kept.long ∙ z.kept.long;
    rest = λ b x a h. t.kept.rest b x a h ∙ z.kept.rest b x a h;
  };
}
  where
    below : j < max_terms
    below = let h = z.within in omega arith

    root : (x : ℕ) → x < max_terms → Dec (x ≡ j) → (at w ROOT x ≡ 0) ⊎ (at w ROOT x ≡ suc (find (merges e) x)) →
        (at u ROOT x ≡ 0) ⊎ (at u ROOT x ≡ suc (find (merges e) x))
    root x h (yes p) r = inr (ap (at u ROOT) p ∙ t.root_is ∙ ap (λ (y : ℕ). suc (find (merges e) y)) (sym p))
    root x h (no d) (inl r) = inl (t.roots x d h ∙ r)
    root x h (no d) (inr r) = inr (t.roots x d h ∙ r)

    next : (x : ℕ) → x < max_terms → j ≤ x → at w₀ W_MARK x ≡ 1 → Dec (x ≡ j) →
        at u NEXT x ≡ class_word (context c) (merges e) w₀ x (suc x)
    next x h k m (yes p) =
        ap (at u NEXT) p ∙ t.next_is (marked (ap (at w₀ W_MARK) (sym p) ∙ m)) ∙ z.lowest j below
        ∙ ap (class_word (context c) (merges e) w₀ j) (sym n)
        ∙ ap (λ (y : ℕ). class_word (context c) (merges e) w₀ y (suc y)) (sym p)
    next x h k m (no d) = t.next x d h ∙ z.next x h (omega arith) m

-- ---- the turns of the loop

module _ {c e w₀ w w₁ : List ℕ} {i root mark : ℕ} (z : Linking c e w₀ w i) (h : 0 < i) (r : root ≡ find (merges e) (i - 1))
    (p : w₁ ≡ put w ROOT (i - 1) (root + 1)) (m : mark ≡ at w₁ W_MARK (i - 1)) where
  turn : suc (i - 1) ≡ i
  turn = omega arith

  room : i - 1 < max_terms
  room = let l = z.within in omega arith

  root_node : root < max_terms
  root_node = subst (λ (x : ℕ). x < max_terms) (sym r) (node_root e (i - 1) z.asked.engine room)

  -- the mark is as at first
  first_mark : mark ≡ at w₀ W_MARK (i - 1)
  first_mark =
      m ∙ ap (λ (t : List ℕ). at t W_MARK (i - 1)) p ∙ other w W_MARK ROOT (i - 1) (i - 1) (root + 1) tt room room
      ∙ z.kept.rest W_MARK (i - 1) tt room

  pub linking_app : {u : List ℕ} → mark ≡ 1 → u ≡ linked w₁ (i - 1) root → Linking c e w₀ u (i - 1)
  linking_app {u} q s =
      turned_next true z turn (subst (λ (x : ℕ). Turned w u (i - 1) x true) r (turned_app z.wide room root_node p s))
      (λ x. linked_here c e w₀ z.asked.marks x (i - 1) room (sym first_mark ∙ q)) (λ k. refl)

  pub linking_other : (mark ≡ 1 → ⊥) → Linking c e w₀ w₁ (i - 1)
  linking_other d =
      turned_next false z turn (subst (λ (x : ℕ). Turned w w₁ (i - 1) x false) r (turned_root z.wide room p))
      (λ x. not_here c e w₀ z.asked.marks x (i - 1) room (λ k. d (first_mark ∙ k))) (λ k. absurd (d (first_mark ∙ k)))

pub linking_done : {c e w₀ w : List ℕ} {i : ℕ} → Linking c e w₀ w i → i ≤ 0 → Linked c e w₀ w
linking_done {c} {e} {w₀} {w} {i} z l = record {
  work = record {
    long = z.wide;
    marks = λ x h. subst (λ (v : ℕ). (v ≡ 0) ⊎ (v ≡ term_kind (context c) x)) (sym (marks x h)) (z.asked.marks x h);
    roots = z.roots;
    lowest = λ x h. z.lowest x h ∙ ap (class_word (context c) (merges e) w₀ x) none ∙ sym (words x 0 (omega arith));
  };
  chain = record { next = λ x h m. z.next x h (omega arith) (sym (marks x h) ∙ m) ∙ sym (words x (suc x) h) };
  kept = z.kept;
}
  where
    none : i ≡ 0
    none = omega arith

    marks : (x : ℕ) → x < max_terms → at w W_MARK x ≡ at w₀ W_MARK x
    marks x h = z.kept.rest W_MARK x tt h

    words : (x j : ℕ) → j ≤ max_terms → class_word (context c) (merges e) w x j ≡ class_word (context c) (merges e) w₀ x j
    words x j k = class_same (context c) (merges e) w₀ w x j k (λ y g h. ap is_set (marks y h))

-- ---- the whole

module _ {c e s w w₁ : List ℕ} (z : StateSound c e s) (b : Blank w) (m : MarksCopied c s w w₁) where
  blank_at : (r x : ℕ) → at w r x ≡ 0
  unfolding at
  blank_at r x = b.zero (r + x)

  copied_marks : MarksAre (context c) w₁ W_MARK
  copied_marks x h = go (dec_lt x (length (context c).terms)) (z.marks x h)
    where
      go : Dec (x < length (context c).terms) → (at s MARK x ≡ 0) ⊎ (at s MARK x ≡ term_kind (context c) x) →
          (at w₁ W_MARK x ≡ 0) ⊎ (at w₁ W_MARK x ≡ term_kind (context c) x)
      go (yes l) (inl p) = inl (m.copied x l ∙ p)
      go (yes l) (inr p) = inr (m.copied x l ∙ p)
      go (no l) p = inl (m.behind x (omega arith) ∙ blank_at W_MARK x)

  pub linkable : Linkable c e w₁
  linkable = record {
    core = z.core;
    engine = z.engine;
    long = let n = m.kept.long in let l = b.long in omega arith;
    marks = copied_marks;
    no_root = λ x h. m.kept.rest ROOT x tt h ∙ blank_at ROOT x;
    no_app = λ x h. m.kept.rest LOWEST x tt h ∙ blank_at LOWEST x;
  }

  pub begins : {u : List ℕ} → Linked c e w₁ u → Begins c e s u
  unfolding is_set
  begins {u} k = record {
    check = record { state = z; work = k.work; more = λ x h f. more x h f (dec_lt x (length (context c).terms)) };
    chain = k.chain;
    marks = λ lv. ap (state_with c e s lv) (flagged_same s u MARK W_MARK 0 (λ x l h. flag x h (dec_lt x (length (context c).terms))));
  }
    where
      copied : (x : ℕ) → x < max_terms → x < length (context c).terms → at u W_MARK x ≡ at s MARK x
      copied x h l = k.kept.rest W_MARK x tt h ∙ m.copied x l

      more : (x : ℕ) → x < max_terms → is_set (at s MARK x) ≡ true → Dec (x < length (context c).terms) → at u W_MARK x ≡ at s MARK x
      more x h f (yes l) = copied x h l
      more x h f (no l) = absurd (true≢false (sym f ∙ unmarked (context c) s MARK z.marks x (omega arith) h))

      flag : (x : ℕ) → x < max_terms → Dec (x < length (context c).terms) → has u W_MARK x ≡ has s MARK x
      flag x h (yes l) = ap is_set (copied x h l)
      flag x h (no l) =
          ap is_set (k.kept.rest W_MARK x tt h ∙ m.behind x (omega arith) ∙ blank_at W_MARK x)
          ∙ sym (unmarked (context c) s MARK z.marks x (omega arith) h)

-- ---- a blank work table

pub fresh : {w : List ℕ} (n : ℕ) → work_size ≤ n → w ≡ replicate n 0 → Blank w
fresh n l e = record {
  long = let m = length-replicate {A = ℕ} n 0 in let k = ap length e in omega arith;
  zero = λ i. ap (λ (u : List ℕ). get_or u i 0) e ∙ zeros n i;
}
