-- The first application of a class, by either work table. In a whole one it stands at the root. In a short one it is found by a pass up
-- over the terms, block by block: what the definition makes of all marks is what it makes of those from a term on, and a block that
-- announces none is passed over.
use Rattle.shinri_core.proofs.Kit.{ℕ, zero, suc, ◌+◌, ◌*◌, ◌/◌, ◌≤◌, ◌<◌, ◌≡◌, refl, sym, ap, ◌∙◌, subst, ◌⊎◌, inl, inr, Bool, cond, true≢false, List, arith, add-zero, zero-add, eq-eqb, ne_eqb, length, get_or, drop, get_or-take, get_or-drop, length-drop, length-take-le}
use Rattle.shinri_core.specs.Limits.{max_terms}
use Rattle.shinri_core.specs.Memory.Words.{at}
use Rattle.shinri_core.specs.Memory.Table.{context}
use Rattle.theory.specs.EqEngine.{find}
use Rattle.theory.specs.Memory.Table.{merges}
use Rattle.solver.specs.Memory.Table.{MARK, BLOCK, blocks, block_terms, is_set, term_kind, MarksAre, Announced, state, state_with, StateSound}
use Rattle.solver.specs.Memory.Work.{W_MARK, W_BLOCK, marks_size, work_size, marks_of, state_at, word_from, WorkSound, ShortSound, ClassAsked, ClassTable, CtorAsked, CheckSound, MarksAsked, LowestInBlock, LowestMarked}
use Rattle.solver.proofs.Memory.Flags.{has, flagged_same}
use Rattle.solver.proofs.Memory.Working.{listed, class_step, class_none}
use Rattle.solver.proofs.Memory.Beginning.{linked_here, not_here}

-- ---- the table that the solver's lends

lent_at : (s : List ℕ) (b x : ℕ) → b + x < marks_size → at (marks_of s) b x ≡ at s MARK (b + x)
unfolding at
lent_at s b x h = get_or-take marks_size (drop MARK s) (b + x) 0 h ∙ get_or-drop MARK s (b + x) 0

lent_mark : (s : List ℕ) (x : ℕ) → x < max_terms → at (marks_of s) W_MARK x ≡ at s MARK x
lent_mark s x h = lent_at s W_MARK x (omega arith) ∙ ap (at s MARK) (zero-add x)

lent_block : (s : List ℕ) (b : ℕ) → b < blocks → at (marks_of s) W_BLOCK b ≡ at s BLOCK b
unfolding at
lent_block s b h =
    let n : MARK + (W_BLOCK + b) ≡ BLOCK + b = omega arith in
    lent_at s W_BLOCK b (omega arith) ∙ ap (λ (k : ℕ). get_or s k 0) n

pub lent_sound : {c e s : List ℕ} → StateSound c e s → ShortSound c (marks_of s)
lent_sound {c} {e} {s} z =
    let l = z.solver.long in
    let n : length (marks_of s) ≡ marks_size = length-take-le marks_size (drop MARK s) (rw length-drop (omega arith)) in
    record {
      long = omega arith;
      short = omega arith;
      marks = λ x h. subst (λ (v : ℕ). (v ≡ 0) ⊎ (v ≡ term_kind (context c) x)) (sym (lent_mark s x h)) (z.marks x h);
      announced = λ x h m.
          ap is_set (lent_block s (x / block_terms) (omega arith)) ∙ z.announced x h (sym (lent_mark s x h) ∙ m);
    }

pub lent_view : (c e s : List ℕ) (lv : ℕ → ℕ) → state_at c e s (marks_of s) lv ≡ state c e s lv
lent_view c e s lv =
    ap (state_with c e s lv) (flagged_same s (marks_of s) MARK W_MARK 0 (λ x l h. ap is_set (lent_mark s x h)))

-- ---- one term

module _ (c e w : List ℕ) (x j : ℕ) (M : MarksAre (context c) w W_MARK) (h : j < max_terms) where
  step : word_from c e w x j ≡ cond (listed (context c) (merges e) x (has w W_MARK) j) (suc j) (word_from c e w x (suc j))
  step = class_step (context c) (merges e) w x j h

  -- a marked constructor application with the same root is the first
  step_found : at w W_MARK j ≡ 1 → find (merges e) x ≡ find (merges e) j → word_from c e w x j ≡ suc j
  step_found m r =
      step
      ∙ ap (λ (b : Bool). cond b (suc j) (word_from c e w x (suc j)))
      (linked_here c e w M x j h m ∙ eq-eqb (find (merges e) x) (find (merges e) j) r)

  -- one with another root is not in the class
  step_apart : at w W_MARK j ≡ 1 → (find (merges e) x ≡ find (merges e) j → ⊥) → word_from c e w x j ≡ word_from c e w x (suc j)
  step_apart m r =
      step
      ∙ ap (λ (b : Bool). cond b (suc j) (word_from c e w x (suc j)))
      (linked_here c e w M x j h m ∙ ne_eqb (find (merges e) x) (find (merges e) j) r)

  step_other : (at w W_MARK j ≡ 1 → ⊥) → word_from c e w x j ≡ word_from c e w x (suc j)
  step_other d =
      step ∙ ap (λ (b : Bool). cond b (suc j) (word_from c e w x (suc j))) (not_here c e w M x j h d)

-- ---- one block

-- the first i terms of block b were passed
pub record Blockwise (e w : List ℕ) (b root i : ℕ) : Type 0 where
  pub within : i ≤ block_terms
  pub passed : (c : List ℕ) (x : ℕ) → MarksAre (context c) w W_MARK → root ≡ find (merges e) x →
      word_from c e w x (b * block_terms) ≡ word_from c e w x (b * block_terms + i)

pub block_first : (e w : List ℕ) (b root : ℕ) → Blockwise e w b root 0
block_first e w b root = record {
  within = omega arith;
  passed = λ c x m r. ap (word_from c e w x) (sym (add-zero (b * block_terms)));
}

module _
    {e w : List ℕ} {b root i k : ℕ} (z : Blockwise e w b root i) (l : b < blocks) (h : i < block_terms)
    (q : k ≡ at w W_MARK (b * block_terms + i))
  where
    term : b * block_terms + i < max_terms
    term = omega arith

    next : suc (b * block_terms + i) ≡ b * block_terms + (i + 1)
    next = omega arith

    pub block_other : (k ≡ 1 → ⊥) → Blockwise e w b root (i + 1)
    block_other d = record {
      within = omega arith;
      passed = λ c x m r.
          z.passed c x m r ∙ step_other c e w x (b * block_terms + i) m term (λ p. d (q ∙ p)) ∙ ap (word_from c e w x) next;
    }

    module _ {other : ℕ} (g : k ≡ 1) (o : other ≡ find (merges e) (b * block_terms + i)) where
      pub block_apart : (other ≡ root → ⊥) → Blockwise e w b root (i + 1)
      block_apart d = record {
        within = omega arith;
        passed = λ c x m r.
            z.passed c x m r
            ∙ step_apart c e w x (b * block_terms + i) m term (sym q ∙ g) (λ p. d (o ∙ sym p ∙ sym r))
            ∙ ap (word_from c e w x) next;
      }

      pub block_found : other ≡ root → LowestInBlock e w b root (suc (b * block_terms + i))
      block_found d = record {
        is = λ c x m r.
            z.passed c x m r
            ∙ step_found c e w x (b * block_terms + i) m term (sym q ∙ g) (sym r ∙ sym d ∙ o)
            ∙ sym (ap (λ (t : Bool). cond t (word_from c e w x (b * block_terms + block_terms)) (suc (b * block_terms + i)))
            (ne_eqb (suc (b * block_terms + i)) 0 (omega arith)));
      }

pub block_done : {e w : List ℕ} {b root i : ℕ} → Blockwise e w b root i → block_terms ≤ i → LowestInBlock e w b root 0
block_done {e} {w} {b} {root} {i} z h =
    let l = z.within in
    let n : i ≡ block_terms = omega arith in
    record { is = λ c x m r. z.passed c x m r ∙ ap (λ (k : ℕ). word_from c e w x (b * block_terms + k)) n }

-- ---- all blocks

-- the blocks below b were passed
pub record Walked (e w : List ℕ) (root b : ℕ) : Type 0 where
  pub within : b ≤ blocks
  pub passed : (c : List ℕ) (x : ℕ) → MarksAre (context c) w W_MARK → root ≡ find (merges e) x →
      word_from c e w x 0 ≡ word_from c e w x (b * block_terms)

pub walked_first : (e w : List ℕ) (root : ℕ) → Walked e w root 0
walked_first e w root = record { within = omega arith; passed = λ c x m r. refl }

-- a block that announces no application has none
unannounced : (w : List ℕ) → Announced w W_MARK W_BLOCK → (b k : ℕ) → b < blocks → at w W_BLOCK b ≡ 0 → k < block_terms →
    at w W_MARK (b * block_terms + k) ≡ 1 → ⊥
unfolding is_set
unannounced w a b k l z h m =
    let n : (b * block_terms + k) / block_terms ≡ b = omega arith in
    let set = a (b * block_terms + k) (omega arith) m in
    true≢false (sym set ∙ ap (λ (j : ℕ). is_set (at w W_BLOCK j)) n ∙ ap is_set z)

next_block : (b : ℕ) → b * block_terms + block_terms ≡ (b + 1) * block_terms
next_block b = omega arith

module _ {e w : List ℕ} {root b : ℕ} (z : Walked e w root b) (l : b < blocks) where
  pub walked_empty : {word : ℕ} → Announced w W_MARK W_BLOCK → word ≡ at w W_BLOCK b → word ≡ 0 → Walked e w root (b + 1)
  walked_empty a q d = record {
    within = omega arith;
    passed = λ c x m r. z.passed c x m r ∙ skip c x m block_terms (omega arith) ∙ ap (word_from c e w x) (next_block b);
  }
    where
      skip : (c : List ℕ) (x : ℕ) → MarksAre (context c) w W_MARK → (k : ℕ) → k ≤ block_terms →
          word_from c e w x (b * block_terms) ≡ word_from c e w x (b * block_terms + k)
      skip c x m zero g = ap (word_from c e w x) (sym (add-zero (b * block_terms)))
      skip c x m (suc k) g =
          let n : suc (b * block_terms + k) ≡ b * block_terms + suc k = omega arith in
          skip c x m k (omega arith)
          ∙ step_other c e w x (b * block_terms + k) m (omega arith) (unannounced w a b k l (sym q ∙ d) (omega arith))
          ∙ ap (word_from c e w x) n

  module _ {word : ℕ} (L : LowestInBlock e w b root word) where
    pub walked_next : word ≡ 0 → Walked e w root (b + 1)
    walked_next d = record {
      within = omega arith;
      passed = λ c x m r.
          z.passed c x m r
          ∙ L.is c x m r
          ∙ ap (λ (t : Bool). cond t (word_from c e w x (b * block_terms + block_terms)) word) (eq-eqb word 0 d)
          ∙ ap (word_from c e w x) (next_block b);
    }

    pub walked_found : (word ≡ 0 → ⊥) → LowestMarked e w root word
    walked_found d = record {
      is = λ c x m r.
          sym (z.passed c x m r
          ∙ L.is c x m r
          ∙ ap (λ (t : Bool). cond t (word_from c e w x (b * block_terms + block_terms)) word) (ne_eqb word 0 d));
    }

pub walked_done : {e w : List ℕ} {root b : ℕ} → Walked e w root b → blocks ≤ b → LowestMarked e w root 0
walked_done {e} {w} {root} {b} z h = record {
  is = λ c x m r.
      sym (z.passed c x m r ∙ class_none (context c) (merges e) w x (b * block_terms) (λ y k g. absurd (omega arith)));
}

-- ---- the class, by either table

-- a table that is not whole is short
module _ {c e w : List ℕ} {x : ℕ} (z : CtorAsked c e w x) (h : length w < work_size) where
  short : ShortSound c w
  short = go z.table
    where
      go : ClassTable c e w → ShortSound c w
      go (inl s) = let l = s.long in absurd (omega arith)
      go (inr s) = s

  pub short_asked : MarksAsked e w × Announced w W_MARK W_BLOCK
  short_asked = (record { engine = z.engine; long = short.long }, short.announced)

  pub short_word : {root word : ℕ} → root ≡ find (merges e) x → LowestMarked e w root word → word ≡ word_from c e w x 0
  short_word p l = l.is c x short.marks p

-- a table that is not short is whole
pub whole_asked : {c e w : List ℕ} {x : ℕ} → CtorAsked c e w x → work_size ≤ length w → ClassAsked c e w x
whole_asked {c} {e} {w} z h =
    record { core = z.core; signed = z.signed; engine = z.engine; work = go z.table; is_node = z.is_node }
  where
    go : ClassTable c e w → WorkSound c e w
    go (inl s) = s
    go (inr s) = let l = s.short in absurd (omega arith)

-- in a check
pub in_check : {c e w : List ℕ} {x : ℕ} → ClassAsked c e w x → CtorAsked c e w x
in_check z = record { core = z.core; signed = z.signed; engine = z.engine; table = inl z.work; is_node = z.is_node }

pub check_asked : {c e s w : List ℕ} {x : ℕ} → CheckSound c e s w → x < max_terms → CtorAsked c e w x
check_asked z h =
    record { core = z.state.core; signed = z.state.signed; engine = z.state.engine; table = inl z.work; is_node = h }
