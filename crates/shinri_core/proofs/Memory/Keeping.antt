-- A table after some stores: what they leave of its sorts, symbols and terms, and when it is sound again.
use Rattle.shinri_core.proofs.Kit.{ℕ, ◌+◌, ◌-◌, ◌*◌, ◌/◌, ◌%◌, ◌≤◌, ◌<◌, ◌≡◌, refl, ap, ap₂, ◌∙◌, sym, List, dec_le, arith, T, length}
use Rattle.shinri_core.specs.Limits.{max_sorts, max_symbols, max_terms, max_places, max_params, table_words}
use Rattle.shinri_core.specs.Term.{Term}
use Rattle.shinri_core.specs.Memory.Words.{at, counted, stretch, clear_of, Kept}
use Rattle.shinri_core.specs.Memory.Table.{SORT, OWNER, RESULT, ARITY, PARAMS, OP, OFFSET, POOL, BUCKET, LINK, core_room, sorts#, symbols#, terms#, digit, node_of, role_of, op_of, sort_at, param_at, symbol_at, args_at, term_at, context, buckets, bucket, bucket_of, Indexed, SymbolSound, TermSound, IndexSound, ContextSound}
use Rattle.shinri_core.proofs.Memory.Counted.{counted_same, stretch_same}
use Rattle.shinri_core.proofs.Memory.Index.{indexed_same, found}
use Rattle.shinri_core.proofs.Memory.Views.{sorts_length, symbols_length, terms_length, offset_mono}

-- the words of the first n symbols, terms are in u what they are in t
pub record SymbolsKept (t u : List ℕ) (n : ℕ) : Type 0 where
  pub owner : (s : ℕ) → s < n → at u OWNER s ≡ at t OWNER s
  pub result : (s : ℕ) → s < n → at u RESULT s ≡ at t RESULT s
  pub arity : (s : ℕ) → s < n → at u ARITY s ≡ at t ARITY s
  pub params : (x : ℕ) → x < 4 * n → at u PARAMS x ≡ at t PARAMS x

pub record TermsKept (t u : List ℕ) (n : ℕ) : Type 0 where
  pub op : (i : ℕ) → i < n → at u OP i ≡ at t OP i
  pub offset : (i : ℕ) → i ≤ n → at u OFFSET i ≡ at t OFFSET i
  pub pool : (j : ℕ) → j < at t OFFSET n → at u POOL j ≡ at t POOL j

-- by the counts u may hold what a sound table t holds, but for its terms from n on, and more; it has m terms
pub record Grows (t u : List ℕ) (n m : ℕ) : Type 0 where
  pub long : table_words ≤ length u
  pub more_sorts : sorts# t ≤ sorts# u
  pub sorts_fit : sorts# u ≤ max_sorts
  pub more_symbols : symbols# t ≤ symbols# u
  pub symbols_fit : symbols# u ≤ max_symbols
  pub within : n ≤ terms# t
  pub count : terms# u ≡ m
  pub terms_fit : m ≤ max_terms
  pub places_fit : at u OFFSET m ≤ max_places

module _ (t u : List ℕ) (z : ContextSound t) where
  -- ---- symbols

  module _ (n s : ℕ) (m : n ≤ symbols# t) (k : SymbolsKept t u n) (h : s < n) where
    param_kept : (j : ℕ) → j < max_params → param_at u s j ≡ param_at t s j
    unfolding param_at
    param_kept j l = ap (λ (w : ℕ). digit w (j % 4)) (k.params (4 * s + j / 4) (omega arith))

    pub symbol_kept : symbol_at u s ≡ symbol_at t s
    unfolding symbol_at
    symbol_kept =
        let few = (z.symbols s (omega arith)).arity in
        let params : counted (param_at u s) (at u ARITY s) ≡ counted (param_at t s) (at t ARITY s) =
        ap (counted (param_at u s)) (k.arity s h)
        ∙ counted_same (param_at u s) (param_at t s) (at t ARITY s) (λ j l. param_kept j (omega arith)) in
        λ i. record { role = role_of s (k.owner s h i); params = params i; result = k.result s h i }

    symbol_sound : sorts# t ≤ sorts# u → SymbolSound u s
    symbol_sound g =
        let w = z.symbols s (omega arith) in
        let o = k.owner s h in
        let r = k.result s h in
        let a = k.arity s h in
        record {
          owner = omega arith;
          result = omega arith;
          arity = omega arith;
          param = λ j l. let e = param_kept j (omega arith) in let q = w.param j (omega arith) in omega arith;
        }

  -- ---- terms

  module _ (n i : ℕ) (m : n ≤ terms# t) (k : TermsKept t u n) (h : i < n) where
    pub term_kept : term_at u i ≡ term_at t i
    unfolding term_at args_at
    term_kept =
        let up = (z.terms i (omega arith)).rise in
        let top = offset_mono t z (i + 1) n (omega arith) m in
        let args : args_at u i ≡ args_at t i =
        ap₂ (λ (x y : ℕ). stretch u POOL x (y - x)) (k.offset i (omega arith)) (k.offset (i + 1) (omega arith))
        ∙ stretch_same t u POOL (at t OFFSET i) (at t OFFSET (i + 1) - at t OFFSET i) (λ j l g. k.pool j (omega arith)) in
        λ j. record { op = op_of (k.op i h j); args = args j }

    term_sound : symbols# t ≤ symbols# u → TermSound u i
    term_sound g =
        let w = z.terms i (omega arith) in
        let o = k.op i h in
        let a = k.offset i (omega arith) in
        let b = k.offset (i + 1) (omega arith) in
        let top = offset_mono t z (i + 1) n (omega arith) m in
        record {
          op = omega arith;
          rise = omega arith;
          lower = λ j l r. let p = k.pool j (omega arith) in let q = w.lower j (omega arith) (omega arith) in omega arith;
        }

  -- ---- the index of the first n terms

  module _ (n : ℕ) (m : n ≤ terms# t) (k : TermsKept t u n) where
    pub bucket_kept : (i : ℕ) → i < n → bucket_of u i ≡ bucket_of t i
    unfolding bucket_of term_at
    bucket_kept i h = ap₂ bucket (k.op i h) (ap (λ (x : Term). x.args) (term_kept n i m k h))

    pub once_kept : (i j : ℕ) → i < n → j < n → term_at u i ≡ term_at u j → i ≡ j
    once_kept i j h l e = z.index.once i j (omega arith) (omega arith) (sym (term_kept n i m k h) ∙ e ∙ term_kept n j m k l)

    -- it is sound by its heads, if the links are as they were
    pub index_kept : Indexed (bucket_of t) (at u BUCKET) (at t LINK) buckets n → ((i : ℕ) → i < n → at u LINK i ≡ at t LINK i) →
        IndexSound u n
    index_kept found links =
        let i = indexed_same found bucket_kept (λ h l. refl) links in
        record { heads = i.heads; links = i.links; once = once_kept }

  -- ---- the table and its view

  module _ (n m : ℕ) (g : Grows t u n m) (ys : SymbolsKept t u (symbols# t)) (ts : TermsKept t u n) where
    pub continued : ((s : ℕ) → symbols# t ≤ s → s < symbols# u → SymbolSound u s) → ((i : ℕ) → n ≤ i → i < m → TermSound u i) →
        IndexSound u m → ContextSound u
    continued new_symbols new_terms index =
        let c = g.count in
        record {
          long = g.long;
          sort_count = sorts_length u;
          symbol_count = symbols_length u;
          term_count = terms_length u;
          bool = omega arith;
          sorts_fit = g.sorts_fit;
          symbols_fit = g.symbols_fit;
          terms_fit = omega arith;
          symbols = λ s h. each_symbol s h (dec_le (symbols# t) s);
          start = ts.offset 0 (omega arith) ∙ z.start;
          terms = λ i h. each_term i (omega arith) (dec_le n i);
          places_fit = rw c g.places_fit;
          index = rw c index;
        }
      where
        each_symbol : (s : ℕ) → s < symbols# u → Dec (symbols# t ≤ s) → SymbolSound u s
        each_symbol s h (yes l) = new_symbols s l h
        each_symbol s h (no l) = symbol_sound (symbols# t) s (omega arith) ys (omega arith) g.more_sorts

        each_term : (i : ℕ) → i < m → Dec (n ≤ i) → TermSound u i
        each_term i h (yes l) = new_terms i l h
        each_term i h (no l) = term_sound n i g.within ts (omega arith) g.more_symbols

    -- nothing new
    pub continued_old : symbols# u ≡ symbols# t → m ≡ n → IndexSound u m → ContextSound u
    continued_old e q index = continued (λ s l h. absurd (omega arith)) (λ i l h. absurd (omega arith)) index

  pub symbols_view : symbols# u ≡ symbols# t → SymbolsKept t u (symbols# t) → (context u).symbols ≡ (context t).symbols
  unfolding context
  symbols_view e k =
      ap (counted (symbol_at u)) e
      ∙ counted_same (symbol_at u) (symbol_at t) (symbols# t) (λ s h. symbol_kept (symbols# t) s (omega arith) k h)

  pub terms_view : terms# u ≡ terms# t → TermsKept t u (terms# t) → (context u).terms ≡ (context t).terms
  unfolding context
  terms_view e k =
      ap (counted (term_at u)) e ∙ counted_same (term_at u) (term_at t) (terms# t) (λ i h. term_kept (terms# t) i (omega arith) k h)

  -- ---- stores in other regions

  module _ (ws : List ℕ) (k : Kept core_room ws t u) where
    pub sorts_view : T (clear_of core_room SORT ws) → sorts# u ≡ sorts# t → (context u).sorts ≡ (context t).sorts
    unfolding context sort_at
    sorts_view a e =
        let f = z.sorts_fit in
        ap (counted (sort_at u)) e
        ∙ counted_same (sort_at u) (sort_at t) (sorts# t) (λ s h. ap node_of (k.rest SORT s a (omega arith)))

    pub symbols_apart : T (clear_of core_room OWNER ws) → T (clear_of core_room RESULT ws) → T (clear_of core_room ARITY ws) →
        T (clear_of core_room PARAMS ws) → SymbolsKept t u (symbols# t)
    symbols_apart a b c d =
        let f = z.symbols_fit in
        record {
          owner = λ s h. k.rest OWNER s a (omega arith);
          result = λ s h. k.rest RESULT s b (omega arith);
          arity = λ s h. k.rest ARITY s c (omega arith);
          params = λ x h. k.rest PARAMS x d (omega arith);
        }

    pub terms_apart : (n : ℕ) → n ≤ terms# t → T (clear_of core_room OP ws) → T (clear_of core_room OFFSET ws) →
        T (clear_of core_room POOL ws) → TermsKept t u n
    terms_apart n m a b c =
        let f = z.terms_fit in
        let p = z.places_fit in
        let top = offset_mono t z n (terms# t) m (omega arith) in
        record {
          op = λ i h. k.rest OP i a (omega arith);
          offset = λ i h. k.rest OFFSET i b (omega arith);
          pool = λ j h. k.rest POOL j c (omega arith);
        }

    pub index_apart : TermsKept t u (terms# t) → T (clear_of core_room BUCKET ws) → T (clear_of core_room LINK ws) → IndexSound u (terms# t)
    index_apart ts a b =
        let f = z.terms_fit in
        index_kept (terms# t) (omega arith) ts
        (indexed_same (found z.index) (λ i h. refl) (λ h l. k.rest BUCKET h a (omega arith)) (λ i h. refl))
        (λ i h. k.rest LINK i b (omega arith))
