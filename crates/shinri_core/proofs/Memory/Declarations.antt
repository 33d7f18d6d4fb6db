-- Declarations: an empty table, terms given back, one more sort, one more symbol, a function, a constructor.
use Rattle.shinri_core.proofs.Kit.{ℕ, zero, suc, ◌+◌, ◌-◌, ◌*◌, ◌/◌, ◌%◌, ◌≤◌, ◌<◌, ◌≡◌, refl, sym, subst, ap, ◌∙◌, true, false, true≢false, List, [], ◌∷◌, ◌++◌, append_assoc, append-nil, add-one, zero-add, replicate, arith, le-leb, lt-leb, leb, length, get_or, take, drop, length-append, drop_of_length-le, drop-cons, take_all, take-take, length-take-le}
use lib.ListN.{length-replicate}
use Rattle.shinri_core.specs.Limits.{max_sorts, max_symbols, table_words}
use Rattle.shinri_core.specs.Lists.{range}
use Rattle.shinri_core.specs.Sort.{SortNode, BoolSort}
use Rattle.shinri_core.specs.Term.{Function, Symbol}
use Rattle.shinri_core.specs.Context.{Context, empty_context, with_symbols, declare_sort, declare_fun, selectors_from, constructor_symbols, dt_add_constructor, cut_terms, declarations_fit}
use Rattle.shinri_core.specs.Memory.Words.{at, put, put_all, Kept, counted}
use Rattle.shinri_core.specs.Memory.Table.{COUNTS, SORTS, SYMBOLS, TERMS, SORT, OWNER, RESULT, ARITY, PARAMS, OP, OFFSET, BUCKET, LINK, core_room, sorts#, symbols#, terms#, digit, packed, packed_words, node_of, role_of, sort_at, param_at, symbol_at, term_at, context, buckets, bucket_of, newest, Indexed, AllBelow, SymbolSound, ContextSound, MayDeclare, SymbolRoom, SymbolAdded, SelectorRoom, SymbolsAdded, NoTerms}
use Rattle.shinri_core.specs.Memory.Codes.{Declares}
use Rattle.std.specs.Prelude.{Ok, Err}
use Rattle.shinri_core.proofs.Lists.{and_no, zeros}
use Rattle.shinri_core.proofs.Symbols.{constructor_count}
use Rattle.shinri_core.proofs.Memory.Counted.{counted_same, counted_cut, counted_grown, counted_list}
use Rattle.shinri_core.proofs.Memory.Stores.{other_place}
use Rattle.shinri_core.proofs.Memory.Regions.{stores, all_long, all_same}
use Rattle.shinri_core.proofs.Memory.Index.{indexed_less, found}
use Rattle.shinri_core.proofs.Memory.Codes.{digit_packed, ctor_role, tester_role, selector_role}
use Rattle.shinri_core.proofs.Memory.Views.{sorts_length, symbols_length, terms_length, offset_mono}
use Rattle.shinri_core.proofs.Memory.Keeping.{SymbolsKept, continued, continued_old, symbol_kept, term_kept, sorts_view, symbols_view, terms_view, symbols_apart, terms_apart, index_kept, index_apart}

-- ---- an empty table

record Cleared (u : List ℕ) : Type 0 where
  long : table_words ≤ length u
  sorts : sorts# u ≡ 1
  symbols : symbols# u ≡ 0
  terms : terms# u ≡ 0
  bool : at u SORT 0 ≡ 0
  start : at u OFFSET 0 ≡ 0
  heads : (h : ℕ) → h < buckets → at u BUCKET h ≡ 0

cleared_sound : (u : List ℕ) → Cleared u → ContextSound u
unfolding newest
cleared_sound u c = record {
  long = c.long;
  sort_count = sorts_length u;
  symbol_count = symbols_length u;
  term_count = terms_length u;
  bool = omega arith;
  sorts_fit = omega arith;
  symbols_fit = omega arith;
  terms_fit = omega arith;
  symbols = λ s h. absurd (omega arith);
  start = c.start;
  terms = λ i h. absurd (omega arith);
  places_fit = rw c.terms (omega arith);
  index = rw c.terms (record {
    heads = c.heads;
    links = λ i h. absurd (omega arith);
    once = λ i j h l e. absurd (omega arith);
  });
}

cleared_view : (u : List ℕ) → Cleared u → context u ≡ empty_context
unfolding context empty_context counted range sort_at node_of
cleared_view u c =
    let sorts : counted (sort_at u) (sorts# u) ≡ BoolSort ∷ [] =
    ap (counted (sort_at u)) c.sorts ∙ ap (λ (x : ℕ). node_of x ∷ []) c.bool in
    let symbols : counted (symbol_at u) (symbols# u) ≡ [] = ap (counted (symbol_at u)) c.symbols in
    let terms : counted (term_at u) (terms# u) ≡ [] = ap (counted (term_at u)) c.terms in
    λ i. record { sorts = sorts i; symbols = symbols i; terms = terms i }

pub cleared : {t t₁ t₂ t₃ t₄ u : List ℕ} → NoTerms t → t₁ ≡ put t COUNTS SORTS 1 → t₂ ≡ put t₁ COUNTS SYMBOLS 0 →
    t₃ ≡ put t₂ COUNTS TERMS 0 → t₄ ≡ put t₃ SORT 0 0 → u ≡ put t₄ OFFSET 0 0 → ContextSound u × (context u ≡ empty_context)
cleared {t} {u} a e₁ e₂ e₃ e₄ e₅ =
    let l : table_words ≤ length t = a.long in
    let in_buckets : (h : ℕ) → h < buckets → h < 1024 = omega arith in
    let c : Cleared u = search (e₅, e₄, e₃, e₂, e₁, stores, a.heads) depth 9 in
    (cleared_sound u c, cleared_view u c)

-- each bucket is set to 0
pub buckets_cleared : (t u : List ℕ) → u ≡ put_all t BUCKET 0 (replicate buckets 0) → table_words ≤ length t → NoTerms u
buckets_cleared t u e l =
    let n = length-replicate {A = ℕ} buckets 0 in
    let m : buckets ≤ 1024 = omega arith in
    rw e (record { long = all_long t BUCKET 0 (replicate buckets 0) l; heads = λ h g. zero_there h g })
  where
    zero_there : (h : ℕ) → h < buckets → at (put_all t BUCKET 0 (replicate buckets 0)) BUCKET h ≡ 0
    zero_there h g =
        let n = length-replicate {A = ℕ} buckets 0 in
        ap (at (put_all t BUCKET 0 (replicate buckets 0)) BUCKET) (sym (zero-add h))
        ∙ all_same t BUCKET 0 (replicate buckets 0) h tt l (omega arith) (omega arith)
        ∙ zeros buckets h

-- ---- terms taken back

pub last_code : (i : ℕ) {t : List ℕ} {code : ℕ} → ContextSound t → terms# t ≡ i + 1 → code ≡ at t OP i → code < buckets
last_code i z n e = let s = z.terms i (omega arith) in omega arith

pub dropped : (i : ℕ) {t : List ℕ} {h o : ℕ} {t₁ u : List ℕ} → ContextSound t → terms# t ≡ i + 1 → h ≡ bucket_of t i → h < buckets →
    o ≡ at t LINK i →
    t₁ ≡ put t BUCKET h o → u ≡ put t₁ COUNTS TERMS i → ContextSound u × (context u ≡ cut_terms i (context t))
unfolding cut_terms context
dropped i {t} {h} {o} {t₁} {u} z n b d q e₁ e₂ =
    let l : table_words ≤ length t = z.long in
    let f : h < 1024 = omega arith in
    let m : i ≤ terms# t = omega arith in
    let written = COUNTS ∷ BUCKET ∷ [] in
    let k : Kept core_room written t u = rw (e₂, e₁) (search stores depth 9) in
    let long : table_words ≤ length u = search (e₂, e₁, stores) in
    let s : sorts# u ≡ sorts# t = search (e₂, e₁, stores) in
    let y : symbols# u ≡ symbols# t = search (e₂, e₁, stores) in
    let c : terms# u ≡ i = search (e₂, e₁, stores) in
    let head : at u BUCKET h ≡ o = search (e₂, e₁, stores) in
    let heads : (x : ℕ) → x < 1024 → (x ≡ h → ⊥) → at u BUCKET x ≡ at t BUCKET x = λ x g p. search (e₂, e₁, stores, other_place) in
    let ts = terms_apart t u z written k i m tt tt tt in
    let ys = symbols_apart t u z written k tt tt tt tt in
    let top = offset_mono t z i (terms# t) m (omega arith) in
    let end = ts.offset i (omega arith) in
    let index =
    index_kept t u z i m ts
    (indexed_less (subst (Indexed (bucket_of t) (at t BUCKET) (at t LINK) buckets) (n ∙ add-one i) (found z.index)) (rw (← b) d)
    (ap (at u BUCKET) (sym b) ∙ head ∙ q) (λ x g p. heads x (omega arith) (λ r. p (r ∙ b))))
    (λ j g. k.rest LINK j tt (omega arith)) in
    let sorts = sorts_view t u z written k tt s in
    let symbols = symbols_view t u z y ys in
    let terms : counted (term_at u) (terms# u) ≡ take i (counted (term_at t) (terms# t)) =
    ap (counted (term_at u)) c
    ∙ counted_same (term_at u) (term_at t) i (λ j g. term_kept t u z i j m ts g)
    ∙ sym (counted_cut (term_at t) (terms# t) i m) in
    (continued_old t u z i i (omega arith) ys ts y refl index, λ j. record { sorts = sorts j; symbols = symbols j; terms = terms j })

-- the terms from i on are taken back
pub record Dropping (t₀ : List ℕ) (n : ℕ) (t : List ℕ) (i : ℕ) : Type 0 where
  pub sound : ContextSound t
  pub above : n ≤ i
  pub count : i ≡ terms# t
  pub view : context t ≡ cut_terms i (context t₀)
  pub long : length t ≡ length t₀

pub drop_first : {t : List ℕ} {n i : ℕ} → ContextSound t → n ≤ length (context t).terms → i ≡ terms# t → Dropping t n t i
unfolding cut_terms
drop_first {t} {n} {i} z h e =
    let all = sym (take_all i (context t).terms (omega arith)) in
    record {
      sound = z;
      above = omega arith;
      count = e;
      view = λ j. record { sorts = (context t).sorts; symbols = (context t).symbols; terms = all j };
      long = refl;
    }

pub drop_next : {t₀ : List ℕ} {n : ℕ} {t : List ℕ} {i : ℕ} {u : List ℕ} → Dropping t₀ n t i → n < i → length u ≡ length t →
    ContextSound u → context u ≡ cut_terms (i - 1) (context t) → Dropping t₀ n u (i - 1)
unfolding cut_terms
drop_next {t₀} {t = t} {i} {u} d h l z v =
    let j = i - 1 in
    let c = d.count in
    let long = d.long in
    let n₀ = ap (λ (x : Context). length x.terms) v in
    let n₁ = length-take-le j (context t).terms (let y = terms_length t in omega arith) in
    let n₂ = terms_length u in
    let fewer = take-take j i (context t₀).terms (omega arith) in
    record {
      sound = z;
      above = omega arith;
      count = omega arith;
      view =
          v
          ∙ ap (cut_terms j) d.view
          ∙ (λ k. record { sorts = (context t₀).sorts; symbols = (context t₀).symbols; terms = fewer k });
      long = omega arith;
    }

pub drop_done : {t₀ : List ℕ} {n : ℕ} {t : List ℕ} {i : ℕ} → Dropping t₀ n t i → i ≤ n →
    ContextSound t × (context t ≡ cut_terms n (context t₀))
drop_done {n = n} {i = i} d h = let a = d.above in let e : n ≡ i = omega arith in (d.sound, rw e d.view)

-- ---- whether declarations fit

refused : (t : List ℕ) (cx : Context) → ContextSound t → declarations_fit cx ≡ false → Declares t cx (Err (record {})) t
refused t cx z b = record { sound = z; answer = rw b; view = rw b; unchanged = λ q. refl }

accepted : (t : List ℕ) (cx : Context) (u : List ℕ) → ContextSound u → context u ≡ cx → Declares t cx (Ok tt) u
unfolding declarations_fit
accepted t cx u z e =
    let s = ap (λ (x : Context). length x.sorts) e in
    let y = ap (λ (x : Context). length x.symbols) e in
    let p = le-leb (length cx.sorts) max_sorts (omega arith) in
    let b : declarations_fit cx ≡ true = rw (p, le-leb (length cx.symbols) max_symbols (omega arith)) in
    record { sound = z; answer = rw b; view = rw b e; unchanged = λ q. absurd (true≢false (sym b ∙ q)) }

-- ---- one more sort

pub no_more_sorts : {t : List ℕ} {n : ℕ} (node : SortNode) → ContextSound t → n ≡ sorts# t → n ≡ max_sorts →
    Declares t (declare_sort (context t) node) (Err (record {})) t
unfolding declare_sort declarations_fit
no_more_sorts {t} {n} node z e q =
    let m = length-append (context t).sorts (node ∷ []) in
    refused t (declare_sort (context t) node) z (rw (lt-leb (length ((context t).sorts ++ (node ∷ []))) max_sorts (omega arith)))

pub sort_declared : (v : ℕ) {t : List ℕ} {n : ℕ} {node : SortNode} {t₁ u : List ℕ} → ContextSound t → n ≡ sorts# t → (n ≡ max_sorts → ⊥) →
    node_of v ≡ node → t₁ ≡ put t SORT n v → u ≡ put t₁ COUNTS SORTS (n + 1) →
    Declares t (declare_sort (context t) node) (Ok tt) u
unfolding context declare_sort sort_at
sort_declared v {t} {n} {node} {t₁} {u} z e q p e₁ e₂ =
    let l : table_words ≤ length t = z.long in
    let f = z.sorts_fit in
    let r : n < max_sorts = omega arith in
    let k : Kept core_room (COUNTS ∷ SORT ∷ []) t u = rw (e₂, e₁) (search stores depth 9) in
    let long : table_words ≤ length u = search (e₂, e₁, stores) in
    let s : sorts# u ≡ n + 1 = search (e₂, e₁, stores) in
    let y : symbols# u ≡ symbols# t = search (e₂, e₁, stores) in
    let m : terms# u ≡ terms# t = search (e₂, e₁, stores) in
    let w : at u SORT n ≡ v = search (e₂, e₁, stores) in
    let ts = terms_apart t u z (COUNTS ∷ SORT ∷ []) k (terms# t) (omega arith) tt tt tt in
    let ys = symbols_apart t u z (COUNTS ∷ SORT ∷ []) k tt tt tt tt in
    let b = ts.offset (terms# t) (omega arith) in
    let sorts : counted (sort_at u) (sorts# u) ≡ counted (sort_at t) (sorts# t) ++ (node ∷ []) =
    counted_grown (sort_at t) (sort_at u) (sorts# t) (sorts# u) node (omega arith)
    (λ i h. let j : i < n = omega arith in let o : i < max_sorts = omega arith in ap node_of (search (e₂, e₁, stores)))
    (ap (λ (x : ℕ). node_of (at u SORT x)) (sym e) ∙ ap node_of w ∙ p) in
    let symbols = symbols_view t u z y ys in
    let terms = terms_view t u z m ts in
    let index = index_apart t u z (COUNTS ∷ SORT ∷ []) k ts tt tt in
    accepted t (declare_sort (context t) node) u (continued_old t u z (terms# t) (terms# t) (omega arith) ys ts y refl index)
    (λ i. record { sorts = sorts i; symbols = symbols i; terms = terms i })

-- ---- one more symbol

-- what its stores leave
record SymbolWritten (t : List ℕ) (n owner result : ℕ) (params u : List ℕ) : Type 0 where
  long : table_words ≤ length u
  sorts : sorts# u ≡ sorts# t
  count : symbols# u ≡ n + 1
  terms : terms# u ≡ terms# t
  owned : at u OWNER n ≡ owner
  results : at u RESULT n ≡ result
  arity : at u ARITY n ≡ length params
  packs : (q : ℕ) → q < 4 → at u PARAMS (4 * n + q) ≡ get_or (packed_words params) q 0
  symbols : SymbolsKept t u n
  kept : Kept core_room (COUNTS ∷ OWNER ∷ RESULT ∷ ARITY ∷ PARAMS ∷ []) t u

module _ {t : List ℕ} {n owner result : ℕ} {params u : List ℕ}
    (a : SymbolRoom t n owner result params) (w : SymbolWritten t n owner result params u) where
  written_param : (j : ℕ) → j < length params → param_at u n j ≡ get_or params j 0
  unfolding param_at
  written_param j h =
      let f = a.few in
      ap (λ (x : ℕ). digit x (j % 4)) (w.packs (j / 4) (omega arith)) ∙ digit_packed params a.small j (omega arith)

  new_symbol : symbol_at u n ≡ record { role = role_of n owner; params = params; result = result }
  unfolding symbol_at
  new_symbol =
      let is = counted_list (param_at u n) (at u ARITY n) params w.arity written_param in
      λ i. record { role = role_of n (w.owned i); params = is i; result = w.results i }

  new_symbol_sound : SymbolSound u n
  new_symbol_sound =
      record {
        owner = omega arith;
        result = omega arith;
        arity = omega arith;
        param = λ j h. let p = written_param j (omega arith) in let q = a.sorts j (omega arith) in omega arith;
      }

  symbol_added : SymbolAdded t n owner result params u
  unfolding context with_symbols
  symbol_added =
      let z = a.sound in
      let written = COUNTS ∷ OWNER ∷ RESULT ∷ ARITY ∷ PARAMS ∷ [] in
      let ts = terms_apart t u z written w.kept (terms# t) (omega arith) tt tt tt in
      let ys : SymbolsKept t u (symbols# t) = rw (← a.next) w.symbols in
      let b = ts.offset (terms# t) (omega arith) in
      let new : Symbol = record { role = role_of n owner; params = params; result = result } in
      let sorts = sorts_view t u z written w.kept tt w.sorts in
      let symbols : counted (symbol_at u) (symbols# u) ≡ counted (symbol_at t) (symbols# t) ++ (new ∷ []) =
      counted_grown (symbol_at t) (symbol_at u) (symbols# t) (symbols# u) new (omega arith)
      (λ i h. symbol_kept t u z (symbols# t) i (omega arith) ys h) (ap (symbol_at u) (sym a.next) ∙ new_symbol) in
      let terms = terms_view t u z w.terms ts in
      record {
        sound =
            continued t u z (terms# t) (terms# t) (omega arith) ys ts (λ i h j. let e : i ≡ n = omega arith in rw e new_symbol_sound)
            (λ i h j. absurd (omega arith)) (index_apart t u z written w.kept ts tt tt);
        view = λ i. record { sorts = sorts i; symbols = symbols i; terms = terms i };
      }

module _ {t : List ℕ} {n owner result : ℕ} {params : List ℕ} {w₀ w₁ w₂ w₃ : ℕ} {t₁ t₂ t₃ t₄ u : List ℕ}
    (a : SymbolRoom t n owner result params) where
  pub add_symbol : w₀ ≡ packed params 0 → w₁ ≡ packed params 1 → w₂ ≡ packed params 2 → w₃ ≡ packed params 3 →
      t₁ ≡ put_all t PARAMS (4 * n) (w₀ ∷ w₁ ∷ w₂ ∷ w₃ ∷ []) → t₂ ≡ put t₁ OWNER n owner → t₃ ≡ put t₂ RESULT n result →
      t₄ ≡ put t₃ ARITY n (length params) → u ≡ put t₄ COUNTS SYMBOLS (n + 1) → SymbolAdded t n owner result params u
  unfolding packed_words
  add_symbol p₀ p₁ p₂ p₃ e₁ e₂ e₃ e₄ e₅ =
      let e : t₁ ≡ put_all t PARAMS (4 * n) (packed_words params) = e₁ ∙ rw (p₀, p₁, p₂, p₃) in
      let l : table_words ≤ length t = a.sound.long in
      let r : n < max_symbols = a.room in
      let p : 4 * n + 4 ≤ 2048 = omega arith in
      let in_symbols : (s : ℕ) → s < n → s < max_symbols = omega arith in
      let in_params : (x : ℕ) → x < 4 * n → x < 2048 = omega arith in
      let in_own : (q : ℕ) → q < 4 → 4 * n + q < 2048 = omega arith in
      let w : SymbolWritten t n owner result params u = search (e₅, e₄, e₃, e₂, e, stores) depth 9 in
      symbol_added a w

-- ---- symbols at the end

with_both : (cx : Context) (xs ys : List Symbol) → with_symbols (with_symbols cx xs) ys ≡ with_symbols cx (xs ++ ys)
unfolding with_symbols
with_both cx xs ys = λ i. record { sorts = cx.sorts; symbols = append_assoc cx.symbols xs ys i; terms = cx.terms }

with_none : (cx : Context) → with_symbols cx [] ≡ cx
unfolding with_symbols
with_none cx = λ i. record { sorts = cx.sorts; symbols = append-nil cx.symbols i; terms = cx.terms }

-- how the counts move
record Counts (t u : List ℕ) (more : ℕ) : Type 0 where
  symbols : symbols# u ≡ symbols# t + more
  sorts : sorts# u ≡ sorts# t

counts : (t u : List ℕ) (new : List Symbol) → context u ≡ with_symbols (context t) new → Counts t u (length new)
unfolding with_symbols
counts t u new e =
    let a = symbols_length t in
    let b = symbols_length u in
    let c = length-append (context t).symbols new in
    let d = ap (λ (x : Context). length x.symbols) e in
    record { symbols = omega arith; sorts = sym (sorts_length u) ∙ ap (λ (x : Context). length x.sorts) e ∙ sorts_length t }

too_many : (t : List ℕ) (new : List Symbol) → max_symbols < symbols# t + length new → ContextSound t →
    Declares t (with_symbols (context t) new) (Err (record {})) t
unfolding with_symbols declarations_fit
too_many t new h z =
    let l = length-append (context t).symbols new in
    refused t (with_symbols (context t) new) z
    (rw (lt-leb (length ((context t).symbols ++ new)) max_symbols (omega arith)) (and_no (leb (length (context t).sorts) max_sorts)))

-- room for one symbol, by what the view has
symbol_room : {t : List ℕ} {n owner result : ℕ} {params : List ℕ} → MayDeclare t result params → n ≡ symbols# t → n < max_symbols →
    owner ≤ n + 1 → SymbolRoom t n owner result params
symbol_room a e r o =
    let z = a.sound in
    record {
      sound = z;
      next = e;
      room = r;
      owned = o;
      declared = let d = a.declared in omega arith;
      few = a.few;
      sorts = λ j l. let s = a.sorts j l in omega arith;
      small = λ j l. let s = a.sorts j l in omega arith;
    }

-- room for one of a single parameter
single_room : (t : List ℕ) (n owner result dt : ℕ) → ContextSound t → n ≡ symbols# t → n < max_symbols → owner ≤ n + 1 →
    result < sorts# t → dt < sorts# t → SymbolRoom t n owner result (dt ∷ [])
single_room t n owner result dt z e r o d q =
    let small = only max_sorts (omega arith) in
    record { sound = z; next = e; room = r; owned = o; declared = d; few = omega arith; sorts = only (sorts# t) q; small = small }
  where
    only : (m : ℕ) → dt < m → AllBelow m (dt ∷ [])
    only m h zero l = h
    only m h (suc j) l = absurd (omega arith)

-- ---- a function

module _ {t : List ℕ} {n result : ℕ} {params : List ℕ} (a : MayDeclare t result params) (e : n ≡ symbols# t) where
  pub no_function : n ≡ max_symbols → Declares t (declare_fun (context t) result params) (Err (record {})) t
  unfolding declare_fun
  no_function q = too_many t (record { role = Function; params = params; result = result } ∷ []) (omega arith) a.sound

  pub function_room : (n ≡ max_symbols → ⊥) → SymbolRoom t n 0 result params
  function_room q = let z = a.sound in symbol_room a e (omega arith) (omega arith)

pub function_added : {t : List ℕ} {n result : ℕ} {params u : List ℕ} → SymbolAdded t n 0 result params u →
    Declares t (declare_fun (context t) result params) (Ok tt) u
unfolding declare_fun role_of
function_added {t} {result = result} {params} {u} a = accepted t (declare_fun (context t) result params) u a.sound a.view

-- ---- selectors

-- i selectors are added, and adding the others to the table as it is now gives them all
pub record Selecting (t₀ : List ℕ) (c dt : ℕ) (fields t : List ℕ) (i : ℕ) : Type 0 where
  pub within : i ≤ length fields
  pub long : length t ≡ length t₀
  pub sound : ContextSound t
  pub count : symbols# t ≡ c + 2 + i
  pub sorts : sorts# t ≡ sorts# t₀
  pub rest : with_symbols (context t) (selectors_from c dt i (drop i fields)) ≡ with_symbols (context t₀) (selectors_from c dt 0 fields)

module _ {t₀ : List ℕ} {c dt : ℕ} {fields : List ℕ} where
  pub select_first : SelectorRoom t₀ c dt fields → Selecting t₀ c dt fields t₀ 0
  select_first a =
      let e = a.next in record { within = omega arith; long = refl; sound = a.sound; count = omega arith; sorts = refl; rest = refl }

  module _ {t : List ℕ} {i : ℕ} (s : Selecting t₀ c dt fields t i) where
    pub selector_room : SelectorRoom t₀ c dt fields → i < length fields → SymbolRoom t (c + 2 + i) (c + 1) (get_or fields i 0) (dt ∷ [])
    selector_room a h =
        let g = a.sorts i h in
        let e = s.sorts in
        let n = s.count in
        let m = a.room in
        let d = a.declared in
        single_room t (c + 2 + i) (c + 1) (get_or fields i 0) dt s.sound
        (omega arith) (omega arith) (omega arith) (omega arith) (omega arith)

    select_rest : (u : List ℕ) → i < length fields → SymbolAdded t (c + 2 + i) (c + 1) (get_or fields i 0) (dt ∷ []) u →
        with_symbols (context u) (selectors_from c dt (i + 1) (drop (i + 1) fields))
        ≡ with_symbols (context t₀) (selectors_from c dt 0 fields)
    unfolding selectors_from
    select_rest u h a =
        let p : i + 1 ≡ suc i = omega arith in
        let r = s.rest in
        rw (p, a.view, with_both, selector_role c i) (rw (drop-cons fields i 0 h) at r)

    pub select_next : {u : List ℕ} → i < length fields → length u ≡ length t →
        SymbolAdded t (c + 2 + i) (c + 1) (get_or fields i 0) (dt ∷ []) u → Selecting t₀ c dt fields u (i + 1)
    select_next {u} h l a =
        let n = counts t u (record { role = role_of (c + 2 + i) (c + 1); params = dt ∷ []; result = get_or fields i 0 } ∷ []) a.view in
        let e = s.count in
        let o = s.sorts in
        let m = s.long in
        record {
          within = omega arith;
          long = omega arith;
          sound = a.sound;
          count = omega arith;
          sorts = omega arith;
          rest = select_rest u h a;
        }

    pub select_done : length fields ≤ i → SymbolsAdded t₀ (selectors_from c dt 0 fields) t
    unfolding selectors_from
    select_done h = record {
      sound = s.sound;
      view =
          sym (with_none (context t))
          ∙ sym (ap (λ (xs : List ℕ). with_symbols (context t) (selectors_from c dt i xs)) (drop_of_length-le fields h))
          ∙ s.rest;
    }

-- ---- a constructor

module _ {t : List ℕ} {n dt : ℕ} {fields : List ℕ} (m : MayDeclare t dt fields) (e : n ≡ symbols# t) where
  pub no_constructor : max_symbols - n < length fields + 2 →
      Declares t (dt_add_constructor (context t) dt fields) (Err (record {})) t
  unfolding dt_add_constructor
  no_constructor h =
      let l = constructor_count (length (context t).symbols) dt fields in
      too_many t (constructor_symbols (length (context t).symbols) dt fields) (omega arith) m.sound

  pub constructor_room : length fields + 2 ≤ max_symbols - n → SymbolRoom t n (n + 1) dt fields
  constructor_room h = symbol_room m e (omega arith) (omega arith)

-- its symbols one after the other: itself, its tester, its selectors
module _ {t : List ℕ} {n dt : ℕ} {fields t₁ : List ℕ} (e : n ≡ symbols# t) (a : SymbolAdded t n (n + 1) dt fields t₁) where
  module _ (m : MayDeclare t dt fields) (h : length fields + 2 ≤ max_symbols - n) where
    after_ctor : Counts t t₁ 1
    after_ctor = counts t t₁ (record { role = role_of n (n + 1); params = fields; result = dt } ∷ []) a.view

    pub tester_room : SymbolRoom t₁ (n + 1) (n + 1) 0 (dt ∷ [])
    tester_room =
        let c = after_ctor in
        let z = m.sound in
        let d = m.declared in
        let b = a.sound.bool in
        single_room t₁ (n + 1) (n + 1) 0 dt a.sound (omega arith) (omega arith) (omega arith) b (omega arith)

    pub selectors_room : {t₂ : List ℕ} → SymbolAdded t₁ (n + 1) (n + 1) 0 (dt ∷ []) t₂ → SelectorRoom t₂ n dt fields
    selectors_room {t₂} b =
        let c = after_ctor in
        let g = counts t₁ t₂ (record { role = role_of (n + 1) (n + 1); params = dt ∷ []; result = 0 } ∷ []) b.view in
        let z = m.sound in
        let d = m.declared in
        record {
          sound = b.sound;
          next = omega arith;
          room = omega arith;
          declared = omega arith;
          sorts = λ j l. let q = m.sorts j l in omega arith;
        }

  pub constructor_added : {t₂ u : List ℕ} → SymbolAdded t₁ (n + 1) (n + 1) 0 (dt ∷ []) t₂ →
      SymbolsAdded t₂ (selectors_from n dt 0 fields) u →
      Declares t (dt_add_constructor (context t) dt fields) (Ok tt) u
  unfolding dt_add_constructor constructor_symbols
  constructor_added {u = u} b c =
      accepted t (dt_add_constructor (context t) dt fields) u c.sound
      (c.view ∙ rw (b.view, a.view, with_both, with_both, ctor_role n, tester_role n, symbols_length t, ← e))
