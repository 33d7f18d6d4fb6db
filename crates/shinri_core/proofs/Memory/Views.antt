-- What a table means, by its words: the counts, and the sort, the symbol and the term of each number.
use Rattle.shinri_core.proofs.Kit.{ℕ, zero, suc, ◌+◌, ◌-◌, ◌*◌, ◌/◌, ◌%◌, ◌≤◌, ◌<◌, ◌≡◌, refl, sym, ap, ap₂, ◌∙◌, subst, List, arith, ne_eqb, eqb, length, get_or, take, drop}
use Rattle.shinri_core.specs.Limits.{max_places, max_params}
use Rattle.shinri_core.specs.Sort.{BoolSort, is_datatype}
use Rattle.shinri_core.specs.Term.{Symbol, Term}
use Rattle.shinri_core.specs.Context.{sort_node, is_datatype_sort, no_symbol, symbol, no_term, term, children}
use Rattle.shinri_core.specs.Memory.Words.{at, counted, stretch}
use Rattle.shinri_core.specs.Memory.Table.{SORT, OWNER, RESULT, ARITY, PARAMS, OP, OFFSET, POOL, sorts#, symbols#, terms#, node_of, digit, role_of, op_of, sort_at, param_at, symbol_at, args_at, term_at, context, bucket, bucket_of, ContextSound, HasParam}
use Rattle.shinri_core.specs.Memory.Codes.{op_meaning, role_meaning, OpBelow, RoleBelow, OpAt, RoleAt}
use Rattle.shinri_core.specs.declared.term.Op as Op
use Rattle.shinri_core.specs.declared.term.DtRole as DtRole
use Rattle.shinri_core.proofs.Memory.Codes.{op_below, role_below}
use Rattle.shinri_core.proofs.Memory.Counted.{counted_length, counted_at, part_is_stretch}

module _ (t : List ℕ) where
  -- ---- counts

  pub sorts_length : length (context t).sorts ≡ sorts# t
  unfolding context
  sorts_length = counted_length (sort_at t) (sorts# t)

  pub symbols_length : length (context t).symbols ≡ symbols# t
  unfolding context
  symbols_length = counted_length (symbol_at t) (symbols# t)

  pub terms_length : length (context t).terms ≡ terms# t
  unfolding context
  terms_length = counted_length (term_at t) (terms# t)

  -- a number that names something in the view names it in the table
  symbols_below : (s : ℕ) → s < length (context t).symbols → s < symbols# t
  symbols_below s h = let e = symbols_length in omega arith

  terms_below : (x : ℕ) → x < length (context t).terms → x < terms# t
  terms_below x h = let e = terms_length in omega arith

  -- ---- sorts

  is_one : (w : ℕ) → eqb w 1 ≡ is_datatype (node_of w)
  unfolding node_of is_datatype
  is_one zero = refl
  is_one (suc zero) = refl
  is_one (suc (suc w)) = ne_eqb (suc (suc w)) 1 (omega arith)

  pub datatype_word : (s r : ℕ) → s < sorts# t → r ≡ at t SORT s → eqb r 1 ≡ is_datatype_sort (context t) s
  unfolding is_datatype_sort sort_node context sort_at
  datatype_word s r h e =
      ap (λ (x : ℕ). eqb x 1) e ∙ is_one (at t SORT s) ∙ ap is_datatype (sym (counted_at (sort_at t) (sorts# t) s BoolSort h))

  -- ---- symbols

  pub symbol_is : (s : ℕ) → s < symbols# t → symbol (context t) s ≡ symbol_at t s
  unfolding context symbol
  symbol_is s h = counted_at (symbol_at t) (symbols# t) s no_symbol h

  module _ (s : ℕ) (h : s < symbols# t) where
    pub role_is : role_of s (at t OWNER s) ≡ (symbol (context t) s).role
    unfolding symbol_at
    role_is = ap (λ (x : Symbol). x.role) (sym (symbol_is s h))

    pub result_is : at t RESULT s ≡ (symbol (context t) s).result
    unfolding symbol_at
    result_is = ap (λ (x : Symbol). x.result) (sym (symbol_is s h))

    pub params_are : (symbol (context t) s).params ≡ counted (param_at t s) (at t ARITY s)
    unfolding symbol_at
    params_are = ap (λ (x : Symbol). x.params) (symbol_is s h)

    arity_is : at t ARITY s ≡ length (symbol (context t) s).params
    arity_is = sym (ap length params_are ∙ counted_length (param_at t s) (at t ARITY s))

    pub param_is : (i : ℕ) → i < at t ARITY s → param_at t s i ≡ get_or (symbol (context t) s).params i 0
    param_is i l = sym (ap (λ (xs : List ℕ). get_or xs i 0) params_are ∙ counted_at (param_at t s) (at t ARITY s) i 0 l)

  module _ (s w : ℕ) (z : ContextSound t) (l : s < length (context t).symbols) where
    pub arity_at : w ≡ at t ARITY s → (w ≡ length (symbol (context t) s).params) × (w ≤ max_params)
    arity_at e = let h = symbols_below s l in let k = z.symbols s h in (e ∙ arity_is s h, omega arith)

    pub result_at : w ≡ at t RESULT s → (w ≡ (symbol (context t) s).result) × (w < length (context t).sorts)
    result_at e = let h = symbols_below s l in let k = z.symbols s h in (e ∙ result_is s h, omega arith)

    pub owner_at : w ≡ at t OWNER s → w ≤ s + 1
    owner_at e = let h = z.symbols s (symbols_below s l) in omega arith

  pub role_at : (s w : ℕ) (r : DtRole.DtRole) → s < length (context t).symbols → w ≡ at t OWNER s → role_meaning r ≡ role_of s w →
      RoleBelow (s + 1) r → RoleAt t s r
  role_at s w r l e m b = record {
    is = m ∙ ap (role_of s) e ∙ role_is s (symbols_below s l);
    declared = role_below (s + 1) (length (context t).symbols) r (omega arith) b;
  }

  -- parameter i of a symbol, out of the word w that holds it
  pub param_word : (f i : ℕ) → HasParam t f i → PARAMS + (4 * f + i / 4) < length t
  param_word f i a =
      let z = a.sound in
      let k = arity_at f (at t ARITY f) z a.declared refl in
      let l = a.within in
      let h = z.symbols_fit in
      let b = symbols_below f a.declared in
      let m = z.long in omega arith

  pub param_found : (f i : ℕ) {w r : ℕ} → HasParam t f i → w ≡ at t PARAMS (4 * f + i / 4) → r ≡ digit w (i % 4) →
      (r ≡ get_or (symbol (context t) f).params i 0) × (r < length (context t).sorts)
  unfolding param_at
  param_found f i {w} {r} a e q =
      let z = a.sound in
      let b = symbols_below f a.declared in
      let l = a.within in
      let n = arity_is f b in
      let p : r ≡ param_at t f i = q ∙ ap (λ (v : ℕ). digit v (i % 4)) e in
      let h = (z.symbols f b).param i (omega arith) in
      let s = sorts_length in
      (p ∙ param_is f b i (omega arith), omega arith)

  -- ---- terms

  pub term_is : (x : ℕ) → x < terms# t → term (context t) x ≡ term_at t x
  unfolding context term
  term_is x h = counted_at (term_at t) (terms# t) x no_term h

  pub op_at : (x w : ℕ) (r : Op.Op) → ContextSound t → x < length (context t).terms → w ≡ at t OP x → op_meaning r ≡ op_of w →
      OpBelow w r → OpAt t x r
  unfolding term_at
  op_at x w r z l e m b =
      let h = terms_below x l in
      let s = z.terms x h in
      record {
        is = m ∙ ap op_of e ∙ ap (λ (n : Term). n.op) (sym (term_is x h));
        declared = op_below w (length (context t).symbols) r (omega arith) b;
      }

  pub stored_bucket : (x : ℕ) {code : ℕ} {args : List ℕ} {h : ℕ} → x < terms# t → code ≡ at t OP x → args ≡ children (context t) x →
      h ≡ bucket code args → h ≡ bucket_of t x
  unfolding bucket_of children term_at
  stored_bucket x l o a e = e ∙ ap₂ bucket o (a ∙ ap (λ (y : Term). y.args) (term_is x l))

  -- offsets rise
  pub offset_le : ContextSound t → (i n : ℕ) → i + n ≤ terms# t → at t OFFSET i ≤ at t OFFSET (i + n)
  offset_le z i zero h = let e : i + 0 ≡ i = omega arith in rw e (omega arith)
  offset_le z i (suc n) h =
      let a = offset_le z i n (omega arith) in
      let b = (z.terms (i + n) (omega arith)).rise in
      let e : i + suc n ≡ i + n + 1 = omega arith in
      rw e (omega arith)

  pub offset_mono : ContextSound t → (i j : ℕ) → i ≤ j → j ≤ terms# t → at t OFFSET i ≤ at t OFFSET j
  offset_mono z i j h l =
      let e : i + (j - i) ≡ j = omega arith in
      subst (λ (k : ℕ). at t OFFSET i ≤ at t OFFSET k) e (offset_le z i (j - i) (omega arith))

  -- the part of the pool that holds a term's arguments, by the words that bound it
  module _ (x a e : ℕ) (z : ContextSound t) (p : a ≡ at t OFFSET x) (q : e ≡ at t OFFSET (x + 1)) where
    bounds : x < terms# t → (a ≤ e) × (e ≤ max_places)
    bounds h =
        let up = (z.terms x h).rise in
        let top = offset_mono z (x + 1) (terms# t) (omega arith) (omega arith) in
        let fit = z.places_fit in (omega arith, omega arith)

    pub args_fit : (n : ℕ) → x < terms# t → e - a ≡ n → a + n ≤ max_places
    args_fit n h l = let b = bounds h in omega arith

    module _ (h : x < length (context t).terms) where
      pub part_ordered : a ≤ e
      part_ordered = let b = bounds (terms_below x h) in omega arith

      pub part_within : POOL + e ≤ length t
      part_within = let b = bounds (terms_below x h) in let l = z.long in omega arith

      pub part_is : take (e - a) (drop (POOL + a) t) ≡ children (context t) x
      unfolding args_at children term_at
      part_is =
          let l = part_within in
          let o = part_ordered in
          part_is_stretch t POOL a (e - a) (omega arith)
          ∙ ap₂ (λ (j k : ℕ). stretch t POOL j (k - j)) p q
          ∙ sym (ap (λ (y : Term). y.args) (term_is x (terms_below x h)))
