-- Terms: an application looked up among them, one more at their end, and making one.
use Rattle.shinri_core.proofs.Kit.{ℕ, zero, suc, ◌+◌, ◌-◌, ◌≤◌, ◌<◌, ◌≡◌, refl, sym, ap, ap₂, ◌∙◌, subst, Bool, true, false, ◌&&◌, true≢false, List, [], ◌∷◌, ◌++◌, map, map-append, none, zero-add, add_assoc, add-one, ℕ_discrete, arith, eq-eqb, ne_eqb, le-leb, lt-leb, T, eqb, leb, eqb→eq, eqb_suc_suc, length, get_or, length-append}
use Rattle.shinri_core.specs.Limits.{max_terms, max_places, table_words}
use Rattle.shinri_core.specs.Lists.{same_list, range, total}
use Rattle.shinri_core.specs.Term as Term
use Rattle.shinri_core.specs.Term.{Term, same_op, same_term}
use Rattle.shinri_core.specs.Context.{Context, children, intern, mk_app, places, terms_fit}
use Rattle.shinri_core.specs.Memory.Words.{at, put, put_all, Kept, counted, stretch}
use Rattle.shinri_core.specs.Memory.Table.{COUNTS, TERMS, OP, OFFSET, POOL, BUCKET, LINK, core_room, sorts#, symbols#, terms#, op_of, args_at, term_at, context, buckets, bucket, bucket_of, Indexed, AllBelow, TermSound, IndexSound, ContextSound, AppAt, NoApp, MayIntern, MayApply, MayEquate, Appendable, Appended}
use Rattle.shinri_core.specs.Memory.Codes.{op_code, op_meaning, OpAt, made_answer, made_context, MkApp}
use Rattle.std.specs.Prelude.{Result, Ok, Err}
use Rattle.shinri_core.specs.declared.ids.TermId as TermId
use Rattle.shinri_core.specs.declared.ids.SymbolId.{SymbolId}
use Rattle.shinri_core.specs.declared.term.Op as Op
use Rattle.shinri_core.specs.declared.limits.NoRoom as NoRoom
use Rattle.shinri_core.proofs.Lists.{T_and, true_T, and_no, not_true_false, same_list_eq, same_list_same}
use Rattle.shinri_core.proofs.Memory.Codes.{code_means}
use Rattle.shinri_core.proofs.Memory.Counted.{counted_more, counted_grown, counted_list, stretch_length}
use Rattle.shinri_core.proofs.Memory.Searching.{NoneFrom, first_found, first_missing}
use Rattle.shinri_core.proofs.Memory.Stores.{other_place}
use Rattle.shinri_core.proofs.Memory.Regions.{stores}
use Rattle.shinri_core.proofs.Memory.Index.{indexed_more, Asking, ask_first, ask_next, ask_less, found}
use Rattle.shinri_core.proofs.Memory.Views.{terms_length, term_is}
use Rattle.shinri_core.proofs.Memory.Keeping.{TermsKept, continued, term_kept, bucket_kept, once_kept, sorts_view, symbols_view, symbols_apart}

-- ---- one term

same_op_codes : (a b : ℕ) → same_op (op_of a) (op_of b) ≡ eqb a b
unfolding same_op op_of
same_op_codes zero zero = refl
same_op_codes zero (suc b) = sym (ne_eqb zero (suc b) (omega arith))
same_op_codes (suc a) zero = sym (ne_eqb (suc a) zero (omega arith))
same_op_codes (suc a) (suc b) = sym (eqb_suc_suc a b)

-- the word that holds a term's operation
pub op_word : {t : List ℕ} {x : ℕ} {r : Op.Op} → OpAt t x r → x < terms# t → op_code r ≡ at t OP x
unfolding term_at
op_word {t} {x} {r} o h =
    let e = code_means r ∙ o.is ∙ ap (λ (y : Term). y.op) (term_is t x h) in
    let q = same_op_codes (op_code r) (op_code r) ∙ eq-eqb (op_code r) (op_code r) refl in
    eqb→eq (op_code r) (at t OP x)
    (true_T (eqb (op_code r) (at t OP x))
    (sym (same_op_codes (op_code r) (at t OP x)) ∙ ap (same_op (op_of (op_code r))) (sym e) ∙ q))

-- term i is the operation of a code over the arguments
abbrev pub Fits : List ℕ → ℕ → List ℕ → ℕ → Bool
Fits t code args i = same_term (op_of code) args (term_at t i)

pub fits_meant : (t : List ℕ) (o : Op.Op) (args : List ℕ) (i : ℕ) →
    same_term (op_meaning o) args (term_at t i) ≡ Fits t (op_code o) args i
fits_meant t o args i = ap (λ (p : Term.Op). same_term p args (term_at t i)) (sym (code_means o))

module _ (t : List ℕ) (code : ℕ) (args : List ℕ) where
  module _ (i w : ℕ) (o : w ≡ at t OP i) where
    other_code : (w ≡ code → ⊥) → eqb w code ≡ Fits t code args i
    unfolding same_term term_at
    other_code n = rw (ne_eqb w code n, same_op_codes code (at t OP i), ne_eqb code (at t OP i) (λ q. n (o ∙ sym q)))

    same_code : (xs : List ℕ) (r : Bool) → i < terms# t → w ≡ code → xs ≡ children (context t) i → r ≡ same_list args xs →
        r ≡ Fits t code args i
    unfolding same_term term_at children
    same_code xs r h c e q =
        let l : same_list args xs ≡ same_list args (args_at t i) = ap (same_list args) (e ∙ ap (λ (y : Term). y.args) (term_is t i h)) in
        rw (same_op_codes code (at t OP i), eq-eqb code (at t OP i) (sym c ∙ o)) (q ∙ l)

  -- a term that fits is the application, and the other way round
  fits_words : (i : ℕ) → Fits t code args i ≡ true → (code ≡ at t OP i) × (args ≡ args_at t i)
  unfolding same_term term_at
  fits_words i e =
      let (o, l) = T_and (same_op (op_of code) (op_of (at t OP i))) (same_list args (args_at t i)) (true_T (Fits t code args i) e) in
      (eqb→eq code (at t OP i) (subst T (same_op_codes code (at t OP i)) o), same_list_eq args (args_at t i) l)

  pub fits_term : (i : ℕ) → Fits t code args i ≡ true → term_at t i ≡ record { op = op_of code; args = args }
  unfolding term_at
  fits_term i e = let (o, l) = fits_words i e in λ j. record { op = op_of (sym o j); args = sym l j }

  term_fits : (i : ℕ) → term_at t i ≡ record { op = op_of code; args = args } → Fits t code args i ≡ true
  unfolding same_term
  term_fits i e =
      ap (same_term (op_of code) args) e
      ∙ ap₂ (λ (a b : Bool). a && b) (same_op_codes code code ∙ eq-eqb code code refl) (same_list_same args)

  -- and stands in the bucket of the application
  its_bucket : (i : ℕ) → Fits t code args i ≡ true → bucket_of t i ≡ bucket code args
  unfolding bucket_of
  its_bucket i e = let (o, l) = fits_words i e in sym (ap₂ bucket o l)

-- the same by the operation, whose word is v
module _ (t : List ℕ) (o : Op.Op) (args : List ℕ) (i : ℕ) {w v : ℕ} (e : w ≡ at t OP i) (f : v ≡ op_code o) where
  pub app_other_op : (w ≡ v → ⊥) → eqb w v ≡ same_term (op_meaning o) args (term_at t i)
  app_other_op n = ap (eqb w) f ∙ other_code t (op_code o) args i w e (λ q. n (q ∙ sym f)) ∙ sym (fits_meant t o args i)

  pub app_same : {xs : List ℕ} {r : Bool} → i < terms# t → w ≡ v → xs ≡ children (context t) i → r ≡ same_list args xs →
      r ≡ same_term (op_meaning o) args (term_at t i)
  app_same {xs} {r} h c k q = same_code t (op_code o) args i w e xs r h (c ∙ f) k q ∙ sym (fits_meant t o args i)

-- ---- among the terms of a bucket

-- none from k on fits, and term k - 1 stands in the application's bucket, if k is not 0
pub record Walking (t : List ℕ) (code : ℕ) (args : List ℕ) (k : ℕ) : Type 0 where
  pub sound : ContextSound t
  pub asked : Asking (bucket_of t) (Fits t code args) (bucket code args) (terms# t) k

module _ {t : List ℕ} (code : ℕ) (args : List ℕ) (z : ContextSound t) where
  only : (i : ℕ) → i < terms# t → Fits t code args i ≡ true → bucket_of t i ≡ bucket code args
  only i l q = its_bucket t code args i q

  pub walk_first : {h k : ℕ} → h ≡ bucket code args → h < buckets → k ≡ at t BUCKET h → Walking t code args k
  walk_first {h} e l q = record { sound = z; asked = ask_first (found z.index) only (rw e at l) (rw e at q) }

module _ {t : List ℕ} {code : ℕ} {args : List ℕ} {k : ℕ} (w : Walking t code args k) where
  module _ (n : k ≡ 0 → ⊥) where
    pub walk_next : {r : ℕ} {b : Bool} → r ≡ at t LINK (k - 1) → b ≡ Fits t code args (k - 1) → b ≡ false → Walking t code args r
    walk_next q f o =
        record { sound = w.sound; asked = ask_next (found w.sound.index) (only code args w.sound) w.asked n q (sym f ∙ o) }

    pub walk_less : {r : ℕ} → r ≡ at t LINK (k - 1) → r < k
    walk_less = ask_less (found w.sound.index) (only code args w.sound) w.asked n

    -- no term stands twice, so none below it fits
    pub walk_found : {b : Bool} → b ≡ Fits t code args (k - 1) → b ≡ true → AppAt t code args (k - 1)
    unfolding context
    walk_found f o =
        let within = w.asked.within in
        let s = sym f ∙ o in
        record {
          within = omega arith;
          found = first_found (same_term (op_of code) args) (term_at t) (terms# t) (k - 1) (omega arith) (λ j a m. lower j m s) s;
        }
      where
        lower : (j : ℕ) → j < k - 1 → Fits t code args (k - 1) ≡ true → Fits t code args j ≡ false
        lower j l s =
            not_true_false (Fits t code args j) (λ q.
            let within = w.asked.within in
            let same = fits_term t code args j q ∙ sym (fits_term t code args (k - 1) s) in
            let i = w.sound.index.once j (k - 1) (omega arith) (omega arith) same in
            omega arith)

  pub walk_missing : k ≡ 0 → NoApp t code args
  unfolding context
  walk_missing q =
      let rest : NoneFrom (Fits t code args) 0 (terms# t) = λ j l g. w.asked.rest j (omega arith) g in
      record {
        missing = first_missing (same_term (op_of code) args) (term_at t) (terms# t) rest;
        new = λ i l. rest i (omega arith) l;
      }

-- ---- one more term

-- what its stores leave
record TermWritten (t : List ℕ) (n start code : ℕ) (args : List ℕ) (h : ℕ) (u : List ℕ) : Type 0 where
  long : table_words ≤ length u
  sorts : sorts# u ≡ sorts# t
  symbols : symbols# u ≡ symbols# t
  count : terms# u ≡ n + 1
  op : at u OP n ≡ code
  end : at u OFFSET (n + 1) ≡ start + length args
  kept : Kept core_room (COUNTS ∷ OP ∷ OFFSET ∷ POOL ∷ BUCKET ∷ LINK ∷ []) t u
  pool : (j : ℕ) → j < length args → at u POOL (start + j) ≡ get_or args j 0
  terms : TermsKept t u n
  link : at u LINK n ≡ at t BUCKET h
  links : (i : ℕ) → i < n → at u LINK i ≡ at t LINK i
  head : at u BUCKET h ≡ n + 1
  heads : (x : ℕ) → x < buckets → (x ≡ h → ⊥) → at u BUCKET x ≡ at t BUCKET x

module _ {t : List ℕ} {n start code : ℕ} {args : List ℕ} {h : ℕ} {u : List ℕ}
    (a : Appendable t n start code args) (w : TermWritten t n start code args h u) where
  starts : at u OFFSET n ≡ start
  starts = w.terms.offset n (omega arith) ∙ sym a.begins

  new_args : args_at u n ≡ args
  unfolding args_at stretch
  new_args =
      let o = starts in
      let e = w.end in
      let l : at u OFFSET (n + 1) - at u OFFSET n ≡ length args = omega arith in
      ap (λ (x : ℕ). stretch u POOL x (at u OFFSET (n + 1) - at u OFFSET n)) o
      ∙ counted_list (λ j. at u POOL (start + j)) (at u OFFSET (n + 1) - at u OFFSET n) args l w.pool

  new_term : term_at u n ≡ record { op = op_of code; args = args }
  unfolding term_at
  new_term = λ i. record { op = op_of (w.op i); args = new_args i }

  new_term_sound : TermSound u n
  new_term_sound =
      let o = starts in
      record {
        op = omega arith;
        rise = omega arith;
        lower =
            λ j l g.
            let q : start + (j - start) ≡ j = omega arith in
            let p = w.pool (j - start) (omega arith) in
            let m = a.terms (j - start) (omega arith) in
            rw (← q) (omega arith);
      }

  old_term : (i : ℕ) → i < n → term_at u i ≡ term_at t i
  old_term i l = term_kept t u a.sound n i (omega arith) w.terms l

  -- the term is the newest of its bucket
  module _ (e : h ≡ bucket code args) where
    new_bucket : bucket_of u n ≡ h
    unfolding bucket_of
    new_bucket = ap₂ bucket w.op new_args ∙ sym e

    not_old : (i : ℕ) → i < n → term_at u i ≡ term_at u n → ⊥
    not_old i l q = true≢false (sym (term_fits t code args i (sym (old_term i l) ∙ q ∙ new_term)) ∙ a.new i l)

    new_once : (i j : ℕ) → i < n + 1 → j < n + 1 → Dec (i ≡ n) → Dec (j ≡ n) → term_at u i ≡ term_at u j → i ≡ j
    new_once i j l m (yes p) (yes q) o = omega arith
    new_once i j l m (yes p) (no d) o = absurd (not_old j (omega arith) (sym o ∙ ap (term_at u) p))
    new_once i j l m (no d) (yes q) o = absurd (not_old i (omega arith) (o ∙ ap (term_at u) q))
    new_once i j l m (no d) (no c) o = once_kept t u a.sound n (omega arith) w.terms i j (omega arith) (omega arith) o

    new_found : h < buckets → Indexed (bucket_of u) (at u BUCKET) (at u LINK) buckets (suc n)
    new_found b =
        indexed_more (subst (Indexed (bucket_of t) (at t BUCKET) (at t LINK) buckets) (sym a.next) (found a.sound.index))
        (bucket_kept t u a.sound n (omega arith) w.terms) (rw new_bucket b)
        (ap (at u BUCKET) new_bucket ∙ w.head ∙ add-one n) (λ x l d. w.heads x l (λ q. d (q ∙ sym new_bucket)))
        (w.link ∙ ap (at t BUCKET) (sym new_bucket)) w.links

    new_index : h < buckets → IndexSound u (n + 1)
    new_index b =
        let i = subst (Indexed (bucket_of u) (at u BUCKET) (at u LINK) buckets) (sym (add-one n)) (new_found b) in
        record {
          heads = i.heads;
          links = i.links;
          once = λ i j l m. new_once i j l m (ℕ_discrete i n) (ℕ_discrete j n);
        }

  appended : h ≡ bucket code args → h < buckets → Appended t code args u
  unfolding context intern
  appended e b =
      let z = a.sound in
      let written = COUNTS ∷ OP ∷ OFFSET ∷ POOL ∷ BUCKET ∷ LINK ∷ [] in
      let ys = symbols_apart t u z written w.kept tt tt tt tt in
      let sorts = sorts_view t u z written w.kept tt w.sorts in
      let symbols = symbols_view t u z w.symbols ys in
      let terms : counted (term_at u) (terms# u) ≡ counted (term_at t) (terms# t) ++ (record { op = op_of code; args = args } ∷ []) =
      counted_grown (term_at t) (term_at u) (terms# t) (terms# u) (record { op = op_of code; args = args }) (omega arith)
      (λ i l. old_term i (omega arith)) (ap (term_at u) (sym a.next) ∙ new_term) in
      record {
        sound =
            continued t u z n (n + 1) (omega arith) ys w.terms (λ s l g. absurd (omega arith))
            (λ i l g. let q : i ≡ n = omega arith in rw q new_term_sound) (new_index e b);
        view = λ i. record { sorts = sorts i; symbols = symbols i; terms = terms i };
      }

module _ {t : List ℕ} {n start code : ℕ} {args : List ℕ} {h o : ℕ} {t₁ t₂ t₃ t₄ t₅ u : List ℕ} (a : Appendable t n start code args) where
  pub append : h ≡ bucket code args → h < buckets → o ≡ at t BUCKET h → t₁ ≡ put t LINK n o → t₂ ≡ put t₁ BUCKET h (n + 1) →
      t₃ ≡ put_all t₂ POOL start args → t₄ ≡ put t₃ OP n code → t₅ ≡ put t₄ OFFSET (n + 1) (start + length args) →
      u ≡ put t₅ COUNTS TERMS (n + 1) → Appended t code args u
  append e b q e₁ e₂ e₃ e₄ e₅ e₆ =
      let l : table_words ≤ length t = a.sound.long in
      let r : n < max_terms = a.room in
      let r₁ : n + 1 < 1025 = omega arith in
      let p : start + length args ≤ max_places = a.places in
      let c : h < 1024 = omega arith in
      let begins = a.begins in
      let in_ops : (i : ℕ) → i < n → i < max_terms = omega arith in
      let in_offsets : (i : ℕ) → i ≤ n → i < 1025 = omega arith in
      let old_offset : (i : ℕ) → i ≤ n → i < n + 1 = omega arith in
      let old_pool : (j : ℕ) → j < at t OFFSET n → j < start = omega arith in
      let in_old_pool : (j : ℕ) → j < at t OFFSET n → j < max_places = omega arith in
      let in_pool : (j : ℕ) → j < length args → start + j < max_places = omega arith in
      let in_buckets : (x : ℕ) → x < buckets → x < 1024 = omega arith in
      let w : TermWritten t n start code args h u = search (e₆, e₅, e₄, e₃, e₂, e₁, q, stores, other_place) depth 9 in
      appended a w e b

-- ---- argument places

total_append : (xs ys : List ℕ) → total (xs ++ ys) ≡ total xs + total ys
unfolding total
total_append [] ys = sym (zero-add (total ys))
total_append (x ∷ xs) ys = ap (λ (n : ℕ). x + n) (total_append xs ys) ∙ sym (add_assoc x (total xs) (total ys))

args_length : Term → ℕ
args_length x = length x.args

-- places of terms with one more at the end
total_more : (xs : List Term) (x : Term) → total (map args_length (xs ++ (x ∷ []))) ≡ total (map args_length xs) + args_length x
unfolding total
total_more xs x = ap total (map-append args_length xs (x ∷ [])) ∙ total_append (map args_length xs) (args_length x ∷ []) ∙ omega arith

places_below : (t : List ℕ) → ContextSound t → (m : ℕ) → m ≤ terms# t → total (map args_length (counted (term_at t) m)) ≡ at t OFFSET m
unfolding total counted range args_length term_at args_at
places_below t z zero h = sym z.start
places_below t z (suc m) h =
    let r = (z.terms m (omega arith)).rise in
    let i = places_below t z m (omega arith) in
    let l = stretch_length t POOL (at t OFFSET m) (at t OFFSET (m + 1) - at t OFFSET m) in
    let e : suc m ≡ m + 1 = omega arith in
    ap (λ (xs : List Term). total (map args_length xs)) (counted_more (term_at t) m)
    ∙ total_more (counted (term_at t) m) (term_at t m)
    ∙ rw e (omega arith)

pub places_are : (t : List ℕ) → ContextSound t → places (context t) ≡ at t OFFSET (terms# t)
unfolding places context args_length
places_are t z = places_below t z (terms# t) (omega arith)

-- ---- whether a context fits

fits : (cx : Context) → length cx.terms ≤ max_terms → places cx ≤ max_places → terms_fit cx ≡ true
unfolding terms_fit
fits cx h l = rw (le-leb (length cx.terms) max_terms h, le-leb (places cx) max_places l)

-- the context with one more term at its end
more_terms : (cx : Context) (o : Term.Op) (args : List ℕ) → length (intern cx o args none).context.terms ≡ suc (length cx.terms)
unfolding intern
more_terms cx o args = length-append cx.terms (record { op = o; args = args } ∷ []) ∙ omega arith

more_places : (cx : Context) (o : Term.Op) (args : List ℕ) → places (intern cx o args none).context ≡ places cx + length args
unfolding intern places args_length
more_places cx o args = total_more cx.terms (record { op = o; args = args })

-- ---- making a term: the old one, no room, or a new one

module _ {t : List ℕ} {o : Term.Op} {args : List ℕ} {k : ℕ} {cx : Context}
    (m : mk_app (context t) o args ≡ record { id = k; context = cx }) where
  refuse : terms_fit cx ≡ false → ContextSound t → MkApp t o args (Err (record {})) t
  unfolding made_answer made_context
  refuse b z = record { sound = z; answer = rw (m, b); view = rw (m, b); unchanged = λ q. refl }

  accept : {u : List ℕ} → terms_fit cx ≡ true → ContextSound u → context u ≡ cx → MkApp t o args (Ok (record { 0 = k })) u
  unfolding made_answer made_context
  accept b y v = record { sound = y; answer = rw (m, b); view = rw (m, b) v; unchanged = λ q. absurd (true≢false (sym b ∙ (rw m at q))) }

-- where the next arguments would begin
begins : {t : List ℕ} {code : ℕ} {args : List ℕ} {n start : ℕ} → MayIntern t code args → n ≡ terms# t → start ≡ at t OFFSET n →
    (start ≡ places (context t)) × (start ≤ max_places)
begins {t} a e o =
    let p = o ∙ ap (at t OFFSET) e in
    let f = a.sound.places_fit in
    (p ∙ sym (places_are t a.sound), omega arith)

pub start_fits : {t : List ℕ} {code : ℕ} {args : List ℕ} {n start : ℕ} → MayIntern t code args → n ≡ terms# t → start ≡ at t OFFSET n →
    start ≤ max_places
start_fits a e o = (begins a e o).1

pub made_old : {t : List ℕ} {code : ℕ} {args : List ℕ} {x : TermId.TermId} → MayIntern t code args → AppAt t code args x.0 →
    MkApp t (op_of code) args (Ok x) t
unfolding mk_app intern
made_old {t} {code} {args} a f =
    let z = a.sound in
    let l = places_are t z in
    accept (ap (intern (context t) (op_of code) args) f.found) (fits (context t) (omega arith) (omega arith)) z refl

module _ {t : List ℕ} {code : ℕ} {args : List ℕ} {n : ℕ} (a : MayIntern t code args) (e : n ≡ terms# t) (f : NoApp t code args) where
  -- the context with the term at its end
  more : Context
  more = (intern (context t) (op_of code) args none).context

  made_none : mk_app (context t) (op_of code) args ≡ record { id = n; context = more }
  unfolding mk_app intern more
  made_none =
      let l : length (context t).terms ≡ n = terms_length t ∙ sym e in
      ap (intern (context t) (op_of code) args) f.missing ∙ (λ i. record { id = l i; context = more })

  pub no_more_terms : n ≡ max_terms → MkApp t (op_of code) args (Err (record {})) t
  unfolding more terms_fit
  no_more_terms q =
      let s = more_terms (context t) (op_of code) args in
      refuse made_none (rw (lt-leb (length more.terms) max_terms (omega arith))) a.sound

  module _ {start : ℕ} (o : start ≡ at t OFFSET n) where
    pub no_more_places : max_places - start < length args → MkApp t (op_of code) args (Err (record {})) t
    unfolding more terms_fit
    no_more_places q =
        let p = begins a e o in
        let s = more_places (context t) (op_of code) args in
        refuse made_none (rw (lt-leb (places more) max_places (omega arith)) (and_no (leb (length more.terms) max_terms))) a.sound

    module _ (r : n ≡ max_terms → ⊥) (q : length args ≤ max_places - start) where
      pub appendable : Appendable t n start code args
      appendable =
          let z = a.sound in
          let p = begins a e o in
          record {
            sound = z;
            next = e;
            begins = o;
            room = omega arith;
            places = omega arith;
            declared = a.declared;
            terms = λ j l. let g = a.terms j l in omega arith;
            new = λ i l. f.new i (omega arith);
          }

      pub made_new : {u : List ℕ} → Appended t code args u → MkApp t (op_of code) args (Ok (record { 0 = n })) u
      unfolding more
      made_new b =
          let z = a.sound in
          let p = begins a e o in
          let st = more_terms (context t) (op_of code) args in
          let sp = more_places (context t) (op_of code) args in
          accept made_none (fits more (omega arith) (omega arith)) b.sound b.view

-- ---- the two public ways to make a term

pub may_apply : (t : List ℕ) (f : SymbolId) (args : List ℕ) → MayApply t f.0 args →
    MayIntern t (op_code (Op.TheVariants.Uninterpreted f)) args
unfolding op_code
may_apply t f args a =
    let z = a.sound in
    let d = a.declared in
    record { sound = z; declared = omega arith; terms = λ j l. let h = a.terms j l in omega arith }

pub may_equate : (t : List ℕ) (a b : ℕ) → MayEquate t a b → MayIntern t (op_code Op.TheVariants.Eq) (a ∷ b ∷ [])
unfolding op_code
may_equate t a b m =
    let z = m.sound in
    record { sound = z; declared = omega arith; terms = two (let l = m.left in omega arith) (let r = m.right in omega arith) }
  where
    two : a < terms# t → b < terms# t → AllBelow (terms# t) (a ∷ b ∷ [])
    two l r zero h = l
    two l r (suc zero) h = r
    two l r (suc (suc j)) h = absurd (omega arith)

pub made_meant : {t args : List ℕ} (o : Op.Op) {r : Result TermId.TermId NoRoom.NoRoom} {u : List ℕ} →
    MkApp t (op_of (op_code o)) args r u → MkApp t (op_meaning o) args r u
made_meant {t} {args} o {r} {u} m = subst (λ (p : Term.Op). MkApp t p args r u) (code_means o) m
