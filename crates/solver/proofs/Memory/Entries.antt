-- The entries of the records: those from a place on dropped, one more, and a sound state whose records change.
use Rattle.shinri_core.proofs.Kit.{ℕ, suc, ◌+◌, ◌-◌, ◌*◌, ◌/◌, ◌≤◌, ◌<◌, ◌≡◌, refl, sym, ap, ap₂, ◌∙◌, subst, ◌⊎◌, ⊎_elim, inl, inr, Bool, true, false, cond, true≢false, List, [], ◌∷◌, ◌++◌, Option, none, some, ℕ_discrete, add-one, zero-add, arith, T, eqb, eqb→eq, eq-eqb, ne_eqb, leb, leb→le, length}
use Rattle.shinri_core.specs.Limits.{max_terms, table_words}
use Rattle.shinri_core.specs.Lists.{In, any, gather, cons_option, range}
use Rattle.shinri_core.specs.Memory.Words.{at, put, counted, Kept}
use Rattle.shinri_core.specs.Memory.Table.{context}
use Rattle.shinri_core.proofs.Lists.{any_in, in_range, length_range, T_true, true_T, not_true_false, cond_both}
use Rattle.shinri_core.proofs.Memory.Counted.{counted_more, counted_length, counted_in, counted_grown}
use Rattle.shinri_core.proofs.Memory.Stores.{kept_more}
use Rattle.theory.specs.Atom.{Registered}
use Rattle.theory.specs.Memory.Table.{merges, level}
use Rattle.theory.specs.Memory.Registry.{atoms, RegistrySound}
use Rattle.theory.proofs.Members.{Apart, in_left, in_right, in_any, apart_length, apart_last}
use Rattle.solver.specs.State.{AssertedAtom, with_dt, with_level_record, with_negative_record, with_disequalities, with_lasting}
use Rattle.solver.specs.Memory.Table.{COUNTS, RECORDS, MARK, COLLECTED, LASTING, EMITTED, SPLIT, RECORDED, ENTRY, max_records, solver_room, records#, is_set, flagged, term_kind, of_sign, of_unequal, entry_word, entry_key, asserted, EntryFits, entry_of, record_of, dt_with, state_with, state, SolverSound, CollectedSound, StateSound, max_lits}
use Rattle.solver.specs.Memory.Levels.{RecordsSound, Dropped, NewEntry, Entered}
use Rattle.solver.proofs.Memory.Frames.{registry_kept, flagged_kept, keys_kept, announced_kept}
use Rattle.solver.proofs.Memory.TableStores.{kept_none, stores}
use Rattle.solver.proofs.Memory.Signs.{word_key, gather_range, gather_more, entry_same, entry_is}

-- ---- lists with one element more

cond_same : (b : Bool) → cond b true false ≡ b
cond_same true = refl
cond_same false = refl

module _ {A : Type 0} where
  -- the last element is new
  apart_init : (xs : List A) (y : A) → Apart (xs ++ (y ∷ [])) → Apart xs × (In y xs → ⊥)
  apart_init [] y a = (tt, λ i. i)
  apart_init (x ∷ xs) y (h, a) =
      let (b, n) = apart_init xs y a in
      ((λ i. h (in_left x xs (y ∷ []) i), b), ⊎_elim (λ e. h (in_right x xs (y ∷ []) (inl (sym e)))) n)

  any_last : (p : A → Bool) (xs : List A) (y : A) → any p (xs ++ (y ∷ [])) ≡ cond (any p xs) true (p y)
  unfolding any
  any_last p [] y = cond_same (p y)
  any_last p (x ∷ xs) y = ap (λ (b : Bool). cond (p x) true b) (any_last p xs y) ∙ go (p x) (any p xs) (p y)
    where
      go : (a b c : Bool) → cond a true (cond b true c) ≡ cond (cond a true b) true c
      go true b c = refl
      go false b c = refl

-- an element that is not there
any_not : (x : ℕ) (xs : List ℕ) → (In x xs → ⊥) → any (eqb x) xs ≡ false
any_not x xs n =
    not_true_false (any (eqb x) xs)
    (λ e. let (y, i, t) = any_in (eqb x) xs (true_T (any (eqb x) xs) e) in n (subst (λ (z : ℕ). In z xs) (sym (eqb→eq x y t)) i))

-- ---- entries dropped

-- the flags in t are those of the first i entries of s; n entries are to be left
pub record Dropping (s t : List ℕ) (n i : ℕ) : Type 0 where
  pub sound : RecordsSound s
  pub after : n ≤ i
  pub within : i ≤ records# s
  pub kept : Kept solver_room (RECORDED ∷ []) s t
  pub once : Apart (counted (entry_key s) i)
  pub flags : (x : ℕ) → x < max_records → is_set (at t RECORDED x) ≡ any (eqb x) (counted (entry_key s) i)

pub drop_first : {s : List ℕ} {n i : ℕ} → RecordsSound s → n ≤ records# s → i ≡ records# s → Dropping s s n i
drop_first {s} {n} {i} z l e = record {
  sound = z;
  after = omega arith;
  within = omega arith;
  kept = kept_none (RECORDED ∷ []) s;
  once = subst (λ (k : ℕ). Apart (counted (entry_key s) k)) (sym e) z.solver.once;
  flags = λ x h. z.solver.recorded x h ∙ ap (λ (k : ℕ). any (eqb x) (counted (entry_key s) k)) (sym e);
}

module _ {s t : List ℕ} {n i : ℕ} (z : Dropping s t n i) where
  -- entry j is as it was
  drop_key : (j : ℕ) → j < i → entry_key t j ≡ entry_key s j
  drop_key j h =
      let f = z.sound.solver.records_fit in
      let w = z.within in ap (λ (v : ℕ). v / max_lits) (z.kept.rest ENTRY j tt (omega arith))

  drop_fits : (j : ℕ) → j < i → entry_key t j < max_records
  drop_fits j h = let w = z.within in let e = drop_key j h in let b = z.sound.keys j (omega arith) in omega arith

  drop_long : table_words ≤ length t
  drop_long = let e = z.kept.long in let l = z.sound.solver.long in omega arith

  -- the words that the loop reads and writes
  pub drop_read : n < i → ENTRY + (i - 1) < length t
  drop_read h = let f = z.sound.solver.records_fit in let w = z.within in let g = drop_long in omega arith

  pub drop_write : (b : ℕ) {v : ℕ} → T (leb (b + max_records) table_words) → n < i → v ≡ at t ENTRY (i - 1) →
      b + v / max_lits < length t
  drop_write b f h e =
      let m = leb→le (b + max_records) table_words f in
      let k = drop_fits (i - 1) (omega arith) in
      let g = drop_long in omega arith

  pub drop_count : (COUNTS + RECORDS < length t) × (n < 4294967296)
  drop_count =
      let f = z.sound.solver.records_fit in
      let a = z.after in
      let w = z.within in
      let g = drop_long in (omega arith, omega arith)

drop_one : {s t u : List ℕ} {n i x : ℕ} → Dropping s t n i → n < i → x ≡ entry_key t (i - 1) → u ≡ put t RECORDED x 0 →
    Dropping s u n (i - 1)
unfolding is_set
drop_one {s} {t} {u} {n} {i} {x} z h e q =
    let w = z.within in
    let k = drop_key z (i - 1) (omega arith) in
    let b = drop_fits z (i - 1) (omega arith) in
    let f : x < max_records = omega arith in
    let g = drop_long z in
    record {
      sound = z.sound;
      after = omega arith;
      within = omega arith;
      kept = search (q, z.kept, stores);
      once = parts.0;
      flags = λ y l. flag y (search (q, stores)) (z.flags y l) (ℕ_discrete y x);
    }
  where
    keys : ℕ → List ℕ
    keys k = counted (entry_key s) k

    last : keys i ≡ keys (i - 1) ++ (entry_key s (i - 1) ∷ [])
    last = let m : i ≡ suc (i - 1) = omega arith in ap (counted (entry_key s)) m ∙ counted_more (entry_key s) (i - 1)

    is_last : x ≡ entry_key s (i - 1)
    is_last = e ∙ drop_key z (i - 1) (omega arith)

    parts : Apart (keys (i - 1)) × (In (entry_key s (i - 1)) (keys (i - 1)) → ⊥)
    parts = apart_init (keys (i - 1)) (entry_key s (i - 1)) (subst Apart last z.once)

    flag : (y : ℕ) → at u RECORDED y ≡ cond (eqb y x) 0 (at t RECORDED y) → is_set (at t RECORDED y) ≡ any (eqb y) (keys i) →
        Dec (y ≡ x) → is_set (at u RECORDED y) ≡ any (eqb y) (keys (i - 1))
    flag y p r (yes d) =
        rw (p, eq-eqb y x d)
        (sym (any_not y (keys (i - 1)) (λ k. parts.1 (subst (λ (a : ℕ). In a (keys (i - 1))) (d ∙ is_last) k))))
    flag y p r (no d) =
        rw (p, ne_eqb y x d)
        (r
        ∙ ap (any (eqb y)) last
        ∙ any_last (eqb y) (keys (i - 1)) (entry_key s (i - 1))
        ∙ ap (λ (b : Bool). cond (any (eqb y) (keys (i - 1))) true b) (ne_eqb y (entry_key s (i - 1)) (λ f. d (f ∙ sym is_last)))
        ∙ cond_same (any (eqb y) (keys (i - 1))))

pub drop_next : {s t u : List ℕ} {n i v : ℕ} → Dropping s t n i → n < i → v ≡ at t ENTRY (i - 1) → u ≡ put t RECORDED (v / max_lits) 0 →
    Dropping s u n (i - 1)
drop_next z h e q = drop_one z h (ap (λ (w : ℕ). w / max_lits) e) q

pub drop_done : {s t u : List ℕ} {n i : ℕ} → Dropping s t n i → i ≤ n → u ≡ put t COUNTS RECORDS n → Dropped s n u
drop_done {s} {t} {u} {n} {i} z h e =
    let f = z.sound.solver.records_fit in
    let w = z.within in
    let a = z.after in
    let q : i ≡ n = omega arith in
    let g = drop_long z in
    let long : table_words ≤ length u = search (e, stores) in
    let count : records# u ≡ n = search (e, stores) in
    let kept : Kept solver_room (COUNTS ∷ RECORDED ∷ []) s u =
    search (e, kept_more solver_room (RECORDED ∷ []) (COUNTS ∷ RECORDED ∷ []) s t tt z.kept, stores) in
    let left : counted (entry_key u) (records# u) ≡ counted (entry_key s) i =
    keys_kept kept tt n (omega arith) count ∙ ap (counted (entry_key s)) (sym q) in
    record {
      sound = record {
        solver = record {
          long = long;
          atoms = subst RegistrySound (sym (registry_kept kept tt z.sound.solver.long)) z.sound.solver.atoms;
          records_fit = omega arith;
          once = subst Apart (sym left) z.once;
          recorded = λ x l.
              let d : at u RECORDED x ≡ at t RECORDED x = search (e, stores) in ap is_set d ∙ z.flags x l ∙ ap (any (eqb x)) (sym left);
        };
        keys = λ k l.
            let b = z.sound.keys k (omega arith) in
            let d : entry_key u k ≡ entry_key s k = ap (λ (v : ℕ). v / max_lits) (kept.rest ENTRY k tt (omega arith)) in omega arith;
      };
      count = count;
      kept = kept;
    }

-- ---- one entry more

module _ {s : List ℕ} {x l : ℕ} (z : NewEntry s x l) where
  not_recorded : any (eqb x) (counted (entry_key s) (records# s)) ≡ false
  unfolding is_set
  not_recorded = sym (z.may.sound.solver.recorded x z.may.key) ∙ ap is_set z.new

  not_in : In x (counted (entry_key s) (records# s)) → ⊥
  not_in i =
      true≢false
      (sym (T_true (any (eqb x) (counted (entry_key s) (records# s)))
      (in_any (eqb x) (counted (entry_key s) (records# s)) x i (true_T (eqb x x) (eq-eqb x x refl))))
      ∙ not_recorded)

  -- there are fewer entries than keys
  one_free : records# s < max_records
  one_free =
      let l = apart_length (x ∷ counted (entry_key s) (records# s)) (range 0 max_records) (not_in, z.may.sound.solver.once)
      (λ y k. in_range 0 max_records y (omega arith) (below y k)) in
      omega (arith, counted_length (entry_key s) (records# s), length_range 0 max_records)
    where
      below : (y : ℕ) → In y (x ∷ counted (entry_key s) (records# s)) → y < 0 + max_records
      below y (inl e) = let h = z.may.key in omega arith
      below y (inr k) =
          let (i, l, e) = counted_in (entry_key s) (records# s) y k in
          let h = z.may.sound.keys i l in omega arith

-- the words by the three stores
stored : (s s₁ s₂ u : List ℕ) (n x l : ℕ) → table_words ≤ length s → x < max_records → n < max_records → n ≡ records# s →
    s₁ ≡ put s RECORDED x 1 → s₂ ≡ put s₁ ENTRY n (entry_word x l) → u ≡ put s₂ COUNTS RECORDS (n + 1) → Entered s x l u
stored s s₁ s₂ u n x l a b f e e₁ e₂ e₃ = record {
  long = search (e₃, e₂, e₁, stores);
  count = search (← e, e₃, e₂, e₁, add-one, stores);
  flags = search (e₃, e₂, e₁, stores);
  words = search (← e, e₃, e₂, e₁, stores);
  kept = search (e₃, e₂, e₁, stores) depth 9;
}

pub enters : {s s₁ s₂ u : List ℕ} {n x l : ℕ} → NewEntry s x l → n ≡ records# s → s₁ ≡ put s RECORDED x 1 →
    s₂ ≡ put s₁ ENTRY n (x * max_lits + l) → u ≡ put s₂ COUNTS RECORDS (n + 1) → Entered s x l u
unfolding entry_word
enters {s} {s₁} {s₂} {u} {n} {x} {l} z e e₁ e₂ e₃ =
    let f = one_free z in
    stored s s₁ s₂ u n x l z.may.sound.solver.long z.may.key (omega arith) e e₁ e₂ e₃

-- what they mean
module _ {s u : List ℕ} {x l : ℕ} (z : NewEntry s x l) (w : Entered s x l u) where
  pub old_word : (i : ℕ) → i < records# s → at u ENTRY i ≡ at s ENTRY i
  old_word i h =
      let f = one_free z in
      w.words i (omega arith) ∙ ap (λ (b : Bool). cond b (entry_word x l) (at s ENTRY i)) (ne_eqb i (records# s) (omega arith))

  pub new_word : at u ENTRY (records# s) ≡ entry_word x l
  new_word =
      let f = one_free z in
      w.words (records# s) (omega arith)
      ∙ ap (λ (b : Bool). cond b (entry_word x l) (at s ENTRY (records# s))) (eq-eqb (records# s) (records# s) refl)

  old_key : (i : ℕ) → i < records# s → entry_key u i ≡ entry_key s i
  old_key i h = ap (λ (v : ℕ). v / max_lits) (old_word i h)

  new_key : entry_key u (records# s) ≡ x
  new_key = ap (λ (v : ℕ). v / max_lits) new_word ∙ word_key x l z.may.rest

  entered_keys : counted (entry_key u) (records# u) ≡ counted (entry_key s) (records# s) ++ (x ∷ [])
  entered_keys = counted_grown (entry_key s) (entry_key u) (records# s) (records# u) x w.count old_key new_key

  entered_flags : (y : ℕ) → y < max_records → is_set (at u RECORDED y) ≡ any (eqb y) (counted (entry_key u) (records# u))
  unfolding is_set
  entered_flags y h =
      go (ℕ_discrete y x)
      ∙ sym (ap (any (eqb y)) entered_keys ∙ any_last (eqb y) (counted (entry_key s) (records# s)) x)
    where
      go : Dec (y ≡ x) → is_set (at u RECORDED y) ≡ cond (any (eqb y) (counted (entry_key s) (records# s))) true (eqb y x)
      go (yes e) = rw (w.flags y h, eq-eqb y x e) (sym (cond_both (any (eqb y) (counted (entry_key s) (records# s)))))
      go (no d) =
          rw (w.flags y h, ne_eqb y x d)
          (z.may.sound.solver.recorded y h ∙ sym (cond_same (any (eqb y) (counted (entry_key s) (records# s)))))

  pub entered_sound : RecordsSound u
  entered_sound =
      let f = one_free z in
      record {
        solver = record {
          long = w.long;
          atoms = subst RegistrySound (sym (registry_kept w.kept tt z.may.sound.solver.long)) z.may.sound.solver.atoms;
          records_fit = let n = w.count in omega arith;
          once =
              subst Apart (sym entered_keys)
              (apart_last (counted (entry_key s) (records# s)) x z.may.sound.solver.once (not_in z));
          recorded = entered_flags;
        };
        keys = λ i h. below i h (ℕ_discrete i (records# s));
      }
    where
      below : (i : ℕ) → i < records# u → Dec (i ≡ records# s) → entry_key u i < max_records
      below i h (yes e) = let q = ap (entry_key u) e ∙ new_key in let b = z.may.key in omega arith
      below i h (no d) =
          let n = w.count in
          let g : i < records# s = omega arith in
          omega (arith, old_key i g, z.may.sound.keys i g)

  -- the records once the key has its entry
  pub entered_record : (p : ℕ → Bool) (lv : ℕ → ℕ) →
      record_of p u lv ≡ record_of p s lv ++ cons_option (cond (p x) (some (asserted x l (lv (records# s)))) none) []
  unfolding record_of
  entered_record p lv =
      ap (λ (n : ℕ). gather (entry_of p u lv) (range 0 n)) w.count
      ∙ gather_more (entry_of p u lv) 0 (records# s)
      ∙ ap₂ (λ (es : List AssertedAtom) (o : Option AssertedAtom). es ++ cons_option o [])
      (gather_range (entry_of p u lv) (entry_of p s lv) 0 (records# s)
      (λ i g h. entry_same p s u lv lv i (old_word i (omega arith)) refl))
      (ap (entry_of p u lv) (zero-add (records# s)) ∙ entry_is p u lv (records# s) x l z.may.rest new_word)

-- ---- a sound state whose records change

pub records_sound : {c e s : List ℕ} → StateSound c e s → RecordsSound s
records_sound z = record { solver = z.solver; keys = λ i h. (z.records i h).key }

-- the regions of the records
abbrev pub record_regions : List ℕ
record_regions = COUNTS ∷ LASTING ∷ RECORDED ∷ ENTRY ∷ []

module _ {c e s u : List ℕ} (z : StateSound c e s) (k : Kept solver_room record_regions s u) where
  still_collected : (x : ℕ) → x < max_terms → CollectedSound (context c) s x → CollectedSound (context c) u x
  still_collected x h q =
      let f = z.core.terms_fit in
      let n = z.core.term_count in
      record {
        within = q.within;
        mark = k.rest MARK x tt h ∙ q.mark;
        below = λ y i.
            let l = z.formed.lower x q.within y i in ap is_set (k.rest COLLECTED y tt (omega arith)) ∙ q.below y i;
      }

  pub records_changed : SolverSound u → ((x : ℕ) → x < max_terms → is_set (at u LASTING x) ≡ true → term_kind (context c) x ≡ 4) →
      ((i : ℕ) → i < records# u → EntryFits (context c) (at u ENTRY i)) → StateSound c e u
  records_changed w l r = record {
    core = z.core;
    formed = z.formed;
    signed = z.signed;
    engine = z.engine;
    solver = w;
    registered =
        subst (λ (t : List ℕ). (x : Registered) → In x (atoms t) → x.atom < length (context c).terms)
        (sym (registry_kept k tt z.solver.long)) z.registered;
    marks = λ x h. subst (λ (v : ℕ). (v ≡ 0) ⊎ (v ≡ term_kind (context c) x)) (sym (k.rest MARK x tt h)) (z.marks x h);
    announced = announced_kept k tt tt z.announced;
    collected = λ x h q. still_collected x h (z.collected x h (sym (ap is_set (k.rest COLLECTED x tt h)) ∙ q));
    lasting = l;
    records = r;
  }

-- what the state is by the records, as they are now
module _ {s u : List ℕ} (k : Kept solver_room record_regions s u) (l : table_words ≤ length s) where
  pub state_changed : (c e : List ℕ) (lv lw : ℕ → ℕ) (ls : List ℕ) (es ns ds : List AssertedAtom) → flagged u LASTING ≡ ls →
      record_of (of_sign true) u lw ≡ es → record_of (of_sign false) u lw ≡ ns → record_of of_unequal u lw ≡ ds →
      state c e u lw
      ≡ with_disequalities (with_negative_record (with_level_record (with_lasting (state c e s lv) ls) es) ns) ds
  unfolding state_with dt_with with_disequalities with_negative_record with_level_record with_lasting with_dt
  state_changed c e lv lw ls es ns ds p q r d i = record {
    terms = context c;
    eq = merges e;
    atoms = atoms (registry_kept k tt l i);
    level = level e;
    dt = record {
      marks = flagged_kept k MARK 0 tt refl i;
      level_record = q i;
      negative_record = r i;
      disequalities = d i;
      lasting = p i;
      emitted = flagged_kept k EMITTED 0 tt refl i;
      split_done = flagged_kept k SPLIT 0 tt refl i;
    };
  }

  -- with the lasting record as it was
  pub state_by_entries : (c e : List ℕ) (lv lw : ℕ → ℕ) (es ns ds : List AssertedAtom) → flagged u LASTING ≡ flagged s LASTING →
      record_of (of_sign true) u lw ≡ es → record_of (of_sign false) u lw ≡ ns → record_of of_unequal u lw ≡ ds →
      state c e u lw ≡ with_disequalities (with_negative_record (with_level_record (state c e s lv) es) ns) ds
  unfolding state_with dt_with with_disequalities with_negative_record with_level_record with_lasting with_dt
  state_by_entries c e lv lw es ns ds p q r d = state_changed c e lv lw (flagged s LASTING) es ns ds p q r d
