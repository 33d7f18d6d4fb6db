-- A key that has its entry; a tester recorded, in the lasting record too.
use Rattle.shinri_core.proofs.Kit.{ℕ, zero, suc, ◌+◌, ◌/◌, ◌<◌, ◌≡◌, refl, sym, ap, ap₂, ◌∙◌, subst, subst⁻¹, ◌⊎◌, inl, inr, ⊎_elim, Bool, true, false, cond, List, [], ◌∷◌, ◌++◌, append-nil, none, some, ℕ_discrete, arith, eqb, ne_eqb, ltb-true}
use Rattle.shinri_core.specs.Limits.{max_terms}
use Rattle.shinri_core.specs.Lists.{cons_option, insert}
use Rattle.shinri_core.specs.Context.{Context}
use Rattle.shinri_core.specs.Memory.Words.{at, put, Kept}
use Rattle.shinri_core.specs.Memory.Table.{context}
use Rattle.shinri_core.proofs.Memory.Stores.{kept_more}
use Rattle.solver.specs.State.{AssertedAtom, with_dt, with_level_record, with_negative_record, with_disequalities, with_lasting}
use Rattle.solver.specs.Records.{recorded, entered, record_tester, record_negative}
use Rattle.solver.specs.Memory.Table.{COUNTS, RECORDS, LASTING, RECORDED, ENTRY, UNEQUAL, solver_room, records#, is_set, flagged, term_kind, tester_key, of_sign, of_unequal, key_atom, entry_word, asserted, record_of, EntryFits, dt_with, state_with, state, SolverSound, StateSound, max_lits}
use Rattle.solver.specs.Memory.Levels.{Recordable, NewEntry, Entered, with_entry, Enters, TesterRecordable, Recorded}
use Rattle.solver.proofs.Memory.Flags.{flagged_insert}
use Rattle.solver.proofs.Memory.Frames.{flagged_kept, record_kept, solver_kept}
use Rattle.solver.proofs.Memory.TableStores.{kept_none, stores}
use Rattle.solver.proofs.Memory.Signs.{key_own, key_other, key_tester, key_unequal, key_atom_is, key_fits, word_key, recorded_by_key}
use Rattle.solver.proofs.Memory.Entries.{old_word, new_word, entered_sound, entered_record, record_regions, records_changed, state_changed}
use Rattle.solver.proofs.Memory.Levels.{marks_more}

cond_alike : {A : Type 0} (b : Bool) (x : A) → cond b x x ≡ x
cond_alike true x = refl
cond_alike false x = refl

kept_both : {ws s t u : List ℕ} → Kept solver_room ws s t → Kept solver_room ws t u → Kept solver_room ws s u
kept_both p q = record { long = q.long ∙ p.long; rest = λ b x a h. q.rest b x a h ∙ p.rest b x a h }

set_true : (v : ℕ) → (v ≡ 0 → ⊥) → is_set v ≡ true
unfolding is_set
set_true zero n = absurd (n refl)
set_true (suc v) n = refl

set_none : is_set 0 ≡ false
unfolding is_set
set_none = refl

-- ---- a key

-- an atom has an entry in the record of testers of a sign if the flag of its key says so
recorded_by_flag : (b : Bool) (s : List ℕ) (lv : ℕ → ℕ) (x : ℕ) → SolverSound s → x < max_terms →
    recorded (record_of (of_sign b) s lv) x ≡ is_set (at s RECORDED (tester_key b x))
recorded_by_flag b s lv x z h = recorded_by_key b s lv x h ∙ sym (z.recorded (tester_key b x) (key_fits b x h))

pub new_entry : {s : List ℕ} {k r f : ℕ} → Recordable s k r → f ≡ at s RECORDED k → f ≡ 0 → NewEntry s k r
new_entry z q n = record { may = z; new = sym q ∙ n }

-- the key has an entry
pub enters_old : {s : List ℕ} {k r f : ℕ} → Recordable s k r → f ≡ at s RECORDED k → (f ≡ 0 → ⊥) → Enters s k r s
unfolding with_entry
enters_old {s} {k} {r} {f} z q n = record {
  sound = z.sound;
  more = omega arith;
  entries = λ p lv. sym (rw (ap is_set (sym q) ∙ set_true f n) (cond_alike (p k) (record_of p s lv)));
  words = λ i h. inr (i, h, refl);
  kept = kept_none (COUNTS ∷ RECORDED ∷ ENTRY ∷ []) s;
}

-- it gets one
pub enters_new : {s u : List ℕ} {k r f : ℕ} → Recordable s k r → f ≡ at s RECORDED k → f ≡ 0 → Entered s k r u → Enters s k r u
unfolding with_entry cons_option
enters_new {s} {u} {k} {r} {f} z q n w = record {
  sound = entered_sound new w;
  more = let c = w.count in omega arith;
  entries = λ p lv. entered_record new w p lv ∙ sym (rw (ap is_set (sym q ∙ n) ∙ set_none) (go p lv (p k)));
  words = λ i h. word i h (ℕ_discrete i (records# s));
  kept = w.kept;
}
  where
    new : NewEntry s k r
    new = new_entry z q n

    go : (p : ℕ → Bool) (lv : ℕ → ℕ) (d : Bool) →
        cond d (record_of p s lv ++ (asserted k r (lv (records# s)) ∷ [])) (record_of p s lv)
        ≡ record_of p s lv ++ cons_option (cond d (some (asserted k r (lv (records# s)))) none) []
    go p lv true = refl
    go p lv false = sym (append-nil (record_of p s lv))

    word : (i : ℕ) → i < records# u → Dec (i ≡ records# s) →
        (at u ENTRY i ≡ entry_word k r) ⊎ ((j : ℕ) × (j < records# s) × (at u ENTRY i ≡ at s ENTRY j))
    word i h (yes e) = inl (ap (at u ENTRY) e ∙ new_word new w)
    word i h (no d) = let c = w.count in let g : i < records# s = omega arith in inr (i, g, old_word new w i g)

-- the words of the entries fit if the new one does
pub entries_fit : {s u : List ℕ} {k r : ℕ} (cx : Context) → Enters s k r u → EntryFits cx (entry_word k r) →
    ((i : ℕ) → i < records# s → EntryFits cx (at s ENTRY i)) → (i : ℕ) → i < records# u → EntryFits cx (at u ENTRY i)
entries_fit cx w f old i h =
    ⊎_elim (λ e. subst⁻¹ (EntryFits cx) e f) (λ (j, g, e). subst⁻¹ (EntryFits cx) e (old j g)) (w.words i h)

-- ---- a tester

-- its entry in the words of the definition
module _ (b : Bool) (x l : ℕ) (h : x < max_terms) where
  tester_entry : (v : ℕ) → asserted (tester_key b x) l v ≡ record { atom = x; lit = l; level = v }
  unfolding asserted
  tester_entry v =
      rw (key_tester b x h) (ap (λ (a : ℕ). record { atom = a; lit = l; level = v }) (key_atom_is b x h))

  tester_fits : (cx : Context) → l < max_lits → term_kind cx x ≡ 4 → EntryFits cx (entry_word (tester_key b x) l)
  tester_fits cx g k =
      let e = word_key (tester_key b x) l g in
      let fits = key_fits b x h in
      let low = ltb-true (tester_key b x) UNEQUAL (key_tester b x h) in
      record {
        key = omega arith;
        tester = λ w. ap (λ (n : ℕ). term_kind cx (key_atom n)) e ∙ ap (term_kind cx) (key_atom_is b x h) ∙ k;
        equation = λ w. absurd (omega arith);
      }

  -- the record of its sign
  own_record : {s u : List ℕ} → SolverSound s → Enters s (tester_key b x) l u → (lv : ℕ → ℕ) →
      record_of (of_sign b) u lv ≡ entered (lv (records# s)) x l (record_of (of_sign b) s lv)
  unfolding entered with_entry
  own_record {s} {u} z w lv =
      w.entries (of_sign b) lv
      ∙ rw (key_own b x h, tester_entry (lv (records# s)), recorded_by_flag b s lv x z h)

  -- and the others
  other_record : {s u : List ℕ} → Enters s (tester_key b x) l u → (p : ℕ → Bool) → p (tester_key b x) ≡ false → (lv : ℕ → ℕ) →
      record_of p u lv ≡ record_of p s lv
  other_record w p e lv = w.entries p lv ∙ rw e

tester_key_fits : {s : List ℕ} {x l : ℕ} (b : Bool) → TesterRecordable s x l → Recordable s (tester_key b x) l
tester_key_fits {x = x} b z = record { sound = z.sound; key = key_fits b x z.atom; rest = z.lit }

-- a negative one
records_negative : {s u : List ℕ} {x l : ℕ} → TesterRecordable s x l → Enters s (tester_key false x) l u → Recorded false s x l u
unfolding state_with dt_with with_disequalities with_negative_record with_level_record with_lasting with_dt record_negative
records_negative {s} {u} {x} {l} z w = record {
  sound = w.sound;
  state_sound = λ c v g k.
      records_changed g kept w.sound.solver (λ y h q. g.lasting y h (sym (ap is_set (w.kept.rest LASTING y tt h)) ∙ q))
      (entries_fit (context c) w (tester_fits false x l z.atom (context c) z.lit k) g.records);
  state = λ c v lv g.
      state_changed kept z.sound.solver.long c v lv lv (flagged s LASTING) (record_of (of_sign true) s lv)
      (entered (lv (records# s)) x l (record_of (of_sign false) s lv)) (record_of of_unequal s lv)
      (flagged_kept w.kept LASTING 0 tt refl)
      (other_record false x l z.atom w (of_sign true) (key_other false x z.atom) lv)
      (own_record false x l z.atom z.sound.solver w lv)
      (other_record false x l z.atom w of_unequal (key_unequal false x z.atom) lv)
      ∙ ap (λ (k : ℕ). with_negative_record (state c v s lv) (entered k x l (record_of (of_sign false) s lv))) g;
  marks = λ m g. marks_more g w.more;
}
  where
    kept : Kept solver_room record_regions s u
    kept = kept_more solver_room (COUNTS ∷ RECORDED ∷ ENTRY ∷ []) record_regions s u tt w.kept

-- a positive one stands in the lasting record too
module _ {s t : List ℕ} {x l : ℕ} (z : TesterRecordable s x l) (e : t ≡ put s LASTING x 1) where
  lasting_kept : Kept solver_room (LASTING ∷ []) s t
  lasting_kept = let a = z.atom in search (e, stores)

  lasting_word : (y : ℕ) → at t LASTING y ≡ cond (eqb y x) 1 (at s LASTING y)
  lasting_word y = let a = z.atom in let m = z.sound.solver.long in search (e, stores)

  lasting_count : records# t ≡ records# s
  lasting_count = lasting_kept.rest COUNTS RECORDS tt (omega arith)

  pub lasting_recordable : TesterRecordable t x l
  lasting_recordable = record {
    sound = record {
      solver = solver_kept lasting_kept tt tt tt tt z.sound.solver;
      keys = λ i h.
          let n = lasting_count in
          let f = z.sound.solver.records_fit in
          let a = z.sound.keys i (omega arith) in
          let b = ap (λ (w : ℕ). w / max_lits) (lasting_kept.rest ENTRY i tt (omega arith)) in omega arith;
    };
    atom = z.atom;
    lit = z.lit;
  }

  -- the flags of the lasting record, in a table that keeps them
  lasting_now : (u : List ℕ) → ((y : ℕ) → y < max_terms → at u LASTING y ≡ at t LASTING y) →
      flagged u LASTING ≡ insert x (flagged s LASTING)
  unfolding is_set
  lasting_now u k = flagged_insert s u LASTING x z.atom (λ y h. ap is_set (k y h ∙ lasting_word y) ∙ go (eqb y x) (at s LASTING y))
    where
      go : (b : Bool) (v : ℕ) → is_set (cond b 1 v) ≡ cond b true (is_set v)
      go true v = refl
      go false v = refl

  lasting_kind : (cx : Context) (u : List ℕ) → ((y : ℕ) → y < max_terms → at u LASTING y ≡ at t LASTING y) → term_kind cx x ≡ 4 →
      ((y : ℕ) → y < max_terms → is_set (at s LASTING y) ≡ true → term_kind cx y ≡ 4) → (y : ℕ) → y < max_terms →
      is_set (at u LASTING y) ≡ true → term_kind cx y ≡ 4
  lasting_kind cx u k q old y h g = go (ℕ_discrete y x)
    where
      go : Dec (y ≡ x) → term_kind cx y ≡ 4
      go (yes d) = ap (term_kind cx) d ∙ q
      go (no d) =
          old y h
          (ap is_set (sym (k y h ∙ lasting_word y ∙ ap (λ (b : Bool). cond b 1 (at s LASTING y)) (ne_eqb y x d))) ∙ g)

  old_record : (p : ℕ → Bool) (lv : ℕ → ℕ) → record_of p t lv ≡ record_of p s lv
  old_record p lv = record_kept lasting_kept p lv z.sound.solver.records_fit lasting_count tt

  records_positive : {u : List ℕ} → Enters t (tester_key true x) l u → Recorded true s x l u
  unfolding state_with dt_with with_disequalities with_negative_record with_level_record with_lasting with_dt record_tester
  records_positive {u} w = record {
    sound = w.sound;
    state_sound = λ c v g k.
        records_changed g kept w.sound.solver (lasting_kind (context c) u same k g.lasting)
        (entries_fit (context c) w (tester_fits true x l z.atom (context c) z.lit k) (old_fits c v g));
    state = λ c v lv g.
        state_changed kept z.sound.solver.long c v lv lv (insert x (flagged s LASTING))
        (entered (lv (records# t)) x l (record_of (of_sign true) t lv)) (record_of (of_sign false) s lv) (record_of of_unequal s lv)
        (lasting_now u same) (own_record true x l z.atom lasting_recordable.sound.solver w lv)
        (other_record true x l z.atom w (of_sign false) (key_other true x z.atom) lv ∙ old_record (of_sign false) lv)
        (other_record true x l z.atom w of_unequal (key_unequal true x z.atom) lv ∙ old_record of_unequal lv)
        ∙ ap (with_level_record (with_lasting (state c v s lv) (insert x (flagged s LASTING))))
        (ap₂ (λ (k : ℕ) (es : List AssertedAtom). entered k x l es) (ap lv lasting_count ∙ g) (old_record (of_sign true) lv));
    marks = λ m g. marks_more g (let a = w.more in let b = lasting_count in omega arith);
  }
    where
      same : (y : ℕ) → y < max_terms → at u LASTING y ≡ at t LASTING y
      same y h = w.kept.rest LASTING y tt h

      kept : Kept solver_room record_regions s u
      kept =
          kept_both (kept_more solver_room (LASTING ∷ []) record_regions s t tt lasting_kept)
          (kept_more solver_room (COUNTS ∷ RECORDED ∷ ENTRY ∷ []) record_regions t u tt w.kept)

      old_fits : (c v : List ℕ) → StateSound c v s → (i : ℕ) → i < records# t → EntryFits (context c) (at t ENTRY i)
      old_fits c v g i h =
          let n = lasting_count in
          let f = z.sound.solver.records_fit in
          subst⁻¹ (EntryFits (context c)) (lasting_kept.rest ENTRY i tt (omega arith)) (g.records i (omega arith))

  -- as the code has the key and the sign
  pub positive_entered : {b : Bool} {u : List ℕ} → b ≡ true → Enters t x l u → Recorded b s x l u
  unfolding tester_key
  positive_entered {u = u} q w = subst (λ (v : Bool). Recorded v s x l u) (sym q) (records_positive w)

pub negative_entered : {b : Bool} {s u : List ℕ} {x l : ℕ} → TesterRecordable s x l → b ≡ false → Enters s (x + max_terms) l u →
    Recorded b s x l u
unfolding tester_key
negative_entered {s = s} {u = u} {x = x} {l = l} z q w = subst (λ (v : Bool). Recorded v s x l u) (sym q) (records_negative z w)

pub positive_key : {s : List ℕ} {x l : ℕ} → TesterRecordable s x l → Recordable s x l
unfolding tester_key
positive_key z = tester_key_fits true z

pub negative_key : {s : List ℕ} {x l : ℕ} → TesterRecordable s x l → Recordable s (x + max_terms) l
unfolding tester_key
negative_key z = tester_key_fits false z
