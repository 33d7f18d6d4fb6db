-- Unequal terms: a negative equation literal recorded, the sides of its equation asked, and the rule over the record.
use Rattle.shinri_core.proofs.Kit.{ℕ, ◌+◌, ◌-◌, ◌*◌, ◌/◌, ◌%◌, ◌≤◌, ◌<◌, ◌≡◌, refl, sym, ap, ap₂, ◌∙◌, subst, inl, inr, Bool, true, false, cond, not, List, [], ◌∷◌, ◌++◌, none, some, Option, arith, eqb, eqb-false, le-ltb, length, get_or}
use borrow.Author.Tests.{not-true, not-false, lt-ltb}
use Rattle.shinri_core.specs.Limits.{max_terms, max_vars}
use Rattle.shinri_core.specs.Lists.{In, any}
use Rattle.shinri_core.specs.Ids as Ids
use Rattle.shinri_core.specs.Term.{Eq}
use Rattle.shinri_core.specs.Context.{Context, term, children}
use Rattle.shinri_core.specs.Formed.{Agrees}
use Rattle.shinri_core.specs.Memory.Words.{at, counted, Kept}
use Rattle.shinri_core.specs.Memory.Table.{context}
use Rattle.shinri_core.specs.declared.ids.Lit as Lit
use Rattle.shinri_core.proofs.Memory.Stores.{kept_more}
use Rattle.theory.specs.Types.{EqLeaf, AssertedLeaf}
use Rattle.theory.specs.EqEngine.{are_equal, explain, firsts}
use Rattle.theory.specs.Atom.{is_registered, atom}
use Rattle.theory.specs.declared.types.EqLeaf as GivenLeaf
use Rattle.theory.specs.Memory.Table.{merges, level, TwoNodes}
use Rattle.theory.specs.Memory.Registry.{atoms}
use Rattle.theory.specs.Memory.Answer.{answer_size, leaves, leaf_meaning, Pushed, Cleared}
use Rattle.theory.specs.Memory.Explaining.{Explainable, Explains}
use Rattle.theory.proofs.Memory.Leaves.{first_sound}
use Rattle.theory.proofs.Memory.RegistryWords.{registered_word}
use Rattle.solver.specs.State.{AssertedAtom, with_dt, with_level_record, with_negative_record, with_disequalities, with_lasting, equal}
use Rattle.solver.specs.Records.{has_literal, differ, literal_leaves, disequality_conflict}
use Rattle.solver.specs.Rules.{disequality_clash}
use Rattle.solver.specs.declared.answer.TCheck as TCheck
use Rattle.solver.specs.Memory.Table.{COUNTS, LASTING, RECORDED, ENTRY, UNEQUAL, solver_room, records#, registry, is_set, flagged, unequal_key, of_sign, of_unequal, entry_word, entry_key, asserted, entry_of, record_of, EntryFits, dt_with, state_with, StateSound, max_lits}
use Rattle.solver.specs.Memory.Work.{state_at, CheckSound}
use Rattle.solver.specs.Memory.Levels.{Recordable, with_entry, Enters}
use Rattle.solver.specs.Memory.Answer.{Tried}
use Rattle.solver.specs.Memory.Testing.{ConflictIs, found_at}
use Rattle.solver.specs.Memory.Disequalities.{Differable, Differs, SidesAsked, SidesConflict, unequal_finds, UnequalAsked, PairAsked, PairConflict, UnequalClash}
use Rattle.solver.proofs.Terms.{extends_self}
use Rattle.solver.proofs.Memory.Frames.{flagged_kept}
use Rattle.solver.proofs.Memory.Signs.{unequal_own, unequal_other, word_key, word_rest, listed_by_key}
use Rattle.solver.proofs.Memory.Entries.{record_regions, records_changed, state_changed}
use Rattle.solver.proofs.Memory.Levels.{marks_more}
use Rattle.solver.proofs.Memory.Recording.{entries_fit}
use Rattle.solver.proofs.Memory.Asserting.{atom_within}
use Rattle.solver.proofs.Memory.Asking.{Asking, asking_first, asking_next, asking_found, asking_done}
use Rattle.solver.proofs.Memory.Clashing.{literal_first, conflict_is, conflict_leaves, conflict_words}
use Rattle.std.specs.Prelude.{Ok}

-- ---- differ

-- the key of a negative literal of a registered variable
module _ {s : List ℕ} {l v x : ℕ} (z : Differable s l) (a : v ≡ Ids.var l) (e : x ≡ atom (atoms (registry s)) v) where
  var_fits : v < max_vars
  var_fits =
      let known = ap (is_registered (atoms (registry s))) a ∙ z.registered in
      let (h, p, q) = registered_word (registry s) v z.sound.solver.atoms known in h

  pub unequal_recordable : x < max_terms → Recordable s (UNEQUAL + v) x
  unequal_recordable h = let f = var_fits in record { sound = z.sound; key = omega arith; rest = omega arith }

  own_key : UNEQUAL + v ≡ unequal_key l
  unfolding unequal_key
  own_key = ap (λ (n : ℕ). UNEQUAL + n) a

  -- its entry in the words of the definition
  unequal_entry : (n : ℕ) → asserted (UNEQUAL + v) x n ≡ record { atom = atom (atoms (registry s)) (Ids.var l); lit = l; level = n }
  unfolding asserted
  unequal_entry n =
      rw (le-ltb (UNEQUAL + v) UNEQUAL (omega arith))
      (ap₂ (λ (t k : ℕ). record { atom = t; lit = k; level = n }) (e ∙ ap (atom (atoms (registry s))) a) literal)
    where
      literal : 2 * (UNEQUAL + v - UNEQUAL) + 1 ≡ l
      literal = let o = eqb-false (l % 2) 0 z.negative in omega arith

  unequal_fits : (cx : Context) → x < length cx.terms → x < max_terms → (term cx x).op ≡ Eq → EntryFits cx (entry_word (UNEQUAL + v) x)
  unequal_fits cx h g k =
      let f = var_fits in
      let p = word_key (UNEQUAL + v) x (omega arith) in
      let q = word_rest (UNEQUAL + v) x (omega arith) in
      record {
        key = omega arith;
        tester = λ w. absurd (omega arith);
        equation = λ w. (omega arith, ap (λ (y : ℕ). (term cx y).op) q ∙ k);
      }

  listed_by_flag : (lv : ℕ → ℕ) → has_literal (record_of of_unequal s lv) l ≡ is_set (at s RECORDED (UNEQUAL + v))
  listed_by_flag lv =
      let f = var_fits in
      listed_by_key s lv l z.negative
      ∙ ap (λ (k : ℕ). any (eqb k) (counted (entry_key s) (records# s))) (sym own_key)
      ∙ sym (z.sound.solver.recorded (UNEQUAL + v) (omega arith))

  -- the record of unequal terms
  abbrev differing : (ℕ → ℕ) → ℕ → List AssertedAtom
  differing lv n =
      cond (has_literal (record_of of_unequal s lv) l) (record_of of_unequal s lv)
      (record_of of_unequal s lv ++ (record { atom = atom (atoms (registry s)) (Ids.var l); lit = l; level = n } ∷ []))

  unequal_record : {u : List ℕ} → Enters s (UNEQUAL + v) x u → (lv : ℕ → ℕ) (n : ℕ) → lv (records# s) ≡ n →
      record_of of_unequal u lv ≡ differing lv n
  unfolding with_entry
  unequal_record w lv n g =
      w.entries of_unequal lv
      ∙ rw (ap of_unequal own_key ∙ unequal_own l, unequal_entry (lv (records# s)), listed_by_flag lv, g)

  other_signs : {u : List ℕ} → Enters s (UNEQUAL + v) x u → (b : Bool) (lv : ℕ → ℕ) →
      record_of (of_sign b) u lv ≡ record_of (of_sign b) s lv
  other_signs w b lv = w.entries (of_sign b) lv ∙ rw (ap (of_sign b) own_key ∙ unequal_other b l)

  pub differs : {u : List ℕ} → x < max_terms → Enters s (UNEQUAL + v) x u → Differs s l u
  unfolding state_with dt_with with_disequalities with_negative_record with_level_record with_lasting with_dt differ
  differs {u} h w = record {
    state_sound = λ c d g k.
        records_changed g kept w.sound.solver (λ y i q. g.lasting y i (sym (ap is_set (w.kept.rest LASTING y tt i)) ∙ q))
        (entries_fit (context c) w
        (unequal_fits (context c) (within c d g) h (ap (λ (y : ℕ). (term (context c) y).op) (e ∙ ap (atom (atoms (registry s))) a) ∙ k))
        g.records);
    state = λ c d lv g.
        state_changed kept z.sound.solver.long c d lv lv (flagged s LASTING) (record_of (of_sign true) s lv)
        (record_of (of_sign false) s lv) (differing lv (level d)) (flagged_kept w.kept LASTING 0 tt refl) (other_signs w true lv)
        (other_signs w false lv) (unequal_record w lv (level d) g);
    marks = λ m g. marks_more g w.more;
  }
    where
      kept : Kept solver_room record_regions s u
      kept = kept_more solver_room (COUNTS ∷ RECORDED ∷ ENTRY ∷ []) record_regions s u tt w.kept

      within : (c d : List ℕ) → StateSound c d s → x < length (context c).terms
      within c d g =
          subst (λ (y : ℕ). y < length (context c).terms) (sym e)
          (atom_within (atoms (registry s)) v (length (context c).terms) g.registered
          (ap (is_registered (atoms (registry s))) a ∙ z.registered))

-- ---- the sides of an equation

module _ {c e o args : List ℕ} {x : ℕ} (z : SidesAsked c e x o) (q : args ≡ children (context c) x) where
  -- an equation has two
  two_sides : (a b : ℕ) × (children (context c) x ≡ (a ∷ b ∷ []))
  unfolding children
  two_sides =
      let (a, b, k, s) =
      subst (λ (p : _). Agrees (context c) p (term (context c) x).args) z.equation (z.formed.agrees x z.within) in
      (a, b, k)

  pub first_there : 0 < length args
  first_there = let n = ap length (q ∙ two_sides.2) in omega arith

  pub second_there : 1 < length args
  second_there = let n = ap length (q ∙ two_sides.2) in omega arith

  sides_are : children (context c) x ≡ (get_or args 0 0 ∷ get_or args 1 0 ∷ [])
  sides_are =
      two_sides.2
      ∙ ap₂ (λ (a b : ℕ). a ∷ b ∷ []) (sym (ap (λ (xs : List ℕ). get_or xs 0 0) (q ∙ two_sides.2)))
      (sym (ap (λ (xs : List ℕ). get_or xs 1 0) (q ∙ two_sides.2)))

  -- they are terms
  side_within : (a : ℕ) → In a (children (context c) x) → a < max_terms
  side_within a i =
      let l = z.formed.lower x z.within a i in
      let w = z.within in
      let n = z.core.term_count in
      let f = z.core.terms_fit in omega arith

  first_within : get_or args 0 0 < max_terms
  first_within = side_within (get_or args 0 0) (subst (In (get_or args 0 0)) (sym sides_are) (inl refl))

  second_within : get_or args 1 0 < max_terms
  second_within = side_within (get_or args 1 0) (subst (In (get_or args 1 0)) (sym sides_are) (inr (inl refl)))

  pub two_nodes : TwoNodes e (get_or args 0 0) (get_or args 1 0)
  two_nodes = record { sound = z.engine; first = first_within; second = second_within }

  -- what the definition finds of them
  sides_found : (l : ℕ) (s w : List ℕ) (lv : ℕ → ℕ) (t : Bool) → t ≡ are_equal (merges e) (get_or args 0 0) (get_or args 1 0) →
      disequality_conflict (state_at c e s w lv) l (children (context c) x)
      ≡ cond t (some (firsts (AssertedLeaf l ∷ explain (merges e) (get_or args 0 0) (get_or args 1 0)))) none
  unfolding disequality_conflict literal_leaves equal state_with
  sides_found l s w lv t h =
      ap (disequality_conflict (state_at c e s w lv) l) sides_are
      ∙ ap (λ (d : Bool). cond d (some (firsts (AssertedLeaf l ∷ explain (merges e) (get_or args 0 0) (get_or args 1 0)))) none) (sym h)

  module _ {t : Bool} (h : t ≡ are_equal (merges e) (get_or args 0 0) (get_or args 1 0)) where
    pub sides_differ : {l : ℕ} → not t ≡ true → SidesConflict c e l x TCheck.TheVariants.Sat o
    sides_differ {l} n = record { conflict = λ s w lv. sides_found l s w lv false (sym (not-true t n) ∙ h); readable = tt }

    pub sides_explain : {o₁ o₂ : List ℕ} {leaf : EqLeaf} → not t ≡ false → Cleared o₁ → Pushed o₁ o₂ leaf →
        Explainable e (get_or args 0 0) (get_or args 1 0) o₂
    sides_explain n g p = record {
      sound = z.engine;
      first = first_within;
      second = second_within;
      equal = sym h ∙ not-false t n;
      answer = first_sound (merges e) g p;
    }

    -- the literal, then what the explanation appends
    pub sides_joined : {o₁ o₂ o₃ : List ℕ} {l : Lit.Lit} → not t ≡ false → Cleared o₁ →
        Pushed o₁ o₂ (leaf_meaning (GivenLeaf.TheVariants.Asserted l)) → Explains e (get_or args 0 0) (get_or args 1 0) o₂ o₃ →
        SidesConflict c e l.0 x TCheck.TheVariants.Conflict o₃
    sides_joined {l = l} n g u y = record {
      conflict = λ s w lv.
          sides_found l.0 s w lv true (sym (not-false t n) ∙ h) ∙ ap some (sym (literal_first l g u y));
      readable = y.sound.words;
    }

-- ---- an entry

module _ {c e s o : List ℕ} {i v k : ℕ} (z : PairAsked c e s i o) (a : v ≡ at s ENTRY i) (d : k ≡ v / max_lits) where
  pair_key : k ≡ entry_key s i
  pair_key = d ∙ ap (λ (m : ℕ). m / max_lits) a

  -- it is one of a tester
  pub pair_passed : k < UNEQUAL → PairConflict c e s i TCheck.TheVariants.Sat o
  unfolding entry_of of_unequal found_at
  pair_passed h = record {
    conflict = λ w lv. let e = lt-ltb (entry_key s i) UNEQUAL (let q = pair_key in omega arith) in rw e;
    readable = tt;
  }

  module _ (h : UNEQUAL ≤ k) where
    unequal_here : UNEQUAL ≤ v / max_lits
    unequal_here = omega arith

    -- its equation
    pub pair_asks : {x : ℕ} → x ≡ v % max_lits → SidesAsked c e x o
    pair_asks {x} q =
        let st = z.asked.state in
        let fits = subst (EntryFits (context c)) (sym a) (st.records i z.within) in
        let (l, p) = fits.equation unequal_here in
        record {
          core = st.core;
          formed = st.formed;
          engine = st.engine;
          within = omega arith;
          equation = ap (λ (y : ℕ). (term (context c) y).op) q ∙ p;
          long = z.asked.long;
        }

    -- the literal that its key tells
    pub pair_small : 2 * (k - UNEQUAL) + 1 < 4294967296
    pair_small = let f = (subst (EntryFits (context c)) (sym a) (z.asked.state.records i z.within)).key in omega arith

    pub pair_asked : {l x : ℕ} {r : TCheck.TCheck} {o' : List ℕ} → l ≡ 2 * (k - UNEQUAL) + 1 → x ≡ v % max_lits →
        SidesConflict c e l x r o' → PairConflict c e s i r o'
    unfolding entry_of of_unequal asserted found_at state_with
    pair_asked {l} {x} {r} {o'} p q y = record {
      conflict = λ w lv. subst (λ (m : Option (List EqLeaf)). ConflictIs r m o') (sym (found w lv)) (y.conflict s w lv);
      readable = y.readable;
    }
      where
        found : (w : List ℕ) (lv : ℕ → ℕ) →
            found_at unequal_finds (entry_of of_unequal s lv i) (state_at c e s w lv)
            ≡ disequality_conflict (state_at c e s w lv) l (children (context c) x)
        found w lv =
            let b = le-ltb (entry_key s i) UNEQUAL (let g = pair_key in omega arith) in
            rw b
            (ap₂ (λ (m n : ℕ). disequality_conflict (state_at c e s w lv) m (children (context c) n))
            (ap (λ (m : ℕ). 2 * (m - UNEQUAL) + 1) (sym pair_key) ∙ sym p) (ap (λ (m : ℕ). m % max_lits) (sym a) ∙ sym q))

-- ---- the rule

-- the entries from i on are to be asked
pub record Pairing (c e s o : List ℕ) (n i : ℕ) : Type 0 where
  pub asked : UnequalAsked c e s o
  pub asking : (w : List ℕ) → Asking unequal_finds of_unequal s (state_at c e s w) disequality_clash n i

pub pairing_first : {c e s o : List ℕ} {n : ℕ} → UnequalAsked c e s o → n ≡ records# s → Pairing c e s o n 0
unfolding disequality_clash state_with dt_with
pairing_first z q = record { asked = z; asking = λ w. asking_first q (λ lv. refl) }

pub pairing_asks : {c e s o : List ℕ} {n i : ℕ} → Pairing c e s o n i → i < n → PairAsked c e s i o
pairing_asks z h = let e = (z.asking []).count in record { asked = z.asked; within = omega arith }

module _ {c e s o : List ℕ} {n i : ℕ} {r : TCheck.TCheck} {o' : List ℕ} (z : Pairing c e s o n i) (h : i < n)
    (t : PairConflict c e s i r o') where
  pub pairing_next : r ≡ TCheck.TheVariants.Sat → answer_size ≤ length o' → Pairing c e s o' n (i + 1)
  pairing_next d a = record {
    asked = record { state = z.asked.state; long = a };
    asking = λ w.
        asking_next (z.asking w) h (λ lv.
        subst (λ (v : TCheck.TCheck). ConflictIs v (found_at unequal_finds (entry_of of_unequal s lv i) (state_at c e s w lv)) o') d
        (t.conflict w lv));
  }

  pub pairing_found : (r ≡ TCheck.TheVariants.Sat → ⊥) → UnequalClash c e s r o'
  pairing_found d =
      rw (conflict_is _ o' r d (t.conflict [] (λ k. k))) (record {
        outcome = λ w lv. asking_found (z.asking w) h (leaves o') lv (conflict_leaves _ o' r d (t.conflict w lv));
        readable = conflict_words _ o' r d (t.conflict [] (λ k. k)) t.readable;
      })

pub pairing_done : {c e s o : List ℕ} {n i : ℕ} → Pairing c e s o n i → n ≤ i → UnequalClash c e s TCheck.TheVariants.Sat o
pairing_done z h = record { outcome = λ w. asking_done (z.asking w) h; readable = tt }

-- the rule in a check under way
pub check_unequal : {c e s w o : List ℕ} → CheckSound c e s w → answer_size ≤ length o → UnequalAsked c e s o
check_unequal z l = record { state = z.state; long = l }

pub unequal_tried : {c e s w : List ℕ} {r : TCheck.TCheck} {o : List ℕ} → CheckSound c e s w → UnequalClash c e s r o →
    Tried disequality_clash c e s w (Ok r) c s w o
unequal_tried {c} {w = w} C k = record {
  sound = C;
  extends = extends_self (context c);
  outcome = k.outcome w;
  unchanged = λ m. refl;
  readable = k.readable;
}
