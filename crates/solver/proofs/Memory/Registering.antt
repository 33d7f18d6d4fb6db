-- The solver's table made empty, and a variable registered: the registry is the first part of the table, and what stands behind it is
-- as it was.
use Rattle.shinri_core.proofs.Kit.{ℕ, zero, suc, ◌+◌, ◌-◌, ◌≤◌, ◌<◌, ◌≡◌, refl, sym, ap, ◌∙◌, subst, subst⁻¹, ◌⊎◌, inl, inr, Bool, true, false, ◌||◌, true≢false, List, [], ◌∷◌, ◌++◌, arith, T, eqb, leb, leb→le, length, get_or, take, drop, length-append, length-drop, get_or-drop, length-take-le, replicate}
use lib.Seq.{get_or-append-add, take_at}
use lib.ListN.{length-replicate}
use Rattle.shinri_core.specs.Limits.{max_terms, table_words}
use Rattle.shinri_core.specs.Lists.{In, Apart, any, range, gather}
use Rattle.shinri_core.specs.Context.{empty_context}
use Rattle.shinri_core.specs.Formed.{Formed, Signed}
use Rattle.shinri_core.specs.Memory.Words.{at, put_all, counted, apart, Kept}
use Rattle.shinri_core.specs.Memory.Table.{context, ContextSound}
use Rattle.shinri_core.proofs.Lists.{T_and, not_true_false, zeros, getD_sets_in}
use Rattle.shinri_core.proofs.Memory.Stores.{length_put_all}
use Rattle.theory.specs.Atom.{Registered, register}
use Rattle.theory.specs.Memory.Registry.{registry_size, atoms, RegistrySound}
use Rattle.theory.specs.Memory.Table.{Engine}
use Rattle.theory.proofs.Members.{in_either}
use Rattle.solver.specs.State.{empty_state, with_atoms}
use Rattle.solver.specs.Memory.Table.{REGISTRY, COUNTS, RECORDS, MARK, BLOCK, COLLECTED, LASTING, EMITTED, SPLIT, RECORDED, ENTRY, solver_room, records#, registry, is_set, flagged, term_kind, EntryFits, entry_key, of_sign, of_unequal, entry_of, record_of, dt_with, state_with, state, SolverSound, CollectedSound, Announced, StateSound}
use Rattle.solver.specs.Memory.Recording.{flag_words, Wiped, SolverCleared, MayRegister, Registers}
use Rattle.solver.proofs.Signature.{empty_signed}
use Rattle.solver.proofs.Memory.Flags.{has, in_flagged, flagged_none}
use Rattle.solver.proofs.Memory.Frames.{flagged_kept, record_kept, announced_kept, keys_kept}

-- ---- the registry's part put back

-- the part is as long as it was
pub part_long : (s : List ℕ) → table_words ≤ length s → registry_size ≡ length (take registry_size s)
part_long s l = sym (length-take-le registry_size s (omega arith))

module _ (s r : List ℕ) (l : table_words ≤ length s) (n : length r ≡ registry_size) where
  abbrev back : List ℕ
  back = r ++ drop registry_size s

  registry_back : registry back ≡ r
  registry_back = take_at r (drop registry_size s) registry_size n

  word_back : (i : ℕ) → registry_size ≤ i → get_or back i 0 ≡ get_or s i 0
  word_back i h =
      let e : i ≡ length r + (i - registry_size) = omega arith in
      let f : registry_size + (i - registry_size) ≡ i = omega arith in
      ap (λ (j : ℕ). get_or back j 0) e
      ∙ get_or-append-add r (drop registry_size s) (i - registry_size) 0
      ∙ get_or-drop registry_size s (i - registry_size) 0
      ∙ ap (λ (j : ℕ). get_or s j 0) f

  kept_back : Kept solver_room (REGISTRY ∷ []) s back
  unfolding at
  kept_back = record {
    long = (let a = length-append r (drop registry_size s) in let d = length-drop registry_size s in omega arith);
    rest = λ b x a h. word_back (b + x) (behind b x (T_and (apart solver_room b REGISTRY) true a).0 h);
  }
    where
      behind : (b x : ℕ) → T (apart solver_room b REGISTRY) → x < solver_room b → registry_size ≤ b + x
      behind b x a h =
          go (leb (b + solver_room b) REGISTRY) (leb (REGISTRY + registry_size) b) (leb→le (b + solver_room b) REGISTRY)
          (leb→le (REGISTRY + registry_size) b) a
        where
          go : (p q : Bool) → (T p → b + solver_room b ≤ REGISTRY) → (T q → REGISTRY + registry_size ≤ b) → T (p || q) →
              registry_size ≤ b + x
          go true q f g t = let k = f tt in omega arith
          go false q f g t = let k = g t in omega arith

-- ---- another registry

module _ {s u : List ℕ} (k : Kept solver_room (REGISTRY ∷ []) s u) (z : SolverSound s) where
  same_count : records# u ≡ records# s
  same_count = k.rest COUNTS RECORDS tt (omega arith)

  same_keys : counted (entry_key u) (records# u) ≡ counted (entry_key s) (records# s)
  same_keys = keys_kept k tt (records# s) z.records_fit same_count

  solver_with : RegistrySound (registry u) → SolverSound u
  solver_with g =
      let l = k.long in
      let m = z.long in
      let fit = z.records_fit in
      let e = same_count in
      record {
        long = omega arith;
        atoms = g;
        records_fit = omega arith;
        once = subst Apart (sym same_keys) z.once;
        recorded = λ x h. ap is_set (k.rest RECORDED x tt h) ∙ z.recorded x h ∙ ap (any (eqb x)) (sym same_keys);
      }

  state_with_atoms : (c e : List ℕ) (lv : ℕ → ℕ) → state c e u lv ≡ with_atoms (state c e s lv) (atoms (registry u))
  unfolding state_with dt_with with_atoms
  state_with_atoms c e lv =
      rw (
        flagged_kept k MARK 0 tt refl,
        flagged_kept k LASTING 0 tt refl,
        flagged_kept k EMITTED 0 tt refl,
        flagged_kept k SPLIT 0 tt refl,
        record_kept k (of_sign true) lv z.records_fit same_count tt,
        record_kept k (of_sign false) lv z.records_fit same_count tt,
        record_kept k of_unequal lv z.records_fit same_count tt,
      )

module _ {c e s u : List ℕ} (k : Kept solver_room (REGISTRY ∷ []) s u) (z : StateSound c e s) where
  sound_with : RegistrySound (registry u) → ((r : Registered) → In r (atoms (registry u)) → r.atom < length (context c).terms) →
      StateSound c e u
  sound_with g b =
      let fit = z.solver.records_fit in
      let n = same_count k z.solver in
      record {
        core = z.core;
        formed = z.formed;
        signed = z.signed;
        engine = z.engine;
        solver = solver_with k z.solver g;
        registered = b;
        marks = λ x h. subst (λ (v : ℕ). (v ≡ 0) ⊎ (v ≡ term_kind (context c) x)) (sym (k.rest MARK x tt h)) (z.marks x h);
        announced = announced_kept k tt tt z.announced;
        collected = λ x h q. still x h (z.collected x h (sym (ap is_set (k.rest COLLECTED x tt h)) ∙ q));
        lasting = λ x h q. z.lasting x h (sym (ap is_set (k.rest LASTING x tt h)) ∙ q);
        records = λ i h. subst⁻¹ (EntryFits (context c)) (k.rest ENTRY i tt (omega arith)) (z.records i (omega arith));
      }
    where
      still : (x : ℕ) → x < max_terms → CollectedSound (context c) s x → CollectedSound (context c) u x
      still x h q = record {
        within = q.within;
        mark = k.rest MARK x tt h ∙ q.mark;
        below = λ y i.
            let y_lower = z.formed.lower x q.within y i in
            ap is_set (k.rest COLLECTED y tt (omega arith)) ∙ q.below y i;
      }

-- ---- registering

pub registers : {s r : List ℕ} {v x : ℕ} → MayRegister s v x → length r ≡ length (take registry_size s) → RegistrySound r →
    atoms r ≡ register (atoms (registry s)) v x → Registers s v x (r ++ drop registry_size s)
unfolding register
registers {s} {r} {v} {x} m n g a =
    let l = m.sound.long in
    let q = n ∙ sym (part_long s l) in
    let k = kept_back s r l q in
    let b = registry_back s r l q in
    record {
      sound = λ c e z w.
          sound_with k z (subst RegistrySound (sym b) g) (λ y i. each c e z w y (subst (λ (t : List ℕ). In y (atoms t)) b i));
      state = λ c e lv. state_with_atoms k m.sound c e lv ∙ ap (with_atoms (state c e s lv)) (ap atoms b ∙ a);
      atoms = ap atoms b ∙ a;
    }
  where
    each : (c e : List ℕ) → StateSound c e s → x < length (context c).terms → (y : Registered) → In y (atoms r) →
        y.atom < length (context c).terms
    each c e z w y i =
        go (in_either y (atoms (registry s)) (record { var = v; atom = x } ∷ []) (subst (λ (rs : List Registered). In y rs) a i))
      where
        go : In y (atoms (registry s)) ⊎ In y (record { var = v; atom = x } ∷ []) → y.atom < length (context c).terms
        go (inl j) = z.registered y j
        go (inr (inl j)) = subst (λ (o : Registered). o.atom < length (context c).terms) (sym j) w
        go (inr (inr j)) = absurd j

-- ---- an empty table

-- the words from COUNTS on are cleared
pub wiped : {s t : List ℕ} → table_words ≤ length s → t ≡ put_all s COUNTS 0 (replicate flag_words 0) → Wiped s t
unfolding at put_all
wiped {s} l e =
    let z : List ℕ = replicate flag_words 0 in
    let n = length-replicate {A = ℕ} flag_words 0 in
    record {
      long = ap length e ∙ length_put_all s COUNTS 0 z;
      zero = λ i h. ap (λ (t : List ℕ). at t COUNTS i) e ∙ getD_sets_in s COUNTS z i 0 (omega arith) (omega arith) ∙ zeros flag_words i;
    }

wiped_long : {s t : List ℕ} → table_words ≤ length s → Wiped s t → table_words ≤ length t
wiped_long l w = let m = w.long in omega arith

pub wiped_part : {s t : List ℕ} → table_words ≤ length s → Wiped s t → registry_size ≡ length (take registry_size t)
wiped_part {t = t} l w = part_long t (wiped_long l w)

module _ (s t r : List ℕ) (l : table_words ≤ length s) (w : Wiped s t) (n : length r ≡ length (take registry_size t)) where
  long : table_words ≤ length t
  long = wiped_long l w

  abbrev cleared_table : List ℕ
  cleared_table = r ++ drop registry_size t

  part : length r ≡ registry_size
  part = n ∙ sym (part_long t long)

  -- each word of the count and the flags
  cleared_word : (b x : ℕ) → COUNTS ≤ b → b + x < COUNTS + flag_words → at cleared_table b x ≡ 0
  unfolding at
  cleared_word b x h g =
      let e : b + x ≡ COUNTS + (b + x - COUNTS) = omega arith in
      word_back t r long part (b + x) (omega arith) ∙ ap (λ (j : ℕ). get_or t j 0) e ∙ w.zero (b + x - COUNTS) (omega arith)

  cleared_flags : (b : ℕ) → COUNTS ≤ b → b + max_terms ≤ COUNTS + flag_words → flagged cleared_table b ≡ []
  unfolding is_set
  cleared_flags b h g = flagged_none cleared_table b 0 (λ x i j. ap is_set (cleared_word b x h (omega arith)))

  no_records : records# cleared_table ≡ 0
  no_records = cleared_word COUNTS RECORDS (omega arith) (omega arith)

  no_entries : counted (entry_key cleared_table) (records# cleared_table) ≡ []
  unfolding counted range
  no_entries = ap (counted (entry_key cleared_table)) no_records

  pub clears : RegistrySound r → atoms r ≡ [] → SolverCleared cleared_table
  unfolding is_set any
  clears g a =
      let b = registry_back t r long part in
      let k = (kept_back t r long part).long in
      let m = long in
      let z = no_records in
      record {
        sound = record {
          long = omega arith;
          atoms = subst RegistrySound (sym b) g;
          records_fit = omega arith;
          once = subst Apart (sym no_entries) tt;
          recorded = λ x h. ap is_set (cleared_word RECORDED x (omega arith) (omega arith)) ∙ ap (any (eqb x)) (sym no_entries);
        };
        atoms = ap atoms b ∙ a;
        records = z;
        marks = cleared_flags MARK (omega arith) (omega arith);
        collected = cleared_flags COLLECTED (omega arith) (omega arith);
        lasting = cleared_flags LASTING (omega arith) (omega arith);
        emitted = cleared_flags EMITTED (omega arith) (omega arith);
        split_done = cleared_flags SPLIT (omega arith) (omega arith);
      }

-- ---- an empty session

empty_formed : Formed empty_context
unfolding empty_context
empty_formed = record {
  lower = λ t h. absurd (omega arith);
  agrees = λ t h. absurd (omega arith);
  distinct = λ t u h. absurd (omega arith);
}

pub unflagged : (t : List ℕ) (b x : ℕ) → flagged t b ≡ [] → x < max_terms → has t b x ≡ false
unflagged t b x e h = not_true_false (has t b x) (λ q. subst (In x) e (in_flagged t b 0 x (omega arith) h q))

pub not_set : (k : ℕ) → is_set k ≡ false → k ≡ 0
unfolding is_set
not_set zero e = refl
not_set (suc k) e = absurd (true≢false e)

-- no mark, nothing to announce
pub cleared_announced : (u : List ℕ) → SolverCleared u → Announced u MARK BLOCK
unfolding is_set
cleared_announced u z x h q = absurd (true≢false (sym (ap is_set q) ∙ unflagged u MARK x z.marks h))

module _ {c e u : List ℕ} (core : ContextSound c) (empty : context c ≡ empty_context) (engine : Engine e [] 0) (z : SolverCleared u) where
  pub cleared_sound : StateSound c e u
  cleared_sound =
      let n = z.records in
      record {
        core = core;
        formed = subst⁻¹ Formed empty empty_formed;
        signed = subst⁻¹ Signed empty empty_signed;
        engine = engine.sound;
        solver = z.sound;
        registered = λ r i. absurd (subst (λ (rs : List Registered). In r rs) z.atoms i);
        marks = λ x h. inl (not_set (at u MARK x) (unflagged u MARK x z.marks h));
        announced = cleared_announced u z;
        collected = λ x h q. absurd (true≢false (sym q ∙ unflagged u COLLECTED x z.collected h));
        lasting = λ x h q. absurd (true≢false (sym q ∙ unflagged u LASTING x z.lasting h));
        records = λ i h. absurd (omega arith);
      }

  no_record : (p : ℕ → Bool) (lv : ℕ → ℕ) → record_of p u lv ≡ []
  unfolding record_of gather range
  no_record p lv = ap (λ (n : ℕ). gather (entry_of p u lv) (range 0 n)) z.records

  pub cleared_state : (lv : ℕ → ℕ) → state c e u lv ≡ empty_state
  unfolding state_with dt_with empty_state
  cleared_state lv =
      rw (
        empty,
        engine.log,
        engine.at_level,
        z.atoms,
        z.marks,
        z.lasting,
        z.emitted,
        z.split_done,
        no_record (of_sign true) lv,
        no_record (of_sign false) lv,
        no_record of_unequal lv,
      )
