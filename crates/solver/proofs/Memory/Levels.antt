-- The records by levels: the level of an entry by the mark counts, one level more, and the levels above one closed.
use Rattle.shinri_core.proofs.Kit.{ℕ, zero, suc, ◌+◌, ◌-◌, ◌*◌, ◌≤◌, ◌<◌, ◌≡◌, refl, sym, ap, ap₂, ◌∙◌, subst⁻¹, Bool, true, false, cond, List, [], ◌∷◌, none, some, ℕ_discrete, dec_le, arith, ltb, leb, le-leb, lt-leb, length, get_or, set, get_or-set_same, get_or-set_other}
use Rattle.shinri_core.specs.Limits.{max_levels}
use Rattle.shinri_core.specs.Lists.{gather, range}
use Rattle.shinri_core.specs.Memory.Words.{Kept}
use Rattle.shinri_core.specs.Memory.Table.{context}
use Rattle.shinri_core.proofs.Memory.Stores.{kept_more}
use Rattle.theory.specs.Memory.Table.{merges, level}
use Rattle.theory.specs.Memory.Registry.{atoms}
use Rattle.solver.specs.State.{AssertedAtom}
use Rattle.solver.specs.Records.{pop_entries}
use Rattle.solver.specs.declared.levels.TesterMarks.{TesterMarks}
use Rattle.solver.specs.Memory.Table.{COUNTS, MARK, LASTING, EMITTED, SPLIT, RECORDED, ENTRY, solver_room, records#, registry, is_set, flagged, UNEQUAL, of_sign, of_unequal, key_atom, entry_key, entry_rest, asserted, EntryFits, entry_of, record_of, dt_with, state_with, state}
use Rattle.solver.specs.Memory.Levels.{begun, entry_level, MarksSound, RecordsSound, Opened, Dropped, Popped}
use Rattle.solver.proofs.Memory.Frames.{flagged_kept}
use Rattle.solver.proofs.Memory.Signs.{gather_range, Tests, keep_gathered, entry_same, record_same}
use Rattle.solver.proofs.Memory.TableStores.{kept_none}
use Rattle.solver.proofs.Memory.Entries.{record_regions, records_changed, state_by_entries}

-- ---- levels by the counts

begun_most : (cs : List ℕ) (n i : ℕ) → begun cs n i ≤ n
unfolding begun
begun_most cs zero i = omega arith
begun_most cs (suc n) i = go (leb (get_or cs n 0) i) (begun_most cs n i)
  where
    go : (b : Bool) → begun cs n i ≤ n → cond b (suc (begun cs n i)) (begun cs n i) ≤ suc n
    go true h = omega arith
    go false h = omega arith

-- one level more counts where it began at i or before
begun_at : (cs : List ℕ) (n i : ℕ) → get_or cs n 0 ≤ i → begun cs (suc n) i ≡ suc (begun cs n i)
unfolding begun
begun_at cs n i h = rw (le-leb (get_or cs n 0) i h)

begun_not : (cs : List ℕ) (n i : ℕ) → i < get_or cs n 0 → begun cs (suc n) i ≡ begun cs n i
unfolding begun
begun_not cs n i h = rw (lt-leb (get_or cs n 0) i h)

-- all have begun
begun_all : (cs : List ℕ) (n i : ℕ) → ((k : ℕ) → k < n → get_or cs k 0 ≤ i) → begun cs n i ≡ n
unfolding begun
begun_all cs zero i h = refl
begun_all cs (suc n) i h = begun_at cs n i (h n (omega arith)) ∙ ap suc (begun_all cs n i (λ k l. h k (omega arith)))

-- those from level k on have not
begun_later : (cs : List ℕ) (k n i : ℕ) → k ≤ n → ((j : ℕ) → k ≤ j → j < n → i < get_or cs j 0) → begun cs n i ≡ begun cs k i
begun_later cs k zero i l h = let e : k ≡ 0 = omega arith in ap (λ (j : ℕ). begun cs j i) (sym e)
begun_later cs k (suc n) i l h =
    go (ℕ_discrete k (suc n)) (λ d. begun_later cs k n i (omega arith) (λ j a b. h j a (omega arith)))
  where
    go : Dec (k ≡ suc n) → ((k ≡ suc n → ⊥) → begun cs n i ≡ begun cs k i) → begun cs (suc n) i ≡ begun cs k i
    go (yes e) r = ap (λ (j : ℕ). begun cs j i) (sym e)
    go (no d) r = begun_not cs n i (h n (omega arith) (omega arith)) ∙ r d

-- the first k have
begun_first : (cs : List ℕ) (k n i : ℕ) → k ≤ n → ((j : ℕ) → j < k → get_or cs j 0 ≤ i) → k ≤ begun cs n i
begun_first cs k zero i l h = omega arith
begun_first cs k (suc n) i l h =
    go (ℕ_discrete k (suc n)) (dec_le (get_or cs n 0) i) (λ d. begun_first cs k n i (omega arith) h)
  where
    go : Dec (k ≡ suc n) → Dec (get_or cs n 0 ≤ i) → ((k ≡ suc n → ⊥) → k ≤ begun cs n i) → k ≤ begun cs (suc n) i
    go (yes e) d r = let q = begun_all cs (suc n) i (λ j a. h j (omega arith)) in omega arith
    go (no a) (yes b) r = let q = begun_at cs n i b in let z = r a in omega arith
    go (no a) (no b) r = let q = begun_not cs n i (omega arith) in let z = r a in omega arith

begun_same : (cs ds : List ℕ) (n i : ℕ) → ((k : ℕ) → k < n → get_or ds k 0 ≡ get_or cs k 0) → begun ds n i ≡ begun cs n i
unfolding begun
begun_same cs ds zero i h = refl
begun_same cs ds (suc n) i h = rw (h n (omega arith), begun_same cs ds n i (λ k l. h k (omega arith)))

-- an entry that comes now is of the newest level
pub newest_level : {s : List ℕ} {m : TesterMarks} → MarksSound s m → entry_level m (records# s) ≡ m.levels
unfolding entry_level
newest_level {s} {m} z = begun_all m.counts m.levels (records# s) z.within

-- no level is open
pub marks_none : (s : List ℕ) (m : TesterMarks) → m.levels ≡ 0 → MarksSound s m
marks_none s m e = record {
  levels_fit = omega arith;
  rise = λ i j l h. absurd (omega arith);
  within = λ i h. absurd (omega arith);
}

-- more entries
pub marks_more : {s u : List ℕ} {m : TesterMarks} → MarksSound s m → records# s ≤ records# u → MarksSound u m
marks_more z h = record { levels_fit = z.levels_fit; rise = z.rise; within = λ i l. let w = z.within i l in omega arith }

-- ---- the records

-- levels that agree
levels_same : (p : ℕ → Bool) (s : List ℕ) (lv lw : ℕ → ℕ) → ((i : ℕ) → i < records# s → lv i ≡ lw i) →
    record_of p s lv ≡ record_of p s lw
levels_same p s lv lw h = record_same p s s lw lv (records# s) refl refl (λ i l. refl) h

-- the state with other levels of the entries
pub state_by_levels : (c e s : List ℕ) (lv lw : ℕ → ℕ) → ((p : ℕ → Bool) → record_of p s lw ≡ record_of p s lv) →
    state c e s lw ≡ state c e s lv
unfolding state_with dt_with
state_by_levels c e s lv lw q i = record {
  terms = context c;
  eq = merges e;
  atoms = atoms (registry s);
  level = level e;
  dt = record {
    marks = flagged s MARK;
    level_record = q (of_sign true) i;
    negative_record = q (of_sign false) i;
    disequalities = q of_unequal i;
    lasting = flagged s LASTING;
    emitted = flagged s EMITTED;
    split_done = flagged s SPLIT;
  };
}

-- what a test of the level says of an entry
level_tested : (p : ℕ → Bool) (s : List ℕ) (lv : ℕ → ℕ) (to i : ℕ) (t : Bool) → leb (lv i) to ≡ t →
    Tests (λ (a : AssertedAtom). leb a.level to) t (entry_of p s lv i)
unfolding entry_of asserted
level_tested p s lv to i t h = go (p (entry_key s i)) (ltb (entry_key s i) UNEQUAL)
  where
    go : (d k : Bool) → Tests (λ (a : AssertedAtom). leb a.level to) t
        (cond d (some (cond k (record { atom = key_atom (entry_key s i); lit = entry_rest s i; level = lv i })
        (record { atom = entry_rest s i; lit = 2 * (entry_key s i - UNEQUAL) + 1; level = lv i }))) none)
    go true true = h
    go true false = h
    go false k = tt

-- ---- push

module _ {s : List ℕ} {m m' : TesterMarks} {n : ℕ} (z : MarksSound s m) (l : m.levels < length m.counts) (e : n ≡ records# s)
    (c : m'.counts ≡ set m.counts m.levels n) (o : m'.levels ≡ m.levels + 1) where
  old_count : (k : ℕ) → k < m.levels → get_or m'.counts k 0 ≡ get_or m.counts k 0
  old_count k h = ap (λ (cs : List ℕ). get_or cs k 0) c ∙ get_or-set_other m.counts m.levels k n 0 (omega arith)

  new_count : get_or m'.counts m.levels 0 ≡ records# s
  new_count = ap (λ (cs : List ℕ). get_or cs m.levels 0) c ∙ get_or-set_same m.counts m.levels n 0 l ∙ e

  opened_within : (i : ℕ) → i < m'.levels → get_or m'.counts i 0 ≤ records# s
  opened_within i h = go (ℕ_discrete i m.levels)
    where
      go : Dec (i ≡ m.levels) → get_or m'.counts i 0 ≤ records# s
      go (yes q) = let r = ap (λ (k : ℕ). get_or m'.counts k 0) q ∙ new_count in omega arith
      go (no d) = let r = old_count i (omega arith) in let w = z.within i (omega arith) in omega arith

  opened_rise : (i j : ℕ) → i ≤ j → j < m'.levels → get_or m'.counts i 0 ≤ get_or m'.counts j 0
  opened_rise i j g h = go (ℕ_discrete j m.levels)
    where
      go : Dec (j ≡ m.levels) → get_or m'.counts i 0 ≤ get_or m'.counts j 0
      go (yes q) =
          let r = ap (λ (k : ℕ). get_or m'.counts k 0) q ∙ new_count in
          let w = opened_within i (omega arith) in omega arith
      go (no d) =
          let p = old_count i (omega arith) in
          let q = old_count j (omega arith) in
          let w = z.rise i j g (omega arith) in omega arith

  pub opens : m.levels < max_levels → Opened s m m'
  unfolding entry_level
  opens f = record {
    marks = record { levels_fit = omega arith; rise = opened_rise; within = opened_within };
    one_more = omega arith;
    entries = same;
    state = λ c v. state_by_levels c v s (entry_level m) (entry_level m') same;
  }
    where
      each : (i : ℕ) → i < records# s → begun m'.counts m'.levels i ≡ begun m.counts m.levels i
      each i h =
          let q : m'.levels ≡ suc m.levels = omega arith in
          let r = new_count in
          ap (λ (k : ℕ). begun m'.counts k i) q
          ∙ begun_not m'.counts m.levels i (omega arith)
          ∙ begun_same m.counts m'.counts m.levels i old_count

      same : (p : ℕ → Bool) → record_of p s (entry_level m') ≡ record_of p s (entry_level m)
      same p = levels_same p s (entry_level m') (entry_level m) each

-- ---- pop

pub count_within : {s : List ℕ} {m : TesterMarks} {to : ℕ} → MarksSound s m → to < m.levels → get_or m.counts to 0 ≤ records# s
count_within {to = to} w l = w.within to l

module _ {s u : List ℕ} {m m' : TesterMarks} {to n : ℕ} (z : RecordsSound s) (w : MarksSound s m) (l : to < m.levels)
    (e : n ≡ get_or m.counts to 0) (d : Dropped s n u) (same : m'.counts ≡ m.counts) (o : m'.levels ≡ to) where
  count_now : (i : ℕ) → get_or m'.counts i 0 ≡ get_or m.counts i 0
  count_now i = ap (λ (cs : List ℕ). get_or cs i 0) same

  -- an entry that stays keeps its level, which is `to` or lower
  level_stays : (i : ℕ) → i < n → entry_level m i ≡ begun m.counts to i
  unfolding entry_level
  level_stays i h =
      begun_later m.counts to m.levels i (omega arith) (λ j a b. let r = w.rise to j a b in omega arith)

  -- an entry that goes has a higher one
  level_goes : (i : ℕ) → n ≤ i → suc to ≤ entry_level m i
  unfolding entry_level
  level_goes i h = begun_first m.counts (suc to) m.levels i l (λ j a. let r = w.rise j to (omega arith) l in omega arith)

  closed_marks : MarksSound u m'
  closed_marks =
      let f = w.levels_fit in
      record {
        levels_fit = omega arith;
        rise = λ i j a b.
            let r = w.rise i j a (omega arith) in
            let p = count_now i in
            let q = count_now j in omega arith;
        within = λ i a.
            let r = w.rise i to (omega arith) l in
            let p = count_now i in
            let q = d.count in omega arith;
      }

  closed_entries : (p : ℕ → Bool) → record_of p u (entry_level m') ≡ pop_entries to (record_of p s (entry_level m))
  unfolding record_of pop_entries entry_level
  closed_entries p =
      ap (λ (k : ℕ). gather (entry_of p u (entry_level m')) (range 0 k)) d.count
      ∙ gather_range (entry_of p u (entry_level m')) (entry_of p s (entry_level m)) 0 n (λ i g h. each i (omega arith))
      ∙ sym (keep_gathered (λ (a : AssertedAtom). leb a.level to) (entry_of p s (entry_level m)) 0 (records# s) n few
      (λ i g h. level_tested p s (entry_level m) to i true (stays i (omega arith)))
      (λ i g h. level_tested p s (entry_level m) to i false (goes i (omega arith) (omega arith))))
    where
      few : n ≤ records# s
      few = let r = w.within to l in omega arith

      each : (i : ℕ) → i < n → entry_of p u (entry_level m') i ≡ entry_of p s (entry_level m) i
      each i h =
          let f = z.solver.records_fit in
          let g = few in
          let lower : entry_level m' i ≡ entry_level m i =
          ap₂ (λ (cs : List ℕ) (k : ℕ). begun cs k i) same o ∙ sym (level_stays i h) in
          entry_same p s u (entry_level m) (entry_level m') i (d.kept.rest ENTRY i tt (omega arith)) lower

      stays : (i : ℕ) → i < n → leb (entry_level m i) to ≡ true
      stays i h = let r = level_stays i h in let q = begun_most m.counts to i in le-leb (entry_level m i) to (omega arith)

      goes : (i : ℕ) → n ≤ i → i < records# s → leb (entry_level m i) to ≡ false
      goes i a b = let r = level_goes i a in lt-leb (entry_level m i) to (omega arith)

  pub closes : Popped s m to u m'
  closes =
      let kept : Kept solver_room record_regions s u = kept_more solver_room (COUNTS ∷ RECORDED ∷ []) record_regions s u tt d.kept in
      let f = z.solver.records_fit in
      let few = w.within to l in
      record {
        sound = d.sound;
        marks = closed_marks;
        below = λ h. o;
        above = λ h. absurd (omega arith);
        entries = closed_entries;
        state_sound = λ c v q.
            records_changed q kept d.sound.solver
            (λ x h g. q.lasting x h (sym (ap is_set (d.kept.rest LASTING x tt h)) ∙ g))
            (λ i h.
            let r = d.count in
            subst⁻¹ (EntryFits (context c)) (d.kept.rest ENTRY i tt (omega arith)) (q.records i (omega arith)));
        state = λ c v.
            state_by_entries kept z.solver.long c v (entry_level m) (entry_level m') (left (of_sign true)) (left (of_sign false))
            (left of_unequal) (flagged_kept d.kept LASTING 0 tt refl) (closed_entries (of_sign true))
            (closed_entries (of_sign false)) (closed_entries of_unequal);
        kept = d.kept;
      }
    where
      left : (ℕ → Bool) → List AssertedAtom
      left p = pop_entries to (record_of p s (entry_level m))

-- no level above `to` is open
pub closes_none : {s : List ℕ} {m : TesterMarks} {to : ℕ} → RecordsSound s → MarksSound s m → m.levels ≤ to → Popped s m to s m
unfolding entry_level record_of pop_entries
closes_none {s} {m} {to} z w l = record {
  sound = z;
  marks = w;
  below = λ h. absurd (omega arith);
  above = λ h. (refl, refl);
  entries = all;
  state_sound = λ c e q. q;
  state = λ c e.
      state_by_entries (kept_none record_regions s) z.solver.long c e (entry_level m) (entry_level m) (left (of_sign true))
      (left (of_sign false)) (left of_unequal) refl (all (of_sign true)) (all (of_sign false)) (all of_unequal);
  kept = kept_none (COUNTS ∷ RECORDED ∷ []) s;
}
  where
    left : (ℕ → Bool) → List AssertedAtom
    left p = pop_entries to (record_of p s (entry_level m))

    low : (i : ℕ) → leb (entry_level m i) to ≡ true
    low i = let b = begun_most m.counts m.levels i in le-leb (entry_level m i) to (omega arith)

    all : (p : ℕ → Bool) → record_of p s (entry_level m) ≡ pop_entries to (record_of p s (entry_level m))
    all p =
        sym (keep_gathered (λ (a : AssertedAtom). leb a.level to) (entry_of p s (entry_level m)) 0 (records# s) (records# s)
        (omega arith) (λ i g h. level_tested p s (entry_level m) to i true (low i)) (λ i g h. absurd (omega arith)))
