-- Collection: from one table to the next only terms below the collected one are marked, and no mark is taken back. A collected term has
-- its children collected, so everything below it has its mark: the marks are those of `new_var`.
use Rattle.shinri_core.proofs.Kit.{ℕ, zero, suc, ◌+◌, ◌/◌, ◌≤◌, ◌<◌, ◌≡◌, refl, sym, ap, ◌∙◌, subst, subst⁻¹, ◌⊎◌, inl, inr, Bool, true, cond, false≢true, List, [], ◌∷◌, arith, ℕ_discrete, below_more, T, length, get_or, false}
use Rattle.shinri_core.specs.Limits.{max_terms, table_words}
use Rattle.shinri_core.specs.Lists.{In, mem, keep}
use Rattle.shinri_core.specs.Context.{children}
use Rattle.shinri_core.specs.Formed.{Beneath}
use Rattle.shinri_core.specs.Memory.Words.{at, put, Kept}
use Rattle.shinri_core.specs.Memory.Table.{context}
use Rattle.shinri_core.proofs.Memory.Stores.{other_place}
use Rattle.shinri_core.proofs.Lists.{T_true, true_T, keep_in}
use Rattle.theory.specs.Atom.{Registered}
use Rattle.theory.specs.Memory.Registry.{atoms}
use Rattle.solver.specs.State.{with_marks, with_dt}
use Rattle.solver.specs.Records.{relevant, collect, new_var}
use Rattle.solver.specs.Memory.Table.{COUNTS, RECORDS, BLOCK, block_terms, MARK, COLLECTED, LASTING, EMITTED, SPLIT, ENTRY, solver_room, records#, is_set, flagged_from, term_kind, EntryFits, of_sign, of_unequal, state, state_with, dt_with, SolverSound, CollectedSound, StateSound}
use Rattle.solver.specs.Memory.Recording.{with_mark, Collecting, Spreads, Collects, CollectsChildren, CollectsVar}
use Rattle.solver.proofs.Basics.{mem_in, in_mem, by_test}
use Rattle.solver.proofs.Collection.{children_lower, new_var_marks}
use Rattle.solver.proofs.Memory.TableStores.{other, stores, kept_none, kept_put}
use Rattle.solver.proofs.Memory.Announcing as Announcing
use Rattle.solver.proofs.Memory.Announcing.{mark_long, mark_same, mark_kept, mark_announced}
use Rattle.solver.proofs.Memory.Flags.{has, members, members_same, mem_members, insert_all, flagged_in, in_flagged}
use Rattle.solver.proofs.Memory.Frames.{registry_kept, flagged_kept, record_kept, solver_kept}
use Rattle.solver.proofs.Memory.Roles.{kind_within, kind_relevant}

-- ---- entries of a list

at_in : (xs : List ℕ) (i : ℕ) → i < length xs → In (get_or xs i 0) xs
at_in [] i h = absurd (omega arith)
at_in (x ∷ xs) zero h = inl refl
at_in (x ∷ xs) (suc i) h = inr (at_in xs i (omega arith))

in_at : (xs : List ℕ) (y : ℕ) → In y xs → (i : ℕ) × (i < length xs) × (get_or xs i 0 ≡ y)
in_at [] y k = absurd k
in_at (x ∷ xs) y (inl e) = (zero, omega arith, sym e)
in_at (x ∷ xs) y (inr k) = let (i, h, e) = in_at xs y k in (suc i, omega arith, e)

-- ---- several steps

-- tables that fit together are such that terms can be collected in
pub collecting : {c e s : List ℕ} → StateSound c e s → Collecting c s
collecting z = record {
  core = z.core;
  formed = z.formed;
  signed = z.signed;
  solver = z.solver;
  marks = z.marks;
  announced = z.announced;
  collected = z.collected;
}

-- the number of a term is below the limit
few : {c s : List ℕ} → Collecting c s → length (context c).terms ≤ max_terms
few z = let n = z.core.term_count in let m = z.core.terms_fit in omega arith

pub spreads_none : {c s : List ℕ} (x : ℕ) → Collecting c s → Spreads c x s s
spreads_none x z = record {
  tables = z;
  kept = record { long = refl; rest = λ b y a h. refl };
  stay_marked = λ y h q. refl;
  stay_collected = λ y h q. q;
  only = λ y h q. inl q;
}

-- and then below a child
spreads_then : {c s t u : List ℕ} {x y : ℕ} → In y (children (context c) x) → Spreads c x s t → Spreads c y t u → Spreads c x s u
spreads_then {c} {s} {t} {u} {x} {y} i a b = record {
  tables = b.tables;
  kept = record { long = b.kept.long ∙ a.kept.long; rest = λ r z f h. b.kept.rest r z f h ∙ a.kept.rest r z f h };
  stay_marked = λ z h q. b.stay_marked z h (ap is_set (a.stay_marked z h q) ∙ q) ∙ a.stay_marked z h q;
  stay_collected = λ z h q. b.stay_collected z h (a.stay_collected z h q);
  only = λ z h q. go z h (b.only z h q);
}
  where
    go : (z : ℕ) → z < max_terms → (is_set (at t MARK z) ≡ true) ⊎ ((n : ℕ) × Beneath (context c) n y z) →
        (is_set (at s MARK z) ≡ true) ⊎ ((n : ℕ) × Beneath (context c) n x z)
    go z h (inl q) = a.only z h q
    go z h (inr (n, w)) = inr (suc n, (y, in_mem y (children (context c) x) i, w))

-- ---- the children of a term in turn

-- the first i of them
pub record Gathering (c : List ℕ) (x : ℕ) (s u : List ℕ) (i : ℕ) : Type 0 where
  pub spreads : Spreads c x s u
  pub below : (j : ℕ) → j < i → is_set (at u COLLECTED (get_or (children (context c) x) j 0)) ≡ true

pub gather_first : {c s : List ℕ} {x : ℕ} → Collecting c s → Gathering c x s s 0
gather_first {x = x} z = record { spreads = spreads_none x z; below = λ j h. absurd (omega arith) }

-- a child is a term, and lower
pub child : {c s u args : List ℕ} {x i : ℕ} → Gathering c x s u i → x < length (context c).terms → args ≡ children (context c) x →
    i < length args → (get_or args i 0 < x) × Collecting c u × (get_or args i 0 < length (context c).terms)
child {args = args} {x = x} {i = i} g w e h =
    let l = g.spreads.tables.formed.lower x w (get_or args i 0) (subst (In (get_or args i 0)) e (at_in args i h)) in
    (l, g.spreads.tables, omega arith)

pub gather_next : {c s t u args : List ℕ} {x i : ℕ} → Gathering c x s t i → x < length (context c).terms →
    args ≡ children (context c) x → i < length args → Collects c t (get_or args i 0) u → Gathering c x s u (i + 1)
gather_next {c} {s} {t} {u} {args} {x} {i} g w e h k =
    let n = few g.spreads.tables in
    record {
      spreads = spreads_then (subst (In (get_or args i 0)) e (at_in args i h)) g.spreads k.spreads;
      below =
          below_more (λ (j : ℕ). is_set (at u COLLECTED (get_or (children (context c) x) j 0)) ≡ true) i
          (λ j l.
          let m = g.spreads.tables.formed.lower x w (get_or (children (context c) x) j 0)
          (at_in (children (context c) x) j (subst (λ (zs : List ℕ). j < length zs) e (omega arith))) in
          k.spreads.stay_collected (get_or (children (context c) x) j 0) (omega arith) (g.below j l))
          (subst (λ (zs : List ℕ). is_set (at u COLLECTED (get_or zs i 0)) ≡ true) e k.here);
    }

pub gather_done : {c s u args : List ℕ} {x i : ℕ} → Gathering c x s u i → args ≡ children (context c) x → length args ≤ i →
    CollectsChildren c s x u
gather_done {c} {s} {u} {args} {x} {i} g e h = record {
  spreads = g.spreads;
  below = λ y k.
      let (j, l, q) = in_at (children (context c) x) y k in
      let m = ap length e in
      subst (λ (z : ℕ). is_set (at u COLLECTED z) ≡ true) q (g.below j (omega arith));
}

-- ---- a term

-- one that was collected before
pub collect_known : {c s : List ℕ} {x w : ℕ} → Collecting c s → w ≡ at s COLLECTED x → (w ≡ 0 → ⊥) → Collects c s x s
unfolding is_set
collect_known {s = s} {x = x} {w = w} z e n = record { spreads = spreads_none x z; here = set (at s COLLECTED x) (λ q. n (e ∙ q)) }
  where
    set : (k : ℕ) → (k ≡ 0 → ⊥) → is_set k ≡ true
    set zero f = absurd (f refl)
    set (suc k) f = refl

-- one whose children have been collected: it gets its mark, and is collected
module _ {c s t t₁ u : List ℕ} {x k : ℕ} (z : Collecting c s) (w : x < length (context c).terms) (a : CollectsChildren c s x t)
    (kind : k ≡ term_kind (context c) x) (e₁ : t₁ ≡ with_mark t x k) (e₂ : u ≡ put t₁ COLLECTED x 1) where
  room : x < max_terms
  room = let n = few z in omega arith

  wide : table_words ≤ length t
  wide = a.spreads.tables.solver.long

  -- the flag of x changes no mark
  mark_then : (y : ℕ) → y < max_terms → at u MARK y ≡ at (with_mark t x k) MARK y
  mark_then y h =
      ap (λ (v : List ℕ). at v MARK y) e₂ ∙ other t₁ MARK COLLECTED y x 1 tt h room ∙ ap (λ (v : List ℕ). at v MARK y) e₁

  mark_here : at u MARK x ≡ term_kind (context c) x
  mark_here = mark_then x room ∙ mark_same t x k room wide ∙ kind

  mark_other : (y : ℕ) → y < max_terms → (y ≡ x → ⊥) → at u MARK y ≡ at t MARK y
  mark_other y h d = mark_then y h ∙ Announcing.mark_other t x k room wide y h d

  flag_word : at u COLLECTED x ≡ 1
  flag_word =
      let l : table_words ≤ length t₁ = subst (λ (v : List ℕ). table_words ≤ length v) (sym e₁) (mark_long t x k room wide) in
      let r = room in
      search (e₂, stores)

  flag_here : is_set (at u COLLECTED x) ≡ true
  unfolding is_set
  flag_here = ap is_set flag_word

  -- the table but for the marks and the flags
  all_kept : Kept solver_room (BLOCK ∷ MARK ∷ COLLECTED ∷ []) s u
  all_kept =
      let r = room in
      subst (Kept solver_room (BLOCK ∷ MARK ∷ COLLECTED ∷ []) s) (sym (e₂ ∙ ap (λ (v : List ℕ). put v COLLECTED x 1) e₁))
      (kept_put (BLOCK ∷ MARK ∷ COLLECTED ∷ []) s (with_mark t x k) COLLECTED x 1 tt r
      (mark_kept t x k r (BLOCK ∷ MARK ∷ COLLECTED ∷ []) s tt tt a.spreads.kept))

  flag_other : (y : ℕ) → y < max_terms → (y ≡ x → ⊥) → at u COLLECTED y ≡ at t COLLECTED y
  flag_other y h d =
      ap (λ (v : List ℕ). at v COLLECTED y) e₂ ∙ other_place t₁ COLLECTED x y 1 d ∙ ap (λ (v : List ℕ). at v COLLECTED y) e₁
      ∙ (mark_kept t x k room (BLOCK ∷ MARK ∷ []) t tt tt (kept_none (BLOCK ∷ MARK ∷ []) t)).rest COLLECTED y tt h

  flags_stay : (y : ℕ) → y < max_terms → is_set (at t COLLECTED y) ≡ true → is_set (at u COLLECTED y) ≡ true
  flags_stay y h q = go (ℕ_discrete y x)
    where
      go : Dec (y ≡ x) → is_set (at u COLLECTED y) ≡ true
      go (yes e) = subst (λ (v : ℕ). is_set (at u COLLECTED v) ≡ true) (sym e) flag_here
      go (no d) = ap is_set (flag_other y h d) ∙ q

  -- what was collected before is so still
  still : (y : ℕ) → y < max_terms → (y ≡ x → ⊥) → CollectedSound (context c) t y → CollectedSound (context c) u y
  still y h d q = record {
    within = q.within;
    mark = mark_other y h d ∙ q.mark;
    below = λ v i. let l = z.formed.lower y q.within v i in flags_stay v (omega arith) (q.below v i);
  }

  tables_after : Collecting c u
  tables_after = record {
    core = z.core;
    formed = z.formed;
    signed = z.signed;
    solver = solver_kept all_kept tt tt tt tt z.solver;
    marks = λ y h. mark y h (ℕ_discrete y x);
    announced = λ y h q. announced y h (sym (mark_then y h) ∙ q);
    collected = λ y h q. sound y h q (ℕ_discrete y x);
  }
    where
      mark : (y : ℕ) → y < max_terms → Dec (y ≡ x) → (at u MARK y ≡ 0) ⊎ (at u MARK y ≡ term_kind (context c) y)
      mark y h (yes e) = inr (subst (λ (v : ℕ). at u MARK v ≡ term_kind (context c) v) (sym e) mark_here)
      mark y h (no d) =
          subst (λ (v : ℕ). (v ≡ 0) ⊎ (v ≡ term_kind (context c) y)) (sym (mark_other y h d)) (a.spreads.tables.marks y h)

      -- the flag of x changes no block
      announced : (y : ℕ) → y < max_terms → at (with_mark t x k) MARK y ≡ 1 → is_set (at u BLOCK (y / block_terms)) ≡ true
      announced y h q =
          ap (λ (v : List ℕ). is_set (at v BLOCK (y / block_terms))) e₂
          ∙ ap is_set (other t₁ BLOCK COLLECTED (y / block_terms) x 1 tt (omega arith) room)
          ∙ ap (λ (v : List ℕ). is_set (at v BLOCK (y / block_terms))) e₁
          ∙ mark_announced t x k room wide a.spreads.tables.announced y h q

      own : CollectedSound (context c) u x
      own = record {
        within = w;
        mark = mark_here;
        below = λ v i. let l = z.formed.lower x w v i in let n = few z in flags_stay v (omega arith) (a.below v i);
      }

      sound : (y : ℕ) → y < max_terms → is_set (at u COLLECTED y) ≡ true → Dec (y ≡ x) → CollectedSound (context c) u y
      sound y h q (yes e) = subst (CollectedSound (context c) u) (sym e) own
      sound y h q (no d) = still y h d (a.spreads.tables.collected y h (sym (ap is_set (flag_other y h d)) ∙ q))

  pub collect_done : Collects c s x u
  unfolding is_set
  collect_done = record {
    spreads = record {
      tables = tables_after;
      kept = all_kept;
      stay_marked = λ y h q. marked y h q (ℕ_discrete y x) (z.marks y h);
      stay_collected = λ y h q. flags_stay y h (a.spreads.stay_collected y h q);
      only = λ y h q. new y h q (ℕ_discrete y x);
    };
    here = flag_here;
  }
    where
      marked : (y : ℕ) → y < max_terms → is_set (at s MARK y) ≡ true → Dec (y ≡ x) →
          (at s MARK y ≡ 0) ⊎ (at s MARK y ≡ term_kind (context c) y) → at u MARK y ≡ at s MARK y
      marked y h q (yes e) (inl m) = absurd (false≢true (sym (ap is_set m) ∙ q))
      marked y h q (yes e) (inr m) = subst (λ (v : ℕ). at u MARK v ≡ term_kind (context c) v) (sym e) mark_here ∙ sym m
      marked y h q (no d) m = mark_other y h d ∙ a.spreads.stay_marked y h q

      new : (y : ℕ) → y < max_terms → is_set (at u MARK y) ≡ true → Dec (y ≡ x) →
          (is_set (at s MARK y) ≡ true) ⊎ ((n : ℕ) × Beneath (context c) n x y)
      new y h q (yes e) = inr (zero, sym e)
      new y h q (no d) = a.spreads.only y h (sym (ap is_set (mark_other y h d)) ∙ q)

-- ---- the state that the tables mean

module _ {s u : List ℕ} (k : Kept solver_room (BLOCK ∷ MARK ∷ COLLECTED ∷ []) s u) where
  -- but for its marks
  same_state : (c e : List ℕ) (lv : ℕ → ℕ) (ms : List ℕ) → SolverSound s → state_with c e u lv ms ≡ state_with c e s lv ms
  unfolding state_with dt_with
  same_state c e lv ms z =
      rw (
        registry_kept k tt z.long,
        flagged_kept k LASTING 0 tt refl,
        flagged_kept k EMITTED 0 tt refl,
        flagged_kept k SPLIT 0 tt refl,
        record_kept k (of_sign true) lv z.records_fit (k.rest COUNTS RECORDS tt (omega arith)) tt,
        record_kept k (of_sign false) lv z.records_fit (k.rest COUNTS RECORDS tt (omega arith)) tt,
        record_kept k of_unequal lv z.records_fit (k.rest COUNTS RECORDS tt (omega arith)) tt,
      )

spreads_sound : {c e s u : List ℕ} {x : ℕ} → Spreads c x s u → StateSound c e s → StateSound c e u
spreads_sound {c} {e} {s} {u} a z =
    let k = a.kept in
    let fit = z.solver.records_fit in
    let n : records# u ≡ records# s = k.rest COUNTS RECORDS tt (omega arith) in
    record {
      core = z.core;
      formed = z.formed;
      signed = z.signed;
      engine = z.engine;
      solver = a.tables.solver;
      registered = subst (λ (t : List ℕ). (r : Registered) → In r (atoms t) → r.atom < length (context c).terms)
          (sym (registry_kept k tt z.solver.long)) z.registered;
      marks = a.tables.marks;
      announced = a.tables.announced;
      collected = a.tables.collected;
      lasting = λ x h q. z.lasting x h (sym (ap is_set (k.rest LASTING x tt h)) ∙ q);
      records = λ i h. subst⁻¹ (EntryFits (context c)) (k.rest ENTRY i tt (omega arith)) (z.records i (omega arith));
    }

-- what lies below a collected term is collected
below_collected : {c u : List ℕ} → Collecting c u → (n x y : ℕ) → x < max_terms → is_set (at u COLLECTED x) ≡ true →
    Beneath (context c) n x y → CollectedSound (context c) u y
below_collected {c} {u} z zero x y h q e = subst (CollectedSound (context c) u) e (z.collected x h q)
below_collected {c} {u} z (suc n) x y h q (b, m, w) =
    let o = z.collected x h q in
    let i = mem_in b (children (context c) x) m in
    let l = z.formed.lower x o.within b i in
    below_collected z n b y (omega arith) (o.below b i) w

module _ {c s u : List ℕ} {x : ℕ} (z : Collecting c s) (w : x < length (context c).terms) (a : Collects c s x u) where
  after : Collecting c u
  after = a.spreads.tables

  kind_test : (y : ℕ) → relevant (context c) y ≡ is_set (term_kind (context c) y)
  kind_test y = kind_relevant (context c) z.formed z.signed y

  module _ (e : List ℕ) (lv : ℕ → ℕ) where
    new_marks : List ℕ
    new_marks = (new_var (state c e s lv) x).dt.marks

    -- what is marked is marked in the definition
    marked_in : (y : ℕ) → y < max_terms → has u MARK y ≡ true → In y new_marks
    unfolding new_marks state_with dt_with is_set
    marked_in y h q = go (a.spreads.only y h q) (after.marks y h)
      where
        go : (has s MARK y ≡ true) ⊎ ((n : ℕ) × Beneath (context c) n x y) → (at u MARK y ≡ 0) ⊎ (at u MARK y ≡ term_kind (context c) y) →
            In y (new_var (state c e s lv) x).dt.marks
        go (inl m) o = (new_var_marks (state c e s lv) x).old y (in_flagged s MARK 0 y (omega arith) h m)
        go (inr (n, b)) (inl m) = absurd (false≢true (sym (ap is_set m) ∙ q))
        go (inr (n, b)) (inr m) =
            (new_var_marks (state c e s lv) x).new n y (children_lower (context c) z.formed) b
            (true_T (relevant (context c) y) (kind_test y ∙ sym (ap is_set m) ∙ q))

    -- and the other way round
    in_marked : (y : ℕ) → y < max_terms → In y new_marks → has u MARK y ≡ true
    unfolding new_marks state_with dt_with
    in_marked y h i = go ((new_var_marks (state c e s lv) x).only y i)
      where
        go : In y (flagged_from s MARK 0) ⊎ ((n : ℕ) × Beneath (context c) n x y × T (relevant (context c) y)) → has u MARK y ≡ true
        go (inl j) =
            let (l, g, q) = flagged_in s MARK 0 y (omega arith) j in
            ap is_set (a.spreads.stay_marked y h q) ∙ q
        go (inr (n, b, r)) =
            let m = few z in
            ap is_set (below_collected after n x y (omega arith) a.here b).mark
            ∙ sym (kind_test y)
            ∙ T_true (relevant (context c) y) r

    same_test : (y : ℕ) → y < max_terms → has u MARK y ≡ mem y new_marks
    same_test y h =
        by_test (has u MARK y)
        (λ q. q ∙ sym (T_true (mem y new_marks) (in_mem y new_marks (marked_in y h q))))
        (λ q. by_test (mem y new_marks)
        (λ m. absurd (false≢true (sym q ∙ in_marked y h (mem_in y new_marks (true_T (mem y new_marks) m)))))
        (λ m. q ∙ sym m))

    -- the terms that the definition marks, and the test that they pass
    found : List ℕ
    found = keep (relevant (context c)) (collect (suc x) (context c) x [])

    test : ℕ → Bool
    test y = cond (mem y found) true (has s MARK y)

    found_few : (y : ℕ) → In y found → y < max_terms
    unfolding found
    found_few y i =
        let r = (keep_in (relevant (context c)) (collect (suc x) (context c) x []) y i).1 in
        let l = kind_within (context c) y (sym (kind_test y) ∙ T_true (relevant (context c) y) r) in
        let m = few z in
        omega arith

    by_members : new_marks ≡ members test 0 max_terms
    unfolding new_marks found test new_var with_marks with_dt state_with dt_with flagged_from
    by_members = insert_all found max_terms (has s MARK) found_few

    marks_are : flagged_from u MARK 0 ≡ new_marks
    unfolding flagged_from
    marks_are =
        members_same (has u MARK) test 0 max_terms
        (λ y l h.
        same_test y (omega arith) ∙ ap (mem y) by_members ∙ mem_members y 0 max_terms test (omega arith) (omega arith))
        ∙ sym by_members

  pub collects_var : CollectsVar c s x u
  unfolding new_marks new_var with_marks with_dt state_with dt_with
  collects_var = record {
    sound = λ e g. spreads_sound a.spreads g;
    state = λ e lv.
        same_state a.spreads.kept c e lv (flagged_from u MARK 0) z.solver ∙ ap (state_with c e s lv) (marks_are e lv);
  }
