-- A check from its rules: a rule that passes is followed by the next, one that answers ends it, and a term that does not fit ends it as
-- well, since terms are never taken back within a check.
use Rattle.shinri_core.proofs.Kit.{ℕ, ◌+◌, ◌≤◌, ◌<◌, ◌≡◌, refl, sym, ap, ◌∙◌, subst, subst⁻¹, Bool, true, false, true≢false, false≢true, List, [], ◌∷◌, Option, none, some, arith, length, ◌⊎◌, ⊎_elim, not, not-false, below_more, le-leb, dec_lt}
use borrow.Author.Tests.{not-true}
use lib.Seq.{take_at}
use Rattle.shinri_core.specs.Limits.{max_terms, max_places}
use Rattle.shinri_core.specs.Context.{Context, terms_fit, places, cut_terms}
use Rattle.shinri_core.specs.Formed.{Formed, Signed, Extends}
use Rattle.shinri_core.specs.Memory.Words.{at, Kept}
use Rattle.shinri_core.specs.Memory.Table.{context, ContextSound}
use Rattle.shinri_core.proofs.Memory.Terms.{places_are}
use Rattle.shinri_core.specs.Lists.{In}
use Rattle.theory.specs.Atom.{Registered}
use Rattle.theory.specs.Memory.Table.{merges, level}
use Rattle.theory.specs.Memory.Registry.{atoms}
use Rattle.solver.specs.State.{State, ctor_apps, equal}
use Rattle.solver.specs.Rules as Rules
use Rattle.solver.specs.Rules.{Ruled, pass, answered, go_on, then, constructor_clash}
use Rattle.solver.specs.Check.{before_ring, or_ring, full_check, check}
use Rattle.solver.specs.declared.answer.TCheck as TCheck
use Rattle.solver.specs.declared.answer.TCheck.TheVariants.{Sat, Conflict, Split, Unknown}
use Rattle.std.specs.Prelude.{Ok, Err, is_ok}
use Rattle.shinri_core.specs.declared.limits.NoRoom.{NoRoom}
use Rattle.solver.specs.Memory.Table.{COUNTS, RECORDS, BLOCK, MARK, COLLECTED, LASTING, EMITTED, SPLIT, ENTRY, solver_room, records#, registry, is_set, flagged_from, term_kind, EntryFits, of_sign, of_unequal, MarksAre, Announced, state, state_with, dt_with, CollectedSound, StateSound}
use Rattle.solver.specs.Memory.Recording.{with_mark}
use Rattle.solver.specs.Memory.Work.{W_MARK, apps_from, state_at, Begins, ChainSound, CheckSound}
use Rattle.solver.specs.Memory.Answer.{answer_meaning, Outcome, Tried, RuleAnswer}
use Rattle.solver.specs.Memory.Testing.{Lone}
use Rattle.solver.specs.Memory.Checks.{Answered, ChecksFully, Rings, MarksFit, KeepsMarks, ChecksKept, Checks}
use Rattle.solver.proofs.Basics.{by_test}
use Rattle.solver.proofs.Clear.{one_constructor}
use Rattle.solver.proofs.Terms.{extends_then, extends_length}
use Rattle.solver.proofs.Memory.TableStores.{kept_none}
use Rattle.solver.proofs.Memory.Announcing.{mark_long, mark_same, mark_other, mark_kept, mark_announced}
use Rattle.solver.proofs.Memory.Registering.{not_set}
use Rattle.solver.proofs.Memory.Beginning.{unmarked}
use Rattle.solver.proofs.Memory.Flags.{flagged_same}
use Rattle.solver.proofs.Memory.Frames.{registry_kept, flagged_kept, record_kept, solver_kept}
use Rattle.solver.proofs.Memory.Growing.{chain_grows}
use Rattle.solver.proofs.Memory.Unfitting.{unfit_more}
use Rattle.solver.proofs.Memory.Trying.{sat_split}

-- ---- one rule and the next

-- a rule's result, by its outcome, when it passes
pub passed : (r : RuleAnswer) (k : Ruled) (s : State) (o : List ℕ) → r ≡ Ok Sat → Outcome r k s o → k ≡ pass s
passed r k s o q x = subst (λ (z : RuleAnswer). Outcome z k s o) q x

-- where no clash of constructors was found, each class has one constructor
pub lone_passed : {c e s w o : List ℕ} {r : RuleAnswer} → r ≡ Ok Sat →
    Tried constructor_clash c e s w r c s w o → Lone c e w
unfolding pass apps_from ctor_apps equal state_with dt_with
lone_passed {c} {e} {s} {w} {o} {r} q a =
    let S = state_at c e s w (λ k. k) in
    one_constructor S
    (ap (λ (k : Ruled). k.answer) (passed r (constructor_clash S) S o q (a.outcome (λ k. k))))

module _ (rule next : State → Ruled) where
  -- the first passes
  pub then_on : {c e s w c₁ s₁ w₁ o₁ c₂ s₂ w₂ o₂ : List ℕ} {r r₂ : RuleAnswer} → r ≡ Ok Sat →
      Tried rule c e s w r c₁ s₁ w₁ o₁ → Tried next c₁ e s₁ w₁ r₂ c₂ s₂ w₂ o₂ → Tried (λ S. then (rule S) next) c e s w r₂ c₂ s₂ w₂ o₂
  unfolding then go_on pass
  then_on {c} {e} {s} {w} {c₁} {s₁} {w₁} {o₁} {c₂} {s₂} {w₂} {o₂} {r} {r₂} p a b = record {
    sound = b.sound;
    extends = extends_then (context c) (context c₁) (context c₂) a.extends b.extends;
    outcome = λ lv.
        let first = passed r (rule (state_at c e s w lv)) (state_at c₁ e s₁ w₁ lv) o₁ p (a.outcome lv) in
        subst (λ (k : Ruled). Outcome r₂ (then k next) (state_at c₂ e s₂ w₂ lv) o₂) (sym first) (b.outcome lv);
    unchanged = λ n. b.unchanged n ∙ a.unchanged (sat_split r p);
    readable = b.readable;
  }

  -- the first answers, or has no room; the next would only add terms
  pub then_stop : {c e s w c₁ s₁ w₁ o₁ : List ℕ} {r : RuleAnswer} → (r ≡ Ok Sat → ⊥) →
      ((S : State) → Extends S.terms (next S).state.terms) → Tried rule c e s w r c₁ s₁ w₁ o₁ →
      Tried (λ S. then (rule S) next) c e s w r c₁ s₁ w₁ o₁
  unfolding then go_on answered
  then_stop {c} {e} {s} {w} {c₁} {s₁} {w₁} {o₁} {r} p grows a = record {
    sound = a.sound;
    extends = a.extends;
    outcome = λ lv. stopped r (rule (state_at c e s w lv)) (state_at c₁ e s₁ w₁ lv) p (a.outcome lv);
    unchanged = a.unchanged;
    readable = a.readable;
  }
    where
      unfit : (S : State) (a : Option Rules.TCheck) → terms_fit S.terms ≡ false → terms_fit (go_on a S next).state.terms ≡ false
      unfit S none f = unfit_more S.terms (next S).state.terms (grows S) f
      unfit S (some x) f = f

      stopped : (r : RuleAnswer) (k : Ruled) (S : State) → (r ≡ Ok Sat → ⊥) → Outcome r k S o₁ → Outcome r (then k next) S o₁
      stopped (Ok Sat) k S p x = absurd (p refl)
      stopped (Ok Conflict) k S p x = ap (λ (j : Ruled). then j next) x
      stopped (Ok Split) k S p x = ap (λ (j : Ruled). then j next) x
      stopped (Ok Unknown) k S p x = ap (λ (j : Ruled). then j next) x
      stopped (Err n) k S p x = unfit k.state k.answer x

-- a rule that marks nothing keeps the chains
pub chained : {rule : State → Ruled} {c e s w c₁ s₁ o : List ℕ} {r : RuleAnswer} → CheckSound c e s w → ChainSound c e w →
    Tried rule c e s w r c₁ s₁ w o → ChainSound c₁ e w
chained {rule} {c} {e} {s} {w} {c₁} z h a =
    chain_grows c c₁ a.extends a.sound.state.core a.sound.state.formed e w h z.work

-- ---- the ring

-- what a rule answered is the check's answer
rule_answers : (r : RuleAnswer) (k : Ruled) (S : State) (o : List ℕ) → (r ≡ Ok Sat → ⊥) → Outcome r k S o →
    Answered r (or_ring k.answer k.state) S o
unfolding answer_meaning or_ring answered
rule_answers (Ok Sat) k S o p x = absurd (p refl)
rule_answers (Ok Conflict) k S o p x = record {
  answer = λ h. ap (λ (j : Ruled). some (or_ring j.answer j.state).answer) (sym x);
  state = λ h. ap (λ (j : Ruled). (or_ring j.answer j.state).state) x;
  refused = λ h. absurd (true≢false h);
}
rule_answers (Ok Split) k S o p x = record {
  answer = λ h. ap (λ (j : Ruled). some (or_ring j.answer j.state).answer) (sym x);
  state = λ h. ap (λ (j : Ruled). (or_ring j.answer j.state).state) x;
  refused = λ h. absurd (true≢false h);
}
rule_answers (Ok Unknown) k S o p x = record {
  answer = λ h. ap (λ (j : Ruled). some (or_ring j.answer j.state).answer) (sym x);
  state = λ h. ap (λ (j : Ruled). (or_ring j.answer j.state).state) x;
  refused = λ h. absurd (true≢false h);
}
rule_answers (Err n) k S o p x = record {
  answer = λ h. absurd (false≢true h);
  state = λ h. absurd (false≢true h);
  refused = λ h. left k.answer x;
}
  where
    left : (a : Option Rules.TCheck) → terms_fit k.state.terms ≡ false → terms_fit (or_ring a k.state).state.terms ≡ false
    left none f = f
    left (some a) f = f

-- a rule before the ring answers
pub fully_stopped : {c e s w c₁ s₁ w₁ o : List ℕ} {r : RuleAnswer} → Begins c e s w → (r ≡ Ok Sat → ⊥) →
    Tried before_ring c e s w r c₁ s₁ w₁ o → ChecksFully c e s r c₁ s₁ w₁ o
unfolding full_check
fully_stopped {c} {e} {s} {w} {c₁} {s₁} {w₁} {o} {r} b p a = record {
  sound = a.sound;
  extends = a.extends;
  outcome = λ lv.
      subst (λ (S : State). Answered r (full_check S) (state_at c₁ e s₁ w₁ lv) o) (b.marks lv)
      (rule_answers r (before_ring (state_at c e s w lv)) (state_at c₁ e s₁ w₁ lv) o p (a.outcome lv));
  unchanged = λ h. a.unchanged (λ q. false≢true (sym h ∙ ap is_ok q));
  readable = a.readable;
}

-- no rule before the ring answers
pub fully_walked : {c e s w c₁ s₁ w₁ o₁ o : List ℕ} {r : RuleAnswer} {t : TCheck.TCheck} → Begins c e s w → r ≡ Ok Sat →
    Tried before_ring c e s w r c₁ s₁ w₁ o₁ → Rings c₁ e w₁ t o → ChecksFully c e s (Ok t) c₁ s₁ w₁ o
unfolding full_check or_ring pass answer_meaning
fully_walked {c} {e} {s} {w} {c₁} {s₁} {w₁} {o₁} {o} {r} {t} b p a x = record {
  sound = a.sound;
  extends = a.extends;
  outcome = λ lv.
      let first = passed r (before_ring (state_at c e s w lv)) (state_at c₁ e s₁ w₁ lv) o₁ p (a.outcome lv) in
      subst (λ (S : State). Answered (Ok t) (full_check S) (state_at c₁ e s₁ w₁ lv) o) (b.marks lv)
      (subst (λ (k : Ruled). Answered (Ok t) (or_ring k.answer k.state) (state_at c₁ e s₁ w₁ lv) o) (sym first) (last lv));
  unchanged = λ h. absurd (true≢false h);
  readable = x.readable;
}
  where
    last : (lv : ℕ → ℕ) → Answered (Ok t) (or_ring none (state_at c₁ e s₁ w₁ lv)) (state_at c₁ e s₁ w₁ lv) o
    last lv = record {
      answer = λ h. x.outcome s₁ lv;
      state = λ h. refl;
      refused = λ h. absurd (true≢false h);
    }

-- ---- the marks kept

-- the marks below x are copied
pub record Copying (s₀ w s : List ℕ) (x : ℕ) : Type 0 where
  pub fit : MarksFit s w
  pub within : x ≤ max_terms
  pub kept : Kept solver_room (BLOCK ∷ MARK ∷ []) s₀ s
  pub copied : (y : ℕ) → y < x → at s MARK y ≡ at w W_MARK y
  pub behind : (y : ℕ) → y < max_terms → x ≤ y → at s MARK y ≡ at s₀ MARK y
  pub announced : Announced s₀ MARK BLOCK → Announced s MARK BLOCK

pub copying_first : {s w : List ℕ} → MarksFit s w → Copying s w s 0
copying_first {s} f = record {
  fit = f;
  within = omega arith;
  kept = kept_none (BLOCK ∷ MARK ∷ []) s;
  copied = λ y h. absurd (omega arith);
  behind = λ y g h. refl;
  announced = λ z. z;
}

pub copying_next : {s₀ w s u : List ℕ} {x v : ℕ} → Copying s₀ w s x → x < max_terms → v ≡ at w W_MARK x → u ≡ with_mark s x v →
    Copying s₀ w u (x + 1)
copying_next {s₀} {w} {s} {u} {x} {v} q h e p =
    let l = q.fit.table in
    rw p (record {
      fit = record { table = mark_long s x v h l; work = q.fit.work };
      within = omega arith;
      kept = mark_kept s x v h (BLOCK ∷ MARK ∷ []) s₀ tt tt q.kept;
      copied =
          below_more (λ (j : ℕ). at (with_mark s x v) MARK j ≡ at w W_MARK j) x
          (λ j k. mark_other s x v h l j (omega arith) (omega arith) ∙ q.copied j k) (mark_same s x v h l ∙ e);
      behind = λ y g k. mark_other s x v h l y g (omega arith) ∙ q.behind y g (omega arith);
      announced = λ z. mark_announced s x v h l (q.announced z);
    })

-- the mark is there already
pub copying_same : {s₀ w s : List ℕ} {x k v : ℕ} → Copying s₀ w s x → x < max_terms → v ≡ at w W_MARK x → k ≡ at s MARK x → k ≡ v →
    Copying s₀ w s (x + 1)
copying_same {s₀} {w} {s} {x} q h e m d = record {
  fit = q.fit;
  within = omega arith;
  kept = q.kept;
  copied = below_more (λ (j : ℕ). at s MARK j ≡ at w W_MARK j) x q.copied (sym m ∙ d ∙ e);
  behind = λ y g k. q.behind y g (omega arith);
  announced = q.announced;
}

copying_all : {s₀ w s : List ℕ} {n x : ℕ} → Copying s₀ w s x → n ≤ x → KeepsMarks n s₀ w s
unfolding state_with dt_with is_set
copying_all {s₀} {w} {s} {n} {x} q h = record { sound = λ c e z m. state_sound z m; view = λ c e lv z m. same_state lv z m }
  where
    -- behind the last term neither table has a mark
    marked : {c e : List ℕ} → CheckSound c e s₀ w → n ≡ length (context c).terms → (y : ℕ) → y < max_terms → at s MARK y ≡ at w W_MARK y
    marked {c} {e} z m y g = go (dec_lt y x)
      where
        go : Dec (y < x) → at s MARK y ≡ at w W_MARK y
        go (yes l) = q.copied y l
        go (no l) =
            q.behind y g (omega arith)
            ∙ not_set (at s₀ MARK y) (unmarked (context c) s₀ MARK z.state.marks y (omega arith) g)
            ∙ sym (not_set (at w W_MARK y) (unmarked (context c) w W_MARK z.work.marks y (omega arith) g))

    state_sound : {c e : List ℕ} → CheckSound c e s₀ w → n ≡ length (context c).terms → StateSound c e s
    state_sound {c} {e} z m =
        let old = z.state in
        let k = q.kept in
        let fit = old.solver.records_fit in
        let count : records# s ≡ records# s₀ = k.rest COUNTS RECORDS tt (omega arith) in
        record {
          core = old.core;
          formed = old.formed;
          signed = old.signed;
          engine = old.engine;
          solver = solver_kept k tt tt tt tt old.solver;
          registered = subst (λ (t : List ℕ). (x : Registered) → In x (atoms t) → x.atom < length (context c).terms)
              (sym (registry_kept k tt old.solver.long)) old.registered;
          marks = λ y g. subst (λ (v : ℕ). (v ≡ 0) ⊎ (v ≡ term_kind (context c) y)) (sym (marked z m y g)) (z.work.marks y g);
          announced = q.announced old.announced;
          collected = λ y g e'. collected y g (old.collected y g (sym (ap is_set (k.rest COLLECTED y tt g)) ∙ e'));
          lasting = λ y g e'. old.lasting y g (sym (ap is_set (k.rest LASTING y tt g)) ∙ e');
          records = λ i g. subst⁻¹ (EntryFits (context c)) (k.rest ENTRY i tt (omega arith)) (old.records i (omega arith));
        }
      where
        -- a collected term has its mark in the work table too
        same_mark : (y : ℕ) → y < max_terms → at s₀ MARK y ≡ term_kind (context c) y → at w W_MARK y ≡ term_kind (context c) y
        same_mark y g k = by_test (is_set (at s₀ MARK y)) (λ t. z.more y g t ∙ k)
            (λ f. ⊎_elim (λ j. j ∙ sym (not_set (at s₀ MARK y) f) ∙ k) (λ j. j) (z.work.marks y g))

        collected : (y : ℕ) → y < max_terms → CollectedSound (context c) s₀ y → CollectedSound (context c) s y
        collected y g r =
            let few = z.state.core.terms_fit in
            let terms = z.state.core.term_count in
            record {
              within = r.within;
              mark = marked z m y g ∙ same_mark y g r.mark;
              below = λ x i.
                  let x_lower = z.state.formed.lower y r.within x i in
                  ap is_set (q.kept.rest COLLECTED x tt (omega arith)) ∙ r.below x i;
            }

    same_state : {c e : List ℕ} (lv : ℕ → ℕ) → CheckSound c e s₀ w → n ≡ length (context c).terms → state c e s lv ≡ state_at c e s₀ w lv
    same_state {c} {e} lv z p =
        let k = q.kept in
        let old = z.state.solver in
        let fit = old.records_fit in
        let r = registry_kept k tt old.long in
        let m = flagged_same w s W_MARK MARK 0 (λ y l g. ap is_set (marked z p y g)) in
        let count = k.rest COUNTS RECORDS tt (omega arith) in
        let es = record_kept k (of_sign true) lv fit count tt in
        let ns = record_kept k (of_sign false) lv fit count tt in
        let ds = record_kept k of_unequal lv fit count tt in
        let la = flagged_kept k LASTING 0 tt refl in
        let em = flagged_kept k EMITTED 0 tt refl in
        let sp = flagged_kept k SPLIT 0 tt refl in
        λ j. record {
          terms = context c;
          eq = merges e;
          atoms = atoms (r j);
          level = level e;
          dt = record {
            marks = m j;
            level_record = es j;
            negative_record = ns j;
            disequalities = ds j;
            lasting = la j;
            emitted = em j;
            split_done = sp j;
          };
        }

pub copying_done : (c : List ℕ) {s₀ w s : List ℕ} {n x : ℕ} → (n ≡ length (context c).terms) × (n ≤ max_terms) → Copying s₀ w s x → n ≤ x →
    KeepsMarks (length (context c).terms) s₀ w s
copying_done c {s₀} {w} {s} (e, f) q h = subst (λ (k : ℕ). KeepsMarks k s₀ w s) e (copying_all q h)

-- ---- a check

-- a sound table fits
pub fits_now : (c : List ℕ) → ContextSound c → terms_fit (context c) ≡ true
unfolding terms_fit
fits_now c z =
    let p = places_are c z in
    let f = z.places_fit in
    let g = z.terms_fit in
    let n = z.term_count in
    rw (le-leb (length (context c).terms) max_terms (omega arith), le-leb (places (context c)) max_places (omega arith))

-- a check that is not full
pub check_idle : {full : Bool} {c e s o : List ℕ} → not full ≡ true → StateSound c e s → Checks full c e s (Ok Sat) c s o
unfolding check answer_meaning state_with
check_idle {full} {c} {e} {s} {o} n z =
    let f = fits_now c z.core in
    subst (λ (b : Bool). Checks b c e s (Ok Sat) c s o) (sym (not-true full n))
    (record { sound = z; answer = λ lv. rw f; view = λ lv. rw f; readable = tt })

-- a check that fits
pub check_kept : {full : Bool} {c e s c₁ s₁ w s₂ o : List ℕ} {r : RuleAnswer} → not full ≡ false →
    ChecksFully c e s r c₁ s₁ w o → is_ok r ≡ true → KeepsMarks (length (context c₁).terms) s₁ w s₂ → Checks full c e s r c₁ s₂ o
unfolding check state_with
check_kept {full} {c} {e} {s} {c₁} {s₁} {w} {s₂} {o} {r} n x h k =
    subst (λ (b : Bool). Checks b c e s r c₁ s₂ o) (sym (not-false full n)) (record {
      sound = k.sound c₁ e x.sound refl;
      answer = λ lv. rw (fits lv) ((x.outcome lv).answer h);
      view = λ lv. rw (fits lv) (k.view c₁ e lv x.sound refl ∙ sym ((x.outcome lv).state h));
      readable = x.readable;
    })
  where
    fits : (lv : ℕ → ℕ) → terms_fit (full_check (state c e s lv)).state.terms ≡ true
    fits lv = ap (λ (S : State). terms_fit S.terms) ((x.outcome lv).state h) ∙ fits_now c₁ x.sound.state.core

-- one with a work table, by whether it fits
module _ {c e s c₁ s₁ w o : List ℕ} where
  pub classes_kept : {t : TCheck.TCheck} {s₂ : List ℕ} → ChecksFully c e s (Ok t) c₁ s₁ w o →
      KeepsMarks (length (context c₁).terms) s₁ w s₂ → ChecksKept c e s (Ok t) c₁ s₂ o
  classes_kept x k = record { fits = λ h. check_kept refl x refl k; refused = λ h. absurd (true≢false h) }

  pub classes_refused : {n : NoRoom} → ChecksFully c e s (Err n) c₁ s₁ w o → ChecksKept c e s (Err n) c₁ s₁ o
  classes_refused x = record { fits = λ h. absurd (false≢true h); refused = λ h. (w, x) }

-- the first terms of a table that has grown
cut_back : (a b : Context) → Extends a b → cut_terms (length a.terms) b ≡ a
unfolding cut_terms
cut_back a b (new, e) =
    ap (cut_terms (length a.terms)) e
    ∙ (λ j. record { sorts = a.sorts; symbols = a.symbols; terms = take_at a.terms new (length a.terms) refl j })

-- the same context in another table
moved : {c d e s : List ℕ} → ContextSound d → context d ≡ context c → StateSound c e s → StateSound d e s
moved {c} {d} {e} {s} y q z =
    let p = sym q in
    record {
      core = y;
      formed = subst Formed p z.formed;
      signed = subst Signed p z.signed;
      engine = z.engine;
      solver = z.solver;
      registered = subst (λ (cx : Context). (r : Registered) → In r (atoms (registry s)) → r.atom < length cx.terms) p z.registered;
      marks = subst (λ (cx : Context). MarksAre cx s MARK) p z.marks;
      announced = z.announced;
      collected = subst (λ (cx : Context). (x : ℕ) → x < max_terms → is_set (at s COLLECTED x) ≡ true →
          CollectedSound cx s x) p z.collected;
      lasting = subst (λ (cx : Context). (x : ℕ) → x < max_terms → is_set (at s LASTING x) ≡ true → term_kind cx x ≡ 4) p z.lasting;
      records = subst (λ (cx : Context). (i : ℕ) → i < records# s → EntryFits cx (at s ENTRY i)) p z.records;
    }

-- a check that does not fit
pub check_refused : {full : Bool} {c e s c₁ s₁ w c₂ o : List ℕ} {r : RuleAnswer} {n : ℕ} → not full ≡ false →
    StateSound c e s → n ≡ length (context c).terms →
    ChecksFully c e s r c₁ s₁ w o → is_ok r ≡ false → ContextSound c₂ → context c₂ ≡ cut_terms n (context c₁) →
    Checks full c e s r c₂ s₁ o
unfolding check state_with answer_meaning
check_refused {full} {c} {e} {s} {c₁} {s₁} {w} {c₂} {o} {r} {n} is_full z m x h y v =
    subst (λ (b : Bool). Checks b c e s r c₂ s₁ o) (sym (not-false full is_full)) (record {
      sound = subst (StateSound c₂ e) (sym (x.unchanged h)) (moved y same z);
      answer = λ lv. rw ((x.outcome lv).refused h) (no_meaning r h);
      view = λ lv. rw ((x.outcome lv).refused h) (ap (λ (t : List ℕ). state c₂ e t lv) (x.unchanged h) ∙ as_before lv);
      readable = x.readable;
    })
  where
    no_meaning : (r : RuleAnswer) → is_ok r ≡ false → answer_meaning r o ≡ none
    no_meaning (Ok t) q = absurd (true≢false q)
    no_meaning (Err n) q = refl

    same : context c₂ ≡ context c
    same = v ∙ ap (λ (k : ℕ). cut_terms k (context c₁)) m ∙ cut_back (context c) (context c₁) x.extends

    as_before : (lv : ℕ → ℕ) → state c₂ e s lv ≡ state c e s lv
    as_before lv =
        λ j. record {
          terms = same j;
          eq = merges e;
          atoms = atoms (registry s);
          level = level e;
          dt = dt_with s lv (flagged_from s MARK 0);
        }

-- the terms that were there are still there
pub terms_left : {c e s c₁ s₁ w o : List ℕ} {r : RuleAnswer} {n : ℕ} → n ≡ length (context c).terms → ChecksFully c e s r c₁ s₁ w o →
    n ≤ length (context c₁).terms
terms_left {c} {c₁ = c₁} m x = let l = extends_length (context c) (context c₁) x.extends in omega arith

-- a full check, by whether it fits
module _ {c e s c₁ s₁ o : List ℕ} {r : RuleAnswer} (x : ChecksKept c e s r c₁ s₁ o) where
  pub check_fits : {full : Bool} → not full ≡ false → is_ok r ≡ true → Checks full c e s r c₁ s₁ o
  check_fits {full} n h = subst (λ (t : Bool). Checks t c e s r c₁ s₁ o) (sym (not-false full n)) (x.fits h)

  module _ {n : ℕ} (m : n ≡ length (context c).terms) (h : is_ok r ≡ false) where
    -- its terms may be given back
    pub check_left : ContextSound c₁ × (n ≤ length (context c₁).terms)
    check_left = let (w, y) = x.refused h in (y.sound.state.core, terms_left m y)

    pub check_cut : {full : Bool} {c₂ : List ℕ} → not full ≡ false → StateSound c e s → ContextSound c₂ →
        context c₂ ≡ cut_terms n (context c₁) → Checks full c e s r c₂ s₁ o
    check_cut f z y v = let (w, k) = x.refused h in check_refused f z m k h y v
