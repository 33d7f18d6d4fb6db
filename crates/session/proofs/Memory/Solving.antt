-- The lines of the solver. The mark counts stay sound since the records lose no entry.
use Rattle.std.specs.Prelude.{Ok, Err}
use Rattle.shinri_core.proofs.Kit.{ℕ, zero, suc, ◌+◌, ◌≤◌, ◌<◌, ◌≡◌, refl, sym, ap, ◌∙◌, subst⁻¹, Bool, true, false, cond, not, ◌&&◌, true≢false, List, Option, none, some, arith, length, eq-eqb, ne_eqb, ltb, ltb-true, not-false}
use borrow.Author.Tests.{not-true, lt-ltb}
use Rattle.shinri_core.specs.Limits.{max_terms, max_vars}
use Rattle.shinri_core.specs.Lists.{gather, cons_option, range}
use Rattle.shinri_core.specs.Ids as Ids
use Rattle.shinri_core.specs.Term.{Eq}
use Rattle.shinri_core.specs.Context.{sort_of, terms_fit}
use Rattle.shinri_core.specs.Memory.Table.{context}
use Rattle.shinri_core.specs.declared.limits.NoRoom.{NoRoom}
use Rattle.shinri_core.proofs.Lists.{true_T}
use Rattle.theory.specs.Types.{EqLeaf}
use Rattle.theory.specs.Atom.{is_registered, register}
use Rattle.theory.specs.Memory.Answer.{answer_size}
use Rattle.theory.specs.Memory.Registry.{atoms}
use Rattle.solver.specs.State.{State, AssertedAtom, with_atoms, with_marks, with_dt}
use Rattle.solver.specs.Records as Records
use Rattle.solver.specs.Rules as Rules
use Rattle.solver.specs.Check as Check
use Rattle.solver.specs.declared.answer.TCheck as TCheck
use Rattle.solver.specs.Memory.Table.{UNEQUAL, records#, registry, of_sign, of_unequal, entry_key, entry_rest, asserted, entry_of, record_of, dt_with, state_with, state, StateSound}
use Rattle.solver.specs.Memory.Answer as SolverAnswer
use Rattle.solver.specs.Memory.Answer.{RuleAnswer, Readable}
use Rattle.solver.specs.Memory.Levels.{entry_level, MarksSound}
use Rattle.solver.specs.Memory.Testing.{ConflictIs}
use Rattle.solver.specs.Memory.Recording.{MayRegister, Registers, Collecting, CollectsVar}
use Rattle.solver.specs.Memory.Asserting.{Assertable, Asserts}
use Rattle.solver.specs.Memory.Disequalities.{Differable, Differs}
use Rattle.solver.specs.Memory.Checks.{Checks}
use Rattle.solver.proofs.Basics.{by_test, some_is, some_none, none_some}
use Rattle.solver.proofs.Terms.{same_op_eq}
use Rattle.solver.proofs.Clash.{Ready, Assertion, Affirmed, Negated, Unequal, record_by}
use Rattle.solver.proofs.Answers.{full_check_well}
use Rattle.solver.proofs.Memory.Levels.{newest_level, marks_more}
use Rattle.solver.proofs.Memory.Collecting.{collecting}
use Rattle.solver.proofs.Memory.Entries.{records_sound}
use Rattle.session.specs.Line.{Register, Assert, Differ}
use Rattle.session.specs.Line as Line
use Rattle.session.specs.Answer as Answer
use Rattle.session.specs.Session as Session
use Rattle.session.specs.Session.{after_close, exist, agree, unregistered, term_exists, questions, first_no, perform, done, conflict_or_ok}
use Rattle.session.specs.declared.answer.Refusal as GivenRefusal
use Rattle.session.specs.declared.answer.Answer as Given
use Rattle.session.specs.Memory.Answers.{LineAnswer, refusal_meaning, answer_meaning, Printable}
use Rattle.session.specs.Memory.Questions.{var_named, var_exists, disequality, NamesLit}
use Rattle.session.specs.Memory.Sessions.{Beside, session, SessionSound, Reached, Answers, AnswersWith, AnswersSolver, AnswersCheck, FitsWith, asserted_answer, checked_answer}
use Rattle.session.proofs.Memory.Questions.{and_left, and_right}
use Rattle.session.proofs.Memory.Answering.{Refused, no_here, yes_here, yes_last, unfit_terms, refuses, no_room, accepts}
use Rattle.session.proofs.Memory.Merging.{lit_named}
use Rattle.session.proofs.Claim.{reached_ready}

-- ---- mark counts

-- each entry of a table stands in one of the three records
each_counted : (s : List ℕ) (lv : ℕ → ℕ) (a n : ℕ) →
    length (gather (entry_of (of_sign true) s lv) (range a n))
    + (length (gather (entry_of (of_sign false) s lv) (range a n)) + length (gather (entry_of of_unequal s lv) (range a n)))
    ≡ n
unfolding gather range cons_option entry_of of_sign of_unequal
each_counted s lv a zero = refl
each_counted s lv a (suc n) = go (ltb (entry_key s a) max_terms) (ltb (entry_key s a) UNEQUAL) below (each_counted s lv (suc a) n)
  where
    entry : Option AssertedAtom
    entry = some (asserted (entry_key s a) (entry_rest s a) (lv a))

    of : (ℕ → Bool) → List AssertedAtom
    of p = gather (entry_of p s lv) (range (suc a) n)

    below : ltb (entry_key s a) max_terms ≡ true → ltb (entry_key s a) UNEQUAL ≡ true
    below e = let l = ltb-true (entry_key s a) max_terms e in lt-ltb (entry_key s a) UNEQUAL (omega arith)

    go : (b d : Bool) → (b ≡ true → d ≡ true) → length (of (of_sign true)) + (length (of (of_sign false)) + length (of of_unequal)) ≡ n →
        length (cons_option (cond b entry none) (of (of_sign true)))
        + (length (cons_option (cond (not b && d) entry none) (of (of_sign false)))
        + length (cons_option (cond (not d) entry none) (of of_unequal)))
        ≡ suc n
    go true true f h = omega arith
    go true false f h = absurd (true≢false (sym (f refl)))
    go false true f h = omega arith
    go false false f h = omega arith

-- the records of a state are as they were
abbrev SameRecords : State → State → Type 0
SameRecords st st' = (b : Assertion) → record_by st' b ≡ record_by st b

-- then the table has as many entries as before
same_count : (c e s c' e' u : List ℕ) (lv : ℕ → ℕ) → SameRecords (state c e s lv) (state c' e' u lv) → records# u ≡ records# s
unfolding state_with dt_with record_of
same_count c e s c' e' u lv h =
    let p = ap length (h Affirmed) in
    let q = ap length (h Negated) in
    let r = ap length (h Unequal) in
    let a = each_counted u lv 0 (records# u) in
    let b = each_counted s lv 0 (records# s) in
    omega arith

-- and the same mark counts
marks_stay : (c e s c' e' u : List ℕ) (m : Beside) → MarksSound s m.marks →
    SameRecords (state c e s (entry_level m.marks)) (state c' e' u (entry_level m.marks)) → MarksSound u m.marks
marks_stay c e s c' e' u m z h = let n = same_count c e s c' e' u (entry_level m.marks) h in marks_more z (omega arith)

-- ---- `var`

module _ (c s : List ℕ) (v x : ℕ) (r : Bool) (F : FitsWith c s) (named : r ≡ var_named c v x) (yes_named : not r ≡ false) where
  var_yes : var_named c v x ≡ true
  var_yes = sym named ∙ not-false r yes_named

  pub var_term : x < length (context c).terms
  var_term = ltb-true x (length (context c).terms) (and_right (ltb v max_vars) _ var_yes)

  pub var_may : (b : Bool) → b ≡ is_registered (atoms (registry s)) v → b ≡ false → MayRegister s v x
  var_may b e n =
      let S = F.1 in
      let t = var_term in
      let count = S.core.term_count in
      let few = S.core.terms_fit in
      record { sound = S.solver; var = ltb-true v max_vars (and_left _ _ var_yes); atom = omega arith; new = sym e ∙ n }

  pub var_collecting : (u : List ℕ) → Registers s v x u → Collecting c u
  var_collecting u R = collecting (R.sound c F.0 F.1 var_term)

module _ {c s : List ℕ} {closed : Bool} {v x : ℕ} where
  pub var_early : not closed ≡ true → AnswersSolver closed (Register v x) c s (Refused GivenRefusal.TheVariants.Misplaced) s
  unfolding questions after_close session refusal_meaning
  var_early w e o m z q = refuses o z GivenRefusal.TheVariants.Misplaced (no_here _ _ (q ∙ not-true closed w))

  pub var_missing : {r : Bool} → not closed ≡ false → r ≡ var_named c v x → not r ≡ true →
      AnswersSolver closed (Register v x) c s (Refused GivenRefusal.TheVariants.Missing) s
  unfolding questions after_close exist term_exists session state_with refusal_meaning
  var_missing {r} w p n e o m z q =
      refuses o z GivenRefusal.TheVariants.Missing (yes_here _ _ (q ∙ not-false closed w) ∙ no_here _ _ (sym p ∙ not-true r n))

  module _ {r : Bool} {a : ℕ} (w : not closed ≡ false) (p : r ≡ var_named c v x) (n : not r ≡ false) (d : a ≡ sort_of (context c) x) where
    pub var_disagrees : (a ≡ 0 → ⊥) → AnswersSolver closed (Register v x) c s (Refused GivenRefusal.TheVariants.Disagreeing) s
    unfolding questions after_close exist agree term_exists session state_with refusal_meaning
    var_disagrees k e o m z q =
        refuses o z GivenRefusal.TheVariants.Disagreeing
        (yes_here _ _ (q ∙ not-false closed w) ∙ yes_here _ _ (sym p ∙ not-false r n)
        ∙ no_here _ _ (ne_eqb (sort_of (context c) x) 0 (λ f. k (d ∙ f))))

    module _ {b : Bool} (k : a ≡ 0) (g : b ≡ is_registered (atoms (registry s)) v) where
      pub var_again : b ≡ true → AnswersSolver closed (Register v x) c s (Refused GivenRefusal.TheVariants.Registered) s
      unfolding questions after_close exist agree unregistered term_exists session state_with refusal_meaning
      var_again y e o m z q =
          refuses o z GivenRefusal.TheVariants.Registered
          (yes_here _ _ (q ∙ not-false closed w) ∙ yes_here _ _ (sym p ∙ not-false r n)
          ∙ yes_here _ _ (eq-eqb (sort_of (context c) x) 0 (sym d ∙ k)) ∙ no_here _ _ (ap not (sym g ∙ y)))

      pub var_registered : {u s' : List ℕ} → b ≡ false → Registers s v x u → CollectsVar c u x s' →
          AnswersSolver closed (Register v x) c s (Ok Given.TheVariants.Ok) s'
      unfolding questions after_close exist agree unregistered term_exists session state_with perform done answer_meaning Records.new_var with_atoms with_marks with_dt
      var_registered {u} {s'} y R C e o m z q =
          let lv = entry_level m.marks in
          let t = var_term c s v x r (e, z.state) p n in
          let S = C.sound e (R.sound c e z.state t) in
          let is : state c e s' lv ≡ Records.new_var (with_atoms (state c e s lv) (register (atoms (registry s)) v x)) x =
          C.state e lv ∙ ap (λ (st : State). Records.new_var st x) (R.state c e lv)
          in
          let z' : SessionSound c e s' m = record {
            state = S;
            marks = marks_stay c e s c e s' m z.marks (λ b. ap (λ (st : State). record_by st b) is);
            levels = z.levels;
            unclosed = λ h. absurd (true≢false (sym (q ∙ not-false closed w) ∙ h));
          } in
          accepts o z tt
          (yes_here _ _ (q ∙ not-false closed w) ∙ yes_here _ _ (sym p ∙ not-false r n)
          ∙ yes_here _ _ (eq-eqb (sort_of (context c) x) 0 (sym d ∙ k)) ∙ yes_last _ (ap not (sym g ∙ y)))
          z' (λ i. record { answer = Answer.Ok; session = record { state = sym is i; closed = m.closed } })

-- ---- `assert`

-- the answer, by what the code says
assert_says : (r : TCheck.TCheck) (w : Option (List EqLeaf)) (o : List ℕ) → ConflictIs r w o →
    answer_meaning (asserted_answer r) o ≡ conflict_or_ok w
unfolding asserted_answer answer_meaning conflict_or_ok
assert_says TCheck.TheVariants.Sat w o e = sym (ap conflict_or_ok e)
assert_says TCheck.TheVariants.Conflict w o e = sym (ap conflict_or_ok e)
assert_says TCheck.TheVariants.Split w o e = absurd e
assert_says TCheck.TheVariants.Unknown w o e = absurd e

assert_printable : (r : TCheck.TCheck) (o : List ℕ) → Readable (Ok r) o → Printable (asserted_answer r) o
unfolding asserted_answer
assert_printable TCheck.TheVariants.Sat o h = tt
assert_printable TCheck.TheVariants.Conflict o h = h
assert_printable TCheck.TheVariants.Split o h = h
assert_printable TCheck.TheVariants.Unknown o h = tt

pub assert_may : (c e s o : List ℕ) (l : ℕ) (r : Bool) → StateSound c e s → answer_size ≤ length o →
    r ≡ var_exists s l → not r ≡ false → Assertable c e s l o
assert_may c e s o l r S h p n = record { sound = S; registered = sym p ∙ not-false r n; long = h }

module _ {c e s : List ℕ} {closed : Bool} {l : ℕ} where
  pub assert_early : {o : List ℕ} → not closed ≡ true →
      AnswersWith closed (Assert l) c e s (Refused GivenRefusal.TheVariants.Misplaced) c e s o
  unfolding questions after_close session refusal_meaning
  assert_early {o} w m z q = refuses o z GivenRefusal.TheVariants.Misplaced (no_here _ _ (q ∙ not-true closed w))

  pub assert_missing : {o : List ℕ} {r : Bool} → not closed ≡ false → r ≡ var_exists s l → not r ≡ true →
      AnswersWith closed (Assert l) c e s (Refused GivenRefusal.TheVariants.Missing) c e s o
  unfolding questions after_close exist Session.var_exists session state_with refusal_meaning
  assert_missing {o} {r} w p n m z q =
      refuses o z GivenRefusal.TheVariants.Missing (yes_here _ _ (q ∙ not-false closed w) ∙ no_here _ _ (sym p ∙ not-true r n))

  pub assert_done : {s' o : List ℕ} {r : Bool} {k : TCheck.TCheck} {a : LineAnswer} → not closed ≡ false →
      r ≡ var_exists s l → not r ≡ false → Asserts c e s l k s' o → a ≡ asserted_answer k →
      AnswersWith closed (Assert l) c e s a c e s' o
  unfolding questions after_close exist Session.var_exists session state_with perform done
  assert_done {s'} {o} {r} {k} w p n A i m z q =
      let lv = entry_level m.marks in
      let is = A.state lv (newest_level z.marks ∙ z.levels) in
      let z' : SessionSound c e s' m = record {
        state = A.sound;
        marks = A.marks m.marks z.marks;
        levels = z.levels;
        unclosed = λ h. absurd (true≢false (sym (q ∙ not-false closed w) ∙ h));
      } in
      subst⁻¹ (λ (x : LineAnswer). Answers (Assert l) c e s m x c e s' m o) i
      (accepts o z (assert_printable k o A.readable) (yes_here _ _ (q ∙ not-false closed w) ∙ yes_last _ (sym p ∙ not-false r n)) z'
      (λ j. record { answer = sym (assert_says k _ o (A.conflict lv)) j; session = record { state = is j; closed = m.closed } }))

-- ---- `differ`

-- the literal's variable is registered, and it is the negation of an equation
module _ (c s : List ℕ) (l : ℕ) (r : Bool) (F : FitsWith c s) (p : r ≡ var_exists s l) (n : not r ≡ false) where
  pub differ_named : NamesLit c s l
  differ_named = lit_named c F.0 s l r F.1 p n

  pub differ_may : (b : Bool) → b ≡ disequality c s l → not b ≡ false → Differable s l
  differ_may b d k = record {
    sound = records_sound F.1;
    registered = sym p ∙ not-false r n;
    negative = not-true (Ids.is_positive l) (and_left _ _ (sym d ∙ not-false b k));
  }

module _ {c s : List ℕ} {closed : Bool} {l : ℕ} where
  pub differ_early : not closed ≡ true → AnswersSolver closed (Differ l) c s (Refused GivenRefusal.TheVariants.Misplaced) s
  unfolding questions after_close session refusal_meaning
  differ_early w e o m z q = refuses o z GivenRefusal.TheVariants.Misplaced (no_here _ _ (q ∙ not-true closed w))

  pub differ_missing : {r : Bool} → not closed ≡ false → r ≡ var_exists s l → not r ≡ true →
      AnswersSolver closed (Differ l) c s (Refused GivenRefusal.TheVariants.Missing) s
  unfolding questions after_close exist Session.var_exists session state_with refusal_meaning
  differ_missing {r} w p n e o m z q =
      refuses o z GivenRefusal.TheVariants.Missing (yes_here _ _ (q ∙ not-false closed w) ∙ no_here _ _ (sym p ∙ not-true r n))

  module _ {r b : Bool} (w : not closed ≡ false) (p : r ≡ var_exists s l) (n : not r ≡ false) (d : b ≡ disequality c s l) where
    pub differ_other : not b ≡ true → AnswersSolver closed (Differ l) c s (Refused GivenRefusal.TheVariants.NotDisequality) s
    unfolding questions after_close exist Session.disequality Session.is_equation Session.var_exists Session.atom_of session state_with refusal_meaning
    differ_other k e o m z q =
        refuses o z GivenRefusal.TheVariants.NotDisequality
        (yes_here _ _ (q ∙ not-false closed w) ∙ yes_here _ _ (sym p ∙ not-false r n) ∙ no_here _ _ (sym d ∙ not-true b k))

    pub differ_done : {s' : List ℕ} → not b ≡ false → Differs s l s' → AnswersSolver closed (Differ l) c s (Ok Given.TheVariants.Ok) s'
    unfolding questions after_close exist Session.disequality Session.is_equation Session.var_exists Session.atom_of session state_with perform done answer_meaning
    differ_done {s'} k D e o m z q =
        let lv = entry_level m.marks in
        let is = D.state c e lv (newest_level z.marks ∙ z.levels) in
        let z' : SessionSound c e s' m = record {
          state =
              D.state_sound c e z.state
              (same_op_eq _ Eq (true_T _ (and_right (not (Ids.is_positive l)) _ (sym d ∙ not-false b k))));
          marks = D.marks m.marks z.marks;
          levels = z.levels;
          unclosed = λ h. absurd (true≢false (sym (q ∙ not-false closed w) ∙ h));
        } in
        accepts o z tt
        (yes_here _ _ (q ∙ not-false closed w) ∙ yes_here _ _ (sym p ∙ not-false r n) ∙ yes_last _ (sym d ∙ not-false b k)) z'
        (λ i. record { answer = Answer.Ok; session = record { state = sym is i; closed = m.closed } })

-- ---- `check`

check_says : (r : RuleAnswer) (k : Rules.TCheck) (o : List ℕ) → SolverAnswer.answer_meaning r o ≡ some k →
    answer_meaning (checked_answer r) o ≡ Answer.Checked k
unfolding SolverAnswer.answer_meaning answer_meaning checked_answer
check_says (Ok TCheck.TheVariants.Sat) k o e = ap Answer.Checked (some_is _ k e)
check_says (Ok TCheck.TheVariants.Conflict) k o e = ap Answer.Checked (some_is _ k e)
check_says (Ok TCheck.TheVariants.Split) k o e = ap Answer.Checked (some_is _ k e)
check_says (Ok TCheck.TheVariants.Unknown) k o e = ap Answer.Checked (some_is _ k e)
check_says (Err n) k o e = absurd (none_some k e)

check_full : (r : RuleAnswer) (o : List ℕ) → SolverAnswer.answer_meaning r o ≡ none →
    checked_answer r ≡ Refused GivenRefusal.TheVariants.NoRoom
unfolding SolverAnswer.answer_meaning checked_answer
check_full (Ok TCheck.TheVariants.Sat) o e = absurd (some_none _ e)
check_full (Ok TCheck.TheVariants.Conflict) o e = absurd (some_none _ e)
check_full (Ok TCheck.TheVariants.Split) o e = absurd (some_none _ e)
check_full (Ok TCheck.TheVariants.Unknown) o e = absurd (some_none _ e)
check_full (Err n) o e = refl

check_printable : (r : RuleAnswer) (o : List ℕ) → Readable r o → Printable (checked_answer r) o
unfolding checked_answer
check_printable (Ok TCheck.TheVariants.Sat) o h = tt
check_printable (Ok TCheck.TheVariants.Conflict) o h = h
check_printable (Ok TCheck.TheVariants.Split) o h = h
check_printable (Ok TCheck.TheVariants.Unknown) o h = tt
check_printable (Err n) o h = tt

-- a check leaves the records
check_entries : (full : Bool) (st : State) → Ready st → SameRecords st (Check.check full st).state
unfolding Check.check
check_entries false st R = λ b. refl
check_entries true st R = (full_check_well st R).follows.entries

cond_entries : (d : Bool) (x y : State) → SameRecords y x → SameRecords y (cond d x y)
cond_entries true x y h = h
cond_entries false x y h = λ b. refl

module _ {c e s : List ℕ} {closed full : Bool} where
  pub check_early : {o : List ℕ} → not closed ≡ true → AnswersCheck closed full c e s (Refused GivenRefusal.TheVariants.Misplaced) c s o
  unfolding questions after_close session refusal_meaning
  check_early {o} w m z R q = refuses o z GivenRefusal.TheVariants.Misplaced (no_here _ _ (q ∙ not-true closed w))

  module _ {c' s' o : List ℕ} {r : RuleAnswer} (w : not closed ≡ false) (K : Checks full c e s r c' s' o) (m : Beside)
      (z : SessionSound c e s m) (R : Reached (session c e s m)) (q : m.closed ≡ closed) where
    abbrev lv : ℕ → ℕ
    lv = entry_level m.marks

    abbrev after_check : Check.Checked
    after_check = Check.check full (state c e s lv)

    check_sound : SessionSound c' e s' m
    unfolding session
    check_sound = record {
      state = K.sound;
      marks = marks_stay c e s c' e s' m z.marks
          (λ b. ap (λ (st : State). record_by st b) (K.view lv)
          ∙ cond_entries (terms_fit after_check.state.terms) after_check.state (state c e s lv)
          (check_entries full (state c e s lv) (reached_ready (session c e s m) R)) b);
      levels = z.levels;
      unclosed = λ h. absurd (true≢false (sym (q ∙ not-false closed w) ∙ h));
    }

    check_asked : first_no (questions (session c e s m) (Line.Check full)) ≡ none
    unfolding questions after_close session
    check_asked = yes_last _ (q ∙ not-false closed w)

    check_fits : terms_fit after_check.state.terms ≡ true → Answers (Line.Check full) c e s m (checked_answer r) c' e s' m o
    unfolding perform done session
    check_fits f =
        let is : state c' e s' lv ≡ after_check.state = K.view lv ∙ rw f in
        let says : SolverAnswer.answer_meaning r o ≡ some after_check.answer = K.answer lv ∙ rw f in
        accepts o z (check_printable r o K.readable) check_asked check_sound
        (λ j. record {
          answer = sym (check_says r after_check.answer o says) j;
          session = record { state = sym is j; closed = m.closed };
        })

    check_unfit : terms_fit after_check.state.terms ≡ false → Answers (Line.Check full) c e s m (checked_answer r) c' e s' m o
    unfolding perform done session
    check_unfit f =
        let same : state c' e s' lv ≡ state c e s lv = K.view lv ∙ rw f in
        let says : SolverAnswer.answer_meaning r o ≡ none = K.answer lv ∙ rw f in
        let no : Answers (Line.Check full) c e s m (Refused GivenRefusal.TheVariants.NoRoom) c e s m o =
        no_room o z check_asked (unfit_terms after_check.state f)
        in
        subst⁻¹ (λ (x : LineAnswer). Answers (Line.Check full) c e s m x c' e s' m o) (check_full r o says)
        (record {
          sound = check_sound;
          printable = tt;
          performed = no.performed ∙ (λ j. record {
            answer = answer_meaning (Refused GivenRefusal.TheVariants.NoRoom) o;
            session =
                record { state = sym same j; closed = m.closed };
          });
        })

  pub check_done : {c' s' o : List ℕ} {r : RuleAnswer} {a : LineAnswer} → not closed ≡ false → Checks full c e s r c' s' o →
      a ≡ checked_answer r → AnswersCheck closed full c e s a c' s' o
  check_done {c'} {s'} {o} {r} w K i m z R q =
      subst⁻¹ (λ (x : LineAnswer). Answers (Line.Check full) c e s m x c' e s' m o) i
      (by_test (terms_fit (Check.check full (state c e s (entry_level m.marks))).state.terms) (check_fits w K m z R q)
      (check_unfit w K m z R q))

-- ---- the answer

pub check_told : {r : RuleAnswer} {k : TCheck.TCheck} {a : Given.Answer} → r ≡ Ok k → Ok a ≡ checked_answer (Ok k) → Ok a ≡ checked_answer r
check_told e h = h ∙ sym (ap checked_answer e)

pub checked_full : {r : RuleAnswer} {n : NoRoom} → r ≡ Err n → Refused GivenRefusal.TheVariants.NoRoom ≡ checked_answer r
unfolding checked_answer
checked_full e = sym (ap checked_answer e)
