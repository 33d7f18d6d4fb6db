-- The lines before `close`. As long as none was accepted there are no terms, so a signature that stays well formed is all that the
-- tables need.
use Rattle.std.specs.Prelude.{Result, Ok, Err}
use Rattle.shinri_core.proofs.Kit.{ℕ, ◌≤◌, ◌<◌, ◌≡◌, refl, sym, ap, ◌∙◌, subst, subst⁻¹, Bool, true, false, not, true≢false, List, [], none, inl, arith, length, ltb, ltb-true, not-false}
use borrow.Author.Tests.{not-true}
use Rattle.shinri_core.specs.Limits.{max_params}
use Rattle.shinri_core.specs.Lists.{In}
use Rattle.shinri_core.specs.Sort.{SortNode}
use Rattle.shinri_core.specs.Context.{Context, declare_sort, dt_add_constructor, declare_fun, with_symbols, is_datatype_sort, declarations_fit}
use Rattle.shinri_core.specs.Formed.{Formed, Signed}
use Rattle.shinri_core.specs.declared.limits.NoRoom.{NoRoom}
use Rattle.shinri_core.specs.Memory.Words.{at}
use Rattle.shinri_core.specs.Memory.Codes.{Declares}
use Rattle.shinri_core.specs.Memory.Table.{context, ContextSound, MayDeclare}
use Rattle.shinri_core.proofs.Lists.{true_T}
use Rattle.theory.specs.Atom.{Registered}
use Rattle.theory.specs.Memory.Table.{EngineSound}
use Rattle.solver.specs.State.{with_terms}
use Rattle.solver.specs.Memory.Table.{MARK, COLLECTED, LASTING, state_with, StateSound}
use Rattle.solver.proofs.Basics.{by_test}
use Rattle.solver.proofs.Signature.{sort_signed, fun_signed, ctor_signed}
use Rattle.solver.proofs.Memory.Registering.{cleared_announced, unflagged, not_set}
use Rattle.session.specs.Line.{Command, DeclareSort, DeclareCtor, DeclareFun}
use Rattle.session.specs.Answer as Answer
use Rattle.session.specs.Session.{before_close, exist, agree, sort_exists, questions, perform, first_no, done, Performed}
use Rattle.session.specs.declared.answer.Refusal as GivenRefusal
use Rattle.session.specs.declared.answer.Answer as Given
use Rattle.session.specs.Memory.Answers.{LineAnswer, refusal_meaning, answer_meaning}
use Rattle.session.specs.Memory.Questions.{sorts_exist}
use Rattle.session.specs.Memory.Sessions.{Beside, session, Unclosed, SessionSound, Answers, AnswersCore, declared_answer}
use Rattle.session.proofs.Memory.Questions.{and_left, and_right, below_all}
use Rattle.session.proofs.Memory.Answering.{Refused, no_here, yes_here, yes_last, unfit_declarations, refuses, no_room, accepts}

-- ---- tables without terms

no_terms_formed : (cx : Context) → cx.terms ≡ [] → Formed cx
no_terms_formed cx n =
    let l = ap length n in
    record { lower = λ t h. absurd (omega arith); agrees = λ t h. absurd (omega arith); distinct = λ t u h. absurd (omega arith) }

unclosed_sound : {c e s : List ℕ} → ContextSound c → Signed (context c) → EngineSound e → Unclosed c s → StateSound c e s
unclosed_sound {c} {e} {s} core signed engine u =
    let z = u.solver in
    let n = z.records in
    record {
      core = core;
      formed = no_terms_formed (context c) u.no_terms;
      signed = signed;
      engine = engine;
      solver = z.sound;
      registered = λ r i. absurd (subst (λ (rs : List Registered). In r rs) z.atoms i);
      marks = λ x h. inl (not_set (at s MARK x) (unflagged s MARK x z.marks h));
      announced = cleared_announced s z;
      collected = λ x h q. absurd (true≢false (sym q ∙ unflagged s COLLECTED x z.collected h));
      lasting = λ x h q. absurd (true≢false (sym q ∙ unflagged s LASTING x z.lasting h));
      records = λ i h. absurd (omega arith);
    }

-- ---- a declaration

module _ (k : Command) (cx : Context) {c e s : List ℕ} {m : Beside} (o : List ℕ) (z : SessionSound c e s m) (before : m.closed ≡ false)
    (asked_all : first_no (questions (session c e s m) k) ≡ none)
    (does : perform (session c e s m) k ≡ done (session c e s m) Answer.Ok (with_terms (session c e s m).state cx))
    (same_terms : cx.terms ≡ (context c).terms) (signed : Signed cx) where
  declaration_fits : {c' : List ℕ} → ContextSound c' → context c' ≡ cx → Answers k c e s m (Ok Given.TheVariants.Ok) c' e s m o
  unfolding done with_terms session state_with answer_meaning
  declaration_fits {c'} sound v =
      let u = z.unclosed before in
      let u' : Unclosed c' s = record { no_terms = ap (λ (x : Context). x.terms) v ∙ same_terms ∙ u.no_terms; solver = u.solver } in
      let z' : SessionSound c' e s m = record {
        state = unclosed_sound sound (subst⁻¹ Signed v signed) z.state.engine u';
        marks = z.marks;
        levels = z.levels;
        unclosed = λ h. u';
      } in
      accepts o z tt asked_all z' (does ∙ rw v)

  unmade : {c' : List ℕ} → c' ≡ c → declarations_fit cx ≡ false →
      Answers k c e s m (Err GivenRefusal.TheVariants.NoRoom) c' e s m o
  unfolding done with_terms
  unmade same f =
      subst⁻¹ (λ (t : List ℕ). Answers k c e s m (Err GivenRefusal.TheVariants.NoRoom) t e s m o) same
      (no_room o z asked_all
      (unfit_declarations (perform (session c e s m) k).session.state
      (ap (λ (p : Performed). declarations_fit p.session.state.terms) does ∙ f)))

  pub declaration_answers : {c' : List ℕ} {r : Result (Unit {0}) NoRoom} {a : LineAnswer} → Declares c cx r c' → a ≡ declared_answer r →
      Answers k c e s m a c' e s m o
  unfolding declared_answer
  declaration_answers {c'} d q =
      let is = q ∙ ap declared_answer d.answer in
      let as' : LineAnswer → Type 0 = λ x. Answers k c e s m x c' e s m o in
      by_test (declarations_fit cx) (λ f. subst⁻¹ as' (is ∙ rw f) (declaration_fits d.sound (d.view ∙ rw f)))
      (λ f. subst⁻¹ as' (is ∙ rw f) (unmade (d.unchanged f) f))

-- ---- `sort`

module _ {c : List ℕ} {closed : Bool} {n : SortNode} where
  pub sort_late : closed ≡ true → AnswersCore closed (DeclareSort n) c (Refused GivenRefusal.TheVariants.Misplaced) c
  unfolding questions before_close session refusal_meaning
  sort_late h e s o m z q = refuses o z GivenRefusal.TheVariants.Misplaced (no_here _ _ (rw (q ∙ h)))

  pub sort_declared : {c' : List ℕ} {r : Result (Unit {0}) NoRoom} {a : LineAnswer} → closed ≡ false →
      Declares c (declare_sort (context c) n) r c' → a ≡ declared_answer r → AnswersCore closed (DeclareSort n) c a c'
  unfolding questions before_close session state_with perform declare_sort
  sort_declared h d p e s o m z q =
      let bool = z.state.core.bool in
      let count = z.state.core.sort_count in
      declaration_answers (DeclareSort n) (declare_sort (context c) n) o z (q ∙ h) (yes_last _ (rw (q ∙ h))) refl refl
      (sort_signed (context c) n (omega arith) z.state.signed) d p

-- ---- a sort, and others, are named

module _ (c : List ℕ) (x : ℕ) (xs : List ℕ) (r : Bool) (sound : ContextSound c) (named : r ≡ sorts_exist c x xs) (yes_named : not r ≡
    false) where
  pub sort_named : x < length (context c).sorts
  sort_named = ltb-true x (length (context c).sorts) (and_left _ _ (sym named ∙ not-false r yes_named))

  pub sorts_named : length xs ≤ max_params → MayDeclare c x xs
  sorts_named few =
      record {
        sound = sound;
        declared = sort_named;
        few = few;
        sorts = below_all (length (context c).sorts) xs
            (and_right (ltb x (length (context c).sorts)) _ (sym named ∙ not-false r yes_named));
      }

-- ---- `ctor`

module _ {c : List ℕ} {closed : Bool} {dt : ℕ} {fs : List ℕ} where
  pub ctor_late : closed ≡ true → AnswersCore closed (DeclareCtor dt fs) c (Refused GivenRefusal.TheVariants.Misplaced) c
  unfolding questions before_close session refusal_meaning
  ctor_late h e s o m z q = refuses o z GivenRefusal.TheVariants.Misplaced (no_here _ _ (rw (q ∙ h)))

  pub ctor_missing : {r : Bool} → closed ≡ false → r ≡ sorts_exist c dt fs → not r ≡ true →
      AnswersCore closed (DeclareCtor dt fs) c (Refused GivenRefusal.TheVariants.Missing) c
  unfolding questions before_close exist sort_exists session state_with refusal_meaning
  ctor_missing {r} h p n e s o m z q =
      refuses o z GivenRefusal.TheVariants.Missing (yes_here _ _ (rw (q ∙ h)) ∙ no_here _ _ (sym p ∙ not-true r n))

  module _ {r t : Bool} (h : closed ≡ false) (p : r ≡ sorts_exist c dt fs) (n : not r ≡ false) (d : t ≡ is_datatype_sort (context c)
      dt) where
    pub ctor_disagrees : not t ≡ true → AnswersCore closed (DeclareCtor dt fs) c (Refused GivenRefusal.TheVariants.Disagreeing) c
    unfolding questions before_close exist agree sort_exists session state_with refusal_meaning
    ctor_disagrees k e s o m z q =
        refuses o z GivenRefusal.TheVariants.Disagreeing
        (yes_here _ _ (rw (q ∙ h)) ∙ yes_here _ _ (sym p ∙ not-false r n) ∙ no_here _ _ (sym d ∙ not-true t k))

    pub ctor_declared : {c' : List ℕ} {b : Result (Unit {0}) NoRoom} {a : LineAnswer} → not t ≡ false →
        Declares c (dt_add_constructor (context c) dt fs) b c' → a ≡ declared_answer b → AnswersCore closed (DeclareCtor dt fs) c a c'
    unfolding questions before_close exist agree sort_exists session state_with perform dt_add_constructor with_symbols
    ctor_declared k D a e s o m z q =
        declaration_answers (DeclareCtor dt fs) (dt_add_constructor (context c) dt fs) o z (q ∙ h)
        (yes_here _ _ (rw (q ∙ h)) ∙ yes_here _ _ (sym p ∙ not-false r n) ∙ yes_last _ (sym d ∙ not-false t k)) refl refl
        (ctor_signed (context c) dt fs (true_T _ (sym d ∙ not-false t k)) z.state.signed) D a

-- ---- `fun`

module _ {c : List ℕ} {closed : Bool} {result : ℕ} {params : List ℕ} where
  pub fun_late : closed ≡ true → AnswersCore closed (DeclareFun result params) c (Refused GivenRefusal.TheVariants.Misplaced) c
  unfolding questions before_close session refusal_meaning
  fun_late h e s o m z q = refuses o z GivenRefusal.TheVariants.Misplaced (no_here _ _ (rw (q ∙ h)))

  pub fun_missing : {r : Bool} → closed ≡ false → r ≡ sorts_exist c result params → not r ≡ true →
      AnswersCore closed (DeclareFun result params) c (Refused GivenRefusal.TheVariants.Missing) c
  unfolding questions before_close exist sort_exists session state_with refusal_meaning
  fun_missing {r} h p n e s o m z q =
      refuses o z GivenRefusal.TheVariants.Missing (yes_here _ _ (rw (q ∙ h)) ∙ no_here _ _ (sym p ∙ not-true r n))

  pub fun_declared : {c' : List ℕ} {r : Bool} {b : Result (Unit {0}) NoRoom} {a : LineAnswer} → closed ≡ false →
      r ≡ sorts_exist c result params → not r ≡ false → Declares c (declare_fun (context c) result params) b c' → a ≡ declared_answer b →
      AnswersCore closed (DeclareFun result params) c a c'
  unfolding questions before_close exist sort_exists session state_with perform declare_fun with_symbols
  fun_declared {c'} {r} h p n D a e s o m z q =
      declaration_answers (DeclareFun result params) (declare_fun (context c) result params) o z (q ∙ h)
      (yes_here _ _ (rw (q ∙ h)) ∙ yes_last _ (sym p ∙ not-false r n)) refl refl
      (fun_signed (context c) result params z.state.signed) D a

-- ---- the answer

pub declared_done : {d : Result (Unit {0}) NoRoom} {u : Unit {0}} → d ≡ Ok u → Ok Given.TheVariants.Ok ≡ declared_answer d
unfolding declared_answer
declared_done e = sym (ap declared_answer e)

pub declared_full : {d : Result (Unit {0}) NoRoom} {n : NoRoom} → d ≡ Err n → Refused GivenRefusal.TheVariants.NoRoom ≡ declared_answer d
unfolding declared_answer
declared_full e = sym (ap declared_answer e)
