-- Any line: what was promised of each kind, put together by the command that was read.
use Rattle.std.specs.Prelude.{Err}
use Rattle.shinri_core.proofs.Kit.{ℕ, ◌+◌, ◌-◌, ◌≤◌, ◌≡◌, refl, sym, ap, ◌∙◌, subst, Bool, List, [], ◌∷◌, ◌++◌, none, some, arith, length, take, drop, length-take-le, length-drop}
use Rattle.solver.proofs.Memory.Entries.{records_sound}
use Rattle.shinri_core.specs.Limits.{max_params}
use Rattle.shinri_core.specs.declared.ids.SortId.{SortId}
use Rattle.shinri_core.specs.declared.ids.SymbolId.{SymbolId}
use Rattle.session.specs.Line.{Command, DeclareCtor, DeclareFun, Close, MkTerm, Check}
use Rattle.session.specs.Session as Session
use Rattle.session.specs.Session.{Performed, answer_read, refused, empty_session, step}
use Rattle.session.specs.declared.line.Command as GivenCommand
use Rattle.session.specs.declared.answer.Refusal as GivenRefusal
use Rattle.session.specs.Memory.Commands.{others, command_meaning, OthersFit, ListFits, ReadsLine}
use Rattle.session.specs.Memory.Answers.{LineAnswer, refusal_meaning, answer_meaning, Printable}
use Rattle.session.specs.Memory.Sessions.{Beside, beside, session, after, SessionSound, Answers, AnswersWith, AnswersCore, AnswersEngine, AnswersSolver, AnswersEquate, AnswersClose, AnswersLevels, AnswersCheck, LevelsSound, Performable, Performs, Steppable, Steps}
use Rattle.session.proofs.Memory.Levels.{as_beside}

-- ---- the numbers behind the first

module _ (ns : List ℕ) (n : ℕ) where
  -- as the code takes them
  abbrev list : List ℕ
  list = take (n + 1 - 1) (drop 1 ns)

  pub behind : others n ns ≡ list
  behind = let same : n ≡ n + 1 - 1 = omega arith in ap (λ (j : ℕ). take j (drop 1 ns)) same

  pub few_behind : OthersFit n (length ns) → length list ≤ max_params
  few_behind (h, r) =
      let d = length-drop 1 ns in
      let l = length-take-le (n + 1 - 1) (drop 1 ns) (omega arith) in
      omega arith

module _ {k : GivenCommand.Command} (ns : List ℕ) {n : ℕ} {x : SortId} where
  pub ctor_room : k ≡ GivenCommand.TheVariants.DeclareCtor x n → ListFits k (length ns) → OthersFit n (length ns)
  ctor_room e f = subst (λ (j : GivenCommand.Command). ListFits j (length ns)) e f

  pub ctor_read : k ≡ GivenCommand.TheVariants.DeclareCtor x n → command_meaning k ns ≡ some (DeclareCtor x.0 (list ns n))
  ctor_read e = ap (λ (j : GivenCommand.Command). command_meaning j ns) e ∙ ap (λ (l : List ℕ). some (DeclareCtor x.0 l)) (behind ns n)

  pub fun_room : k ≡ GivenCommand.TheVariants.DeclareFun x n → ListFits k (length ns) → OthersFit n (length ns)
  fun_room e f = subst (λ (j : GivenCommand.Command). ListFits j (length ns)) e f

  pub fun_read : k ≡ GivenCommand.TheVariants.DeclareFun x n → command_meaning k ns ≡ some (DeclareFun x.0 (list ns n))
  fun_read e = ap (λ (j : GivenCommand.Command). command_meaning j ns) e ∙ ap (λ (l : List ℕ). some (DeclareFun x.0 l)) (behind ns n)

module _ {k : GivenCommand.Command} (ns : List ℕ) {n : ℕ} {x : SymbolId} where
  pub term_room : k ≡ GivenCommand.TheVariants.MkTerm x n → ListFits k (length ns) → OthersFit n (length ns)
  term_room e f = subst (λ (j : GivenCommand.Command). ListFits j (length ns)) e f

  pub term_read : k ≡ GivenCommand.TheVariants.MkTerm x n → command_meaning k ns ≡ some (MkTerm x.0 (list ns n))
  term_read e = ap (λ (j : GivenCommand.Command). command_meaning j ns) e ∙ ap (λ (l : List ℕ). some (MkTerm x.0 l)) (behind ns n)

-- ---- a command that was answered

pub levels_sound : {c e s n : List ℕ} {b : Bool} → SessionSound c e s (beside e n b) → LevelsSound e s n
levels_sound z = record { engine = z.state.engine; records = records_sound z.state; marks = z.marks }

module _ {k : GivenCommand.Command} {ns c e s n : List ℕ} {b : Bool} {o₀ : List ℕ} (P : Performable c e s (beside e n b) k ns o₀)
    (k' : Command) (is : command_meaning k ns ≡ some k') where
  performs : {a : LineAnswer} {c' e' s' : List ℕ} {m : Beside} {o : List ℕ} → Answers k' c e s (beside e n b) a c' e' s' m o →
      Performs k ns c e s (beside e n b) a c' e' s' (beside e' m.marks.counts m.closed) o
  unfolding answer_read
  performs A =
      let K = as_beside A in
      record { sound = K.sound; printable = K.printable; performed = ap (answer_read (session c e s (beside e n b))) is ∙ K.performed }

  pub by_core : {a : LineAnswer} {c' : List ℕ} → AnswersCore b k' c a c' →
      Performs k ns c e s (beside e n b) a c' e s (beside e n b) o₀
  by_core A = performs (A e s o₀ (beside e n b) P.sound refl)

  pub by_engine : {a : LineAnswer} {e' : List ℕ} → AnswersEngine b k' c e a e' →
      Performs k ns c e s (beside e n b) a c e' s (beside e' n b) o₀
  by_engine A = performs (A s o₀ (beside e n b) P.sound refl)

  pub by_solver : {a : LineAnswer} {s' : List ℕ} → AnswersSolver b k' c s a s' →
      Performs k ns c e s (beside e n b) a c e s' (beside e n b) o₀
  by_solver A = performs (A e o₀ (beside e n b) P.sound refl)

  pub by_equate : {a : LineAnswer} {e' : List ℕ} → AnswersEquate b k' c e s a e' →
      Performs k ns c e s (beside e n b) a c e' s (beside e' n b) o₀
  by_equate A = performs (A o₀ (beside e n b) P.sound refl)

  pub by_assert : {a : LineAnswer} {s' o : List ℕ} → AnswersWith b k' c e s a c e s' o →
      Performs k ns c e s (beside e n b) a c e s' (beside e n b) o
  by_assert A = performs (A (beside e n b) P.sound refl)

  pub by_levels : {a : LineAnswer} {e' s' n' : List ℕ} → AnswersLevels k' e s n b a e' s' n' →
      Performs k ns c e s (beside e n b) a c e' s' (beside e' n' b) o₀
  by_levels A = performs (A c o₀ P.sound)

module _ {k : GivenCommand.Command} {ns c e s n : List ℕ} {b : Bool} {o₀ : List ℕ} (P : Performable c e s (beside e n b) k ns o₀) where
  pub by_close : {a : LineAnswer} {b' : Bool} → command_meaning k ns ≡ some Close → AnswersClose c b a b' →
      Performs k ns c e s (beside e n b) a c e s (beside e n b') o₀
  by_close is A = performs P Close is (A e s n o₀ P.sound)

  pub by_check : {a : LineAnswer} {full : Bool} {c' s' o : List ℕ} → command_meaning k ns ≡ some (Check full) →
      AnswersCheck b full c e s a c' s' o → Performs k ns c e s (beside e n b) a c' e s' (beside e n b) o
  by_check {full = full} is A = performs P (Check full) is (A (beside e n b) P.sound P.reached refl)

module _ {k : GivenCommand.Command} {ns c e s n : List ℕ} {b : Bool} {o₀ : List ℕ} (P : Performable c e s (beside e n b) k ns o₀) where
  pub by_none : command_meaning k ns ≡ none →
      Performs k ns c e s (beside e n b) (Err GivenRefusal.TheVariants.Unreadable) c e s (beside e n b) o₀
  unfolding answer_read refused answer_meaning refusal_meaning
  by_none is = record { sound = P.sound; printable = tt; performed = ap (answer_read (session c e s (beside e n b))) is }

-- ---- a line

after_more : (s : Session.Session) (ls : List (List ℕ)) (l : List ℕ) → after s (ls ++ (l ∷ [])) ≡ (step (after s ls) l).session
unfolding after
after_more s [] l = refl
after_more s (x ∷ xs) l = after_more (step s x).session xs l

-- the line was read as r, and the session answers so
module _ {line c e s : List ℕ} {m : Beside} {ns₀ o₀ : List ℕ} (Q : Steppable c e s m ns₀ o₀) where
  stepped : {a : LineAnswer} {c' e' s' : List ℕ} {m' : Beside} {o : List ℕ} → SessionSound c' e' s' m' → Printable a o →
      step (session c e s m) line ≡ record { answer = answer_meaning a o; session = session c' e' s' m' } →
      Steps line c e s m a c' e' s' m' o
  stepped z p does =
      let (ls, at) = Q.reached in
      record {
        sound = z;
        reached = (
          ls ++ (line ∷ []),
          after_more empty_session ls line ∙ ap (λ (x : Session.Session). (step x line).session) at
              ∙ ap (λ (p : Performed). p.session) does,
        );
        printable = p;
        stepped = does;
      }

  pub steps : {ns : List ℕ} {k : GivenCommand.Command} {a : LineAnswer} {c' e' s' : List ℕ} {m' : Beside} {o : List ℕ} → ReadsLine line k ns →
      Performs k ns c e s m a c' e' s' m' o → Steps line c e s m a c' e' s' m' o
  unfolding step
  steps R P = stepped P.sound P.printable (ap (answer_read (session c e s m)) (sym R.is) ∙ P.performed)

pub performable : {c e s : List ℕ} {m : Beside} {ns₀ ns o : List ℕ} (line : List ℕ) {k : GivenCommand.Command} → Steppable c e s m ns₀ o →
    ReadsLine line k ns → Performable c e s m k ns o
performable line Q R = record { sound = Q.sound; reached = Q.reached; fits = R.fits; long = Q.long }
