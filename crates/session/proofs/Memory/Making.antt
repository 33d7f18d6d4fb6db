-- The lines that make terms.
use Rattle.std.specs.Prelude.{Result, Ok, Err}
use Rattle.shinri_core.proofs.Kit.{ℕ, zero, suc, ◌<◌, ◌≡◌, refl, sym, ap, ◌∙◌, subst⁻¹, Bool, true, false, not, true≢false, List, [], ◌∷◌, map, none, inl, inr, arith, length, eqb, eqb-true, ltb, ltb-true, not-false}
use borrow.Author.Tests.{not-true}
use Rattle.shinri_core.specs.Term.{Op, Eq, Uninterpreted}
use Rattle.shinri_core.specs.Context.{symbol, sort_of, mk_app, mk_eq, terms_fit}
use Rattle.shinri_core.specs.Formed.{Formed, Agrees, Extends}
use Rattle.shinri_core.specs.declared.limits.NoRoom.{NoRoom}
use Rattle.shinri_core.specs.declared.ids.TermId.{TermId}
use Rattle.shinri_core.specs.Memory.Codes.{made_answer, made_context, MkApp}
use Rattle.shinri_core.specs.Memory.Table.{context, ContextSound, AllBelow, MayApply, MayEquate}
use Rattle.shinri_core.proofs.Lists.{same_list_eq, true_T}
use Rattle.solver.specs.State.{with_terms}
use Rattle.solver.specs.Memory.Table.{state_with}
use Rattle.solver.proofs.Basics.{by_test}
use Rattle.solver.proofs.Terms.{Below, mk_app_makes, mk_app_formed}
use Rattle.solver.proofs.Memory.Growing.{state_grows}
use Rattle.session.specs.Line.{Command, MkTerm, MkEq}
use Rattle.session.specs.Session as Session
use Rattle.session.specs.Session.{after_close, exist, agree, symbol_exists, term_exists, questions, first_no, perform, done, numbered, Performed}
use Rattle.session.specs.declared.answer.Refusal as GivenRefusal
use Rattle.session.specs.declared.answer.Answer as Given
use Rattle.session.specs.Memory.Answers.{LineAnswer, refusal_meaning, answer_meaning}
use Rattle.session.specs.Memory.Questions.{app_exists, two_exist, sorts_agree, may_equate, NamesApp, NamesTwo}
use Rattle.session.specs.Memory.Sessions.{Beside, session, SessionSound, Answers, AnswersCore, numbered_answer}
use Rattle.session.proofs.Memory.Questions.{and_left, and_right, below_all}
use Rattle.session.proofs.Memory.Answering.{Refused, no_here, yes_here, yes_last, unfit_terms, refuses, no_room, accepts}

-- ---- a term

-- numbers below n, by members
below_members : (n : ℕ) (xs : List ℕ) → AllBelow n xs → Below n xs
below_members n [] h a i = absurd i
below_members n (x ∷ xs) h a (inl e) = subst⁻¹ (λ (y : ℕ). y < n) e (h 0 (omega arith))
below_members n (x ∷ xs) h a (inr i) = below_members n xs (λ j l. h (suc j) (omega arith)) a i

module _ (k : Command) (op : Op) (args : List ℕ) {c e s : List ℕ} {m : Beside} (o : List ℕ) (z : SessionSound c e s m) (later :
    m.closed ≡ true)
    (asked_all : first_no (questions (session c e s m) k) ≡ none)
    (does : perform (session c e s m) k ≡ numbered (session c e s m) (mk_app (context c) op args))
    (terms : AllBelow (length (context c).terms) args) (agrees : Agrees (context c) op args) where
  made_fits : {c' : List ℕ} {t : ℕ} → ContextSound c' → context c' ≡ (mk_app (context c) op args).context →
      t ≡ (mk_app (context c) op args).id →
      Answers k c e s m (Ok (Given.TheVariants.TermIs (record { 0 = t }))) c' e s m o
  unfolding numbered done with_terms session state_with answer_meaning
  made_fits {c'} sound v i =
      let F = mk_app_formed (context c) op args z.state.formed (below_members _ args terms) agrees in
      let z' : SessionSound c' e s m = record {
        state = state_grows c c' (subst⁻¹ (Extends (context c)) v (mk_app_makes (context c) op args).extends) sound (subst⁻¹ Formed
            v F) e s z.state;
        marks = z.marks;
        levels = z.levels;
        unclosed = λ h. absurd (true≢false (sym later ∙ h));
      } in
      accepts o z tt asked_all z' (does ∙ rw (v, i))

  unmade : {c' : List ℕ} → c' ≡ c → terms_fit (mk_app (context c) op args).context ≡ false →
      Answers k c e s m (Err GivenRefusal.TheVariants.NoRoom) c' e s m o
  unfolding numbered done with_terms
  unmade same f =
      subst⁻¹ (λ (t : List ℕ). Answers k c e s m (Err GivenRefusal.TheVariants.NoRoom) t e s m o) same
      (no_room o z asked_all
      (unfit_terms (perform (session c e s m) k).session.state (ap (λ (p : Performed). terms_fit p.session.state.terms) does ∙ f)))

  pub made_answers : {c' : List ℕ} {r : Result TermId NoRoom} {a : LineAnswer} → MkApp c op args r c' → a ≡ numbered_answer r →
      Answers k c e s m a c' e s m o
  unfolding numbered_answer made_answer made_context
  made_answers {c'} d q =
      let is = q ∙ ap numbered_answer d.answer in
      let as' : LineAnswer → Type 0 = λ x. Answers k c e s m x c' e s m o in
      by_test (terms_fit (mk_app (context c) op args).context) (λ f. subst⁻¹ as' (is ∙ rw f) (made_fits d.sound (d.view ∙ rw f) refl))
      (λ f. subst⁻¹ as' (is ∙ rw f) (unmade (d.unchanged f) f))

-- ---- `term`

module _ (c : List ℕ) (f : ℕ) (args : List ℕ) (r : Bool) (sound : ContextSound c) (named : r ≡ app_exists c f args) (yes_named : not
    r ≡ false) where
  app_yes : app_exists c f args ≡ true
  app_yes = sym named ∙ not-false r yes_named

  pub app_named : NamesApp c f args
  app_named = record {
    sound = sound;
    declared = ltb-true f (length (context c).symbols) (and_left _ _ app_yes);
    terms = below_all (length (context c).terms) args (and_right (ltb f (length (context c).symbols)) _ app_yes);
  }

  pub app_may : MayApply c f args
  app_may = let n = app_named in record { sound = sound; declared = n.declared; terms = n.terms }

module _ {c : List ℕ} {closed : Bool} {f : ℕ} {args : List ℕ} where
  pub term_early : not closed ≡ true → AnswersCore closed (MkTerm f args) c (Refused GivenRefusal.TheVariants.Misplaced) c
  unfolding questions after_close session refusal_meaning
  term_early h e s o m z q = refuses o z GivenRefusal.TheVariants.Misplaced (no_here _ _ (q ∙ not-true closed h))

  pub term_missing : {r : Bool} → not closed ≡ false → r ≡ app_exists c f args → not r ≡ true →
      AnswersCore closed (MkTerm f args) c (Refused GivenRefusal.TheVariants.Missing) c
  unfolding questions after_close exist symbol_exists term_exists session state_with refusal_meaning
  term_missing {r} h p n e s o m z q =
      refuses o z GivenRefusal.TheVariants.Missing (yes_here _ _ (q ∙ not-false closed h) ∙ no_here _ _ (sym p ∙ not-true r n))

  module _ {r t : Bool} (h : not closed ≡ false) (p : r ≡ app_exists c f args) (n : not r ≡ false)
      (d : t ≡ sorts_agree c f args) where
    pub term_disagrees : not t ≡ true → AnswersCore closed (MkTerm f args) c (Refused GivenRefusal.TheVariants.Disagreeing) c
    unfolding questions after_close exist agree symbol_exists term_exists session state_with refusal_meaning
    term_disagrees k e s o m z q =
        refuses o z GivenRefusal.TheVariants.Disagreeing
        (yes_here _ _ (q ∙ not-false closed h) ∙ yes_here _ _ (sym p ∙ not-false r n) ∙ no_here _ _ (sym d ∙ not-true t k))

    pub term_made : {c' : List ℕ} {b : Result TermId NoRoom} {a : LineAnswer} → not t ≡ false → MkApp c (Uninterpreted f) args b c' →
        a ≡ numbered_answer b → AnswersCore closed (MkTerm f args) c a c'
    unfolding questions after_close exist agree symbol_exists term_exists session state_with perform
    term_made k D a e s o m z q =
        made_answers (MkTerm f args) (Uninterpreted f) args o z (q ∙ not-false closed h)
        (yes_here _ _ (q ∙ not-false closed h) ∙ yes_here _ _ (sym p ∙ not-false r n) ∙ yes_last _ (sym d ∙ not-false t k)) refl
        (app_named c f args r z.state.core p n).terms
        (same_list_eq (map (sort_of (context c)) args) (symbol (context c) f).params (true_T _ (sym d ∙ not-false t k))) D a

-- ---- `eq`

module _ (c : List ℕ) (t u : ℕ) (r : Bool) (sound : ContextSound c) (named : r ≡ two_exist c t u) (yes_named : not r ≡ false) where
  two_yes : two_exist c t u ≡ true
  two_yes = sym named ∙ not-false r yes_named

  pub two_named : NamesTwo c t u
  two_named = record {
    sound = sound;
    first = ltb-true t (length (context c).terms) (and_left _ _ two_yes);
    second = ltb-true u (length (context c).terms) (and_right (ltb t (length (context c).terms)) _ two_yes);
  }

  pub two_may : MayEquate c t u
  two_may = let n = two_named in record { sound = sound; left = n.first; right = n.second }

module _ {c : List ℕ} {closed : Bool} {t u : ℕ} where
  pub eq_early : not closed ≡ true → AnswersCore closed (MkEq t u) c (Refused GivenRefusal.TheVariants.Misplaced) c
  unfolding questions after_close session refusal_meaning
  eq_early h e s o m z q = refuses o z GivenRefusal.TheVariants.Misplaced (no_here _ _ (q ∙ not-true closed h))

  pub eq_missing : {r : Bool} → not closed ≡ false → r ≡ two_exist c t u → not r ≡ true →
      AnswersCore closed (MkEq t u) c (Refused GivenRefusal.TheVariants.Missing) c
  unfolding questions after_close exist term_exists session state_with refusal_meaning
  eq_missing {r} h p n e s o m z q =
      refuses o z GivenRefusal.TheVariants.Missing (yes_here _ _ (q ∙ not-false closed h) ∙ no_here _ _ (sym p ∙ not-true r n))

  module _ {r b : Bool} (h : not closed ≡ false) (p : r ≡ two_exist c t u) (n : not r ≡ false) (d : b ≡ may_equate c t u) where
    pub eq_disagrees : not b ≡ true → AnswersCore closed (MkEq t u) c (Refused GivenRefusal.TheVariants.Disagreeing) c
    unfolding questions after_close exist agree Session.one_sort term_exists session state_with refusal_meaning
    eq_disagrees k e s o m z q =
        refuses o z GivenRefusal.TheVariants.Disagreeing
        (yes_here _ _ (q ∙ not-false closed h) ∙ yes_here _ _ (sym p ∙ not-false r n) ∙ no_here _ _ (sym d ∙ not-true b k))

    pub eq_made : {c' : List ℕ} {g : Result TermId NoRoom} {a : LineAnswer} → not b ≡ false → MkApp c Eq (t ∷ u ∷ []) g c' →
        a ≡ numbered_answer g → AnswersCore closed (MkEq t u) c a c'
    unfolding questions after_close exist agree Session.one_sort term_exists session state_with perform mk_eq
    eq_made k D a e s o m z q =
        let two = two_named c t u r z.state.core p n in
        made_answers (MkEq t u) Eq (t ∷ u ∷ []) o z (q ∙ not-false closed h)
        (yes_here _ _ (q ∙ not-false closed h) ∙ yes_here _ _ (sym p ∙ not-false r n) ∙ yes_last _ (sym d ∙ not-false b k)) refl
        (sides two) (t, u, refl, eqb-true _ _ (and_right (not (eqb t u)) _ (sym d ∙ not-false b k))) D a
      where
        sides : NamesTwo c t u → AllBelow (length (context c).terms) (t ∷ u ∷ [])
        sides w zero l = w.first
        sides w (suc zero) l = w.second
        sides w (suc (suc j)) l = absurd (omega arith)

-- ---- the answer

pub numbered_at : {m : Result TermId NoRoom} {x : TermId} → m ≡ Ok x → Ok (Given.TheVariants.TermIs x) ≡ numbered_answer m
unfolding numbered_answer
numbered_at e = sym (ap numbered_answer e)

pub numbered_full : {m : Result TermId NoRoom} {n : NoRoom} → m ≡ Err n → Refused GivenRefusal.TheVariants.NoRoom ≡ numbered_answer m
unfolding numbered_answer
numbered_full e = sym (ap numbered_answer e)
