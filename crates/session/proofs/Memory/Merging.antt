-- The lines that merge: of the tables only the engine's changes, and only its merges.
use Rattle.std.specs.Prelude.{Ok}
use Rattle.shinri_core.proofs.Kit.{ℕ, zero, suc, ◌≤◌, ◌<◌, ◌≡◌, refl, sym, ap, ap₂, ◌∙◌, subst, subst⁻¹, Bool, true, false, not, true≢false, List, [], ◌∷◌, none, inl, inr, arith, length, get_or, leb→le, not-false, T}
use borrow.Author.Tests.{not-true}
use Rattle.shinri_core.specs.Limits.{max_terms, max_pairs}
use Rattle.shinri_core.specs.Ids as Ids
use Rattle.shinri_core.specs.Lists.{In, every, zip}
use Rattle.shinri_core.specs.Term.{Op, Eq, Uninterpreted, same_op}
use Rattle.shinri_core.specs.Context.{term, children}
use Rattle.shinri_core.specs.Formed.{Agrees}
use Rattle.shinri_core.specs.Memory.Table.{context, AllBelow}
use Rattle.shinri_core.proofs.Lists.{every_in, true_T}
use Rattle.theory.specs.Types.{EqJust, Asserted, Congruence, Interface}
use Rattle.theory.specs.EqEngine.{are_equal}
use Rattle.theory.specs.Atom.{is_registered, atom}
use Rattle.theory.specs.Memory.Registry.{atoms}
use Rattle.theory.specs.Memory.Replay.{EqualPairs, IsNode}
use Rattle.theory.specs.Memory.Table.{merges, EngineSound, TwoNodes, Merges, Congruent, just_meaning}
use Rattle.theory.specs.declared.types.EqJust as GivenJust
use Rattle.theory.specs.declared.types.TheoryJust.{TheoryJust}
use Rattle.shinri_core.specs.declared.ids.Lit.{Lit}
use Rattle.solver.specs.State.{equal, with_eq}
use Rattle.solver.specs.Memory.Table.{registry, state_with, StateSound}
use Rattle.session.specs.Line.{Command, Equate, Cong, Iface}
use Rattle.session.specs.Session as Session
use Rattle.session.specs.Session.{after_close, exist, agree, term_exists, atom_of, argument_pairs, questions, first_no, perform, done, merged, merge_sides}
use Rattle.session.specs.declared.answer.Refusal as GivenRefusal
use Rattle.session.specs.declared.answer.Answer as Given
use Rattle.session.specs.Memory.Answers.{refusal_meaning, answer_meaning}
use Rattle.session.specs.Memory.Questions.{two_exist, var_exists, one_sort, equation, congruent, pairs_fit, NamesTwo, NamesLit, NodePairs, PairsNamed}
use Rattle.session.specs.Memory.Sessions.{Beside, session, SessionSound, Answers, AnswersEngine, AnswersEquate, Merging, Equating, MergesSides}
use Rattle.session.proofs.Memory.Questions.{and_left, and_right, arguments_are, children_nodes, named_atom, named_var}
use Rattle.session.proofs.Memory.Answering.{Refused, engine_changes, no_here, yes_here, yes_last, unfit_pairs, refuses, no_room, accepts}
use Rattle.session.proofs.Memory.Making.{two_named}

-- ---- a merge

module _ (k : Command) (x y : ℕ) (j : EqJust) {c e s e' : List ℕ} {m : Beside} (o : List ℕ) (z : SessionSound c e s m)
    (later : m.closed ≡ true) (asked_all : first_no (questions (session c e s m) k) ≡ none)
    (does : perform (session c e s m) k ≡ merged (session c e s m) x y j) (M : Merges e e' x y j) where
  pub merge_answers : Answers k c e s m (Ok Given.TheVariants.Ok) c e' s m o
  unfolding merged done with_eq session state_with answer_meaning
  merge_answers =
      let g = M.engine in
      let z' : SessionSound c e' s m = record {
        state = engine_changes z.state g.sound;
        marks = z.marks;
        levels = z.levels ∙ sym g.at_level;
        unclosed = λ h. absurd (true≢false (sym later ∙ h));
      } in
      accepts o z tt asked_all z' (does ∙ rw (g.log, g.at_level))

-- terms are nodes
term_nodes : {c e : List ℕ} {t u : ℕ} → EngineSound e → NamesTwo c t u → TwoNodes e t u
term_nodes {c} {e} {t} {u} E N =
    let n = N.sound.term_count in
    let f = N.sound.terms_fit in
    let a = N.first in
    let b = N.second in
    record { sound = E; first = omega arith; second = omega arith }

-- two terms that a line names
module _ (c e : List ℕ) (t u : ℕ) (r : Bool) (M : Merging c e) (named : r ≡ two_exist c t u) (yes_named : not r ≡ false) where
  pub two_terms : NamesTwo c t u
  two_terms = two_named c t u r M.core named yes_named

  pub two_nodes : TwoNodes e t u
  two_nodes = term_nodes M.engine two_terms

  pub two_applications : PairsNamed c e t u
  two_applications = record { two = two_terms; formed = M.formed; engine = M.engine }

-- ---- `iface`

module _ {c e : List ℕ} {closed : Bool} {t u h g : ℕ} where
  pub iface_early : not closed ≡ true → AnswersEngine closed (Iface t u h g) c e (Refused GivenRefusal.TheVariants.Misplaced) e
  unfolding questions after_close session refusal_meaning
  iface_early w s o m z q = refuses o z GivenRefusal.TheVariants.Misplaced (no_here _ _ (q ∙ not-true closed w))

  pub iface_missing : {r : Bool} → not closed ≡ false → r ≡ two_exist c t u → not r ≡ true →
      AnswersEngine closed (Iface t u h g) c e (Refused GivenRefusal.TheVariants.Missing) e
  unfolding questions after_close exist term_exists session state_with refusal_meaning
  iface_missing {r} w p n s o m z q =
      refuses o z GivenRefusal.TheVariants.Missing (yes_here _ _ (q ∙ not-false closed w) ∙ no_here _ _ (sym p ∙ not-true r n))

  module _ {r b : Bool} (w : not closed ≡ false) (p : r ≡ two_exist c t u) (n : not r ≡ false)
      (d : b ≡ one_sort c t u) where
    pub iface_disagrees : not b ≡ true → AnswersEngine closed (Iface t u h g) c e (Refused GivenRefusal.TheVariants.Disagreeing) e
    unfolding questions after_close exist agree Session.one_sort term_exists session state_with refusal_meaning
    iface_disagrees k s o m z q =
        refuses o z GivenRefusal.TheVariants.Disagreeing
        (yes_here _ _ (q ∙ not-false closed w) ∙ yes_here _ _ (sym p ∙ not-false r n) ∙ no_here _ _ (sym d ∙ not-true b k))

    pub iface_merged : {e' : List ℕ} (j : TheoryJust) → j.theory ≡ h → j.tag ≡ g → not b ≡ false →
        Merges e e' t u (just_meaning (GivenJust.TheVariants.Interface j)) →
        AnswersEngine closed (Iface t u h g) c e (Ok Given.TheVariants.Ok) e'
    unfolding questions after_close exist agree Session.one_sort term_exists session state_with perform just_meaning
    iface_merged {e'} j i₁ i₂ k M s o m z q =
        merge_answers (Iface t u h g) t u (Interface h g) o z (q ∙ not-false closed w)
        (yes_here _ _ (q ∙ not-false closed w) ∙ yes_here _ _ (sym p ∙ not-false r n) ∙ yes_last _ (sym d ∙ not-false b k)) refl
        (subst (λ (p : EqJust). Merges e e' t u p) (ap₂ Interface i₁ i₂) M)

-- ---- `cong`

module _ (c e : List ℕ) (closed : Bool) (t u : ℕ) where
  pub cong_early : not closed ≡ true → AnswersEngine closed (Cong t u) c e (Refused GivenRefusal.TheVariants.Misplaced) e
  unfolding questions after_close session refusal_meaning
  cong_early w s o m z q = refuses o z GivenRefusal.TheVariants.Misplaced (no_here _ _ (q ∙ not-true closed w))

  pub cong_missing : (r : Bool) → not closed ≡ false → r ≡ two_exist c t u → not r ≡ true →
      AnswersEngine closed (Cong t u) c e (Refused GivenRefusal.TheVariants.Missing) e
  unfolding questions after_close exist term_exists session state_with refusal_meaning
  cong_missing r w p n s o m z q =
      refuses o z GivenRefusal.TheVariants.Missing (yes_here _ _ (q ∙ not-false closed w) ∙ no_here _ _ (sym p ∙ not-true r n))

  module _ (r b : Bool) (w : not closed ≡ false) (p : r ≡ two_exist c t u) (n : not r ≡ false) (d : b ≡ congruent c e t u) where
    pub cong_differs : not b ≡ true → AnswersEngine closed (Cong t u) c e (Refused GivenRefusal.TheVariants.NotCongruent) e
    unfolding questions after_close exist Session.congruent equal argument_pairs term_exists session state_with refusal_meaning
    cong_differs k s o m z q =
        refuses o z GivenRefusal.TheVariants.NotCongruent
        (yes_here _ _ (q ∙ not-false closed w) ∙ yes_here _ _ (sym p ∙ not-false r n) ∙ no_here _ _ (sym d ∙ not-true b k))

    module _ (xs ys : List ℕ) (f : Bool) (k : not b ≡ false) (l : xs ≡ children (context c) t) (v : ys ≡ children (context c) u)
        (g : f ≡ pairs_fit e t u xs ys) where
      cong_asked : (s : List ℕ) (m : Beside) → m.closed ≡ closed → first_no (questions (session c e s m) (Cong t u)) ≡ none
      unfolding questions after_close exist Session.congruent equal argument_pairs term_exists session state_with
      cong_asked s m q = yes_here _ _ (q ∙ not-false closed w) ∙ yes_here _ _ (sym p ∙ not-false r n) ∙ yes_last _ (sym d ∙ not-false b k)

      pub cong_full : not f ≡ true → AnswersEngine closed (Cong t u) c e (Refused GivenRefusal.TheVariants.NoRoom) e
      unfolding perform merged done with_eq argument_pairs session state_with
      cong_full a s o m z q =
          no_room o z (cong_asked s m q)
          (unfit_pairs (perform (session c e s m) (Cong t u)).session.state
          (ap₂ (λ (as' bs : List ℕ). pairs_fit e t u as' bs) (sym l) (sym v) ∙ sym g ∙ not-true f a))

      pub cong_merged : {e' : List ℕ} → Merges e e' t u (Congruence (zip xs ys)) →
          AnswersEngine closed (Cong t u) c e (Ok Given.TheVariants.Ok) e'
      unfolding perform argument_pairs session state_with
      cong_merged {e'} M s o m z q =
          merge_answers (Cong t u) t u (Congruence (zip (children (context c) t) (children (context c) u))) o z (q ∙ not-false closed w)
          (cong_asked s m q) refl
          (subst (λ (ps : List (ℕ × ℕ)). Merges e e' t u (Congruence ps)) (ap₂ zip l v) M)

-- a pair of two lists of nodes
pair_nodes : (xs ys : List ℕ) (p : ℕ × ℕ) → AllBelow max_terms xs → AllBelow max_terms ys → In p (zip xs ys) → IsNode p.0 × IsNode p.1
unfolding zip
pair_nodes [] ys p f g i = absurd i
pair_nodes (x ∷ xs) [] p f g i = absurd i
pair_nodes (x ∷ xs) (y ∷ ys) p f g (inl e) =
    subst⁻¹ (λ (q : ℕ × ℕ). IsNode q.0 × IsNode q.1) e (f 0 (omega arith), g 0 (omega arith))
pair_nodes (x ∷ xs) (y ∷ ys) p f g (inr i) = pair_nodes xs ys p (λ j h. f (suc j) (omega arith)) (λ j h. g (suc j) (omega arith)) i

-- what merging by congruence asks
module _ (c e : List ℕ) (t u : ℕ) (xs ys : List ℕ) (r b : Bool) (M : Merging c e) (named : r ≡ two_exist c t u) (yes_named : not r ≡ false)
    (d : b ≡ congruent c e t u) (k : not b ≡ false) (l : xs ≡ children (context c) t) (v : ys ≡ children (context c) u) where
  abbrev same : same_op (term (context c) t).op (term (context c) u).op ≡ true
  same = and_left _ _ (sym d ∙ not-false b k)

  pub cong_pairs : NodePairs e xs ys
  cong_pairs = arguments_are (two_applications c e t u r M named yes_named) (sym same) refl l v

  pub cong_nodes : NodePairs e (t ∷ xs) (u ∷ ys)
  cong_nodes =
      let P = cong_pairs in
      let N = two_nodes c e t u r M named yes_named in
      record { sound = M.engine; same_count = ap suc P.same_count; left = left P N; right = right P N }
    where
      left : NodePairs e xs ys → TwoNodes e t u → (j : ℕ) → j < length (t ∷ xs) → get_or (t ∷ xs) j 0 < max_terms
      left P N zero h = N.first
      left P N (suc j) h = P.left j (omega arith)

      right : NodePairs e xs ys → TwoNodes e t u → (j : ℕ) → j < length (u ∷ ys) → get_or (u ∷ ys) j 0 < max_terms
      right P N zero h = N.second
      right P N (suc j) h = P.right j (omega arith)

  abbrev equal_now : ℕ × ℕ → Bool
  equal_now p = are_equal (merges e) p.0 p.1

  pairs_equal : EqualPairs (merges e) (zip xs ys)
  pairs_equal p i =
      let all : T (every equal_now (zip xs ys)) =
      subst⁻¹ (λ (ps : List (ℕ × ℕ)). T (every equal_now ps)) (ap₂ zip l v)
      (true_T _ (and_right (same_op (term (context c) t).op (term (context c) u).op) _ (sym d ∙ not-false b k)))
      in
      let (x, y) = pair_nodes xs ys p cong_pairs.left cong_pairs.right i in
      (every_in equal_now (zip xs ys) p all i, x, y)

  pub cong_may : (f : Bool) → f ≡ pairs_fit e t u xs ys → not f ≡ false → Congruent e t u xs ys
  cong_may f g n =
      record {
        nodes = two_nodes c e t u r M named yes_named;
        same_count = cong_pairs.same_count;
        equal = pairs_equal;
        fit = leb→le _ max_pairs (true_T _ (sym g ∙ not-false f n));
      }

-- ---- `equate`

module _ {c e s : List ℕ} {closed : Bool} {l : ℕ} where
  pub equate_early : not closed ≡ true → AnswersEquate closed (Equate l) c e s (Refused GivenRefusal.TheVariants.Misplaced) e
  unfolding questions after_close session refusal_meaning
  equate_early w o m z q = refuses o z GivenRefusal.TheVariants.Misplaced (no_here _ _ (q ∙ not-true closed w))

  pub equate_missing : {r : Bool} → not closed ≡ false → r ≡ var_exists s l → not r ≡ true →
      AnswersEquate closed (Equate l) c e s (Refused GivenRefusal.TheVariants.Missing) e
  unfolding questions after_close exist Session.var_exists session state_with refusal_meaning
  equate_missing {r} w p n o m z q =
      refuses o z GivenRefusal.TheVariants.Missing (yes_here _ _ (q ∙ not-false closed w) ∙ no_here _ _ (sym p ∙ not-true r n))

  module _ {r b : Bool} (w : not closed ≡ false) (p : r ≡ var_exists s l) (n : not r ≡ false)
      (d : b ≡ equation c s l) where
    pub equate_other : not b ≡ true → AnswersEquate closed (Equate l) c e s (Refused GivenRefusal.TheVariants.NotEquation) e
    unfolding questions after_close exist Session.equation Session.is_equation Session.var_exists atom_of session state_with refusal_meaning
    equate_other k o m z q =
        refuses o z GivenRefusal.TheVariants.NotEquation
        (yes_here _ _ (q ∙ not-false closed w) ∙ yes_here _ _ (sym p ∙ not-false r n) ∙ no_here _ _ (sym d ∙ not-true b k))

    pub equate_merged : {e' : List ℕ} → not b ≡ false → MergesSides c e s l e' →
        AnswersEquate closed (Equate l) c e s (Ok Given.TheVariants.Ok) e'
    unfolding questions after_close exist Session.equation Session.is_equation Session.var_exists atom_of session state_with perform merge_sides
    equate_merged k M o m z q =
        merge_answers (Equate l) M.left M.right (Asserted l) o z (q ∙ not-false closed w)
        (yes_here _ _ (q ∙ not-false closed w) ∙ yes_here _ _ (sym p ∙ not-false r n) ∙ yes_last _ (sym d ∙ not-false b k))
        (ap (merge_sides (session c e s m) l) M.sides) M.merged

-- the literal's variable is registered, and its atom an equation
module _ (c e s : List ℕ) (l : ℕ) (r : Bool) (S : StateSound c e s) (p : r ≡ var_exists s l) (n : not r ≡ false) where
  pub lit_named : NamesLit c s l
  lit_named = record { core = S.core; solver = S.solver; atoms_are = S.registered; registered = sym p ∙ not-false r n }

  pub equating : (b : Bool) → b ≡ equation c s l → not b ≡ false → Equating c e s l
  equating b d k =
      record { state = S; registered = sym p ∙ not-false r n; equation = and_right (Ids.is_positive l) _ (sym d ∙ not-false b k) }

-- ---- the sides of an equation

is_eq : (o : Op) → same_op o Eq ≡ true → o ≡ Eq
unfolding same_op
is_eq Eq e = refl
is_eq (Uninterpreted f) e = absurd (true≢false (sym e))

module _ {c e s : List ℕ} {l v x : ℕ} (E : Equating c e s l) (f : v ≡ Ids.var l) (a : x ≡ atom (atoms (registry s)) v) where
  abbrev names : NamesLit c s l
  names = record { core = E.state.core; solver = E.state.solver; atoms_are = E.state.registered; registered = E.registered }

  pub equated_var : is_registered (atoms (registry s)) v ≡ true
  equated_var = named_var names f

  pub equated_atom : x < length (context c).terms
  equated_atom = named_atom names f a

  atom_is : x ≡ atom (atoms (registry s)) (Ids.var l)
  atom_is = a ∙ ap (atom (atoms (registry s))) f

  -- an equation has two sides, which are nodes
  module _ {xs : List ℕ} (h : xs ≡ children (context c) x) where
    two_sides : (p q : ℕ) × (children (context c) x ≡ p ∷ q ∷ [])
    two_sides =
        let F = E.state.formed in
        let o : (term (context c) x).op ≡ Eq = is_eq _ (ap (λ (y : ℕ). same_op (term (context c) y).op Eq) atom_is ∙ E.equation) in
        let (p, q, w, g) = subst (λ (r : Op). Agrees (context c) r (children (context c) x)) o (F.agrees x equated_atom) in
        (p, q, w)

    pub side_count : 2 ≤ length xs
    side_count = let (p, q, w) = two_sides in let n = ap length (h ∙ w) in omega arith

    pub sides_listed : children (context c) (atom (atoms (registry s)) (Ids.var l)) ≡ get_or xs 0 0 ∷ get_or xs 1 0 ∷ []
    sides_listed =
        let (p, q, w) = two_sides in
        ap (children (context c)) (sym atom_is) ∙ w ∙ sym (ap (λ (ys : List ℕ). get_or ys 0 0 ∷ get_or ys 1 0 ∷ []) (h ∙ w))

    pub side_nodes : TwoNodes e (get_or xs 0 0) (get_or xs 1 0)
    side_nodes =
        let n = side_count in
        let all = subst⁻¹ (AllBelow max_terms) h (children_nodes c x E.state.core E.state.formed equated_atom) in
        record { sound = E.state.engine; first = all 0 (omega arith); second = all 1 (omega arith) }

    pub sides_merged : {e' : List ℕ} (q : Lit) → q.0 ≡ l →
        Merges e e' (get_or xs 0 0) (get_or xs 1 0) (just_meaning (GivenJust.TheVariants.Asserted q)) → MergesSides c e s l e'
    unfolding just_meaning
    sides_merged {e'} q i M =
        record {
          left = get_or xs 0 0;
          right = get_or xs 1 0;
          sides = sides_listed;
          merged = subst (λ (n : ℕ). Merges e e' (get_or xs 0 0) (get_or xs 1 0) (Asserted n)) i M;
        }
