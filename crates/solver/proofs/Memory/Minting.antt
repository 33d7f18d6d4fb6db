-- A term made and marked in a check: the new mark is the kind of an application whose symbol has a role, and where the symbol is no
-- constructor the chains stay, since its application is none of theirs.
use Rattle.shinri_core.proofs.Kit.{ℕ, zero, suc, ◌-◌, ◌≤◌, ◌<◌, ◌≡◌, refl, sym, ap, ◌∙◌, subst, ◌⊎◌, inl, inr, Bool, true, false, cond, true≢false, List, [], ◌∷◌, none, Option, ℕ_discrete, arith, eqb, eq-eqb, ne_eqb, length}
use Rattle.shinri_core.specs.Limits.{max_terms}
use Rattle.shinri_core.specs.Lists.{insert, mem, In, gather, cons_option, keep, range}
use Rattle.shinri_core.specs.Term as Term
use Rattle.shinri_core.specs.Term.{Term, Op, Role, Constructor, Tester, Selector, Function}
use Rattle.shinri_core.specs.Context.{CtorApp, symbol, term, ctor_app, is_datatype_sort, terms_fit, mk_app}
use Rattle.shinri_core.specs.Memory.Words.{at, put, Kept}
use Rattle.shinri_core.specs.Memory.Table.{context}
use Rattle.shinri_core.specs.Memory.Codes.{MkApp, made_answer, made_context}
use Rattle.shinri_core.specs.declared.ids.TermId as TermId
use Rattle.shinri_core.specs.declared.limits.NoRoom.{NoRoom}
use Rattle.shinri_core.proofs.Lists.{range_in}
use Rattle.solver.specs.State.{with_emitted, with_dt, with_marks, mark, make_app, marked_in, mint}
use Rattle.theory.specs.Memory.Table.{merges}
use Rattle.solver.specs.Memory.Table.{COUNTS, RECORDS, MARK, LASTING, EMITTED, SPLIT, solver_room, records#, SolverSound, is_set, flagged_from, role_kind, term_kind, of_sign, of_unequal, dt_with, state_with}
use Rattle.solver.specs.Memory.Work.{W_MARK, NEXT, state_at, apps_from, first_in_class, app_word, ChainSound, CheckSound, Markable, Marked}
use Rattle.solver.specs.Rules.{hand_out}
use Rattle.solver.specs.declared.answer.TCheck as TCheck
use Rattle.solver.specs.Memory.Answer.{LemmaWritten, Guard}
use Rattle.solver.specs.Memory.Making.{HandsOut, Makeable, MadeOutcome, MadeWithin, MakesTerm, Made}
use Rattle.solver.proofs.Basics.{by_test}
use Rattle.solver.proofs.Terms.{app, extends_symbol, mk_app_makes}
use Rattle.solver.proofs.Apps.{op_is}
use Rattle.solver.proofs.Memory.Flags.{has, flagged_mem, flagged_insert}
use Rattle.solver.proofs.Memory.Frames.{registry_kept, flagged_kept, record_kept, state_kept}
use Rattle.solver.proofs.Memory.TableStores.{region, kept_none, kept_put}
use Rattle.solver.proofs.Memory.Roles.{kind_ctor, kind_no_ctor, kind_by_role}
use Rattle.solver.proofs.Memory.Growing.{made_app}
use Rattle.std.specs.Prelude.{Ok, Err}

-- ---- what was made

-- the term made is the application that was asked for
pub made_is : {c : List ℕ} {o : Op} {args : List ℕ} {r : Made} {c' : List ℕ} {x : TermId.TermId} → MkApp c o args r c' →
    r ≡ Ok x → term (context c') x.0 ≡ app o args
unfolding made_answer made_context
made_is {c} {o} {args} {r} {c'} {x} K e = by_test (terms_fit (mk_app (context c) o args).context) fits lacks
  where
    fits : terms_fit (mk_app (context c) o args).context ≡ true → term (context c') x.0 ≡ app o args
    fits q =
        let here = rw q at K.answer in
        let number : x.0 ≡ (mk_app (context c) o args).id = cc in
        let view = rw q at K.view in
        rw (number, view) (mk_app_makes (context c) o args).made

    lacks : terms_fit (mk_app (context c) o args).context ≡ false → term (context c') x.0 ≡ app o args
    lacks q =
        let here = rw q at K.answer in
        let z : ◌≡◌ {A = ℕ} 0 1 = cc in
        absurd (omega arith)

role_set : (ρ : Role) (b : Bool) → (ρ ≡ Function → ⊥) → is_set (role_kind ρ b) ≡ true
unfolding is_set role_kind
role_set Constructor b n = refl
role_set (Tester c) b n = refl
role_set (Selector c i) true n = refl
role_set (Selector c i) false n = refl
role_set Function b n = absurd (n refl)

-- two tests that agree but where a partial function gives nothing
gather_kept : {A B : Type 0} (f : A → Option B) (p q : A → Bool) (xs : List A) → ((x : A) → In x xs → (p x ≡ q x) ⊎ (f x ≡ none)) →
    gather f (keep p xs) ≡ gather f (keep q xs)
unfolding gather keep cons_option
gather_kept f p q [] h = refl
gather_kept f p q (x ∷ xs) h = go (h x (inl refl)) (gather_kept f p q xs (λ y i. h y (inr i)))
  where
    skip : (b : Bool) → f x ≡ none → gather f (cond b (x ∷ keep p xs) (keep p xs)) ≡ gather f (keep p xs)
    skip true e = rw e
    skip false e = refl

    skip_other : (b : Bool) → f x ≡ none → gather f (cond b (x ∷ keep q xs) (keep q xs)) ≡ gather f (keep q xs)
    skip_other true e = rw e
    skip_other false e = refl

    take : (b : Bool) → gather f (keep p xs) ≡ gather f (keep q xs) →
        gather f (cond b (x ∷ keep p xs) (keep p xs)) ≡ gather f (cond b (x ∷ keep q xs) (keep q xs))
    take true r = ap (cons_option (f x)) r
    take false r = r

    go : (p x ≡ q x) ⊎ (f x ≡ none) → gather f (keep p xs) ≡ gather f (keep q xs) →
        gather f (cond (p x) (x ∷ keep p xs) (keep p xs)) ≡ gather f (cond (q x) (x ∷ keep q xs) (keep q xs))
    go (inl e) r = rw e (take (q x) r)
    go (inr e) r = skip (p x) e ∙ r ∙ sym (skip_other (q x) e)

-- ---- the new mark

module _
    {c e w : List ℕ} {f : ℕ} {args : List ℕ} {r : Made} {c' : List ℕ} {x : TermId.TermId}
    (m : Makeable c e w f args) (roled : (symbol (context c) f).role ≡ Function → ⊥) (K : MkApp c (Term.Uninterpreted f) args r c')
    (there : r ≡ Ok x)
  where
    made : MakesTerm (λ S. make_app S f args) (Unit {0}) c e w r c' w
    made = made_app m K

    symbol_is : symbol (context c') f ≡ symbol (context c) f
    symbol_is = extends_symbol (context c) (context c') f made.extends

    op_there : (term (context c') x.0).op ≡ Term.Uninterpreted f
    op_there = ap (λ (t : Term). t.op) (made_is K there)

    -- its kind, by the role of its symbol
    new_kind : term_kind (context c') x.0
        ≡ role_kind (symbol (context c) f).role (is_datatype_sort (context c') (symbol (context c') f).result)
    new_kind = kind_by_role (context c') x.0 f op_there (symbol (context c) f).role (ap (λ (s : Term.Symbol). s.role) symbol_is)

    new_within : x.0 < length (context c').terms
    new_within = subst (λ (z : Made). MadeWithin z (length (context c').terms)) there made.within

    pub markable : Markable c' e w x.0
    markable =
        let M = made.making in
        let count = M.core.term_count in
        let few = M.core.terms_fit in
        let l = new_within in
        record {
          asked = record { core = M.core; signed = M.signed; engine = M.engine; work = M.work; is_node = omega arith };
          within = new_within;
          relevant = ap is_set new_kind
              ∙ role_set (symbol (context c) f).role (is_datatype_sort (context c') (symbol (context c') f).result) roled;
        }

    -- an application of no constructor
    plain_kind : ((symbol (context c) f).role ≡ Constructor → ⊥) → term_kind (context c') x.0 ≡ 1 → ⊥
    plain_kind n q =
        let (g, p, ρ, a) = kind_ctor (context c') x.0 q in
        let same : f ≡ g = op_is f g (sym op_there ∙ p) in
        n (sym (ap (λ (s : Term.Symbol). s.role) symbol_is) ∙ ap (λ (h : ℕ). (symbol (context c') h).role) same ∙ ρ)

    module _ {u : List ℕ} (marked : Marked c' e w x.0 u) where
      -- other marks are as before
      old_mark : (y : ℕ) → y < max_terms → (y ≡ x.0 → ⊥) → at u W_MARK y ≡ at w W_MARK y
      old_mark y l d = marked.words y l ∙ ap (λ (b : Bool). cond b (term_kind (context c') x.0) (at w W_MARK y)) (ne_eqb y x.0 d)

      new_mark : x.0 < max_terms → at u W_MARK x.0 ≡ term_kind (context c') x.0
      new_mark l =
          marked.words x.0 l
          ∙ ap (λ (b : Bool). cond b (term_kind (context c') x.0) (at w W_MARK x.0)) (eq-eqb x.0 x.0 refl)

      minted_sound : (s : List ℕ) → CheckSound c e s w → CheckSound c' e s u
      unfolding is_set
      minted_sound s C =
          let grown = made.sound s C in
          record { state = grown.state; work = marked.work; more = λ y l q. go grown y l q (ℕ_discrete y x.0) }
        where
          go : CheckSound c' e s w → (y : ℕ) → y < max_terms → is_set (at s MARK y) ≡ true → Dec (y ≡ x.0) → at u W_MARK y ≡ at s MARK y
          go grown y l q (no d) = old_mark y l d ∙ grown.more y l q
          go grown y l q (yes d) = same (grown.state.marks y l)
            where
              same : (at s MARK y ≡ 0) ⊎ (at s MARK y ≡ term_kind (context c') y) → at u W_MARK y ≡ at s MARK y
              same (inl z) = absurd (true≢false (sym q ∙ ap is_set z))
              same (inr z) =
                  ap (at u W_MARK) d
                  ∙ new_mark (subst (λ (i : ℕ). i < max_terms) d l)
                  ∙ ap (term_kind (context c')) (sym d)
                  ∙ sym z

      minted_outcome : (s : List ℕ) (lv : ℕ → ℕ) →
          MadeOutcome (Ok x) (mint (state_at c e s w lv) f args) (state_at c' e s u lv)
      unfolding mint marked_in mark with_marks with_dt state_with dt_with
      minted_outcome s lv =
          let before = state_at c e s w lv in
          let is = subst (λ (z : Made). MadeOutcome z (make_app before f args) (state_at c' e s w lv)) there (made.outcome s lv) in
          ap marked_in is ∙ ap (λ (ms : List ℕ). record { id = x.0; state = state_with c' e s lv ms }) (sym marked.marks)

      -- ---- the chains

      same_apps : ((symbol (context c) f).role ≡ Constructor → ⊥) → (i : ℕ) → i ≤ max_terms →
          apps_from (context c') u i ≡ apps_from (context c') w i
      unfolding apps_from flagged_from
      same_apps n i l = gather_kept (ctor_app (context c')) (has u W_MARK) (has w W_MARK) (range i (max_terms - i)) each
        where
          each : (y : ℕ) → In y (range i (max_terms - i)) → (has u W_MARK y ≡ has w W_MARK y) ⊎ (ctor_app (context c') y ≡ none)
          each y k = let h = range_in i (max_terms - i) y k in go (ℕ_discrete y x.0) (omega arith)
            where
              go : Dec (y ≡ x.0) → y < max_terms → (has u W_MARK y ≡ has w W_MARK y) ⊎ (ctor_app (context c') y ≡ none)
              go (yes d) h = inr (ap (ctor_app (context c')) d ∙ kind_no_ctor (context c') x.0 (plain_kind n))
              go (no d) h = inl (ap is_set (old_mark y h d))

      minted_chain : ((symbol (context c) f).role ≡ Constructor → ⊥) → ChainSound c e w → ChainSound c' e u
      minted_chain n C = record { next = λ y l q. go y l q (ℕ_discrete y x.0) }
        where
          go : (y : ℕ) → y < max_terms → at u W_MARK y ≡ 1 → Dec (y ≡ x.0) →
              at u NEXT y ≡ app_word (first_in_class (merges e) y (apps_from (context c') u (suc y)))
          go y l q (yes d) =
              absurd (plain_kind n (sym (new_mark (subst (λ (i : ℕ). i < max_terms) d l)) ∙ ap (at u W_MARK) (sym d) ∙ q))
          go y l q (no d) =
              marked.kept.rest NEXT y tt l
              ∙ (made.chain tt C).next y l (sym (old_mark y l d) ∙ q)
              ∙ ap (λ (as' : List CtorApp). app_word (first_in_class (merges e) y as')) (sym (same_apps n (suc y) (omega arith)))

      pub minted : MakesTerm (λ S. mint S f args) ((symbol (context c) f).role ≡ Constructor → ⊥) c e w (Ok x) c' u
      minted = record {
        sound = minted_sound;
        making =
            let M = made.making in
            record { core = M.core; formed = M.formed; signed = M.signed; engine = M.engine; work = marked.work };
        extends = made.extends;
        within = new_within;
        outcome = minted_outcome;
        chain = minted_chain;
      }

-- ---- no room

pub not_minted : {Plain : Type 0} {c e w : List ℕ} {f : ℕ} {args : List ℕ} {r : Made} {c' : List ℕ} → Makeable c e w f args →
    MkApp c (Term.Uninterpreted f) args r c' → {n : NoRoom} → r ≡ Err n →
    MakesTerm (λ S. mint S f args) Plain c e w (Err n) c' w
unfolding mint marked_in mark with_marks with_dt
not_minted {Plain} {c} {e} {w} {f} {args} {r} {c'} m K {n} no_room =
    let made = made_app m K in
    record {
      sound = made.sound;
      making = made.making;
      extends = made.extends;
      within = tt;
      outcome = λ s lv.
          subst (λ (z : Made). MadeOutcome z (make_app (state_at c e s w lv) f args) (state_at c' e s w lv)) no_room
          (made.outcome s lv);
      chain = λ p C. made.chain tt C;
    }

-- ---- lemmas handed out

-- a lemma that was handed out before is passed over
pub passed_over : (s : List ℕ) {word x : ℕ} (g : Guard) (o : List ℕ) → x < max_terms → word ≡ at s EMITTED x → (word ≡ 0 → ⊥) →
    HandsOut x g s TCheck.TheVariants.Sat s o
unfolding hand_out state_with dt_with
passed_over s {word} {x} g o l known d = record {
  sound = λ c e w C. C;
  outcome = λ c e w lv. rw (flagged_mem s EMITTED x l, set_is (at s EMITTED x) (λ q. d (known ∙ q)));
  readable = tt;
  unchanged = λ n. refl;
}
  where
    set_is : (n : ℕ) → (n ≡ 0 → ⊥) → is_set n ≡ true
    set_is zero h = absurd (h refl)
    set_is (suc n) h = unfold is_set in refl

-- a new one has a flag from now on, and nothing else of the state changes
module _ (s : List ℕ) {x : ℕ} {s' : List ℕ} (z : SolverSound s) (l : x < max_terms) (stored : s' ≡ put s EMITTED x 1) where
  others_kept : Kept solver_room (EMITTED ∷ []) s s'
  others_kept = rw stored (kept_put (EMITTED ∷ []) s s EMITTED x 1 tt l (kept_none (EMITTED ∷ []) s))

  one_more : flagged_from s' EMITTED 0 ≡ insert x (flagged_from s EMITTED 0)
  one_more = flagged_insert s s' EMITTED x l (λ y h. rw (stored, region s EMITTED x y 1 tt z.long l) (go (eqb y x) (at s EMITTED y)))
    where
      go : (b : Bool) (n : ℕ) → is_set (cond b 1 n) ≡ cond b true (is_set n)
      go true n = unfold is_set in refl
      go false n = refl

  noted : (c e w : List ℕ) (lv : ℕ → ℕ) →
      state_at c e s' w lv ≡ with_emitted (state_at c e s w lv) (insert x (state_at c e s w lv).dt.emitted)
  unfolding state_with dt_with with_emitted with_dt
  noted c e w lv =
      let k = others_kept in
      let fit = z.records_fit in
      let count : records# s' ≡ records# s = k.rest COUNTS RECORDS tt (omega arith) in
      rw (
        registry_kept k tt z.long,
        record_kept k (of_sign true) lv fit count tt,
        record_kept k (of_sign false) lv fit count tt,
        record_kept k of_unequal lv fit count tt,
        flagged_kept k LASTING 0 tt refl,
        flagged_kept k SPLIT 0 tt refl,
        one_more,
      )

  check_noted : (c e w : List ℕ) → CheckSound c e s w → CheckSound c e s' w
  check_noted c e w C = record {
    state = state_kept others_kept tt tt tt tt tt tt tt tt C.state;
    work = C.work;
    more = λ y h q. C.more y h (sym (ap is_set (others_kept.rest MARK y tt h)) ∙ q) ∙ sym (others_kept.rest MARK y tt h);
  }

  pub handed_out : {word : ℕ} {g : Guard} {o : List ℕ} → word ≡ at s EMITTED x → word ≡ 0 → LemmaWritten x g o →
      HandsOut x g s TCheck.TheVariants.Split s' o
  unfolding hand_out
  handed_out {word} {g} {o} known none_yet W = record {
    sound = check_noted;
    outcome = λ c e w lv. rw (new c e w lv, noted c e w lv, W.is);
    readable = W.sound;
    unchanged = λ n. absurd (n refl);
  }
    where
      new : (c e w : List ℕ) (lv : ℕ → ℕ) → mem x (state_at c e s w lv).dt.emitted ≡ false
      new c e w lv = unfold state_with dt_with is_set in flagged_mem s EMITTED x l ∙ ap is_set (sym known ∙ none_yet)
