-- Each kind of accepted line keeps the invariant.
use Prim.Native.Nat.{ℕ, zero, suc, ◌≤◌, ◌<◌}
use mathlib.Core.Path.{◌≡◌, refl, sym, subst, subst⁻¹, ap, ◌∙◌}
use mathlib.Core.Logic.{◌⊎◌, inl, inr}
use mathlib.Core.Bool.{Bool, true, false, cond, not}
use mathlib.Core.List.{List, [], ◌∷◌}
use native.Mathlib.Omega.{arith}
use lib.Dec.{T, eqb, ltb}
use borrow.Author.Tests.{ltb-false}
use lib.ListN.{length}
use Rattle.shinri_core.specs.Lists.{mem}
use Rattle.shinri_core.specs.Ids as Ids
use Rattle.shinri_core.specs.Term.{Term}
use Rattle.shinri_core.specs.Context.{Context, empty_context, children, all_grounded}
use Rattle.shinri_core.proofs.Lists.{In}
use Rattle.theory.specs.Types.{EqJust}
use Rattle.theory.specs.EqEngine.{Merge, are_equal, merge, pop_merges, pairs_of}
use Rattle.theory.specs.Atom as Atom
use Rattle.theory.specs.Atom.{Registered}
use Rattle.theory.proofs.Members.{in_left, in_any}
use Rattle.theory.proofs.Explain.{TwoTerms, merge_justified, pop_justified}
use Rattle.theory.proofs.Classes.{in_suffix, pop_suffix}
use Rattle.solver.specs.State.{State, AssertedAtom, empty_state, with_eq, with_atoms, with_level, with_level_record, with_negative_record, with_disequalities, with_marks, with_dt}
use Rattle.solver.specs.Records as Records
use Rattle.solver.specs.Records.{relevant}
use Rattle.solver.proofs.Basics.{mem_in, Ascending}
use Rattle.solver.proofs.Terms.{Formed}
use Rattle.solver.proofs.Signature.{empty_signed}
use Rattle.solver.proofs.Clash.{Ready, Affirmed, Negated, Unequal, record_by}
use Rattle.solver.proofs.Collection.{Beneath, children_lower, Marks, new_var_marks}
use Rattle.session.specs.Line.{Command, Register, Equate, Pop}
use Rattle.session.specs.Session.{Session, empty_session, popped, pop_to}
use Rattle.session.specs.History.{History, level, level_after, InForce, Accepted, IsAtom}
use Rattle.session.proofs.Forces.{kind, accepted_other}
use Rattle.session.proofs.Invariant.{signature, declared, Kept, kept_self, Named, named_on, named_new, MergeFrom, LineSides, Merged, merged_on, merged_pop, merged_stay, merged_more, merge_members, Entries, entries_on, entries_pop, entries_stay, popped_record, AllMarked, Inv}

-- ---- what stands below an old term

beneath_back : (a b : Context) → Kept a b → Formed a → (n x t : ℕ) → x < length a.terms → Beneath b n x t → Beneath a n x t × (t < length a.terms)
beneath_back a b k F zero x t l e = (e, subst (λ (z : ℕ). z < length a.terms) e l)
beneath_back a b k F (suc n) x t l (y, m, w) =
    let m' : T (mem y (children a x)) = subst (λ (ys : List ℕ). T (mem y ys)) same m in
    let h = children_lower a F x y (mem_in y (children a x) m') in
    let (w', l') = beneath_back a b k F n y t (omega arith) w in
    ((y, m', w'), l')
  where
    same : children b x ≡ children a x
    same = unfold children in ap (λ (z : Term). z.args) (k.same x l)

-- ---- lines that join nothing, take nothing back and name nothing

pub record Plain (s s' : Session) (h : History) (d : Command) : Type 0 where
  pub not_register : kind d ≡ 1 → ⊥
  pub not_equate : kind d ≡ 2 → ⊥
  pub not_cong : kind d ≡ 3 → ⊥
  pub not_iface : kind d ≡ 4 → ⊥
  pub not_pop : kind d ≡ 6 → ⊥
  pub ready : Ready s'.state
  pub kept : Kept s.state.terms s'.state.terms
  pub eq : s'.state.eq ≡ s.state.eq
  pub atoms : s'.state.atoms ≡ s.state.atoms
  pub level_up : s.state.level ≤ s'.state.level
  pub level : s'.state.level ≡ level (d ∷ h)
  pub entries : Entries (record_by s'.state) s'.state.terms s'.state.level (d ∷ h)
  pub marks : (t : ℕ) → In t s.state.dt.marks → In t s'.state.dt.marks
  pub ascending : Ascending s'.state.dt.marks
  pub bool_there : 0 < length s'.state.terms.sorts
  pub sorts : s'.state.terms.sorts ≡ (signature (d ∷ h)).sorts
  pub symbols : s'.state.terms.symbols ≡ (signature (d ∷ h)).symbols
  pub grounded : T s'.closed → T (all_grounded s'.state.terms)
  pub unmade : s'.closed ≡ false → s'.state.terms.terms ≡ []
  pub relevant_back : (a : Registered) → In a s.state.atoms → (t : ℕ) → t < length s.state.terms.terms → T (relevant s'.state.terms t) → T (relevant s.state.terms t)

pub plain_kept : (s s' : Session) (h : History) (d : Command) → Inv s h → Plain s s' h d → Inv s' (d ∷ h)
unfolding kind
plain_kept s s' h d I P = record {
  ready = P.ready;
  bool_there = P.bool_there;
  sorts = P.sorts;
  symbols = P.symbols;
  level = P.level;
  grounded = P.grounded;
  unmade = P.unmade;
  ascending = P.ascending;
  named = subst⁻¹ (λ (as' : List Registered). Named s'.state.terms as' (d ∷ h)) P.atoms (named_on s.state.terms s'.state.terms s.state.atoms h d P.not_register P.kept I.named);
  merged = subst⁻¹ (λ (as' : List Registered). Merged s'.state.terms as' s'.state.eq s'.state.level (d ∷ h)) P.atoms
      (subst⁻¹ (λ (ms : List Merge). Merged s'.state.terms s.state.atoms ms s'.state.level (d ∷ h)) P.eq
      (merged_on s.state.terms s'.state.terms s.state.atoms s.state.atoms s.state.eq s.state.level s'.state.level h d P.kept I.named P.level_up P.not_equate P.not_cong P.not_iface P.not_pop (λ v t. t)
      (λ v l t i at. accepted_other d h (Register (Ids.var l) t) (λ e. P.not_register e) at) I.merged));
  entries = P.entries;
  marked = λ v a n t i b r. go v a n t (accepted_other d h (Register v a) (λ e. P.not_register e) i) b r;
}
  where
    go : (v a n t : ℕ) → Accepted h (Register v a) → Beneath s'.state.terms n a t → T (relevant s'.state.terms t) → In t s'.state.dt.marks
    go v a n t i b r =
        let w = I.named.have v a i in
        let (b', l) = beneath_back s.state.terms s'.state.terms P.kept I.ready.formed n a t (I.named.within (record { var = v; atom = a }) w) b in
        P.marks t (I.marked v a n t i b' (P.relevant_back (record { var = v; atom = a }) w t l r))

-- ---- registration

pub register_kept : (s : Session) (h : History) (v t : ℕ) → Inv s h → T (not (Atom.is_registered s.state.atoms v)) → t < length s.state.terms.terms → Inv (record { state = Records.new_var (with_atoms s.state (Atom.register s.state.atoms v t)) t; closed = s.closed }) (Register v t ∷ h)
unfolding Records.new_var with_marks with_dt with_atoms kind signature declared level level_after Atom.register Atom.is_registered
register_kept s h v t I n l = record {
  ready = record { formed = I.ready.formed; signed = I.ready.signed; justified = I.ready.justified; two_terms = I.ready.two_terms };
  bool_there = I.bool_there;
  sorts = I.sorts;
  symbols = I.symbols;
  level = I.level;
  grounded = I.grounded;
  unmade = I.unmade;
  ascending = M.ascending I.ascending;
  named = named_new s.state.terms s.state.atoms h v t n l I.named;
  merged = merged_on s.state.terms s.state.terms s.state.atoms (Atom.register s.state.atoms v t) s.state.eq s.state.level s.state.level h (Register v t) (kept_self s.state.terms) I.named (omega arith) (λ e. omega arith) (λ e. omega arith) (λ e. omega arith) (λ e. omega arith) more old I.merged;
  entries = entries_on (record_by s.state) s.state.terms s.state.terms s.state.atoms s.state.level s.state.level h
      (Register v t) (kept_self s.state.terms) I.named (λ e. omega arith) (omega arith) I.entries;
  marked = marked;
}
  where
    before : State
    before = with_atoms s.state (Atom.register s.state.atoms v t)

    M : Marks before t (Records.new_var before t)
    M = new_var_marks before t

    more : (w : ℕ) → T (Atom.is_registered s.state.atoms w) → T (Atom.is_registered (Atom.register s.state.atoms v t) w)
    more w r =
        let (a, i, e) = Rattle.shinri_core.proofs.Lists.any_in (λ (x : Registered). eqb x.var w) s.state.atoms r in
        in_any (λ (x : Registered). eqb x.var w) (Atom.register s.state.atoms v t) a (in_left a s.state.atoms (record { var = v; atom = t } ∷ []) i) e

    var_is : (w u : ℕ) → Register v t ≡ Register w u → v ≡ w
    var_is w u e = cc

    atom_is : (w u : ℕ) → Register v t ≡ Register w u → t ≡ u
    atom_is w u e = cc

    old : (k c u : ℕ) → InForce h k (Equate c) → IsAtom (Register v t ∷ h) c u → IsAtom h c u
    old k c u i (inl e) = absurd (lib.Dec.T_not (Atom.is_registered s.state.atoms v) n (subst⁻¹ (λ (w : ℕ). T (Atom.is_registered s.state.atoms w)) (var_is (Ids.var c) u e) (I.merged.equated k c i)))
    old k c u i (inr a) = a

    marked : (w a m u : ℕ) → Accepted (Register v t ∷ h) (Register w a) → Beneath s.state.terms m a u → T (relevant s.state.terms u) → In u (Records.new_var before t).dt.marks
    marked w a m u (inl e) b r = M.new m u (λ x y i. children_lower s.state.terms I.ready.formed x y i) (subst⁻¹ (λ (z : ℕ). Beneath s.state.terms m z u) (atom_is w a e) b) r
    marked w a m u (inr i) b r = M.old u (I.marked w a m u i b r)

-- ---- merges

pub merge_kept : (s : Session) (h : History) (d : Command) (x y : ℕ) (j : EqJust) → Inv s h → (kind d ≡ 1 → ⊥) → (kind d ≡ 6 → ⊥) → declared d (signature h) ≡ signature h → level_after d (level h) ≡ level h → ((p : ℕ × ℕ) → In p (pairs_of j) → T (are_equal s.state.eq p.0 p.1)) → (are_equal s.state.eq x y ≡ false → TwoTerms j) → MergeFrom s.state.terms (d ∷ h) x y s.state.level j → ((v z w : ℕ) → LineSides s.state.terms (d ∷ h) v z w → ((v ≡ level h) × (z ≡ x) × (w ≡ y)) ⊎ LineSides s.state.terms h v z w) → ((v l : ℕ) → InForce (d ∷ h) v (Equate l) → T (Atom.is_registered s.state.atoms (Ids.var l))) → Inv (record { state = with_eq s.state (merge s.state.eq s.state.level x y j); closed = s.closed }) (d ∷ h)
unfolding with_eq signature level kind
merge_kept s h d x y j I n₁ n₆ sg lv J T₂ F S G = record {
  ready = record {
    formed = I.ready.formed;
    signed = I.ready.signed;
    justified = merge_justified s.state.eq s.state.level x y j I.ready.justified J;
    two_terms = merge_members s.state.eq s.state.level x y j (λ m. TwoTerms m.just) I.ready.two_terms T₂;
  };
  bool_there = I.bool_there;
  sorts = I.sorts ∙ ap (λ (z : Context). z.sorts) (sym sg);
  symbols = I.symbols ∙ ap (λ (z : Context). z.symbols) (sym sg);
  level = I.level ∙ sym lv;
  grounded = I.grounded;
  unmade = I.unmade;
  ascending = I.ascending;
  named = named_on s.state.terms s.state.terms s.state.atoms h d n₁ (kept_self s.state.terms) I.named;
  merged = merged_more s.state.terms s.state.atoms s.state.eq s.state.level h d x y j n₆ I.level F S G I.merged;
  entries = entries_on (record_by s.state) s.state.terms s.state.terms s.state.atoms s.state.level s.state.level h d
      (kept_self s.state.terms) I.named n₆ (omega arith) I.entries;
  marked = λ v a n t i b r. I.marked v a n t (accepted_other d h (Register v a) (λ e. n₁ e) i) b r;
}

-- ---- pop

pub pop_kept : (s : Session) (h : History) (k : ℕ) → Inv s h → Inv (record { state = pop_to s.state k; closed = s.closed }) (Pop k ∷ h)
unfolding pop_to popped kind signature declared level level_after
pop_kept s h k I = go (ltb k s.state.level) refl
  where
    level_is : (b : Bool) → ltb k s.state.level ≡ b → cond b k (level h) ≡ level_after (Pop k) (level h)
    level_is b e = ap (λ (c : Bool). cond c k (level h)) (sym e ∙ ap (λ (n : ℕ). ltb k n) I.level)

    named : Named s.state.terms s.state.atoms (Pop k ∷ h)
    named = named_on s.state.terms s.state.terms s.state.atoms h (Pop k) (λ e. omega arith) (kept_self s.state.terms) I.named

    marked : AllMarked s.state.terms s.state.dt.marks (Pop k ∷ h)
    marked v a n t i b r = I.marked v a n t (accepted_other (Pop k) h (Register v a) (λ e. omega arith) i) b r

    go : (b : Bool) → ltb k s.state.level ≡ b →
        Inv (record { state = cond b (popped s.state k) s.state; closed = s.closed }) (Pop k ∷ h)
    go true e = unfold with_disequalities with_negative_record with_level_record with_eq with_level with_dt in record {
      ready = record {
        formed = I.ready.formed;
        signed = I.ready.signed;
        justified = pop_justified k s.state.eq I.ready.justified;
        two_terms = λ m i. I.ready.two_terms m (in_suffix (pop_merges k s.state.eq) s.state.eq m (pop_suffix k s.state.eq) i);
      };
      bool_there = I.bool_there;
      sorts = I.sorts;
      symbols = I.symbols;
      level = level_is true e;
      grounded = I.grounded;
      unmade = I.unmade;
      ascending = I.ascending;
      named = named;
      merged = merged_pop s.state.terms s.state.atoms s.state.eq s.state.level k h I.merged;
      entries = λ b x i. entries_pop (record_by s.state) s.state.terms s.state.level k h I.entries b x
          (subst (λ (es : List AssertedAtom). In x es) (popped_record s.state k b) i);
      marked = marked;
    }
    go false e = record {
      ready = I.ready;
      bool_there = I.bool_there;
      sorts = I.sorts;
      symbols = I.symbols;
      level = I.level ∙ level_is false e;
      grounded = I.grounded;
      unmade = I.unmade;
      ascending = I.ascending;
      named = named;
      merged = merged_stay s.state.terms s.state.atoms s.state.eq s.state.level k h (ltb-false k s.state.level e) I.merged;
      entries = entries_stay (record_by s.state) s.state.terms s.state.level k h (ltb-false k s.state.level e) I.entries;
      marked = marked;
    }

-- ---- the empty session

pub empty_inv : Inv empty_session []
unfolding empty_session empty_state empty_context signature level
empty_inv = record {
  ready = record {
    formed = record { lower = λ t l. absurd (omega arith); agrees = λ t l. absurd (omega arith); distinct = λ t u l m e. absurd (omega arith) };
    signed = empty_signed;
    justified = tt;
    two_terms = λ m i. absurd i;
  };
  bool_there = omega arith;
  sorts = refl;
  symbols = refl;
  level = refl;
  grounded = λ t. absurd t;
  unmade = λ e. refl;
  ascending = tt;
  named = record { have = λ v t i. absurd i; from = λ a i. absurd i; one = λ a b i. absurd i; within = λ a i. absurd i };
  merged = record { from = λ m i. absurd i; levels = λ m i. absurd i; falling = tt; joined = λ v x y s. none v x y s; equated = λ v l i. absurd i };
  entries = none_recorded;
  marked = λ v a n t i. absurd i;
}
  where
    none_recorded : Entries (record_by empty_state) empty_context 0 []
    none_recorded Affirmed e i = absurd i
    none_recorded Negated e i = absurd i
    none_recorded Unequal e i = absurd i

    none : (v x y : ℕ) → LineSides empty_context [] v x y → T (are_equal (pop_merges v []) x y)
    none v x y (inl (l, t, i, w, e)) = absurd i
    none v x y (inr (inl i)) = absurd i
    none v x y (inr (inr (i, g, w))) = absurd w
