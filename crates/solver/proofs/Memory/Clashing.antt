-- Testers against their classes, of both signs. What the code finds of a class is what the definition asks for, and the leaves of a
-- conflict are the literal and then what an explanation appends to it.
use Rattle.shinri_core.proofs.Kit.{ℕ, ◌+◌, ◌/◌, ◌%◌, ◌≤◌, ◌<◌, ◌≡◌, refl, sym, ap, ap₂, ◌∙◌, subst, inl, true≢false, Bool, true, false, cond, not, List, [], ◌∷◌, ◌++◌, none, some, Option, arith, eqb, ltb-true, length, get_or}
use borrow.Author.Tests.{not-true, not-false}
use Rattle.shinri_core.specs.Limits.{max_terms}
use Rattle.shinri_core.specs.Lists.{In, any}
use Rattle.shinri_core.specs.Term as Term
use Rattle.shinri_core.specs.Context.{CtorApp, TesterApp, tester_app, children, symbol}
use Rattle.shinri_core.specs.Memory.Words.{at}
use Rattle.shinri_core.specs.Formed.{Formed, Signed}
use Rattle.shinri_core.specs.Memory.Table.{context, ContextSound}
use Rattle.shinri_core.specs.Memory.Codes.{op_meaning, role_meaning, OpAt, RoleAt}
use Rattle.shinri_core.specs.declared.ids.SymbolId as SymbolId
use Rattle.shinri_core.specs.declared.ids.TermId as TermId
use Rattle.shinri_core.specs.declared.ids.Lit as Lit
use Rattle.shinri_core.specs.declared.term.Op as Op
use Rattle.shinri_core.specs.declared.term.DtRole as DtRole
use Rattle.shinri_core.proofs.Lists.{T_true, true_T}
use Rattle.theory.specs.Types.{EqLeaf, AssertedLeaf}
use Rattle.theory.specs.EqEngine.{are_equal, explain, firsts, firsts_after}
use Rattle.theory.specs.declared.types.EqLeaf as GivenLeaf
use Rattle.theory.specs.Memory.Table.{merges}
use Rattle.theory.specs.Memory.Answer.{answer_size, leaves, leaf_meaning, with_leaf, LeavesSound, Pushed, Cleared}
use Rattle.theory.specs.Memory.Explaining.{Explainable, Explains}
use Rattle.theory.proofs.Memory.Leaves.{first_sound}
use Rattle.theory.proofs.Classes.{equal_sym, equal_trans}
use Rattle.solver.specs.State.{State, AssertedAtom, ctor_apps, ctor_of_class, equal}
use Rattle.solver.specs.Records.{literal_leaves, tester_leaves, disagrees, tester_conflict, is_own, own_app, denies, negative_conflict}
use Rattle.solver.specs.Rules.{Ruled, try_each, conflict_of, tester_clash_at, tester_clash, negative_clash_at, negative_clash}
use Rattle.solver.specs.declared.answer.TCheck as TCheck
use Rattle.std.specs.Prelude.{Some, None, Ok}
use Rattle.solver.specs.Memory.Table.{ENTRY, UNEQUAL, records#, is_set, term_kind, of_sign, key_atom, entry_key, asserted, entry_of, record_of, dt_with, state_with, max_lits}
use Rattle.solver.specs.Memory.Work.{state_at, apps_from, first_in_class, ctor_meaning, CtorAsked, CtorOfClass, CheckSound, CtorOf}
use Rattle.solver.specs.Memory.Answer.{Readable, Tried}
use Rattle.solver.specs.Memory.Testing.{ConflictIs, conflict_by, clash_by, agreeing, own_in_class, with_ctor, Lone, Found, DisagreeAsked, Disagrees, TesterTerm, TesterCtor, TesterAsked, ConflictAsked, TesterConflict, tester_found, tester_finds, found_at, ClashAsked, EntryAsked, EntryConflict}
use Rattle.solver.proofs.Basics.{first_some}
use Rattle.solver.proofs.Terms.{extends_self}
use Rattle.solver.proofs.Apps.{op_is}
use Rattle.solver.proofs.Signature.{tester_of}
use Rattle.solver.proofs.Memory.Roles.{TesterAt, kind_tester, kind_within}
use Rattle.solver.proofs.Memory.Owning.{own_first}
use Rattle.solver.proofs.Memory.Signs.{sign_tester}
use Rattle.solver.proofs.Memory.Trying.{try_same}
use Rattle.solver.proofs.Memory.Asking.{giving, Asking, asking_first, asking_next, asking_found, asking_done}
use mathlib.Core.Bool.{beq}

-- ---- a class and one constructor

-- a class that has one constructor, by its lowest application
pub found_of_class : (b : Bool) {c e w : List ℕ} {x : ℕ} (d : ℕ) {k : CtorOf} → (b ≡ false → Lone c e w) →
    CtorOfClass c e w x k → Found b c e w x d k
found_of_class true d l z = z.is
found_of_class false {c} {e} {w} {x} d {k} l z =
    ap (with_ctor d) z.is
    ∙ unfold first_in_class own_in_class in own_first d (λ (a : CtorApp). are_equal (merges e) x a.app) (apps_from (context c) w 0) one
  where
    one : (a b : CtorApp) → In a (apps_from (context c) w 0) → In b (apps_from (context c) w 0) →
        are_equal (merges e) x a.app ≡ true → are_equal (merges e) x b.app ≡ true → a.ctor ≡ b.ctor
    one a b i j p q =
        l refl a b i j
        (equal_trans (merges e) a.app x b.app
        (equal_sym (merges e) x a.app (true_T (are_equal (merges e) x a.app) p)) (true_T (are_equal (merges e) x b.app) q))

-- ---- a tester against what is found

-- the definition by what was found
against : Bool → State → ℕ → ℕ → ℕ → Option CtorApp → Option (List EqLeaf)
against b S l d arg none = none
against b S l d arg (some a) =
    cond (agreeing b (eqb a.ctor d)) none (some (firsts (AssertedLeaf l ∷ explain S.eq arg a.app)))

-- the definition asks the class by the marks of the work table
class_ctor : (c e s w : List ℕ) (lv : ℕ → ℕ) (x : ℕ) →
    ctor_of_class (state_at c e s w lv) x ≡ first_in_class (merges e) x (apps_from (context c) w 0)
unfolding ctor_of_class ctor_apps equal first_in_class apps_from state_with dt_with
class_ctor c e s w lv x = refl

class_own : (c e s w : List ℕ) (lv : ℕ → ℕ) (x : TesterApp) →
    own_app (state_at c e s w lv) x ≡ own_in_class (merges e) x.arg x.ctor (apps_from (context c) w 0)
unfolding own_app is_own ctor_apps equal own_in_class apps_from state_with dt_with
class_own c e s w lv x = refl

by_found : (b : Bool) (c e w : List ℕ) (arg d : ℕ) (k : CtorOf) → Found b c e w arg d k → (s : List ℕ) (lv : ℕ → ℕ) (l : ℕ)
    (x : TesterApp) → x.ctor ≡ d → x.arg ≡ arg →
    conflict_by b (state_at c e s w lv) l x ≡ against b (state_at c e s w lv) l d arg (ctor_meaning (context c) k)
unfolding tester_conflict negative_conflict against state_with
by_found true c e w arg d k z s lv l x p q =
    ap (disagrees (state_at c e s w lv) l x)
    (ap (ctor_of_class (state_at c e s w lv)) q ∙ class_ctor c e s w lv arg ∙ sym z)
    ∙ go (ctor_meaning (context c) k)
  where
    go : (o : Option CtorApp) → disagrees (state_at c e s w lv) l x o ≡ against true (state_at c e s w lv) l d arg o
    go none = unfold disagrees in refl
    go (some a) =
        unfold disagrees tester_leaves literal_leaves agreeing in
        ap₂ (λ (i j : ℕ). cond (eqb a.ctor i) none (some (firsts (AssertedLeaf l ∷ explain (merges e) j a.app)))) p q
by_found false c e w arg d k z s lv l x p q =
    ap (denies (state_at c e s w lv) l x)
    (class_own c e s w lv x ∙ ap₂ (λ (i j : ℕ). own_in_class (merges e) i j (apps_from (context c) w 0)) q p ∙ sym z)
    ∙ go (ctor_meaning (context c) k)
  where
    by_ctor : (a : CtorApp) (t : Bool) →
        denies (state_at c e s w lv) l x (cond t (some a) none)
        ≡ cond (not t) none (some (firsts (AssertedLeaf l ∷ explain (merges e) arg a.app)))
    by_ctor a true =
        unfold denies tester_leaves literal_leaves in
        ap {B = Option (List EqLeaf)} (λ (j : ℕ). some (firsts (AssertedLeaf l ∷ explain (merges e) j a.app))) q
    by_ctor a false = unfold denies in refl

    go : (o : Option CtorApp) → denies (state_at c e s w lv) l x (with_ctor d o) ≡ against false (state_at c e s w lv) l d arg o
    go none = unfold denies with_ctor in refl
    go (some a) = unfold with_ctor agreeing in by_ctor a (eqb a.ctor d)

pub none_found : {e o : List ℕ} {l ctor arg : ℕ} {k : CtorOf} (b : Bool) → k ≡ None →
    Disagrees b e l ctor arg k TCheck.TheVariants.Sat o
unfolding ctor_meaning against
none_found {e} {l = l} {ctor = ctor} {arg = arg} {k = k} b q = record {
  conflict = λ c s w lv x p r z.
      by_found b c e w arg ctor k z s lv l x p r
      ∙ ap (λ (v : CtorOf). against b (state_at c e s w lv) l ctor arg (ctor_meaning (context c) v)) q;
  readable = tt;
}

-- the application that the code's answer names
abbrev app_of : List ℕ → SymbolId.SymbolId → TermId.TermId → CtorApp
app_of c f y = record { app = y.0; ctor = f.0; fields = children (context c) y.0 }

-- the application is in the class
pub may_explain : {e o o₁ o₂ : List ℕ} {arg : ℕ} {k : CtorOf} {f : SymbolId.SymbolId} {y : TermId.TermId} {leaf : EqLeaf} →
    k ≡ Some (f, y) → DisagreeAsked e arg k o → Cleared o₁ → Pushed o₁ o₂ leaf → Explainable e arg y.0 o₂
may_explain {e} {f = f} {y = y} q a g p =
    let (n, t) = a.equal f y q in
    record { sound = a.engine; first = a.first; second = n; equal = t; answer = first_sound (merges e) g p }

-- the leaves of a literal, and then of an explanation
pub literal_first : (l : Lit.Lit) {e o₁ o₂ o₃ : List ℕ} {x y : ℕ} → Cleared o₁ →
    Pushed o₁ o₂ (leaf_meaning (GivenLeaf.TheVariants.Asserted l)) → Explains e x y o₂ o₃ →
    leaves o₃ ≡ firsts (AssertedLeaf l.0 ∷ explain (merges e) x y)
unfolding leaf_meaning firsts firsts_after any
literal_first l {e} {x = x} {y = y} g u k =
    k.listed
    ∙ ap (λ (ls : List EqLeaf). ls ++ firsts_after ls (explain (merges e) x y))
    (u.listed ∙ ap (with_leaf (AssertedLeaf l.0)) g.empty)

module _ (b : Bool) (e : List ℕ) (arg : ℕ) {k : CtorOf} {f : SymbolId.SymbolId} {y : TermId.TermId}
    (q : k ≡ Some (f, y)) where
  by_app : (l ctor : ℕ) (c s w : List ℕ) (lv : ℕ → ℕ) (x : TesterApp) → x.ctor ≡ ctor → x.arg ≡ arg → Found b c e w arg ctor k →
      (t : Bool) → t ≡ agreeing b (eqb f.0 ctor) →
      conflict_by b (state_at c e s w lv) l x ≡ cond t none (some (firsts (AssertedLeaf l ∷ explain (merges e) arg y.0)))
  unfolding ctor_meaning against state_with
  by_app l ctor c s w lv x p r z t h =
      by_found b c e w arg ctor k z s lv l x p r
      ∙ ap (λ (v : CtorOf). against b (state_at c e s w lv) l ctor arg (ctor_meaning (context c) v)) q
      ∙ ap (λ (v : Bool). cond v none (some (firsts (AssertedLeaf l ∷ explain (merges e) arg y.0)))) (sym h)

  -- the code's test, by whether the constructor is that of the tester
  test_is : (ctor : ℕ) {t : Bool} → t ≡ eqb f.0 ctor → beq t b ≡ agreeing b (eqb f.0 ctor)
  unfolding agreeing
  test_is ctor {t} h = go t b ∙ ap (agreeing b) h
    where
      go : (t b : Bool) → beq t b ≡ agreeing b t
      go true true = refl
      go true false = refl
      go false true = refl
      go false false = refl

  pub tester_agrees : {o : List ℕ} {l ctor : ℕ} {t : Bool} → t ≡ eqb f.0 ctor → beq t b ≡ true →
      Disagrees b e l ctor arg k TCheck.TheVariants.Sat o
  tester_agrees {l = l} {ctor = ctor} i g =
      let h = test_is ctor i in
      record { conflict = λ c s w lv x p r z. by_app l ctor c s w lv x p r z true (sym g ∙ h); readable = tt }

  -- the literal, then what the explanation appends
  pub tester_disagrees : {o₁ o₂ o₃ : List ℕ} {l : Lit.Lit} {ctor : ℕ} {t : Bool} → t ≡ eqb f.0 ctor → beq t b ≡ false →
      Cleared o₁ → Pushed o₁ o₂ (leaf_meaning (GivenLeaf.TheVariants.Asserted l)) → Explains e arg y.0 o₂ o₃ →
      Disagrees b e l.0 ctor arg k TCheck.TheVariants.Conflict o₃
  tester_disagrees {l = l} {ctor = ctor} p d g u x = let h = test_is ctor p in record {
    conflict = λ c s w lv v i j z.
        by_app l.0 ctor c s w lv v i j z false (sym d ∙ h) ∙ ap some (sym (literal_first l g u x));
    readable = x.sound.words;
  }

-- ---- a tester application

-- an application found in a class is a term, and in it
pub found_equal : {c e w : List ℕ} {arg : ℕ} {k : CtorOf} → ContextSound c → CtorOfClass c e w arg k →
    (f : SymbolId.SymbolId) (y : TermId.TermId) → k ≡ Some (f, y) →
    (y.0 < max_terms) × (are_equal (merges e) arg y.0 ≡ true)
unfolding first_in_class ctor_meaning
found_equal {c} {e} {w} {arg} {k} core z f y q =
    let named : ctor_meaning (context c) k ≡ some (app_of c f y) = ap (ctor_meaning (context c)) q in
    let (i, t) =
    first_some (λ (b : CtorApp). are_equal (merges e) arg b.app) (apps_from (context c) w 0) (app_of c f y) (sym z.is ∙ named) in
    let n = z.within (app_of c f y) named in
    let m = core.term_count in
    let h = core.terms_fit in
    (omega arith, T_true (are_equal (merges e) arg y.0) t)

-- by its kind a term is an application of a tester to one argument
module _ (c : List ℕ) (x : ℕ) (core : ContextSound c) (formed : Formed (context c)) (signed : Signed (context c))
    (kind : term_kind (context c) x ≡ 4) where
  tested : TesterAt (context c) formed signed x
  tested = kind_tester (context c) formed signed x kind

  tester_within : x < length (context c).terms
  unfolding is_set
  tester_within = kind_within (context c) x (ap is_set kind)

  module _ {args : List ℕ} (q : args ≡ children (context c) x) where
    one_arg : 0 < length args
    one_arg = let n = ap length (q ∙ tested.5) in omega arith

    arg_is : children (context c) x ≡ get_or args 0 0 ∷ []
    arg_is = tested.5 ∙ ap (λ (v : ℕ). v ∷ []) (sym (ap (λ (xs : List ℕ). get_or xs 0 0) (q ∙ tested.5)))

    -- it is a term
    arg_within : get_or args 0 0 < max_terms
    arg_within =
        let i : In (get_or args 0 0) (children (context c) x) = subst (In (get_or args 0 0)) (sym arg_is) (inl refl) in
        let below = formed.lower x tester_within (get_or args 0 0) i in
        let m = core.term_count in
        let h = core.terms_fit in
        let l = tester_within in
        omega arith

module _ {c : List ℕ} {x : ℕ} (z : TesterTerm c x) where
  by_kind : TesterAt (context c) z.formed z.signed x
  by_kind = tested c x z.core z.formed z.signed z.tester

  pub tester_no_equation : {r : Op.Op} → OpAt c x r → r ≡ Op.TheVariants.Eq → ⊥
  unfolding op_meaning
  tester_no_equation a p =
      let n = ap op_meaning (sym p) ∙ a.is ∙ by_kind.3 in
      let k : ◌≡◌ {A = ℕ} 0 1 = cc in
      omega arith

  -- the role of its symbol
  module _ {r : Op.Op} {f : SymbolId.SymbolId} {ρ : DtRole.DtRole} (a : OpAt c x r) (p : r ≡ Op.TheVariants.Uninterpreted f)
      (b : RoleAt c f.0 ρ) where
    role_is : role_meaning ρ ≡ Term.Tester by_kind.1
    unfolding op_meaning
    role_is =
        b.is
        ∙ ap (λ (g : ℕ). (symbol (context c) g).role) (op_is f.0 by_kind.0 (ap op_meaning (sym p) ∙ a.is ∙ by_kind.3))
        ∙ by_kind.4

    pub tester_no_other : ((d : SymbolId.SymbolId) → ρ ≡ DtRole.TheVariants.Tester d → ⊥) → ⊥
    unfolding role_meaning
    tester_no_other n = go ρ role_is n
      where
        go : (z : DtRole.DtRole) → role_meaning z ≡ Term.Tester by_kind.1 → ((d : SymbolId.SymbolId) → z ≡ DtRole.TheVariants.Tester d → ⊥) → ⊥
        go DtRole.TheVariants.Constructor q h = let k : ◌≡◌ {A = ℕ} 0 1 = cc in omega arith
        go (DtRole.TheVariants.Tester d) q h = h d refl
        go (DtRole.TheVariants.Selector d i) q h = let k : ◌≡◌ {A = ℕ} 0 1 = cc in omega arith
        go DtRole.TheVariants.Function q h = let k : ◌≡◌ {A = ℕ} 0 1 = cc in omega arith

    pub tester_is : {d : SymbolId.SymbolId} → ρ ≡ DtRole.TheVariants.Tester d → TesterCtor c x d.0
    unfolding role_meaning
    tester_is {d} h = record {
      app = record { app = x; tester = by_kind.0; ctor = by_kind.1; arg = by_kind.2 };
      is_tester = by_kind.6;
      ctor = tester_of by_kind.1 d.0 (sym role_is ∙ ap role_meaning h);
      arg = by_kind.5;
    }

-- the argument of a tester, and its class
module _ {c e w o args : List ℕ} {x : ℕ} (z : TesterAsked c e w x o) (q : args ≡ children (context c) x) where
  arg_fits : get_or args 0 0 < max_terms
  arg_fits = arg_within c x z.term.core z.term.formed z.term.signed z.term.tester q

  pub class_asked : CtorAsked c e w (get_or args 0 0)
  class_asked = record {
    core = z.term.core;
    signed = z.term.signed;
    engine = z.engine;
    table = z.table;
    is_node = arg_fits;
  }

  pub disagree_asked : {k : CtorOf} → ((f : SymbolId.SymbolId) (y : TermId.TermId) → k ≡ Some (f, y) →
      (y.0 < max_terms) × (are_equal (merges e) (get_or args 0 0) y.0 ≡ true)) → DisagreeAsked e (get_or args 0 0) k o
  disagree_asked f = record { engine = z.engine; first = arg_fits; equal = f; long = z.long }

  -- the conflict that was found is the tester's
  pub conflict_found : (b : Bool) {l d : ℕ} {k : CtorOf} {r : TCheck.TCheck} {o' : List ℕ} → TesterCtor c x d →
      Found b c e w (get_or args 0 0) d k → Disagrees b e l d (get_or args 0 0) k r o' → TesterConflict b c e w l x r o'
  conflict_found b t f y = record {
    app = t.app;
    is_tester = t.is_tester;
    conflict = λ s lv. y.conflict c s w lv t.app t.ctor (sym (ap (λ (xs : List ℕ). get_or xs 0 0) (q ∙ t.arg))) f;
    readable = y.readable;
  }

-- by its class, or by its own application
pub conflict_by_class : {b : Bool} {c e w o o' args : List ℕ} {l x d : ℕ} {k : CtorOf} {r : TCheck.TCheck} →
    ConflictAsked b c e w x o → args ≡ children (context c) x → TesterCtor c x d → CtorOfClass c e w (get_or args 0 0) k →
    Disagrees b e l d (get_or args 0 0) k r o' → TesterConflict b c e w l x r o'
conflict_by_class {b} {d = d} z q t f y = conflict_found z.asked q b t (found_of_class b d z.lone f) y

pub conflict_by_own : {c e w o o' args : List ℕ} {l x d : ℕ} {k : CtorOf} {r : TCheck.TCheck} → TesterAsked c e w x o →
    args ≡ children (context c) x → TesterCtor c x d → Found false c e w (get_or args 0 0) d k →
    Disagrees false e l d (get_or args 0 0) k r o' → TesterConflict false c e w l x r o'
conflict_by_own z q t f y = conflict_found z q false t f y

pub term_arg : {c args : List ℕ} {x : ℕ} → TesterTerm c x → args ≡ children (context c) x → 0 < length args
term_arg {c} {x = x} z q = one_arg c x z.core z.formed z.signed z.tester q

pub term_within : {c : List ℕ} {x : ℕ} → TesterTerm c x → x < length (context c).terms
term_within {c} {x} z = tester_within c x z.core z.formed z.signed z.tester

-- ---- the records

-- an entry of another sign asks nothing
pub entry_passed : {b t : Bool} {c e s w o : List ℕ} {i v k : ℕ} → EntryAsked b c e s w i o → v ≡ at s ENTRY i → k ≡ v / max_lits →
    t ≡ of_sign b k → not t ≡ true → EntryConflict b c e s w i TCheck.TheVariants.Sat o
unfolding entry_of found_at
entry_passed {b} {t} {s = s} {i = i} z q d p n = record {
  conflict = λ lv.
      let m : of_sign b (entry_key s i) ≡ false = sym (p ∙ ap (of_sign b) (d ∙ ap (λ (x : ℕ). x / max_lits) q)) ∙ not-true t n in rw m;
  readable = tt;
}

-- an entry of the sign asks what the code asked
pub entry_asked : {b t : Bool} {c e s w o : List ℕ} {i v k l x : ℕ} {r : TCheck.TCheck} → v ≡ at s ENTRY i → k ≡ v / max_lits →
    t ≡ of_sign b k → not t ≡ false → l ≡ v % max_lits → x ≡ key_atom k → TesterConflict b c e w l x r o →
    EntryConflict b c e s w i r o
unfolding entry_of asserted found_at tester_found state_with
entry_asked {b} {t} {c} {e} {s} {w} {o} {i} {v} {k} {l} {x} {r} a d p n u g y = record {
  conflict = λ lv. subst (λ (m : Option (List EqLeaf)). ConflictIs r m o) (sym (found lv)) (y.conflict s lv);
  readable = y.readable;
}
  where
    is_key : k ≡ entry_key s i
    is_key = d ∙ ap (λ (m : ℕ). m / max_lits) a

    of_this : of_sign b (entry_key s i) ≡ true
    of_this = sym (p ∙ ap (of_sign b) is_key) ∙ not-false t n

    found : (lv : ℕ → ℕ) →
        found_at (tester_finds b) (entry_of (of_sign b) s lv i) (state_at c e s w lv) ≡ conflict_by b (state_at c e s w lv) l y.app
    found lv =
        rw (of_this, sign_tester b (entry_key s i) of_this)
        (ap₂ (λ (j : ℕ) (m : Option TesterApp). tester_found b j m (state_at c e s w lv))
        (ap (λ (m : ℕ). m % max_lits) (sym a) ∙ sym u) (ap (tester_app (context c)) (ap key_atom (sym is_key) ∙ sym g) ∙ y.is_tester))

-- the tester of an entry
pub entry_term : {b t : Bool} {c e s w o : List ℕ} {i v k x : ℕ} → EntryAsked b c e s w i o → v ≡ at s ENTRY i → k ≡ v / max_lits →
    t ≡ of_sign b k → not t ≡ false → x ≡ key_atom k → ConflictAsked b c e w x o
entry_term {b} {t} {c} {s = s} {i = i} {k = k} z a d p n g =
    let st = z.asked.check.state in
    let is_key : k ≡ entry_key s i = d ∙ ap (λ (m : ℕ). m / max_lits) a in
    let low = ltb-true (entry_key s i) UNEQUAL (sign_tester b (entry_key s i) (sym (p ∙ ap (of_sign b) is_key) ∙ not-false t n)) in
    record {
      asked = record {
        term = record {
          core = st.core;
          formed = st.formed;
          signed = st.signed;
          tester = ap (term_kind (context c)) (g ∙ ap key_atom is_key) ∙ (st.records i z.within).tester low;
        };
        engine = st.engine;
        table = inl z.asked.check.work;
        long = z.asked.long;
      };
      lone = z.asked.lone;
    }

-- it is a term
pub entry_small : {b t : Bool} {c e s w o : List ℕ} {i v k x : ℕ} → EntryAsked b c e s w i o → v ≡ at s ENTRY i → k ≡ v / max_lits →
    t ≡ of_sign b k → not t ≡ false → x ≡ key_atom k → x < 4294967296
entry_small z a d p n g =
    let m = (entry_term z a d p n g).asked.term in
    let h = term_within m in
    let f = m.core.term_count in
    let l = m.core.terms_fit in
    omega arith

-- the rule of an entry
abbrev pub clash_at_by : Bool → ℕ → Option TesterApp → State → Ruled
clash_at_by true = tester_clash_at
clash_at_by false = negative_clash_at

abbrev pub rule_of : Bool → AssertedAtom → State → Ruled
rule_of b a S = clash_at_by b a.lit (tester_app S.terms a.atom) S

-- the rule by what the definition finds of an entry
rule_finds : (b : Bool) (a : AssertedAtom) (S : State) → rule_of b a S ≡ giving (tester_finds b) a S
rule_finds b a S = go b (tester_app S.terms a.atom)
  where
    go : (d : Bool) (m : Option TesterApp) → clash_at_by d a.lit m S ≡ conflict_of S (tester_found d a.lit m S)
    go true none = unfold tester_clash_at tester_found conflict_of in refl
    go true (some x) = unfold tester_clash_at tester_found in refl
    go false none = unfold negative_clash_at tester_found conflict_of in refl
    go false (some x) = unfold negative_clash_at tester_found in refl

-- the entries from i on are to be asked
pub record Clashing (b : Bool) (c e s w o : List ℕ) (n i : ℕ) : Type 0 where
  pub asked : ClashAsked b c e s w o
  pub asking : Asking (tester_finds b) (of_sign b) s (state_at c e s w) (clash_by b) n i

pub clashing_first : {b : Bool} {c e s w o : List ℕ} {n : ℕ} → ClashAsked b c e s w o → n ≡ records# s → Clashing b c e s w o n 0
clashing_first {b} {c} {e} {s} {w} z q = record {
  asked = z;
  asking = asking_first q (λ lv.
      whole b lv ∙ try_same (rule_of b) (giving (tester_finds b)) (rule_finds b) (record_of (of_sign b) s lv) (state_at c e s w lv));
}
  where
    whole : (d : Bool) (lv : ℕ → ℕ) →
        clash_by d (state_at c e s w lv) ≡ try_each (rule_of d) (record_of (of_sign d) s lv) (state_at c e s w lv)
    whole true lv = unfold tester_clash state_with dt_with in refl
    whole false lv = unfold negative_clash state_with dt_with in refl

-- an answer that is no `Sat` is a conflict
pub conflict_is : (m : Option (List EqLeaf)) (o : List ℕ) (r : TCheck.TCheck) → (r ≡ TCheck.TheVariants.Sat → ⊥) →
    ConflictIs r m o → r ≡ TCheck.TheVariants.Conflict
conflict_is m o TCheck.TheVariants.Sat g b = absurd (g refl)
conflict_is m o TCheck.TheVariants.Conflict g b = refl
conflict_is m o TCheck.TheVariants.Split g b = absurd b
conflict_is m o TCheck.TheVariants.Unknown g b = absurd b

-- so its leaves are there, and can be read
pub conflict_leaves : (m : Option (List EqLeaf)) (o : List ℕ) (r : TCheck.TCheck) → (r ≡ TCheck.TheVariants.Sat → ⊥) →
    ConflictIs r m o → m ≡ some (leaves o)
conflict_leaves m o r g b = subst (λ (a : TCheck.TCheck). ConflictIs a m o) (conflict_is m o r g b) b

pub conflict_words : (m : Option (List EqLeaf)) (o : List ℕ) (r : TCheck.TCheck) → (r ≡ TCheck.TheVariants.Sat → ⊥) →
    ConflictIs r m o → Readable (Ok r) o → LeavesSound o
conflict_words m o r g b k = subst (λ (a : TCheck.TCheck). Readable (Ok a) o) (conflict_is m o r g b) k

module _ {b : Bool} {c e s w o : List ℕ} {n i : ℕ} {r : TCheck.TCheck} {o' : List ℕ} (z : Clashing b c e s w o n i) (h : i < n)
    (t : EntryConflict b c e s w i r o') where
  pub clashing_next : r ≡ TCheck.TheVariants.Sat → answer_size ≤ length o' → Clashing b c e s w o' n (i + 1)
  clashing_next d a = record {
    asked = record { check = z.asked.check; lone = z.asked.lone; long = a };
    asking = asking_next z.asking h (λ lv.
        subst (λ (v : TCheck.TCheck).
        ConflictIs v (found_at (tester_finds b) (entry_of (of_sign b) s lv i) (state_at c e s w lv)) o') d (t.conflict lv));
  }

  pub clashing_found : (r ≡ TCheck.TheVariants.Sat → ⊥) → Tried (clash_by b) c e s w (Ok r) c s w o'
  clashing_found d =
      rw (conflict_is _ o' r d (t.conflict (λ k. k))) (record {
        sound = z.asked.check;
        extends = extends_self (context c);
        outcome = λ lv. asking_found z.asking h (leaves o') lv (conflict_leaves _ o' r d (t.conflict lv));
        unchanged = λ m. refl;
        readable = conflict_words _ o' r d (t.conflict (λ k. k)) t.readable;
      })

-- a positive record may be asked in any check, either one where classes have one constructor
pub positive_clash : {c e s w o : List ℕ} → CheckSound c e s w → answer_size ≤ length o → ClashAsked true c e s w o
positive_clash z l = record { check = z; lone = λ q. absurd (true≢false q); long = l }

pub lone_clash : {b : Bool} {c e s w o : List ℕ} → CheckSound c e s w → Lone c e w → answer_size ≤ length o → ClashAsked b c e s w o
lone_clash z o l = record { check = z; lone = λ q. o; long = l }

pub clashing_asks : {b : Bool} {c e s w o : List ℕ} {n i : ℕ} → Clashing b c e s w o n i → i < n → EntryAsked b c e s w i o
clashing_asks z h = let e = z.asking.count in record { asked = z.asked; within = omega arith }

pub clashing_done : {b : Bool} {c e s w o : List ℕ} {n i : ℕ} → Clashing b c e s w o n i → n ≤ i →
    Tried (clash_by b) c e s w (Ok TCheck.TheVariants.Sat) c s w o
clashing_done {c = c} z h = record {
  sound = z.asked.check;
  extends = extends_self (context c);
  outcome = asking_done z.asking h;
  unchanged = λ m. refl;
  readable = tt;
}
