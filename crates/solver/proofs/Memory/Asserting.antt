-- Asserting a literal: by its sign and the kind of its atom. A tester is compared by the marks that the solver's table lends.
use Rattle.shinri_core.proofs.Kit.{ℕ, ◌<◌, ◌≡◌, refl, sym, ap, ◌∙◌, subst, inl, inr, Bool, true, false, cond, true≢false, List, [], ◌∷◌, none, some, arith, eqb, length}
use Rattle.shinri_core.specs.Limits.{max_terms}
use Rattle.shinri_core.specs.Lists.{In, any, first}
use Rattle.shinri_core.specs.Ids as Ids
use Rattle.shinri_core.specs.Context.{tester_app}
use Rattle.shinri_core.specs.Memory.Table.{context}
use Rattle.theory.specs.Atom.{Registered, is_registered, atom, atom_of}
use Rattle.theory.specs.Memory.Registry.{atoms}
use Rattle.theory.proofs.Memory.RegistryWords.{registered_word}
use Rattle.solver.specs.State.{State}
use Rattle.solver.specs.Records.{Outcome, record_tester, record_negative, assert_tester, assert_atom, assert}
use Rattle.solver.specs.declared.answer.TCheck as TCheck
use Rattle.solver.specs.Memory.Table.{registry, is_set, term_kind, state_with, state, StateSound}
use Rattle.solver.specs.Memory.Work.{marks_of}
use Rattle.solver.specs.Memory.Levels.{TesterRecordable, recording, Recorded}
use Rattle.solver.specs.Memory.Testing.{ConflictIs, conflict_by, TesterAsked, ConflictAsked, TesterConflict}
use Rattle.solver.specs.Memory.Asserting.{TesterAssertable, AssertsTester, Assertable, Asserts}
use Rattle.solver.proofs.Apps.{tester_app_is}
use Rattle.solver.proofs.Memory.Blocks.{lent_sound, lent_view}
use Rattle.solver.proofs.Memory.Roles.{kind_within, kind_no_tester}
use Rattle.solver.proofs.Memory.Entries.{records_sound}

-- ---- a tester

-- a tester application is a term
tester_term : {c e s : List ℕ} → StateSound c e s → (x : ℕ) → term_kind (context c) x ≡ 4 → x < max_terms
unfolding is_set
tester_term {c} z x k =
    let l = kind_within (context c) x (ap is_set k) in
    let m = z.core.term_count in
    let h = z.core.terms_fit in
    omega arith

pub recordable : {c e s o : List ℕ} {l x : ℕ} → TesterAssertable c e s l x o → TesterRecordable s x l
recordable {x = x} z = record { sound = records_sound z.sound; atom = tester_term z.sound x z.tester; lit = z.lit }

pub assert_asked : {c e s o : List ℕ} {l x : ℕ} → TesterAssertable c e s l x o → TesterAsked c e (marks_of s) x o
assert_asked z = record {
  term = record { core = z.sound.core; formed = z.sound.formed; signed = z.sound.signed; tester = z.tester };
  engine = z.sound.engine;
  table = inr (lent_sound z.sound);
  long = z.long;
}

-- a positive tester is compared with its class, whatever stands there
pub positive_asked : {c e w o : List ℕ} {x : ℕ} → TesterAsked c e w x o → ConflictAsked true c e w x o
positive_asked z = record { asked = z; lone = λ q. absurd (true≢false q) }

-- by the sign that the code has
pub by_sign : {b : Bool} {c e w o : List ℕ} {l x : ℕ} {r : TCheck.TCheck} (d : Bool) → b ≡ d → TesterConflict d c e w l x r o →
    TesterConflict b c e w l x r o
by_sign {c = c} {e = e} {w = w} {o = o} {l = l} {x = x} {r = r} d q t = subst (λ (v : Bool). TesterConflict v c e w l x r o) (sym q) t

pub asserted : (b : Bool) {c e s s' o o' : List ℕ} {l x : ℕ} {r : TCheck.TCheck} → TesterAssertable c e s l x o →
    TesterConflict b c e (marks_of s) l x r o' → Recorded b s x l s' → AssertsTester b c e s l x r s' o'
asserted b {c} {e} {s} {s'} {o} {o'} {l} {x} {r} z t m = record {
  sound = m.state_sound c e z.sound z.tester;
  app = t.app;
  is_tester = t.is_tester;
  conflict = λ lv. subst (λ (S : State). ConflictIs r (conflict_by b S l t.app) o') (lent_view c e s lv) (t.conflict s lv);
  state = m.state c e;
  marks = m.marks;
  readable = t.readable;
}

-- ---- a literal

-- the atom of a registered variable is a term
pub atom_within : (rs : List Registered) (v n : ℕ) → ((r : Registered) → In r rs → r.atom < n) → is_registered rs v ≡ true → atom rs v < n
unfolding is_registered atom atom_of any first
atom_within [] v n h e = absurd (true≢false (sym e))
atom_within (r ∷ rs) v n h e = go (eqb r.var v) (atom_within rs v n (λ q i. h q (inr i))) e
  where
    test : Registered → Bool
    test q = eqb q.var v

    go : (b : Bool) → (any test rs ≡ true → atom_of (first test rs) < n) → cond b true (any test rs) ≡ true →
        atom_of (cond b (some r) (first test rs)) < n
    go true f d = h r (inl refl)
    go false f d = f d

-- a registered variable's literals are below 2,048
pub tester_assertable : {c e s o : List ℕ} {l x kind : ℕ} → Assertable c e s l o → kind ≡ term_kind (context c) x → kind ≡ 4 →
    TesterAssertable c e s l x o
tester_assertable {s = s} {l = l} z k q =
    let (h, p, r) = registered_word (registry s) (Ids.var l) z.sound.solver.atoms z.registered in
    record { sound = z.sound; lit = omega arith; tester = sym k ∙ q; long = z.long }

pub asserted_term : {c e s o : List ℕ} {l v x : ℕ} → Assertable c e s l o → v ≡ Ids.var l → x ≡ atom (atoms (registry s)) v →
    x < length (context c).terms
asserted_term {c} {s = s} {v = v} z p q =
    subst (λ (y : ℕ). y < length (context c).terms) (sym q)
    (atom_within (atoms (registry s)) v (length (context c).terms) z.sound.registered
    (ap (is_registered (atoms (registry s))) p ∙ z.registered))

module _ {c e s o : List ℕ} {l v x kind : ℕ} (z : Assertable c e s l o) (f : v ≡ Ids.var l) (a : x ≡ atom (atoms (registry s)) v)
    (k : kind ≡ term_kind (context c) x) where
  -- the definition asks for the tester of the same atom
  assert_is : (lv : ℕ → ℕ) → assert (state c e s lv) l ≡ assert_atom (state c e s lv) l (tester_app (context c) x)
  unfolding assert state_with
  assert_is lv =
      let y : atom (atoms (registry s)) (Ids.var l) ≡ x = ap (atom (atoms (registry s))) (sym f) ∙ sym a in
      ap (λ (t : ℕ). assert_atom (state c e s lv) l (tester_app (context c) t)) y

  -- nothing is recorded
  pub asserts_other : (kind ≡ 4 → ⊥) → Asserts c e s l TCheck.TheVariants.Sat s o
  unfolding assert_atom
  asserts_other d =
      let n = kind_no_tester (context c) z.sound.formed z.sound.signed x (λ h. d (k ∙ h)) in
      let none_there : (lv : ℕ → ℕ) → assert (state c e s lv) l ≡ record { conflict = none; state = state c e s lv } =
      λ lv. assert_is lv ∙ ap (assert_atom (state c e s lv) l) n in
      record {
        sound = z.sound;
        conflict = λ lv. ap (λ (m : Outcome). m.conflict) (none_there lv);
        state = λ lv q. ap (λ (m : Outcome). m.state) (none_there lv);
        marks = λ m q. q;
        readable = tt;
      }

  pub asserts_tester : {b : Bool} {r : TCheck.TCheck} {s' o' : List ℕ} → b ≡ Ids.is_positive l → AssertsTester b c e s l x r s' o' →
      Asserts c e s l r s' o'
  asserts_tester {b} {r} {s'} {o'} p t = record {
    sound = t.sound;
    conflict = λ lv. subst (λ (m : Outcome). ConflictIs r m.conflict o') (sym (whole lv)) (conflict b lv (t.conflict lv));
    state = λ lv h. ap (λ (m : Outcome). m.state) (whole lv) ∙ recorded b lv ∙ sym (t.state lv h);
    marks = t.marks;
    readable = t.readable;
  }
    where
      whole : (lv : ℕ → ℕ) → assert (state c e s lv) l ≡ assert_tester (state c e s lv) l b t.app
      whole lv =
          assert_is lv
          ∙ ap (assert_atom (state c e s lv) l) t.is_tester
          ∙ unfold assert_atom in ap (λ (d : Bool). assert_tester (state c e s lv) l d t.app) (sym p)

      conflict : (d : Bool) (lv : ℕ → ℕ) → ConflictIs r (conflict_by d (state c e s lv) l t.app) o' →
          ConflictIs r (assert_tester (state c e s lv) l d t.app).conflict o'
      conflict true lv g = unfold assert_tester in g
      conflict false lv g = unfold assert_tester in g

      recorded : (d : Bool) (lv : ℕ → ℕ) → (assert_tester (state c e s lv) l d t.app).state ≡ recording d (state c e s lv) x l
      recorded true lv =
          unfold assert_tester in
          ap (λ (y : ℕ). record_tester (state c e s lv) y l) (tester_app_is (context c) x t.app t.is_tester).app
      recorded false lv =
          unfold assert_tester in
          ap (λ (y : ℕ). record_negative (state c e s lv) y l) (tester_app_is (context c) x t.app t.is_tester).app
