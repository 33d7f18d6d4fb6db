-- What a rule may do to a state: terms are made and marked, atoms are handed out. And what an answer owes.
use Prim.Native.Nat.{ℕ, ◌<◌}
use mathlib.Core.Path.{◌≡◌, refl, subst, subst⁻¹, ap, ◌∙◌}
use mathlib.Core.Logic.{◌⊎◌, inl, inr}
use mathlib.Core.Bool.{Bool, true, false, cond}
use mathlib.Core.List.{List, [], ◌∷◌, map}
use mathlib.Core.Option.{Option, none, some}
use lib.Dec.{T}
use lib.ListN.{length}
use Rattle.shinri_core.specs.Lists.{mem, insert}
use Rattle.shinri_core.specs.Ids.{lit, negate}
use Rattle.shinri_core.specs.Term as Term
use Rattle.shinri_core.specs.Term.{Term, Op, Eq, Symbol}
use Rattle.shinri_core.specs.Context.{Context, CtorApp, SelApp, TesterApp, symbol, term, children, sort_of, result_of, ctor_app, ctor_by_op, ctor_by_role, tester_app, tester_by_op, tester_by_role, mk_app, mk_eq}
use Rattle.shinri_core.specs.Reading.{Reading, truth, value}
use Rattle.shinri_core.proofs.Lists.{In}
use Rattle.theory.specs.EqEngine.{Merge}
use Rattle.theory.specs.Atom.{var_of_atom}
use Rattle.theory.proofs.Explain.{Justified, TwoTerms}
use Rattle.solver.specs.State.{State, MadeIn, with_terms, with_dt, with_marks, with_emitted, mark, made_in, make_app, marked_in, mint}
use Rattle.solver.specs.Rules.{TCheck, Sat, Conflict, Split, Unknown, Ruled, pass, answered, go_on, then, try_each, hand_out, hand_out_made, make_eq, has_undetermined_class}
use Rattle.solver.proofs.Basics.{some_is, none_some, in_insert_old, Ascending, insert_ascending}
use Rattle.solver.proofs.Terms.{Extends, extends_self, extends_then, extends_symbol, extends_term, Agrees, Below, Formed, mk_app_makes, mk_app_formed, app}
use Rattle.solver.proofs.Signature.{extends_signed}
use Rattle.solver.proofs.Apps.{IsCtor, IsTester, IsSel, app_within}
use Rattle.solver.proofs.Walk.{HasRing}
use Rattle.solver.proofs.Clash.{Ready, Refuted, Assertion, record_by, Recorded}

-- ---- a state after another

pub record Follows (s s' : State) : Type 0 where
  pub extends : Extends s.terms s'.terms
  pub formed : Formed s'.terms
  pub eq : s'.eq ≡ s.eq
  pub atoms : s'.atoms ≡ s.atoms
  pub level : s'.level ≡ s.level
  pub entries : (b : Assertion) → record_by s' b ≡ record_by s b
  pub marks : (t : ℕ) → In t s.dt.marks → In t s'.dt.marks
  pub ascending : Ascending s.dt.marks → Ascending s'.dt.marks

pub follows_self : (s : State) → Formed s.terms → Follows s s
follows_self s F = record {
  extends = extends_self s.terms;
  formed = F;
  eq = refl;
  atoms = refl;
  level = refl;
  entries = λ b. refl;
  marks = λ t i. i;
  ascending = λ a. a;
}

pub follows_then : (a b c : State) → Follows a b → Follows b c → Follows a c
follows_then a b c f g = record {
  extends = extends_then a.terms b.terms c.terms f.extends g.extends;
  formed = g.formed;
  eq = g.eq ∙ f.eq;
  atoms = g.atoms ∙ f.atoms;
  level = g.level ∙ f.level;
  entries = λ x. g.entries x ∙ f.entries x;
  marks = λ t i. g.marks t (f.marks t i);
  ascending = λ x. g.ascending (f.ascending x);
}

pub follows_ready : (a b : State) → Follows a b → Ready a → Ready b
follows_ready a b f R = record {
  formed = f.formed;
  signed = extends_signed a.terms b.terms f.extends R.signed;
  justified = subst⁻¹ Justified f.eq R.justified;
  two_terms = subst⁻¹ (λ (ms : List Merge). (m : Merge) → In m ms → TwoTerms m.just) f.eq R.two_terms;
}

-- ---- making a term

pub record MakesIn (s : State) (o : Op) (as' : List ℕ) (m : MadeIn) : Type 0 where
  pub follows : Follows s m.state
  pub within : m.id < length m.state.terms.terms
  pub made : term m.state.terms m.id ≡ app o as'

made_in_makes : (s : State) (o : Op) (as' : List ℕ) → Formed s.terms → Below (length s.terms.terms) as' → Agrees s.terms o as' → MakesIn s o as' (made_in s (mk_app s.terms o as'))
unfolding made_in with_terms
made_in_makes s o as' F B A =
    let M = mk_app_makes s.terms o as' in
    record {
      follows = record {
        extends = M.extends;
        formed = mk_app_formed s.terms o as' F B A;
        eq = refl;
        atoms = refl;
        level = refl;
        entries = λ b. refl;
        marks = λ t i. i;
        ascending = λ a. a;
      };
      within = M.within;
      made = M.made;
    }

pub make_app_makes : (s : State) (f : ℕ) (as' : List ℕ) → Formed s.terms → Below (length s.terms.terms) as' → map (sort_of s.terms) as' ≡ (symbol s.terms f).params → MakesIn s (Term.Uninterpreted f) as' (make_app s f as')
unfolding make_app
make_app_makes s f as' F B A = made_in_makes s (Term.Uninterpreted f) as' F B A

pub make_eq_makes : (s : State) (x y : ℕ) → Formed s.terms → x < length s.terms.terms → y < length s.terms.terms → sort_of s.terms x ≡ sort_of s.terms y → MakesIn s Eq (x ∷ y ∷ []) (make_eq s x y)
unfolding make_eq mk_eq
make_eq_makes s x y F l m e = made_in_makes s Eq (x ∷ y ∷ []) F below (x, y, refl, e)
  where
    below : Below (length s.terms.terms) (x ∷ y ∷ [])
    below a (inl q) = subst⁻¹ (λ (z : ℕ). z < length s.terms.terms) q l
    below a (inr (inl q)) = subst⁻¹ (λ (z : ℕ). z < length s.terms.terms) q m
    below a (inr (inr i)) = absurd i

-- a term made and marked
pub mint_makes : (s : State) (f : ℕ) (as' : List ℕ) → Formed s.terms → Below (length s.terms.terms) as' → map (sort_of s.terms) as' ≡ (symbol s.terms f).params → MakesIn s (Term.Uninterpreted f) as' (mint s f as')
unfolding mint marked_in mark with_marks with_dt
mint_makes s f as' F B A =
    let M = make_app_makes s f as' F B A in
    record {
      follows = record {
        extends = M.follows.extends;
        formed = M.follows.formed;
        eq = M.follows.eq;
        atoms = M.follows.atoms;
        level = M.follows.level;
        entries = M.follows.entries;
        marks = λ t i. in_insert_old t (make_app s f as').id (make_app s f as').state.dt.marks (M.follows.marks t i);
        ascending = λ x. insert_ascending (make_app s f as').id (make_app s f as').state.dt.marks (M.follows.ascending x);
      };
      within = M.within;
      made = M.made;
    }

pub one_below : (n a : ℕ) → a < n → Below n (a ∷ [])
one_below n a l x (inl e) = subst⁻¹ (λ (z : ℕ). z < n) e l
one_below n a l x (inr i) = absurd i

pub made_op : (cx : Context) (t : ℕ) (o : Op) (as' : List ℕ) → term cx t ≡ app o as' → (term cx t).op ≡ o
made_op cx t o as' e = ap (λ (x : Term). x.op) e

pub made_args : (cx : Context) (t : ℕ) (o : Op) (as' : List ℕ) → term cx t ≡ app o as' → children cx t ≡ as'
unfolding children
made_args cx t o as' e = ap (λ (x : Term). x.args) e

pub sort_by_op : (cx : Context) (t f : ℕ) → (term cx t).op ≡ Term.Uninterpreted f → sort_of cx t ≡ (symbol cx f).result
unfolding sort_of result_of
sort_by_op cx t f e = ap (result_of cx) e

-- ---- applications stay what they are

pub ctor_kept : (a b : Context) (t : ℕ) (c : CtorApp) → Extends a b → IsCtor a t c → IsCtor b t c
unfolding children
ctor_kept a b t c e C =
    let k = extends_term a b t e (app_within a t c.ctor C.op) in
    record {
      app = C.app;
      op = ap (λ (x : Term). x.op) k ∙ C.op;
      args = ap (λ (x : Term). x.args) k ∙ C.args;
      role = ap (λ (x : Symbol). x.role) (extends_symbol a b c.ctor e) ∙ C.role;
    }

pub tester_kept : (a b : Context) (t : ℕ) (c : TesterApp) → Extends a b → IsTester a t c → IsTester b t c
unfolding children
tester_kept a b t c e C =
    let k = extends_term a b t e (app_within a t c.tester C.op) in
    record {
      app = C.app;
      op = ap (λ (x : Term). x.op) k ∙ C.op;
      rest = C.rest;
      args = ap (λ (x : Term). x.args) k ∙ C.args;
      role = ap (λ (x : Symbol). x.role) (extends_symbol a b c.tester e) ∙ C.role;
    }

pub sel_kept : (a b : Context) (t : ℕ) (c : SelApp) → Extends a b → IsSel a t c → IsSel b t c
unfolding children
sel_kept a b t c e C =
    let k = extends_term a b t e (app_within a t c.selector C.op) in
    record {
      app = C.app;
      op = ap (λ (x : Term). x.op) k ∙ C.op;
      rest = C.rest;
      args = ap (λ (x : Term). x.args) k ∙ C.args;
      role = ap (λ (x : Symbol). x.role) (extends_symbol a b c.selector e) ∙ C.role;
    }

ctor_op_kept : (a b : Context) (t : ℕ) (o : Op) (as' : List ℕ) → Extends a b → ctor_by_op b t o as' ≡ ctor_by_op a t o as'
unfolding ctor_by_op
ctor_op_kept a b t Eq as' e = refl
ctor_op_kept a b t (Term.Uninterpreted f) as' e = ap (λ (x : Symbol). ctor_by_role t f x.role as') (extends_symbol a b f e)

pub ctor_app_kept : (a b : Context) (t : ℕ) → Extends a b → t < length a.terms → ctor_app b t ≡ ctor_app a t
unfolding ctor_app children
ctor_app_kept a b t e l =
    ap (λ (x : Term). ctor_by_op b t x.op x.args) (extends_term a b t e l) ∙ ctor_op_kept a b t (term a t).op (term a t).args e

tester_op_kept : (a b : Context) (t : ℕ) (o : Op) (as' : List ℕ) → Extends a b → tester_by_op b t o as' ≡ tester_by_op a t o as'
unfolding tester_by_op
tester_op_kept a b t Eq as' e = refl
tester_op_kept a b t (Term.Uninterpreted f) as' e = ap (λ (x : Symbol). tester_by_role t f x.role as') (extends_symbol a b f e)

pub tester_app_kept : (a b : Context) (t : ℕ) → Extends a b → t < length a.terms → tester_app b t ≡ tester_app a t
unfolding tester_app children
tester_app_kept a b t e l =
    ap (λ (x : Term). tester_by_op b t x.op x.args) (extends_term a b t e l) ∙ tester_op_kept a b t (term a t).op
    (term a t).args e

-- ---- what an answer owes

abbrev pub SomeLit : (ℕ → Type 0) → List ℕ → Type 0
SomeLit Lit [] = ⊥
SomeLit Lit (l ∷ ls) = Lit l ⊎ SomeLit Lit ls

abbrev pub SomeTrue : {cx : Context} → Reading cx → List ℕ → Type 0
SomeTrue r [] = ⊥
SomeTrue r (t ∷ ts) = (value r t ≡ truth true) ⊎ SomeTrue r ts

-- In every reading an atom is true, or a guard: the guard of a variable's atom is true where the atom is false.
abbrev pub SplitHolds : State → List ℕ → List ℕ → Type 1
SplitHolds s atoms guards =
    (r : Reading s.terms) (Lit : ℕ → Type 0) → ((v t : ℕ) → var_of_atom s.atoms t ≡ some v → value r t ≡ truth false → Lit (negate (lit v true))) → SomeLit Lit guards ⊎ SomeTrue r atoms

-- no ring, and each watched class has a marked constructor application
pub record SatHolds (s : State) : Type 1 where
  pub no_ring : HasRing s → ⊥
  pub determined : has_undetermined_class s ≡ false

pub record UnknownHolds (s : State) : Type 1 where
  pub undetermined : T (has_undetermined_class s)

abbrev pub AnswerHolds : State → TCheck → Type 1
AnswerHolds s Sat = SatHolds s
AnswerHolds s (Conflict ls) = Refuted s (Recorded s) ls
AnswerHolds s (Split atoms guards phases) = SplitHolds s atoms guards
AnswerHolds s Unknown = UnknownHolds s

pub record RuledWell (s : State) (r : Ruled) : Type 1 where
  pub follows : Follows s r.state
  pub holds : (a : TCheck) → r.answer ≡ some a → AnswerHolds r.state a

pub pass_well : (s s' : State) → Follows s s' → RuledWell s (pass s')
unfolding pass
pass_well s s' f = record { follows = f; holds = λ a e. absurd (none_some a e) }

pub answered_well : (s s' : State) (a : TCheck) → Follows s s' → AnswerHolds s' a → RuledWell s (answered s' a)
unfolding answered
answered_well s s' a f h = record { follows = f; holds = λ b e. subst (AnswerHolds s') (some_is a b e) h }

pub base_well : (s s' : State) (r : Ruled) → Follows s s' → RuledWell s' r → RuledWell s r
base_well s s' r f w = record { follows = follows_then s s' r.state f w.follows; holds = w.holds }

pub then_well : (s : State) (r : Ruled) (next : State → Ruled) → RuledWell s r → ((s' : State) → Follows s s' → RuledWell s (next s')) → RuledWell s (then r next)
unfolding then
then_well s r next w h = go r.answer refl
  where
    go : (o : Option TCheck) → r.answer ≡ o → RuledWell s (go_on o r.state next)
    go none e = unfold go_on in h r.state w.follows
    go (some a) e = unfold go_on in answered_well s r.state a w.follows (w.holds a e)

pub try_well : {A : Type 0} (s : State) (rule : A → State → Ruled) (xs : List A) → ((x : A) → In x xs → (s' : State) → Follows s s' → RuledWell s (rule x s')) → (s' : State) → Follows s s' → RuledWell s (try_each rule xs s')
unfolding try_each
try_well s rule [] h s' f = pass_well s s' f
try_well s rule (x ∷ xs) h s' f =
    then_well s (rule x s') (λ s''. try_each rule xs s'') (h x (inl refl) s' f) (λ s'' g. try_well s rule xs (λ y i. h y (inr i)) s'' g)

-- an atom handed out
pub hand_out_well : (s : State) (m : MadeIn) (guards : List ℕ) → Follows s m.state → SplitHolds m.state (m.id ∷ []) guards → RuledWell s (hand_out_made m guards)
unfolding hand_out_made hand_out with_emitted with_dt
hand_out_well s m guards f h = go (mem m.id m.state.dt.emitted)
  where
    after : State
    after = with_emitted m.state (insert m.id m.state.dt.emitted)

    go : (b : Bool) → RuledWell s (cond b (pass m.state) (answered after (Split (m.id ∷ []) guards [])))
    go true = pass_well s m.state f
    go false =
        answered_well s after (Split (m.id ∷ []) guards [])
        (record { extends = f.extends; formed = f.formed; eq = f.eq; atoms = f.atoms; level = f.level; entries = f.entries; marks = f.marks; ascending = f.ascending })
        h
