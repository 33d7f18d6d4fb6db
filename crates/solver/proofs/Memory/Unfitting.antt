-- A table whose terms do not fit is only extended by what follows, so they do not fit later either: no step of the definition takes a
-- term back.
use Rattle.shinri_core.proofs.Kit.{ℕ, ◌+◌, ◌≤◌, ◌≡◌, sym, ap, ◌∙◌, subst⁻¹, Bool, true, false, cond, ◌&&◌, false≢true, List, [], ◌∷◌, ◌++◌, map, map-append, foldl, none, some, Option, zero-add, add_assoc, arith, eqb, leb, leb→le, le-leb, length}
use lib.ListN.{get_elem?}
use Rattle.shinri_core.specs.Limits.{max_terms, max_places}
use Rattle.shinri_core.specs.Ids.{lit, negate}
use Rattle.shinri_core.specs.Lists.{first, total, mem, insert, pairs}
use Rattle.shinri_core.specs.Term as Term
use Rattle.shinri_core.specs.Term.{Term, Eq}
use Rattle.shinri_core.specs.Context.{Context, CtorApp, SelApp, TesterApp, tester_app, mk_eq, places, terms_fit, sort_of, children, dt_constructors, dt_tester, dt_selectors}
use Rattle.shinri_core.specs.Formed.{Extends}
use Rattle.shinri_core.proofs.Lists.{T_and, true_T, not_true_false}
use Rattle.theory.specs.Types.{EqLeaf}
use Rattle.theory.specs.Atom.{var_of_atom}
use Rattle.solver.specs.State.{State, AssertedAtom, MadeIn, with_terms, with_dt, with_marks, with_emitted, with_split_done, ctor_apps, sel_apps, testers, watched_dt_terms, equal, ctor_of_class, mark, made_in, make_app, marked_in, mint}
use Rattle.solver.specs.Records.{is_some, tester_conflict, negative_conflict, disequality_conflict}
use Rattle.solver.specs.Rules.{TCheck, Split, Unknown, Ruled, pass, answered, go_on, then, try_each, conflict_of, tester_clash_at, tester_clash, negative_clash_at, negative_clash, disequality_clash, mint_on_both, same_constructor, mint_selectors, instantiate_injectivity_selectors, hand_out, hand_out_made, make_eq, equate_field, collapse_field, collapse_at, collapse_lemma, tester_lemma_at, tester_lemma, Fields, mint_field, mint_fields, guard, equate_with, instantiate, instantiate_at, instantiate_constructor, Testers, make_tester, split_on, to_split, split_answer, exhaustiveness_split, has_undetermined_class, unknown_fence}
use Rattle.solver.specs.Memory.Checks.{from_split, from_instantiation, from_tester_lemma, from_collapse, from_injectivity, from_disequality_clash, from_negative_clash, from_tester_clash}
use Rattle.solver.proofs.Terms.{extends_self, extends_then, extends_length, mk_app_makes}

-- ---- what does not fit

total_append : (xs ys : List ℕ) → total (xs ++ ys) ≡ total xs + total ys
unfolding total
total_append [] ys = sym (zero-add (total ys))
total_append (x ∷ xs) ys = ap (λ (n : ℕ). x + n) (total_append xs ys) ∙ sym (add_assoc x (total xs) (total ys))

abbrev args_length : Term → ℕ
args_length t = length t.args

places_more : (a b : Context) → Extends a b → places a ≤ places b
unfolding places
places_more a b (new, e) =
    let p : total (map args_length (a.terms ++ new)) ≡ total (map args_length a.terms) + total (map args_length new)
    = ap total (map-append args_length a.terms new) ∙ total_append (map args_length a.terms) (map args_length new)
    in
    subst⁻¹ (λ (z : Context). places a ≤ places z) e (omega arith)

fit_less : (a b : Context) → Extends a b → terms_fit b ≡ true → terms_fit a ≡ true
unfolding terms_fit
fit_less a b e h =
    let (p, q) = T_and (leb (length b.terms) max_terms) (leb (places b) max_places) (true_T (terms_fit b) h) in
    let n = leb→le (length b.terms) max_terms p in
    let m = leb→le (places b) max_places q in
    let l = extends_length a b e in
    let k = places_more a b e in
    rw (le-leb (length a.terms) max_terms (omega arith), le-leb (places a) max_places (omega arith))

pub unfit_more : (a b : Context) → Extends a b → terms_fit a ≡ false → terms_fit b ≡ false
unfit_more a b e h = not_true_false (terms_fit b) (λ q. false≢true (sym h ∙ fit_less a b e q))

-- ---- states whose terms extend a state's

abbrev pub Onward : State → State → Type 0
Onward s s' = Extends s.terms s'.terms

pub onward_self : (s : State) → Onward s s
onward_self s = extends_self s.terms

pub onward_then : (s s' s'' : State) → Onward s s' → Onward s' s'' → Onward s s''
onward_then s s' s'' p q = extends_then s.terms s'.terms s''.terms p q

pub onward_unfit : (s s' : State) → Onward s s' → terms_fit s.terms ≡ false → terms_fit s'.terms ≡ false
onward_unfit s s' p h = unfit_more s.terms s'.terms p h

-- a fold each of whose steps goes onward, by the state that the folded value has
pub fold_onward : {A B : Type 0} (view : B → State) (step : B → A → B) → ((b : B) (x : A) → Onward (view b) (view (step b x))) →
    (xs : List A) (b : B) → Onward (view b) (view (foldl step b xs))
fold_onward view step h [] b = onward_self (view b)
fold_onward view step h (x ∷ xs) b =
    onward_then (view b) (view (step b x)) (view (foldl step (step b x) xs)) (h b x) (fold_onward view step h xs (step b x))

-- ---- making terms

pub make_app_onward : (s : State) (f : ℕ) (args : List ℕ) → Onward s (make_app s f args).state
unfolding make_app made_in with_terms
make_app_onward s f args = (mk_app_makes s.terms (Term.Uninterpreted f) args).extends

pub make_eq_onward : (s : State) (x y : ℕ) → Onward s (make_eq s x y).state
unfolding make_eq mk_eq made_in with_terms
make_eq_onward s x y = (mk_app_makes s.terms Eq (x ∷ y ∷ [])).extends

pub mint_onward : (s : State) (f : ℕ) (args : List ℕ) → Onward s (mint s f args).state
unfolding mint marked_in mark with_marks with_dt
mint_onward s f args = make_app_onward s f args

pub mint_on_both_onward : (p q : ℕ) (s : State) (sel : ℕ) → Onward s (mint_on_both p q s sel)
unfolding mint_on_both
mint_on_both_onward p q s sel =
    let half = (mint s sel (p ∷ [])).state in
    onward_then s half (mint half sel (q ∷ [])).state (mint_onward s sel (p ∷ [])) (mint_onward half sel (q ∷ []))

cond_onward : (b : Bool) (s x y : State) → Onward s x → Onward s y → Onward s (cond b x y)
cond_onward true s x y p q = p
cond_onward false s x y p q = q

pub mint_selectors_onward : (s : State) (pq : CtorApp × CtorApp) → Onward s (mint_selectors s pq)
unfolding mint_selectors
mint_selectors_onward s (p, q) =
    cond_onward (same_constructor s (p, q)) s (foldl (mint_on_both p.app q.app) s (dt_selectors s.terms p.ctor)) s
    (fold_onward (λ z. z) (mint_on_both p.app q.app) (mint_on_both_onward p.app q.app) (dt_selectors s.terms p.ctor) s)
    (onward_self s)

pub injectivity_onward : (s : State) → Onward s (instantiate_injectivity_selectors s)
unfolding instantiate_injectivity_selectors
injectivity_onward s = fold_onward (λ z. z) mint_selectors mint_selectors_onward (pairs (ctor_apps s)) s

pub mint_field_onward : (t : ℕ) (fs : Fields) (sel : ℕ) → Onward fs.state (mint_field t fs sel).state
unfolding mint_field
mint_field_onward t fs sel = mint_onward fs.state sel (t ∷ [])

pub mint_fields_onward : (s : State) (t ctor : ℕ) → Onward s (mint_fields s t ctor).state
unfolding mint_fields
mint_fields_onward s t ctor =
    fold_onward (λ (fs : Fields). fs.state) (mint_field t) (mint_field_onward t) (dt_selectors s.terms ctor)
    (record { ids = []; state = s })

pub make_tester_onward : (t : ℕ) (ts : Testers) (c : ℕ) → Onward ts.state (make_tester t ts c).state
unfolding make_tester
make_tester_onward t ts c = make_app_onward ts.state (dt_tester c) (t ∷ [])

-- ---- rules in a row

pub then_onward : (r : Ruled) (next : State → Ruled) → ((s : State) → Onward s (next s).state) → Onward r.state (then r next).state
unfolding then
then_onward r next h = go r.answer
  where
    go : (o : Option TCheck) → Onward r.state (go_on o r.state next).state
    go none = unfold go_on in h r.state
    go (some a) = unfold go_on answered in onward_self r.state

-- the same from a state before the first rule
pub onward_through : (s : State) (r : Ruled) (next : State → Ruled) → Onward s r.state → ((s' : State) → Onward s' (next s').state) →
    Onward s (then r next).state
onward_through s r next p h = onward_then s r.state (then r next).state p (then_onward r next h)

-- where a rule's terms do not fit, those of the whole do not
pub then_unfit : (r : Ruled) (next : State → Ruled) → ((s : State) → Onward s (next s).state) → terms_fit r.state.terms ≡ false →
    terms_fit (then r next).state.terms ≡ false
then_unfit r next h e = onward_unfit r.state (then r next).state (then_onward r next h) e

pub try_onward : {A : Type 0} (rule : A → State → Ruled) → ((x : A) (s : State) → Onward s (rule x s).state) → (xs : List A) (s : State) →
    Onward s (try_each rule xs s).state
unfolding try_each
try_onward rule h [] s = unfold pass in onward_self s
try_onward rule h (x ∷ xs) s = onward_through s (rule x s) (λ s'. try_each rule xs s') (h x s) (λ s'. try_onward rule h xs s')

-- ---- each rule

abbrev pub Goes_on : State → Ruled → Type 0
Goes_on s r = Onward s r.state

either_rule : (b : Bool) (s : State) (x y : Ruled) → Goes_on s x → Goes_on s y → Goes_on s (cond b x y)
either_rule true s x y p q = p
either_rule false s x y p q = q

pub pass_onward : (s : State) → Onward s (pass s).state
unfolding pass
pass_onward s = onward_self s

conflict_onward : (s : State) (o : Option (List EqLeaf)) → Onward s (conflict_of s o).state
unfolding conflict_of pass answered
conflict_onward s none = onward_self s
conflict_onward s (some ls) = onward_self s

tester_clash_at_onward : (l : ℕ) (o : Option TesterApp) (s : State) → Onward s (tester_clash_at l o s).state
unfolding tester_clash_at pass
tester_clash_at_onward l none s = onward_self s
tester_clash_at_onward l (some x) s = conflict_onward s (tester_conflict s l x)

negative_clash_at_onward : (l : ℕ) (o : Option TesterApp) (s : State) → Onward s (negative_clash_at l o s).state
unfolding negative_clash_at pass
negative_clash_at_onward l none s = onward_self s
negative_clash_at_onward l (some x) s = conflict_onward s (negative_conflict s l x)

pub tester_clash_onward : (s : State) → Onward s (tester_clash s).state
unfolding tester_clash
tester_clash_onward s =
    try_onward (λ (e : AssertedAtom) s'. tester_clash_at e.lit (tester_app s'.terms e.atom) s')
    (λ e s'. tester_clash_at_onward e.lit (tester_app s'.terms e.atom) s')
    s.dt.level_record s

pub negative_clash_onward : (s : State) → Onward s (negative_clash s).state
unfolding negative_clash
negative_clash_onward s =
    try_onward (λ (e : AssertedAtom) s'. negative_clash_at e.lit (tester_app s'.terms e.atom) s')
    (λ e s'. negative_clash_at_onward e.lit (tester_app s'.terms e.atom) s')
    s.dt.negative_record s

disequality_clash_onward : (s : State) → Onward s (disequality_clash s).state
unfolding disequality_clash
disequality_clash_onward s =
    try_onward (λ (e : AssertedAtom) s'. conflict_of s' (disequality_conflict s' e.lit (children s'.terms e.atom)))
    (λ e s'. conflict_onward s' (disequality_conflict s' e.lit (children s'.terms e.atom))) s.dt.disequalities s

pub hand_out_onward : (x : ℕ) (guards : List ℕ) (s : State) → Onward s (hand_out x guards s).state
unfolding hand_out
hand_out_onward x guards s =
    either_rule (mem x s.dt.emitted) s (pass s) (answered (with_emitted s (insert x s.dt.emitted)) (Split (x ∷ []) guards []))
    (pass_onward s)
    (unfold answered with_emitted with_dt in onward_self s)

pub hand_out_made_onward : (m : MadeIn) (guards : List ℕ) → Onward m.state (hand_out_made m guards).state
unfolding hand_out_made
hand_out_made_onward m guards = hand_out_onward m.id guards m.state

pub equate_field_onward : (field : ℕ) (m : MadeIn) → Onward m.state (equate_field field m).state
unfolding equate_field
equate_field_onward field m =
    let atom = make_eq m.state m.id field in
    either_rule (equal m.state m.id field) m.state (pass m.state) (hand_out_made atom [])
    (pass_onward m.state)
    (onward_then m.state atom.state (hand_out_made atom []).state (make_eq_onward m.state m.id field)
    (hand_out_made_onward atom []))

pub collapse_field_onward : (x : SelApp) (c : CtorApp) (s : State) (o : Option ℕ) → Onward s (collapse_field x c s o).state
unfolding collapse_field
collapse_field_onward x c s none = pass_onward s
collapse_field_onward x c s (some field) =
    let m = make_app s x.selector (c.app ∷ []) in
    onward_then s m.state (equate_field field m).state (make_app_onward s x.selector (c.app ∷ [])) (equate_field_onward field m)

pub collapse_at_onward : (x : SelApp) (c : CtorApp) (s : State) → Onward s (collapse_at x c s).state
unfolding collapse_at
collapse_at_onward x c s =
    either_rule (eqb c.ctor x.ctor && equal s x.arg c.app) s
    (collapse_field x c s (get_elem? c.fields x.index))
    (pass s)
    (collapse_field_onward x c s (get_elem? c.fields x.index))
    (pass_onward s)

pub collapse_onward : (s : State) → Onward s (collapse_lemma s).state
unfolding collapse_lemma
collapse_onward s =
    try_onward (λ (x : SelApp) s'. try_each (λ (c : CtorApp) s''. collapse_at x c s'') (ctor_apps s) s')
    (λ x s'. try_onward (λ (c : CtorApp) s''. collapse_at x c s'') (λ c s''. collapse_at_onward x c s'') (ctor_apps s) s')
    (sel_apps s) s

pub tester_lemma_at_onward : (x : TesterApp) (c : CtorApp) (s : State) → Onward s (tester_lemma_at x c s).state
unfolding tester_lemma_at
tester_lemma_at_onward x c s =
    let m = make_app s x.tester (c.app ∷ []) in
    either_rule (eqb c.ctor x.ctor && equal s x.arg c.app) s (hand_out_made m []) (pass s)
    (onward_then s m.state (hand_out_made m []).state (make_app_onward s x.tester (c.app ∷ [])) (hand_out_made_onward m []))
    (pass_onward s)

pub tester_lemma_onward : (s : State) → Onward s (tester_lemma s).state
unfolding tester_lemma
tester_lemma_onward s =
    try_onward (λ (x : TesterApp) s'. try_each (λ (c : CtorApp) s''. tester_lemma_at x c s'') (ctor_apps s) s')
    (λ x s'. try_onward (λ (c : CtorApp) s''. tester_lemma_at x c s'') (λ c s''. tester_lemma_at_onward x c s'') (ctor_apps s) s')
    (testers s) s

pub guard_onward : (o : Option ℕ) (m : MadeIn) → Onward m.state (guard o m).state
unfolding guard
guard_onward none m = pass_onward m.state
guard_onward (some v) m = hand_out_made_onward m (negate (lit v true) ∷ [])

pub equate_with_onward : (t : ℕ) (m : MadeIn) → Onward m.state (equate_with t m).state
unfolding equate_with
equate_with_onward t m = make_eq_onward m.state t m.id

pub instantiate_onward : (s : State) (x : TesterApp) → Onward s (instantiate s x).state
unfolding instantiate
instantiate_onward s x =
    let fs = mint_fields s x.arg x.ctor in
    let app = mint fs.state x.ctor fs.ids in
    let atom = equate_with x.arg app in
    let r = guard (var_of_atom s.atoms x.app) atom in
    onward_then s fs.state r.state (mint_fields_onward s x.arg x.ctor)
    (onward_then fs.state app.state r.state (mint_onward fs.state x.ctor fs.ids)
    (onward_then app.state atom.state r.state (equate_with_onward x.arg app)
    (guard_onward (var_of_atom s.atoms x.app) atom)))

pub instantiate_at_onward : (o : Option TesterApp) (s : State) → Onward s (instantiate_at o s).state
unfolding instantiate_at
instantiate_at_onward none s = pass_onward s
instantiate_at_onward (some x) s =
    either_rule (is_some (ctor_of_class s x.arg)) s (pass s) (instantiate s x) (pass_onward s) (instantiate_onward s x)

pub instantiate_constructor_onward : (s : State) → Onward s (instantiate_constructor s).state
unfolding instantiate_constructor
instantiate_constructor_onward s =
    try_onward (λ t s'. instantiate_at (tester_app s'.terms t) s') (λ t s'. instantiate_at_onward (tester_app s'.terms t) s')
    s.dt.lasting s

pub split_on_onward : (s : State) (t : ℕ) → Onward s (split_on s t).state
unfolding split_on answered
split_on_onward s t =
    let noted : State = with_split_done s (insert t s.dt.split_done) in
    let kept : Onward s noted = unfold with_split_done with_dt in onward_self s in
    let cs = dt_constructors s.terms (sort_of s.terms t) in
    let first_of : Testers = record { atoms = []; state = noted } in
    let made = fold_onward (λ (ts : Testers). ts.state) (make_tester t) (make_tester_onward t) cs first_of in
    onward_then s noted (foldl (make_tester t) first_of cs).state kept made

pub exhaustiveness_onward : (s : State) → Onward s (exhaustiveness_split s).state
unfolding exhaustiveness_split
exhaustiveness_onward s = go (first (to_split s) (watched_dt_terms s))
  where
    go : (o : Option ℕ) → Onward s (split_answer s o).state
    go none = unfold split_answer in pass_onward s
    go (some t) = unfold split_answer in split_on_onward s t

pub unknown_onward : (s : State) → Onward s (unknown_fence s).state
unfolding unknown_fence
unknown_onward s =
    either_rule (has_undetermined_class s) s (answered s Unknown) (pass s) (unfold answered in onward_self s) (pass_onward s)

-- ---- a whole check, from each of its rules on

pub from_split_onward : (s : State) → Onward s (from_split s).state
from_split_onward s = onward_through s (exhaustiveness_split s) unknown_fence (exhaustiveness_onward s) unknown_onward

pub from_instantiation_onward : (s : State) → Onward s (from_instantiation s).state
from_instantiation_onward s =
    onward_through s (instantiate_constructor s) from_split (instantiate_constructor_onward s) from_split_onward

pub from_tester_lemma_onward : (s : State) → Onward s (from_tester_lemma s).state
from_tester_lemma_onward s = onward_through s (tester_lemma s) from_instantiation (tester_lemma_onward s) from_instantiation_onward

pub from_collapse_onward : (s : State) → Onward s (from_collapse s).state
from_collapse_onward s = onward_through s (collapse_lemma s) from_tester_lemma (collapse_onward s) from_tester_lemma_onward

pub from_injectivity_onward : (s : State) → Onward s (from_injectivity s).state
from_injectivity_onward s =
    onward_through s (pass (instantiate_injectivity_selectors s)) from_collapse (unfold pass in injectivity_onward s) from_collapse_onward

pub from_disequality_clash_onward : (s : State) → Onward s (from_disequality_clash s).state
from_disequality_clash_onward s =
    onward_through s (disequality_clash s) from_injectivity (disequality_clash_onward s) from_injectivity_onward

pub from_negative_clash_onward : (s : State) → Onward s (from_negative_clash s).state
from_negative_clash_onward s =
    onward_through s (negative_clash s) from_disequality_clash (negative_clash_onward s) from_disequality_clash_onward

pub from_tester_clash_onward : (s : State) → Onward s (from_tester_clash s).state
from_tester_clash_onward s =
    onward_through s (tester_clash s) from_negative_clash (tester_clash_onward s) from_negative_clash_onward
