-- The rules of a full check that come before the ring, each as in lib.rs, loops nested as there.
use Rattle.std.specs.Prelude.{ℕ, Bool, true, cond, not, ◌&&◌, eqb, length}
use mathlib.Core.List.{List, [], ◌∷◌, ◌++◌, map, foldl}
use Rattle.std.proofs.Math.Option.{Option, none, some}
use Rattle.std.proofs.Math.ListN.{get_elem?}
use Rattle.shinri_core.specs.Lists.{any, first, pairs, mem, insert}
use Rattle.shinri_core.specs.Ids.{lit, negate}
use Rattle.shinri_core.specs.Context.{Context, CtorApp, SelApp, TesterApp, tester_app, mk_eq, symbol, sort_of, children, dt_constructors, dt_tester, dt_selectors}
use Rattle.theory.specs.Types.{EqLeaf}
use Rattle.theory.specs.EqEngine.{explain, firsts}
use Rattle.theory.specs.Atom.{var_of_atom}
use Rattle.solver.specs.State.{State, AssertedAtom, MadeIn, with_emitted, with_split_done, ctor_apps, sel_apps, testers, watched_dt_terms, equal, ctor_of_class, made_in, make_app, mint}
use Rattle.solver.specs.Records.{is_some, tester_conflict, negative_conflict, disequality_conflict}

-- the preferred phase of a split atom: 01 writes 1 or -
pub data Phase : Type 0 where
  Positive NoPhase : Phase

-- TCheck
pub data TCheck : Type 0 where
  Sat : TCheck
  Conflict : (leaves : List EqLeaf) → TCheck
  Split : (atoms guards : List ℕ) → (phases : List Phase) → TCheck
  Unknown : TCheck

-- what a rule answers, if it applies, and the state that it leaves
pub record Ruled : Type 0 where
  pub answer : Option TCheck
  pub state : State

unfoldable pub pass : State → Ruled
pass s = record { answer = none; state = s }

unfoldable pub answered : State → TCheck → Ruled
answered s a = record { answer = some a; state = s }

unfoldable pub go_on : Option TCheck → State → (State → Ruled) → Ruled
go_on none s next = next s
go_on (some a) s next = answered s a

-- the first answer wins
unfoldable pub then : Ruled → (State → Ruled) → Ruled
then r next = go_on r.answer r.state next

unfoldable pub try_each : {A : Type 0} → (A → State → Ruled) → List A → State → Ruled
try_each rule [] s = pass s
try_each rule (x ∷ xs) s = then (rule x s) (λ s'. try_each rule xs s')

-- ---- constructor clash

unfoldable pub clash : State → CtorApp × CtorApp → Bool
clash s (p, q) = not (eqb p.ctor q.ctor) && equal s p.app q.app

unfoldable pub clash_answer : State → Option (CtorApp × CtorApp) → Ruled
clash_answer s none = pass s
clash_answer s (some (p, q)) = answered s (Conflict (firsts (explain s.eq p.app q.app)))

-- the first pair, by lower then higher number, with different constructors in one class; the lower is explained to the higher
unfoldable pub constructor_clash : State → Ruled
constructor_clash s = clash_answer s (first (clash s) (pairs (ctor_apps s)))

-- ---- tester clash

unfoldable pub conflict_of : State → Option (List EqLeaf) → Ruled
conflict_of s none = pass s
conflict_of s (some ls) = answered s (Conflict ls)

unfoldable pub tester_clash_at : ℕ → Option TesterApp → State → Ruled
tester_clash_at l none s = pass s
tester_clash_at l (some x) s = conflict_of s (tester_conflict s l x)

-- the first entry of the level record whose term's class has a lowest marked application of another constructor
unfoldable pub tester_clash : State → Ruled
tester_clash s =
    try_each (λ (e : AssertedAtom) s'. tester_clash_at e.lit (tester_app s'.terms e.atom) s') s.dt.level_record s

-- ---- 02 (i): negative testers

-- an entry, by the tester application that its atom is
unfoldable pub negative_clash_at : ℕ → Option TesterApp → State → Ruled
negative_clash_at l none s = pass s
negative_clash_at l (some x) s = conflict_of s (negative_conflict s l x)

-- the first entry of the record of negative testers whose term's class has a marked application of that very constructor
unfoldable pub negative_clash : State → Ruled
negative_clash s =
    try_each (λ (e : AssertedAtom) s'. negative_clash_at e.lit (tester_app s'.terms e.atom) s') s.dt.negative_record s

-- ---- 02 (iii): unequal terms

-- the first entry of the record of unequal terms whose two sides are equal now
unfoldable pub disequality_clash : State → Ruled
disequality_clash s =
    try_each (λ (e : AssertedAtom) s'. conflict_of s' (disequality_conflict s' e.lit (children s'.terms e.atom)))
    s.dt.disequalities s

-- ---- injectivity

-- a selector made on the lower, then on the higher, and marked
unfoldable pub mint_on_both : ℕ → ℕ → State → ℕ → State
mint_on_both p q s sel = (mint (mint s sel (p ∷ [])).state sel (q ∷ [])).state

unfoldable pub same_constructor : State → CtorApp × CtorApp → Bool
same_constructor s (p, q) = eqb p.ctor q.ctor && equal s p.app q.app

unfoldable pub mint_selectors : State → CtorApp × CtorApp → State
mint_selectors s (p, q) =
    cond (same_constructor s (p, q)) (foldl (mint_on_both p.app q.app) s (dt_selectors s.terms p.ctor)) s

unfoldable pub instantiate_injectivity_selectors : State → State
instantiate_injectivity_selectors s = foldl mint_selectors s (pairs (ctor_apps s))

-- ---- atoms handed out

-- 01: these last three pass over an atom that any of them has handed out
unfoldable pub hand_out : ℕ → List ℕ → State → Ruled
hand_out lemma guards s =
    cond (mem lemma s.dt.emitted) (pass s)
    (answered (with_emitted s (insert lemma s.dt.emitted)) (Split (lemma ∷ []) guards []))

unfoldable pub hand_out_made : MadeIn → List ℕ → Ruled
hand_out_made m guards = hand_out m.id guards m.state

unfoldable pub make_eq : State → ℕ → ℕ → MadeIn
make_eq s x y = made_in s (mk_eq s.terms x y)

-- ---- collapse

-- the atom equates the made selector application with the field, unless the two are equal now
unfoldable pub equate_field : ℕ → MadeIn → Ruled
equate_field field m =
    cond (equal m.state m.id field) (pass m.state) (hand_out_made (make_eq m.state m.id field) [])

unfoldable pub collapse_field : SelApp → CtorApp → State → Option ℕ → Ruled
collapse_field x c s none = pass s
collapse_field x c s (some field) = equate_field field (make_app s x.selector (c.app ∷ []))

unfoldable pub collapse_at : SelApp → CtorApp → State → Ruled
collapse_at x c s =
    cond (eqb c.ctor x.ctor && equal s x.arg c.app) (collapse_field x c s (get_elem? c.fields x.index)) (pass s)

-- by marked selector application, then by marked application of its constructor in its argument's class
unfoldable pub collapse_lemma : State → Ruled
collapse_lemma s =
    let ctors = ctor_apps s in
    try_each (λ (x : SelApp) s'. try_each (λ (c : CtorApp) s''. collapse_at x c s'') ctors s') (sel_apps s) s

-- ---- tester lemma

unfoldable pub tester_lemma_at : TesterApp → CtorApp → State → Ruled
tester_lemma_at x c s =
    cond (eqb c.ctor x.ctor && equal s x.arg c.app)
    (hand_out_made (make_app s x.tester (c.app ∷ [])) [])
    (pass s)

unfoldable pub tester_lemma : State → Ruled
tester_lemma s =
    let ctors = ctor_apps s in
    try_each (λ (x : TesterApp) s'. try_each (λ (c : CtorApp) s''. tester_lemma_at x c s'') ctors s') (testers s) s

-- ---- guarded instantiation

-- the selectors on the term, made and marked in order
pub record Fields : Type 0 where
  pub ids : List ℕ
  pub state : State

unfoldable pub mint_field : ℕ → Fields → ℕ → Fields
mint_field t fs sel =
    let m = mint fs.state sel (t ∷ []) in
    record { ids = fs.ids ++ (m.id ∷ []); state = m.state }

unfoldable pub mint_fields : State → ℕ → ℕ → Fields
mint_fields s t ctor = foldl (mint_field t) (record { ids = []; state = s }) (dt_selectors s.terms ctor)

unfoldable pub guard : Option ℕ → MadeIn → Ruled
guard none m = pass m.state
guard (some v) m = hand_out_made m (negate (lit v true) ∷ [])

unfoldable pub equate_with : ℕ → MadeIn → MadeIn
equate_with t m = make_eq m.state t m.id

-- The constructor over the selectors on the term is made and marked; the atom equates term and application.
unfoldable pub instantiate : State → TesterApp → Ruled
instantiate s x =
    let fs = mint_fields s x.arg x.ctor in
    guard (var_of_atom s.atoms x.app) (equate_with x.arg (mint fs.state x.ctor fs.ids))

unfoldable pub instantiate_at : Option TesterApp → State → Ruled
instantiate_at none s = pass s
instantiate_at (some x) s = cond (is_some (ctor_of_class s x.arg)) (pass s) (instantiate s x)

-- by atom of the lasting record whose term's class has no marked constructor application
unfoldable pub instantiate_constructor : State → Ruled
instantiate_constructor s = try_each (λ t s'. instantiate_at (tester_app s'.terms t) s') s.dt.lasting s

-- ---- exhaustiveness

pub record Testers : Type 0 where
  pub atoms : List ℕ
  pub state : State

unfoldable pub make_tester : ℕ → Testers → ℕ → Testers
make_tester t ts c =
    let m = make_app ts.state (dt_tester c) (t ∷ []) in
    record { atoms = ts.atoms ++ (m.id ∷ []); state = m.state }

-- nullary phases 1
unfoldable pub phase : Context → ℕ → Phase
phase cx c = cond (eqb (length (symbol cx c).params) 0) Positive NoPhase

unfoldable pub split_on : State → ℕ → Ruled
split_on s t =
    let cs = dt_constructors s.terms (sort_of s.terms t) in
    let ts = foldl (make_tester t) (record { atoms = []; state = with_split_done s (insert t s.dt.split_done) }) cs in
    answered ts.state (Split ts.atoms [] (map (phase s.terms) cs))

unfoldable pub to_split : State → ℕ → Bool
to_split s t = not (is_some (ctor_of_class s t)) && not (mem t s.dt.split_done)

unfoldable pub split_answer : State → Option ℕ → Ruled
split_answer s none = pass s
split_answer s (some t) = split_on s t

-- the lowest watched term whose class has no marked constructor application and that was not split on
unfoldable pub exhaustiveness_split : State → Ruled
exhaustiveness_split s = split_answer s (first (to_split s) (watched_dt_terms s))

-- ---- unknown

-- unknown while a watched class has no marked constructor application
unfoldable pub has_undetermined_class : State → Bool
has_undetermined_class s = any (λ t. not (is_some (ctor_of_class s t))) (watched_dt_terms s)

unfoldable pub unknown_fence : State → Ruled
unknown_fence s = cond (has_undetermined_class s) (answered s Unknown) (pass s)

unfoldable pub rules_definitions : Unit {0}
unfolding pass answered go_on then try_each clash clash_answer constructor_clash conflict_of tester_clash_at tester_clash negative_clash_at negative_clash disequality_clash mint_on_both same_constructor mint_selectors instantiate_injectivity_selectors hand_out hand_out_made make_eq equate_field collapse_field collapse_at collapse_lemma tester_lemma_at tester_lemma mint_field mint_fields guard equate_with instantiate instantiate_at instantiate_constructor make_tester phase split_on to_split split_answer exhaustiveness_split has_undetermined_class unknown_fence
rules_definitions = tt
