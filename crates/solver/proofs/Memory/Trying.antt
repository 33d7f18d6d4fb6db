-- Rules tried one after the other: what the rest of a loop makes of the present tables is what the whole made of those at the start.
-- Until an answer only the terms grow.
use Rattle.shinri_core.proofs.Kit.{ℕ, ◌≡◌, refl, sym, ap, ◌∙◌, Bool, true, false, not, not-false, false≢true, subst, subst⁻¹, List, [], ◌∷◌, none, some, Option, arith}
use types.Run.{OneOf, miss}
use denote.Enum.Declared.{tag_of}
use Rattle.shinri_core.specs.declared.limits.NoRoom.{NoRoom}
use Rattle.shinri_core.specs.Formed.{Extends}
use Rattle.shinri_core.specs.Memory.Table.{context}
use Rattle.solver.specs.State.{State}
use Rattle.solver.specs.Rules as Rules
use Rattle.solver.specs.Rules.{Ruled, pass, answered, go_on, then, try_each}
use Rattle.solver.specs.declared.answer.TCheck as TCheck
use Rattle.solver.specs.Memory.Work.{state_at, CheckSound}
use Rattle.solver.specs.Memory.Answer.{Outcome, Tried, RuleAnswer}
use Rattle.solver.specs.contracts.answer.TCheck.{the_type}
use denote.Enum.Bare.{sameb}
use Rattle.solver.proofs.Terms.{extends_self, extends_then}
use Rattle.solver.proofs.Memory.Unfitting.{Onward, then_unfit}
use Rattle.std.specs.Prelude.{Ok, Err}

-- `Sat` is no split
pub sat_split : (r : RuleAnswer) → r ≡ Ok TCheck.TheVariants.Sat → r ≡ Ok TCheck.TheVariants.Split → ⊥
sat_split r p q = let z : ◌≡◌ {A = ℕ} 0 1 = cc in omega arith

-- an answer of another tag than the first is not `Sat`
pub not_sat : {r : TCheck.TCheck} → OneOf (1 ∷ 2 ∷ 3 ∷ 4 ∷ []) (tag_of the_type r) → r ≡ TCheck.TheVariants.Sat → ⊥
not_sat k q = miss (1 ∷ 2 ∷ 3 ∷ 4 ∷ []) 0 tt (subst (λ (z : TCheck.TCheck). OneOf (1 ∷ 2 ∷ 3 ∷ 4 ∷ []) (tag_of the_type z)) q k)

-- a refusal is no `Sat`
pub err_not_sat : {r : RuleAnswer} {n : NoRoom} → r ≡ Err n → r ≡ Ok TCheck.TheVariants.Sat → ⊥
err_not_sat p q = let z : ◌≡◌ {A = ℕ} 0 1 = cc in omega arith

-- what the test of an answer says
same_sat : (t : TCheck.TCheck) → sameb the_type t TCheck.TheVariants.Sat ≡ true → t ≡ TCheck.TheVariants.Sat
same_sat TCheck.TheVariants.Sat q = refl
same_sat TCheck.TheVariants.Conflict q = absurd (false≢true q)
same_sat TCheck.TheVariants.Split q = absurd (false≢true q)
same_sat TCheck.TheVariants.Unknown q = absurd (false≢true q)

pub plain_sat : (t : TCheck.TCheck) {b : Bool} → b ≡ not (sameb the_type t TCheck.TheVariants.Sat) → b ≡ false → t ≡ TCheck.TheVariants.Sat
plain_sat t p q = same_sat t (not-false (sameb the_type t TCheck.TheVariants.Sat) (sym p ∙ q))

pub plain_answer : (t : TCheck.TCheck) {b : Bool} → b ≡ not (sameb the_type t TCheck.TheVariants.Sat) → b ≡ true →
    t ≡ TCheck.TheVariants.Sat → ⊥
plain_answer t p q d = false≢true (ap (λ (z : TCheck.TCheck). not (sameb the_type z TCheck.TheVariants.Sat)) (sym d) ∙ sym p ∙ q)

pub is_sat : (t : TCheck.TCheck) {b : Bool} → b ≡ not (sameb the_type t TCheck.TheVariants.Sat) → b ≡ false →
    ◌≡◌ {A = RuleAnswer} (Ok t) (Ok TCheck.TheVariants.Sat)
is_sat t p q = ap Ok (plain_sat t p q)

pub is_answer : (t : TCheck.TCheck) {b : Bool} → b ≡ not (sameb the_type t TCheck.TheVariants.Sat) → b ≡ true →
    ◌≡◌ {A = RuleAnswer} (Ok t) (Ok TCheck.TheVariants.Sat) → ⊥
is_answer t p q k = plain_answer t p q cc

pub no_sat : (t : TCheck.TCheck) {b : Bool} → b ≡ sameb the_type t TCheck.TheVariants.Sat → b ≡ false →
    ◌≡◌ {A = RuleAnswer} (Ok t) (Ok TCheck.TheVariants.Sat) → ⊥
no_sat t p q = is_answer t (ap not p) (ap not q)

-- an answer stays, whatever comes behind it
outcome_then : (r : RuleAnswer) (a : Ruled) (next : State → Ruled) (S : State) (o : List ℕ) → (r ≡ Ok TCheck.TheVariants.Sat → ⊥) →
    ((S' : State) → Onward S' (next S').state) → Outcome r a S o → Outcome r (then a next) S o
unfolding then answered go_on
outcome_then (Ok TCheck.TheVariants.Sat) a next S o n h p = absurd (n refl)
outcome_then (Ok TCheck.TheVariants.Conflict) a next S o n h p = ap (λ (z : Ruled). then z next) p
outcome_then (Ok TCheck.TheVariants.Split) a next S o n h p = ap (λ (z : Ruled). then z next) p
outcome_then (Ok TCheck.TheVariants.Unknown) a next S o n h p = ap (λ (z : Ruled). then z next) p
outcome_then (Err m) a next S o n h p = then_unfit a next h p

-- a rule that passes goes on
pass_then : (a : Ruled) (next : State → Ruled) (S : State) → a ≡ pass S → then a next ≡ next S
unfolding then pass go_on
pass_then a next S p = ap (λ (z : Ruled). then z next) p

-- Of a rule begun on the tables c₀ s₀ the rest is to be done, on c s.
pub record Trying (rule rest : State → Ruled) (c₀ e s₀ w c s : List ℕ) : Type 0 where
  pub sound : CheckSound c e s w
  pub extends : Extends (context c₀) (context c)
  pub same : s ≡ s₀
  pub whole : (lv : ℕ → ℕ) → rule (state_at c₀ e s₀ w lv) ≡ rest (state_at c e s w lv)

pub try_first : (rule : State → Ruled) {c e s w : List ℕ} → CheckSound c e s w → Trying rule rule c e s w c s
try_first rule {c} C = record { sound = C; extends = extends_self (context c); same = refl; whole = λ lv. refl }

-- the rest by another name
pub try_as : {rule rest rest' : State → Ruled} {c₀ e s₀ w c s : List ℕ} → Trying rule rest c₀ e s₀ w c s →
    ((lv : ℕ → ℕ) → rest (state_at c e s w lv) ≡ rest' (state_at c e s w lv)) → Trying rule rest' c₀ e s₀ w c s
try_as T h = record { sound = T.sound; extends = T.extends; same = T.same; whole = λ lv. T.whole lv ∙ h lv }

module _
    {rule : State → Ruled} {c₀ e s₀ w c s : List ℕ} (step next : State → Ruled)
    (T : Trying rule (λ S. then (step S) next) c₀ e s₀ w c s) {r : RuleAnswer} {c' s' o : List ℕ}
    (K : Tried step c e s w r c' s' w o)
  where
    -- the step passes
    pub try_next : r ≡ Ok TCheck.TheVariants.Sat → Trying rule next c₀ e s₀ w c' s'
    try_next q = record {
      sound = K.sound;
      extends = extends_then (context c₀) (context c) (context c') T.extends K.extends;
      same = K.unchanged (sat_split r q) ∙ T.same;
      whole = λ lv.
          T.whole lv
          ∙ pass_then (step (state_at c e s w lv)) next (state_at c' e s' w lv)
          (subst (λ (z : RuleAnswer). Outcome z (step (state_at c e s w lv)) (state_at c' e s' w lv) o) q (K.outcome lv));
    }

    -- the step answers
    pub try_answer : (r ≡ Ok TCheck.TheVariants.Sat → ⊥) → ((S : State) → Onward S (next S).state) → Tried rule c₀ e s₀ w r c' s' w o
    try_answer n h = record {
      sound = K.sound;
      extends = extends_then (context c₀) (context c) (context c') T.extends K.extends;
      outcome = λ lv.
          subst⁻¹ (λ (z : Ruled). Outcome r z (state_at c' e s' w lv) o) (T.whole lv)
          (outcome_then r (step (state_at c e s w lv)) next (state_at c' e s' w lv) o n h (K.outcome lv));
      unchanged = λ q. K.unchanged q ∙ T.same;
      readable = K.readable;
    }

-- nothing is left
pub try_done : {rule : State → Ruled} {c₀ e s₀ w c s o : List ℕ} → Trying rule pass c₀ e s₀ w c s →
    Tried rule c₀ e s₀ w (Ok TCheck.TheVariants.Sat) c s w o
try_done T = record { sound = T.sound; extends = T.extends; outcome = T.whole; unchanged = λ q. T.same; readable = tt }

-- a rule that passes
pub tried_pass : {rule : State → Ruled} {c e s w o : List ℕ} → CheckSound c e s w →
    ((lv : ℕ → ℕ) → rule (state_at c e s w lv) ≡ pass (state_at c e s w lv)) → Tried rule c e s w (Ok TCheck.TheVariants.Sat) c s w o
tried_pass {rule} C h = try_done (try_as (try_first rule C) h)

-- a rule by another name
pub tried_as : {rule rule' : State → Ruled} {c e s w : List ℕ} {r : RuleAnswer} {c' s' w' o : List ℕ} →
    Tried rule c e s w r c' s' w' o → ((lv : ℕ → ℕ) → rule' (state_at c e s w lv) ≡ rule (state_at c e s w lv)) →
    Tried rule' c e s w r c' s' w' o
tried_as {c = c} {e = e} {r = r} {c' = c'} {s' = s'} {w' = w'} {o = o} K h = record {
  sound = K.sound;
  extends = K.extends;
  outcome = λ lv. subst⁻¹ (λ (z : Ruled). Outcome r z (state_at c' e s' w' lv) o) (h lv) (K.outcome lv);
  unchanged = K.unchanged;
  readable = K.readable;
}

-- ---- rules that agree

pub then_same : (r : Ruled) (f g : State → Ruled) → ((S : State) → f S ≡ g S) → then r f ≡ then r g
unfolding then
then_same r f g h = go r.answer
  where
    go : (o : Option Rules.TCheck) → go_on o r.state f ≡ go_on o r.state g
    go none = unfold go_on in h r.state
    go (some a) = unfold go_on in refl

pub try_same : {A : Type 0} (f g : A → State → Ruled) → ((x : A) (S : State) → f x S ≡ g x S) → (xs : List A) (S : State) →
    try_each f xs S ≡ try_each g xs S
unfolding try_each
try_same f g h [] S = refl
try_same f g h (x ∷ xs) S =
    ap (λ (z : Ruled). then z (λ S'. try_each f xs S')) (h x S)
    ∙ then_same (g x S) (λ S'. try_each f xs S') (λ S'. try_each g xs S') (λ S'. try_same f g h xs S')
