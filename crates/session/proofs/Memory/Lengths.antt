-- How long the texts of an answer are.
use Rattle.std.specs.Prelude.{None, Some}
use Rattle.shinri_core.proofs.Kit.{ℕ, suc, ◌+◌, ◌*◌, ◌≤◌, ◌<◌, ◌≡◌, refl, sym, ap, ◌∙◌, List, [], map, Option, arith, length, length-append, get_or, take, take_all}
use native.Mathlib.Nat.{mul-suc, mul-le-mul, mul-le-mul_left}
use Rattle.shinri_core.specs.declared.ids.Lit.{Lit}
use Rattle.theory.specs.Types.{AssertedLeaf, InterfaceLeaf}
use Rattle.theory.specs.Memory.Answer.{leaves}
use Rattle.solver.specs.Rules.{Phase, Positive, NoPhase, Conflict}
use Rattle.solver.specs.Memory.Answer.{split_guard, listed, split_of, Guard, guard_meaning}
use Rattle.session.specs.Text.{bytes, comma, joined, decimal}
use Rattle.session.specs.Answer.{leaf_text, phase_text, check_text}
use Rattle.session.specs.Memory.Answers.{parting, leaves_text, atoms_text, guards_text, phases_text}
use Rattle.session.proofs.Memory.Printing.{joined_more}

-- ---- a leaf, phases

pub asserted_length : (l : ℕ) → length (leaf_text (AssertedLeaf l)) ≡ 1 + length (decimal l)
unfolding leaf_text bytes
asserted_length l = omega arith

pub interface_length : (h g : ℕ) → length (leaf_text (InterfaceLeaf h g)) ≡ 2 + length (decimal h) + length (decimal g)
unfolding leaf_text bytes
interface_length h g = simp length-append (omega arith)

pub phase_length : (p : Phase) → length (phase_text p) ≡ 1
unfolding phase_text bytes
phase_length Positive = refl
phase_length NoPhase = refl

-- ---- a list

-- The bytes of the first i of a list of texts are counted, and those of the commas between them. They are at most k each.
pub record Counting (ts : List (List ℕ)) (k r i : ℕ) : Type 0 where
  pub within : i ≤ length ts
  pub done : r ≡ length (joined comma (take i ts))
  pub few : r ≤ k * i

module _ {ts : List (List ℕ)} {k : ℕ} where
  pub count_first : Counting ts k 0 0
  unfolding joined
  count_first = record { within = omega arith; done = refl; few = omega arith }

  module _ {r i : ℕ} (l : Counting ts k r i) where
    -- p bytes part it from those before, n bytes are its own
    pub count_next : {text : List ℕ} {p n : ℕ} → i < length ts → text ≡ get_or ts i [] → p ≡ length (parting i) → n ≡ length text →
        p + n ≤ k → Counting ts k (r + (p + n)) (i + 1)
    count_next h e f g m =
        let next : i + 1 ≡ suc i = omega arith in
        let more = joined_more ts i h in
        let product = mul-suc k i in
        let few = l.few in
        record {
          within = omega arith;
          done = rw (next, more, length-append, length-append, l.done, f, g, e) (omega arith);
          few = rw next (omega arith);
        }

    pub count_done : length ts ≤ i → r ≡ length (joined comma ts)
    count_done h = l.done ∙ rw (take_all i ts h)

    -- so many at most
    pub count_few : {n : ℕ} → i ≤ n → r ≤ k * n
    count_few h = let more = mul-le-mul_left k h in let few = l.few in omega arith

    pub count_small : k ≤ 23 → i ≤ 1024 → r ≤ 23552
    count_small h g = let more = mul-le-mul h g in let few = l.few in omega arith

-- ---- the texts

pub conflict_length : (o : List ℕ) → length (check_text (Conflict (leaves o))) ≡ 9 + length (leaves_text o)
unfolding check_text bytes
conflict_length o = omega arith

pub split_length : (o : List ℕ) →
    length (check_text (split_of o)) ≡ 8 + length (atoms_text o) + length (guards_text o) + length (phases_text o)
unfolding check_text split_of bytes
split_length o = simp length-append (omega arith)

-- ---- the guard

module _ (o : List ℕ) {g : Guard} (e : guard_meaning g ≡ split_guard o) where
  pub one_guard : {l : Lit} → g ≡ Some l → guards_text o ≡ decimal l.0
  unfolding guard_meaning listed joined
  one_guard q = ap (λ (x : Option ℕ). joined comma (map decimal (listed x))) (sym e ∙ ap guard_meaning q)

  pub no_guard : g ≡ None → guards_text o ≡ []
  unfolding guard_meaning listed joined
  no_guard q = ap (λ (x : Option ℕ). joined comma (map decimal (listed x))) (sym e ∙ ap guard_meaning q)
