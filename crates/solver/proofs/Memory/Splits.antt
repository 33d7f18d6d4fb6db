-- The answer table of a split: what its readers find, what a lemma or a tester written into it gives; and lemmas handed out.
use Rattle.shinri_core.proofs.Kit.{ℕ, zero, suc, ◌+◌, ◌≤◌, ◌<◌, ◌≡◌, refl, sym, ap, ◌∙◌, List, some, Option, arith, length, get_or}
use Rattle.shinri_core.specs.Limits.{max_symbols}
use Rattle.shinri_core.specs.Lists.{range}
use Rattle.shinri_core.specs.Memory.Words.{at, put, counted}
use Rattle.shinri_core.specs.declared.ids.Lit as Lit
use Rattle.shinri_core.proofs.Memory.Stores.{earlier}
use Rattle.shinri_core.proofs.Memory.Counted.{counted_length, counted_at, counted_grown}
use Rattle.theory.specs.Memory.Answer.{answer_size}
use Rattle.solver.specs.Rules.{Phase, Positive, NoPhase}
use Rattle.solver.specs.declared.answer.Phase as GivenPhase
use Rattle.std.specs.Prelude.{Some, None}
use Rattle.solver.specs.Memory.Answer.{COUNTS, ATOMS, GUARDED, PHASES, GUARD, ATOM, PHASE, phase_of, guard_of, split_atoms, split_guard, split_phases, split_of, SplitSound, phase_meaning, guard_meaning, guarded, LemmaWritten, SplitCleared, TesterRoom, TesterPushed, Guard}
use Rattle.solver.proofs.Memory.SplitStores.{stores}

-- ---- reading

pub atoms_counted : {o : List ℕ} → SplitSound o → (r : ℕ) → r ≡ at o COUNTS ATOMS → (r ≡ length (split_atoms o)) × (r ≤ max_symbols)
unfolding split_atoms
atoms_counted {o} z r e = let f = z.atoms_fit in (e ∙ sym (counted_length (at o ATOM) (at o COUNTS ATOMS)), omega arith)

pub phases_counted : {o : List ℕ} → SplitSound o → (r : ℕ) → r ≡ at o COUNTS PHASES → (r ≡ length (split_phases o)) × (r ≤ max_symbols)
unfolding split_phases
phases_counted {o} z r e =
    let f = z.phases_fit in (e ∙ sym (counted_length (λ i. phase_of (at o PHASE i)) (at o COUNTS PHASES)), omega arith)

-- an atom, a phase stand within their regions
pub atom_within : {o : List ℕ} → SplitSound o → (i : ℕ) → i < length (split_atoms o) → (i < at o COUNTS ATOMS) × (i < max_symbols)
atom_within z i l = let (e, f) = atoms_counted z _ refl in (omega arith, omega arith)

pub phase_within : {o : List ℕ} → SplitSound o → (i : ℕ) → i < length (split_phases o) → (i < at o COUNTS PHASES) × (i < max_symbols)
phase_within z i l = let (e, f) = phases_counted z _ refl in (omega arith, omega arith)

pub atom_is : {o : List ℕ} → SplitSound o → (i r : ℕ) → i < length (split_atoms o) → r ≡ at o ATOM i → r ≡ get_or (split_atoms o) i 0
atom_is {o} z i r l e =
    let h = (atom_within z i l).0 in
    e ∙ sym (unfold split_atoms in counted_at (at o ATOM) (at o COUNTS ATOMS) i 0 h)

pub phase_is : {o : List ℕ} → SplitSound o → (i : ℕ) (p : Phase) → i < length (split_phases o) → phase_of (at o PHASE i) ≡ p →
    p ≡ get_or (split_phases o) i NoPhase
phase_is {o} z i p l e =
    let h = (phase_within z i l).0 in
    sym e ∙ sym (unfold split_phases in counted_at (λ j. phase_of (at o PHASE j)) (at o COUNTS PHASES) i NoPhase h)

phase_zero : (n : ℕ) → n ≡ 0 → phase_of n ≡ NoPhase
unfolding phase_of
phase_zero n e = rw e

phase_other : (n : ℕ) → (n ≡ 0 → ⊥) → phase_of n ≡ Positive
unfolding phase_of
phase_other zero d = absurd (d refl)
phase_other (suc n) d = refl

pub no_phase : {o : List ℕ} → SplitSound o → (i r : ℕ) → i < length (split_phases o) → r ≡ at o PHASE i → r ≡ 0 →
    phase_meaning GivenPhase.TheVariants.NoPhase ≡ get_or (split_phases o) i NoPhase
unfolding phase_meaning
no_phase {o} z i r l e q = phase_is z i NoPhase l (phase_zero (at o PHASE i) (sym e ∙ q))

pub positive_phase : {o : List ℕ} → SplitSound o → (i r : ℕ) → i < length (split_phases o) → r ≡ at o PHASE i → (r ≡ 0 → ⊥) →
    phase_meaning GivenPhase.TheVariants.Positive ≡ get_or (split_phases o) i NoPhase
unfolding phase_meaning
positive_phase {o} z i r l e q = phase_is z i Positive l (phase_other (at o PHASE i) (λ k. q (e ∙ k)))

pub no_guard : (o : List ℕ) (r : ℕ) → r ≡ at o COUNTS GUARDED → r ≡ 0 → guard_meaning None ≡ split_guard o
unfolding guard_meaning split_guard guard_of
no_guard o r e q = rw (sym e ∙ q)

some_guard : (n l : ℕ) → (n ≡ 0 → ⊥) → guard_of n l ≡ some l
unfolding guard_of
some_guard zero l d = absurd (d refl)
some_guard (suc n) l d = refl

pub a_guard : (o : List ℕ) (r : ℕ) (l : Lit.Lit) → r ≡ at o COUNTS GUARDED → (r ≡ 0 → ⊥) → l.0 ≡ at o COUNTS GUARD →
    guard_meaning (Some l) ≡ split_guard o
unfolding guard_meaning split_guard
a_guard o r l e d k = ap {B = Option ℕ} some k ∙ sym (some_guard (at o COUNTS GUARDED) (at o COUNTS GUARD) (λ q. d (e ∙ q)))

-- ---- writing

-- the words of a lemma
written_words : {o : List ℕ} (x : ℕ) (g : Guard) → answer_size ≤ length o → at o COUNTS ATOMS ≡ 1 → at o ATOM 0 ≡ x →
    at o COUNTS PHASES ≡ 0 → split_guard o ≡ guard_meaning g → LemmaWritten x g o
unfolding split_of split_atoms split_phases counted range
written_words {o} x g l a b p q = record {
  sound = record { long = l; atoms_fit = omega arith; phases_fit = omega arith };
  is = rw (a, b, p, q);
}

-- what stands under a guard, whatever it is
guarded_words : (o u : List ℕ) (x : ℕ) (g : Guard) → answer_size ≤ length o → at o COUNTS ATOMS ≡ 1 → at o ATOM 0 ≡ x →
    at o COUNTS PHASES ≡ 0 → u ≡ guarded o g → LemmaWritten x g u
unfolding guarded split_guard guard_of guard_meaning
guarded_words o u x (Some k) l a b p e =
    let long : answer_size ≤ length u = search (e, stores) in
    let atoms : at u COUNTS ATOMS ≡ 1 = search (e, l, a, stores) in
    let atom : at u ATOM 0 ≡ x = search (e, b, stores) in
    let phases : at u COUNTS PHASES ≡ 0 = search (e, l, p, stores) in
    let is_guarded : at u COUNTS GUARDED ≡ 1 = search (e, l, stores) in
    let literal : at u COUNTS GUARD ≡ k.0 = search (e, l, stores) in
    written_words x (Some k) long atoms atom phases (rw (is_guarded, literal))
guarded_words o u x None l a b p e =
    let long : answer_size ≤ length u = search (e, stores) in
    let atoms : at u COUNTS ATOMS ≡ 1 = search (e, l, a, stores) in
    let atom : at u ATOM 0 ≡ x = search (e, b, stores) in
    let phases : at u COUNTS PHASES ≡ 0 = search (e, l, p, stores) in
    let is_guarded : at u COUNTS GUARDED ≡ 0 = search (e, l, stores) in
    written_words x None long atoms atom phases (rw is_guarded)

pub written : (o : List ℕ) {o₁ o₂ o₃ u : List ℕ} {x : ℕ} {g : Guard} → answer_size ≤ length o → o₁ ≡ put o COUNTS ATOMS 1 →
    o₂ ≡ put o₁ ATOM 0 x → o₃ ≡ put o₂ COUNTS PHASES 0 → u ≡ guarded o₃ g → LemmaWritten x g u
written o {o₁} {o₂} {o₃} {u} {x} {g} l e₁ e₂ e₃ e =
    let long : answer_size ≤ length o₃ = search (e₃, e₂, e₁, stores) in
    let atoms : at o₃ COUNTS ATOMS ≡ 1 = search (e₃, e₂, e₁, stores) in
    let atom : at o₃ ATOM 0 ≡ x = search (e₃, e₂, e₁, stores) in
    let phases : at o₃ COUNTS PHASES ≡ 0 = search (e₃, e₂, e₁, stores) in
    guarded_words o₃ u x g long atoms atom phases e

pub split_cleared : (o : List ℕ) {o₁ o₂ u : List ℕ} → answer_size ≤ length o → o₁ ≡ put o COUNTS ATOMS 0 →
    o₂ ≡ put o₁ COUNTS GUARDED 0 → u ≡ put o₂ COUNTS PHASES 0 → SplitCleared u
unfolding split_atoms split_guard guard_of split_phases counted range
split_cleared o {o₁} {o₂} {u} l e₁ e₂ e₃ =
    let long : answer_size ≤ length u = search (e₃, e₂, e₁, stores) in
    let atoms : at u COUNTS ATOMS ≡ 0 = search (e₃, e₂, e₁, stores) in
    let unguarded : at u COUNTS GUARDED ≡ 0 = search (e₃, e₂, e₁, stores) in
    let phases : at u COUNTS PHASES ≡ 0 = search (e₃, e₂, e₁, stores) in
    record {
      sound = record { long = long; atoms_fit = omega arith; phases_fit = omega arith };
      atoms = rw atoms;
      guard = rw unguarded;
      phases = rw phases;
    }

-- ---- one more tester

pub room_left : {o : List ℕ} → TesterRoom o → (at o COUNTS ATOMS < max_symbols) × (at o COUNTS PHASES < max_symbols)
room_left z =
    let a = atoms_counted z.sound _ refl in
    let p = phases_counted z.sound _ refl in
    let l = z.atoms in
    let m = z.phases in
    (omega arith, omega arith)

-- how many phases there were, after the atom was stored
phases_before : (o : List ℕ) (x : ℕ) {o₁ o₂ : List ℕ} {n m : ℕ} → TesterRoom o → n ≡ at o COUNTS ATOMS → o₁ ≡ put o ATOM n x →
    o₂ ≡ put o₁ COUNTS ATOMS (n + 1) → m ≡ at o₂ COUNTS PHASES → m ≡ at o COUNTS PHASES
phases_before o x {o₁} {o₂} {n} {m} z c e₁ e₂ k =
    let a = (room_left z).0 in
    let long = z.sound.long in
    let within : n < max_symbols = omega arith in
    let same : at o₂ COUNTS PHASES ≡ at o COUNTS PHASES = search (e₂, e₁, within, long, stores) in
    k ∙ same

-- so there is room for one more
pub phase_room : (o : List ℕ) (x : ℕ) {o₁ o₂ : List ℕ} {n m : ℕ} → TesterRoom o → n ≡ at o COUNTS ATOMS → o₁ ≡ put o ATOM n x →
    o₂ ≡ put o₁ COUNTS ATOMS (n + 1) → m ≡ at o₂ COUNTS PHASES → (m < max_symbols) × (answer_size ≤ length o₂)
phase_room o x {o₁} {o₂} {n} {m} z c e₁ e₂ k =
    let b = (room_left z).1 in
    let same = phases_before o x z c e₁ e₂ k in
    let long = z.sound.long in
    (omega arith, search (e₂, e₁, long, stores))

pub tester_pushed : (o : List ℕ) (word : ℕ) {o₁ o₂ o₃ u : List ℕ} {x n m : ℕ} {p : Phase} → TesterRoom o → phase_of word ≡ p →
    n ≡ at o COUNTS ATOMS → o₁ ≡ put o ATOM n x → o₂ ≡ put o₁ COUNTS ATOMS (n + 1) → m ≡ at o₂ COUNTS PHASES →
    o₃ ≡ put o₂ PHASE m word → u ≡ put o₃ COUNTS PHASES (m + 1) → TesterPushed o x p u
unfolding split_atoms split_guard split_phases
tester_pushed o word {o₁} {o₂} {o₃} {u} {x} {n} {m} {p} z w c e₁ e₂ k e₃ e₄ =
    let (a, b) = room_left z in
    let long = z.sound.long in
    let k' = phases_before o x z c e₁ e₂ k in
    let n_fits : n < max_symbols = omega arith in
    let m_fits : m < max_symbols = omega arith in
    let long_u : answer_size ≤ length u = search (e₄, e₃, e₂, e₁, long, stores) in
    let atoms_u : at u COUNTS ATOMS ≡ n + 1 = search (e₄, e₃, e₂, e₁, m_fits, long, stores) in
    let phases_u : at u COUNTS PHASES ≡ m + 1 = search (e₄, e₃, e₂, e₁, long, stores) in
    let guarded_u : at u COUNTS GUARDED ≡ at o COUNTS GUARDED = search (e₄, e₃, e₂, e₁, n_fits, m_fits, long, stores) in
    let literal_u : at u COUNTS GUARD ≡ at o COUNTS GUARD = search (e₄, e₃, e₂, e₁, n_fits, m_fits, long, stores) in
    let atom_u : at u ATOM n ≡ x = search (e₄, e₃, e₂, e₁, n_fits, m_fits, long, stores) in
    let phase_u : at u PHASE m ≡ word = search (e₄, e₃, e₂, e₁, m_fits, long, stores) in
    record {
      sound = record { long = long_u; atoms_fit = omega arith; phases_fit = omega arith };
      atoms =
          counted_grown (at o ATOM) (at u ATOM) (at o COUNTS ATOMS) (at u COUNTS ATOMS) x (omega arith)
          (λ i h. old_atom i (omega arith) n_fits m_fits) (rw (sym c) atom_u);
      guard = rw (guarded_u, literal_u);
      phases =
          counted_grown (λ i. phase_of (at o PHASE i)) (λ i. phase_of (at u PHASE i)) (at o COUNTS PHASES) (at u COUNTS PHASES) p
          (omega arith)
          (λ i h. ap phase_of (old_phase i (omega arith) n_fits m_fits)) (rw (sym k', phase_u) w);
    }
  where
    old_atom : (i : ℕ) → i < n → n < max_symbols → m < max_symbols → at u ATOM i ≡ at o ATOM i
    old_atom i l nf mf =
        let f : i < max_symbols = omega arith in
        let e : at u ATOM i ≡ at o₁ ATOM i = search (e₄, e₃, e₂, mf, f, stores) in
        e ∙ rw e₁ (earlier o ATOM n i x l)

    old_phase : (i : ℕ) → i < m → n < max_symbols → m < max_symbols → at u PHASE i ≡ at o PHASE i
    old_phase i l nf mf =
        let f : i < max_symbols = omega arith in
        let e : at u PHASE i ≡ at o₃ PHASE i = search (e₄, f, stores) in
        let e' : at o₂ PHASE i ≡ at o PHASE i = search (e₂, e₁, nf, f, stores) in
        e ∙ rw e₃ (earlier o₂ PHASE m i word l) ∙ e'
