-- A part of a table at once: what is asked of each of its words.
use Rattle.shinri_core.proofs.Kit.{ℕ, ◌+◌, ◌≤◌, ◌<◌, ◌≡◌, sym, ap, ◌∙◌, Bool, true, false, true≢false, List, arith, length, get_or, take, drop, get_or-take, get_or-drop, length-take-le, length-drop}
use Rattle.std.specs.Bool.{MatchBool}
use Rattle.std.specs.List.{AllWithin}
use Rattle.shinri_core.specs.Memory.Words.{at}
use Rattle.solver.specs.Memory.Table.{is_set}
use Rattle.solver.proofs.Memory.Flags.{unset_by}

-- a word of a part
pub part_word : (t : List ℕ) (b n i : ℕ) → i < n → get_or (take n (drop b t)) i 0 ≡ at t b i
unfolding at
part_word t b n i h = get_or-take n (drop b t) i 0 h ∙ get_or-drop b t i 0

-- where a search for a word that is set finds none, none is set
pub none_set : (t : List ℕ) (b n : ℕ) {xs : List ℕ} (r : Bool) (P : Type 0) → xs ≡ take n (drop b t) → b + n ≤ length t →
    MatchBool r P (AllWithin (λ x. x ≡ 0) xs 0 (length xs)) → r ≡ false → (i : ℕ) → i < n → is_set (at t b i) ≡ false
none_set t b n true P e l m q i h = absurd (true≢false q)
none_set t b n {xs} false P e l m q i h =
    let k = ap length e ∙ length-take-le n (drop b t) (let d = length-drop b t in omega arith) in
    unset_by (at t b i)
    (sym (part_word t b n i h) ∙ sym (ap (λ (ys : List ℕ). get_or ys i 0) e) ∙ m i 0 (omega arith) (omega arith))
