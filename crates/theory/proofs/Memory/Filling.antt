-- Words of a table that were cleared.
use Rattle.shinri_core.proofs.Kit.{ℕ, ◌+◌, ◌≤◌, ◌<◌, ◌≡◌, sym, ap, ◌∙◌, add-zero, List, inl, arith, length, get_or, replicate}
use lib.ListN.{length-replicate}
use Rattle.shinri_core.specs.Memory.Words.{at, put_all}
use Rattle.shinri_core.proofs.Lists.{getD_sets_in, getD_sets_out, zeros}
use Rattle.shinri_core.proofs.Memory.Stores.{length_put_all}

-- the n words from b on are 0, and the table is as long as it was, with the same words before
pub record Filled (t u : List ℕ) (b n : ℕ) : Type 0 where
  pub long : length u ≡ length t
  pub before : (c x : ℕ) → c + x < b → at u c x ≡ at t c x
  pub own : (x : ℕ) → x < n → at u b x ≡ 0

pub filled : {t u : List ℕ} (b n : ℕ) → b + n ≤ length t → u ≡ put_all t b 0 (replicate n 0) → Filled t u b n
unfolding at put_all
filled {t} {u} b n h e =
    let z : List ℕ = replicate n 0 in
    let m = length-replicate {A = ℕ} n 0 in
    let a = add-zero b in
    record {
      long = ap length e ∙ length_put_all t b 0 z;
      before = λ c x l. ap (λ (w : List ℕ). get_or w (c + x) 0) e ∙ getD_sets_out t (b + 0) z (c + x) 0 (inl (omega arith));
      own = λ x l. ap (λ (w : List ℕ). get_or w (b + x) 0) e ∙ ap (λ (j : ℕ). get_or (put_all t b 0 z) (j + x) 0) (sym a) ∙ getD_sets_in t (b + 0) z x 0 (omega arith) (omega arith) ∙ zeros n x;
    }
