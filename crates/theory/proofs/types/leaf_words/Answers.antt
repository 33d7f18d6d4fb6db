-- Each case is its record.
use Rattle.shinri_core.proofs.Kit.{ℕ, suc, ◌+◌, ◌≡◌, ap, ◌∙◌, arith, rules}
use Rattle.theory.specs.Memory.Answer.{leaf_of, leaf_meaning}
use Rattle.theory.proofs.types.leaf_words.Goals as goal

pub returns-in-Asserted : goal.returns-in-Asserted
unfolding leaf_of leaf_meaning
returns-in-Asserted c = record { fits = search rules; is = ap leaf_meaning c.in-Asserted.is }

pub returns-in-Interface : goal.returns-in-Interface
unfolding leaf_of leaf_meaning
returns-in-Interface c =
    let j = c.in-Interface.j in
    let n : suc j.theory ≡ 1 + j.theory = omega arith in
    record { fits = search rules; is = ap leaf_meaning c.in-Interface.is ∙ ap (λ (k : ℕ). leaf_of k j.tag) n }
