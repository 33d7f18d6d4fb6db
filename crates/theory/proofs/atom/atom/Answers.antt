-- A registered variable has a word that is not 0.
use Rattle.shinri_core.proofs.Kit.{ℕ, ◌-◌, ◌∙◌, ap, arith}
use Rattle.theory.proofs.Memory.RegistryWords.{registered_word, atom_is}
use Rattle.theory.proofs.atom.atom.Goals as goal

pub get_at-requires : goal.get_at-requires
get_at-requires c = let z = c.requires in omega (arith, registered_word _ _ z.0 z.1)

pub overflow_sub-result : goal.overflow_sub-result
overflow_sub-result c = let z = c.requires in omega (arith, registered_word _ _ z.0 z.1)

pub returns : goal.returns
returns c =
    let z = c.requires in
    let w = registered_word _ _ z.0 z.1 in
    let e = c.get_at.ensures.0 in
    (ap (λ (x : ℕ). x - 1) e ∙ atom_is _ _ z.0 w.0, omega arith)
