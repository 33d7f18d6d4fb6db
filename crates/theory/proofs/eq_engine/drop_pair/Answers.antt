-- The head of its bucket is what it was before it.
use Rattle.shinri_core.proofs.Kit.{ap, ap₂, ◌∙◌, ℕ, ◌/◌, rules}
use Rattle.shinri_core.specs.Limits.{max_terms}
use Rattle.theory.specs.Memory.Table.{pair_bucket}
use Rattle.theory.proofs.Memory.PairIndex.{last_in, dropped}
use Rattle.theory.proofs.eq_engine.drop_pair.Goals as goal

pub pair_at-requires : goal.pair_at-requires
pair_at-requires c = search (last_in, rules)

pub returns : goal.returns
returns c =
    dropped c.requires
    (c.pair_bucket-h.ensures.0 ∙ ap₂ pair_bucket c.pair_at.ensures.left c.pair_at.ensures.right)
    (ap (λ (w : ℕ). w / max_terms) c.get_at-older.ensures.0) c.put_at.ensures c.put_at-2.ensures
